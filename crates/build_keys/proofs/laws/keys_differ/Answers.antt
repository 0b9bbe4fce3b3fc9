use Rattle.build_keys.proofs.KeyLemmas.{key-once}
use Rattle.build_keys.proofs.laws.keys_differ.Goals as goal

pub returns : goal.returns
returns c = key-once
