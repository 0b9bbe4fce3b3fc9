use Rattle.build_keys.proofs.KeyLemmas.{key-alone}
use Rattle.build_keys.proofs.laws.one_spelling_is_one_key.Goals as goal

pub returns : goal.returns
returns c = key-alone
