use Rattle.build_keys.proofs.KeyLemmas.{key-reads}
use Rattle.build_keys.proofs.laws.keys_are_read.Goals as goal

pub returns : goal.returns
returns c = key-reads
