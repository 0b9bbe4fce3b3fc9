use Rattle.build_keys.proofs.KeyLemmas.{key-no-prefix}
use Rattle.build_keys.proofs.laws.no_key_is_a_prefix.Goals as goal

pub returns : goal.returns
returns c = key-no-prefix
