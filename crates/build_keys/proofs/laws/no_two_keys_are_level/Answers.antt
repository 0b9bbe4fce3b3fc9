use Rattle.build_keys.proofs.OrderLemmas.{key_cmp-Equal}
use Rattle.build_keys.proofs.laws.no_two_keys_are_level.Goals as goal

pub returns : goal.returns
returns c = key_cmp-Equal
