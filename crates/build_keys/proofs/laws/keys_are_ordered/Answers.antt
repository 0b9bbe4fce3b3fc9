use Rattle.build_keys.proofs.OrderLemmas.{key_cmp-total}
use Rattle.build_keys.proofs.laws.keys_are_ordered.Goals as goal

pub returns : goal.returns
returns c = key_cmp-total
