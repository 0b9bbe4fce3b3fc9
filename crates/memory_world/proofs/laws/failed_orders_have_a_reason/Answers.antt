use Rattle.memory_world.proofs.ExitLemmas.{why-failed}
use Rattle.memory_world.proofs.laws.failed_orders_have_a_reason.Goals as goal

pub returns : goal.returns
returns c = why-failed
