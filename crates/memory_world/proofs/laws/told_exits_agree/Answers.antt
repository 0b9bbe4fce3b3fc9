use Rattle.memory_world.proofs.ExitLemmas.{exit-told}
use Rattle.memory_world.proofs.laws.told_exits_agree.Goals as goal

pub returns : goal.returns
returns c = exit-told
