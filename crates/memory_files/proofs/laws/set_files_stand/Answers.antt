use Rattle.memory_files.proofs.StepLemmas.{set-stands}
use Rattle.memory_files.proofs.laws.set_files_stand.Goals as goal

pub returns : goal.returns
returns c = set-stands
