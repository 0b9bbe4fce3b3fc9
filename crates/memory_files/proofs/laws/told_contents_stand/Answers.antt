use Rattle.memory_files.proofs.LogLemmas.{standing-told}
use Rattle.memory_files.proofs.laws.told_contents_stand.Goals as goal

pub returns : goal.returns
returns c writes m path form t = standing-told writes m t path form
