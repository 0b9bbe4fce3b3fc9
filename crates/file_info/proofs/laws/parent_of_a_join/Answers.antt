use Rattle.file_info.proofs.ParentLemmas.{parent-join}
use Rattle.file_info.proofs.laws.parent_of_a_join.Goals as goal

pub returns : goal.returns
returns c = parent-join
