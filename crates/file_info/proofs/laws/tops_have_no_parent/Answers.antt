use Rattle.file_info.proofs.ParentLemmas.{parent-none}
use Rattle.file_info.proofs.laws.tops_have_no_parent.Goals as goal

pub returns : goal.returns
returns c = parent-none
