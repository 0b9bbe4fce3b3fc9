use Rattle.file_info.proofs.FolderLemmas.{under-under}
use Rattle.file_info.proofs.laws.under_is_transitive.Goals as goal

pub returns : goal.returns
returns c = under-under
