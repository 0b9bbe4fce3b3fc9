use Rattle.file_info.proofs.FolderLemmas.{join-directly_in}
use Rattle.file_info.proofs.laws.joins_are_directly_in.Goals as goal

pub returns : goal.returns
returns c = join-directly_in
