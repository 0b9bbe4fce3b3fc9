use Rattle.file_info.proofs.UnderLemmas.{folder}
use Rattle.file_info.proofs.under.after_folder.Goals as goal

pub returns-in-Some : goal.returns-in-Some
returns-in-Some c = folder c.args.path.now c.args.root.now c.in-Some.more.now c.after-in-Some.result c.in-Some.ensures c.after-in-Some.ensures
