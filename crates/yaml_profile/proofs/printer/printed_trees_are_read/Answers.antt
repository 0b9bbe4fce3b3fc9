use Rattle.yaml_profile.proofs.PrintedDocumentLemmas.{spelling_read}
use Rattle.yaml_profile.proofs.printer.printed_trees_are_read.Goals as goal

pub returns : goal.returns
returns c = spelling_read
