use Rattle.yaml_profile.proofs.PrintedDocumentLemmas.{spelling_tells}
use Rattle.yaml_profile.proofs.printer.spellings_differ.Goals as goal

pub returns : goal.returns
returns c = spelling_tells
