use Rattle.yaml_profile.proofs.SpellsBackDocumentLemmas.{spelled_read}
use Rattle.yaml_profile.proofs.laws.spelled_tree_is_read.Goals as goal

pub returns : goal.returns
returns c = spelled_read
