use Rattle.yaml_profile.proofs.SpellsDocumentLemmas.{read_spells}
use Rattle.yaml_profile.proofs.laws.text_spells_its_tree.Goals as goal

pub returns : goal.returns
returns c = read_spells
