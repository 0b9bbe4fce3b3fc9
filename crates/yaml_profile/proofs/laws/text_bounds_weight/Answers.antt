use Rattle.yaml_profile.proofs.WeightTreeLemmas.{read_weighs}
use Rattle.yaml_profile.proofs.laws.text_bounds_weight.Goals as goal

pub returns : goal.returns
returns c = read_weighs
