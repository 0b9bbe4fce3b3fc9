use Rattle.yaml_profile.proofs.NameLemmas.{none_named}
use Rattle.yaml_profile.proofs.pairs.Pairs.new.Goals as goal

pub invariant_of-result : goal.invariant_of-result
invariant_of-result c = none_named _ _ c.new-2.ensures.empty c.new.ensures
