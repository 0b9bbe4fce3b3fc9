use Rattle.build_values.proofs.ValueLemmas.{value-once}
use Rattle.build_values.proofs.laws.values_differ.Goals as goal

pub returns : goal.returns
returns c = value-once
