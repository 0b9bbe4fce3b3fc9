use Rattle.build_values.proofs.ValueLemmas.{value-no-prefix}
use Rattle.build_values.proofs.laws.no_value_is_a_prefix.Goals as goal

pub returns : goal.returns
returns c = value-no-prefix
