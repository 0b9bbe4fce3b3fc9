use Rattle.build_values.proofs.ValueLemmas.{value-alone}
use Rattle.build_values.proofs.laws.one_spelling_is_one_value.Goals as goal

pub returns : goal.returns
returns c = value-alone
