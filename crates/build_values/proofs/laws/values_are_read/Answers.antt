use Rattle.build_values.proofs.ValueLemmas.{value-reads}
use Rattle.build_values.proofs.laws.values_are_read.Goals as goal

pub returns : goal.returns
returns c = value-reads
