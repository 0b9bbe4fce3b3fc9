use Rattle.case_table.proofs.TableLemmas.{code-each}
use Rattle.case_table.proofs.laws.found_by_its_own.Goals as goal

pub returns : goal.returns
returns c = code-each
