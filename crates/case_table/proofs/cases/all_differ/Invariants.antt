use Rattle.std.proofs.Common.{◌≡◌, length}
use Rattle.case_table.specs.Table.{are_distinct}
use Rattle.case_table.proofs.cases.all_differ.Given as goal

abbrev pub invariant-loop-rest : goal.invariant-loop-rest
invariant-loop-rest l = are_distinct l.rows ≡ are_distinct l.rest

abbrev pub decreases-loop-rest : goal.decreases-loop-rest
decreases-loop-rest l = length l.rest
