use Rattle.std.proofs.Common.{◌≡◌, drop}
use Rattle.case_table.specs.Table.{code_of}
use Rattle.case_table.proofs.cases.first_code.Given as goal

abbrev pub invariant-loop-row : goal.invariant-loop-row
invariant-loop-row l = code_of l.rows l.group l.name ≡ code_of (drop l.row-index l.rows) l.group l.name
