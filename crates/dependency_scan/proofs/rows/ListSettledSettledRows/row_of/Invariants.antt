use Rattle.std.proofs.Common.{◌≡◌, ◌≤◌, take, reverse, length}
use Rattle.engine_rules.specs.Known.{row_in}
use Rattle.dependency_scan.proofs.rows.ListSettledSettledRows.row_of.Given as goal

abbrev pub invariant-entries : goal.invariant-entries
invariant-entries l = record {
  within : l.left ≤ length l.entries;
  rest : row_in (reverse (take l.left l.entries)) l.key ≡ row_in (reverse l.entries) l.key;
}

abbrev pub decreases-entries : goal.decreases-entries
decreases-entries l = l.left
