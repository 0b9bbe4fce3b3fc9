use Rattle.std.proofs.Common.{◌-◌, length}
use Rattle.dependency_scan.specs.Steps.{HasPassed}
use Rattle.dependency_scan.proofs.scan.Scan.next.Given as goal

abbrev pub invariant-deps : goal.invariant-deps
invariant-deps g l = HasPassed (g.R.Rules.meaning l.rules) l.key (g.S.SettledRows.settled l.settled) l.row l.self-inside.passed

abbrev pub decreases-deps : goal.decreases-deps
decreases-deps g l = length l.row.deps - l.self-inside.passed
