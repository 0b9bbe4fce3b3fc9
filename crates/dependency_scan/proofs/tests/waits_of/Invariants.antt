use Rattle.build_keys.specs.Keys.{Each, HasPatterns}
use Rattle.dependency_scan.specs.Ring.{waiting}
use Rattle.dependency_scan.proofs.tests.waits_of.Given as goal

abbrev pub invariant-loop-waiting : goal.invariant-loop-waiting
invariant-loop-waiting l = Each HasPatterns (waiting l.waits)
