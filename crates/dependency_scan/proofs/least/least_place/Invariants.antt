use Rattle.dependency_scan.specs.Ring.{IsLeastPlace}
use Rattle.dependency_scan.proofs.least.least_place.Given as goal

abbrev pub invariant-loop-place : goal.invariant-loop-place
invariant-loop-place l = IsLeastPlace l.items l.place l.best
