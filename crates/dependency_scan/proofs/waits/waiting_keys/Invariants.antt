use Rattle.std.proofs.Common.{◌≡◌, take}
use Rattle.dependency_scan.specs.Ring.{waiting}
use Rattle.dependency_scan.proofs.waits.waiting_keys.Given as goal

abbrev pub invariant-loop-wait : goal.invariant-loop-wait
invariant-loop-wait l = l.keys ≡ waiting (take l.wait-index l.wait-items)
