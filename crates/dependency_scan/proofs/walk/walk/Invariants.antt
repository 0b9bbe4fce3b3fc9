use Rattle.build_keys.specs.Keys.{Each, HasPatterns}
use Rattle.dependency_scan.specs.Ring.{AreDistinct, IsPathTo, Reaches}
use Rattle.dependency_scan.proofs.RingLemmas.{unseen}
use Rattle.dependency_scan.proofs.walk.walk.Given as goal

abbrev pub invariant-steps : goal.invariant-steps
invariant-steps l = record {
  path : IsPathTo l.waits l.path.keys l.key;
  distinct : AreDistinct l.path.keys;
  reached : Each (Reaches l.waits l.fn.from) l.path.keys;
  at : Reaches l.waits l.fn.from l.key;
  patterns : Each HasPatterns l.path.keys;
}

abbrev pub decreases-steps : goal.decreases-steps
decreases-steps l = unseen l.waits l.path.keys
