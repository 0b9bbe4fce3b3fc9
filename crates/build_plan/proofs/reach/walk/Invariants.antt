use Rattle.std.proofs.Common.{◌+◌, length}
use Rattle.build_plan.specs.Reached.{AreReached, unmarked}
use Rattle.build_plan.proofs.reach.walk.Given as goal

abbrev pub invariant-loop-place : goal.invariant-loop-place
invariant-loop-place l = AreReached l.manifest.commands l.nodes l.marks l.waiting.items

abbrev pub decreases-loop-place : goal.decreases-loop-place
decreases-loop-place l = unmarked l.marks + length l.waiting.items
