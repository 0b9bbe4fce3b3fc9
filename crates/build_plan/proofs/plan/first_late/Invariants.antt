use Rattle.build_plan.specs.Unbuilt.{AreNoneLate}
use Rattle.build_plan.proofs.plan.first_late.Given as goal

abbrev pub invariant-loop-place : goal.invariant-loop-place
invariant-loop-place l = AreNoneLate l.manifest.commands l.marks l.place
