use Rattle.build_plan.specs.Built.{IsPlain}
use Rattle.build_plan.specs.Unbuilt.{AreBefore}
use Rattle.build_plan.proofs.plan.first_other.Given as goal

abbrev pub invariant-loop-place : goal.invariant-loop-place
invariant-loop-place l = AreBefore (λ k. IsPlain) l.manifest.commands l.marks l.place
