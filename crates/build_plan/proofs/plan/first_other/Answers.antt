use Rattle.std.proofs.Common.{arith}
use Rattle.build_plan.specs.Built.{IsPlain}
use Rattle.build_plan.proofs.PlanLemmas.{next_passed, not_marked}
use Rattle.build_plan.proofs.plan.first_other.Goals as goal
use Rattle.build_plan.proofs.plan.first_other.Goals.{else-is_needed-via-then-is_needed+else-not-is_plain_at, else-is_needed-via-else-is_needed}

pub loop-place-preserved : goal.loop-place-preserved
loop-place-preserved c = elim c.else-is_needed.branch [
  | else-is_needed-via-then-is_needed+else-not-is_plain_at w ↦
      next_passed (λ k. IsPlain) c.args.manifest.now.commands c.args.marks.now c.loop-place.place c.loop-place.invariant
      (λ d at e. (w.is_plain_at.ensures d at).0 w.if-not-is_plain_at.false)
  | else-is_needed-via-else-is_needed w ↦
      next_passed (λ k. IsPlain) c.args.manifest.now.commands c.args.marks.now c.loop-place.place c.loop-place.invariant
      (λ d at e. absurd (not_marked c.args.marks.now c.loop-place.place _ c.loop-place-test.true w.if-is_needed.false e))
]

pub returns : goal.returns
returns c k d h at e =
    let last = c.loop-place-test.false in
    c.loop-place.invariant k d (omega arith) at e
