use Rattle.std.proofs.Common.{ℕ, Vec, Global, ap, sym, ◌∙◌, arith}
use Rattle.build_plan.proofs.ReachLemmas.{adds_next, adds_maker, adds_nothing}
use Rattle.build_plan.proofs.reach.mark_makers.Goals as goal
use Rattle.build_plan.proofs.reach.mark_makers.Goals.{in-Some+in_ok-mark, in_default}

pub loop-input-preserved : goal.loop-input-preserved
loop-input-preserved c = elim c.match-maker.branch [
  | in-Some+in_ok-mark w ↦
      adds_next c.args.manifest.now.commands _ c.loop-input.input-index c.input-item.result _ _ _ _ _ _
      c.loop-input-test.true c.input-item.is c.loop-input.invariant
      (adds_maker c.args.manifest.now.commands c.input-item.result w.in-Some.place c.loop-input.marks c.match-maker.marks
      c.loop-input.waiting.items c.match-maker.waiting.items
      (sym c.maker.ensures.value ∙ w.in-Some.is) (omega (arith, w.in-Some.ensures.within)) (w.marks-is ∙ w.in_ok-mark.ensures.marks)
      (ap (λ (v : Vec ℕ Global). v.items) w.waiting-is ∙ w.in_ok-mark.ensures.waiting))
  | in_default w ↦
      adds_next c.args.manifest.now.commands _ c.loop-input.input-index c.input-item.result _ _ _ _ _ _
      c.loop-input-test.true c.input-item.is c.loop-input.invariant
      (adds_nothing c.args.manifest.now.commands c.input-item.result c.loop-input.marks c.match-maker.marks
      c.loop-input.waiting.items c.match-maker.waiting.items
      (sym c.maker.ensures.value ∙ w.in_default.is) w.marks-is (ap (λ (v : Vec ℕ Global). v.items) w.waiting-is))
]
