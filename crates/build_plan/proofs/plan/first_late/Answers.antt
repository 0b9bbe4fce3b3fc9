use Rattle.std.proofs.Common.{ℕ, subst, sym, arith}
use Rattle.std.specs.Prelude.{MatchOption}
use Rattle.build_manifest.specs.declared.command.Command.{Command}
use Rattle.build_plan.specs.Built.{AreEarlier}
use Rattle.build_plan.specs.Unbuilt.{IsFirstLaterAt}
use Rattle.build_plan.proofs.LaterLemmas.{late_found}
use Rattle.build_plan.proofs.PlanLemmas.{is_marked, next_passed, not_marked}
use Rattle.build_plan.proofs.plan.first_late.Goals as goal

pub loop-place-preserved-then-not-is_needed : goal.loop-place-preserved-then-not-is_needed
loop-place-preserved-then-not-is_needed c =
    next_passed (λ k d. AreEarlier c.args.manifest.now.commands k d.inputs) c.args.manifest.now.commands c.args.marks.now c.loop-place.place c.loop-place.invariant
    (λ d at e. absurd (not_marked c.args.marks.now c.loop-place.place _ c.loop-place-test.true c.if-not-is_needed.true e))

pub later_input-requires-clause-plain : goal.later_input-requires-clause-plain
later_input-requires-clause-plain c d at =
    c.requires.plain c.loop-place.place d c.loop-place-test.true at
    (is_marked c.args.marks.now c.loop-place.place _ c.loop-place-test.true c.if-not-is_needed.false)

pub returns-in-Some : goal.returns-in-Some
returns-in-Some c =
    let commands = c.args.manifest.now.commands in
    let place = c.loop-place.place in
    let count = c.requires.count in
    let here = c.loop-place-test.true in
    late_found commands c.args.marks.now place c.in-Some.at (omega arith)
    (is_marked c.args.marks.now place _ here c.if-not-is_needed.false) c.loop-place.invariant
    (λ d there. subst (λ o. MatchOption o (AreEarlier commands place d.inputs) (λ k. IsFirstLaterAt commands place d.inputs k)) c.in-Some.is (c.later_input.ensures d there))

pub loop-place-preserved : goal.loop-place-preserved
loop-place-preserved c =
    let commands = c.args.manifest.now.commands in
    let place = c.loop-place.place in
    next_passed (λ k d. AreEarlier commands k d.inputs) commands c.args.marks.now place c.loop-place.invariant
    (λ d at e. subst (λ o. MatchOption o (AreEarlier commands place d.inputs) (λ k. IsFirstLaterAt commands place d.inputs k)) c.in_default.is (c.later_input.ensures d at))

pub returns : goal.returns
returns c k d h at e =
    let last = c.loop-place-test.false in
    c.loop-place.invariant k d (omega arith) at e
