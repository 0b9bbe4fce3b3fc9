use Rattle.std.proofs.Common.{◌≡◌, Bool, List, length, sym, ◌∙◌, subst}
use Rattle.build_meaning.specs.Need.{AreMarks}
use Rattle.build_plan.specs.Built.{IsPlain}
use Rattle.build_plan.specs.Unbuilt.{AreBefore, AreNoneLate, IsFirstLate}
use Rattle.build_plan.proofs.PlanLemmas.{all_built, asker_why, command_refused, later_refused, later_why, target_refused}
use Rattle.build_plan.proofs.ReachLemmas.{item_at}
use Rattle.build_plan.proofs.plan.plan.Goals as goal

pub returns-then-not-are_file_inputs-clause-refused : goal.returns-then-not-are_file_inputs-clause-refused
returns-then-not-are_file_inputs-clause-refused c =
    asker_why c.args.manifest.now c.args.target.now c.asker.result c.args.target.now.name c.asker.ensures
    (target_refused c.args.manifest.now c.args.target.now (sym c.are_file_inputs.ensures ∙ c.if-not-are_file_inputs.true))

pub returns-in-Some-clause-refused : goal.returns-in-Some-clause-refused
returns-in-Some-clause-refused c =
    let marks : AreMarks c.args.manifest.now.commands c.args.target.now.nodes c.deref.result.now =
    subst (AreMarks c.args.manifest.now.commands c.args.target.now.nodes) (sym c.deref.ensures.value) c.in_ok-marks.ensures in
    let first = c.in-Some.ensures in
    let (d, at) = item_at c.args.manifest.now.commands c.in-Some.place first.within in
    let files = sym c.are_file_inputs.ensures ∙ c.if-not-are_file_inputs.false in
    asker_why c.args.manifest.now c.args.target.now c.command_asker.result d.name (c.command_asker.ensures d at)
    (command_refused c.args.manifest.now c.args.target.now c.deref.result.now c.in-Some.place d files marks first at)

pub first_late-requires-clause-plain : goal.first_late-requires-clause-plain
first_late-requires-clause-plain c =
    subst (λ (ms : List Bool). AreBefore (λ k. IsPlain) c.args.manifest.now.commands ms (length ms))
    (c.deref.ensures.value ∙ sym c.deref-2.ensures.value) c.in_default.ensures

pub returns-in-Some-first_late-clause-refused : goal.returns-in-Some-first_late-clause-refused
returns-in-Some-first_late-clause-refused c =
    let commands = c.args.manifest.now.commands in
    let marks = c.deref-2.result.now in
    let are : AreMarks commands c.args.target.now.nodes marks =
    subst (AreMarks commands c.args.target.now.nodes) (sym c.deref-2.ensures.value) c.in_ok-marks.ensures in
    let plain : AreBefore (λ k. IsPlain) commands marks (length marks) =
    subst (λ (ms : List Bool). AreBefore (λ k. IsPlain) commands ms (length ms)) (c.deref.ensures.value ∙ sym c.deref-2.ensures.value) c.in_default.ensures in
    let late = c.in-Some-first_late.ensures in
    let files = sym c.are_file_inputs.ensures ∙ c.if-not-are_file_inputs.false in
    let (d, at) = item_at commands c.in-Some-first_late.place late.first.within in
    let (i, there) = item_at d.inputs c.in-Some-first_late.at (late.input d at).within in
    later_why c.args.manifest.now c.args.target.now c.input_later.result d.name i.written (c.input_later.ensures d i at there)
    (later_refused c.args.manifest.now c.args.target.now marks (c.in-Some-first_late.place, c.in-Some-first_late.at) d i files are plain late at there)

pub returns-in-None-clause-built : goal.returns-in-None-clause-built
returns-in-None-clause-built c =
    let commands = c.args.manifest.now.commands in
    let marks = c.deref-2.result.now in
    let are : AreMarks commands c.args.target.now.nodes marks =
    subst (AreMarks commands c.args.target.now.nodes) (sym c.deref-2.ensures.value) c.in_ok-marks.ensures in
    let plain : AreBefore (λ k. IsPlain) commands marks (length marks) =
    subst (λ (ms : List Bool). AreBefore (λ k. IsPlain) commands ms (length ms)) (c.deref.ensures.value ∙ sym c.deref-2.ensures.value) c.in_default.ensures in
    all_built c.args.manifest.now c.args.target.now marks (sym c.are_file_inputs.ensures ∙ c.if-not-are_file_inputs.false) are plain c.in-None.ensures
