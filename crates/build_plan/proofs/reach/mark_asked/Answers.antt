use Rattle.std.proofs.Common.{◌≡◌, sym, ap, ◌∙◌, subst}
use Rattle.std.specs.Prelude.{Some}
use Rattle.std.specs.Option.{option_copied}
use Rattle.build_manifest.specs.declared.command.Command.{Command}
use Rattle.build_plan.specs.Reached.{asked_by, AddsMakers}
use Rattle.build_plan.proofs.ReachLemmas.{adds_both, on_ok}
use Rattle.build_plan.proofs.reach.mark_asked.Goals as goal

pub returns : goal.returns
returns c =
    let cs = c.args.manifest.now.commands in
    let marks = c.mark_makers-2.new.marks in
    let waiting = c.mark_makers-2.new.waiting.items in
    on_ok c.mark_makers-2.result
    (λ both d at.
    let command = c.unwrap-command.result.now in
    let there : Some command ≡ Some d = sym (ap option_copied c.unwrap-command.ensures) ∙ c.command.ensures.value ∙ at in
    let same : command ≡ d = cc there in
    subst (λ (z : Command). AddsMakers cs (asked_by z) c.args.marks.now c.args.waiting.now.items marks waiting) same
    (adds_both cs command.inputs command.follow _ _ _ _ _ _ c.in_ok-mark_makers.ensures both))
    c.mark_makers-2.ensures
