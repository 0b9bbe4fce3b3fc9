use Rattle.std.proofs.Common.{◌≡◌, ◌∙◌, ap, sym, subst}
use Rattle.std.specs.Prelude.{MatchOption, Some}
use Rattle.std.specs.Option.{option_copied}
use Rattle.build_manifest.specs.declared.command.Command.{Command}
use Rattle.build_plan.specs.Built.{AreEarlier}
use Rattle.build_plan.specs.Unbuilt.{IsFirstLaterAt}
use Rattle.build_plan.proofs.later.later_input.Goals as goal

pub first_later-requires-clause-files : goal.first_later-requires-clause-files
first_later-requires-clause-files c =
    (c.requires.plain c.unwrap.result.now (sym c.command.ensures.value ∙ ap option_copied c.unwrap.ensures)).inputs

pub returns : goal.returns
returns c d at =
    let command = c.unwrap.result.now in
    let there : Some command ≡ Some d = sym (ap option_copied c.unwrap.ensures) ∙ c.command.ensures.value ∙ at in
    let same : command ≡ d = cc there in
    let commands = c.args.manifest.now.commands in
    let place = c.args.place in
    subst (λ (z : Command). MatchOption c.first_later.result (AreEarlier commands place z.inputs) (λ k. IsFirstLaterAt commands place z.inputs k)) same
    c.first_later.ensures
