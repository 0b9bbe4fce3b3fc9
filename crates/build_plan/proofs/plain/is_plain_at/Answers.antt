use Rattle.std.proofs.Common.{◌≡◌, subst, sym, ap, ◌∙◌}
use Rattle.std.specs.Prelude.{◌↔◌, IsTrue, Some}
use Rattle.std.specs.Option.{option_copied}
use Rattle.build_manifest.specs.declared.command.Command.{Command}
use Rattle.build_plan.specs.Built.{IsPlain}
use Rattle.build_plan.proofs.PlainLemmas.{plain_test}
use Rattle.build_plan.proofs.plain.is_plain_at.Goals as goal

pub returns : goal.returns
returns c d at =
    let command = c.unwrap.result.now in
    let there : Some command ≡ Some d = sym (ap option_copied c.unwrap.ensures) ∙ c.command.ensures.value ∙ at in
    let same : command ≡ d = cc there in
    subst (λ (z : Command). IsTrue c.is_plain.result ↔ IsPlain z) same (plain_test command c.is_plain.result c.is_plain.ensures)
