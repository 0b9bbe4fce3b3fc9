use Rattle.std.proofs.Common.{◌∙◌, ◌<◌, length, IfSome}
use Rattle.std.specs.Prelude.{bytes_eq}
use Rattle.build_manifest.specs.declared.command.Command.{Command}
use Rattle.build_manifest.specs.Rules.{commands_of}
use Rattle.build_manifest.proofs.StepLemmas.{position_within}
use Rattle.build_manifest.proofs.manifest.Manifest.command_named.Goals as goal

pub returns-clause-within : goal.returns-clause-within
returns-clause-within c =
    let within : IfSome c.copied.result (λ place. place < length (commands_of c.self.inside.drafts))
    = position_within (λ (k : Command). bytes_eq c.args.name.now k.name) (commands_of c.self.inside.drafts) c.copied.result
    (c.copied.ensures ∙ c.get.ensures.value ∙ c.self.invariant.0.commands_placed c.args.name.now) in
    rw (← c.self.view_is) within
