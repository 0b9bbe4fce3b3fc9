use Rattle.std.proofs.Common.{◌∙◌, ◌<◌, length, ap, IfSome}
use Rattle.std.specs.Prelude.{bytes_eq}
use Rattle.std.specs.List.{list_any}
use Rattle.indexmap.specs.IndexMap.{get_by_text}
use Rattle.build_manifest.specs.declared.command.Command.{Command}
use Rattle.build_manifest.specs.Rules.{commands_of}
use Rattle.build_manifest.proofs.StepLemmas.{position_within}
use Rattle.build_manifest.proofs.manifest.Manifest.deps_owner.Goals as goal

pub returns-clause-within : goal.returns-clause-within
returns-clause-within c =
    let within : IfSome c.copied.result (λ place. place < length (commands_of c.self.inside.drafts))
    = position_within (λ (k : Command). list_any (bytes_eq c.args.path.now) k.deps) (commands_of c.self.inside.drafts) c.copied.result
    (c.copied.ensures ∙ c.get.ensures.value ∙ ap (get_by_text c.self.inside.deps_places) c.text.ensures.value ∙ c.self.invariant.0.deps_placed c.args.path.now) in
    rw (← c.self.view_is) within
