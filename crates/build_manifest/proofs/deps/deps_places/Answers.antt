use Rattle.std.proofs.Common.{◌&&◌, Bool, [], ap, subst, ◌∙◌}
use Rattle.build_manifest.specs.Has.{has}
use Rattle.build_manifest.specs.Judged.{Judges}
use Rattle.build_manifest.specs.Places.{is_used}
use Rattle.build_manifest.specs.Rules.{commands_of}
use Rattle.build_manifest.proofs.DepsLemmas.{all_deps_alike}
use Rattle.build_manifest.proofs.deps.deps_places.Goals as goal

pub returns-clause-judged : goal.returns-clause-judged
returns-clause-judged c =
    let commands = commands_of c.args.drafts.now in
    subst (Judges c.places_of.result)
    (all_deps_alike (has c.in_ok-hits.hits) (is_used c.args.targets.now commands) [] commands
    (λ q there. c.in_ok-hits.ensures q ∙ ap (λ (b : Bool). b && is_used c.args.targets.now commands q) (c.in_ok-wanted.ensures q ∙ there)))
    c.places_of.ensures.judged
