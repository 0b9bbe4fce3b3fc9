use Rattle.std.proofs.Common.{◌≡◌, Ok, sym, ap, subst, ◌∙◌}
use Rattle.build_manifest.specs.declared.draft.Draft.{Draft}
use Rattle.manifest_values.specs.Refusal.{Given, ◌>>=◌, fold, Gives}
use Rattle.manifest_reader.specs.Commands.{bare_draft, taken, finished}
use Rattle.manifest_reader.proofs.commands.draft_with.Goals as goal

pub returns : goal.returns
returns c =
    let folded : fold (taken c.args.known.now) (bare_draft c.args.name c.args.tool) c.args.pairs ≡ Ok c.in_ok-draft.draft
    = ap (λ (d : Draft). fold (taken c.args.known.now) d c.args.pairs) (sym c.bare_draft-bare.ensures) ∙ c.in_ok-draft.ensures in
    subst (λ (given : Given Draft). Gives (λ (x : Draft). x) c.finished.result (given >>= finished)) (sym folded) c.finished.ensures
