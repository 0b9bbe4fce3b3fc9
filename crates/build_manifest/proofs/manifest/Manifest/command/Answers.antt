use Rattle.std.proofs.Common.{rules, ◌≡◌, Some, slice_get}
use Rattle.build_manifest.specs.declared.draft.Draft.{Draft}
use Rattle.file_info.proofs.Lists.{In-get, In-map}
use Rattle.build_manifest.proofs.manifest.Manifest.command.Goals as goal

pub returns-clause-keeps : goal.returns-clause-keeps
returns-clause-keeps c =
    let here : slice_get c.self.inside.drafts c.args.place ≡ Some c.in_ok-draft.draft.now = search rules in
    c.self.invariant.1.parts.each_command _ (In-map (λ (d : Draft). d.command) _ _ (In-get _ _ _ here))
