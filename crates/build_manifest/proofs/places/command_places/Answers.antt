use Rattle.std.proofs.Common.{◌≡◌, rules, sym, ap, ◌∙◌}
use Rattle.std.specs.Prelude.{bytes_eq}
use Rattle.indexmap.specs.IndexMap.{get_by_text}
use Rattle.build_manifest.specs.declared.command.Command.{Command}
use Rattle.build_manifest.specs.declared.draft.Draft.{Draft}
use Rattle.build_manifest.specs.Distinct.{differ}
use Rattle.build_manifest.specs.Places.{command_names}
use Rattle.build_manifest.specs.Rules.{commands_of}
use Rattle.build_manifest.proofs.NewLemmas.{new_at_first}
use Rattle.build_manifest.proofs.MakerLemmas.{place_next, draft_names}
use Rattle.build_manifest.proofs.WalkLemmas.{names_next, name_noted}
use Rattle.build_manifest.proofs.places.command_places.Goals as goal

pub loop-place-init : goal.loop-place-init
loop-place-init c =
    let same : c.as_slice-draft-items.result.now ≡ c.args.drafts.now = c.as_slice-draft-items.ensures in (
      λ q. search rules,
      sym (ap (differ bytes_eq) (sym (draft_names c.as_slice-draft-items.result.now)) ∙ ap (λ l. differ bytes_eq (command_names (commands_of l))) same ∙ c.requires) ∙ new_at_first bytes_eq (get_by_text c.new-places.result) (λ q. search rules) _,
    )

pub loop-place-preserved : goal.loop-place-preserved
loop-place-preserved c =
    let xs = c.as_slice-draft-items.result.now in
    let i = c.loop-place.place in
    let x = c.draft-item.result in (
      λ q.
          let next = place_next (λ (k : Command). bytes_eq q k.name) xs i x c.loop-place-test.true c.draft-item.is in
          let before = c.loop-place.invariant.0 q in
          let noted = name_noted (λ (d : Draft). d.command.name) xs i x _ _ _ c.loop-place-test.true c.draft-item.is c.text.ensures.value c.loop-place.invariant.1 c.in_ok-note.ensures.noted q in
          cc,
      names_next (λ (d : Draft). d.command.name) xs i x _ _ _ c.loop-place-test.true c.draft-item.is c.text.ensures.value c.loop-place.invariant.1 c.in_ok-note.ensures.noted,
    )
