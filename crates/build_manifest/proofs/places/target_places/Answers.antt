use Rattle.std.proofs.Common.{◌≡◌, rules, sym, ap, ◌∙◌}
use Rattle.std.specs.Prelude.{bytes_eq}
use Rattle.indexmap.specs.IndexMap.{get_by_text}
use Rattle.build_manifest.specs.declared.command.TargetEntry.{TargetEntry}
use Rattle.build_manifest.specs.Distinct.{differ}
use Rattle.build_manifest.specs.Places.{target_names}
use Rattle.build_manifest.proofs.NewLemmas.{new_at_first}
use Rattle.build_manifest.proofs.StepLemmas.{position_next}
use Rattle.build_manifest.proofs.WalkLemmas.{names_next, name_noted}
use Rattle.build_manifest.proofs.places.target_places.Goals as goal

pub loop-place-init : goal.loop-place-init
loop-place-init c =
    let same : c.as_slice-target-items.result.now ≡ c.args.targets.now = c.as_slice-target-items.ensures in (
      λ q. search rules,
      sym (ap (λ l. differ bytes_eq (target_names l)) same ∙ c.requires) ∙ new_at_first bytes_eq (get_by_text c.new-places.result) (λ q. search rules) _,
    )

pub loop-place-preserved : goal.loop-place-preserved
loop-place-preserved c =
    let xs = c.as_slice-target-items.result.now in
    let i = c.loop-place.place in
    let x = c.target-item.result in (
      λ q.
          let next = position_next (λ (k : TargetEntry). bytes_eq q k.name) xs i x c.loop-place-test.true c.target-item.is in
          let before = c.loop-place.invariant.0 q in
          let noted = name_noted (λ (k : TargetEntry). k.name) xs i x _ _ _ c.loop-place-test.true c.target-item.is c.text.ensures.value c.loop-place.invariant.1 c.in_ok-note.ensures.noted q in
          cc,
      names_next (λ (k : TargetEntry). k.name) xs i x _ _ _ c.loop-place-test.true c.target-item.is c.text.ensures.value c.loop-place.invariant.1 c.in_ok-note.ensures.noted,
    )
