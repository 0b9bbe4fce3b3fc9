use Rattle.std.proofs.Common.{◌≡◌, List, take, ap, sym, ◌∙◌}
use Rattle.std.specs.Prelude.{bytes_eq}
use Rattle.std.specs.List.{list_any}
use Rattle.std.specs.Option.{is_some}
use Rattle.build_manifest.specs.declared.command.Command.{Command}
use Rattle.build_manifest.specs.declared.draft.Draft.{Draft}
use Rattle.build_manifest.specs.Has.{has}
use Rattle.build_manifest.specs.Places.{all_deps}
use Rattle.build_manifest.specs.Rules.{commands_of}
use Rattle.build_manifest.proofs.DepsLemmas.{deps_placed, each_next}
use Rattle.build_manifest.proofs.MakerLemmas.{place_next}
use Rattle.build_manifest.proofs.deps.places_of.Goals as goal

pub add_deps-requires : goal.add_deps-requires
add_deps-requires c =
    let same : c.as_slice-drafts.result.now ≡ c.args.drafts.now = c.as_slice-drafts.ensures in
    let i = c.loop-place.place in
    record {
      before = λ q.
          ap is_some (c.loop-place.invariant.placed q) ∙ deps_placed q (commands_of (take i c.args.drafts.now))
          ∙ ap (λ (l : List Draft). list_any (bytes_eq q) (all_deps (commands_of (take i l)))) (sym same);
    }

pub loop-place-preserved : goal.loop-place-preserved
loop-place-preserved c =
    let xs = c.as_slice-drafts.result.now in
    let same : xs ≡ c.args.drafts.now = c.as_slice-drafts.ensures in
    let i = c.loop-place.place in
    let x = c.index-drafts-place.result in
    record {
      placed = λ q.
          let next = place_next (λ (k : Command). list_any (bytes_eq q) k.deps) xs i x c.loop-place-test.true c.index-drafts-place.is in
          let before = c.loop-place.invariant.placed q in
          let noted = c.in_ok-add_deps.ensures.placed q in
          cc;
      fault =
          let next = each_next (has c.args.hits.now) xs i x c.loop-place-test.true c.index-drafts-place.is c.in_ok-add_deps.ensures.judged in
          let before = c.loop-place.invariant.fault in
          cc;
    }
