use Rattle.std.proofs.Common.{◌≡◌}
use Rattle.build_manifest.proofs.MakerLemmas.{maker_next, outputs_next}
use Rattle.build_manifest.proofs.makers.makers_of.Goals as goal

pub loop-place-preserved : goal.loop-place-preserved
loop-place-preserved c =
    let xs = c.as_slice-drafts.result.now in
    let same : xs ≡ c.args.drafts.now = c.as_slice-drafts.ensures in
    let i = c.loop-place.place in
    let x = c.index-drafts-place.result in
    record {
      noted = λ n.
          let next = maker_next xs i x n c.loop-place-test.true c.index-drafts-place.is in
          let before = c.loop-place.invariant.noted n in
          let noted = c.in_ok-add_draft.ensures.noted n in
          cc;
      fault =
          let next = outputs_next xs i x c.loop-place-test.true c.index-drafts-place.is c.in_ok-add_draft.ensures.judged in
          let before = c.loop-place.invariant.fault in
          cc;
    }
