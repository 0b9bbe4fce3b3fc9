use Rattle.std.proofs.Common.{◌-◌, get_or, arith}
use Rattle.std.proofs.lemmas.List.{get_or_default}
use Rattle.indexmap.specs.IndexMap.{get as place_in}
use Rattle.build_keys.specs.SameKey.{is_key}
use Rattle.dependency_scan.proofs.RingLemmas.{told-step}
use Rattle.dependency_scan.proofs.waits.places_of.Goals as goal

pub waits-preserved : goal.waits-preserved
waits-preserved c =
    let within = c.waits.invariant.within in
    let some = c.waits-test.true in
    record {
      within = omega arith;
      told = told-step c.as_slice-items.result.now c.waits.left (c.waits.left - 1)
          (get_or c.as_slice-items.result.now (c.waits.left - 1) c.index-items-left.result) (place_in is_key c.waits.places)
          (place_in is_key c.note.new.places) (omega arith) (omega arith)
          (get_or_default c.as_slice-items.result.now (c.waits.left - 1) c.index-items-left.result _ (omega arith)) c.in_ok-note.ensures c.waits.invariant.told;
    }
