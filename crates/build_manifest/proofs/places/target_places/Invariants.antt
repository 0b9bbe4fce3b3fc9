use Rattle.std.proofs.Common.{◌≡◌, ℕ, true, List, take, drop}
use Rattle.std.specs.Prelude.{bytes_eq}
use Rattle.indexmap.specs.IndexMap.{get_by_text}
use Rattle.build_manifest.specs.Distinct.{are_new}
use Rattle.build_manifest.specs.Places.{target_names, target_place}
use Rattle.build_manifest.proofs.places.target_places.Given as goal

abbrev pub invariant-loop-place : goal.invariant-loop-place
invariant-loop-place l = ((q : List ℕ) → get_by_text l.places q ≡ target_place (take l.place l.target-items) q)
    × (true ≡ are_new bytes_eq (get_by_text l.places) (target_names (drop l.place l.target-items)))
