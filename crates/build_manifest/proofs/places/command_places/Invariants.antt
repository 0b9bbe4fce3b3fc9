use Rattle.std.proofs.Common.{◌≡◌, ℕ, true, List, take, drop, map}
use Rattle.std.specs.Prelude.{bytes_eq}
use Rattle.indexmap.specs.IndexMap.{get_by_text}
use Rattle.build_manifest.specs.Distinct.{are_new}
use Rattle.build_manifest.specs.declared.draft.Draft.{Draft}
use Rattle.build_manifest.specs.Places.{command_place}
use Rattle.build_manifest.specs.Rules.{commands_of}
use Rattle.build_manifest.proofs.places.command_places.Given as goal

abbrev pub invariant-loop-place : goal.invariant-loop-place
invariant-loop-place l = ((q : List ℕ) → get_by_text l.places q ≡ command_place (commands_of (take l.place l.draft-items)) q)
    × (true ≡ are_new bytes_eq (get_by_text l.places) (map (λ (d : Draft). d.command.name) (drop l.place l.draft-items)))
