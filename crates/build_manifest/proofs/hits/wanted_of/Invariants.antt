use Rattle.std.proofs.Common.{◌≡◌, ℕ, List, take}
use Rattle.std.specs.Prelude.{bytes_eq}
use Rattle.std.specs.List.{list_any}
use Rattle.build_manifest.specs.Has.{has}
use Rattle.build_manifest.specs.Places.{all_deps}
use Rattle.build_manifest.specs.Rules.{commands_of}
use Rattle.build_manifest.proofs.hits.wanted_of.Given as goal

abbrev pub invariant-loop-place : goal.invariant-loop-place
invariant-loop-place l = (q : List ℕ) → has l.wanted q ≡ list_any (bytes_eq q) (all_deps (commands_of (take l.place l.draft-items)))
