use Rattle.std.proofs.Common.{◌≡◌, ℕ, ◌||◌, List, take}
use Rattle.std.specs.Prelude.{bytes_eq}
use Rattle.std.specs.List.{list_any}
use Rattle.build_manifest.specs.Has.{has}
use Rattle.build_manifest.proofs.hits.want.Given as goal

abbrev pub invariant-loop-path : goal.invariant-loop-path
invariant-loop-path l = (q : List ℕ) → has l.wanted q ≡ (has l.initial.wanted q || list_any (bytes_eq q) (take l.path-index l.path-items))
