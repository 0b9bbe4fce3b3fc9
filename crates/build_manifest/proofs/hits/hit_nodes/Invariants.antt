use Rattle.std.proofs.Common.{◌≡◌, ℕ, ◌&&◌, ◌||◌, List, take}
use Rattle.std.specs.List.{list_any}
use Rattle.build_manifest.specs.Has.{has}
use Rattle.build_manifest.specs.Places.{is_path}
use Rattle.build_manifest.proofs.hits.hit_nodes.Given as goal

abbrev pub invariant-loop-node : goal.invariant-loop-node
invariant-loop-node l = (q : List ℕ) → has l.hits q ≡ (has l.initial.hits q || (has l.wanted q && list_any (is_path q) (take l.node-index l.node-items)))
