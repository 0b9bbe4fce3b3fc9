use Rattle.std.proofs.Common.{◌≡◌, ℕ, ◌&&◌, ◌||◌, List, take}
use Rattle.build_manifest.specs.Has.{has}
use Rattle.build_manifest.specs.Places.{reads_path}
use Rattle.build_manifest.proofs.hits.hit_inputs.Given as goal

abbrev pub invariant-loop-input : goal.invariant-loop-input
invariant-loop-input l = (q : List ℕ) → has l.hits q ≡ (has l.initial.hits q || (has l.wanted q && reads_path q (take l.input-index l.input-items)))
