use Rattle.std.proofs.Common.{◌≡◌, ℕ, ◌&&◌, ◌||◌, List, take}
use Rattle.std.specs.List.{list_any}
use Rattle.build_manifest.specs.declared.command.TargetEntry.{TargetEntry}
use Rattle.build_manifest.specs.Has.{has}
use Rattle.build_manifest.specs.Places.{reads_path}
use Rattle.build_manifest.proofs.hits.hit_targets.Given as goal

abbrev pub invariant-loop-target : goal.invariant-loop-target
invariant-loop-target l = (q : List ℕ) → has l.hits q ≡ (has l.initial.hits q || (has l.wanted q && list_any (λ (t : TargetEntry). reads_path q t.nodes) (take l.target-index l.target-items)))
