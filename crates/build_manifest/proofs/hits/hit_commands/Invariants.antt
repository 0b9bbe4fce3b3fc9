use Rattle.std.proofs.Common.{◌≡◌, ℕ, ◌&&◌, ◌||◌, List, take}
use Rattle.std.specs.List.{list_any}
use Rattle.build_manifest.specs.Has.{has}
use Rattle.build_manifest.specs.Places.{command_uses}
use Rattle.build_manifest.specs.Rules.{commands_of}
use Rattle.build_manifest.proofs.hits.hit_commands.Given as goal

abbrev pub invariant-loop-draft : goal.invariant-loop-draft
invariant-loop-draft l = (q : List ℕ) → has l.hits q ≡ (has l.initial.hits q || (has l.wanted q && list_any (command_uses q) (commands_of (take l.draft-index l.draft-items))))
