-- What holds between two commands of a serial build.
use Rattle.std.specs.Prelude.{◌≡◌, ◌<◌, ℕ, Bool, true, List, drop, slice_get, Some}
use Rattle.file_info.specs.Content.{FileVersion, content}
use Rattle.file_info.specs.Lists.{In}
use Rattle.file_info.specs.declared.info.Info.{Info}
use Rattle.outside.specs.View.{DiskView, Tells}
use Rattle.build_manifest.specs.declared.command.Command.{Command}
use Rattle.build_meaning.specs.Fresh.{Does, IsMade, Fresh}
use Rattle.llbuild_cli.specs.Journal.{Journal, Knows}
use Rattle.llbuild_cli.specs.Sight.{sights_of}
use Rattle.llbuild_cli.specs.CommandRun.{SeenStands, IsOutput}

-- the marked commands before the place are done: what was seen stands and is fresh, nothing of it is made by a command
-- at the place or after it, and no source is made
pub record Stands (does : Does) (commands : List Command) (marks : List Bool) (place : ℕ) (world : DiskView) (seen : Journal) : Type 0 where
  pub stand : SeenStands world seen
  pub fresh : (m : List FileVersion) → Tells world m → (p : List ℕ) (i : Info) → Knows seen p i
      → Fresh does m commands (sights_of seen.stats) p (content m p i)
  pub done : (k : ℕ) (c : Command) (p : List ℕ) → k < place → slice_get marks k ≡ Some true → slice_get commands k ≡ Some c
      → IsOutput c p → (i : Info) × Knows seen p i
  pub later : (p : List ℕ) (i : Info) → Knows seen p i → IsMade (drop place commands) p → ⊥
  pub sources : (p : List ℕ) (i : Info) → In (p, i) (sights_of seen.stats) → IsMade commands p → ⊥
