-- What looking at paths adds to what was noted.
use Rattle.std.specs.Prelude.{◌≡◌, ◌⊎◌, ℕ, List}
use Rattle.file_info.specs.Lists.{In}
use Rattle.file_info.specs.declared.info.Info.{Info}
use Rattle.file_info.specs.declared.info.Form.TheVariants.{Follow}
use Rattle.outside.specs.View.{Told, DiskView}
use Rattle.llbuild_cli.specs.Journal.{Journal, IsUnknown}
use Rattle.llbuild_cli.specs.Sight.{sights_of}

-- the path was asked for, was unknown, and came in as a source that stood so
pub record IsNew (world : DiskView) (asked : List ℕ → Type 0) (old : Journal) (p : List ℕ) (i : Info) : Type 0 where
  pub was_asked : asked p
  pub unknown : IsUnknown old p
  pub stood : Told world → world.at p Follow ≡ i

-- each source that came in is one of the paths that were asked for, and was unknown
abbrev pub CameFrom : (List ℕ → Type 0) → Journal → Journal → Type 0
CameFrom asked old new = (p : List ℕ) (i : Info) → In (p, i) (sights_of new.stats) → In (p, i) (sights_of old.stats) ⊎ (asked p × IsUnknown old p)

-- some paths were asked for: each source that came in is one of them, and nothing else was noted
pub record Looked (world : DiskView) (asked : List ℕ → Type 0) (old new : Journal) : Type 0 where
  pub starts : new.starts ≡ old.starts
  pub heard : new.heard ≡ old.heard
  pub kept : (s : List ℕ × Info) → In s (sights_of old.stats) → In s (sights_of new.stats)
  pub came : (p : List ℕ) (i : Info) → In (p, i) (sights_of new.stats) → In (p, i) (sights_of old.stats) ⊎ IsNew world asked old p i
