-- The scan of recorded dependencies, one after the other.
use Rattle.std.specs.Prelude.{ℕ, Bool, true, false, ◌||◌, nat_le, if◌then◌else◌, List, [], ◌∷◌, Option, Some, None}
use Rattle.file_info.specs.declared.node.NodeName.TheVariants.{Path, Virtual}
use Rattle.build_keys.specs.declared.key.Key.{Key}
use Rattle.build_keys.specs.declared.key.Key.TheVariants.{Target, Command, Node, Contents, Tree, Structure}
use Rattle.engine_rules.specs.declared.row.Dep.{Dep}
use Rattle.engine_rules.specs.declared.row.DepKind.{DepKind}
use Rattle.engine_rules.specs.declared.row.DepKind.TheVariants.{Asked, Follow, Found}
use Rattle.engine_rules.specs.declared.row.Row.{Row}
use Rattle.engine_rules.specs.declared.row.Settled.{Settled}
use Rattle.engine_rules.specs.Needs.{Meaning, is_failed}
use Rattle.engine_rules.specs.Known.{row_in}

-- how a scan ends: at a key that is not settled, at one that failed, at one that changed, at a found path that is not allowed, or
-- at the end of the list
pub data ScanEnd : Type 0 where
  Waits : Key → ScanEnd
  Stuck : ScanEnd
  Changed : Key → ScanEnd
  Moved : List ℕ → ScanEnd
  Unchanged : ScanEnd

-- the path that a found dependency names, if it names a file
abbrev pub path_in : Key → Option (List ℕ)
path_in (Node (Path path)) = Some path
path_in (Node (Virtual name)) = None
path_in (Target name) = None
path_in (Command name) = None
path_in (Contents path) = None
path_in (Tree path patterns) = None
path_in (Structure path patterns) = None

-- the path, where the command may not find it
abbrev pub unless_allowed : Meaning → Key → Option (List ℕ) → Option (List ℕ)
unless_allowed m k None = None
unless_allowed m k (Some path) = if m.allowed k path then None else Some path

-- the path of a found dependency that the command may not find
abbrev pub moved_path : Meaning → Key → Dep → Option (List ℕ)
moved_path m k d = by_kind d.kind (unless_allowed m k (path_in d.key))
  where
    by_kind : DepKind → Option (List ℕ) → Option (List ℕ)
    by_kind Asked moved = None
    by_kind Follow moved = None
    by_kind Found moved = moved

-- whether the dependency only has to be done
abbrev pub is_follow : DepKind → Bool
is_follow Asked = false
is_follow Follow = true
is_follow Found = false

-- how the scan goes on after a dependency that is settled with this row, where the rest of it ends so
abbrev pub after_row : ℕ → Dep → Row → ScanEnd → ScanEnd
after_row built d r rest =
    if is_failed r.value then Stuck else (if is_follow d.kind || nat_le r.computed_at built then rest else Changed d.key)

-- the same where it may not be settled
abbrev pub after_look : ℕ → Dep → Option Row → ScanEnd → ScanEnd
after_look built d None rest = Waits d.key
after_look built d (Some r) rest = after_row built d r rest

-- the same where its path may not be allowed
abbrev pub after_dep : ℕ → Dep → Option (List ℕ) → Option Row → ScanEnd → ScanEnd
after_dep built d (Some path) row rest = Moved path
after_dep built d None row rest = after_look built d row rest

-- the scan, for a key, of dependencies that were recorded when its result was built
abbrev pub scan : Meaning → Key → List Settled → ℕ → List Dep → ScanEnd
scan m k settled built [] = Unchanged
scan m k settled built (d ∷ ds) = after_dep built d (moved_path m k d) (row_in settled d.key) (scan m k settled built ds)
