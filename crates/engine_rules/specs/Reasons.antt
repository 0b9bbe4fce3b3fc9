-- The true reasons for which a key runs.
use Rattle.std.specs.Prelude.{◌≡◌, ◌⊎◌, ℕ, if◌then◌else◌, List, [], ◌∷◌, Option, Some, None}
use Rattle.file_info.specs.Content.{same_list, same_info}
use Rattle.file_info.specs.declared.info.Info.{Info}
use Rattle.build_keys.specs.declared.key.Key.{Key}
use Rattle.engine_rules.specs.declared.row.Reason.{Reason}
use Rattle.engine_rules.specs.declared.row.Reason.TheVariants.{NeverBuilt, SignatureChanged, LastFailed, Always, Stale, Input, Moved as MovedTo}
use Rattle.engine_rules.specs.declared.row.Row.{Row}
use Rattle.engine_rules.specs.declared.row.Settled.{Settled}
use Rattle.engine_rules.specs.declared.row.Stored.{Stored}
use Rattle.engine_rules.specs.declared.needs.Check.{Check}
use Rattle.engine_rules.specs.declared.known.Known.{Known}
use Rattle.engine_rules.specs.declared.known.PathInfo.{PathInfo}
use Rattle.engine_rules.specs.Needs.{Meaning, is_failed}
use Rattle.engine_rules.specs.Known.{row_of, info_in}
use Rattle.engine_rules.specs.Scan.{ScanEnd, Waits, Stuck, Changed, Moved, Unchanged, scan}

-- what stays the same while an engine goes on: what its rules say, the stored results, the keys that were settled before it began,
-- the keys that are wanted, and the number of the new iteration
pub record Plan : Type 0 where
  pub rules : Meaning
  pub table : List Stored
  pub first : List Settled
  pub wanted : List Key
  pub iteration : ℕ

-- the reason for which a key runs without a look at anything else, if there is one
abbrev pub early : Meaning → Key → Option Row → Option Reason
early m k None = Some NeverBuilt
early m k (Some r) =
    if same_list (m.signature k) r.signature then (if is_failed r.value then Some LastFailed else (if m.always k then Some Always else None))
    else Some SignatureChanged

-- how the checks of a stored result end: at a path that was not told of, at one that has changed, or at the end of the list
pub data CheckEnd : Type 0 where
  Asks : Check → CheckEnd
  Differs : Check → Info → CheckEnd
  Stand : CheckEnd

-- how the checks go on after a path of which this was told, where the rest of them end so
abbrev pub after_check : Check → Option Info → CheckEnd → CheckEnd
after_check c None rest = Asks c
after_check c (Some present) rest = if same_info c.stored present then rest else Differs c present

-- how the checks end
abbrev pub checked : List PathInfo → List Check → CheckEnd
checked infos [] = Stand
checked infos (c ∷ cs) = after_check c (info_in infos c.path) (checked infos cs)

-- the key has this stored result, and no reason to run that is seen at once
pub record IsUsable (p : Plan) (k : Key) (old : Row) : Type 0 where
  pub stored : row_of p.table k ≡ Some old
  pub current : early p.rules k (Some old) ≡ None

-- the stored result is usable, and each path that it rests on still has its file information
pub record IsScanned (p : Plan) (known : Known) (k : Key) (old : Row) : Type 0 where
  pub usable : IsUsable p k old
  pub stands : checked known.told.infos (p.rules.checks k old) ≡ Stand

-- a path that a usable result rests on has changed
pub record IsStale (p : Plan) (known : Known) (k : Key) (reason : Reason) : Type 0 where
  pub old : Row
  pub usable : IsUsable p k old
  pub check : Check
  pub present : Info
  pub differs : checked known.told.infos (p.rules.checks k old) ≡ Differs check present
  pub is : reason ≡ Stale check.path check.stored present

-- the reason that the end of a scan gives, if it gives one
abbrev pub scan_reason : ScanEnd → Option Reason
scan_reason (Waits key) = None
scan_reason Stuck = None
scan_reason (Changed key) = Some (Input key)
scan_reason (Moved path) = Some (MovedTo path)
scan_reason Unchanged = None

-- the scan of a result that else could be kept ends with this reason
pub record IsScanReason (p : Plan) (known : Known) (settled : List Settled) (k : Key) (reason : Reason) : Type 0 where
  pub old : Row
  pub scanned : IsScanned p known k old
  pub is : scan_reason (scan p.rules k settled old.built_at old.deps) ≡ Some reason

-- the reason is the first that holds
abbrev pub IsTrueReason : Plan → Known → List Settled → Key → Reason → Type 0
IsTrueReason p known settled k reason =
    (early p.rules k (row_of p.table k) ≡ Some reason) ⊎ (IsStale p known k reason ⊎ IsScanReason p known settled k reason)
