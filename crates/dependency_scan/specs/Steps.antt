-- What a step of a scan tells, and how far a scan has come.
use Rattle.std.specs.Prelude.{◌≡◌, ◌+◌, ◌≤◌, ℕ, List, length, take, Option, Some, None}
use Rattle.build_keys.specs.declared.key.Key.{Key}
use Rattle.engine_rules.specs.declared.row.Row.{Row}
use Rattle.engine_rules.specs.declared.row.Settled.{Settled}
use Rattle.engine_rules.specs.Needs.{Meaning}
use Rattle.engine_rules.specs.Scan.{ScanEnd, Waits, Stuck, Changed, Moved, Unchanged, scan}
use Rattle.dependency_scan.specs.declared.scan.ScanStep.{ScanStep}
use Rattle.dependency_scan.specs.declared.scan.ScanStep.TheVariants as steps

-- the end of the scan that a step tells
abbrev pub end_of : ScanStep → ScanEnd
end_of (steps.Wait key) = Waits key.now
end_of steps.Stuck = Stuck
end_of (steps.Changed key) = Changed key.now
end_of (steps.Moved path) = Moved path.now
end_of steps.Unchanged = Unchanged

-- how the scan ends where a dependency comes to this step, and where it is passed and the rest ends so
abbrev pub or_rest : Option ScanStep → ScanEnd → ScanEnd
or_rest None rest = rest
or_rest (Some step) rest = end_of step

-- the first so many dependencies of a result are passed
abbrev pub HasPassed : Meaning → Key → List Settled → Row → ℕ → Type 0
HasPassed m k settled row n = scan m k settled row.built_at (take n row.deps) ≡ Unchanged

-- the dependencies that are passed are all that can be: the next one, if there is one, ends the scan
abbrev pub IsFurthest : Meaning → Key → List Settled → Row → ℕ → Type 0
IsFurthest m k settled row n = HasPassed m k settled row (n + 1) → length row.deps ≤ n
