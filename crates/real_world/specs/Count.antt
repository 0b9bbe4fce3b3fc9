-- How faults are counted.
use Rattle.std.specs.Prelude.{ℕ, Result, Ok, Err}
use Rattle.outside.specs.declared.disk.DiskError.{DiskError}
use Rattle.outside.specs.declared.disk.DiskError.TheVariants.{Fault, NotDirectory, NoMemory}
use Rattle.outside.specs.View.{next_count}

-- the count of faults after this answer: a fault raises it, up to the greatest u64, and nothing else does
abbrev pub count_after : {T : Type 0} → Result T DiskError → ℕ → ℕ
count_after (Ok value) count = count
count_after (Err Fault) count = next_count count
count_after (Err NotDirectory) count = count
count_after (Err NoMemory) count = count
