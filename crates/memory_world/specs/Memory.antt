-- What is seen of a world in memory.
use Rattle.std.specs.Prelude.{true, Some, ◌==◌, ℕ, Bool, List, [], ◌∷◌, ◌++◌, if◌then◌else◌}
use Rattle.std.specs.List.{list_any}
use Rattle.file_info.specs.declared.info.Info.{Info}
use Rattle.file_info.specs.declared.info.Form.{Form}
use Rattle.outside.specs.declared.order.Order.{Order}
use Rattle.memory_files.specs.declared.write.Write.{Write}
use Rattle.outside.specs.View.{DiskView, Keeps, next_count}
use Rattle.memory_files.specs.Log.{known_of, last_of, info_of}

-- what is seen of a `MemoryWorld`: all writes, the begun orders, how many orders were begun, the numbers of the calls that
-- fail, how many calls there were, and how many of them failed
pub record Memory : Type 0 where
  pub writes : List Write
  pub begun : List Order
  pub begins : ℕ
  pub failing : List ℕ
  pub calls : ℕ
  pub faults : ℕ

-- whether the call of this number fails
abbrev pub is_failing : List ℕ → ℕ → Bool
is_failing failing number = list_any (λ n. n == number) failing

-- the count of faults after the call of this number
abbrev pub faults_after : List ℕ → ℕ → ℕ → ℕ
faults_after failing number faults = if is_failing failing number then next_count faults else faults

-- the world after one call more, which has the next number, and is counted as a fault where it fails
abbrev pub after_call : Memory → Memory
after_call m = record m { calls = next_count m.calls; faults = faults_after m.failing (next_count m.calls) m.faults }

-- whether the next call fails
abbrev pub fails_next : Memory → Bool
fails_next m = is_failing m.failing (next_count m.calls)

-- the world with one order more begun
abbrev pub with_order : Memory → Order → Memory
with_order m order = record m { begun = m.begun ++ order ∷ []; begins = next_count m.begins }

-- the world with these writes made and these orders left
abbrev pub with_left : Memory → List Write → List Order → Memory
with_left m writes orders = record m { writes = writes; begun = orders }

-- the file information of a path, as a disk tells it
abbrev pub stands : Memory → List ℕ → Form → Info
stands m path form = info_of (last_of m.writes path) form

-- the view of a disk with these writes, faults, orders and begins: all is told
abbrev pub seen_of : List Write → ℕ → List Order → ℕ → DiskView
seen_of writes faults orders begins = record {
  at = λ p f. info_of (last_of writes p) f;
  told = true;
  held = Some (known_of writes);
  faults = faults;
  orders = orders;
  begins = begins;
}

-- what is seen of a world in memory as a disk: all is told
abbrev pub view_of : Memory → DiskView
view_of m = seen_of m.writes m.faults m.begun m.begins

-- what is told of the new world was told of the old one
abbrev pub Kept : Memory → Memory → Type 0
Kept old new = Keeps (view_of old) (view_of new)

-- the world with these writes
abbrev pub with_writes : Memory → List Write → Memory
with_writes m ws = record m { writes = ws }
