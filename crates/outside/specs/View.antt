-- What is seen of a disk, a world or a sink, what it tells, and how faults are counted.
use Rattle.std.specs.Prelude.{◌≡◌, ◌≤◌, ◌+◌, ◌-◌, ◌^◌, ◌++◌, ℕ, List, min, Bool, true, false, Result, IsErrOf, Option, Some, None}
use Rattle.file_info.specs.Content.{FileVersion, text_at}
use Rattle.file_info.specs.Lists.{In}
use Rattle.file_info.specs.declared.info.Info.{Info}
use Rattle.file_info.specs.declared.info.Info.TheVariants.{Missing}
use Rattle.file_info.specs.declared.info.Form.{Form}
use Rattle.outside.specs.declared.order.Order.{Order}
use Rattle.outside.specs.declared.disk.DiskError.{DiskError}
use Rattle.outside.specs.declared.disk.DiskError.TheVariants.{Fault}

-- what is seen of a disk or a world between two calls: what stands at each path and whether that is told, the bytes of each
-- file that it has held at its file information, how often it has failed, which orders are begun, and how many were
pub record DiskView : Type 0 where
  -- what stands at a path in this form, where it is told
  pub at : List ℕ → Form → Info
  -- whether what stands is told
  pub told : Bool
  -- the bytes of each file that it has held, at the information that the file had, where they are told
  pub held : Option (List FileVersion)
  -- how often it has failed: never less, and still at the greatest u64
  pub faults : ℕ
  -- the orders that are begun and have not ended
  pub orders : List Order
  -- how many orders were begun: still at the greatest u64
  pub begins : ℕ

-- the bytes are told, and the map gives them all
abbrev pub Agrees : Option (List FileVersion) → List FileVersion → Type 0
Agrees None m = ⊥
Agrees (Some held) m = (k : FileVersion) → In k held → text_at m k.path k.info ≡ k.text

-- the flag is set
abbrev pub told_if : Bool → Type 0
told_if true = Unit {0}
told_if false = ⊥

-- what stands at each path is told
abbrev pub Told : DiskView → Type 0
Told d = told_if d.told

-- every content that it has held is told, and is the one that this map gives
abbrev pub Tells : DiskView → List FileVersion → Type 0
Tells d m = Agrees d.held m

-- the view of a disk or a world of which only the count of faults, the orders and how many were begun are known
abbrev pub untold : ℕ → List Order → ℕ → DiskView
untold faults orders begins = record { at = λ p f. Missing; told = false; held = None; faults = faults; orders = orders; begins = begins }

-- what is seen of a sink between two calls: all that was written, where it is told, and how often it has failed
pub record SinkView : Type 0 where
  -- all that was written, where it is told
  pub bytes : Option (List ℕ)
  -- how often it has failed
  pub faults : ℕ

-- one more, up to the greatest u64
abbrev pub next_count : ℕ → ℕ
next_count n = min (n + 1) (2 ^ 64 - 1)

-- a count rose, or stands at the greatest u64
abbrev pub Rose : ℕ → ℕ → Type 0
Rose before now = next_count before ≤ now

-- the disk's count of faults rose, or stands at the greatest u64
abbrev pub DiskFailed : DiskView → DiskView → Type 0
DiskFailed old new = Rose old.faults new.faults

-- the sink's count of faults rose, or stands at the greatest u64
abbrev pub SinkFailed : SinkView → SinkView → Type 0
SinkFailed old new = Rose old.faults new.faults

-- what is told at exit was told at entry, for the same map of contents
pub record Keeps (old new : DiskView) : Type 0 where
  pub infos : Told new → Told old
  pub contents : (m : List FileVersion) → Tells new m → Tells old m

-- nothing stands otherwise, no order was begun or ended, and the count of faults did not fall
pub record Stayed (old new : DiskView) : Type 0 where
  pub keeps : Keeps old new
  pub same : Told new → new.at ≡ old.at
  pub later : old.faults ≤ new.faults
  pub orders : new.orders ≡ old.orders
  pub begins : new.begins ≡ old.begins

-- a fault comes only where the count of faults rose, and that count never falls
pub record HasCause {T : Type 0} (old new : DiskView) (result : Result T DiskError) : Type 0 where
  pub later : old.faults ≤ new.faults
  pub rose : IsErrOf result Fault → DiskFailed old new

-- the bytes told at exit are those told at entry and then this piece
abbrev pub Grew : SinkView → SinkView → List ℕ → Type 0
Grew old new piece = (b : List ℕ) → new.bytes ≡ Some b → (a : List ℕ) × (old.bytes ≡ Some a) × (b ≡ a ++ piece)
