-- What is seen of the real disk, the real world and the streams: how often they failed, and which orders wait.
use Rattle.std.specs.Prelude.{ℕ, List, [], None}
use Rattle.outside.specs.declared.order.Order.{Order}
use Rattle.outside.specs.View.{DiskView, SinkView, untold}
use Rattle.real_world.specs.declared.std_sink.StdSink.{StdSink}
use Rattle.real_world.specs.declared.disk.RealDisk.{RealDisk}
use Rattle.real_world.specs.declared.world.RealWorld.{RealWorld}

-- how often the stream has failed
abbrev pub sink_faults : {A : Type 0} → StdSink A → ℕ
sink_faults s = s.faults

-- what is seen of the stream: how often it has failed, and nothing of what was written
abbrev pub sink_view : {A : Type 0} → StdSink A → SinkView
sink_view s = record { bytes = None; faults = sink_faults s }

-- how often the disk has failed
abbrev pub disk_faults : {A B C : Type 0} → RealDisk A B C → ℕ
disk_faults d = d.faults

-- what is seen of the disk: how often it has failed, and nothing of what stands
abbrev pub disk_view : {A B C : Type 0} → RealDisk A B C → DiskView
disk_view d = untold (disk_faults d) [] 0

module _ {A B C D E F G : Type 0} where
  -- how often the files or the programs of the world have failed
  abbrev pub world_faults : RealWorld A B C D E F G → ℕ
  world_faults w = disk_faults w.disk

  -- the orders of the world that are begun and have not ended, the oldest first
  abbrev pub waiting_orders : RealWorld A B C D E F G → List Order
  waiting_orders w = w.waiting.items

  -- how many orders were begun in the world
  abbrev pub begun_orders : RealWorld A B C D E F G → ℕ
  begun_orders w = w.begins

  -- what is seen of the world: its count of faults, its orders and how many were begun, and nothing of what stands
  abbrev pub world_view : RealWorld A B C D E F G → DiskView
  world_view w = untold (world_faults w) (waiting_orders w) (begun_orders w)
