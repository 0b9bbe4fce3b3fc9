-- Why a part of a build stops.
use Rattle.std.specs.Prelude.{◌≡◌, ◌⊎◌, ℕ, List, Result, Ok, Err}
use Rattle.file_info.specs.declared.info.Info.{Info}
use Rattle.file_info.specs.declared.info.Info.TheVariants.{Missing}
use Rattle.outside.specs.View.{Rose}
use Rattle.outside.specs.declared.disk.DiskError.{DiskError}
use Rattle.outside.specs.declared.disk.DiskError.TheVariants as errors
use Rattle.build_manifest.specs.declared.command.Input.{Input}
use Rattle.build_report.specs.declared.report.End.{End}
use Rattle.build_report.specs.declared.report.End.TheVariants as ends
use Rattle.llbuild_cli.specs.declared.stop.Stop.{Stop}
use Rattle.llbuild_cli.specs.declared.stop.Stop.TheVariants.{CommandFailed, MissingInput, DiskFault, SinkFault, NoMemory}
use Rattle.llbuild_cli.specs.Input.{SeenAs, IsFirstMissing, IsUnseen, IsFirstUnseen, WereRead}

-- what an error of a disk stops a build with
abbrev pub stop_of : DiskError → Stop
stop_of errors.Fault = DiskFault
stop_of errors.NotDirectory = DiskFault
stop_of errors.NoMemory = NoMemory

-- how a run ends that is stopped so
abbrev pub end_of : {F : Type 0} → Stop → End F
end_of (CommandFailed command exit) = ends.CommandFailed command exit
end_of (MissingInput asker node) = ends.MissingInput asker node
end_of DiskFault = ends.DiskFault
end_of SinkFault = ends.SinkFault
end_of NoMemory = ends.NoMemory

-- how a build ends, by its result
abbrev pub end_after : {F : Type 0} → Result (Unit {0}) Stop → End F
end_after (Ok done) = ends.Ok
end_after (Err stop) = end_of stop

-- the stop is a fault of the disk, whose count rose, or want of memory
abbrev pub IsDiskStop : ℕ → ℕ → Stop → Type 0
IsDiskStop before now (CommandFailed command exit) = ⊥
IsDiskStop before now (MissingInput asker node) = ⊥
IsDiskStop before now DiskFault = Rose before now
IsDiskStop before now SinkFault = ⊥
IsDiskStop before now NoMemory = Unit {0}

-- the stop is a fault of the sink, whose count rose, or want of memory
abbrev pub IsSinkStop : ℕ → ℕ → Stop → Type 0
IsSinkStop before now (CommandFailed command exit) = ⊥
IsSinkStop before now (MissingInput asker node) = ⊥
IsSinkStop before now DiskFault = ⊥
IsSinkStop before now SinkFault = Rose before now
IsSinkStop before now NoMemory = Unit {0}

-- why looking at an input stops: the disk failed at it, of which nothing was seen; no memory was left; or it is missing
abbrev pub IsReadStop : ℕ → ℕ → List ℕ → (List ℕ → Info → Type 0) → Input → Stop → Type 0
IsReadStop before now asker seen input (CommandFailed command exit) = ⊥
IsReadStop before now asker seen input (MissingInput by node) = (by ≡ asker) × (node ≡ input.written) × SeenAs seen input Missing
IsReadStop before now asker seen input DiskFault = Rose before now × IsUnseen seen input
IsReadStop before now asker seen input SinkFault = ⊥
IsReadStop before now asker seen input NoMemory = Unit {0}

-- why looking at the inputs stops: the disk failed at the first of which nothing was seen; no memory was left; or one of them
-- is missing, and this is the first
abbrev pub IsInputStop : ℕ → ℕ → List ℕ → (List ℕ → Info → Type 0) → List Input → Stop → Type 0
IsInputStop before now asker seen inputs (CommandFailed command exit) = ⊥
IsInputStop before now asker seen inputs (MissingInput by node) = (by ≡ asker) × IsFirstMissing seen inputs node
IsInputStop before now asker seen inputs DiskFault = Rose before now × IsFirstUnseen seen inputs
IsInputStop before now asker seen inputs SinkFault = ⊥
IsInputStop before now asker seen inputs NoMemory = Unit {0}

-- how far the inputs were looked at where a fault stopped what asks for them: a fault of the disk came at the first of which
-- nothing was seen, or when the command was started; before a fault of the sink all were read
abbrev pub AskedBefore : (List ℕ → Info → Type 0) → List Input → Type 0 → Stop → Type 0
AskedBefore seen inputs started (CommandFailed command exit) = Unit {0}
AskedBefore seen inputs started (MissingInput asker node) = Unit {0}
AskedBefore seen inputs started DiskFault = IsFirstUnseen seen inputs ⊎ started
AskedBefore seen inputs started SinkFault = WereRead seen inputs
AskedBefore seen inputs started NoMemory = Unit {0}
