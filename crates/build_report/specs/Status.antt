-- The status that the process ends with.
use Rattle.std.specs.Prelude.{ℕ}
use Rattle.build_report.specs.declared.report.End.{End}
use Rattle.build_report.specs.declared.report.End.TheVariants.{Ok, CommandFailed, MissingInput, LaterMaker, Usage, NoFile, Manifest, UnknownTarget}
use Rattle.build_report.specs.declared.report.End.TheVariants.{NoDefault, NotBuilt, DiskFault, HostFault, SinkFault, NoMemory}

-- 0 for success; 1 for a command that failed, an input that is missing, and one that a later command makes; 2 for words, a file, a
-- manifest or a target that are refused or not built yet; 3 for a fault of the disk, of a host or of standard output; 5 for want
-- of memory
abbrev pub status_of : {F : Type 0} → End F → ℕ
status_of Ok = 0
status_of (CommandFailed command exit) = 1
status_of (MissingInput asker node) = 1
status_of (LaterMaker command node) = 1
status_of (Usage fault) = 2
status_of (NoFile path) = 2
status_of (Manifest error) = 2
status_of (UnknownTarget name) = 2
status_of NoDefault = 2
status_of (NotBuilt asker) = 2
status_of DiskFault = 3
status_of (HostFault command fault) = 3
status_of SinkFault = 3
status_of NoMemory = 5
