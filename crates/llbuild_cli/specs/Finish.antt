-- How the end of a run is reported.
use Rattle.std.specs.Prelude.{Result, Ok, Err}
use Rattle.outside.specs.declared.world.NoFault.{NoFault}
use Rattle.build_report.specs.declared.report.End.{End}
use Rattle.build_report.specs.declared.report.End.TheVariants as ends
use Rattle.build_report.specs.declared.report.Report.{Report}

-- the end that a result stands for
abbrev pub end_in : Result (Unit {0}) (End NoFault) → End NoFault
end_in (Ok done) = ends.Ok
end_in (Err end) = end

-- the report of a run whose failure could not be told for want of memory
abbrev pub without_memory : Report NoFault → Report NoFault
without_memory report = record report { end = ends.NoMemory }
