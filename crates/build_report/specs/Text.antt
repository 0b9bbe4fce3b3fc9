-- The texts that a run prints.
use Rattle.std.specs.Prelude.{ℕ, ◌+◌, Bool, true, false, if◌then◌else◌, List, [], ◌∷◌, ◌++◌, codes, decimal}
use Rattle.outside.specs.declared.order.Exit.{Exit}
use Rattle.outside.specs.declared.order.Exit.TheVariants.{Code, Killed}
use Rattle.command_line.specs.declared.job.UsageFault.{UsageFault}
use Rattle.command_line.specs.declared.job.UsageFault.TheVariants as usage
use Rattle.build_report.specs.declared.report.Start.{Start}
use Rattle.build_report.specs.declared.report.End.{End}
use Rattle.build_report.specs.declared.report.End.TheVariants as ends
use Rattle.build_report.specs.Escape.{show, line_end}
use Rattle.build_report.specs.ErrorText.{load_text}

-- the line of a start: `[`, its number in decimal, `] `, what is shown of the command, and LF
abbrev pub line_of : ℕ → Start → List ℕ
line_of place start = codes "[" ++ decimal place ++ codes "] " ++ show start.shown ++ line_end

-- the lines of these starts, the first of which has this number
abbrev pub lines_from : ℕ → List Start → List ℕ
lines_from place [] = []
lines_from place (start ∷ more) = line_of place start ++ lines_from (place + 1) more

-- the lines of all starts, in order, numbered from 1
abbrev pub lines_of : List Start → List ℕ
lines_of starts = lines_from 1 starts

-- the line after a build that succeeded: `ok: `, the number of its starts in decimal, ` started` and LF
abbrev pub summary_text : ℕ → List ℕ
summary_text starts = codes "ok: " ++ decimal starts ++ codes " started" ++ line_end

-- how a program ended that failed: ` ended with status S`, or ` was killed`
abbrev pub ending_text : Exit → List ℕ
ending_text (Code status) = codes " ended with status " ++ decimal status
ending_text Killed = codes " was killed"

-- what a command needs though it or a later one makes it
abbrev pub later_text : List ℕ → List ℕ → List ℕ
later_text command node = codes "command " ++ show command ++ codes " needs " ++ show node ++ codes ", which a later command makes"

-- two options that may not stand together
abbrev pub exclusive_text : List ℕ → List ℕ → List ℕ
exclusive_text first second = show first ++ codes " excludes " ++ show second

-- why words are refused. Want of memory is an end of its own, and never stands here.
abbrev pub fault_text : UsageFault → List ℕ
fault_text usage.NoCommand = codes "no such command"
fault_text usage.Words = codes "the words are refused"
fault_text (usage.BadNumber option) = codes "bad number for " ++ show option
fault_text (usage.BadPath option) = codes "bad path for " ++ show option
fault_text (usage.Exclusive first second) = exclusive_text first second
fault_text usage.NotBuilt = codes "not built yet"
fault_text usage.NoMemory = codes "out of memory"

-- the same, after a word that says what it is about
abbrev pub usage_text : UsageFault → List ℕ
usage_text fault = codes "usage: " ++ fault_text fault

-- nothing is said of the end: it is success, or standard output failed
abbrev pub is_silent : {F : Type 0} → End F → Bool
is_silent ends.Ok = true
is_silent (ends.CommandFailed command exit) = false
is_silent (ends.MissingInput asker node) = false
is_silent (ends.LaterMaker command node) = false
is_silent (ends.Usage fault) = false
is_silent (ends.NoFile path) = false
is_silent (ends.Manifest error) = false
is_silent (ends.UnknownTarget name) = false
is_silent ends.NoDefault = false
is_silent (ends.NotBuilt asker) = false
is_silent ends.DiskFault = false
is_silent (ends.HostFault command fault) = false
is_silent ends.SinkFault = true
is_silent ends.NoMemory = false

-- what is said of an end, by cases
abbrev pub end_text : {F : Type 0} → End F → List ℕ
end_text ends.Ok = []
end_text (ends.CommandFailed command exit) = codes "command " ++ show command ++ ending_text exit
end_text (ends.MissingInput asker node) = show asker ++ codes " needs " ++ show node ++ codes ", which is missing"
end_text (ends.LaterMaker command node) = later_text command node
end_text (ends.Usage fault) = usage_text fault
end_text (ends.NoFile path) = codes "no file " ++ show path
end_text (ends.Manifest error) = codes "manifest: " ++ load_text error
end_text (ends.UnknownTarget name) = codes "unknown target " ++ show name
end_text ends.NoDefault = codes "no default target"
end_text (ends.NotBuilt asker) = show asker ++ codes " uses what is not built yet"
end_text ends.DiskFault = codes "the disk failed"
end_text (ends.HostFault command fault) = codes "command " ++ show command ++ codes " could not be run"
end_text ends.SinkFault = []
end_text ends.NoMemory = codes "out of memory"

-- what is printed of an end on standard error: one line that begins with `error: `, or nothing
abbrev pub failure_text : {F : Type 0} → End F → List ℕ
failure_text end = if is_silent end then [] else codes "error: " ++ end_text end ++ line_end
