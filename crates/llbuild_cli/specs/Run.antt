-- What holds of a run.
use Rattle.std.specs.Prelude.{◌≡◌, ◌⊎◌, ◌≤◌, ◌+◌, ◌++◌, ℕ, List, length, map, slice_get, Some, Result, Ok, Err}
use Rattle.file_info.specs.Content.{FileVersion, content, node_text}
use Rattle.file_info.specs.Lists.{In, IsDistinct}
use Rattle.file_info.specs.declared.info.Info.{Info}
use Rattle.file_info.specs.declared.info.Info.TheVariants.{Missing}
use Rattle.file_info.specs.declared.info.Form.TheVariants.{Follow}
use Rattle.outside.specs.View.{DiskView, SinkView, DiskFailed, SinkFailed, Told, Tells, Grew}
use Rattle.outside.specs.declared.order.Exit.{Exit}
use Rattle.outside.specs.declared.order.Order.{Order}
use Rattle.outside.specs.declared.world.NoFault.{NoFault}
use Rattle.build_manifest.specs.declared.command.Command.{Command}
use Rattle.build_manifest.specs.declared.command.Input.{Input}
use Rattle.build_meaning.specs.Fresh.{Does, Fresh}
use Rattle.build_report.specs.declared.report.End.{End}
use Rattle.build_report.specs.declared.report.End.TheVariants as ends
use Rattle.build_report.specs.declared.report.Heard.{Heard}
use Rattle.build_report.specs.declared.report.Outcome.TheVariants.{Failed}
use Rattle.build_report.specs.declared.report.Report.{Report}
use Rattle.build_report.specs.declared.report.Start.{Start}
use Rattle.llbuild_cli.specs.declared.stop.Stop.{Stop}
use Rattle.llbuild_cli.specs.declared.stop.Stop.TheVariants as stops
use Rattle.llbuild_cli.specs.MissingInput.{IsStuck, IsStartOn, IsOrderOn}
use Rattle.llbuild_cli.specs.BuildStop.{IsLastFailed, IsWritten}
use Rattle.llbuild_cli.specs.Outcome.{AllDone, IsGiven, IsLawful}
use Rattle.llbuild_cli.specs.Journal.{Journal}
use Rattle.llbuild_cli.specs.Move.{Moved}
use Rattle.llbuild_cli.specs.Plan.{Gave, Plan}
use Rattle.llbuild_cli.specs.Output.{WrotePart}
use Rattle.llbuild_cli.specs.Input.{WereRead}
use Rattle.llbuild_cli.specs.Sight.{Shows, IsSingle, sights_of}
use Rattle.llbuild_cli.specs.Source.{AreSources}
use Rattle.llbuild_cli.specs.Start.{AreStarts, AllStarted, IsNextStart}
use Rattle.build_report.specs.Text.{lines_of, summary_text}
use Rattle.llbuild_cli.specs.OwnOrder.{IsOwnOrder}

-- the law of commands, what a world answers of orders, and what its disk answers of files
pub record Answers : Type 1 where
  pub does : Does
  pub ended : DiskView → Order → Exit → Type 0
  pub gave : Gave

-- a run: the world and standard output before and after it, and its report
pub record Run : Type 0 where
  pub old : DiskView
  pub new : DiskView
  pub out : SinkView
  pub out_new : SinkView
  pub report : Report NoFault

-- the run of these worlds, these sinks and this report
abbrev pub run_of : DiskView → DiskView → SinkView → SinkView → Report NoFault → Run
run_of old new out out_new report = record { old = old; new = new; out = out; out_new = out_new; report = report }

-- the law and the answers, as one value
abbrev pub answers_of : Does → (DiskView → Order → Exit → Type 0) → Gave → Answers
answers_of does ended gave = record { does = does; ended = ended; gave = gave }

-- the report of a run that ended so, with these lists
abbrev pub report_of : End NoFault → Journal → Report NoFault
report_of end j = record { end = end; starts = j.starts; stats = j.stats; heard = j.heard }

-- the report has this file information of the path, as of a source or of an output
abbrev pub Shown : Report NoFault → List ℕ → Info → Type 0
Shown report p i = Shows report.stats report.heard p i

-- each node of the target has the content that manifest and sources give it, and none is missing
pub record AreFresh (does : Does) (m : List FileVersion) (run : Run) (plan : Plan) : Type 0 where
  pub fresh : (n : Input) → In n plan.target.nodes
      → Fresh does m plan.manifest.commands (sights_of run.report.stats) (node_text n.node)
      (content m (node_text n.node) (run.new.at (node_text n.node) Follow))
  pub there : (n : Input) → In n plan.target.nodes → run.new.at (node_text n.node) Follow ≡ Missing → ⊥

-- the order is that of a command, whose start stands at the place that is the ticket, counted from 1
pub record IsOrderOfStart (commands : List Command) (starts : List Start) (order : Order) : Type 0 where
  pub place : ℕ
  pub ticket : order.ticket ≡ place + 1
  pub start : Start
  pub at : slice_get starts place ≡ Some start
  pub started : start.command ≡ order.command
  pub command : Command
  pub named : In command commands
  pub name : order.command ≡ command.name
  pub is : IsOwnOrder command order

-- the orders that ended are those of starts, none is there twice, and at most one start has none
pub record AreOrdersOf (commands : List Command) (report : Report NoFault) : Type 0 where
  pub each : (h : Heard) → In h report.heard → IsOrderOfStart commands report.starts h.order
  pub once : IsDistinct (map (λ (h : Heard). h.order.ticket) report.heard)
  pub few : length report.starts ≤ length report.heard + 1

-- the order of each start ended
abbrev pub EachEnded : Report NoFault → Type 0
EachEnded report = (k : ℕ) (s : Start) → slice_get report.starts k ≡ Some s → (h : Heard) × (In h report.heard × (h.order.ticket ≡ k + 1))

-- what was heard of the order was given, and where the world tells, what succeeded did what the law says
pub record IsHeard (answers : Answers) (new : DiskView) (heard : Heard) : Type 0 where
  pub given : IsGiven answers.ended new heard
  pub lawful : (m : List FileVersion) → Tells new m → IsLawful answers.does m heard.order heard.outcome

-- each start, and each order that ended, is that of a command whose inputs the report shows: none is missing, and what the
-- order read is what the report shows
pub record WereAsked (commands : List Command) (report : Report NoFault) : Type 0 where
  pub started : (s : Start) → In s report.starts → (c : Command) × (In c commands × IsStartOn (Shown report) c s)
  pub orders : (h : Heard) → In h report.heard → (c : Command) × (In c commands × IsOrderOn (Shown report) c h)

-- what is next, the first needed command that was not started or after them all the target, has this name, and the first of its
-- inputs that is missing is written so
abbrev pub IsStuckAt : Plan → Report NoFault → List ℕ → List ℕ → Type 0
IsStuckAt plan report asker node = IsStuck plan.manifest.commands plan.target (Shown report) report.starts asker node

-- where what is next lacks an input while each order ended and succeeded, the run ends so, or no memory was left
abbrev pub EndsAtMissing : Plan → Report NoFault → Type 0
EndsAtMissing plan report = (asker node : List ℕ) → IsStuckAt plan report asker node → AllDone report.heard → EachEnded report
    → (report.end ≡ ends.MissingInput asker node) ⊎ (report.end ≡ ends.NoMemory)

-- where an order failed, the run ends so, or no memory was left
abbrev pub EndsAtFailed : Report NoFault → Type 0
EndsAtFailed report = (h : Heard) (exit : Exit) → In h report.heard → h.outcome ≡ Failed exit
    → (report.end ≡ ends.CommandFailed h.order.command exit) ⊎ (report.end ≡ ends.NoMemory)

-- why a planned run stopped: at a failed command it is the last whose order ended; a missing node is the first that is missing
-- of what was next; a fault of the disk or the sink raised its count. Want of memory alone has no cause.
abbrev pub IsStop : Run → Plan → Stop → Type 0
IsStop run plan (stops.CommandFailed command exit) = IsLastFailed run.report.heard command exit × EachEnded run.report
IsStop run plan (stops.MissingInput asker node) = IsStuckAt plan run.report asker node × AllDone run.report.heard × EachEnded run.report
IsStop run plan stops.DiskFault = DiskFailed run.old run.new × AllDone run.report.heard
IsStop run plan stops.SinkFault = SinkFailed run.out run.out_new × AllDone run.report.heard × EachEnded run.report
IsStop run plan stops.NoMemory = Unit {0}

-- every command that is needed was started and succeeded, and the target's nodes were seen and are there
pub record IsDoneBy (plan : Plan) (report : Report NoFault) : Type 0 where
  pub started : AllStarted plan.manifest.commands plan.target.nodes report.starts
  pub nodes : WereRead (Shown report) plan.target.nodes
  pub done : AllDone report.heard
  pub ended : EachEnded report

-- why a planned run has this result
abbrev pub IsWhy : Run → Plan → Result (Unit {0}) Stop → Type 0
IsWhy run plan (Ok done) = IsDoneBy plan run.report
IsWhy run plan (Err stop) = IsStop run plan stop

-- the lines of all starts were written, and maybe a part of what is next: of the line of a needed command that was not started,
-- or, where all were, of the summary
abbrev pub WroteSome : Run → Plan → Type 0
WroteSome run plan = WrotePart (IsNextStart plan.manifest.commands plan.target.nodes run.report.starts)
    (AllStarted plan.manifest.commands plan.target.nodes run.report.starts) run.out run.out_new run.report.starts

-- what was written: at success the lines of all starts and the summary; else the lines of all starts, and where the sink failed
-- or no memory was left, maybe a part of what is next
abbrev pub Wrote : Run → Plan → Result (Unit {0}) Stop → Type 0
Wrote run plan (Ok done) = Grew run.out run.out_new (lines_of run.report.starts ++ summary_text (length run.report.starts))
Wrote run plan (Err (stops.CommandFailed command exit)) = Grew run.out run.out_new (lines_of run.report.starts)
Wrote run plan (Err (stops.MissingInput asker node)) = Grew run.out run.out_new (lines_of run.report.starts)
Wrote run plan (Err stops.DiskFault) = Grew run.out run.out_new (lines_of run.report.starts)
Wrote run plan (Err stops.SinkFault) = WroteSome run plan
Wrote run plan (Err stops.NoMemory) = WroteSome run plan

-- what holds of a run by this plan that had this result, a field for each fact
pub record Did (answers : Answers) (run : Run) (plan : Plan) (result : Result (Unit {0}) Stop) : Type 0 where
  pub fresh : run.report.end ≡ ends.Ok → (m : List FileVersion) → Tells run.new m → AreFresh answers.does m run plan
  pub once : IsSingle (Shown run.report)
  pub sources : AreSources plan run.report.stats
  pub started : AreStarts plan.manifest.commands plan.target.nodes run.report.starts
  pub orders : AreOrdersOf plan.manifest.commands run.report
  pub heard : (h : Heard) → In h run.report.heard → IsHeard answers run.new h
  pub stood : Told run.new → (p : List ℕ) (i : Info) → Shown run.report p i → run.new.at p Follow ≡ i
  pub inputs : WereAsked plan.manifest.commands run.report
  pub missing : EndsAtMissing plan run.report
  pub failed : EndsAtFailed run.report
  pub wrote : Wrote run plan result
  pub end : IsWhy run plan result
  pub apart : Moved (IsWritten plan.manifest.commands run.report.starts) run.old run.new
