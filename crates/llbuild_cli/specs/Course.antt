-- What holds of a run, by the job that its words ask for.
use Rattle.std.specs.Prelude.{◌≡◌, ◌⊎◌, ℕ, List, [], Result, Ok, Err}
use Rattle.outside.specs.View.{SinkView, SinkFailed, Grew, Stayed}
use Rattle.outside.specs.declared.world.NoFault.{NoFault}
use Rattle.command_line.specs.Fault.{Read}
use Rattle.command_line.specs.declared.job.Job.TheVariants as jobs
use Rattle.command_line.specs.declared.job.UsageFault.{UsageFault}
use Rattle.command_line.specs.declared.job.UsageFault.TheVariants as faults
use Rattle.command_line.specs.declared.job.Job.{Job}
use Rattle.build_report.specs.declared.report.End.{End}
use Rattle.build_report.specs.declared.report.End.TheVariants as ends
use Rattle.llbuild_cli.specs.declared.refusal.Refusal.{Refusal}
use Rattle.llbuild_cli.specs.declared.refusal.Refusal.TheVariants as refusals
use Rattle.llbuild_cli.specs.declared.stop.Stop.{Stop}
use Rattle.llbuild_cli.specs.Growth.{GrewByPart}
use Rattle.llbuild_cli.specs.Open.{IsTreeText}
use Rattle.llbuild_cli.specs.Plan.{BuildJob, Gave, IsPlan, IsUnopened, IsUnplanned, Plan, build_job, refused_end}
use Rattle.llbuild_cli.specs.Run.{Answers, Did, Run}
use Rattle.llbuild_cli.specs.Stop.{end_after}

-- no command was started and no file was noted, and nothing was changed
pub record DidNothing (run : Run) : Type 0 where
  pub starts : run.report.starts ≡ []
  pub stats : run.report.stats ≡ []
  pub heard : run.report.heard ≡ []
  pub stayed : Stayed run.old run.new

-- the job was declined, for a reason of this kind, and nothing was written
pub record Declined (run : Run) (is_why : Refusal → Type 0) : Type 0 where
  pub refusal : Refusal
  pub ends : run.report.end ≡ refused_end refusal
  pub why : is_why refusal
  pub wrote : Grew run.out run.out_new []
  pub nothing : DidNothing run

-- why there is no job: the words ask for none that is served, or no memory was left
pub data IsNoJob (job : Read Job) : Refusal → Type 0 where
  misused : {fault : UsageFault} → job ≡ Err fault → IsNoJob job (refusals.Usage fault)
  no_memory : IsNoJob job refusals.NoMemory

-- why words are declined: for this fault, or no memory was left
pub data IsMisuse (fault : UsageFault) : Refusal → Type 0 where
  usage : IsMisuse fault (refusals.Usage fault)
  no_memory : IsMisuse fault refusals.NoMemory

-- the build has a plan, by what was read of its manifest's file, and all of the run is by it
pub record Planned (answers : Answers) (run : Run) (job : BuildJob) : Type 0 where
  pub plan : Plan
  pub is : IsPlan answers.gave run.old run.new job plan
  pub result : Result (Unit {0}) Stop
  pub ends : run.report.end ≡ end_after result
  pub did : Did answers run plan result

-- how the printing of a text ends: all of it was written; the sink failed, and a beginning of it was; or no memory was left, and
-- a beginning may have been
pub data IsPrinted (old new : SinkView) (text : List ℕ) : End NoFault → Type 0 where
  whole : Grew old new text → IsPrinted old new text ends.Ok
  part : SinkFailed old new → GrewByPart old new text → IsPrinted old new text ends.SinkFault
  no_memory : GrewByPart old new text → IsPrinted old new text ends.NoMemory

-- the manifest of this file was accepted, and the run printed the spelling of its tree
pub record Printed (gave : Gave) (run : Run) (file : List ℕ) : Type 0 where
  pub text : List ℕ
  pub is : IsTreeText gave run.old run.new file text
  pub wrote : IsPrinted run.out run.out_new text run.report.end
  pub nothing : DidNothing run

-- the course of a build: it was declined, or there is one plan of which all holds
abbrev pub BuildCourse : Answers → Run → BuildJob → Type 0
BuildCourse answers run job = Declined run (IsUnplanned answers.gave run.old run.new job) ⊎ Planned answers run job

-- the course of the printing of a manifest: it was declined, or the tree was printed
abbrev pub ParseCourse : Gave → Run → List ℕ → Type 0
ParseCourse gave run file = Declined run (IsUnopened gave run.old run.new file) ⊎ Printed gave run file

-- the course of a run: words that ask for no job, or for one that is not built yet, are declined
abbrev pub Course : Answers → Run → Read Job → Type 0
Course answers run (Err fault) = Declined run (IsMisuse fault)
Course answers run (Ok (jobs.Build file db serial target settings)) = BuildCourse answers run (build_job file target)
Course answers run (Ok (jobs.Parse file)) = ParseCourse answers.gave run file
Course answers run (Ok (jobs.Dump db)) = Declined run (IsMisuse faults.NotBuilt)
Course answers run (Ok (jobs.Rehearse script)) = Declined run (IsMisuse faults.NotBuilt)
Course answers run (Ok (jobs.Generate number size)) = Declined run (IsMisuse faults.NotBuilt)
