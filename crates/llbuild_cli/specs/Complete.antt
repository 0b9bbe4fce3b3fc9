-- When a run succeeds.
use Rattle.std.specs.Prelude.{◌≡◌, ◌⊎◌, ℕ, List, Ok, Err}
use Rattle.file_info.specs.declared.info.Info.TheVariants.{Missing}
use Rattle.outside.specs.View.{DiskFailed, SinkFailed}
use Rattle.outside.specs.declared.disk.FileBytes.{FileBytes}
use Rattle.build_manifest.specs.Manifest.{ManifestLists}
use Rattle.build_plan.specs.Built.{IsBuilt}
use Rattle.command_line.specs.Fault.{Read}
use Rattle.command_line.specs.declared.job.Job.{Job}
use Rattle.command_line.specs.declared.job.Job.TheVariants as jobs
use Rattle.build_report.specs.declared.report.End.TheVariants as ends
use Rattle.llbuild_cli.specs.Outcome.{AllDone}
use Rattle.llbuild_cli.specs.Plan.{BuildJob, Gave, IsAnswer, Plan, build_job, manifest_in, plan_of}
use Rattle.llbuild_cli.specs.Run.{Run, Shown}
use Rattle.llbuild_cli.specs.Source.{IsAsked}

-- nothing stands against the build of this plan: all that its target needs is built today, nothing that a needed command or the
-- target asks for was found missing, and each order that ended succeeded
pub record IsFeasible (run : Run) (plan : Plan) : Type 0 where
  pub built : IsBuilt plan.manifest plan.target
  pub there : (p : List ℕ) → IsAsked plan p → Shown run.report p Missing → ⊥
  pub done : AllDone run.report.heard

-- whatever the disk may have given of its manifest's file, the build has a plan, and nothing stands against it
abbrev pub IsBuildable : Gave → Run → BuildJob → Type 0
IsBuildable gave run job = (answer : FileBytes) → IsAnswer gave run.old run.new job.file answer
    → (plan : Plan) × ((plan_of job answer ≡ Ok plan) × IsFeasible run plan)

-- whatever the disk may have given of this file, it is a manifest
abbrev pub IsReadable : Gave → Run → List ℕ → Type 0
IsReadable gave run file = (answer : FileBytes) → IsAnswer gave run.old run.new file answer
    → (manifest : ManifestLists) × (manifest_in file answer ≡ Ok manifest)

-- nothing stands against the job
abbrev pub IsClear : Gave → Run → Read Job → Type 0
IsClear gave run (Err fault) = ⊥
IsClear gave run (Ok (jobs.Build file db serial target settings)) = IsBuildable gave run (build_job file target)
IsClear gave run (Ok (jobs.Parse file)) = IsReadable gave run file
IsClear gave run (Ok (jobs.Dump db)) = ⊥
IsClear gave run (Ok (jobs.Rehearse script)) = ⊥
IsClear gave run (Ok (jobs.Generate number size)) = ⊥

-- neither the world nor standard output failed
pub record NoneFailed (run : Run) : Type 0 where
  pub world : DiskFailed run.old run.new → ⊥
  pub out : SinkFailed run.out run.out_new → ⊥

-- where nothing stands against the job and nothing failed, the run succeeds, or no memory was left
abbrev pub IsComplete : Gave → Run → Read Job → Type 0
IsComplete gave run job = IsClear gave run job → NoneFailed run → (run.report.end ≡ ends.Ok) ⊎ (run.report.end ≡ ends.NoMemory)
