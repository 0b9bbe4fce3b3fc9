-- What a build is planned by, and why it is not.
use Rattle.std.specs.Prelude.{◌≡◌, ℕ, List, Option, Some, None, Result, Ok, Err}
use Rattle.file_info.specs.Content.{FileVersion, content}
use Rattle.file_info.specs.declared.info.Form.TheVariants.{Follow}
use Rattle.outside.specs.View.{DiskView, DiskFailed, Told, Tells}
use Rattle.outside.specs.FileRead.{FitsInfo, bytes_of}
use Rattle.outside.specs.declared.disk.FileBytes.{FileBytes}
use Rattle.outside.specs.declared.disk.FileBytes.TheVariants.{Missing, NotFile, TooLong, Bytes}
use Rattle.yaml_profile.specs.declared.error.YamlError.TheVariants as yaml
use Rattle.build_manifest.specs.declared.command.TargetEntry.{TargetEntry}
use Rattle.build_manifest.specs.Manifest.{ManifestLists, IsManifest, default_of}
use Rattle.build_manifest.specs.Places.{target_named}
use Rattle.manifest_reader.specs.declared.error.LoadError.{LoadError}
use Rattle.manifest_reader.specs.declared.error.LoadError.TheVariants as load
use Rattle.manifest_reader.specs.Load.{loaded}
use Rattle.build_plan.specs.Built.{IsAsker, IsBuilt, IsLaterMaker}
use Rattle.build_report.specs.declared.report.End.{End}
use Rattle.build_report.specs.declared.report.End.TheVariants as ends
use Rattle.llbuild_cli.specs.declared.refusal.Refusal.{Refusal}
use Rattle.llbuild_cli.specs.declared.refusal.Refusal.TheVariants as refusals

-- the most bytes that a manifest has
abbrev pub manifest_max : ℕ
manifest_max = 67108864

-- what is built: a manifest and one of its targets
pub record Plan : Type 0 where
  pub manifest : ManifestLists
  pub target : TargetEntry

-- a build that is asked for: the path of its manifest, and the name of its target, or none for the manifest's default
pub record BuildJob : Type 0 where
  pub file : List ℕ
  pub target : Option (List ℕ)

-- the build of this file and this target
abbrev pub build_job : List ℕ → Option (List ℕ) → BuildJob
build_job file target = record { file = file; target = target }

-- the manifest that was loaded, or its refusal
abbrev pub of_load : Result ManifestLists LoadError → Result ManifestLists Refusal
of_load (Err error) = Err (refusals.Manifest error)
of_load (Ok manifest) = Ok manifest

-- the manifest of what was read where one is due, or why there is none: no file, or a text that is refused
abbrev pub manifest_in : List ℕ → FileBytes → Result ManifestLists Refusal
manifest_in file Missing = Err (refusals.NoFile file)
manifest_in file NotFile = Err (refusals.NoFile file)
manifest_in file TooLong = Err (refusals.Manifest (load.Yaml yaml.TooLong))
manifest_in file (Bytes bytes) = of_load (loaded bytes)

-- the target of this name in a manifest, or its default where none is named
abbrev pub target_in : ManifestLists → Option (List ℕ) → Option TargetEntry
target_in manifest None = default_of manifest.targets manifest.default_place
target_in manifest (Some name) = target_named manifest.targets name

-- why a manifest has no such target
abbrev pub no_target : Option (List ℕ) → Refusal
no_target None = refusals.NoDefault
no_target (Some name) = refusals.UnknownTarget name

-- the plan of a manifest and one of its targets, or this refusal where there is no such target
abbrev pub plan_with : ManifestLists → Refusal → Option TargetEntry → Result Plan Refusal
plan_with manifest refusal None = Err refusal
plan_with manifest refusal (Some target) = Ok (record { manifest = manifest; target = target })

-- the plan of a manifest and the target that is asked for, or why there is none
abbrev pub plan_from : Option (List ℕ) → Result ManifestLists Refusal → Result Plan Refusal
plan_from target (Err refusal) = Err refusal
plan_from target (Ok manifest) = plan_with manifest (no_target target) (target_in manifest target)

-- the plan of a build, by what was read where its manifest is due, or why there is none: no file, a manifest that is refused, an
-- unknown target, or no default
abbrev pub plan_of : BuildJob → FileBytes → Result Plan Refusal
plan_of job answer = plan_from job.target (manifest_in job.file answer)

-- what a disk answers of files: a relation of a path, the most bytes that are wanted, and the answer
abbrev pub Gave : Type 1
Gave = List ℕ → ℕ → FileBytes → Type 0

-- what was read of a file: the disk gave it, and where it tells, it is what stood there
pub record IsAnswer (gave : Gave) (old new : DiskView) (file : List ℕ) (answer : FileBytes) : Type 0 where
  pub given : gave file manifest_max answer
  pub fits : Told new → FitsInfo (old.at file Follow) answer
  pub is : (m : List FileVersion) → Tells new m → answer ≡ bytes_of manifest_max (content m file (old.at file Follow))

-- the build has this plan, by what was read of its file
pub record IsPlanOf (gave : Gave) (old new : DiskView) (job : BuildJob) (plan : Plan) : Type 0 where
  pub answer : FileBytes
  pub read : IsAnswer gave old new job.file answer
  pub is : plan_of job answer ≡ Ok plan

-- the build has this plan, its manifest keeps what every manifest does, and all that its target needs is built today
pub record IsPlan (gave : Gave) (old new : DiskView) (job : BuildJob) (plan : Plan) : Type 0 where
  pub found : IsPlanOf gave old new job plan
  pub kept : IsManifest plan.manifest
  pub built : IsBuilt plan.manifest plan.target

-- why no manifest is opened: there is none by what was read of its file, the disk failed, or no memory was left
pub data IsUnopened (gave : Gave) (old new : DiskView) (file : List ℕ) : Refusal → Type 0 where
  refused : {refusal : Refusal} (answer : FileBytes) → IsAnswer gave old new file answer → manifest_in file answer ≡ Err refusal
      → IsUnopened gave old new file refusal
  failed : DiskFailed old new → IsUnopened gave old new file refusals.DiskFault
  no_memory : IsUnopened gave old new file refusals.NoMemory

-- why nothing is built: there is no plan by what was read of the manifest's file; who uses what is not built yet; which command
-- reads what is made later; the disk failed; or no memory was left
pub data IsUnplanned (gave : Gave) (old new : DiskView) (job : BuildJob) : Refusal → Type 0 where
  refused : {refusal : Refusal} (answer : FileBytes) → IsAnswer gave old new job.file answer → plan_of job answer ≡ Err refusal
      → IsUnplanned gave old new job refusal
  asks : {plan : Plan} {asker : List ℕ} → IsPlanOf gave old new job plan → IsAsker plan.manifest plan.target asker
      → IsUnplanned gave old new job (refusals.NotBuilt asker)
  later : {plan : Plan} {command node : List ℕ} → IsPlanOf gave old new job plan → IsLaterMaker plan.manifest plan.target command node
      → IsUnplanned gave old new job (refusals.LaterMaker command node)
  failed : DiskFailed old new → IsUnplanned gave old new job refusals.DiskFault
  no_memory : IsUnplanned gave old new job refusals.NoMemory

-- how a run ends that was refused so
abbrev pub refused_end : {F : Type 0} → Refusal → End F
refused_end (refusals.Usage fault) = ends.Usage fault
refused_end (refusals.NoFile path) = ends.NoFile path
refused_end (refusals.Manifest error) = ends.Manifest error
refused_end (refusals.UnknownTarget name) = ends.UnknownTarget name
refused_end refusals.NoDefault = ends.NoDefault
refused_end (refusals.NotBuilt asker) = ends.NotBuilt asker
refused_end (refusals.LaterMaker command node) = ends.LaterMaker command node
refused_end refusals.DiskFault = ends.DiskFault
refused_end refusals.NoMemory = ends.NoMemory
