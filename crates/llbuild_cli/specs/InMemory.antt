-- What a run over files in memory leaves.
use Rattle.std.specs.Prelude.{◌≡◌, ◌↔◌, ◌++◌, ℕ, List, length, map, Some, Ok, Err}
use Rattle.file_info.specs.Content.{Content, Absent, node_text}
use Rattle.file_info.specs.Lists.{In}
use Rattle.file_info.specs.declared.info.Form.TheVariants.{Follow}
use Rattle.outside.specs.FileRead.{bytes_of}
use Rattle.outside.specs.declared.disk.FileBytes.TheVariants.{Bytes}
use Rattle.outside.specs.View.{SinkView}
use Rattle.memory_files.specs.declared.write.Write.{Write}
use Rattle.memory_files.specs.Log.{standing, last_of, info_of, map_of}
use Rattle.memory_world.specs.Sinks.{Written}
use Rattle.memory_world.specs.Toy.{ToyDoes}
use Rattle.build_manifest.specs.declared.command.Input.{Input}
use Rattle.build_meaning.specs.Fresh.{Sights, Fresh}
use Rattle.build_manifest.specs.Manifest.{ManifestLists}
use Rattle.manifest_reader.specs.Load.{loaded}
use Rattle.build_report.specs.Text.{lines_of, summary_text}
use Rattle.build_report.specs.declared.report.Start.{Start}
use Rattle.command_line.specs.Fault.{Read}
use Rattle.command_line.specs.declared.job.Job.{Job}
use Rattle.command_line.specs.declared.job.Job.TheVariants as jobs
use Rattle.llbuild_cli.specs.Open.{IsSpelled}
use Rattle.llbuild_cli.specs.Plan.{BuildJob, Plan, build_job, plan_of, manifest_max}

-- what is seen of a sink in memory
abbrev pub seen_in : Written → SinkView
seen_in s = record { bytes = Some s.items; faults = s.faults }

-- what stands at each path that was ever written
abbrev pub files_of : List Write → Sights
files_of writes = map (λ (w : Write). (w.path, info_of (last_of writes w.path) Follow)) writes

-- the content that the manifest and these files give the path, by plain recursion
abbrev pub FreshOf : List Write → Plan → List ℕ → Content → Type 0
FreshOf files plan path x = Fresh ToyDoes (map_of files) plan.manifest.commands (files_of files) path x

-- the build has a plan by the manifest that stood in its file, and each node of its target stands with exactly the content that
-- the manifest and the files that stood at entry give it, and is there
pub record FreshInMemory (old new : List Write) (job : BuildJob) : Type 0 where
  pub plan : Plan
  pub is : plan_of job (bytes_of manifest_max (standing old job.file Follow)) ≡ Ok plan
  pub fresh : (n : Input) → In n plan.target.nodes → (x : Content)
      → FreshOf old plan (node_text n.node) x ↔ (x ≡ standing new (node_text n.node) Follow)
  pub there : (n : Input) → In n plan.target.nodes → standing new (node_text n.node) Follow ≡ Absent → ⊥

-- the file stood with a manifest, and what was written is the spelling of its tree
pub record SpelledInMemory (files : List Write) (file before after : List ℕ) : Type 0 where
  pub bytes : List ℕ
  pub stood : bytes_of manifest_max (standing files file Follow) ≡ Bytes bytes
  pub manifest : ManifestLists
  pub accepted : loaded bytes ≡ Ok manifest
  pub text : List ℕ
  pub spelled : IsSpelled bytes text
  pub wrote : after ≡ before ++ text

-- what a job that was done left of files: a build made what its target needs. Of the others only the printing of a manifest is
-- ever done
abbrev pub MadeInMemory : List Write → List Write → Read Job → Type 0
MadeInMemory old new (Err fault) = ⊥
MadeInMemory old new (Ok (jobs.Build file db serial target settings)) = FreshInMemory old new (build_job file target)
MadeInMemory old new (Ok (jobs.Parse file)) = Unit {0}
MadeInMemory old new (Ok (jobs.Dump db)) = ⊥
MadeInMemory old new (Ok (jobs.Rehearse script)) = ⊥
MadeInMemory old new (Ok (jobs.Generate number size)) = ⊥

-- what a job that was done wrote: a build the lines of all its starts and the summary, and the printing of a manifest the
-- spelling of its tree
abbrev pub WroteInMemory : List Write → List Start → List ℕ → List ℕ → Read Job → Type 0
WroteInMemory files starts before after (Err fault) = ⊥
WroteInMemory files starts before after (Ok (jobs.Build file db serial target settings)) =
    after ≡ before ++ (lines_of starts ++ summary_text (length starts))
WroteInMemory files starts before after (Ok (jobs.Parse file)) = SpelledInMemory files file before after
WroteInMemory files starts before after (Ok (jobs.Dump db)) = ⊥
WroteInMemory files starts before after (Ok (jobs.Rehearse script)) = ⊥
WroteInMemory files starts before after (Ok (jobs.Generate number size)) = ⊥
