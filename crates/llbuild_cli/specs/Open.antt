-- Why a step towards a plan fails.
use Rattle.std.specs.Prelude.{◌≡◌, ℕ, List, Ok, Err}
use Rattle.outside.specs.View.{DiskView}
use Rattle.outside.specs.declared.disk.DiskError.{DiskError}
use Rattle.outside.specs.declared.disk.DiskError.TheVariants as disks
use Rattle.outside.specs.declared.disk.FileBytes.TheVariants.{Bytes}
use Rattle.yaml_profile.specs.Print.{spelling}
use Rattle.yaml_profile.specs.Read.{yaml_of}
use Rattle.yaml_profile.specs.declared.yaml.Yaml.{Yaml}
use Rattle.command_line.specs.declared.job.UsageFault.{UsageFault}
use Rattle.command_line.specs.declared.job.UsageFault.TheVariants as faults
use Rattle.manifest_reader.specs.declared.error.LoadError.{LoadError}
use Rattle.manifest_reader.specs.declared.error.LoadError.TheVariants as load
use Rattle.manifest_reader.specs.Load.{loaded}
use Rattle.build_manifest.specs.declared.command.TargetEntry.{TargetEntry}
use Rattle.build_manifest.specs.Manifest.{ManifestLists, IsManifest}
use Rattle.build_plan.specs.Built.{IsAsker, IsLaterMaker}
use Rattle.llbuild_cli.specs.declared.refusal.Refusal.{Refusal}
use Rattle.llbuild_cli.specs.declared.refusal.Refusal.TheVariants.{Usage, Manifest, NotBuilt, LaterMaker, DiskFault, NoMemory}
use Rattle.llbuild_cli.specs.Plan.{Gave, IsAnswer}

-- what words that ask for no job refuse
abbrev pub usage_refusal : UsageFault → Refusal
usage_refusal faults.NoCommand = Usage faults.NoCommand
usage_refusal faults.Words = Usage faults.Words
usage_refusal (faults.BadNumber option) = Usage (faults.BadNumber option)
usage_refusal (faults.BadPath option) = Usage (faults.BadPath option)
usage_refusal (faults.Exclusive first second) = Usage (faults.Exclusive first second)
usage_refusal faults.NotBuilt = Usage faults.NotBuilt
usage_refusal faults.NoMemory = NoMemory

-- what a disk that gave no answer refuses
abbrev pub disk_refusal : DiskError → Refusal
disk_refusal disks.Fault = DiskFault
disk_refusal disks.NotDirectory = DiskFault
disk_refusal disks.NoMemory = NoMemory

-- what a manifest that is not loaded refuses
abbrev pub load_refusal : LoadError → Refusal
load_refusal (load.Yaml error) = Manifest (load.Yaml error)
load_refusal load.NoClient = Manifest load.NoClient
load_refusal (load.WrongClient name version) = Manifest (load.WrongClient name version)
load_refusal (load.UnknownSection name) = Manifest (load.UnknownSection name)
load_refusal (load.SectionOrder section) = Manifest (load.SectionOrder section)
load_refusal (load.UnknownTool owner tool) = Manifest (load.UnknownTool owner tool)
load_refusal (load.UnknownAttribute owner name) = Manifest (load.UnknownAttribute owner name)
load_refusal (load.BadAttribute owner name) = Manifest (load.BadAttribute owner name)
load_refusal (load.BadPath owner text) = Manifest (load.BadPath owner text)
load_refusal (load.Limit what limit) = Manifest (load.Limit what limit)
load_refusal (load.UnknownDefault name) = Manifest (load.UnknownDefault name)
load_refusal (load.TwoMakers node first second) = Manifest (load.TwoMakers node first second)
load_refusal (load.DirectoryOutput command node) = Manifest (load.DirectoryOutput command node)
load_refusal (load.DepsClash command path) = Manifest (load.DepsClash command path)
load_refusal load.NoMemory = NoMemory

-- why a manifest is not loaded: the bytes are refused, or no memory was left
pub data IsUnloaded (bytes : List ℕ) : Refusal → Type 0 where
  refused : (error : LoadError) → loaded bytes ≡ Err error → IsUnloaded bytes (Manifest error)
  no_memory : IsUnloaded bytes NoMemory

-- why a target of a manifest is not built: who uses what is not built yet, which command reads what is made later, or no memory
-- was left
pub data IsUnbuilt (manifest : ManifestLists) (target : TargetEntry) : Refusal → Type 0 where
  asks : {asker : List ℕ} → IsAsker manifest target asker → IsUnbuilt manifest target (NotBuilt asker)
  later : {command node : List ℕ} → IsLaterMaker manifest target command node → IsUnbuilt manifest target (LaterMaker command node)
  no_memory : IsUnbuilt manifest target NoMemory

-- the manifest was loaded from what was read of its file
pub record IsOpened (gave : Gave) (old new : DiskView) (file : List ℕ) (manifest : ManifestLists) : Type 0 where
  pub bytes : List ℕ
  pub read : IsAnswer gave old new file (Bytes bytes)
  pub loads : loaded bytes ≡ Ok manifest
  pub kept : IsManifest manifest

-- the text is the spelling of the tree of these bytes
pub record IsSpelled (bytes text : List ℕ) : Type 0 where
  pub tree : Yaml
  pub is : yaml_of bytes ≡ Ok tree
  pub spells : text ≡ spelling tree

-- a manifest was loaded from what was read of its file, and the text is the spelling of its tree
pub record IsTreeText (gave : Gave) (old new : DiskView) (file text : List ℕ) : Type 0 where
  pub manifest : ManifestLists
  pub opened : IsOpened gave old new file manifest
  pub tree : IsSpelled opened.bytes text
