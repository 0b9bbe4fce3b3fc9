-- How a manifest is opened, or refused.
use Rattle.std.proofs.Common.{◌≡◌, ◌⊎◌, ◌∙◌, ℕ, List, sym, ap, refl, subst, inl, inr}
use Rattle.std.specs.Prelude.{Option, Some, Ok, Err, None, IfErr, IfOk, IsErrOf, Result}
use Rattle.outside.specs.View.{DiskView, DiskFailed, Keeps}
use Rattle.outside.specs.declared.disk.FileBytes.{FileBytes}
use Rattle.outside.specs.declared.disk.FileBytes.TheVariants.{Bytes}
use Rattle.outside.specs.declared.disk.DiskError.{DiskError}
use Rattle.outside.specs.declared.disk.DiskError.TheVariants as disks
use Rattle.build_manifest.specs.declared.command.TargetEntry.{TargetEntry}
use Rattle.manifest_reader.specs.declared.error.LoadError.{LoadError}
use Rattle.manifest_reader.specs.declared.error.LoadError.TheVariants as load
use Rattle.manifest_reader.specs.Load.{loaded}
use Rattle.build_manifest.specs.Manifest.{ManifestLists}
use Rattle.build_plan.specs.Built.{IsBuilt}
use Rattle.build_plan.specs.Unbuilt as why
use Rattle.build_plan.specs.declared.plan.Unbuilt.{Unbuilt}
use Rattle.build_plan.specs.declared.plan.Unbuilt.TheVariants as unbuilts
use Rattle.command_line.specs.Fault.{Fails, Read}
use Rattle.command_line.specs.declared.job.Job.{Job}
use Rattle.command_line.specs.declared.job.UsageFault.{UsageFault}
use Rattle.command_line.specs.declared.job.UsageFault.TheVariants as faults
use Rattle.llbuild_cli.specs.declared.refusal.Refusal.{Refusal}
use Rattle.llbuild_cli.specs.declared.refusal.Refusal.TheVariants as refusals
use Rattle.llbuild_cli.specs.Course as courses
use Rattle.llbuild_cli.specs.Course.{IsNoJob, misused}
use Rattle.llbuild_cli.specs.Open as opens
use Rattle.llbuild_cli.specs.Open.{disk_refusal, load_refusal, usage_refusal, IsUnloaded, IsUnbuilt, IsOpened, refused, no_memory}
use Rattle.llbuild_cli.specs.Plan as plans
use Rattle.llbuild_cli.specs.Plan.{Gave, IsAnswer, IsPlan, IsPlanOf, IsUnopened, IsUnplanned, Plan, build_job, manifest_in, no_target, of_load}
use Rattle.llbuild_cli.specs.Plan.{plan_from, plan_of, plan_with, target_in}

-- words that are no job
pub no_job : (job : Read Job) (fault : UsageFault) → Fails fault job → IsNoJob job (usage_refusal fault)
no_job job faults.NoCommand is = misused is
no_job job faults.Words is = misused is
no_job job (faults.BadNumber option) is = misused is
no_job job (faults.BadPath option) is = misused is
no_job job (faults.Exclusive first second) is = misused is
no_job job faults.NotBuilt is = misused is
no_job job faults.NoMemory is = courses.no_memory

-- a disk that gave no answer
pub disk_unopened : (gave : Gave) (old new : DiskView) (file : List ℕ) (error : DiskError)
    → (IsErrOf {T = FileBytes} (Err error) disks.NotDirectory → ⊥) → (IsErrOf {T = FileBytes} (Err error) disks.Fault → DiskFailed old new)
    → IsUnopened gave old new file (disk_refusal error)
disk_unopened gave old new file disks.Fault here rose = plans.failed (rose refl)
disk_unopened gave old new file disks.NotDirectory here rose = absurd (here refl)
disk_unopened gave old new file disks.NoMemory here rose = plans.no_memory

-- no file where the manifest is due
pub file_unopened : (gave : Gave) (old new : DiskView) (file : List ℕ) (answer : FileBytes) (refusal : Refusal) → IsAnswer gave old new file answer
    → manifest_in file answer ≡ Err (refusals.NoFile file) → (refusal ≡ refusals.NoFile file) ⊎ (refusal ≡ refusals.NoMemory)
    → IsUnopened gave old new file refusal
file_unopened gave old new file answer refusal read is (inl same) =
    subst (λ (r : Refusal). IsUnopened gave old new file r) (sym same) (plans.refused answer read is)
file_unopened gave old new file answer refusal read is (inr none) =
    subst (λ (r : Refusal). IsUnopened gave old new file r) (sym none) plans.no_memory

-- a manifest that was not loaded
pub load_unopened : (gave : Gave) (old new : DiskView) (file bytes : List ℕ) (refusal : Refusal) → IsAnswer gave old new file (Bytes bytes)
    → IsUnloaded bytes refusal → IsUnopened gave old new file refusal
load_unopened gave old new file bytes _ read (refused error is) = plans.refused (Bytes bytes) read (ap of_load is)
load_unopened gave old new file bytes _ read no_memory = plans.no_memory

pub load_unloaded : (bytes : List ℕ) (error : LoadError) → (error ≡ load.NoMemory) ⊎ (loaded bytes ≡ Err error) → IsUnloaded bytes (load_refusal error)
load_unloaded bytes (load.Yaml e) (inl none) = cc none
load_unloaded bytes (load.Yaml e) (inr why) = refused (load.Yaml e) why
load_unloaded bytes load.NoClient (inl none) = cc none
load_unloaded bytes load.NoClient (inr why) = refused load.NoClient why
load_unloaded bytes (load.WrongClient name version) (inl none) = cc none
load_unloaded bytes (load.WrongClient name version) (inr why) = refused (load.WrongClient name version) why
load_unloaded bytes (load.UnknownSection name) (inl none) = cc none
load_unloaded bytes (load.UnknownSection name) (inr why) = refused (load.UnknownSection name) why
load_unloaded bytes (load.SectionOrder section) (inl none) = cc none
load_unloaded bytes (load.SectionOrder section) (inr why) = refused (load.SectionOrder section) why
load_unloaded bytes (load.UnknownTool owner tool) (inl none) = cc none
load_unloaded bytes (load.UnknownTool owner tool) (inr why) = refused (load.UnknownTool owner tool) why
load_unloaded bytes (load.UnknownAttribute owner name) (inl none) = cc none
load_unloaded bytes (load.UnknownAttribute owner name) (inr why) = refused (load.UnknownAttribute owner name) why
load_unloaded bytes (load.BadAttribute owner name) (inl none) = cc none
load_unloaded bytes (load.BadAttribute owner name) (inr why) = refused (load.BadAttribute owner name) why
load_unloaded bytes (load.BadPath owner text) (inl none) = cc none
load_unloaded bytes (load.BadPath owner text) (inr why) = refused (load.BadPath owner text) why
load_unloaded bytes (load.Limit what limit) (inl none) = cc none
load_unloaded bytes (load.Limit what limit) (inr why) = refused (load.Limit what limit) why
load_unloaded bytes (load.UnknownDefault name) (inl none) = cc none
load_unloaded bytes (load.UnknownDefault name) (inr why) = refused (load.UnknownDefault name) why
load_unloaded bytes (load.TwoMakers node first second) (inl none) = cc none
load_unloaded bytes (load.TwoMakers node first second) (inr why) = refused (load.TwoMakers node first second) why
load_unloaded bytes (load.DirectoryOutput command node) (inl none) = cc none
load_unloaded bytes (load.DirectoryOutput command node) (inr why) = refused (load.DirectoryOutput command node) why
load_unloaded bytes (load.DepsClash command path) (inl none) = cc none
load_unloaded bytes (load.DepsClash command path) (inr why) = refused (load.DepsClash command path) why
load_unloaded bytes load.NoMemory why = no_memory

-- what was read stays so as the world goes on
answer_on : {gave : Gave} {old mid new : DiskView} {file : List ℕ} {answer : FileBytes} → Keeps mid new → IsAnswer gave old mid file answer
    → IsAnswer gave old new file answer
answer_on keeps a = record { given = a.given; fits = λ t. a.fits (keeps.infos t); is = λ m t. a.is m (keeps.contents m t) }

-- the plan of a manifest that was loaded, or why it has none
planned_by : (file : List ℕ) (target : Option (List ℕ)) (bytes : List ℕ) (manifest : ManifestLists) (entry : Option TargetEntry)
    → loaded bytes ≡ Ok manifest → entry ≡ target_in manifest target
    → plan_of (build_job file target) (Bytes bytes) ≡ plan_with manifest (no_target target) entry
planned_by file target bytes manifest entry loads is =
    ap (λ r. plan_from target (of_load r)) loads ∙ ap (plan_with manifest (no_target target)) (sym is)

plan_found : {gave : Gave} {old mid new : DiskView} (file : List ℕ) (target : Option (List ℕ)) (manifest : ManifestLists) (entry : TargetEntry)
    → Keeps mid new → IsOpened gave old mid file manifest → Some entry ≡ target_in manifest target
    → IsPlanOf gave old new (build_job file target) (record { manifest = manifest; target = entry })
plan_found file target manifest entry keeps o named = record {
  answer = Bytes o.bytes;
  read = answer_on keeps o.read;
  is = planned_by file target o.bytes manifest (Some entry) o.loads named;
}

-- the plan of a manifest that was opened
pub opened_plan : {gave : Gave} {old mid new : DiskView} (file : List ℕ) (target : Option (List ℕ)) (manifest : ManifestLists) (entry : TargetEntry)
    → Keeps mid new → IsOpened gave old mid file manifest → Some entry ≡ target_in manifest target → IsBuilt manifest entry
    → IsPlan gave old new (build_job file target) (record { manifest = manifest; target = entry })
opened_plan file target manifest entry keeps o named built =
    record { found = plan_found file target manifest entry keeps o named; kept = o.kept; built = built }

-- a manifest that was not opened has no plan
pub unopened_unplanned : {gave : Gave} {old new : DiskView} (file : List ℕ) (target : Option (List ℕ)) (refusal : Refusal)
    → IsUnopened gave old new file refusal → IsUnplanned gave old new (build_job file target) refusal
unopened_unplanned file target _ (plans.refused answer read is) = plans.refused answer read (ap (plan_from target) is)
unopened_unplanned file target _ (plans.failed rose) = plans.failed rose
unopened_unplanned file target _ plans.no_memory = plans.no_memory

-- a manifest that has no such target
pub opened_targetless : {gave : Gave} {old new : DiskView} (file : List ℕ) (target : Option (List ℕ)) (manifest : ManifestLists)
    → IsOpened gave old new file manifest → None ≡ target_in manifest target → IsUnplanned gave old new (build_job file target) (no_target target)
opened_targetless file target manifest o none =
    plans.refused (Bytes o.bytes) o.read (planned_by file target o.bytes manifest None o.loads none)

-- a target that is not built
pub opened_unbuilt : {gave : Gave} {old new : DiskView} (file : List ℕ) (target : Option (List ℕ)) (manifest : ManifestLists) (entry : TargetEntry)
    (refusal : Refusal) → IsOpened gave old new file manifest → Some entry ≡ target_in manifest target
    → IsUnbuilt manifest entry refusal → IsUnplanned gave old new (build_job file target) refusal
opened_unbuilt file target manifest entry _ o named (opens.asks who) =
    plans.asks (plan_found file target manifest entry (record { infos = λ t. t; contents = λ m t. t }) o named) who
opened_unbuilt file target manifest entry _ o named (opens.later which) =
    plans.later (plan_found file target manifest entry (record { infos = λ t. t; contents = λ m t. t }) o named) which
opened_unbuilt file target manifest entry _ o named opens.no_memory = plans.no_memory

-- what follows from a refusal
pub err_on : {T E : Type 0} (r : Result T E) (P Q : E → Type 0) → ((e : E) → P e → Q e) → IfErr r P → IfErr r Q
err_on (Ok x) P Q next why = tt
err_on (Err e) P Q next why = next e why

-- what follows from what is given
pub ok_on : {T E : Type 0} (r : Result T E) (P Q : T → Type 0) → ((x : T) → P x → Q x) → IfOk r P → IfOk r Q
ok_on (Ok x) P Q next is = next x is
ok_on (Err e) P Q next is = tt

-- a refusal for want of memory
pub memory_unopened : (gave : Gave) (old new : DiskView) (file : List ℕ) (refusal : Refusal) → refusal ≡ refusals.NoMemory
    → IsUnopened gave old new file refusal
memory_unopened gave old new file refusal is = subst (λ (r : Refusal). IsUnopened gave old new file r) (sym is) plans.no_memory

-- why a target is not built
pub target_unbuilt : (manifest : ManifestLists) (target : TargetEntry) (unbuilt : Unbuilt) (command node : List ℕ)
    → unbuilt ≡ unbuilts.Later command node → why.IsUnbuilt manifest target unbuilt → IsUnbuilt manifest target (refusals.LaterMaker command node)
target_unbuilt manifest target unbuilt command node is which =
    opens.later (subst (λ (u : Unbuilt). why.IsUnbuilt manifest target u) is which)

pub asker_unbuilt : (manifest : ManifestLists) (target : TargetEntry) (unbuilt : Unbuilt) (asker : List ℕ)
    → unbuilt ≡ unbuilts.Asker asker → why.IsUnbuilt manifest target unbuilt → IsUnbuilt manifest target (refusals.NotBuilt asker)
asker_unbuilt manifest target unbuilt asker is who = opens.asks (subst (λ (u : Unbuilt). why.IsUnbuilt manifest target u) is who)
