-- When a run succeeds, by its course.
use Rattle.std.proofs.Common.{◌≡◌, ◌⊎◌, ◌∙◌, ◌∷◌, [], ℕ, List, refl, sym, ap, subst, inl, inr}
use Rattle.std.specs.Prelude.{Result, Ok, Err}
use Rattle.file_info.proofs.Lists.{In-right}
use Rattle.file_info.specs.Content.{node_text}
use Rattle.file_info.specs.Lists.{In}
use Rattle.file_info.specs.declared.info.Info.TheVariants.{Missing}
use Rattle.outside.specs.declared.world.NoFault.{NoFault}
use Rattle.build_manifest.specs.declared.command.Command.{Command}
use Rattle.build_manifest.specs.declared.command.Input.{Input}
use Rattle.build_manifest.specs.declared.command.TargetEntry.{TargetEntry}
use Rattle.build_manifest.specs.Manifest.{ManifestLists}
use Rattle.build_plan.specs.Built.{IsAsker, IsBuilt, IsLaterMaker, command_asks, target_asks}
use Rattle.command_line.specs.Fault.{Read}
use Rattle.command_line.specs.declared.job.Job.{Job}
use Rattle.command_line.specs.declared.job.Job.TheVariants as jobs
use Rattle.build_report.specs.declared.report.End.{End}
use Rattle.build_report.specs.declared.report.End.TheVariants as ends
use Rattle.build_report.specs.declared.report.Heard.{Heard}
use Rattle.build_report.specs.declared.report.Outcome.{Outcome}
use Rattle.build_report.specs.declared.report.Report.{Report}
use Rattle.llbuild_cli.specs.declared.refusal.Refusal.{Refusal}
use Rattle.llbuild_cli.specs.declared.stop.Stop.{Stop}
use Rattle.llbuild_cli.specs.declared.stop.Stop.TheVariants as stops
use Rattle.llbuild_cli.specs.CommandRun.{IsInput}
use Rattle.llbuild_cli.specs.Complete.{IsBuildable, IsComplete, IsFeasible, IsReadable, NoneFailed}
use Rattle.llbuild_cli.specs.Course as courses
use Rattle.llbuild_cli.specs.Course.{BuildCourse, Course, IsPrinted, ParseCourse}
use Rattle.llbuild_cli.specs.Input.{IsFirstMissing}
use Rattle.llbuild_cli.specs.Outcome.{IsDone}
use Rattle.llbuild_cli.specs.Plan as plans
use Rattle.llbuild_cli.specs.Plan.{BuildJob, Gave, IsUnopened, IsUnplanned, Plan, build_job, refused_end}
use Rattle.llbuild_cli.specs.Run.{Answers, IsStuckAt, IsWhy, Run, Shown}
use Rattle.llbuild_cli.specs.Source.{IsAsked, IsAskedBy}
use Rattle.llbuild_cli.specs.Stop.{end_after}

-- the run succeeded, or no memory was left
abbrev IsWell : Run → Type 0
IsWell run = (run.report.end ≡ ends.Ok) ⊎ (run.report.end ≡ ends.NoMemory)

-- who uses what is not built has a target that is not built
asker_unbuilt : (m : ManifestLists) (t : TargetEntry) (name : List ℕ) → IsAsker m t name → IsBuilt m t → ⊥
asker_unbuilt m t _ (target_asks i among other) built = other (built.nodes i among)
asker_unbuilt m t _ (command_asks files c first) built = first.other (built.commands first.place c first.at first.needed).plain

-- and so has what reads what is made later
later_unbuilt : (m : ManifestLists) (t : TargetEntry) (command node : List ℕ) → IsLaterMaker m t command node → IsBuilt m t → ⊥
later_unbuilt m t command node late built =
    late.first.other (built.commands late.first.place late.asker late.first.at late.first.needed).earlier

-- the first of these inputs that is missing is one of them
missing_input : (report : Report NoFault) (inputs : List Input) (node : List ℕ) → IsFirstMissing (Shown report) inputs node
    → (p : List ℕ) × (IsInput inputs p × Shown report p Missing)
missing_input report inputs node first =
    let i = first.input in
    let among : In i inputs =
    subst (λ (is : List Input). In i is) (sym first.inputs_are) (In-right i first.before (i ∷ first.after) (inl refl)) in
    (first.missing.path, ((i, (among, sym (ap node_text first.missing.node))), first.missing.was))

-- what is next asks for something that is missing
stuck_missing : (plan : Plan) (report : Report NoFault) (asker node : List ℕ) → IsStuckAt plan report asker node
    → (p : List ℕ) × (IsAsked plan p × Shown report p Missing)
stuck_missing plan report asker node s =
    let (p, (input, was)) = missing_input report s.inputs node s.first in
    elim s.asks [
      | inl next ↦
          let c = next.command in
          let named : In c plan.manifest.commands =
          subst (λ (cs : List Command). In c cs) (sym next.next.commands_are) (In-right c next.next.before (c ∷ next.next.after) (inl refl)) in
          let asks : IsAskedBy plan p c =
          record { named = named; needed = next.next.needed; input = subst (λ (is : List Input). IsInput is p) (sym next.inputs_are) input } in
          (p, (inl (c, asks), was))
      | inr last ↦ (p, (inr (subst (λ (is : List Input). IsInput is p) (sym last.inputs_are) input), was))
    ]

-- a refusal of what has a plan against which nothing stands
unplanned_well : (gave : Gave) (run : Run) (job : BuildJob) (refusal : Refusal) → IsUnplanned gave run.old run.new job refusal
    → run.report.end ≡ refused_end refusal → IsBuildable gave run job → NoneFailed run → IsWell run
unplanned_well gave run job refusal (plans.refused answer read is) ends clear none =
    let (plan, (planned, ok)) = clear answer read in
    let both : Err refusal ≡ Ok plan = sym is ∙ planned in
    cc both
unplanned_well gave run job _ (plans.asks {plan} {asker} found who) ends clear none =
    let (other, (planned, ok)) = clear found.answer found.read in
    let both : Ok plan ≡ Ok other = sym found.is ∙ planned in
    let same : plan ≡ other = cc both in
    absurd (asker_unbuilt plan.manifest plan.target asker who (subst (λ (p : Plan). IsBuilt p.manifest p.target) (sym same) ok.built))
unplanned_well gave run job _ (plans.later {plan} {command} {node} found which) ends clear none =
    let (other, (planned, ok)) = clear found.answer found.read in
    let both : Ok plan ≡ Ok other = sym found.is ∙ planned in
    let same : plan ≡ other = cc both in
    absurd (later_unbuilt plan.manifest plan.target command node which (subst (λ (p : Plan). IsBuilt p.manifest p.target) (sym same) ok.built))
unplanned_well gave run job _ (plans.failed rose) ends clear none = absurd (none.world rose)
unplanned_well gave run job _ plans.no_memory ends clear none = inr ends

-- a stop of a build against which nothing stands
stopped_well : (run : Run) (plan : Plan) (stop : Stop) → IsWhy run plan (Err stop) → run.report.end ≡ end_after (Err stop)
    → IsFeasible run plan → NoneFailed run → IsWell run
stopped_well run plan (stops.CommandFailed command exit) why ends ok none =
    let last = why.0.last in
    let among : In last run.report.heard =
    subst (λ (hs : List Heard). In last hs) (sym why.0.heard_are) (In-right last why.0.before (last ∷ []) (inl refl)) in
    absurd (subst (λ (o : Outcome). IsDone o) why.0.failed (ok.done last among))
stopped_well run plan (stops.MissingInput asker node) why ends ok none =
    let (p, (asked, was)) = stuck_missing plan run.report asker node why.0 in
    absurd (ok.there p asked was)
stopped_well run plan stops.DiskFault why ends ok none = absurd (none.world why.0)
stopped_well run plan stops.SinkFault why ends ok none = absurd (none.out why.0)
stopped_well run plan stops.NoMemory why ends ok none = inr ends

planned_well : (run : Run) (plan : Plan) (result : Result (Unit {0}) Stop) → IsWhy run plan result → run.report.end ≡ end_after result
    → IsFeasible run plan → NoneFailed run → IsWell run
planned_well run plan (Ok done) why ends ok none = inl ends
planned_well run plan (Err stop) why ends ok none = stopped_well run plan stop why ends ok none

built_well : (answers : Answers) (run : Run) (job : BuildJob) → BuildCourse answers run job → IsBuildable answers.gave run job → NoneFailed run → IsWell run
built_well answers run job (inl d) clear none = unplanned_well answers.gave run job d.refusal d.why d.ends clear none
built_well answers run job (inr p) clear none =
    let (other, (planned, ok)) = clear p.is.found.answer p.is.found.read in
    let both : Ok p.plan ≡ Ok other = sym p.is.found.is ∙ planned in
    let same : p.plan ≡ other = cc both in
    planned_well run p.plan p.result p.did.end p.ends (subst (λ (q : Plan). IsFeasible run q) (sym same) ok) none

-- a refusal of what is a manifest
unopened_well : (gave : Gave) (run : Run) (file : List ℕ) (refusal : Refusal) → IsUnopened gave run.old run.new file refusal
    → run.report.end ≡ refused_end refusal → IsReadable gave run file → NoneFailed run → IsWell run
unopened_well gave run file refusal (plans.refused answer read is) ends clear none =
    let (manifest, opened) = clear answer read in
    let both : Err refusal ≡ Ok manifest = sym is ∙ opened in
    cc both
unopened_well gave run file _ (plans.failed rose) ends clear none = absurd (none.world rose)
unopened_well gave run file _ plans.no_memory ends clear none = inr ends

-- how a printing ends at which nothing failed
printed_well : (run : Run) (text : List ℕ) (end : End NoFault) → end ≡ run.report.end → IsPrinted run.out run.out_new text end → NoneFailed run → IsWell run
printed_well run text _ same (courses.whole grew) none = inl (sym same)
printed_well run text _ same (courses.part failed grew) none = absurd (none.out failed)
printed_well run text _ same (courses.no_memory grew) none = inr (sym same)

parsed_well : (gave : Gave) (run : Run) (file : List ℕ) → ParseCourse gave run file → IsReadable gave run file → NoneFailed run → IsWell run
parsed_well gave run file (inl d) clear none = unopened_well gave run file d.refusal d.why d.ends clear none
parsed_well gave run file (inr p) clear none = printed_well run p.text run.report.end refl p.wrote none

-- a run succeeds where nothing stands against its job
pub well_done : (answers : Answers) (run : Run) (job : Read Job) → Course answers run job → IsComplete answers.gave run job
well_done answers run (Err fault) course clear none = absurd clear
well_done answers run (Ok (jobs.Build file db serial target settings)) course clear none =
    built_well answers run (build_job file target) course clear none
well_done answers run (Ok (jobs.Parse file)) course clear none = parsed_well answers.gave run file course clear none
well_done answers run (Ok (jobs.Dump db)) course clear none = absurd clear
well_done answers run (Ok (jobs.Rehearse script)) course clear none = absurd clear
well_done answers run (Ok (jobs.Generate number size)) course clear none = absurd clear
