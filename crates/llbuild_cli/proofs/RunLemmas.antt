-- What holds of a run, by how far it came.
use Rattle.std.proofs.Common.{◌≡◌, ◌⊎◌, ◌≤◌, ◌+◌, ◌++◌, [], ℕ, List, length, refl, sym, ◌∙◌, ap, subst, inl, inr, arith}
use Rattle.std.proofs.lemmas.List.{take_all}
use Rattle.std.specs.Prelude.{Result, Ok, Err}
use Rattle.outside.specs.View.{DiskView, SinkView, Grew, Stayed}
use Rattle.outside.specs.declared.world.NoFault.{NoFault}
use Rattle.command_line.specs.Fault.{Read}
use Rattle.command_line.specs.Job.{served_job}
use Rattle.command_line.specs.declared.job.Job.{Job}
use Rattle.command_line.specs.declared.job.Job.TheVariants as jobs
use Rattle.command_line.specs.declared.job.UsageFault.TheVariants as faults
use Rattle.llbuild_cli.specs.declared.refusal.Refusal.{Refusal}
use Rattle.llbuild_cli.specs.declared.refusal.Refusal.TheVariants as refusals
use Rattle.build_report.specs.declared.report.End.{End}
use Rattle.build_report.specs.declared.report.End.TheVariants as ends
use Rattle.build_report.specs.declared.report.Report.{Report}
use Rattle.llbuild_cli.specs.declared.stop.Stop.{Stop}
use Rattle.llbuild_cli.specs.declared.stop.Stop.TheVariants as stops
use Rattle.llbuild_cli.specs.Course as courses
use Rattle.llbuild_cli.specs.Course.{BuildCourse, Course, Declined, DidNothing, IsMisuse, IsNoJob, IsPrinted, ParseCourse, Planned, Printed}
use Rattle.llbuild_cli.specs.Growth.{GrewByPart}
use Rattle.llbuild_cli.specs.Journal.{Journal, unused}
use Rattle.llbuild_cli.specs.Open.{IsTreeText}
use Rattle.llbuild_cli.specs.Plan.{BuildJob, Gave, Plan, IsPlan, IsUnopened, IsUnplanned, build_job, refused_end}
use Rattle.llbuild_cli.specs.Plan as plans
use Rattle.llbuild_cli.specs.Output.{summary}
use Rattle.llbuild_cli.specs.Run.{Answers, Did, IsWhy, Run, Wrote, WroteSome, report_of, run_of}
use Rattle.llbuild_cli.specs.Finish.{end_in, without_memory}
use Rattle.llbuild_cli.specs.Served.{LeavesNothing, Served}
use Rattle.llbuild_cli.specs.Start.{AllStarted}
use Rattle.llbuild_cli.specs.Stop.{end_after}
use Rattle.build_report.specs.Text.{lines_of, summary_text}
use Rattle.llbuild_cli.proofs.CompleteLemmas.{well_done}
use Rattle.llbuild_cli.proofs.ProgressLemmas.{moved_both, moved_stayed}
use Rattle.llbuild_cli.proofs.SinkLemmas.{Grew-none}
use Rattle.llbuild_cli.proofs.StopLemmas.{no_part}

-- nothing was noted
nothing_done : (old new : DiskView) (out out' : SinkView) (j : Journal) (end : End NoFault) → j ≡ unused → Stayed old new
    → DidNothing (run_of old new out out' (report_of end j))
nothing_done old new out out' j end same stayed = record {
  starts = ap (λ (x : Journal). x.starts) same;
  stats = ap (λ (x : Journal). x.stats) same;
  heard = ap (λ (x : Journal). x.heard) same;
  stayed = stayed;
}

-- a run that was declined
pub declined : (is_why : Refusal → Type 0) (old new : DiskView) (out : SinkView) (j : Journal) (refusal : Refusal)
    → j ≡ unused → is_why refusal → Stayed old new → Declined (run_of old new out out (report_of (refused_end refusal) j)) is_why
declined is_why old new out j refusal same why stayed = record {
  refusal = refusal;
  ends = refl;
  why = why;
  wrote = Grew-none out;
  nothing = nothing_done old new out out j (refused_end refusal) same stayed;
}

-- the same, of the result that stands for it
pub declined_err : (is_why : Refusal → Type 0) (old new : DiskView) (out : SinkView) (j : Journal) (r : Result (Unit {0}) (End NoFault))
    (refusal : Refusal) → r ≡ Err (refused_end refusal) → j ≡ unused → is_why refusal → Stayed old new
    → Declined (run_of old new out out (report_of (end_in r) j)) is_why
declined_err is_why old new out j r refusal is same why stayed =
    subst (λ (z : Result (Unit {0}) (End NoFault)). Declined (run_of old new out out (report_of (end_in z) j)) is_why) (sym is)
    (declined is_why old new out j refusal same why stayed)

-- a run of which a world stayed the same leaves nothing
pub left_stayed : (old new : DiskView) (out out' : SinkView) (report : Report NoFault) → Stayed old new → old.orders ≡ []
    → LeavesNothing (run_of old new out out' report)
left_stayed old new out out' report stayed none =
    record { none = stayed.orders ∙ none; begins = (let same = stayed.begins in omega arith) }

-- a run that leaves nothing from when its manifest was read leaves nothing
pub left_from : (old mid new : DiskView) (out out' : SinkView) (report : Report NoFault) → Stayed old mid → new.orders ≡ []
    → new.begins ≤ mid.begins + length report.starts → LeavesNothing (run_of old new out out' report)
left_from old mid new out out' report stayed none begins =
    record { none = none; begins = (let same = stayed.begins in omega arith) }

-- words that ask for no job
pub no_course : (answers : Answers) (job : Read Job) (old new : DiskView) (out : SinkView) (j : Journal) (refusal : Refusal)
    → j ≡ unused → IsNoJob job refusal → Stayed old new → Course answers (run_of old new out out (report_of (refused_end refusal) j)) job
no_course answers job old new out j _ same (courses.misused {fault} is) stayed =
    subst (λ (r : Read Job). Course answers (run_of old new out out (report_of (ends.Usage fault) j)) r) (sym is)
    (declined _ old new out j (refusals.Usage fault) same courses.usage stayed)
no_course answers (Err fault) old new out j _ same courses.no_memory stayed = declined _ old new out j refusals.NoMemory same courses.no_memory stayed
no_course answers (Ok (jobs.Build file db serial target settings)) old new out j _ same courses.no_memory stayed =
    inl (declined _ old new out j refusals.NoMemory same plans.no_memory stayed)
no_course answers (Ok (jobs.Parse file)) old new out j _ same courses.no_memory stayed =
    inl (declined _ old new out j refusals.NoMemory same plans.no_memory stayed)
no_course answers (Ok (jobs.Dump db)) old new out j _ same courses.no_memory stayed =
    declined _ old new out j refusals.NoMemory same courses.no_memory stayed
no_course answers (Ok (jobs.Rehearse script)) old new out j _ same courses.no_memory stayed =
    declined _ old new out j refusals.NoMemory same courses.no_memory stayed
no_course answers (Ok (jobs.Generate number size)) old new out j _ same courses.no_memory stayed =
    declined _ old new out j refusals.NoMemory same courses.no_memory stayed

-- all that is said of a run, by its course
pub served : (answers : Answers) (run : Run) (words : List (List ℕ)) (job : Read Job) → served_job words ≡ job → Course answers run job
    → LeavesNothing run → Served answers run words
served answers run words job is course left =
    let same : Course answers run (served_job words) = subst (Course answers run) (sym is) course in
    record { course = same; complete = well_done answers run (served_job words) same; left = left }

-- a world that nothing was asked of
pub stayed_self : (d : DiskView) → Stayed d d
stayed_self d = record {
  keeps = record { infos = λ t. t; contents = λ m t. t };
  same = λ t. refl;
  later = omega arith;
  orders = refl;
  begins = refl;
}

-- a run whose words ask for no job
pub served_none : (answers : Answers) (words : List (List ℕ)) (old : DiskView) (out : SinkView) (j : Journal)
    (r : Result (Unit {0}) (End NoFault)) (refusal : Refusal) → r ≡ Err (refused_end refusal) → j ≡ unused → old.orders ≡ []
    → IsNoJob (served_job words) refusal → Served answers (run_of old old out out (report_of (end_in r) j)) words
served_none answers words old out j r refusal is same none why =
    subst (λ (z : Result (Unit {0}) (End NoFault)). Served answers (run_of old old out out (report_of (end_in z) j)) words) (sym is)
    (served answers (run_of old old out out (report_of (refused_end refusal) j)) words (served_job words) refl
    (no_course answers (served_job words) old old out j refusal same why (stayed_self old))
    (left_stayed old old out out (report_of (refused_end refusal) j) (stayed_self old) none))

-- a run whose words ask for a job that is not built yet
pub served_unbuilt : (answers : Answers) (words : List (List ℕ)) (old : DiskView) (out : SinkView) (j : Journal) (job : Read Job)
    → served_job words ≡ job → j ≡ unused → old.orders ≡ []
    → (Declined (run_of old old out out (report_of (ends.Usage faults.NotBuilt) j)) (IsMisuse faults.NotBuilt)
    → Course answers (run_of old old out out (report_of (ends.Usage faults.NotBuilt) j)) job)
    → Served answers (run_of old old out out (report_of (ends.Usage faults.NotBuilt) j)) words
served_unbuilt answers words old out j job is same none course =
    served answers (run_of old old out out (report_of (ends.Usage faults.NotBuilt) j)) words job is
    (course (declined (IsMisuse faults.NotBuilt) old old out j (refusals.Usage faults.NotBuilt) same courses.usage (stayed_self old)))
    (left_stayed old old out out (report_of (ends.Usage faults.NotBuilt) j) (stayed_self old) none)

-- a tree that was printed, or a beginning of its spelling
pub printed : (gave : Gave) (old new : DiskView) (out out' : SinkView) (file text : List ℕ) (end : End NoFault) → IsTreeText gave old new file text
    → Stayed old new → IsPrinted out out' text end → Printed gave (run_of old new out out' (report_of end unused)) file
printed gave old new out out' file text end is stayed wrote =
    record { text = text; is = is; wrote = wrote; nothing = nothing_done old new out out' unused end refl stayed }

why_from : (old mid new : DiskView) (out out' : SinkView) (report : Report NoFault) (plan : Plan) (result : Result (Unit {0}) Stop) → old.faults ≤ mid.faults
    → IsWhy (run_of mid new out out' report) plan result → IsWhy (run_of old new out out' report) plan result
why_from old mid new out out' report plan (Ok done) later why = why
why_from old mid new out out' report plan (Err (stops.CommandFailed command exit)) later why = why
why_from old mid new out out' report plan (Err (stops.MissingInput asker node)) later why = why
why_from old mid new out out' report plan (Err stops.DiskFault) later why = ((let rose = why.0 in omega arith), why.1)
why_from old mid new out out' report plan (Err stops.SinkFault) later why = why
why_from old mid new out out' report plan (Err stops.NoMemory) later why = tt

wrote_from : (old mid new : DiskView) (out out' : SinkView) (report : Report NoFault) (plan : Plan) (result : Result (Unit {0}) Stop)
    → Wrote (run_of mid new out out' report) plan result → Wrote (run_of old new out out' report) plan result
wrote_from old mid new out out' report plan (Ok done) wrote = wrote
wrote_from old mid new out out' report plan (Err (stops.CommandFailed command exit)) wrote = wrote
wrote_from old mid new out out' report plan (Err (stops.MissingInput asker node)) wrote = wrote
wrote_from old mid new out out' report plan (Err stops.DiskFault) wrote = wrote
wrote_from old mid new out out' report plan (Err stops.SinkFault) wrote = wrote
wrote_from old mid new out out' report plan (Err stops.NoMemory) wrote = wrote

-- a build is a run from before its manifest was read
did_from : (answers : Answers) (old mid new : DiskView) (out out' : SinkView) (report : Report NoFault) (plan : Plan) (result : Result (Unit {0}) Stop) → Stayed old mid
    → Did answers (run_of mid new out out' report) plan result → Did answers (run_of old new out out' report) plan result
did_from answers old mid new out out' report plan result stayed did = record {
  fresh = λ ok m t. (let fresh = did.fresh ok m t in record { fresh = fresh.fresh; there = fresh.there });
  once = did.once;
  sources = did.sources;
  started = did.started;
  orders = did.orders;
  heard = did.heard;
  stood = did.stood;
  inputs = did.inputs;
  missing = did.missing;
  failed = did.failed;
  wrote = wrote_from old mid new out out' report plan result did.wrote;
  end = why_from old mid new out out' report plan result stayed.later did.end;
  apart = moved_both (moved_stayed stayed) did.apart;
}

-- a run that was planned
pub planned : (answers : Answers) (old mid new : DiskView) (out out' : SinkView) (job : BuildJob) (j : Journal) (plan : Plan)
    (result : Result (Unit {0}) Stop) → IsPlan answers.gave old new job plan → Stayed old mid
    → Did answers (run_of mid new out out' (report_of (end_after result) j)) plan result
    → Planned answers (run_of old new out out' (report_of (end_after result) j)) job
planned answers old mid new out out' job j plan result is stayed did = record {
  plan = plan;
  is = is;
  result = result;
  ends = refl;
  did = did_from answers old mid new out out' (report_of (end_after result) j) plan result stayed did;
}

-- the same, of the result that stands for it
pub planned_err : (answers : Answers) (old mid new : DiskView) (out out' : SinkView) (job : BuildJob) (j : Journal) (plan : Plan)
    (r : Result (Unit {0}) (End NoFault)) (result : Result (Unit {0}) Stop) → end_in r ≡ end_after result
    → IsPlan answers.gave old new job plan → Stayed old mid
    → Did answers (run_of mid new out out' (report_of (end_after result) j)) plan result
    → Planned answers (run_of old new out out' (report_of (end_in r) j)) job
planned_err answers old mid new out out' job j plan r result same is stayed did =
    subst (λ (e : End NoFault). Planned answers (run_of old new out out' (report_of e j)) job) (sym same)
    (planned answers old mid new out out' job j plan result is stayed did)

-- the lines of all starts and the summary, in parts
some_all : (run : Run) (plan : Plan) → AllStarted plan.manifest.commands plan.target.nodes run.report.starts
    → Grew run.out run.out_new (lines_of run.report.starts ++ summary_text (length run.report.starts)) → WroteSome run plan
some_all run plan all wrote = record {
  text = summary_text (length run.report.starts);
  next = summary all;
  count = length (summary_text (length run.report.starts));
  grew = subst (λ (t : List ℕ). Grew run.out run.out_new (lines_of run.report.starts ++ t)) (sym (take_all (length (summary_text (length run.report.starts))) (summary_text (length run.report.starts)) (omega arith))) wrote;
}

some_lines : (run : Run) (plan : Plan) → Grew run.out run.out_new (lines_of run.report.starts) → WroteSome run plan
some_lines run plan wrote = no_part _ _ run.out run.out_new run.report.starts wrote

-- what was written is some of it
some_of : (run : Run) (plan : Plan) (result : Result (Unit {0}) Stop) → IsWhy run plan result → Wrote run plan result → WroteSome run plan
some_of run plan (Ok done) why wrote = some_all run plan why.started wrote
some_of run plan (Err (stops.CommandFailed command exit)) why wrote = some_lines run plan wrote
some_of run plan (Err (stops.MissingInput asker node)) why wrote = some_lines run plan wrote
some_of run plan (Err stops.DiskFault) why wrote = some_lines run plan wrote
some_of run plan (Err stops.SinkFault) why wrote = wrote
some_of run plan (Err stops.NoMemory) why wrote = wrote

-- the same nothing, of a report whose failure could not be told
nothing_forgotten : (old new : DiskView) (out out' : SinkView) (report : Report NoFault) → DidNothing (run_of old new out out' report)
    → DidNothing (run_of old new out out' (without_memory report))
nothing_forgotten old new out out' report d = record { starts = d.starts; stats = d.stats; heard = d.heard; stayed = d.stayed }

declined_forgotten : (is_why is : Refusal → Type 0) (old new : DiskView) (out out' : SinkView) (report : Report NoFault) → is refusals.NoMemory
    → Declined (run_of old new out out' report) is_why → Declined (run_of old new out out' (without_memory report)) is
declined_forgotten is_why is old new out out' report why d = record {
  refusal = refusals.NoMemory;
  ends = refl;
  why = why;
  wrote = d.wrote;
  nothing = nothing_forgotten old new out out' report d.nothing;
}

planned_forgotten : (answers : Answers) (old new : DiskView) (out out' : SinkView) (job : BuildJob) (report : Report NoFault)
    → Planned answers (run_of old new out out' report) job → Planned answers (run_of old new out out' (without_memory report)) job
planned_forgotten answers old new out out' job report p = record {
  plan = p.plan;
  is = p.is;
  result = Err stops.NoMemory;
  ends = refl;
  did = record {
    fresh = λ ok. cc ok;
    once = p.did.once;
    sources = p.did.sources;
    started = p.did.started;
    orders = record { each = p.did.orders.each; once = p.did.orders.once; few = p.did.orders.few };
    heard = p.did.heard;
    stood = p.did.stood;
    inputs = record { started = p.did.inputs.started; orders = p.did.inputs.orders };
    missing = λ asker node stuck done ended. inr refl;
    failed = λ h exit i e. inr refl;
    wrote = (let some = some_of (run_of old new out out' report) p.plan p.result p.did.end p.did.wrote in
        record { text = some.text; next = some.next; count = some.count; grew = some.grew });
    end = tt;
    apart = p.did.apart;
  };
}

-- what was printed is a beginning of the text
part_of : (old new : SinkView) (text : List ℕ) (end : End NoFault) → IsPrinted old new text end → GrewByPart old new text
part_of old new text _ (courses.whole grew) =
    (length text, subst (λ (t : List ℕ). Grew old new t) (sym (take_all (length text) text (omega arith))) grew)
part_of old new text _ (courses.part failed grew) = grew
part_of old new text _ (courses.no_memory grew) = grew

printed_forgotten : (gave : Gave) (old new : DiskView) (out out' : SinkView) (file : List ℕ) (report : Report NoFault)
    → Printed gave (run_of old new out out' report) file → Printed gave (run_of old new out out' (without_memory report)) file
printed_forgotten gave old new out out' file report p = record {
  text = p.text;
  is = p.is;
  wrote = courses.no_memory (part_of out out' p.text report.end p.wrote);
  nothing = nothing_forgotten old new out out' report p.nothing;
}

-- the course of a run whose failure could not be told
course_forgotten : (answers : Answers) (old new : DiskView) (out out' : SinkView) (job : Read Job) (report : Report NoFault)
    → Course answers (run_of old new out out' report) job → Course answers (run_of old new out out' (without_memory report)) job
course_forgotten answers old new out out' (Err fault) report d = declined_forgotten _ _ old new out out' report courses.no_memory d
course_forgotten answers old new out out' (Ok (jobs.Build file db serial target settings)) report (inl d) =
    inl (declined_forgotten _ _ old new out out' report plans.no_memory d)
course_forgotten answers old new out out' (Ok (jobs.Build file db serial target settings)) report (inr p) =
    inr (planned_forgotten answers old new out out' (build_job file target) report p)
course_forgotten answers old new out out' (Ok (jobs.Parse file)) report (inl d) =
    inl (declined_forgotten _ _ old new out out' report plans.no_memory d)
course_forgotten answers old new out out' (Ok (jobs.Parse file)) report (inr p) =
    inr (printed_forgotten answers.gave old new out out' file report p)
course_forgotten answers old new out out' (Ok (jobs.Dump db)) report d = declined_forgotten _ _ old new out out' report courses.no_memory d
course_forgotten answers old new out out' (Ok (jobs.Rehearse script)) report d = declined_forgotten _ _ old new out out' report courses.no_memory d
course_forgotten answers old new out out' (Ok (jobs.Generate number size)) report d =
    declined_forgotten _ _ old new out out' report courses.no_memory d

forgotten : (answers : Answers) (old new : DiskView) (out out' : SinkView) (words : List (List ℕ)) (report : Report NoFault)
    → Served answers (run_of old new out out' report) words → Served answers (run_of old new out out' (without_memory report)) words
forgotten answers old new out out' words report s =
    served answers (run_of old new out out' (without_memory report)) words (served_job words) refl
    (course_forgotten answers old new out out' (served_job words) report s.course) (record { none = s.left.none; begins = s.left.begins })

-- a run that was told, or could not be
pub told_or_not : (answers : Answers) (old new : DiskView) (out out' : SinkView) (words : List (List ℕ)) (report told : Report NoFault) → (told ≡ report) ⊎ (told ≡ without_memory report)
    → Served answers (run_of old new out out' report) words → Served answers (run_of old new out out' told) words
told_or_not answers old new out out' words report told (inl same) s = subst (λ (r : Report NoFault). Served answers (run_of old new out out' r) words) (sym same) s
told_or_not answers old new out out' words report told (inr none) s =
    subst (λ (r : Report NoFault). Served answers (run_of old new out out' r) words) (sym none) (forgotten answers old new out out' words report s)
