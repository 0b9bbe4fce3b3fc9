-- What is said of runs, of files in memory without a premise.
use Rattle.std.proofs.Common.{◌≡◌, ◌++◌, [], ℕ, List, length, refl, sym, ◌∙◌, ap, subst, inl, inr}
use Rattle.std.specs.Prelude.{Option, Some, None, Result, Ok, Err}
use Rattle.file_info.proofs.Lists.{In-map, In-map-back}
use Rattle.file_info.specs.Content.{Content, Absent, FileVersion, content, node_text}
use Rattle.file_info.specs.Lists.{In}
use Rattle.file_info.specs.declared.info.Info.{Info}
use Rattle.file_info.specs.declared.info.Form.TheVariants.{Follow}
use Rattle.outside.specs.declared.order.Exit.{Exit}
use Rattle.outside.specs.declared.order.Order.{Order}
use Rattle.outside.specs.declared.world.NoFault.{NoFault}
use Rattle.outside.specs.FileRead.{bytes_of}
use Rattle.outside.specs.View.{DiskView, SinkView, Grew}
use Rattle.memory_files.specs.declared.write.Write.{Write}
use Rattle.memory_files.specs.Log.{last_of, info_of, content_of, standing, map_of, Tells}
use Rattle.memory_world.specs.Memory.{Memory, view_of}
use Rattle.memory_world.specs.Sinks.{Written}
use Rattle.memory_world.specs.Toy.{ToyDoes, toy-function}
use Rattle.memory_files.proofs.LogLemmas.{standing-told, last-in}
use Rattle.build_manifest.specs.declared.command.Command.{Command}
use Rattle.build_manifest.specs.declared.command.Input.{Input}
use Rattle.build_meaning.specs.Fresh.{Does, Sights, IsMade, Fresh, source, made}
use Rattle.build_meaning.specs.Unique.{SawOnce}
use Rattle.build_meaning.proofs.OrderlyLemmas.{orderly}
use Rattle.build_meaning.proofs.FreshLemmas.{IsDetermined, Fresh-unique}
use Rattle.llbuild_cli.specs.declared.refusal.Refusal.{Refusal}
use Rattle.llbuild_cli.specs.declared.refusal.Refusal.TheVariants as refusals
use Rattle.build_report.specs.declared.report.End.{End}
use Rattle.build_report.specs.declared.report.End.TheVariants as ends
use Rattle.build_report.specs.declared.report.Report.{Report}
use Rattle.llbuild_cli.specs.declared.stop.Stop.{Stop}
use Rattle.llbuild_cli.specs.declared.stop.Stop.TheVariants as stops
use Rattle.command_line.specs.Fault.{Read}
use Rattle.command_line.specs.declared.job.Job.{Job}
use Rattle.command_line.specs.declared.job.Job.TheVariants as jobs
use Rattle.llbuild_cli.specs.Course as courses
use Rattle.llbuild_cli.specs.Course.{Course, Declined, IsPrinted, Planned, Printed}
use Rattle.llbuild_cli.specs.InMemory.{FreshInMemory, FreshOf, MadeInMemory, SpelledInMemory, WroteInMemory, files_of, seen_in}
use Rattle.llbuild_cli.specs.Plan.{BuildJob, Gave, build_job, plan_of, manifest_max, refused_end}
use Rattle.llbuild_cli.specs.Run.{Run, Wrote, answers_of, run_of}
use Rattle.llbuild_cli.specs.Sight.{sights_of}
use Rattle.llbuild_cli.specs.Stop.{end_of, end_after}
use Rattle.build_report.specs.Text.{lines_of, summary_text}
use Rattle.llbuild_cli.proofs.InputLemmas.{is_missing}

-- each source that is there was seen with the same content by another map
abbrev SeesSame : List Command → List FileVersion → Sights → List FileVersion → Sights → Type 0
SeesSame cs m seen n sees = (q : List ℕ) (i : Info) → (IsMade cs q → ⊥) → In (q, i) seen → (content m q i ≡ Absent → ⊥)
    → (j : Info) × (In (q, j) sees × (content m q i ≡ content n q j))

-- a fresh content that is there is fresh where the same is seen
pub Fresh-on : {does : Does} {m n : List FileVersion} {cs : List Command} {seen sees : Sights} {p : List ℕ} {x : Content} → SeesSame cs m seen n sees
    → (x ≡ Absent → ⊥) → Fresh does m cs seen p x → Fresh does n cs sees p x
Fresh-on same here (source {p} i free at is) = (let (j, k) = same p i free at (λ none. here (is ∙ none)) in source j free k.0 (is ∙ k.1))
Fresh-on same here (made c d o k ic names there fresh done at is) =
    made c d o k ic names there (λ q y h. Fresh-on same (there q y h) (fresh q y h)) done at is

-- a path that is not absent is one of the files
file_in : (ws : List Write) (p : List ℕ) → (standing ws p Follow ≡ Absent → ⊥) → In (p, info_of (last_of ws p) Follow) (files_of ws)
file_in ws p here = go (last_of ws p) refl here
  where
    go : (o : Option Write) → last_of ws p ≡ o → (content_of o Follow ≡ Absent → ⊥) → In (p, info_of (last_of ws p) Follow) (files_of ws)
    go None e h = absurd (h refl)
    go (Some w) e h =
        let (i, same) = last-in ws p w e in
        subst (λ (q : List ℕ). In (q, info_of (last_of ws q) Follow) (files_of ws)) same (In-map (λ (z : Write). (z.path, info_of (last_of ws z.path) Follow)) w ws i)

-- what stands is the one information of a file
file_at : (ws : List Write) (p : List ℕ) (i : Info) → In (p, i) (files_of ws) → i ≡ info_of (last_of ws p) Follow
file_at ws p i h =
    let (w, at, e) = In-map-back (λ (z : Write). (z.path, info_of (last_of ws z.path) Follow)) (p, i) ws h in
    ap (λ (z : List ℕ × Info). z.1) e ∙ ap (λ (q : List ℕ). info_of (last_of ws q) Follow) (sym (ap (λ (z : List ℕ × Info). z.0) e))

files_once : (ws : List Write) → SawOnce (files_of ws)
files_once ws p i j a b = file_at ws p i a ∙ sym (file_at ws p j b)

toy_determined : IsDetermined ToyDoes
toy_determined s d o q a b = (toy-function s d [] [] o q a b (λ p x y h. absurd h)).1

-- what is seen of a run that left these files, and its end
abbrev pub PlannedOn : Gave → (DiskView → Order → Exit → Type 0) → Memory → Memory → SinkView → SinkView → Report NoFault → BuildJob → Type 0
PlannedOn gave ended old new out out' report job = Planned (answers_of ToyDoes ended gave) (run_of (view_of old) (view_of new) out out' report) job

fresh_planned : (gave : Gave) (ended : DiskView → Order → Exit → Type 0) (old new : Memory) (out out' : SinkView) (report : Report NoFault) (job : BuildJob)
    → Tells old.writes (map_of old.writes) → Tells new.writes (map_of new.writes) → report.end ≡ ends.Ok → PlannedOn gave ended old new out out' report job
    → FreshInMemory old.writes new.writes job
fresh_planned gave ended old new out out' report job told tells ok p =
    let n = map_of old.writes in
    let m = map_of new.writes in
    let plan = p.plan in
    let cs = plan.manifest.commands in
    let keeps : Tells old.writes m = p.did.apart.keeps.contents m tells in
    let after = λ (q : List ℕ). standing-told new.writes m tells q Follow in
    let before = λ (q : List ℕ). standing-told old.writes m keeps q Follow in
    let entry = λ (q : List ℕ). standing-told old.writes n told q Follow in
    let file : p.is.found.answer ≡ bytes_of manifest_max (standing old.writes job.file Follow) =
    p.is.found.read.is m tells ∙ ap (bytes_of manifest_max) (before job.file) in
    let stood = λ (q : List ℕ) (i : Info) (free : IsMade cs q → ⊥) (at : In (q, i) (sights_of report.stats)).
    sym (p.did.stood tt q i (inl at)) ∙ p.did.apart.same tt q Follow (λ w. free (record { by = w.0; named = w.1.0; output = w.1.1.1 })) in
    let same : SeesSame cs m (sights_of report.stats) n (files_of old.writes) =
    λ q i free at here.
    let is : i ≡ info_of (last_of old.writes q) Follow = stood q i free at in
    let content_is : content m q i ≡ standing old.writes q Follow = ap (content m q) is ∙ before q in
    (info_of (last_of old.writes q) Follow, (file_in old.writes q (λ none. here (content_is ∙ none)), content_is ∙ sym (entry q))) in
    let all = p.did.fresh ok m tells in
    let there = λ (i : Input) (h : In i plan.target.nodes) (none : standing new.writes (node_text i.node) Follow ≡ Absent).
    all.there i h (is_missing m (node_text i.node) _ (after (node_text i.node) ∙ none)) in
    record {
      plan = plan;
      is = ap (plan_of job) (sym file) ∙ p.is.found.is;
      fresh = λ i h x.
          let path = node_text i.node in
          let exit = standing new.writes path Follow in
          let fresh : Fresh ToyDoes n cs (files_of old.writes) path exit =
          Fresh-on same (there i h) (subst (λ (z : Content). Fresh ToyDoes m cs (sights_of report.stats) path z) (after path) (all.fresh i h)) in (
            (λ other. Fresh-unique toy_determined (orderly plan.manifest p.is.kept).makers (files_once old.writes) other exit fresh),
            (λ e. subst (λ (z : Content). FreshOf old.writes plan path z) (sym e) fresh),
          );
      there = there;
    }

refused_not_ok : (r : Refusal) → refused_end {F = NoFault} r ≡ ends.Ok → ⊥
refused_not_ok (refusals.Usage fault) e = cc e
refused_not_ok (refusals.NoFile path) e = cc e
refused_not_ok (refusals.Manifest error) e = cc e
refused_not_ok (refusals.UnknownTarget name) e = cc e
refused_not_ok refusals.NoDefault e = cc e
refused_not_ok (refusals.NotBuilt asker) e = cc e
refused_not_ok (refusals.LaterMaker command node) e = cc e
refused_not_ok refusals.DiskFault e = cc e
refused_not_ok refusals.NoMemory e = cc e

stop_not_ok : (stop : Stop) → end_of {F = NoFault} stop ≡ ends.Ok → ⊥
stop_not_ok (stops.CommandFailed command exit) e = cc e
stop_not_ok (stops.MissingInput asker node) e = cc e
stop_not_ok stops.DiskFault e = cc e
stop_not_ok stops.SinkFault e = cc e
stop_not_ok stops.NoMemory e = cc e

grew_in_memory : (old new : Written) (piece : List ℕ) → Grew (seen_in old) (seen_in new) piece → new.items ≡ old.items ++ piece
grew_in_memory old new piece grew =
    let (a, was, is) = grew new.items refl in
    let same : old.items ≡ a = cc was in
    is ∙ ap (λ (b : List ℕ). b ++ piece) (sym same)

-- a run that was declined did not end so
declined_not_ok : (is_why : Refusal → Type 0) (run : Run) → Declined run is_why → run.report.end ≡ ends.Ok → ⊥
declined_not_ok is_why run d ok = refused_not_ok d.refusal (sym d.ends ∙ ok)

-- at success all lines and the summary were written
wrote_planned : (gave : Gave) (ended : DiskView → Order → Exit → Type 0) (old new : Memory) (out out' : Written) (report : Report NoFault) (job : BuildJob)
    → report.end ≡ ends.Ok → PlannedOn gave ended old new (seen_in out) (seen_in out') report job
    → out'.items ≡ out.items ++ (lines_of report.starts ++ summary_text (length report.starts))
wrote_planned gave ended old new out out' report job ok p = go p.result p.ends p.did.wrote
  where
    go : (r : Result (Unit {0}) Stop) → report.end ≡ end_after r → Wrote (run_of (view_of old) (view_of new) (seen_in out) (seen_in out') report) p.plan r
        → out'.items ≡ out.items ++ (lines_of report.starts ++ summary_text (length report.starts))
    go (Ok done) e wrote = grew_in_memory out out' (lines_of report.starts ++ summary_text (length report.starts)) wrote
    go (Err stop) e wrote = absurd (stop_not_ok stop (sym e ∙ ok))

-- at success all of the spelling was written
whole_printed : (out out' : Written) (text : List ℕ) (end : End NoFault) → end ≡ ends.Ok → IsPrinted (seen_in out) (seen_in out') text end
    → out'.items ≡ out.items ++ text
whole_printed out out' text _ ok (courses.whole grew) = grew_in_memory out out' text grew
whole_printed out out' text _ ok (courses.part failed grew) = cc ok
whole_printed out out' text _ ok (courses.no_memory grew) = cc ok

wrote_printed : (gave : Gave) (old new : Memory) (out out' : Written) (report : Report NoFault) (file : List ℕ)
    → Tells new.writes (map_of new.writes) → report.end ≡ ends.Ok
    → Printed gave (run_of (view_of old) (view_of new) (seen_in out) (seen_in out') report) file
    → SpelledInMemory old.writes file out.items out'.items
wrote_printed gave old new out out' report file tells ok p =
    let m = map_of new.writes in
    let keeps : Tells old.writes m = p.nothing.stayed.keeps.contents m tells in
    record {
      bytes = p.is.opened.bytes;
      stood = sym (p.is.opened.read.is m tells ∙ ap (bytes_of manifest_max) (standing-told old.writes m keeps file Follow));
      manifest = p.is.manifest;
      accepted = p.is.opened.loads;
      text = p.text;
      spelled = p.is.tree;
      wrote = whole_printed out out' p.text report.end ok p.wrote;
    }

-- what a run that succeeded made, by its course
pub made_in_memory : (gave : Gave) (ended : DiskView → Order → Exit → Type 0) (old new : Memory) (out out' : SinkView) (report : Report NoFault) (job : Read Job)
    → Tells old.writes (map_of old.writes) → Tells new.writes (map_of new.writes) → report.end ≡ ends.Ok
    → Course (answers_of ToyDoes ended gave) (run_of (view_of old) (view_of new) out out' report) job → MadeInMemory old.writes new.writes job
made_in_memory gave ended old new out out' report (Err fault) told tells ok d = declined_not_ok _ _ d ok
made_in_memory gave ended old new out out' report (Ok (jobs.Build file db serial target settings)) told tells ok (inl d) = absurd (declined_not_ok _ _ d ok)
made_in_memory gave ended old new out out' report (Ok (jobs.Build file db serial target settings)) told tells ok (inr p) =
    fresh_planned gave ended old new out out' report (build_job file target) told tells ok p
made_in_memory gave ended old new out out' report (Ok (jobs.Parse file)) told tells ok course = tt
made_in_memory gave ended old new out out' report (Ok (jobs.Dump db)) told tells ok d = declined_not_ok _ _ d ok
made_in_memory gave ended old new out out' report (Ok (jobs.Rehearse script)) told tells ok d = declined_not_ok _ _ d ok
made_in_memory gave ended old new out out' report (Ok (jobs.Generate number size)) told tells ok d = declined_not_ok _ _ d ok

-- what a run that succeeded wrote, by its course
pub wrote_in_memory : (gave : Gave) (ended : DiskView → Order → Exit → Type 0) (old new : Memory) (out out' : Written) (report : Report NoFault) (job : Read Job)
    → Tells new.writes (map_of new.writes) → report.end ≡ ends.Ok
    → Course (answers_of ToyDoes ended gave) (run_of (view_of old) (view_of new) (seen_in out) (seen_in out') report) job
    → WroteInMemory old.writes report.starts out.items out'.items job
wrote_in_memory gave ended old new out out' report (Err fault) tells ok d = declined_not_ok _ _ d ok
wrote_in_memory gave ended old new out out' report (Ok (jobs.Build file db serial target settings)) tells ok (inl d) = absurd (declined_not_ok _ _ d ok)
wrote_in_memory gave ended old new out out' report (Ok (jobs.Build file db serial target settings)) tells ok (inr p) =
    wrote_planned gave ended old new out out' report (build_job file target) ok p
wrote_in_memory gave ended old new out out' report (Ok (jobs.Parse file)) tells ok (inl d) = absurd (declined_not_ok _ _ d ok)
wrote_in_memory gave ended old new out out' report (Ok (jobs.Parse file)) tells ok (inr p) =
    wrote_printed gave old new out out' report file tells ok p
wrote_in_memory gave ended old new out out' report (Ok (jobs.Dump db)) tells ok d = declined_not_ok _ _ d ok
wrote_in_memory gave ended old new out out' report (Ok (jobs.Rehearse script)) tells ok d = declined_not_ok _ _ d ok
wrote_in_memory gave ended old new out out' report (Ok (jobs.Generate number size)) tells ok d = declined_not_ok _ _ d ok
