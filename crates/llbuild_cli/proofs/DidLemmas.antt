-- What holds of a run by its plan, from what holds of its build.
use Rattle.std.proofs.Common.{◌≡◌, ◌∙◌, ◌++◌, ◌∷◌, [], ℕ, List, length, refl, sym, ap, subst, inl, inr}
use Rattle.std.specs.Prelude.{Result, Ok, Err}
use Rattle.file_info.proofs.Lists.{In-either, In-map-back, In-one}
use Rattle.file_info.specs.Content.{FileVersion}
use Rattle.file_info.specs.Lists.{In}
use Rattle.file_info.specs.declared.info.Info.{Info}
use Rattle.outside.specs.View.{DiskView, SinkView, Tells, Grew, Stayed}
use Rattle.outside.specs.declared.order.Exit.{Exit}
use Rattle.outside.specs.declared.world.NoFault.{NoFault}
use Rattle.build_meaning.specs.Fresh.{IsMade}
use Rattle.build_report.specs.declared.report.End.{End}
use Rattle.build_report.specs.declared.report.End.TheVariants as ends
use Rattle.build_report.specs.declared.report.Heard.{Heard}
use Rattle.build_report.specs.declared.report.Outcome.{Outcome}
use Rattle.build_report.specs.declared.report.Outcome.TheVariants.{Failed}
use Rattle.build_report.specs.declared.report.Start.{Start}
use Rattle.build_report.specs.declared.report.StatSeen.{StatSeen}
use Rattle.llbuild_cli.specs.declared.stop.Stop.{Stop}
use Rattle.llbuild_cli.specs.declared.stop.Stop.TheVariants as stops
use Rattle.llbuild_cli.specs.MissingInput.{AllReadFirst, StopsAtMissing}
use Rattle.llbuild_cli.specs.BuildStop.{IsLastFailed, IsBuildStop, IsWritten}
use Rattle.llbuild_cli.specs.Outcome.{AllDone, AllEnded, AreInStep, AreOrders, HeardWell, IsDone}
use Rattle.llbuild_cli.specs.Journal.{Journal, Knows, IsOnce}
use Rattle.llbuild_cli.specs.Look.{CameFrom, Looked}
use Rattle.llbuild_cli.specs.Move.{Moved}
use Rattle.llbuild_cli.specs.Plan.{Plan}
use Rattle.llbuild_cli.specs.Output.{WroteStopped}
use Rattle.llbuild_cli.specs.Input.{WereRead}
use Rattle.llbuild_cli.specs.CommandRun.{SeenStands, IsInput}
use Rattle.llbuild_cli.specs.Run.{Answers, AreFresh, Did, EndsAtFailed, EndsAtMissing, IsStop, IsStuckAt, Wrote, report_of, run_of}
use Rattle.llbuild_cli.specs.Sight.{sights_of}
use Rattle.llbuild_cli.specs.Source.{AreSources, IsAsked}
use Rattle.llbuild_cli.specs.Start.{AreStarts, AllStarted, IsNextStart}
use Rattle.llbuild_cli.specs.Stop.{end_of, end_after}
use Rattle.build_report.specs.Text.{lines_of, summary_text}
use Rattle.llbuild_cli.proofs.MissingLemmas.{first_looked_on}
use Rattle.llbuild_cli.proofs.ProgressLemmas.{looked_sources, moved_both, moved_stayed}
use Rattle.llbuild_cli.proofs.JournalLemmas.{sight_in}
use Rattle.llbuild_cli.proofs.CommandLemmas.{heard_on, heard_same, seen_stands_looked}
use Rattle.llbuild_cli.proofs.TicketLemmas.{orders_of, each_ended, all_ended}

-- what holds of a build, however it ended
pub record WasBuilt (answers : Answers) (old new : DiskView) (plan : Plan) (j : Journal) : Type 0 where
  pub once : IsOnce j
  pub sources : AreSources plan j.stats
  pub started : AreStarts plan.manifest.commands plan.target.nodes j.starts
  pub step : AreInStep j.starts j.heard
  pub orders : AreOrders plan.manifest.commands j.heard
  pub heard : HeardWell answers.ended answers.does new j.heard
  pub stood : SeenStands new j
  pub read : AllReadFirst plan.manifest.commands (Knows j) j.starts j.heard
  pub apart : Moved (IsWritten plan.manifest.commands j.starts) old new

not_done : (h : Heard) (exit : Exit) → h.outcome ≡ Failed exit → IsDone h.outcome → ⊥
not_done h exit e done = subst (λ (o : Outcome). IsDone o) e done

last_failed : (heard : List Heard) (h : Heard) (command : List ℕ) (exit failed : Exit) → IsLastFailed heard command exit → In h heard → h.outcome ≡ Failed failed
    → (command ≡ h.order.command) × (exit ≡ failed)
last_failed heard h command exit failed last i e = elim (In-either h last.before (last.last ∷ []) (subst (λ (hs : List Heard). In h hs) last.heard_are i)) [
  | inl k ↦ absurd (not_done h failed e (last.done h k))
  | inr k ↦
      (let same = In-one k in
      let outcome : last.last.outcome ≡ h.outcome = ap (λ (x : Heard). x.outcome) (sym same) in
      let both : Failed exit ≡ Failed failed = sym last.failed ∙ outcome ∙ e in
      (sym last.named ∙ ap (λ (x : Heard). x.order.command) (sym same), cc both))
]

-- an order that failed ends a build so
failed_stop : (disk disk' sink sink' : ℕ) (plan : Plan) (j : Journal) (stop : Stop) → IsBuildStop disk disk' sink sink' (Knows j) plan.manifest.commands plan.target j.starts j.heard stop
    → EndsAtFailed (report_of (end_of stop) j)
failed_stop disk disk' sink sink' plan j (stops.CommandFailed command exit) why h failed i e = (let same = last_failed j.heard h command exit failed why.0 i e in inl (cc (same.0, same.1)))
failed_stop disk disk' sink sink' plan j (stops.MissingInput asker node) why h failed i e = absurd (not_done h failed e (why.1 h i))
failed_stop disk disk' sink sink' plan j stops.DiskFault why h failed i e = absurd (not_done h failed e (why.1 h i))
failed_stop disk disk' sink sink' plan j stops.SinkFault why h failed i e = absurd (not_done h failed e (why.1 h i))
failed_stop disk disk' sink sink' plan j stops.NoMemory why h failed i e = inr refl

-- what is next and lacks an input ends a build so
missing_stop : (answers : Answers) (old new : DiskView) (plan : Plan) (j : Journal) (stop : Stop) → WasBuilt answers old new plan j → StopsAtMissing plan.manifest.commands plan.target (Knows j) j.starts j.heard stop
    → EndsAtMissing plan (report_of (end_of stop) j)
missing_stop answers old new plan j stop built stops asker node stuck done each =
    elim (stops asker node stuck done (all_ended plan.manifest.commands (report_of (end_of stop) j) built.step built.orders each)) [
      | inl e ↦ inl (ap (λ (s : Stop). end_of {F = NoFault} s) e)
      | inr e ↦ inr (ap (λ (s : Stop). end_of {F = NoFault} s) e)
    ]

why_stop : (answers : Answers) (old new : DiskView) (out out' : SinkView) (plan : Plan) (j : Journal) (end : End NoFault) (stop : Stop) → WasBuilt answers old new plan j
    → IsBuildStop old.faults new.faults out.faults out'.faults (Knows j) plan.manifest.commands plan.target j.starts j.heard stop → IsStop (run_of old new out out' (report_of end j)) plan stop
why_stop answers old new out out' plan j end (stops.CommandFailed command exit) built why = (why.0, each_ended plan.manifest.commands (report_of end j) built.orders why.1)
why_stop answers old new out out' plan j end (stops.MissingInput asker node) built why = (why.0, why.1, each_ended plan.manifest.commands (report_of end j) built.orders why.2)
why_stop answers old new out out' plan j end stops.DiskFault built why = why
why_stop answers old new out out' plan j end stops.SinkFault built why = (why.0, why.1, each_ended plan.manifest.commands (report_of end j) built.orders why.2)
why_stop answers old new out out' plan j end stops.NoMemory built why = tt

wrote_stop : (old new : DiskView) (out out' : SinkView) (plan : Plan) (j : Journal) (end : End NoFault) (stop : Stop)
    → WroteStopped (IsNextStart plan.manifest.commands plan.target.nodes j.starts) (AllStarted plan.manifest.commands plan.target.nodes j.starts) out out' j.starts stop
    → Wrote (run_of old new out out' (report_of end j)) plan (Err stop)
wrote_stop old new out out' plan j end (stops.CommandFailed command exit) wrote = wrote
wrote_stop old new out out' plan j end (stops.MissingInput asker node) wrote = wrote
wrote_stop old new out out' plan j end stops.DiskFault wrote = wrote
wrote_stop old new out out' plan j end stops.SinkFault wrote = wrote
wrote_stop old new out out' plan j end stops.NoMemory wrote = wrote

not_ok : (stop : Stop) → ◌≡◌ {A = End NoFault} (end_of stop) ends.Ok → ⊥
not_ok (stops.CommandFailed command exit) e = cc e
not_ok (stops.MissingInput asker node) e = cc e
not_ok stops.DiskFault e = cc e
not_ok stops.SinkFault e = cc e
not_ok stops.NoMemory e = cc e

-- a build that stopped
pub did_stop : (answers : Answers) (old new : DiskView) (out out' : SinkView) (plan : Plan) (j : Journal) (r : Result (Unit {0}) Stop) (stop : Stop) → r ≡ Err stop
    → WasBuilt answers old new plan j
    → StopsAtMissing plan.manifest.commands plan.target (Knows j) j.starts j.heard stop
    → WroteStopped (IsNextStart plan.manifest.commands plan.target.nodes j.starts) (AllStarted plan.manifest.commands plan.target.nodes j.starts) out out' j.starts stop
    → IsBuildStop old.faults new.faults out.faults out'.faults (Knows j) plan.manifest.commands plan.target j.starts j.heard stop
    → Did answers (run_of old new out out' (report_of (end_after r) j)) plan r
did_stop answers old new out out' plan j r stop same built missing wrote why =
    subst (λ (z : Result (Unit {0}) Stop). Did answers (run_of old new out out' (report_of (end_after z) j)) plan z) (sym same) (record {
      fresh = λ ok. absurd (not_ok stop ok);
      once = built.once.single;
      sources = built.sources;
      started = built.started;
      orders = orders_of plan.manifest.commands (report_of (end_of stop) j) built.step built.orders;
      heard = λ h i. record { given = built.heard.given h i; lawful = λ m t. built.heard.lawful m t h i };
      stood = built.stood;
      inputs = record { started = built.read.started; orders = built.read.orders };
      missing = missing_stop answers old new plan j stop built missing;
      failed = failed_stop old.faults new.faults out.faults out'.faults plan j stop why;
      wrote = wrote_stop old new out out' plan j (end_of stop) stop wrote;
      end = why_stop answers old new out out' plan j (end_of stop) stop built why;
      apart = built.apart;
    })

-- a build that succeeded
pub did_all : (answers : Answers) (old new : DiskView) (out out' : SinkView) (plan : Plan) (j : Journal) (done : Unit {0})
    → WasBuilt answers old new plan j
    → ((m : List FileVersion) → Tells new m → AreFresh answers.does m (run_of old new out out' (report_of ends.Ok j)) plan)
    → AllStarted plan.manifest.commands plan.target.nodes j.starts → WereRead (Knows j) plan.target.nodes → AllDone j.heard → AllEnded j.starts j.heard
    → ((asker node : List ℕ) → IsStuckAt plan (report_of ends.Ok j) asker node → ⊥)
    → Grew out out' (lines_of j.starts ++ summary_text (length j.starts))
    → Did answers (run_of old new out out' (report_of ends.Ok j)) plan (Ok done)
did_all answers old new out out' plan j done built fresh all nodes succeeded ended stuck wrote = record {
  fresh = λ ok. fresh;
  once = built.once.single;
  sources = built.sources;
  started = built.started;
  orders = orders_of plan.manifest.commands (report_of ends.Ok j) built.step built.orders;
  heard = λ h i. record { given = built.heard.given h i; lawful = λ m t. built.heard.lawful m t h i };
  stood = built.stood;
  inputs = record { started = built.read.started; orders = built.read.orders };
  missing = λ asker node is d e. absurd (stuck asker node is);
  failed = λ h exit i e. absurd (not_done h exit e (succeeded h i));
  wrote = wrote;
  end = record { started = all; nodes = nodes; done = succeeded; ended = each_ended plan.manifest.commands (report_of ends.Ok j) built.orders ended };
  apart = built.apart;
}

sight_back : (stats : List StatSeen) (p : List ℕ) (i : Info) → In (p, i) (sights_of stats) → (s : StatSeen) × (In s stats × (p ≡ s.path))
sight_back stats p i h = (let (s, is, e) = In-map-back (λ (x : StatSeen). (x.path, x.info)) (p, i) stats h in (s, (is, ap (λ (z : List ℕ × Info). z.0) e)))

-- sources that came in
pub sources_more : (plan : Plan) (asked : List ℕ → Type 0) (a b : Journal) → AreSources plan a.stats → CameFrom asked a b → IsOnce b
    → ((p : List ℕ) → asked p → IsAsked plan p) → ((p : List ℕ) → asked p → IsMade plan.manifest.commands p → (i : Info) × Knows a p i) → AreSources plan b.stats
sources_more plan asked a b was came once is settled = record {
  once = once.sources;
  free = λ s i made. elim (came s.path s.info (sight_in b.stats s i)) [
    | inl old ↦ (let o = sight_back a.stats s.path s.info old in was.free o.0 o.1.0 (subst (λ (p : List ℕ). IsMade plan.manifest.commands p) o.1.1 made))
    | inr n ↦ (let k = settled s.path n.0 made in n.1 k.0 k.1)
  ];
  asked = λ s i. elim (came s.path s.info (sight_in b.stats s i)) [
    | inl old ↦ (let o = sight_back a.stats s.path s.info old in subst (λ (p : List ℕ). IsAsked plan p) (sym o.1.1) (was.asked o.0 o.1.0))
    | inr n ↦ is s.path n.0
  ];
}

-- the nodes of the target were looked at
pub finished : (answers : Answers) (old mid new : DiskView) (plan : Plan) (a b : Journal) → WasBuilt answers old mid plan a → Stayed mid new → Looked new (IsInput plan.target.nodes) a b → IsOnce b
    → ((p : List ℕ) → IsInput plan.target.nodes p → IsMade plan.manifest.commands p → (i : Info) × Knows a p i) → WasBuilt answers old new plan b
finished answers old mid new plan a b built stayed looked once settled = record {
  once = once;
  sources = sources_more plan (IsInput plan.target.nodes) a b built.sources (looked_sources looked) once (λ p i. inr i) settled;
  started = subst (λ (ss : List Start). AreStarts plan.manifest.commands plan.target.nodes ss) (sym looked.starts) built.started;
  step = subst (λ (ss : List Start). AreInStep ss b.heard) (sym looked.starts) (subst (λ (hs : List Heard). AreInStep a.starts hs) (sym looked.heard) built.step);
  orders = subst (λ (hs : List Heard). AreOrders plan.manifest.commands hs) (sym looked.heard) built.orders;
  heard = heard_same looked.heard (heard_on stayed.keeps built.heard);
  stood = seen_stands_looked built.stood stayed looked;
  read = first_looked_on looked built.read;
  apart = subst (λ (ss : List Start). Moved (IsWritten plan.manifest.commands ss) old new) (sym looked.starts) (moved_both built.apart (moved_stayed stayed));
}
