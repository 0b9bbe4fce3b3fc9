-- How a build stops at a command.
use Rattle.std.proofs.Common.{◌≡◌, ◌⊎◌, ◌≤◌, ◌+◌, ℕ, zero, suc, List, [], ◌∷◌, ◌++◌, length, take, drop, refl, sym, ◌∙◌, ap, inl, inr, subst, arith, append_assoc, append-nil, zero-add}
use Rattle.std.proofs.lemmas.List.{length-map}
use Rattle.std.proofs.lemmas.List.{map-append}
use Rattle.file_info.proofs.Lists.{In-either, In-left, In-one}
use Rattle.file_info.specs.Lists.{In}
use Rattle.file_info.specs.declared.info.Info.{Info}
use Rattle.build_manifest.specs.declared.command.Command.{Command}
use Rattle.build_manifest.specs.declared.command.Input.{Input}
use Rattle.build_manifest.specs.declared.command.TargetEntry.{TargetEntry}
use Rattle.outside.specs.declared.order.Ended.{Ended}
use Rattle.outside.specs.declared.order.Exit.{Exit}
use Rattle.outside.specs.declared.order.Order.{Order}
use Rattle.file_info.specs.declared.node.Read.{Read}
use Rattle.build_meaning.specs.Fresh.{Does}
use Rattle.build_report.specs.declared.report.Outcome.TheVariants.{Failed}
use Rattle.llbuild_cli.specs.OrderEnd.{IsSettleStop}
use Rattle.build_meaning.specs.Need.{IsNeeded, AreMarks}
use Rattle.build_meaning.specs.Orderly.{AreOrderly}
use Rattle.build_report.specs.declared.report.Heard.{Heard}
use Rattle.build_report.specs.declared.report.Start.{Start}
use Rattle.llbuild_cli.specs.declared.stop.Stop.{Stop}
use Rattle.llbuild_cli.specs.declared.stop.Stop.TheVariants.{CommandFailed, MissingInput, DiskFault, SinkFault, NoMemory}
use Rattle.llbuild_cli.specs.MissingInput.{IsNext}
use Rattle.llbuild_cli.specs.BuildStop.{NotAnnounced, Announced, PartAnnounced, CameTo, HeardOne, DoneOne, IsRunStop, IsBuildStop, IsFinishStop}
use Rattle.llbuild_cli.specs.Outcome.{AreOrders, AllDone, AllEnded, IsDone, IsOrderOfOne, AreInStep, HeardWell, heard_names}
use Rattle.llbuild_cli.specs.Output.{nothing, line, summary, WrotePart, WroteStopped}
use Rattle.llbuild_cli.specs.Start.{start_of, starts_of, AreStarts, AllStarted, IsNextStart}
use Rattle.llbuild_cli.specs.Growth.{GrewByPart}
use Rattle.build_report.specs.Text.{line_of, lines_from, lines_of, summary_text}
use Rattle.llbuild_cli.proofs.SinkLemmas.{Grew-both}
use Rattle.llbuild_cli.proofs.StartLemmas.{start_names, starts_more, are_starts, not_started, was_started}
use Rattle.std.specs.Prelude.{slice_get, Some, true}
use Rattle.outside.specs.View.{Rose, Grew, DiskView, SinkView, Told, Keeps}
use Rattle.llbuild_cli.specs.CommandRun.{IsOrderFor, IsEnded, ReadsStand}
use Rattle.llbuild_cli.specs.Journal.{Journal, Knows}
use Rattle.llbuild_cli.specs.Sight.{GivesInfo, WasHeard}
use Rattle.llbuild_cli.specs.Stop.{IsInputStop}
use Rattle.llbuild_cli.proofs.CommandLemmas.{heard_more, heard_same, given_one}

-- a count that rose later rose from before
Rose-last : (first before now : ℕ) → first ≤ before → Rose before now → Rose first now
Rose-last first before now later rose = omega arith

lines_from_more : (n : ℕ) (starts : List Start) (s : Start) → lines_from n (starts ++ s ∷ []) ≡ lines_from n starts ++ line_of (length starts + n) s
lines_from_more n [] s = rw zero-add (append-nil (line_of n s))
lines_from_more n (x ∷ xs) s =
    let count : length xs + (n + 1) ≡ length (x ∷ xs) + n = omega arith in
    ap (λ (t : List ℕ). line_of n x ++ t) (lines_from_more (n + 1) xs s) ∙ sym (append_assoc (line_of n x) (lines_from (n + 1) xs) (line_of (length xs + (n + 1)) s))
    ∙ ap (λ (k : ℕ). (line_of n x ++ lines_from (n + 1) xs) ++ line_of k s) count

pub lines_more : (starts : List Start) (s : Start) → lines_of (starts ++ s ∷ []) ≡ lines_of starts ++ line_of (length starts + 1) s
lines_more starts s = lines_from_more 1 starts s

pub wrote_more : (old mid new : SinkView) (c : Command) (before after : List Start) → Grew old mid (lines_of before) → Announced c mid new before after
    → Grew old new (lines_of after)
wrote_more old mid new c before after wrote a =
    subst (λ (t : List ℕ). Grew old new t) (sym (ap lines_of a.more ∙ lines_more before (start_of c)))
    (Grew-both old mid new (lines_of before) (line_of (length before + 1) (start_of c)) wrote a.grew)

wrote_same : (old mid new : SinkView) (before after : List Start) → Grew old mid (lines_of before) → NotAnnounced mid new before after
    → Grew old new (lines_of after)
wrote_same old mid new before after wrote a =
    subst (λ (t : List ℕ). Grew old new t) (append-nil (lines_of before) ∙ ap lines_of (sym a.same))
    (Grew-both old mid new (lines_of before) [] wrote a.grew)

-- all lines, and no part of what is next
pub no_part : (is_next : Start → Type 0) (is_last : Type 0) (old new : SinkView) (starts : List Start) → Grew old new (lines_of starts) → WrotePart is_next is_last old new starts
no_part is_next is_last old new starts grew = record {
  text = [];
  next = nothing;
  count = 0;
  grew = subst (λ (t : List ℕ). Grew old new t) (sym (append-nil (lines_of starts))) grew;
}

-- a part of the line of a start that is next
line_part : (commands : List Command) (wanted : List Input) (is_last : Type 0) (old mid new : SinkView) (c : Command) (before after : List Start) → Grew old mid (lines_of before)
    → In c commands → IsNeeded commands wanted c → (In (start_of c) before → ⊥) → PartAnnounced c mid new before after
    → WrotePart (IsNextStart commands wanted after) is_last old new after
line_part commands wanted is_last old mid new c before after wrote named needed fresh part = record {
  text = line_of (length after + 1) (start_of c);
  next = line (start_of c) (record { command = c; named = named; needed = needed; is = refl; not_started = λ i. fresh (subst (λ (ss : List Start). In (start_of c) ss) part.same i) });
  count = part.grew.0;
  grew = subst (λ (ss : List Start). Grew old new (lines_of ss ++ take part.grew.0 (line_of (length ss + 1) (start_of c)))) (sym part.same)
      (Grew-both old mid new (lines_of before) (take part.grew.0 (line_of (length before + 1) (start_of c))) wrote part.grew.1);
}

pub wrote_stopped : (commands : List Command) (wanted : List Input) (is_last : Type 0) (old mid new : SinkView) (c : Command) (before after : List Start) (stop : Stop) → Grew old mid (lines_of before)
    → In c commands → IsNeeded commands wanted c → (In (start_of c) before → ⊥) → CameTo c mid new before after stop
    → WroteStopped (IsNextStart commands wanted after) is_last old new after stop
wrote_stopped commands wanted is_last old mid new c before after (CommandFailed command exit) wrote named needed fresh came = wrote_more old mid new c before after wrote came
wrote_stopped commands wanted is_last old mid new c before after (MissingInput asker node) wrote named needed fresh came = wrote_same old mid new before after wrote came
wrote_stopped commands wanted is_last old mid new c before after DiskFault wrote named needed fresh came = elim came [
  | inl n ↦ wrote_same old mid new before after wrote n
  | inr a ↦ wrote_more old mid new c before after wrote a
]
wrote_stopped commands wanted is_last old mid new c before after SinkFault wrote named needed fresh came = line_part commands wanted is_last old mid new c before after wrote named needed fresh came
wrote_stopped commands wanted is_last old mid new c before after NoMemory wrote named needed fresh came = elim came [
  | inl n ↦ line_part commands wanted is_last old mid new c before after wrote named needed fresh n
  | inr a ↦ no_part (IsNextStart commands wanted after) is_last old new after (wrote_more old mid new c before after wrote a)
]

-- the starts are those of before, or this one more
pub came_starts : (c : Command) (old new : SinkView) (before after : List Start) (stop : Stop) → CameTo c old new before after stop
    → (after ≡ before) ⊎ (after ≡ before ++ start_of c ∷ [])
came_starts c old new before after (CommandFailed command exit) came = inr came.more
came_starts c old new before after (MissingInput asker node) came = inl came.same
came_starts c old new before after DiskFault came = elim came [ inl n ↦ inl n.same | inr a ↦ inr a.more ]
came_starts c old new before after SinkFault came = inl came.same
came_starts c old new before after NoMemory came = elim came [ inl n ↦ inl n.same | inr a ↦ inr a.more ]

pub starts_stopped : (commands : List Command) (wanted : List Input) (marks : List _) (place : ℕ) (c : Command) (before after : List Start) → AreOrderly commands → AreMarks commands wanted marks
    → slice_get commands place ≡ Some c → slice_get marks place ≡ Some true → before ≡ starts_of (take place commands) marks
    → (after ≡ before) ⊎ (after ≡ before ++ start_of c ∷ []) → AreStarts commands wanted after
starts_stopped commands wanted marks place c before after orderly are at_place marked was came = elim came [
  | inl same ↦ subst (λ (ss : List Start). AreStarts commands wanted ss) (sym (same ∙ was)) (are_starts commands wanted marks place orderly are)
  | inr more ↦ subst (λ (ss : List Start). AreStarts commands wanted ss)
      (sym (more ∙ ap (λ (ss : List Start). ss ++ start_of c ∷ []) was ∙ sym (starts_more commands marks place c at_place marked)))
      (are_starts commands wanted marks (place + 1) orderly are)
]

-- starts and ends in step go on, by the stop
step_same : (before after : List Start) (heard then : List Heard) → heard_names heard ≡ start_names before → after ≡ before → then ≡ heard → AreInStep after then
step_same before after heard then names starts ends = record {
  rest = [];
  names = ap start_names starts ∙ sym names ∙ ap heard_names (sym ends) ∙ sym (append-nil (heard_names then));
  few = omega arith;
}

step_start : (c : Command) (before after : List Start) (heard then : List Heard) → heard_names heard ≡ start_names before → after ≡ before ++ start_of c ∷ [] → then ≡ heard → AreInStep after then
step_start c before after heard then names starts ends = record {
  rest = c.name ∷ [];
  names = ap start_names starts ∙ map-append (λ (s : Start). s.command) before (start_of c ∷ []) ∙ ap (λ (ns : List (List ℕ)). ns ++ c.name ∷ []) (sym names ∙ ap heard_names (sym ends));
  few = omega arith;
}

pub names_both : (c : Command) (before after : List Start) (heard then : List Heard) → heard_names heard ≡ start_names before → after ≡ before ++ start_of c ∷ [] → HeardOne c heard then
    → heard_names then ≡ start_names after
names_both c before after heard then names starts one =
    ap heard_names one.more ∙ map-append (λ (h : Heard). h.order.command) heard (one.heard ∷ []) ∙ ap (λ (n : List ℕ). heard_names heard ++ n ∷ []) one.name
    ∙ ap (λ (ns : List (List ℕ)). ns ++ c.name ∷ []) names
    ∙ sym (ap start_names starts ∙ map-append (λ (s : Start). s.command) before (start_of c ∷ []))

pub in_step : (starts : List Start) (heard : List Heard) → heard_names heard ≡ start_names starts → AreInStep starts heard
in_step starts heard names = record { rest = []; names = sym names ∙ sym (append-nil (heard_names heard)); few = omega arith }

pub step_stopped : (disk disk' sink sink' : ℕ) (shown : List ℕ → Info → Type 0) (c : Command) (old new : SinkView) (before after : List Start) (heard then : List Heard) (stop : Stop)
    → heard_names heard ≡ start_names before → CameTo c old new before after stop → IsRunStop disk disk' sink sink' shown c heard then stop → AreInStep after then
step_stopped disk disk' sink sink' shown c old new before after heard then (CommandFailed command exit) names came why = in_step after then (names_both c before after heard then names came.more why.1.one)
step_stopped disk disk' sink sink' shown c old new before after heard then (MissingInput asker node) names came why = step_same before after heard then names came.same why.2
step_stopped disk disk' sink sink' shown c old new before after heard then DiskFault names came why = elim came [ inl n ↦ step_same before after heard then names n.same why.1 | inr a ↦ step_start c before after heard then names a.more why.1 ]
step_stopped disk disk' sink sink' shown c old new before after heard then SinkFault names came why = step_same before after heard then names came.same why.1
step_stopped disk disk' sink sink' shown c old new before after heard then NoMemory names came why = elim came [ inl n ↦ step_same before after heard then names n.same why | inr a ↦ step_start c before after heard then names a.more why ]

-- the place of one of a longer list is before its last, or is its last
place_more : {A : Type 0} (xs : List A) (x y : A) (k : ℕ) → slice_get (xs ++ x ∷ []) k ≡ Some y → (slice_get xs k ≡ Some y) ⊎ ((k ≡ length xs) × (y ≡ x))
place_more [] x y zero e = inr (refl, (let same : x ≡ y = cc e in sym same))
place_more [] x y (suc k) e = cc e
place_more (z ∷ zs) x y zero e = inl e
place_more (z ∷ zs) x y (suc k) e = elim (place_more zs x y k e) [ inl i ↦ inl i | inr h ↦ inr (ap suc h.0, h.1) ]

ticket_more : (heard : List Heard) (one : Heard) (then : List Heard) → ((k : ℕ) (h : Heard) → slice_get heard k ≡ Some h → h.order.ticket ≡ k + 1) → one.order.ticket ≡ length heard + 1 → then ≡ heard ++ one ∷ []
    → (k : ℕ) (h : Heard) → slice_get then k ≡ Some h → h.order.ticket ≡ k + 1
ticket_more heard one then old ticket more k h at_k = elim (place_more heard one h k (subst (λ (hs : List Heard). slice_get hs k ≡ Some h) more at_k)) [
  | inl i ↦ old k h i
  | inr e ↦ ap (λ (x : Heard). x.order.ticket) e.1 ∙ ticket ∙ ap (λ (n : ℕ). n + 1) (sym e.0)
]

nothing_there : (k : ℕ) (h : Heard) → slice_get [] k ≡ Some h → ⊥
nothing_there k h e = cc e

-- as many orders ended as commands were started
pub even_names : (starts : List Start) (heard : List Heard) → heard_names heard ≡ start_names starts → length heard ≡ length starts
even_names starts heard names = sym (length-map heard (λ (h : Heard). h.order.command)) ∙ ap length names ∙ length-map starts (λ (s : Start). s.command)

pub orders_one : (commands : List Command) (c : Command) (heard then : List Heard) → In c commands → AreOrders commands heard → HeardOne c heard then → AreOrders commands then
orders_one commands c heard then named orders one = record {
  each = λ h i. elim (In-either h heard (one.heard ∷ []) (subst (λ (hs : List Heard). In h hs) one.more i)) [
    | inl k ↦ orders.each h k
    | inr k ↦ subst (λ (z : Heard). IsOrderOfOne commands z.order) (sym (In-one k)) (record { command = c; named = named; name = one.name; is = one.is })
  ];
  tickets = ticket_more heard one.heard then orders.tickets one.ticket one.more;
}

pub orders_stopped : (disk disk' sink sink' : ℕ) (shown : List ℕ → Info → Type 0) (commands : List Command) (c : Command) (heard then : List Heard) (stop : Stop)
    → In c commands → AreOrders commands heard → IsRunStop disk disk' sink sink' shown c heard then stop → AreOrders commands then
orders_stopped disk disk' sink sink' shown commands c heard then (CommandFailed command exit) named orders why = orders_one commands c heard then named orders why.1.one
orders_stopped disk disk' sink sink' shown commands c heard then (MissingInput asker node) named orders why = subst (λ (hs : List Heard). AreOrders commands hs) (sym why.2) orders
orders_stopped disk disk' sink sink' shown commands c heard then DiskFault named orders why = subst (λ (hs : List Heard). AreOrders commands hs) (sym why.1) orders
orders_stopped disk disk' sink sink' shown commands c heard then SinkFault named orders why = subst (λ (hs : List Heard). AreOrders commands hs) (sym why.1) orders
orders_stopped disk disk' sink sink' shown commands c heard then NoMemory named orders why = subst (λ (hs : List Heard). AreOrders commands hs) (sym why) orders

pub done_one : (c : Command) (heard then : List Heard) → AllDone heard → DoneOne c heard then → AllDone then
done_one c heard then done one h i = elim (In-either h heard (one.one.heard ∷ []) (subst (λ (hs : List Heard). In h hs) one.one.more i)) [
  | inl k ↦ done h k
  | inr k ↦ subst (λ (z : Heard). IsDone z.outcome) (sym (In-one k)) one.done
]

ended_same : (before after : List Start) (heard then : List Heard) → heard_names heard ≡ start_names before → after ≡ before → then ≡ heard → heard_names then ≡ start_names after
ended_same before after heard then names starts ends = ap heard_names ends ∙ names ∙ ap start_names (sym starts)

-- the command at a marked place is next where those before it were started
pub is_next : (commands : List Command) (wanted : List Input) (marks : List _) (place : ℕ) (c : Command) (starts : List Start) → AreOrderly commands → AreMarks commands wanted marks
    → slice_get commands place ≡ Some c → slice_get marks place ≡ Some true → starts ≡ starts_of (take place commands) marks → commands ≡ take place commands ++ c ∷ drop (place + 1) commands
    → IsNext commands wanted starts c
is_next commands wanted marks place c starts orderly are at_place marked was parts = record {
  before = take place commands;
  after = drop (place + 1) commands;
  commands_are = parts;
  needed = (are.each place c at_place).0 marked;
  started = λ d i n. subst (λ (ss : List Start). In (start_of d) ss) (sym was) (was_started commands wanted marks place d are i n);
  not_started = λ i. not_started commands marks place c orderly at_place (subst (λ (ss : List Start). In (start_of c) ss) was i);
}

pub build_stopped : (first disk disk' start sink sink' : ℕ) (shown : List ℕ → Info → Type 0) (commands : List Command) (target : TargetEntry) (marks : List _) (place : ℕ) (c : Command)
    (old new : SinkView) (before after : List Start) (heard then : List Heard) (stop : Stop)
    → AreOrderly commands → AreMarks commands target.nodes marks → slice_get commands place ≡ Some c → slice_get marks place ≡ Some true
    → before ≡ starts_of (take place commands) marks → commands ≡ take place commands ++ c ∷ drop (place + 1) commands
    → first ≤ disk → start ≤ sink → AllDone heard → heard_names heard ≡ start_names before → CameTo c old new before after stop → IsRunStop disk disk' sink sink' shown c heard then stop
    → IsBuildStop first disk' start sink' shown commands target after then stop
build_stopped first disk disk' start sink sink' shown commands target marks place c old new before after heard then (CommandFailed command exit) orderly are at_place marked was parts later slater done names came why = (
  record {
    before = heard;
    last = why.1.one.heard;
    heard_are = why.1.one.more;
    done = done;
    named = why.1.one.name ∙ sym why.0;
    failed = why.1.failed;
  },
  names_both c before after heard then names came.more why.1.one,
)
build_stopped first disk disk' start sink sink' shown commands target marks place c old new before after heard then (MissingInput asker node) orderly are at_place marked was parts later slater done names came why = (
  record {
    inputs = c.inputs;
    asks = inl (record { command = c; next = is_next commands target.nodes marks place c after orderly are at_place marked (came.same ∙ was) parts; named = sym why.0; inputs_are = refl });
    first = why.1;
  },
  subst (λ (hs : List Heard). AllDone hs) (sym why.2) done,
  ended_same before after heard then names came.same why.2,
)
build_stopped first disk disk' start sink sink' shown commands target marks place c old new before after heard then DiskFault orderly are at_place marked was parts later slater done names came why =
    (Rose-last first disk disk' later why.0, subst (λ (hs : List Heard). AllDone hs) (sym why.1) done)
build_stopped first disk disk' start sink sink' shown commands target marks place c old new before after heard then SinkFault orderly are at_place marked was parts later slater done names came why =
    (Rose-last start sink sink' slater why.0, subst (λ (hs : List Heard). AllDone hs) (sym why.1) done, ended_same before after heard then names came.same why.1)
build_stopped first disk disk' start sink sink' shown commands target marks place c old new before after heard then NoMemory orderly are at_place marked was parts later slater done names came why =
    subst (λ (hs : List Heard). AllDone hs) (sym why) done

-- an input stops its command
pub run_stopped : (before now sink sink' : ℕ) (c : Command) (a b : Journal) (stop : Stop) → b.heard ≡ a.heard → IsInputStop before now c.name (Knows b) c.inputs stop
    → IsRunStop before now sink sink' (Knows b) c a.heard b.heard stop
run_stopped before now sink sink' c a b (CommandFailed command exit) heard why = absurd why
run_stopped before now sink sink' c a b (MissingInput asker node) heard why = (why.0, why.1, heard)
run_stopped before now sink sink' c a b DiskFault heard why = (why.0, heard)
run_stopped before now sink sink' c a b SinkFault heard why = absurd why
run_stopped before now sink sink' c a b NoMemory heard why = heard

-- the end of an order stops its command
pub settle_stopped : (first before now sink sink' : ℕ) (shown : List ℕ → Info → Type 0) (c : Command) (ticket : ℕ) (reads : List Read) (ended : Ended) (heard noted then : List Heard) (stop : Stop)
    → IsOrderFor c ticket reads ended.order → ticket ≡ length heard + 1 → first ≤ before → noted ≡ heard → IsSettleStop before now ended noted then stop
    → IsRunStop first now sink sink' shown c heard then stop
settle_stopped first before now sink sink' shown c ticket reads ended heard noted then (CommandFailed command exit) is number later same why = (
  why.0 ∙ is.name,
  record {
    one = record {
      heard = record { order = ended.order; outcome = Failed ended.exit };
      more = why.3 ∙ ap (λ (hs : List Heard). hs ++ record { order = ended.order; outcome = Failed ended.exit } ∷ []) same;
      name = is.name;
      is = is.is;
      ticket = is.ticket_is ∙ number;
    };
    failed = ap Failed (sym why.1);
  },
)
settle_stopped first before now sink sink' shown c ticket reads ended heard noted then (MissingInput asker node) is number later same why = absurd why
settle_stopped first before now sink sink' shown c ticket reads ended heard noted then DiskFault is number later same why = (Rose-last first before now later why.0, why.1 ∙ same)
settle_stopped first before now sink sink' shown c ticket reads ended heard noted then SinkFault is number later same why = absurd why
settle_stopped first before now sink sink' shown c ticket reads ended heard noted then NoMemory is number later same why = why ∙ same

-- what was heard is well where the end of an order stopped its command
pub heard_stopped : {ended : DiskView → Order → Exit → Type 0} {does : Does} {g e v : DiskView} {c : Command} {ticket : ℕ} {reads : List Read}
    (before now : ℕ) (x : Ended) (noted then : List Heard) (stop : Stop)
    → HeardWell ended does v noted → IsEnded ended g e x → IsOrderFor c ticket reads x.order → (Told g → ReadsStand g.at reads) → Keeps g e → Keeps e v
    → IsSettleStop before now x noted then stop → HeardWell ended does v then
heard_stopped before now x noted then (CommandFailed command exit) well is order stands from keeps why =
    let last : Heard = record { order = x.order; outcome = Failed x.exit } in
    heard_same why.3 (heard_more well last (given_one last x refl (refl, why.2) is order stands from keeps) (λ m t. tt))
heard_stopped before now x noted then (MissingInput asker node) well is order stands from keeps why = absurd why
heard_stopped before now x noted then DiskFault well is order stands from keeps why = heard_same why.1 well
heard_stopped before now x noted then SinkFault well is order stands from keeps why = absurd why
heard_stopped before now x noted then NoMemory well is order stands from keeps why = heard_same why well

pub starts_grow : (before after : List Start) (s x : Start) → (after ≡ before) ⊎ (after ≡ before ++ s ∷ []) → In x before → In x after
starts_grow before after s x (inl same) i = subst (λ (ss : List Start). In x ss) (sym same) i
starts_grow before after s x (inr more) i = subst (λ (ss : List Start). In x ss) (sym more) (In-left x before (s ∷ []) i)

wrote_nothing : (old mid new : SinkView) (starts : List Start) → Grew old mid (lines_of starts) → Grew mid new [] → Grew old new (lines_of starts)
wrote_nothing old mid new starts wrote none = subst (λ (t : List ℕ). Grew old new t) (append-nil (lines_of starts)) (Grew-both old mid new (lines_of starts) [] wrote none)

summary_part : (is_next : Start → Type 0) (is_last : Type 0) (old mid new : SinkView) (starts : List Start) → is_last → Grew old mid (lines_of starts) → GrewByPart mid new (summary_text (length starts))
    → WrotePart is_next is_last old new starts
summary_part is_next is_last old mid new starts last wrote part = record {
  text = summary_text (length starts);
  next = summary last;
  count = part.0;
  grew = Grew-both old mid new (lines_of starts) (take part.0 (summary_text (length starts))) wrote part.1;
}

-- what was written where a build stopped after its commands
pub finish_part : (is_next : Start → Type 0) (is_last : Type 0) (disk disk' sink sink' : ℕ) (old mid new : SinkView) (shown : List ℕ → Info → Type 0) (target : TargetEntry) (starts : List Start) (stop : Stop)
    → is_last → Grew old mid (lines_of starts) → IsFinishStop disk disk' sink sink' mid new shown target (summary_text (length starts)) stop → WroteStopped is_next is_last old new starts stop
finish_part is_next is_last disk disk' sink sink' old mid new shown target starts (CommandFailed command exit) last wrote why = absurd why
finish_part is_next is_last disk disk' sink sink' old mid new shown target starts (MissingInput asker node) last wrote why = wrote_nothing old mid new starts wrote why.2
finish_part is_next is_last disk disk' sink sink' old mid new shown target starts DiskFault last wrote why = wrote_nothing old mid new starts wrote why.1
finish_part is_next is_last disk disk' sink sink' old mid new shown target starts SinkFault last wrote why = summary_part is_next is_last old mid new starts last wrote why.1
finish_part is_next is_last disk disk' sink sink' old mid new shown target starts NoMemory last wrote why = summary_part is_next is_last old mid new starts last wrote why

-- why a build stopped after its commands
pub finish_stopped : (first disk disk' start sink sink' : ℕ) (mid new : SinkView) (commands : List Command) (target : TargetEntry) (b : Journal) (text : List ℕ) (stop : Stop)
    → AllStarted commands target.nodes b.starts → AllDone b.heard → AllEnded b.starts b.heard
    → first ≤ disk → start ≤ sink → IsFinishStop disk disk' sink sink' mid new (Knows b) target text stop
    → IsBuildStop first disk' start sink' (Knows b) commands target b.starts b.heard stop
finish_stopped first disk disk' start sink sink' mid new commands target b text (CommandFailed command exit) all done ended later slater why = absurd why
finish_stopped first disk disk' start sink sink' mid new commands target b text (MissingInput asker node) all done ended later slater why = (
  record { inputs = target.nodes; asks = inr (record { started = all; named = sym why.0; inputs_are = refl }); first = why.1 },
  done,
  ended,
)
finish_stopped first disk disk' start sink sink' mid new commands target b text DiskFault all done ended later slater why = (Rose-last first disk disk' later why.0, done)
finish_stopped first disk disk' start sink sink' mid new commands target b text SinkFault all done ended later slater why = (Rose-last start sink sink' slater why.0, done, ended)
finish_stopped first disk disk' start sink sink' mid new commands target b text NoMemory all done ended later slater why = done

-- an order that failed shows nothing of its outputs
pub settle_shows : (before now : ℕ) (ended : Ended) (noted then : List Heard) (stop : Stop) → IsSettleStop before now ended noted then stop
    → (p : List ℕ) (i : Info) → WasHeard then p i → WasHeard noted p i
settle_shows before now ended noted then (CommandFailed command exit) why p i w =
    let last : Heard = record { order = ended.order; outcome = Failed ended.exit } in
    elim (In-either w.0 noted (last ∷ []) (subst (λ (hs : List Heard). In w.0 hs) why.3 w.1.0)) [
      | inl k ↦ (w.0, (k, w.1.1))
      | inr k ↦ absurd (subst (λ (h : Heard). GivesInfo h.order.outputs h.outcome p i) (In-one k) w.1.1)
    ]
settle_shows before now ended noted then (MissingInput asker node) why p i w = absurd why
settle_shows before now ended noted then DiskFault why p i w = subst (λ (hs : List Heard). WasHeard hs p i) why.1 w
settle_shows before now ended noted then SinkFault why p i w = absurd why
settle_shows before now ended noted then NoMemory why p i w = subst (λ (hs : List Heard). WasHeard hs p i) why w
