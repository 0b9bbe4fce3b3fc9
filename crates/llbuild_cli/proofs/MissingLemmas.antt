-- What a build met of inputs.
use Rattle.std.proofs.Common.{◌≡◌, ◌⊎◌, ◌+◌, ℕ, List, [], ◌∷◌, ◌++◌, length, refl, sym, ◌∙◌, ap, inl, inr, subst, arith, length-append}
use Rattle.file_info.proofs.Lists.{In-either, In-left, In-one, In-right}
use Rattle.file_info.specs.Lists.{In}
use Rattle.file_info.specs.declared.info.Info.{Info}
use Rattle.file_info.specs.declared.info.Info.TheVariants.{Missing}
use Rattle.file_info.specs.declared.node.NodeName.{NodeName}
use Rattle.file_info.specs.declared.node.NodeName.TheVariants.{Path}
use Rattle.file_info.specs.declared.node.Read.{Read}
use Rattle.build_manifest.specs.declared.command.Command.{Command}
use Rattle.build_manifest.specs.declared.command.Input.{Input}
use Rattle.build_manifest.specs.declared.command.TargetEntry.{TargetEntry}
use Rattle.outside.specs.declared.order.Ended.{Ended}
use Rattle.outside.specs.declared.order.Exit.{Exit}
use Rattle.outside.specs.declared.order.Order.{Order}
use Rattle.build_report.specs.declared.report.Heard.{Heard}
use Rattle.build_report.specs.declared.report.Outcome.{Outcome}
use Rattle.build_report.specs.declared.report.Outcome.TheVariants.{Failed}
use Rattle.build_report.specs.declared.report.Start.{Start}
use Rattle.build_report.specs.declared.report.StatSeen.{StatSeen}
use Rattle.llbuild_cli.specs.declared.stop.Stop.{Stop}
use Rattle.llbuild_cli.specs.declared.stop.Stop.TheVariants.{CommandFailed, MissingInput, DiskFault, SinkFault, NoMemory}
use Rattle.llbuild_cli.specs.MissingInput.{IsNext, IsAsker, IsStuck, StopsAtMissing, IsStartOn, IsOrderOn, ReadFirst, AllReadFirst}
use Rattle.llbuild_cli.specs.BuildStop.{CameTo, IsRunStop, IsLastFailed, IsBuildStop}
use Rattle.llbuild_cli.specs.Outcome.{IsDone, AllDone, AllEnded, heard_names}
use Rattle.llbuild_cli.specs.Input.{SeenAs, IsRead, AreRead, IsFirstMissing, IsUnseen, IsFirstUnseen, WereRead}
use Rattle.llbuild_cli.specs.Start.{start_of, AllStarted}
use Rattle.llbuild_cli.specs.OrderEnd.{IsSettleStop}
use Rattle.llbuild_cli.proofs.InputLemmas.{SeesAll, read_of, all_read_on}
use Rattle.llbuild_cli.proofs.StartLemmas.{start_names}
use Rattle.outside.specs.View.{DiskView, SinkView}
use Rattle.llbuild_cli.specs.CommandRun.{IsOrderFor}
use Rattle.llbuild_cli.specs.Journal.{Journal, Knows}
use Rattle.llbuild_cli.specs.Sight.{Shows, IsSingle, sights_of}
use Rattle.llbuild_cli.specs.Stop.{IsDiskStop, IsSinkStop, IsInputStop, AskedBefore}
use Rattle.llbuild_cli.specs.Look.{Looked}
use Rattle.llbuild_cli.proofs.StopLemmas.{even_names}
use Rattle.llbuild_cli.proofs.ProgressLemmas.{looked_kept}

-- one of two splits of a list comes first, or both are at one place
split_two : {A : Type 0} (xs ys : List A) (x y : A) (after behind : List A) → xs ++ x ∷ after ≡ ys ++ y ∷ behind → (In x ys) ⊎ ((In y xs) ⊎ (x ≡ y))
split_two [] [] x y after behind e = inr (inr (cc e))
split_two [] (z ∷ zs) x y after behind e = inl (inl (cc e))
split_two (z ∷ zs) [] x y after behind e = inr (inl (inl (let same : z ≡ y = cc e in sym same)))
split_two (z ∷ zs) (w ∷ ws) x y after behind e = (let rest : zs ++ x ∷ after ≡ ws ++ y ∷ behind = cc e in elim (split_two zs ws x y after behind rest) [
  | inl i ↦ inl (inr i)
  | inr h ↦ elim h [ inl i ↦ inr (inl (inr i)) | inr s ↦ inr (inr s) ]
])

same_path : (n m : NodeName) (p q : List ℕ) → n ≡ m → n ≡ Path p → m ≡ Path q → p ≡ q
same_path n m p q e f g = cc (e, f, g)

-- an input that was read is not missing
read_there : {seen : List ℕ → Info → Type 0} {input : Input} {read : Read} → IsSingle seen → IsRead seen input read → SeenAs seen input Missing → ⊥
read_there {seen} {input} single read missing =
    let path : read.saw.path ≡ missing.path = same_path input.node input.node read.saw.path missing.path refl read.saw.node missing.node in
    read.there (single missing.path read.info Missing (subst (λ (p : List ℕ). seen p read.info) path read.saw.was) missing.was)

seen_unseen : {seen : List ℕ → Info → Type 0} {input : Input} {info : Info} → SeenAs seen input info → IsUnseen seen input → ⊥
seen_unseen {seen} {input} {info} saw un =
    let path : saw.path ≡ un.path = same_path input.node input.node saw.path un.path refl saw.node un.node in
    un.unseen info (subst (λ (p : List ℕ). seen p info) path saw.was)

-- where all inputs were read none is missing
pub read_not_missing : {seen : List ℕ → Info → Type 0} {inputs : List Input} {node : List ℕ} → IsSingle seen → WereRead seen inputs → IsFirstMissing seen inputs node → ⊥
read_not_missing {seen} {inputs} single read first =
    let in_it : In first.input inputs = subst (λ (is : List Input). In first.input is) (sym first.inputs_are) (In-right first.input first.before (first.input ∷ first.after) (inl refl)) in
    read_there single (read_of inputs read.0 read.1 first.input in_it).1.1 first.missing

-- where nothing was seen of an input, before which none is missing, none is the first that is missing
pub unseen_not_missing : {seen : List ℕ → Info → Type 0} {inputs : List Input} {node : List ℕ} → IsSingle seen → IsFirstUnseen seen inputs → IsFirstMissing seen inputs node → ⊥
unseen_not_missing {seen} single un first = elim (split_two un.before first.before un.input first.input un.after first.after (sym un.inputs_are ∙ first.inputs_are)) [
  | inl i ↦ seen_unseen (read_of first.before first.reads first.there un.input i).1.1.saw un.unseen
  | inr h ↦ elim h [
    | inl i ↦ read_there single (read_of un.before un.reads un.there first.input i).1.1 first.missing
    | inr same ↦ seen_unseen first.missing (subst (λ (x : Input). IsUnseen seen x) same un.unseen)
  ]
]

-- one input is the first that is missing
missing_once : {seen : List ℕ → Info → Type 0} {inputs : List Input} {node other : List ℕ} → IsSingle seen → IsFirstMissing seen inputs node → IsFirstMissing seen inputs other → node ≡ other
missing_once single f s = elim (split_two f.before s.before f.input s.input f.after s.after (sym f.inputs_are ∙ s.inputs_are)) [
  | inl i ↦ absurd (read_there single (read_of s.before s.reads s.there f.input i).1.1 f.missing)
  | inr h ↦ elim h [
    | inl i ↦ absurd (read_there single (read_of f.before f.reads f.there s.input i).1.1 s.missing)
    | inr same ↦ sym f.written_is ∙ ap (λ (x : Input). x.written) same ∙ s.written_is
  ]
]

next_once : {commands : List Command} {wanted : List Input} {starts : List Start} {c d : Command} → IsNext commands wanted starts c → IsNext commands wanted starts d → c ≡ d
next_once {commands} {wanted} {starts} {c} {d} f s = elim (split_two f.before s.before c d f.after s.after (sym f.commands_are ∙ s.commands_are)) [
  | inl i ↦ absurd (f.not_started (s.started c i f.needed))
  | inr h ↦ elim h [
    | inl i ↦ absurd (s.not_started (f.started d i s.needed))
    | inr same ↦ same
  ]
]

pub asker_once : {commands : List Command} {target : TargetEntry} {starts : List Start} {asker other : List ℕ} {inputs others : List Input}
    → IsAsker commands target starts asker inputs → IsAsker commands target starts other others → (asker ≡ other) × (inputs ≡ others)
asker_once (inl f) (inl s) =
    let same : f.command ≡ s.command = next_once f.next s.next in
    (sym f.named ∙ ap (λ (c : Command). c.name) same ∙ s.named, sym f.inputs_are ∙ ap (λ (c : Command). c.inputs) same ∙ s.inputs_are)
asker_once (inl f) (inr s) = absurd (f.next.not_started (s.started f.command f.next.needed))
asker_once (inr f) (inl s) = absurd (s.next.not_started (f.started s.command s.next.needed))
asker_once (inr f) (inr s) = (sym f.named ∙ s.named, sym f.inputs_are ∙ s.inputs_are)

-- a build is stuck at one input
stuck_once : {commands : List Command} {target : TargetEntry} {seen : List ℕ → Info → Type 0} {starts : List Start} {asker node other more : List ℕ}
    → IsSingle seen → IsStuck commands target seen starts asker node → IsStuck commands target seen starts other more → (asker ≡ other) × (node ≡ more)
stuck_once {seen} {more} single f s =
    let same = asker_once f.asks s.asks in
    (same.0, missing_once single f.first (subst (λ (is : List Input). IsFirstMissing seen is more) (sym same.1) s.first))

-- the inputs of what is next were read, so nothing is stuck
pub read_not_stuck : {commands : List Command} {target : TargetEntry} {seen : List ℕ → Info → Type 0} {starts : List Start} {asker other node : List ℕ} {inputs : List Input}
    → IsSingle seen → IsAsker commands target starts asker inputs → WereRead seen inputs → IsStuck commands target seen starts other node → ⊥
read_not_stuck {seen} {node} {inputs} single asks read stuck =
    read_not_missing single read (subst (λ (is : List Input). IsFirstMissing seen is node) (sym (asker_once asks stuck.asks).1) stuck.first)

unseen_not_stuck : {commands : List Command} {target : TargetEntry} {seen : List ℕ → Info → Type 0} {starts : List Start} {asker other node : List ℕ} {inputs : List Input}
    → IsSingle seen → IsAsker commands target starts asker inputs → IsFirstUnseen seen inputs → IsStuck commands target seen starts other node → ⊥
unseen_not_stuck {seen} {node} {inputs} single asks un stuck =
    unseen_not_missing single un (subst (λ (is : List Input). IsFirstMissing seen is node) (sym (asker_once asks stuck.asks).1) stuck.first)

failed_not_done : (heard : List Heard) (command : List ℕ) (exit : Exit) → IsLastFailed heard command exit → AllDone heard → ⊥
failed_not_done heard command exit last done =
    let in_it : In last.last heard = subst (λ (hs : List Heard). In last.last hs) (sym last.heard_are) (In-right last.last last.before (last.last ∷ []) (inl refl)) in
    subst (λ (o : Outcome). IsDone o) last.failed (done last.last in_it)

missing_stop : (asker other node more : List ℕ) → (asker ≡ other) × (node ≡ more) → MissingInput asker node ≡ MissingInput other more
missing_stop asker other node more e = (let a = e.0 in let b = e.1 in cc)

-- a start without an end
one_ahead : (c : Command) (before after : List Start) (heard then : List Heard) → heard_names heard ≡ start_names before → after ≡ before ++ start_of c ∷ [] → then ≡ heard
    → AllEnded after then → ⊥
one_ahead c before after heard then names more same ended =
    let a : length then ≡ length after = even_names after then ended in
    let b : length heard ≡ length before = even_names before heard names in
    let d : length after ≡ length before + 1 = ap length more ∙ length-append before (start_of c ∷ []) in
    let e : length then ≡ length heard = ap length same in
    absurd (omega (arith, a, b, d, e))

-- what is next is this command, where it was not started
pub next_asks : {commands : List Command} {target : TargetEntry} {starts : List Start} {c : Command} → IsNext commands target.nodes starts c → IsAsker commands target starts c.name c.inputs
next_asks {c} next = inl (record { command = c; next = next; named = refl; inputs_are = refl })

-- a build that stops at a command stops as it must where an input is missing
pub run_missing : (disk disk' sink sink' : ℕ) (first last start end : ℕ) (commands : List Command) (target : TargetEntry) (c : Command) (seen : List ℕ → Info → Type 0)
    (old new : SinkView) (before after : List Start) (heard then : List Heard) (stop : Stop)
    → (after ≡ before → IsNext commands target.nodes after c) → heard_names heard ≡ start_names before → IsSingle seen
    → CameTo c old new before after stop → IsRunStop disk disk' sink sink' seen c heard then stop → AskedBefore seen c.inputs (In (start_of c) after) stop
    → IsBuildStop first last start end seen commands target after then stop
    → StopsAtMissing commands target seen after then stop
run_missing disk disk' sink sink' first last start end commands target c seen old new before after heard then (CommandFailed command exit) next names single came why asked is asker node stuck done ended =
    absurd (failed_not_done then command exit is.0 done)
run_missing disk disk' sink sink' first last start end commands target c seen old new before after heard then (MissingInput by lacks) next names single came why asked is asker node stuck done ended =
    inl (missing_stop by asker lacks node (stuck_once single is.0 stuck))
run_missing disk disk' sink sink' first last start end commands target c seen old new before after heard then DiskFault next names single came why asked is asker node stuck done ended = elim came [
  | inl n ↦ elim asked [
    | inl un ↦ absurd (unseen_not_stuck single (next_asks (next n.same)) un stuck)
    | inr i ↦ absurd ((next n.same).not_started i)
  ]
  | inr a ↦ absurd (one_ahead c before after heard then names a.more why.1 ended)
]
run_missing disk disk' sink sink' first last start end commands target c seen old new before after heard then SinkFault next names single came why asked is asker node stuck done ended =
    absurd (read_not_stuck single (next_asks (next came.same)) asked stuck)
run_missing disk disk' sink sink' first last start end commands target c seen old new before after heard then NoMemory next names single came why asked is asker node stuck done ended = inr refl

-- what is next is the target, where all was started
pub target_asks : {commands : List Command} {target : TargetEntry} {starts : List Start} → AllStarted commands target.nodes starts → IsAsker commands target starts target.name target.nodes
target_asks all = inr (record { started = all; named = refl; inputs_are = refl })

-- a build that stops after its commands stops as it must where a node is missing
pub finish_missing : (first last start end : ℕ) (commands : List Command) (target : TargetEntry) (seen : List ℕ → Info → Type 0) (starts : List Start) (heard : List Heard) (stop : Stop)
    → AllStarted commands target.nodes starts → IsSingle seen → AskedBefore seen target.nodes ⊥ stop
    → IsBuildStop first last start end seen commands target starts heard stop
    → StopsAtMissing commands target seen starts heard stop
finish_missing first last start end commands target seen starts heard (CommandFailed command exit) all single asked is asker node stuck done ended = absurd (failed_not_done heard command exit is.0 done)
finish_missing first last start end commands target seen starts heard (MissingInput by lacks) all single asked is asker node stuck done ended = inl (missing_stop by asker lacks node (stuck_once single is.0 stuck))
finish_missing first last start end commands target seen starts heard DiskFault all single asked is asker node stuck done ended = elim asked [
  | inl un ↦ absurd (unseen_not_stuck single (target_asks all) un stuck)
  | inr n ↦ absurd n
]
finish_missing first last start end commands target seen starts heard SinkFault all single asked is asker node stuck done ended = absurd (read_not_stuck single (target_asks all) asked stuck)
finish_missing first last start end commands target seen starts heard NoMemory all single asked is asker node stuck done ended = inr refl

-- an input stops what asks for it
pub input_asked : (before now : ℕ) (asker : List ℕ) (seen : List ℕ → Info → Type 0) (inputs : List Input) (started : Type 0) (stop : Stop) → IsInputStop before now asker seen inputs stop → AskedBefore seen inputs started stop
input_asked before now asker seen inputs started (CommandFailed command exit) why = absurd why
input_asked before now asker seen inputs started (MissingInput by node) why = tt
input_asked before now asker seen inputs started DiskFault why = inl why.1
input_asked before now asker seen inputs started SinkFault why = absurd why
input_asked before now asker seen inputs started NoMemory why = tt

pub start_on : {seen more : List ℕ → Info → Type 0} {c : Command} {s : Start} → SeesAll seen more → IsStartOn seen c s → IsStartOn more c s
start_on {c} sees s = record { is = s.is; read = (s.read.0, all_read_on sees c.inputs s.read.0 s.read.1) }

pub order_on : {seen more : List ℕ → Info → Type 0} {c : Command} {h : Heard} → SeesAll seen more → IsOrderOn seen c h → IsOrderOn more c h
order_on {c} {h} sees o = record { name = o.name; read = all_read_on sees c.inputs h.order.reads o.read }

pub all_first_on : {commands : List Command} {seen more : List ℕ → Info → Type 0} {starts : List Start} {heard : List Heard} → SeesAll seen more → AllReadFirst commands seen starts heard → AllReadFirst commands more starts heard
all_first_on sees all = record {
  started = λ s i. (let one = all.started s i in (one.0, (one.1.0, start_on sees one.1.1)));
  orders = λ h i. (let one = all.orders h i in (one.0, (one.1.0, order_on sees one.1.1)));
}

-- a command that read its inputs first is one more
pub first_more : {commands : List Command} {c : Command} {old new : List ℕ → Info → Type 0} {before after : List Start} {heard then : List Heard}
    → In c commands → ReadFirst c old new before after heard then → AllReadFirst commands old before heard → AllReadFirst commands new after then
first_more {c} named one all =
    let was = all_first_on one.kept all in
    record {
      started = λ s i. elim (one.starts s i) [ inl k ↦ was.started s k | inr n ↦ (c, (named, n)) ];
      orders = λ h i. elim (one.orders h i) [ inl k ↦ was.orders h k | inr n ↦ (c, (named, n)) ];
    }

-- what was shown is shown where more orders ended
heard_shows : (old new : List StatSeen) (heard then : List Heard) → new ≡ old → ((h : Heard) → In h heard → In h then) → SeesAll (Shows old heard) (Shows new then)
heard_shows old new heard then stats more p i s = elim s [
  | inl k ↦ inl (subst (λ (ss : List StatSeen). In (p, i) (sights_of ss)) (sym stats) k)
  | inr w ↦ inr (w.0, (more w.0 w.1.0, w.1.1))
]

-- the command looked, and was not started
pub first_looked : {world : DiskView} {asked : List ℕ → Type 0} {a b : Journal} (c : Command) (starts : List Start)
    → starts ≡ a.starts → Looked world asked a b → IsSingle (Knows b) → ReadFirst c (Knows a) (Knows b) a.starts starts a.heard b.heard
first_looked {world} {asked} {a} {b} c starts same looked single = record {
  kept = looked_kept looked;
  single = single;
  starts = λ s i. inl (subst (λ (ss : List Start). In s ss) same i);
  orders = λ h i. inl (subst (λ (hs : List Heard). In h hs) looked.heard i);
}

-- the command read its inputs and was started, and its order may have ended
pub first_started : {world : DiskView} {asked : List ℕ → Type 0} {a b : Journal} (c : Command) (reads : List Read) (d : Journal)
    → Looked world asked a b → AreRead (Knows b) c.inputs reads → d.stats ≡ b.stats → d.starts ≡ a.starts ++ start_of c ∷ []
    → ((h : Heard) → In h b.heard → In h d.heard)
    → ((h : Heard) → In h d.heard → In h b.heard ⊎ ((h.order.command ≡ c.name) × (h.order.reads ≡ reads)))
    → IsSingle (Knows d) → ReadFirst c (Knows a) (Knows d) a.starts d.starts a.heard d.heard
first_started {world} {asked} {a} {b} c reads d looked read same more kept orders single =
    let sees : SeesAll (Knows b) (Knows d) = heard_shows b.stats d.stats b.heard d.heard same kept in
    let were : AreRead (Knows d) c.inputs reads = all_read_on sees c.inputs reads read in
    record {
      kept = λ p i s. sees p i (looked_kept looked p i s);
      single = single;
      starts = λ s i. elim (In-either s a.starts (start_of c ∷ []) (subst (λ (ss : List Start). In s ss) more i)) [
        | inl k ↦ inl k
        | inr k ↦ inr (record { is = In-one k; read = (reads, were) })
      ];
      orders = λ h i. elim (orders h i) [
        | inl k ↦ inl (subst (λ (hs : List Heard). In h hs) looked.heard k)
        | inr e ↦ inr (record { name = e.0; read = subst (λ (rs : List Read). AreRead (Knows d) c.inputs rs) (sym e.1) were })
      ];
    }

-- a fault of the disk came when the command was started
pub disk_asked : (before now : ℕ) (seen : List ℕ → Info → Type 0) (inputs : List Input) (started : Type 0) (stop : Stop) → IsDiskStop before now stop → started → AskedBefore seen inputs started stop
disk_asked before now seen inputs started (CommandFailed command exit) why was = absurd why
disk_asked before now seen inputs started (MissingInput by node) why was = absurd why
disk_asked before now seen inputs started DiskFault why was = inr was
disk_asked before now seen inputs started SinkFault why was = absurd why
disk_asked before now seen inputs started NoMemory why was = tt

-- a fault of the sink came when all inputs were read
pub sink_asked : (before now : ℕ) (seen : List ℕ → Info → Type 0) (inputs : List Input) (started : Type 0) (stop : Stop) → IsSinkStop before now stop → WereRead seen inputs → AskedBefore seen inputs started stop
sink_asked before now seen inputs started (CommandFailed command exit) why read = absurd why
sink_asked before now seen inputs started (MissingInput by node) why read = absurd why
sink_asked before now seen inputs started DiskFault why read = absurd why
sink_asked before now seen inputs started SinkFault why read = read
sink_asked before now seen inputs started NoMemory why read = tt

pub settle_asked : (before now : ℕ) (ended : Ended) (noted then : List Heard) (seen : List ℕ → Info → Type 0) (inputs : List Input) (started : Type 0) (stop : Stop)
    → IsSettleStop before now ended noted then stop → started → AskedBefore seen inputs started stop
settle_asked before now ended noted then seen inputs started (CommandFailed command exit) why was = tt
settle_asked before now ended noted then seen inputs started (MissingInput by node) why was = absurd why
settle_asked before now ended noted then seen inputs started DiskFault why was = inr was
settle_asked before now ended noted then seen inputs started SinkFault why was = absurd why
settle_asked before now ended noted then seen inputs started NoMemory why was = tt

-- the orders that ended where the end of an order stopped its command
pub settle_orders : (before now : ℕ) (ended : Ended) (noted then : List Heard) (stop : Stop) → IsSettleStop before now ended noted then stop → (h : Heard) → In h then → In h noted ⊎ (h.order ≡ ended.order)
settle_orders before now ended noted then (CommandFailed command exit) why h i =
    let last : Heard = record { order = ended.order; outcome = Failed ended.exit } in
    elim (In-either h noted (last ∷ []) (subst (λ (hs : List Heard). In h hs) why.3 i)) [
      | inl k ↦ inl k
      | inr k ↦ inr (ap (λ (x : Heard). x.order) (In-one k))
    ]
settle_orders before now ended noted then (MissingInput asker node) why h i = absurd why
settle_orders before now ended noted then DiskFault why h i = inl (subst (λ (hs : List Heard). In h hs) why.1 i)
settle_orders before now ended noted then SinkFault why h i = absurd why
settle_orders before now ended noted then NoMemory why h i = inl (subst (λ (hs : List Heard). In h hs) why i)

pub settle_kept : (before now : ℕ) (ended : Ended) (noted then : List Heard) (stop : Stop) → IsSettleStop before now ended noted then stop → (h : Heard) → In h noted → In h then
settle_kept before now ended noted then (CommandFailed command exit) why h i =
    subst (λ (hs : List Heard). In h hs) (sym why.3) (In-left h noted (record { order = ended.order; outcome = Failed ended.exit } ∷ []) i)
settle_kept before now ended noted then (MissingInput asker node) why h i = absurd why
settle_kept before now ended noted then DiskFault why h i = subst (λ (hs : List Heard). In h hs) (sym why.1) i
settle_kept before now ended noted then SinkFault why h i = absurd why
settle_kept before now ended noted then NoMemory why h i = subst (λ (hs : List Heard). In h hs) (sym why) i

-- an order of the command on what was read
pub order_reads : (noted : List Heard) (c : Command) (ticket : ℕ) (reads : List Read) (order : Order) (h : Heard) → IsOrderFor c ticket reads order → In h noted ⊎ (h.order ≡ order)
    → In h noted ⊎ ((h.order.command ≡ c.name) × (h.order.reads ≡ reads))
order_reads noted c ticket reads order h is (inl i) = inl i
order_reads noted c ticket reads order h is (inr e) = inr (ap (λ (o : Order). o.command) e ∙ is.name, ap (λ (o : Order). o.reads) e ∙ is.reads_are)

-- what holds of starts and ends holds after some looks
pub first_looked_on : {world : DiskView} {asked : List ℕ → Type 0} {commands : List Command} {a b : Journal} → Looked world asked a b
    → AllReadFirst commands (Knows a) a.starts a.heard → AllReadFirst commands (Knows b) b.starts b.heard
first_looked_on {commands} {a} {b} looked all =
    let more = all_first_on (looked_kept looked) all in
    record {
      started = λ s i. more.started s (subst (λ (ss : List Start). In s ss) looked.starts i);
      orders = λ h i. more.orders h (subst (λ (hs : List Heard). In h hs) looked.heard i);
    }
