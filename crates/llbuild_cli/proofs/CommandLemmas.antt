-- One command that ran, from its parts.
use Rattle.std.proofs.Common.{◌≡◌, ℕ, List, [], ◌∷◌, ◌++◌, map, refl, sym, ◌∙◌, ap, inl, inr, subst, arith}
use Rattle.std.specs.Prelude.{◌⊎◌, slice_get, Some}
use Rattle.std.proofs.lemmas.Option.{slice_get_within}
use Rattle.file_info.proofs.Lists.{In-either, In-get, In-index, In-left, In-one, In-right, get-map, map-same}
use Rattle.file_info.specs.Content.{Content, FileVersion, content, node_text, read_contents}
use Rattle.file_info.specs.Lists.{In, IsDistinct}
use Rattle.file_info.specs.declared.info.Info.{Info}
use Rattle.file_info.specs.declared.info.Form.{Form}
use Rattle.file_info.specs.declared.info.Form.TheVariants.{Follow}
use Rattle.file_info.specs.declared.node.Read.{Read}
use Rattle.file_info.specs.declared.node.Reading.TheVariants.{File}
use Rattle.outside.specs.OrderForm.{paths_of}
use Rattle.outside.specs.Meaning.{signature_of}
use Rattle.outside.specs.View.{DiskView, Told, Tells, Keeps, Stayed}
use Rattle.outside.specs.declared.order.Ended.{Ended}
use Rattle.outside.specs.declared.order.Exit.{Exit}
use Rattle.outside.specs.declared.order.Order.{Order}
use Rattle.build_manifest.specs.declared.command.Command.{Command}
use Rattle.build_meaning.specs.Commands.{meaning_of}
use Rattle.build_meaning.specs.Fresh.{Does}
use Rattle.build_report.specs.declared.report.Heard.{Heard}
use Rattle.build_report.specs.declared.report.Outcome.TheVariants.{Done}
use Rattle.llbuild_cli.specs.Outcome.{HeardWell, IsGiven, IsOutcomeOf, IsLawful, contents_of}
use Rattle.llbuild_cli.specs.Journal.{Journal, Knows, IsUnknown, IsOnce}
use Rattle.build_report.specs.declared.report.StatSeen.{StatSeen}
use Rattle.llbuild_cli.specs.Look.{Looked, CameFrom}
use Rattle.llbuild_cli.specs.Move.{Moved}
use Rattle.llbuild_cli.specs.Input.{AreRead}
use Rattle.llbuild_cli.specs.CommandRun.{IsInput, IsOutput, IsSound, SeenStands, ReadsStand, IsOrderFor, IsEnded, DidCommand, contents_made, DidLaw}
use Rattle.llbuild_cli.specs.OrderEnd.{SettledDone, with_heard}
use Rattle.llbuild_cli.specs.Sight.{GivesInfo, WasHeard, sights_of, sources_of}
use Rattle.llbuild_cli.proofs.ProgressLemmas.{keeps_both, looked_came, looked_on, stayed_at}
use Rattle.llbuild_cli.proofs.InputLemmas.{input_of}
use Rattle.llbuild_cli.proofs.JournalLemmas.{get_some, heard_shown}

pub knows_same : (a b : Journal) → b.stats ≡ a.stats → b.heard ≡ a.heard → (p : List ℕ) (i : Info) → Knows b p i → Knows a p i
knows_same a b stats heard p i k = elim k [
  | inl s ↦ inl (subst (λ (ss : List StatSeen). In (p, i) (sights_of ss)) stats s)
  | inr w ↦ inr (subst (λ (hs : List Heard). WasHeard hs p i) heard w)
]

-- what was seen still stands where nothing of it is written
pub stands_moved : {written : List ℕ → Type 0} {w v : DiskView} (j : Journal) → ((p : List ℕ) (i : Info) → Knows j p i → written p → ⊥) → Moved written w v → SeenStands w j → SeenStands v j
stands_moved j apart moved stands t p i k = moved.same t p Follow (apart p i k) ∙ stands (moved.keeps.infos t) p i k

pub stands_stayed : {w v : DiskView} (j : Journal) → Stayed w v → SeenStands w j → SeenStands v j
stands_stayed j stayed stands t p i k = stayed_at stayed t p Follow ∙ stands (stayed.keeps.infos t) p i k

-- what was seen stands after some looks
pub seen_stands_looked : {asked : List ℕ → Type 0} {w g : DiskView} {a b : Journal} → SeenStands w a → Stayed w g → Looked g asked a b → SeenStands g b
seen_stands_looked {asked} {w} {g} {a} {b} old stayed looked t p i k = elim (looked_came looked p i k) [
  | inl o ↦ stands_stayed a stayed old t p i o
  | inr n ↦ n.0.stood t
]

-- files that were read as they were seen stand
pub reads_stand : (g : DiskView) (b : Journal) (c : Command) (reads : List Read) → SeenStands g b → AreRead (Knows b) c.inputs reads → Told g → ReadsStand g.at reads
reads_stand g b c reads stands read t r p i i_in node reading =
    let (input, both) = input_of c.inputs reads read r i_in in
    let one = both.1 in
    let path : one.saw.path ≡ p = ap node_text (sym (one.node ∙ one.saw.node) ∙ node) in
    let info : one.info ≡ i = info_of one.info i (sym one.reading ∙ reading) in
    ap (λ (q : List ℕ). g.at q Follow) (sym path) ∙ stands t one.saw.path one.info one.saw.was ∙ info
  where
    info_of : (x y : Info) → File x ≡ File y → x ≡ y
    info_of x y e = cc e

pub did_on : (does : Does) (m : List FileVersion) (before after : List ℕ → Form → Info) (c : Command) (reads : List Read) → ((p : List ℕ) (f : Form) → after p f ≡ before p f)
    → DidLaw does m before c reads → DidLaw does m after c reads
did_on does m before after c reads same did =
    let outs : contents_made m after c ≡ contents_made m before c =
    map-same (λ (p : List ℕ). content m p (after p Follow)) (λ (p : List ℕ). content m p (before p Follow)) (paths_of c.outputs)
    (λ p i. ap (content m p) (same p Follow)) in
    subst (λ (o : List Content). does (signature_of (meaning_of c)) (read_contents m reads) [] o) (sym outs) did

-- what was seen after the inputs were looked at is no output of the command
pub seen_apart : {g : DiskView} {a b : Journal} (c : Command) → IsSound c → ((p : List ℕ) → IsOutput c p → IsUnknown a p) → Looked g (IsInput c.inputs) a b
    → (p : List ℕ) (i : Info) → Knows b p i → IsOutput c p → ⊥
seen_apart c sound unseen looked p i k o = elim (looked_came looked p i k) [
  | inl old ↦ unseen p o i old
  | inr n ↦ sound.apart p n.0.was_asked o
]

-- a command ran whose order ended and was noted
pub ran_one : {does : Does} {g e v : DiskView} {old middle noting new : Journal} (c : Command) (reads : List Read) (order : Order)
    → ((m : List FileVersion) → Tells v m → Told v)
    → IsSound c → Looked g (IsInput c.inputs) old middle → noting.stats ≡ middle.stats → noting.heard ≡ middle.heard
    → AreRead (Knows middle) c.inputs reads → Moved (IsOutput c) g e → Stayed e v
    → order.outputs ≡ paths_of c.outputs → SettledDone v order noting new
    → ((m : List FileVersion) → Tells e m → DidLaw does m e.at c reads)
    → DidCommand does c v old new
ran_one {does} {g} {e} {v} {old} {middle} {noting} {new} c reads order law sound looked same_stats same_heard read ran settled outputs done did =
    let last : Heard = record { order = order; outcome = Done [] done.infos } in
    record {
      middle = middle;
      looked = looked_on (keeps_both ran.keeps settled.keeps)
          (λ t p a. stayed_at settled t p Follow ∙ ran.same (settled.keeps.infos t) p Follow (sound.apart p a)) looked;
      reads = reads;
      are_read = read;
      last = last;
      stats = ap (λ (j : Journal). j.stats) done.is ∙ same_stats;
      heard = ap (λ (j : Journal). j.heard) done.is ∙ ap (λ (hs : List Heard). hs ++ last ∷ []) (same_heard ∙ looked.heard);
      outputs = λ p o.
          (let in_order : In p order.outputs = subst (λ (ps : List (List ℕ)). In p ps) (sym outputs) o in
          let (k, at_k) = In-index p order.outputs in_order in
          let less = slice_get_within order.outputs k p at_k in
          let (info, at_info) = get_some done.infos k (omega (arith, done.count, less)) in
          (info, (k, (at_k, at_info))));
      gives = λ p i gives. (
        subst (λ (ps : List (List ℕ)). In p ps) outputs (In-get order.outputs gives.0 p gives.1.0),
        (λ t.
            (let stood : slice_get done.infos gives.0 ≡ Some (v.at p Follow) = ap (λ (is : List Info). slice_get is gives.0) (done.stood t) ∙ get-map (λ (q : List ℕ). v.at q Follow) order.outputs gives.0 p gives.1.0 in
            let a = gives.1.1 in cc)),
      );
      did = λ m t. did_on does m e.at v.at c reads (λ p f. stayed_at settled (law m t) p f) (did m (settled.keeps.contents m t));
    }

-- what is known after a command that ran was known when its inputs were looked at, or comes from its order
pub ran_knows : {does : Does} {c : Command} {v : DiskView} {a b : Journal} → (ran : DidCommand does c v a b) → (p : List ℕ) (i : Info) → Knows b p i
    → Knows ran.middle p i ⊎ GivesInfo ran.last.order.outputs ran.last.outcome p i
ran_knows {c} {v} {a} {b} ran p i k =
    let whole : Knows (with_heard ran.middle ran.last) p i = elim k [
      | inl s ↦ inl (subst (λ (ss : List _). In (p, i) (sights_of ss)) ran.stats s)
      | inr w ↦ inr (subst (λ (hs : List Heard). WasHeard hs p i) (ran.heard ∙ ap (λ (hs : List Heard). hs ++ ran.last ∷ []) (sym ran.looked.heard)) w)
    ] in
    heard_shown ran.middle.stats ran.middle.heard ran.last p i whole

-- what was known when its inputs were looked at stays known
pub ran_kept : {does : Does} {c : Command} {v : DiskView} {a b : Journal} → (ran : DidCommand does c v a b) → (p : List ℕ) (i : Info) → Knows ran.middle p i → Knows b p i
ran_kept ran p i k = elim k [
  | inl s ↦ inl (subst (λ (ss : List _). In (p, i) (sights_of ss)) (sym ran.stats) s)
  | inr w ↦ inr (w.0, (subst (λ (hs : List Heard). In w.0 hs) (sym (ran.heard ∙ ap (λ (hs : List Heard). hs ++ ran.last ∷ []) (sym ran.looked.heard))) (In-left w.0 ran.middle.heard (ran.last ∷ []) w.1.0), w.1.1))
]

-- what the order of the command gives is known
pub ran_gives : {does : Does} {c : Command} {v : DiskView} {a b : Journal} → (ran : DidCommand does c v a b) → (p : List ℕ) (i : Info) → GivesInfo ran.last.order.outputs ran.last.outcome p i → Knows b p i
ran_gives {a} ran p i gives =
    inr (ran.last, (subst (λ (hs : List Heard). In ran.last hs) (sym ran.heard) (In-right ran.last a.heard (ran.last ∷ []) (inl refl)), gives))

-- what is known stands after a command that ran
pub ran_stands : {does : Does} {w v : DiskView} {a b : Journal} (c : Command) → ((p : List ℕ) → IsOutput c p → IsUnknown a p) → SeenStands w a → Moved (IsOutput c) w v → DidCommand does c v a b → SeenStands v b
ran_stands c unseen stands moved ran t p i k = elim (ran_knows ran p i k) [
  | inl m ↦ elim (looked_came ran.looked p i m) [
    | inl o ↦ moved.same t p Follow (λ x. unseen p x i o) ∙ stands (moved.keeps.infos t) p i o
    | inr n ↦ n.0.stood t
  ]
  | inr g ↦ (ran.gives p i g).1 t
]

-- what was heard stays well as the world goes on
pub heard_on : {ended : DiskView → Order → Exit → Type 0} {does : Does} {w v : DiskView} {heard : List Heard} → Keeps w v → HeardWell ended does w heard → HeardWell ended does v heard
heard_on keeps well = record {
  given = λ h i. (let g = well.given h i in record { exit = g.exit; moment = g.moment; answered = g.answered; outcome = g.outcome; keeps = keeps_both g.keeps keeps; stood = λ t. g.stood (keeps.infos t) });
  lawful = λ m t. well.lawful m (keeps.contents m t);
}

-- the same of an equal list
pub heard_same : {ended : DiskView → Order → Exit → Type 0} {does : Does} {w : DiskView} {heard then : List Heard} → then ≡ heard → HeardWell ended does w heard → HeardWell ended does w then
heard_same {ended} {does} {w} same well = subst (λ (hs : List Heard). HeardWell ended does w hs) (sym same) well

pub heard_more : {ended : DiskView → Order → Exit → Type 0} {does : Does} {w : DiskView} {heard : List Heard}
    → HeardWell ended does w heard → (h : Heard) → IsGiven ended w h → ((m : List FileVersion) → Tells w m → IsLawful does m h.order h.outcome) → HeardWell ended does w (heard ++ h ∷ [])
heard_more {ended} {does} {w} {heard} old h given lawful = record {
  given = λ x i. elim (In-either x heard (h ∷ []) i) [ inl k ↦ old.given x k | inr k ↦ subst (λ (z : Heard). IsGiven ended w z) (sym (In-one k)) given ];
  lawful = λ m t x i. elim (In-either x heard (h ∷ []) i) [ inl k ↦ old.lawful m t x k | inr k ↦ subst (λ (z : Heard). IsLawful does m z.order z.outcome) (sym (In-one k)) (lawful m t) ];
}

-- what was answered of the order of a command whose reads stood
pub given_one : {ended : DiskView → Order → Exit → Type 0} {g e v : DiskView} {c : Command} {ticket : ℕ} {reads : List Read} (h : Heard) (x : Ended)
    → h.order ≡ x.order → IsOutcomeOf x.exit x.order h.outcome → IsEnded ended g e x → IsOrderFor c ticket reads x.order → (Told g → ReadsStand g.at reads) → Keeps g e → Keeps e v → IsGiven ended v h
given_one {ended} {g} {e} {v} {reads} h x same outcome is order stands from keeps = record {
  exit = x.exit;
  moment = is.moment;
  answered = subst (λ (o : Order). ended is.moment o x.exit) (sym same) is.answered;
  outcome = subst (λ (o : Order). IsOutcomeOf x.exit o h.outcome) (sym same) outcome;
  keeps = keeps_both is.keeps keeps;
  stood = λ t. subst (λ (o : Order). Rattle.outside.specs.Outcome.Unchanged is.moment.at o) (sym same)
      (is.stood (keeps.infos t) (subst (λ (rs : List Read). ReadsStand g.at rs) (sym order.reads_are) (stands (from.infos (keeps.infos t)))));
}

contents_at_paths : (m : List FileVersion) (at : List ℕ → Form → Info) (paths : List (List ℕ))
    → contents_of m paths (map (λ (p : List ℕ). at p Follow) paths) ≡ map (λ (p : List ℕ). content m p (at p Follow)) paths
contents_at_paths m at [] = refl
contents_at_paths m at (p ∷ ps) = ap (λ (xs : List Content). content m p (at p Follow) ∷ xs) (contents_at_paths m at ps)

-- what succeeded by the law is lawful
pub lawful_done : (does : Does) (m : List FileVersion) (at : List ℕ → Form → Info) (c : Command) (ticket : ℕ) (reads : List Read) (order : Order) (infos : List Info)
    → IsOrderFor c ticket reads order → infos ≡ map (λ (p : List ℕ). at p Follow) order.outputs → DidLaw does m at c reads
    → does order.signature (read_contents m order.reads) [] (contents_of m order.outputs infos)
lawful_done does m at c ticket reads order infos is stood did =
    let outs : contents_of m order.outputs infos ≡ contents_made m at c =
    ap (contents_of m order.outputs) stood ∙ contents_at_paths m at order.outputs ∙ ap (map (λ (p : List ℕ). content m p (at p Follow))) is.outputs_are in
    subst (λ (o : List Content). does order.signature (read_contents m order.reads) [] o) (sym outs)
    (subst (λ (rs : List Read). does order.signature (read_contents m rs) [] (contents_made m at c)) (sym is.reads_are)
    (subst (λ (s : List ℕ). does s (read_contents m reads) [] (contents_made m at c)) (sym is.is.formed.signature) did))

-- journals that differ in their starts alone know the same
pub stands_same : (w : DiskView) (a b : Journal) → b.stats ≡ a.stats → b.heard ≡ a.heard → SeenStands w a → SeenStands w b
stands_same w a b stats heard stands t p i k = stands t p i (knows_same a b stats heard p i k)

pub once_same : (a b : Journal) → b.stats ≡ a.stats → b.heard ≡ a.heard → IsOnce a → IsOnce b
once_same a b stats heard once = record {
  single = λ p i j x y. once.single p i j (knows_same a b stats heard p i x) (knows_same a b stats heard p j y);
  sources = subst (λ (ss : List StatSeen). IsDistinct (sources_of ss)) (sym stats) once.sources;
}

pub came_same : {asked : List ℕ → Type 0} (a b d : Journal) → d.stats ≡ b.stats → CameFrom asked a b → CameFrom asked a d
came_same a b d stats came p i s = came p i (subst (λ (ss : List StatSeen). In (p, i) (sights_of ss)) stats s)
