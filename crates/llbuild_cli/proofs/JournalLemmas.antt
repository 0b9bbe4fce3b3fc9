-- What a journal knows as it goes on.
use Rattle.std.proofs.Common.{◌≡◌, ◌<◌, ℕ, zero, suc, Bool, true, false, eqb, eqb-true, eq-eqb, List, [], ◌∷◌, ◌++◌, ◌+◌, length, refl, sym, ◌∙◌, ap, inl, inr, subst, arith}
use Rattle.std.proofs.lemmas.Slice.Eq.{bytes_eq-Decides}
use Rattle.std.specs.Bool.{Decides}
use Rattle.std.specs.Str.{bytes_eq}
use Rattle.std.specs.Prelude.{◌⊎◌, slice_get, Option, Some, None, Result, Ok, Err, OnOk, OnErr, String, string_bytes, if◌then◌else◌}
use Rattle.std.proofs.Common.{Bor}
use Rattle.std.specs.Option.{option_copied}
use Rattle.std.specs.Prelude.{IfSome, IfNone}
use Rattle.std.proofs.lemmas.Option.{slice_get_within}
use Rattle.std.proofs.lemmas.List.{map-append}
use Rattle.file_info.proofs.Lists.{In-either, In-index, In-left, In-one, In-right, distinct-more}
use Rattle.reserved_list.specs.Reserved.{Reserved}
use Rattle.file_info.specs.Lists.{In, IsDistinct}
use Rattle.file_info.specs.declared.info.Info.{Info}
use Rattle.outside.specs.declared.order.Exit.{Exit}
use Rattle.outside.specs.declared.order.Order.{Order}
use Rattle.build_report.specs.declared.report.Heard.{Heard}
use Rattle.build_report.specs.declared.report.Outcome.TheVariants.{Failed, Done}
use Rattle.build_report.specs.declared.report.StatSeen.{StatSeen}
use Rattle.llbuild_cli.specs.Journal.{Journal, Knows, IsOnce, IsIndex}
use Rattle.llbuild_cli.specs.Index.{Noted, AllNoted, keys_of, infos_of, with_entry, with_entries}
use Rattle.llbuild_cli.specs.Sight.{GivesInfo, Shows, sights_of, sources_of}

same_tails : (x y : ℕ) (xs ys : List ℕ) → x ≡ y → (xs ≡ ys) ⊎ (xs ≡ ys → ⊥) → (x ∷ xs ≡ y ∷ ys) ⊎ (x ∷ xs ≡ y ∷ ys → ⊥)
same_tails x y xs ys e (inl f) = inl (cc (e, f))
same_tails x y xs ys e (inr f) = inr (λ same. f (cc same))

same_heads : (x y : ℕ) (xs ys : List ℕ) → (xs ≡ ys) ⊎ (xs ≡ ys → ⊥) → (b : Bool) → eqb x y ≡ b → (x ∷ xs ≡ y ∷ ys) ⊎ (x ∷ xs ≡ y ∷ ys → ⊥)
same_heads x y xs ys tails true e = same_tails x y xs ys (eqb-true x y e) tails
same_heads x y xs ys tails false e = inr (λ same. let head : x ≡ y = cc same in let t = eq-eqb x y head in cc (e, t))

-- a list of numbers is another, or is not
pub same_or_not : (a b : List ℕ) → (a ≡ b) ⊎ (a ≡ b → ⊥)
same_or_not [] [] = inl refl
same_or_not [] (y ∷ ys) = inr (λ e. cc e)
same_or_not (x ∷ xs) [] = inr (λ e. cc e)
same_or_not (x ∷ xs) (y ∷ ys) = same_heads x y xs ys (same_or_not xs ys) (eqb x y) refl

pub in_or_not : (p : List ℕ) (ps : List (List ℕ)) → In p ps ⊎ (In p ps → ⊥)
in_or_not p [] = inr (λ i. i)
in_or_not p (q ∷ qs) = elim (same_or_not p q) [
  | inl e ↦ inl (inl e)
  | inr f ↦ elim (in_or_not p qs) [ inl i ↦ inl (inr i) | inr g ↦ inr (λ h. elim h [ inl e ↦ f e | inr i ↦ g i ]) ]
]

-- something stands at each place of a list
pub get_some : {A : Type 0} (xs : List A) (k : ℕ) → k < length xs → (x : A) × (slice_get xs k ≡ Some x)
get_some [] k h = absurd (omega arith)
get_some (x ∷ xs) zero h = (x, refl)
get_some (x ∷ xs) (suc k) h = get_some xs k (omega arith)

-- a source was seen with some information
pub source_seen : (stats : List StatSeen) (p : List ℕ) → In p (sources_of stats) → (i : Info) × In (p, i) (sights_of stats)
source_seen [] p i = absurd i
source_seen (s ∷ ss) p (inl e) = (s.info, inl (ap (λ (q : List ℕ). (q, s.info)) e))
source_seen (s ∷ ss) p (inr k) = (let r = source_seen ss p k in (r.0, inr r.1))

-- a source with its information
pub sight_in : (stats : List StatSeen) (s : StatSeen) → In s stats → In (s.path, s.info) (sights_of stats)
sight_in [] s i = absurd i
sight_in (x ∷ xs) s (inl e) = inl (ap (λ (z : StatSeen). (z.path, z.info)) e)
sight_in (x ∷ xs) s (inr k) = inr (sight_in xs s k)

-- what was shown is shown where one source or one end more was noted
pub shown_source : (stats : List StatSeen) (heard : List Heard) (s : StatSeen) (p : List ℕ) (i : Info) → Shows stats heard p i → Shows (stats ++ s ∷ []) heard p i
shown_source stats heard s p i (inl k) =
    inl (subst (λ (ss : List (List ℕ × Info)). In (p, i) ss) (sym (map-append (λ (x : StatSeen). (x.path, x.info)) stats (s ∷ []))) (In-left (p, i) (sights_of stats) ((s.path, s.info) ∷ []) k))
shown_source stats heard s p i (inr w) = inr w

pub shown_heard : (stats : List StatSeen) (heard : List Heard) (h : Heard) (p : List ℕ) (i : Info) → Shows stats heard p i → Shows stats (heard ++ h ∷ []) p i
shown_heard stats heard h p i (inl k) = inl k
shown_heard stats heard h p i (inr w) = inr (w.0, (In-left w.0 heard (h ∷ []) w.1.0, w.1.1))

-- a source with what stood there
abbrev pub IsSight : List ℕ → Info → StatSeen → Type 0
IsSight p i s = ◌≡◌ {A = List ℕ × Info} (p, i) (s.path, s.info)

-- what is shown was shown, or comes from the source or the end that was noted last
pub source_shown : (stats : List StatSeen) (heard : List Heard) (s : StatSeen) (p : List ℕ) (i : Info) → Shows (stats ++ s ∷ []) heard p i → Shows stats heard p i ⊎ IsSight p i s
source_shown stats heard s p i (inl k) =
    elim (In-either (p, i) (sights_of stats) ((s.path, s.info) ∷ []) (subst (λ (ss : List (List ℕ × Info)). In (p, i) ss) (map-append (λ (x : StatSeen). (x.path, x.info)) stats (s ∷ [])) k)) [
      | inl o ↦ inl (inl o)
      | inr o ↦ inr (In-one o)
    ]
source_shown stats heard s p i (inr w) = inl (inr w)

pub heard_shown : (stats : List StatSeen) (heard : List Heard) (h : Heard) (p : List ℕ) (i : Info) → Shows stats (heard ++ h ∷ []) p i
    → Shows stats heard p i ⊎ GivesInfo h.order.outputs h.outcome p i
heard_shown stats heard h p i (inl k) = inl (inl k)
heard_shown stats heard h p i (inr w) = elim (In-either w.0 heard (h ∷ []) w.1.0) [
  | inl k ↦ inl (inr (w.0, (k, w.1.1)))
  | inr k ↦ inr (subst (λ (z : Heard). GivesInfo z.order.outputs z.outcome p i) (In-one k) w.1.1)
]

-- one source more
pub index_source : (stats : List StatSeen) (heard : List Heard) (path : List ℕ) (info : Info) (old new : List ℕ → Option Info)
    → IsIndex stats heard old → Noted path info old new → ((i : Info) → Shows stats heard path i → ⊥) → IsIndex (stats ++ record { path = path; info = info } ∷ []) heard new
index_source stats heard path info old new was noted unknown = record {
  shown = λ p i e. elim (same_or_not p path) [
    | inl same ↦
        (let here : new p ≡ Some info = ap new same ∙ noted.here in
        let is : info ≡ i = cc (here, e) in
        let pair : ◌≡◌ {A = List ℕ × Info} (p, i) (path, info) = cc (same, is) in
        inl (subst (λ (ss : List (List ℕ × Info)). In (p, i) ss) (sym (map-append (λ (x : StatSeen). (x.path, x.info)) stats (seen ∷ []))) (In-right (p, i) (sights_of stats) ((path, info) ∷ []) (inl pair))))
    | inr differs ↦ shown_source stats heard seen p i (was.shown p i (sym (noted.others p differs) ∙ e))
  ];
  all = λ p i s. elim (source_shown stats heard seen p i s) [
    | inl k ↦ noted.others p (λ same. unknown i (subst (λ (q : List ℕ). Shows stats heard q i) same k)) ∙ was.all p i k
    | inr e ↦
        (let first : p ≡ path = ap (λ (z : List ℕ × Info). z.0) e in
        let second : i ≡ info = ap (λ (z : List ℕ × Info). z.1) e in
        ap new first ∙ noted.here ∙ ap Some (sym second))
  ];
  sources = subst (λ (ps : List (List ℕ)). IsDistinct ps) (sym (map-append (λ (x : StatSeen). x.path) stats (seen ∷ [])))
      (distinct-more (sources_of stats) path was.sources (λ i. (let r = source_seen stats path i in unknown r.0 (inl r.1))));
}
  where
    seen : StatSeen
    seen = record { path = path; info = info }

-- one failed order more
pub index_failed : (stats : List StatSeen) (heard : List Heard) (order : Order) (exit : Exit) (look : List ℕ → Option Info)
    → IsIndex stats heard look → IsIndex stats (heard ++ record { order = order; outcome = Failed exit } ∷ []) look
index_failed stats heard order exit look was = record {
  shown = λ p i e. shown_heard stats heard (record { order = order; outcome = Failed exit }) p i (was.shown p i e);
  all = λ p i s. elim (heard_shown stats heard (record { order = order; outcome = Failed exit }) p i s) [ inl k ↦ was.all p i k | inr g ↦ absurd g ];
  sources = was.sources;
}

-- one order more that succeeded
pub index_done : (stats : List StatSeen) (heard : List Heard) (order : Order) (infos : List Info) (old new : List ℕ → Option Info)
    → IsIndex stats heard old → length infos ≡ length order.outputs → ((p : List ℕ) → In p order.outputs → (i : Info) → Shows stats heard p i → ⊥)
    → AllNoted order.outputs infos old new → IsIndex stats (heard ++ record { order = order; outcome = Done [] infos } ∷ []) new
index_done stats heard order infos old new was count unknown noted = record {
  shown = λ p i e. elim (in_or_not p order.outputs) [
    | inl o ↦
        (let (k, at_k) = In-index p order.outputs o in
        let less = slice_get_within order.outputs k p at_k in
        let (info, at_info) = get_some infos k (omega (arith, count, less)) in
        let here = noted.here k p info at_k at_info in
        let is : info ≡ i = cc (here, e) in
        inr (last, (In-right last heard (last ∷ []) (inl refl), (k, (at_k, at_info ∙ ap Some is)))))
    | inr n ↦ shown_heard stats heard last p i (was.shown p i (sym (noted.others p n) ∙ e))
  ];
  all = λ p i s. elim (heard_shown stats heard last p i s) [
    | inl k ↦ noted.others p (λ o. unknown p o i k) ∙ was.all p i k
    | inr g ↦ noted.here g.0 p i g.1.0 g.1.1
  ];
  sources = was.sources;
}
  where
    last : Heard
    last = record { order = order; outcome = Done [] infos }

-- what an index is of stands once
pub once_index : (j : Journal) (look : List ℕ → Option Info) → IsIndex j.stats j.heard look → IsOnce j
once_index j look is = record {
  single = λ p a b s t. (let x = is.all p a s in let y = is.all p b t in cc (x, y));
  sources = is.sources;
}

-- below the next number is below this one, or is it
pub split_last : (k n : ℕ) → k < n + 1 → (k < n) ⊎ (k ≡ n)
split_last zero zero h = inr refl
split_last zero (suc n) h = inl (omega arith)
split_last (suc k) zero h = absurd (omega arith)
split_last (suc k) (suc n) h = elim (split_last k n (omega arith)) [ inl l ↦ inl (omega arith) | inr e ↦ inr (ap suc e) ]

-- the same look-up
pub index_same : (stats : List StatSeen) (heard : List Heard) (old new : List ℕ → Option Info) → ((p : List ℕ) → new p ≡ old p) → IsIndex stats heard old → IsIndex stats heard new
index_same stats heard old new same was = record { shown = λ p i e. was.shown p i (sym (same p) ∙ e); all = λ p i s. same p ∙ was.all p i s; sources = was.sources }

-- a failed order may have been noted
pub index_try_failed : {E : Type 0} (r : Result (Unit {0}) E) (stats : List StatSeen) (heard after : Reserved Heard) (order : Order) (exit : Exit) (look : List ℕ → Option Info)
    → OnOk r (after.items ≡ heard.items ++ record { order = order; outcome = Failed exit } ∷ []) → OnErr r (after ≡ heard) → IsIndex stats heard.items look → IsIndex stats after.items look
index_try_failed (Ok x) stats heard after order exit look more same was = subst (λ (hs : List Heard). IsIndex stats hs look) (sym more) (index_failed stats heard.items order exit look was)
index_try_failed (Err e) stats heard after order exit look more same was = subst (λ (hs : List Heard). IsIndex stats hs look) (sym (ap (λ (z : Reserved Heard). z.items) same)) was

-- what the entry of a path gives there, and elsewhere
entry_here : (key : List ℕ) (info : Info) (look : List ℕ → Option Info) → with_entry key info look key ≡ Some info
entry_here key info look = go (bytes_eq key key) refl (bytes_eq-Decides key key)
  where
    go : (b : Bool) → bytes_eq key key ≡ b → Decides b (key ≡ key) → (if b then Some info else look key) ≡ Some info
    go true e d = refl
    go false e d = absurd (let f : false ≡ true = d.1 refl in cc f)

entry_other : (key : List ℕ) (info : Info) (look : List ℕ → Option Info) (p : List ℕ) → (p ≡ key → ⊥) → with_entry key info look p ≡ look p
entry_other key info look p differs = go (bytes_eq p key) refl (bytes_eq-Decides p key)
  where
    go : (b : Bool) → bytes_eq p key ≡ b → Decides b (p ≡ key) → (if b then Some info else look p) ≡ look p
    go true e d = absurd (differs (d.0 refl))
    go false e d = refl

if_same : {A : Type 0} (b : Bool) (x y z : A) → y ≡ z → (if b then x else y) ≡ (if b then x else z)
if_same true x y z e = refl
if_same false x y z e = e

-- look-ups that agree still do where the same entries come in
pub with_agrees : {A : Type 0} (entries : List (String A × Info)) (f g : List ℕ → Option Info) → ((p : List ℕ) → f p ≡ g p) → (p : List ℕ) → with_entries entries f p ≡ with_entries entries g p
with_agrees [] f g same p = same p
with_agrees (e ∷ es) f g same p =
    with_agrees es (with_entry (string_bytes e.0) e.1 f) (with_entry (string_bytes e.0) e.1 g) (λ q. if_same (bytes_eq q (string_bytes e.0)) (Some e.1) (f q) (g q) (same q)) p

-- one entry came in, and the others are left
pub with_next : {A : Type 0} (key : String A) (info : Info) (more entries : List (String A × Info)) (first old new : List ℕ → Option Info)
    → ((p : List ℕ) → with_entries ((key, info) ∷ more) old p ≡ with_entries entries first p) → Noted (string_bytes key) info old new
    → (p : List ℕ) → with_entries more new p ≡ with_entries entries first p
with_next key info more entries first old new was noted p = with_agrees more new (with_entry (string_bytes key) info old) one p ∙ was p
  where
    one : (q : List ℕ) → new q ≡ with_entry (string_bytes key) info old q
    one q = elim (same_or_not q (string_bytes key)) [
      | inl same ↦ ap new same ∙ noted.here ∙ sym (entry_here (string_bytes key) info old) ∙ ap (with_entry (string_bytes key) info old) (sym same)
      | inr differs ↦ noted.others q differs ∙ sym (entry_other (string_bytes key) info old q differs)
    ]

with_others : {A : Type 0} (entries : List (String A × Info)) (look : List ℕ → Option Info) (p : List ℕ) → (In p (keys_of entries) → ⊥) → with_entries entries look p ≡ look p
with_others [] look p n = refl
with_others (e ∷ es) look p n = with_others es (with_entry (string_bytes e.0) e.1 look) p (λ i. n (inr i)) ∙ entry_other (string_bytes e.0) e.1 look p (λ same. n (inl same))

with_here : {A : Type 0} (entries : List (String A × Info)) (look : List ℕ → Option Info) → IsDistinct (keys_of entries)
    → (k : ℕ) (p : List ℕ) (i : Info) → slice_get (keys_of entries) k ≡ Some p → slice_get (infos_of entries) k ≡ Some i → with_entries entries look p ≡ Some i
with_here [] look d k p i at_p at_i = cc at_p
with_here (e ∷ es) look d zero p i at_p at_i =
    let key : string_bytes e.0 ≡ p = cc at_p in
    let info : e.1 ≡ i = cc at_i in
    ap (with_entries es (with_entry (string_bytes e.0) e.1 look)) (sym key)
    ∙ with_others es (with_entry (string_bytes e.0) e.1 look) (string_bytes e.0) d.0 ∙ entry_here (string_bytes e.0) e.1 look ∙ ap Some info
with_here (e ∷ es) look d (suc k) p i at_p at_i = with_here es (with_entry (string_bytes e.0) e.1 look) d.1 k p i at_p at_i

-- entries with distinct paths come in each at its own
pub with_noted : {A : Type 0} (entries : List (String A × Info)) (paths : List (List ℕ)) (infos : List Info) (old new : List ℕ → Option Info)
    → keys_of entries ≡ paths → infos_of entries ≡ infos → IsDistinct paths → ((p : List ℕ) → new p ≡ with_entries entries old p) → AllNoted paths infos old new
with_noted entries paths infos old new keys values distinct is = record {
  here = λ k p i at_p at_i. is p ∙ with_here entries old (subst (λ (ps : List (List ℕ)). IsDistinct ps) (sym keys) distinct) k p i
      (subst (λ (ps : List (List ℕ)). slice_get ps k ≡ Some p) (sym keys) at_p) (subst (λ (is : List Info). slice_get is k ≡ Some i) (sym values) at_i);
  others = λ q n. is q ∙ with_others entries old q (λ i. n (subst (λ (ps : List (List ℕ)). In q ps) keys i));
}

-- an equal list of sources
pub index_items : (stats more : List StatSeen) (heard : List Heard) (look : List ℕ → Option Info) → more ≡ stats → IsIndex stats heard look → IsIndex more heard look
index_items stats more heard look same was = subst (λ (ss : List StatSeen). IsIndex ss heard look) (sym same) was

-- what is looked up by reference
pub copied_some : {A : Type 0} (o : Option (Bor A)) (x : Option A) (P : A → Type 0) → option_copied o ≡ x → ((a : A) → x ≡ Some a → P a) → IfSome o (λ b. P b.now)
copied_some None x P same all = tt
copied_some (Some b) x P same all = all b.now (sym same)

pub copied_none : {A : Type 0} (o : Option (Bor A)) (x : Option A) (P : Type 0) → option_copied o ≡ x → (x ≡ None → P) → IfNone o P
copied_none None x P same none = none (sym same)
copied_none (Some b) x P same none = tt

pub on_ok : {T E : Type 0} (r : Result T E) (A : Type 0) → A → OnOk r A
on_ok (Ok x) A a = a
on_ok (Err e) A a = tt

-- a source that was noted is known
pub source_known : (a b : Journal) (path : List ℕ) (info : Info) → b ≡ record { starts = a.starts; stats = a.stats ++ record { path = path; info = info } ∷ []; heard = a.heard } → Knows b path info
source_known a b path info same = subst (λ (j : Journal). Knows j path info) (sym same)
    (inl (sight_in (a.stats ++ seen ∷ []) seen (In-right seen a.stats (seen ∷ []) (inl refl))))
  where
    seen : StatSeen
    seen = record { path = path; info = info }
