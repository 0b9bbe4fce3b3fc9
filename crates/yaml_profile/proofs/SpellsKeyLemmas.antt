-- Scalars and keys do not depend on all that follows them.
use Rattle.std.proofs.Common.{◌≡◌, ◌⊎◌, inl, inr, ℕ, Bool, true, false, not, ◌&&◌, ◌||◌, ◌==◌, List, [], ◌∷◌, ◌++◌, drop, refl, sym, ap, subst, ◌∙◌, append_assoc}
use Rattle.std.specs.Prelude.{flat_map}
use Rattle.std.proofs.lemmas.Bool.{eqb-true}
use Rattle.yaml_profile.specs.Text.{Text, sees, is_white, ends_line, is_gap, is_flow_mark, past_white, spaced}
use Rattle.yaml_profile.specs.Scalar.{closes, is_indicator, begins_plain, ends_plain}
use Rattle.yaml_profile.specs.Space.{◌and_then◌, Many, Is, IsWhite, IsSpace, IsGap, IsGapOrComment}
use Rattle.yaml_profile.specs.ScalarTexts.{in_single, IsQuoted, GoesOn, IsPlain, IsScalar, IsKey, quoted, plain as plain_key}
use Rattle.yaml_profile.proofs.FineLemmas.{either, first_of_both, second_of_both}
use Rattle.yaml_profile.proofs.SpellsPartLemmas.{Cuts, Reads, both_parts, chain, widen, seen_byte, IsFull, seen_full}
use Rattle.yaml_profile.proofs.SpellsSpaceLemmas.{white_cut, space_cases, gap_begins}
use Rattle.yaml_profile.proofs.SpellsScalarLemmas.{left_true, right_true, both_true, differ, PlainText, ScalarText}

-- ---- less that follows

-- a plain scalar that does not end where the second text stands next does not end where the first stands next
record Weaker (flow : Bool) (s r : Text) : Type 0 where
  feed : sees 10 s ≡ true → sees 10 r ≡ true
  close : closes flow s ≡ true → closes flow r ≡ true

line_weaker : (b : ℕ) (s r : Text) → (sees 10 s ≡ true → sees 10 r ≡ true) → ends_line (b ∷ s) ≡ true → ends_line (b ∷ r) ≡ true
line_weaker b s r f e =
    either (b == 10) (b == 13 && sees 10 s) (λ g. left_true (b == 10) _ g)
    (λ g. right_true (b == 10) _ (both_true (b == 13) _ (first_of_both (b == 13) (sees 10 s) g) (f (second_of_both (b == 13) (sees 10 s) g)))) e

pub gap_weaker : (b : ℕ) (s r : Text) → (sees 10 s ≡ true → sees 10 r ≡ true) → is_gap (b ∷ s) ≡ true → is_gap (b ∷ r) ≡ true
gap_weaker b s r f e =
    either (is_white b) (ends_line (b ∷ s)) (λ g. left_true (is_white b) _ g) (λ g. right_true (is_white b) _ (line_weaker b s r f g)) e

pub closes_weaker : (flow : Bool) (b : ℕ) (s r : Text) → (sees 10 s ≡ true → sees 10 r ≡ true) → closes flow (b ∷ s) ≡ true
    → closes flow (b ∷ r) ≡ true
closes_weaker flow b s r f e =
    either (is_gap (b ∷ s)) (flow && is_flow_mark b) (λ g. left_true (is_gap (b ∷ r)) _ (gap_weaker b s r f g))
    (λ g. right_true (is_gap (b ∷ r)) _ g) e

weaker_cons : (flow : Bool) (b : ℕ) (s r : Text) → Weaker flow s r → Weaker flow (b ∷ s) (b ∷ r)
weaker_cons flow b s r w = record { feed = λ e. e; close = closes_weaker flow b s r w.feed }

weaker_append : (flow : Bool) (front s r : Text) → Weaker flow s r → Weaker flow (front ++ s) (front ++ r)
weaker_append flow [] s r w = w
weaker_append flow (b ∷ front) s r w = weaker_cons flow b (front ++ s) (front ++ r) (weaker_append flow front s r w)

ends_weaker : (flow white : Bool) (b : ℕ) (s r : Text) → Weaker flow s r → ends_plain flow white (b ∷ s) ≡ true → ends_plain flow white (b ∷ r) ≡ true
ends_weaker flow white b s r w e =
    let mark = flow && is_flow_mark b in
    let hash = white && b == 35 in
    either (ends_line (b ∷ s) || (b == 58 && closes flow s) || mark) hash
    (λ f. left_true (ends_line (b ∷ r) || (b == 58 && closes flow r) || mark) hash (either (ends_line (b ∷ s) || (b == 58 && closes flow s)) mark
    (λ g. left_true (ends_line (b ∷ r) || (b == 58 && closes flow r)) mark (either (ends_line (b ∷ s)) (b == 58 && closes flow s)
    (λ h. left_true (ends_line (b ∷ r)) _ (line_weaker b s r w.feed h))
    (λ h. right_true (ends_line (b ∷ r)) _ (both_true (b == 58) _ (first_of_both (b == 58) (closes flow s) h)
    (w.close (second_of_both (b == 58) (closes flow s) h)))) g))
    (λ g. right_true (ends_line (b ∷ r) || (b == 58 && closes flow r)) mark g) f))
    (λ f. right_true (ends_line (b ∷ r) || (b == 58 && closes flow r) || mark) hash f) e

-- what implies a false test is false
pub refuted : (x y : Bool) → (x ≡ true → y ≡ true) → y ≡ false → x ≡ false
refuted true y f e = absurd (differ (f refl) e)
refuted false y f e = refl

goes_weaker : (flow white : Bool) (v s r : Text) → Weaker flow s r → GoesOn flow white v r → GoesOn flow white v s
goes_weaker flow white [] s r w h = h
goes_weaker flow white (b ∷ v) s r w h = (
  refuted (ends_plain flow white (b ∷ (v ++ s))) (ends_plain flow white (b ∷ (v ++ r)))
      (ends_weaker flow white b (v ++ s) (v ++ r) (weaker_append flow v s r w)) h.0,
  goes_weaker flow (is_white b) v s r w h.1,
)

pub not_true : (x : Bool) → not x ≡ true → x ≡ false
not_true true e = absurd cc
not_true false e = refl

pub true_not : (x : Bool) → x ≡ false → not x ≡ true
true_not true e = absurd cc
true_not false e = refl

begins_weaker : (flow : Bool) (b : ℕ) (s r : Text) → Weaker flow s r → begins_plain flow (b ∷ r) ≡ true → begins_plain flow (b ∷ s) ≡ true
begins_weaker flow b s r w e =
    let kind = b == 45 || b == 63 || b == 58 in
    let x = not (is_gap (b ∷ r) || is_indicator b) in
    let y = not (kind && closes flow r) in
    both_true (not (is_gap (b ∷ s) || is_indicator b)) (not (kind && closes flow s))
    (true_not (is_gap (b ∷ s) || is_indicator b) (refuted (is_gap (b ∷ s) || is_indicator b) (is_gap (b ∷ r) || is_indicator b)
    (λ f. either (is_gap (b ∷ s)) (is_indicator b) (λ g. left_true (is_gap (b ∷ r)) _ (gap_weaker b s r w.feed g))
    (λ g. right_true (is_gap (b ∷ r)) _ g) f)
    (not_true (is_gap (b ∷ r) || is_indicator b) (first_of_both x y e))))
    (true_not (kind && closes flow s) (refuted (kind && closes flow s) (kind && closes flow r)
    (λ f. both_true kind (closes flow r) (first_of_both kind (closes flow s) f) (w.close (second_of_both kind (closes flow s) f)))
    (not_true (kind && closes flow r) (second_of_both x y e))))

plain_weaker : (flow : Bool) (v s r : Text) → IsFull v → Weaker flow s r → IsPlain flow v r → IsPlain flow v s
plain_weaker flow [] s r full w h = absurd (full refl)
plain_weaker flow (b ∷ v) s r full w h = record {
  begins = begins_weaker flow b (v ++ s) (v ++ r) (weaker_append flow v s r w) h.begins;
  goes_on = goes_weaker flow false v s r w h.goes_on;
  allowed = h.allowed;
}

weaker_none : (flow : Bool) (r : Text) → closes flow r ≡ true → Weaker flow [] r
weaker_none flow r e = record { feed = λ f. absurd cc; close = λ f. e }

pub feed_more : (s after : Text) → sees 10 s ≡ true → sees 10 (s ++ after) ≡ true
feed_more [] after e = absurd cc
feed_more (b ∷ s) after e = e

weaker_more : (flow : Bool) (s after : Text) → IsFull s → Weaker flow s (s ++ after)
weaker_more flow [] after full = absurd (full refl)
weaker_more flow (b ∷ s) after full = record { feed = λ e. e; close = closes_weaker flow b s (s ++ after) (feed_more s after) }

-- ---- scalars

as_scalar : (flow : Bool) (t : Text) (x : List ℕ × Text) → closes flow x.1 ≡ true → PlainText flow t x → Reads (IsScalar flow) t x
as_scalar flow t x c h = record {
  part = x.0;
  whole = h.whole;
  holds = inr
      (refl, plain_weaker flow x.0 [] x.1 h.full (weaker_none flow x.1 c) h.is_plain);
}

-- a scalar, where what follows closes a plain one
pub scalar_closed : (flow : Bool) (t : Text) (x : List ℕ × Text) → closes flow x.1 ≡ true → ScalarText flow t x → Reads (IsScalar flow) t x
scalar_closed flow t x c (inl q) = widen (λ s k. inl k) q
scalar_closed flow t x c (inr p) = as_scalar flow t x c p

pub append_full : (s r : Text) → IsFull s → IsFull (s ++ r)
append_full [] r f = absurd (f refl)
append_full (b ∷ s) r f = λ e. cc

pub full_append : (s r : Text) → IsFull r → IsFull (s ++ r)
full_append [] r f = f
full_append (b ∷ s) r f = λ e. cc

pub full_by : (s t : Text) → t ≡ s → IsFull s → IsFull t
full_by s t e f k = f (sym e ∙ k)

quoted_full : (v s : Text) → IsQuoted v s → IsFull s
quoted_full v s (inl h) = full_by (39 ∷ (flat_map in_single v ++ 39 ∷ [])) s h.quoted (λ e. cc)
quoted_full v s (inr h) = full_by (h.first ++ h.second) s h.parts (append_full h.first h.second (full_by (34 ∷ []) h.first h.is_first (λ e. cc)))

pub scalar_full : (flow : Bool) (t : Text) (x : List ℕ × Text) → ScalarText flow t x → IsFull t
scalar_full flow t x (inl q) = full_by (q.part ++ x.1) t q.whole (append_full q.part x.1 (quoted_full x.0 q.part q.holds))
scalar_full flow t x (inr p) = full_by (x.0 ++ x.1) t p.whole (append_full x.0 x.1 p.full)

-- ---- keys

-- a key of this name with its colon, where this follows it
abbrev pub KeyOf : Bool → List ℕ → Text → Text → Type 0
KeyOf flow name after key = (value : Text) → (closes flow after ≡ true → closes flow value ≡ true) → IsKey flow name key value

plain_key_cut : (flow : Bool) (t after : Text) (x : List ℕ × Text) → closes flow after ≡ true → Cuts (IsWhite and_then Is 58) x.1 after
    → PlainText flow t x → Cuts (KeyOf flow x.0 after) t after
plain_key_cut flow t after x c w p =
    let white = w.holds.first in
    let next = white ++ 58 ∷ [] in
    let same : x.1 ≡ next ++ after = w.whole ∙ ap (λ (s : Text). s ++ after) (w.holds.parts ∙ ap (λ (s : Text). white ++ s) w.holds.is_second) in
    let P : Text → Type 0 = λ s. IsPlain flow x.0 s in
    record {
      part = x.0 ++ next;
      whole = p.whole ∙ ap (λ (s : Text). x.0 ++ s) same ∙ sym (append_assoc x.0 next after);
      holds = λ value f. plain_key white w.holds.is_first
          (plain_weaker flow x.0 next (next ++ after) p.full (weaker_more flow next after (full_append white (58 ∷ []) (λ e. cc)))
          (subst P same p.is_plain))
          refl (f c);
    }

pub key_cut : (flow : Bool) (t : Text) (x : List ℕ × Text) → sees 58 (past_white x.1) ≡ true → ScalarText flow t x
    → Cuts (KeyOf flow x.0 (drop 1 (past_white x.1))) t (drop 1 (past_white x.1))
key_cut flow t x e (inl q) = widen (λ s k value f. quoted k) (chain q (chain (white_cut x.1) (seen_byte 58 (past_white x.1) e)))
key_cut flow t x e (inr p) = plain_key_cut flow t (drop 1 (past_white x.1)) x (p.colon e) (chain (white_cut x.1) (seen_byte 58 (past_white x.1) e)) p

-- ---- what closes a plain scalar

pub gap_closes : (flow : Bool) (t : Text) → is_gap t ≡ true → closes flow t ≡ true
gap_closes flow [] e = refl
gap_closes flow (b ∷ t) e = left_true (is_gap (b ∷ t)) _ e

pub mark_seen : (c : ℕ) (t : Text) → sees c t ≡ true → is_flow_mark c ≡ true → closes true t ≡ true
mark_seen c [] e m = absurd cc
mark_seen c (b ∷ t) e m = right_true (is_gap (b ∷ t)) _ (ap is_flow_mark (eqb-true b c e) ∙ m)

abbrev Gaps : Text → Type 0
Gaps s = (IsGap and_then Many IsGapOrComment) s

gaps_begin : (s next : Text) → Gaps s → is_gap (s ++ next) ≡ true
gaps_begin s next h = ap is_gap (ap (λ (x : Text). x ++ next) h.parts ∙ append_assoc h.first h.second next)
    ∙ gap_begins h.first (h.second ++ next) h.is_first

-- where a mark of a flow collection comes next
pub mark_closes : (c : ℕ) (t : Text) → sees c (spaced t) ≡ true → is_flow_mark c ≡ true → closes true t ≡ true
mark_closes c t e m = go (space_cases t (seen_full c (spaced t) e))
  where
    go : ((t ≡ spaced t) × (is_gap t ≡ false)) ⊎ Cuts Gaps t (spaced t) → closes true t ≡ true
    go (inl h) = ap (closes true) h.0 ∙ mark_seen c (spaced t) e m
    go (inr p) = gap_closes true t (ap is_gap p.whole ∙ gaps_begin p.part (spaced t) p.holds)

mark_first : (s rest : Text) → is_gap (s ++ rest) ≡ false → closes true (s ++ rest) ≡ true → closes true s ≡ true
mark_first [] rest g e = refl
mark_first (b ∷ s) rest g e = either (is_gap (b ∷ (s ++ rest))) (is_flow_mark b) (λ f. absurd (differ f g)) (λ f. right_true (is_gap (b ∷ s)) _ f) e

-- a value with the space before it
abbrev pub Spaced : (Text → Type 0) → Text → Text → Type 0
Spaced P after v = (IsSpace and_then P) v × (closes true after ≡ true → closes true v ≡ true)

pub spaced_value : (P : Text → Type 0) (after rest : Text) → IsFull (spaced after) → Cuts P (spaced after) rest → Cuts (Spaced P after) after rest
spaced_value P after rest full n = go (space_cases after full)
  where
    go : ((after ≡ spaced after) × (is_gap after ≡ false)) ⊎ Cuts Gaps after (spaced after) → Cuts (Spaced P after) after rest
    go (inl h) = record {
      part = n.part;
      whole = h.0 ∙ n.whole;
      holds = (
        record { first = []; second = n.part; parts = refl; is_first = inl refl; is_second = n.holds },
        λ c.
            let same = h.0 ∙ n.whole in
            mark_first n.part rest (ap is_gap (sym same) ∙ h.1) (ap (closes true) (sym same) ∙ c),
      );
    }
    go (inr p) = record {
      part = p.part ++ n.part;
      whole = p.whole ∙ ap (λ (s : Text). p.part ++ s) n.whole ∙ sym (append_assoc p.part n.part rest);
      holds = (both_parts p.part n.part (inr p.holds) n.holds, λ c. gap_closes true (p.part ++ n.part) (gaps_begin p.part n.part p.holds));
    }
