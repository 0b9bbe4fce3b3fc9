-- The texts of plain scalars and of keys are read as such.
use Rattle.std.proofs.Common.{◌≡◌, inl, inr, ℕ, suc, ◌+◌, Bool, true, false, not, ◌&&◌, ◌||◌, ◌==◌, cond, [], ◌∷◌, ◌++◌, length, take, drop, Some, None, Result, Ok, refl, sym, ap, subst, ◌∙◌, append_assoc, arith}
use Rattle.std.proofs.lemmas.Bool.{eqb-true}
use Rattle.std.proofs.Math.Seq.{drop-append_seam, take-append_seam}
use Rattle.yaml_profile.specs.declared.error.Feature.TheVariants.{Anchor, Alias, Tag, BlockScalar, ExplicitKey}
use Rattle.yaml_profile.specs.declared.fault.Refusal.{Refusal}
use Rattle.yaml_profile.specs.declared.fault.Fault.TheVariants.{Syntax}
use Rattle.yaml_profile.specs.Text.{Text, refuse, sees, is_white, ends_line, is_gap, is_flow_mark, past_white}
use Rattle.yaml_profile.specs.Scalar.{begins_plain, is_indicator, ends_plain, plain_len, plain_of, is_forbidden, has_forbidden, plain, scalar, closes}
use Rattle.yaml_profile.specs.Block.{begins_white, ends_node}
use Rattle.yaml_profile.specs.Space.{◌and_then◌, Many, none, more, Is, IsWhite, IsSomeWhite, IsComment, IsGap, IsGapOrComment, IsSpace}
use Rattle.yaml_profile.specs.ScalarTexts.{IsQuoted, GoesOn, IsPlain, IsScalar, IsKey, quoted, plain as plain_key}
use Rattle.yaml_profile.proofs.FineLemmas.{either, first_of_both, second_of_both}
use Rattle.yaml_profile.proofs.SpellsPartLemmas.{Cuts, IsFull}
use Rattle.yaml_profile.proofs.SpellsSpaceLemmas.{gap_begins}
use Rattle.yaml_profile.proofs.SpellsScalarLemmas.{left_true, right_true, both_true, left_false, differ}
use Rattle.yaml_profile.proofs.SpellsKeyLemmas.{refuted, not_true, true_not, gap_closes}
use Rattle.yaml_profile.proofs.SpellsBackSpaceLemmas.{when_true, when_false, false_or, right_false, white_over, IsStop, break_ends}
use Rattle.yaml_profile.proofs.SpellsBackScalarLemmas.{IsScalarBegun, ScalarBack, quoted_scalar}

-- ---- what a plain scalar begins with

other_byte : (b k : ℕ) → is_indicator k ≡ true → is_indicator b ≡ false → (b == k) ≡ false
other_byte b k i e = refuted (b == k) (is_indicator b) (λ f. ap is_indicator (eqb-true b k f) ∙ i) e

false_and : (x y : Bool) → (x ≡ true → y ≡ true → ⊥) → (x && y) ≡ false
false_and true true f = absurd (f refl refl)
false_and true false f = refl
false_and false y f = refl

pub plain_begun : (flow : Bool) (t : Text) → begins_plain flow t ≡ true → IsScalarBegun t
plain_begun flow [] e = absurd cc
plain_begun flow (b ∷ t) e =
    let kind = b == 45 || b == 63 || b == 58 in
    let black : (is_gap (b ∷ t) || is_indicator b) ≡ false = not_true (is_gap (b ∷ t) || is_indicator b)
    (first_of_both (not (is_gap (b ∷ t) || is_indicator b)) (not (kind && closes flow t)) e) in
    let unclosed : (kind && closes flow t) ≡ false = not_true (kind && closes flow t)
    (second_of_both (not (is_gap (b ∷ t) || is_indicator b)) (not (kind && closes flow t)) e) in
    let i = right_false (is_gap (b ∷ t)) (is_indicator b) black in
    let dash : (b == 45 && is_gap t) ≡ false = false_and (b == 45) (is_gap t)
    (λ f g. differ (both_true kind (closes flow t) (left_true (b == 45 || b == 63) _ (left_true (b == 45) _ f)) (gap_closes flow t g)) unclosed) in
    let mark : (b == 63 && is_gap t) ≡ false = false_and (b == 63) (is_gap t)
    (λ f g. differ (both_true kind (closes flow t) (left_true (b == 45 || b == 63) _ (right_true (b == 45) _ f)) (gap_closes flow t g)) unclosed) in
    record {
      begun = record {
        stop = record { no_gap = left_false (is_gap (b ∷ t)) _ black; no_hash = other_byte b 35 refl i };
        out = when_false (b == 38) (Some Anchor) _ (other_byte b 38 refl i) ∙ when_false (b == 42) (Some Alias) _ (other_byte b 42 refl i)
            ∙ when_false (b == 33) (Some Tag) _ (other_byte b 33 refl i)
            ∙ when_false (b == 124 || b == 62) (Some BlockScalar) _ (false_or (b == 124) (b == 62) (other_byte b 124 refl i) (other_byte b 62 refl i))
            ∙ when_false (b == 63 && is_gap t) (Some ExplicitKey) None mark;
        dash = dash;
        percent = other_byte b 37 refl i;
        comma = other_byte b 44 refl i;
        bracket = other_byte b 93 refl i;
        brace = other_byte b 125 refl i;
      };
      no_sequence = other_byte b 91 refl i;
      no_mapping = other_byte b 123 refl i;
    }

no_quotes : (flow : Bool) (t : Text) → begins_plain flow t ≡ true → (sees 39 t ≡ false) × (sees 34 t ≡ false)
no_quotes flow [] e = absurd cc
no_quotes flow (b ∷ t) e =
    let i = right_false (is_gap (b ∷ t)) (is_indicator b)
    (not_true (is_gap (b ∷ t) || is_indicator b) (first_of_both (not (is_gap (b ∷ t) || is_indicator b)) _ e)) in
    (other_byte b 39 refl i, other_byte b 34 refl i)

-- ---- what follows does not matter

no_return : (b : ℕ) → is_forbidden b ≡ false → (b == 13) ≡ false
no_return b e = refuted (b == 13) (is_forbidden b) (λ f. ap is_forbidden (eqb-true b 13 f)) e

line_keep : (b : ℕ) (r s : Text) → (b == 13) ≡ false → ends_line (b ∷ r) ≡ true → ends_line (b ∷ s) ≡ true
line_keep b r s n e = either (b == 10) (b == 13 && sees 10 r) (λ f. left_true (b == 10) _ f) (λ f. absurd (differ (first_of_both (b == 13) _ f) n)) e

gap_keep : (b : ℕ) (r s : Text) → (b == 13) ≡ false → is_gap (b ∷ r) ≡ true → is_gap (b ∷ s) ≡ true
gap_keep b r s n e = either (is_white b) (ends_line (b ∷ r)) (λ f. left_true (is_white b) _ f)
    (λ f. right_true (is_white b) _ (line_keep b r s n f)) e

closes_keep : (flow : Bool) (b : ℕ) (r s : Text) → (b == 13) ≡ false → closes flow (b ∷ r) ≡ true → closes flow (b ∷ s) ≡ true
closes_keep flow b r s n e = either (is_gap (b ∷ r)) (flow && is_flow_mark b) (λ f. left_true (is_gap (b ∷ s)) _ (gap_keep b r s n f))
    (λ f. right_true (is_gap (b ∷ s)) _ f) e

ends_keep : (flow white : Bool) (b : ℕ) (r s : Text) → (b == 13) ≡ false → (closes flow r ≡ true → closes flow s ≡ true)
    → ends_plain flow white (b ∷ r) ≡ true → ends_plain flow white (b ∷ s) ≡ true
ends_keep flow white b r s n c e =
    let mark = flow && is_flow_mark b in
    let hash = white && b == 35 in
    either (ends_line (b ∷ r) || (b == 58 && closes flow r) || mark) hash
    (λ f. left_true (ends_line (b ∷ s) || (b == 58 && closes flow s) || mark) hash (either (ends_line (b ∷ r) || (b == 58 && closes flow r)) mark
    (λ g. left_true (ends_line (b ∷ s) || (b == 58 && closes flow s)) mark (either (ends_line (b ∷ r)) (b == 58 && closes flow r)
    (λ h. left_true (ends_line (b ∷ s)) _ (line_keep b r s n h))
    (λ h. right_true (ends_line (b ∷ s)) _ (both_true (b == 58) _ (first_of_both (b == 58) (closes flow r) h)
    (c (second_of_both (b == 58) (closes flow r) h)))) g))
    (λ g. right_true (ends_line (b ∷ s) || (b == 58 && closes flow s)) mark g) f))
    (λ f. right_true (ends_line (b ∷ s) || (b == 58 && closes flow s) || mark) hash f) e

closes_kept : (flow : Bool) (v r s : Text) → has_forbidden v ≡ false → (closes flow r ≡ true → closes flow s ≡ true) → closes flow (v ++ r) ≡ true
    → closes flow (v ++ s) ≡ true
unfolding has_forbidden
closes_kept flow [] r s n c e = c e
closes_kept flow (b ∷ v) r s n c e = closes_keep flow b (v ++ r) (v ++ s) (no_return b (left_false (is_forbidden b) _ n)) e

goes_back : (flow white : Bool) (v r s : Text) → has_forbidden v ≡ false → (closes flow r ≡ true → closes flow s ≡ true) → GoesOn flow white v s
    → GoesOn flow white v r
unfolding has_forbidden
goes_back flow white [] r s n c h = h
goes_back flow white (b ∷ v) r s n c h =
    let rest = right_false (is_forbidden b) (has_forbidden v) n in (
      refuted (ends_plain flow white (b ∷ (v ++ r))) (ends_plain flow white (b ∷ (v ++ s)))
          (ends_keep flow white b (v ++ r) (v ++ s) (no_return b (left_false (is_forbidden b) _ n)) (closes_kept flow v r s rest c)) h.0,
      goes_back flow (is_white b) v r s rest c h.1,
    )

begins_back : (flow : Bool) (b : ℕ) (r s : Text) → (b == 13) ≡ false → (closes flow r ≡ true → closes flow s ≡ true)
    → begins_plain flow (b ∷ s) ≡ true → begins_plain flow (b ∷ r) ≡ true
begins_back flow b r s n c e =
    let kind = b == 45 || b == 63 || b == 58 in
    let x = not (is_gap (b ∷ s) || is_indicator b) in
    let y = not (kind && closes flow s) in
    both_true (not (is_gap (b ∷ r) || is_indicator b)) (not (kind && closes flow r))
    (true_not (is_gap (b ∷ r) || is_indicator b) (refuted (is_gap (b ∷ r) || is_indicator b) (is_gap (b ∷ s) || is_indicator b)
    (λ f. either (is_gap (b ∷ r)) (is_indicator b) (λ g. left_true (is_gap (b ∷ s)) _ (gap_keep b r s n g)) (λ g. right_true (is_gap (b ∷ s)) _ g) f)
    (not_true (is_gap (b ∷ s) || is_indicator b) (first_of_both x y e))))
    (true_not (kind && closes flow r) (refuted (kind && closes flow r) (kind && closes flow s)
    (λ f. both_true kind (closes flow s) (first_of_both kind (closes flow r) f) (c (second_of_both kind (closes flow r) f)))
    (not_true (kind && closes flow s) (second_of_both x y e))))

-- ---- where a plain scalar ends

-- a plain scalar that has come here goes no further
abbrev pub Ended : Bool → Text → Type 0
Ended flow t = (at len : ℕ) → plain_len flow false at len t ≡ len

len_over : (flow white : Bool) (at len : ℕ) (s t : Text) → GoesOn flow white s t → (white ≡ false → len ≡ at) → Ended flow t
    → plain_len flow white at len (s ++ t) ≡ at + length s
unfolding plain_len
len_over flow white at len [] t goes same ended =
    let P : Bool → Type 0 = λ w. plain_len flow w at len t ≡ len in subst P (sym goes) (ended at len) ∙ same goes ∙ omega arith
len_over flow white at len (b ∷ s) t goes same ended =
    when_false (ends_plain flow white (b ∷ (s ++ t))) len _ goes.0
    ∙ go (is_white b) refl (λ g. len_over flow true (at + 1) len s t g (λ e. absurd cc) ended)
    (λ g. len_over flow false (at + 1) (at + 1) s t g (λ _. refl) ended)
  where
    go : (c : Bool) → is_white b ≡ c → (GoesOn flow true s t → plain_len flow true (at + 1) len (s ++ t) ≡ at + 1 + length s)
        → (GoesOn flow false s t → plain_len flow false (at + 1) (at + 1) (s ++ t) ≡ at + 1 + length s)
        → cond c (plain_len flow true (at + 1) len (s ++ t)) (plain_len flow false (at + 1) (at + 1) (s ++ t)) ≡ at + suc (length s)
    go true e p q = let P : Bool → Type 0 = λ w. GoesOn flow w s t in p (subst P e goes.1) ∙ omega arith
    go false e p q = let P : Bool → Type 0 = λ w. GoesOn flow w s t in q (subst P e goes.1) ∙ omega arith

plain_reads : (flow : Bool) (b : ℕ) (v t : Text) → begins_plain flow (b ∷ (v ++ t)) ≡ true → GoesOn flow false v t → has_forbidden (b ∷ v) ≡ false
    → Ended flow t
    → plain flow (b ∷ (v ++ t)) ≡ Ok (b ∷ v, t)
unfolding plain
plain_reads flow b v t begins goes allowed ended =
    let whole = b ∷ (v ++ t) in
    let len : plain_len flow false 1 1 (v ++ t) ≡ suc (length v) = len_over flow false 1 1 v t goes (λ _. refl) ended ∙ omega arith in
    let front : take (suc (length v)) whole ≡ b ∷ v = take-append_seam (b ∷ v) t in
    let back : drop (suc (length v)) whole ≡ t = drop-append_seam (b ∷ v) t in
    let pick : Text → Text → Result (Text × Text) Refusal = λ x y. cond (has_forbidden x) (refuse Syntax whole) (Ok (x, y)) in
    when_true (begins_plain flow whole) (plain_of whole (plain_len flow false 1 1 (v ++ t))) _ begins ∙ ap (plain_of whole) len
    ∙ ap (λ (x : Text). pick x (drop (suc (length v)) whole)) front ∙ ap (λ (y : Text). pick (b ∷ v) y) back
    ∙ when_false (has_forbidden (b ∷ v)) (refuse Syntax whole) (Ok (b ∷ v, t)) allowed

pub plain_back : (flow : Bool) (v next t : Text) → IsPlain flow v next → IsFull v → (closes flow t ≡ true → closes flow next ≡ true) → Ended flow t
    → ScalarBack flow v (v ++ t) t
unfolding scalar has_forbidden
plain_back flow [] next t h full c ended = absurd (full refl)
plain_back flow (b ∷ v) next t h full c ended =
    let n = right_false (is_forbidden b) (has_forbidden v) h.allowed in
    let begins = begins_back flow b (v ++ t) (v ++ next) (no_return b (left_false (is_forbidden b) _ h.allowed))
    (closes_kept flow v t next n c) h.begins in
    let quotes = no_quotes flow (b ∷ (v ++ t)) begins in
    record {
      reads = when_false (b == 39) _ _ quotes.0 ∙ when_false (b == 34) _ _ quotes.1
          ∙ plain_reads flow b v t begins (goes_back flow false v t next n c h.goes_on) h.allowed ended;
      begins = plain_begun flow (b ∷ (v ++ t)) begins;
    }

-- no plain scalar is empty
plain_full : (flow : Bool) (v next : Text) → IsPlain flow v next → begins_plain flow next ≡ false → IsFull v
plain_full flow v next h closed empty = let P : Text → Type 0 = λ x. begins_plain flow (x ++ next) ≡ true in differ (subst P empty h.begins) closed

-- ---- scalars

pub scalar_back : (flow : Bool) (v t rest : Text) → Cuts (IsScalar flow v) t rest → sees 39 rest ≡ false → Ended flow rest → ScalarBack flow v t rest
scalar_back flow v t rest c quote ended = let P : Text → Type 0 = λ x. ScalarBack flow v x rest in subst P (sym c.whole) (go c.part c.holds)
  where
    go : (s : Text) → IsScalar flow v s → ScalarBack flow v (s ++ rest) rest
    go s (inl h) = quoted_scalar flow v s rest h quote
    go s (inr h) =
        let P : Text → Type 0 = λ x. ScalarBack flow v (x ++ rest) rest in subst P (sym h.0)
        (plain_back flow v [] rest h.1 (plain_full flow v [] h.1 refl) (λ _. refl) ended)

-- ---- keys

-- a key is read, and white and its colon follow
pub record KeyBack (flow : Bool) (name t after : Text) : Type 0 where
  pub rest : Text
  pub back : ScalarBack flow name t rest
  pub colon : past_white rest ≡ 58 ∷ after

colon_white : (w t : Text) → IsWhite w → past_white (w ++ 58 ∷ t) ≡ 58 ∷ t
unfolding past_white
colon_white w t h = white_over w (58 ∷ t) h

white_quote : (w t : Text) → IsWhite w → sees 39 (w ++ 58 ∷ t) ≡ false
white_quote [] t h = refl
white_quote (b ∷ w) t h = refuted (b == 39) (not (is_white b)) (λ e. ap (λ (c : ℕ). not (is_white c)) (eqb-true b 39 e)) (ap not h.0)

colon_ends : (flow white : Bool) (t : Text) → closes flow t ≡ true → ends_plain flow white (58 ∷ t) ≡ true
colon_ends flow white t e = left_true (closes flow t || (flow && false)) _ (left_true (closes flow t) _ e)

black : (b : ℕ) (flow white : Bool) (t : Text) → is_white b ≡ true → ends_plain flow white (b ∷ t) ≡ true → ⊥
black b flow white t w e =
    either (b == 32) (b == 9) (λ f. at 32 (eqb-true b 32 f) (no flow white)) (λ f. at 9 (eqb-true b 9 f) (no flow white)) w
  where
    no : (c d : Bool) → ((c && false) || (d && false)) ≡ true → ⊥
    no true true k = cc
    no true false k = cc
    no false true k = cc
    no false false k = cc

    at : (k : ℕ) → b ≡ k → (ends_plain flow white (k ∷ t) ≡ true → ⊥) → ⊥
    at k f g = let P : ℕ → Type 0 = λ c. ends_plain flow white (c ∷ t) ≡ true in g (subst P f e)

white_no_end : (b : ℕ) (flow white : Bool) (t : Text) → is_white b ≡ true → ends_plain flow white (b ∷ t) ≡ false
white_no_end b flow white t w = go (ends_plain flow white (b ∷ t)) refl
  where
    go : (c : Bool) → ends_plain flow white (b ∷ t) ≡ c → ends_plain flow white (b ∷ t) ≡ false
    go true e = absurd (black b flow white t w e)
    go false e = e

-- one white byte further
len_white : (flow white : Bool) (at len b : ℕ) (t : Text) → is_white b ≡ true
    → plain_len flow white at len (b ∷ t) ≡ plain_len flow true (at + 1) len t
unfolding plain_len
len_white flow white at len b t w =
    when_false (ends_plain flow white (b ∷ t)) len _ (white_no_end b flow white t w) ∙ when_true (is_white b) (plain_len flow true (at + 1) len t) _ w

len_end : (flow white : Bool) (at len : ℕ) (t : Text) → ends_plain flow white t ≡ true → plain_len flow white at len t ≡ len
unfolding plain_len
len_end flow white at len [] e = refl
len_end flow white at len (b ∷ t) e = when_true (ends_plain flow white (b ∷ t)) len _ e

white_ended : (flow white : Bool) (at len : ℕ) (w t : Text) → IsWhite w → ((c : Bool) → ends_plain flow c t ≡ true)
    → plain_len flow white at len (w ++ t) ≡ len
white_ended flow white at len [] t h e = len_end flow white at len t (e white)
white_ended flow white at len (b ∷ w) t h e = len_white flow white at len b (w ++ t) h.0 ∙ white_ended flow true (at + 1) len w t h.1 e

colon_open : (flow : Bool) (t : Text) → closes flow (58 ∷ t) ≡ true → ⊥
colon_open true t e = cc
colon_open false t e = cc

colon_closes : (flow : Bool) (w t : Text) → IsWhite w → closes flow (w ++ 58 ∷ t) ≡ true → closes flow (w ++ 58 ∷ []) ≡ true
colon_closes flow [] t h e = absurd (colon_open flow t e)
colon_closes flow (b ∷ w) t h e = left_true (is_gap (b ∷ (w ++ 58 ∷ []))) _ (left_true (is_white b) _ h.0)

no_colon_begins : (flow : Bool) (w : Text) → IsWhite w → begins_plain flow (w ++ 58 ∷ []) ≡ false
no_colon_begins flow [] h = refl
no_colon_begins flow (b ∷ w) h =
    ap (λ (c : Bool). not c && not ((b == 45 || b == 63 || b == 58) && closes flow (w ++ 58 ∷ [])))
    (left_true (is_gap (b ∷ (w ++ 58 ∷ []))) _ (left_true (is_white b) _ h.0))

plain_key_back : (flow : Bool) (name white after : Text) → IsWhite white → IsPlain flow name (white ++ 58 ∷ []) → closes flow after ≡ true
    → KeyBack flow name ((name ++ (white ++ 58 ∷ [])) ++ after) after
plain_key_back flow name white after w h c =
    let rest = white ++ 58 ∷ after in
    let same : name ++ rest ≡ (name ++ (white ++ 58 ∷ [])) ++ after = ap (λ (x : Text). name ++ x) (sym (append_assoc white (58 ∷ []) after))
    ∙ sym (append_assoc name (white ++ 58 ∷ []) after) in
    let P : Text → Type 0 = λ x. ScalarBack flow name x rest in
    record {
      rest = rest;
      back = subst P same (plain_back flow name (white ++ 58 ∷ []) rest h (plain_full flow name (white ++ 58 ∷ []) h (no_colon_begins flow white w))
          (colon_closes flow white after w)
          (λ at len. white_ended flow false at len white (58 ∷ after) w (λ d. colon_ends flow d after c)));
      colon = colon_white white after w;
    }

quoted_key_back : (flow : Bool) (name key after : Text) → (IsQuoted name and_then IsWhite and_then Is 58) key → KeyBack flow name (key ++ after) after
quoted_key_back flow name key after h =
    let k = h.is_second in
    let rest = k.first ++ 58 ∷ after in
    let same : h.first ++ rest ≡ key ++ after = ap (λ (x : Text). h.first ++ x) (sym (append_assoc k.first (58 ∷ []) after))
    ∙ sym (append_assoc h.first (k.first ++ 58 ∷ []) after)
    ∙ ap (λ (x : Text). x ++ after) (ap (λ (x : Text). h.first ++ x) (ap (λ (x : Text). k.first ++ x) (sym k.is_second) ∙ sym k.parts)
    ∙ sym h.parts) in
    let P : Text → Type 0 = λ x. ScalarBack flow name x rest in
    record {
      rest = rest;
      back = subst P same (quoted_scalar flow name h.first rest h.is_first (white_quote k.first after k.is_first));
      colon = colon_white k.first after k.is_first;
    }

pub key_back : (flow : Bool) (name key value after : Text) → IsKey flow name key value → (closes flow value ≡ true → closes flow after ≡ true)
    → KeyBack flow name (key ++ after) after
key_back flow name key value after (quoted h) c = quoted_key_back flow name key after h
key_back flow name key value after (plain_key white w h e f) c =
    let P : Text → Type 0 = λ x. KeyBack flow name (x ++ after) after in subst P (sym e) (plain_key_back flow name white after w h (c f))

-- ---- what ends a plain scalar

node_len : (flow white : Bool) (at len : ℕ) (t : Text) → (ends_line (past_white t) || ((white || begins_white t) && sees 35 (past_white t))) ≡ true
    → plain_len flow white at len t ≡ len
unfolding past_white plain_len
node_len flow white at len [] e = refl
node_len flow white at len (b ∷ t) e = go (is_white b) refl e (node_len flow true (at + 1) len t)
  where
    go : (c : Bool) → is_white b ≡ c → (ends_line (cond c (past_white t) (b ∷ t)) || ((white || c) && sees 35 (cond c (past_white t) (b ∷ t)))) ≡ true
        → ((ends_line (past_white t) || sees 35 (past_white t)) ≡ true → plain_len flow true (at + 1) len t ≡ len)
        → plain_len flow white at len (b ∷ t) ≡ len
    go true w k next = len_white flow white at len b t w
        ∙ next (either (ends_line (past_white t)) ((white || true) && sees 35 (past_white t)) (λ f. left_true (ends_line (past_white t)) _ f)
        (λ f. right_true (ends_line (past_white t)) _ (second_of_both (white || true) _ f)) k)
    go false w k next = len_end flow white at len (b ∷ t) (either (ends_line (b ∷ t)) ((white || false) && b == 35)
        (λ f. left_true (ends_line (b ∷ t) || (b == 58 && closes flow t) || (flow && is_flow_mark b)) _
        (left_true (ends_line (b ∷ t) || (b == 58 && closes flow t)) _ (left_true (ends_line (b ∷ t)) _ f)))
        (λ f. right_true (ends_line (b ∷ t) || (b == 58 && closes flow t) || (flow && is_flow_mark b)) _
        (both_true white _ (or_false white (first_of_both (white || false) _ f)) (second_of_both (white || false) _ f))) k)
      where
        or_false : (c : Bool) → (c || false) ≡ true → c ≡ true
        or_false true g = refl
        or_false false g = g

pub node_ended : (flow : Bool) (t : Text) → ends_node t ≡ true → Ended flow t
node_ended flow t e at len = node_len flow false at len t e

pub node_quote : (t : Text) → is_gap t ≡ true → sees 39 t ≡ false
node_quote [] e = refl
node_quote (b ∷ t) e = refuted (b == 39) (not (is_gap (b ∷ t))) (λ f. ap (λ (c : ℕ). not (is_gap (c ∷ t))) (eqb-true b 39 f)) (ap not e)

-- ---- in a flow collection

-- a mark of a flow collection stands here
pub record IsMark (t : Text) : Type 0 where
  pub byte : ℕ
  pub rest : Text
  pub parts : t ≡ byte ∷ rest
  pub is_mark : is_flow_mark byte ≡ true

mark_ends : (white : Bool) (t : Text) → IsMark t → ends_plain true white t ≡ true
mark_ends white t m =
    let b = m.byte in
    ap (ends_plain true white) m.parts
    ∙ left_true (ends_line (b ∷ m.rest) || (b == 58 && closes true m.rest) || is_flow_mark b) _
    (right_true (ends_line (b ∷ m.rest) || (b == 58 && closes true m.rest)) _ m.is_mark)

line_ends : (flow white : Bool) (t : Text) → ends_line t ≡ true → ends_plain flow white t ≡ true
line_ends flow white [] e = refl
line_ends flow white (b ∷ t) e =
    left_true (ends_line (b ∷ t) || (b == 58 && closes flow t) || (flow && is_flow_mark b)) _
    (left_true (ends_line (b ∷ t) || (b == 58 && closes flow t)) _ (left_true (ends_line (b ∷ t)) _ e))

-- a plain scalar that has come here after white goes no further
abbrev WhiteEnded : ℕ → Text → Type 0
WhiteEnded len t = (at : ℕ) → plain_len true true at len t ≡ len

white_run : (len : ℕ) (w t : Text) → IsWhite w → WhiteEnded len t → WhiteEnded len (w ++ t)
white_run len [] t h e at = e at
white_run len (b ∷ w) t h e at = len_white true true at len b (w ++ t) h.0 ∙ white_run len w t h.1 e (at + 1)

some_run : (white : Bool) (at len : ℕ) (w t : Text) → IsSomeWhite w → WhiteEnded len t → plain_len true white at len (w ++ t) ≡ len
some_run white at len [] t h e = absurd h
some_run white at len (b ∷ w) t h e = len_white true white at len b (w ++ t) h.0 ∙ white_run len w t h.1 e (at + 1)

gap_run : (white : Bool) (at len : ℕ) (s t : Text) → IsGap s → WhiteEnded len t → plain_len true white at len (s ++ t) ≡ len
gap_run white at len s t (inl h) e = some_run white at len s t h e
gap_run white at len s t (inr h) e = len_end true white at len (s ++ t) (line_ends true white (s ++ t) (break_ends s t h))

hash_ends : (s t : Text) → IsComment s → ends_plain true true (s ++ t) ≡ true
hash_ends [] t h = absurd h
hash_ends (b ∷ s) t h =
    let u = s ++ t in right_true (ends_line (b ∷ u) || (b == 58 && closes true u) || is_flow_mark b) (b == 35) (ap (λ (c : ℕ). c == 35) h.0)

piece_run : (len : ℕ) (s t : Text) → IsGapOrComment s → WhiteEnded len t → WhiteEnded len (s ++ t)
piece_run len s t (inl h) e at = gap_run true at len s t h e
piece_run len s t (inr h) e at =
    ap (plain_len true true at len) (ap (λ (x : Text). x ++ t) h.parts ∙ append_assoc h.first h.second t)
    ∙ len_end true true at len (h.first ++ (h.second ++ t)) (hash_ends h.first (h.second ++ t) h.is_first)

many_run : (len : ℕ) (s t : Text) → Many IsGapOrComment s → WhiteEnded len t → WhiteEnded len (s ++ t)
many_run len s t none e = e
many_run len s t (more first rest p h f) e =
    let P : Text → Type 0 = λ x. WhiteEnded len x in
    subst P (sym (ap (λ (x : Text). x ++ t) f ∙ append_assoc first rest t)) (piece_run len first (rest ++ t) p (many_run len rest t h e))

space_run : (at len : ℕ) (s t : Text) → IsSpace s → IsMark t → plain_len true false at len (s ++ t) ≡ len
space_run at len s t (inl e) m = ap (λ (x : Text). plain_len true false at len (x ++ t)) e ∙ len_end true false at len t (mark_ends false t m)
space_run at len s t (inr h) m =
    ap (plain_len true false at len) (ap (λ (x : Text). x ++ t) h.parts ∙ append_assoc h.first h.second t)
    ∙ gap_run false at len h.first (h.second ++ t) h.is_first
    (many_run len h.second t h.is_second (λ n. len_end true true n len t (mark_ends true t m)))

-- space and a mark follow
pub record IsClosed (t : Text) : Type 0 where
  pub mark : Text
  pub space : Cuts IsSpace t mark
  pub is_mark : IsMark mark

pub closed_ended : (t : Text) → IsClosed t → Ended true t
closed_ended t c at len = ap (plain_len true false at len) c.space.whole ∙ space_run at len c.space.part c.mark c.space.holds c.is_mark

mark_quote : (t : Text) → IsMark t → sees 39 t ≡ false
mark_quote t m = ap (sees 39) m.parts ∙ refuted (m.byte == 39) (not (is_flow_mark m.byte))
    (λ e. ap (λ (c : ℕ). not (is_flow_mark c)) (eqb-true m.byte 39 e)) (ap not m.is_mark)

space_quote : (s t : Text) → IsSpace s → IsMark t → sees 39 (s ++ t) ≡ false
space_quote s t (inl e) m = ap (λ (x : Text). sees 39 (x ++ t)) e ∙ mark_quote t m
space_quote s t (inr h) m =
    let same = ap (λ (x : Text). x ++ t) h.parts ∙ append_assoc h.first h.second t in
    node_quote (s ++ t) (ap is_gap same ∙ gap_begins h.first (h.second ++ t) h.is_first)

pub closed_quote : (t : Text) → IsClosed t → sees 39 t ≡ false
closed_quote t c = ap (sees 39) c.space.whole ∙ space_quote c.space.part c.mark c.space.holds c.is_mark

mark_stop : (t : Text) → IsMark t → IsStop t
mark_stop t m = record {
  no_gap = ap is_gap m.parts ∙ black_mark m.byte m.rest m.is_mark;
  no_hash = ap (sees 35) m.parts
      ∙ refuted (m.byte == 35) (not (is_flow_mark m.byte)) (λ e. ap (λ (c : ℕ). not (is_flow_mark c)) (eqb-true m.byte 35 e)) (ap not m.is_mark);
}
  where
    not_byte : (b k : ℕ) → is_flow_mark k ≡ false → is_flow_mark b ≡ true → (b == k) ≡ false
    not_byte b k n e = refuted (b == k) (not (is_flow_mark b)) (λ f. ap not (ap is_flow_mark (eqb-true b k f) ∙ n)) (ap not e)

    black_mark : (b : ℕ) (rest : Text) → is_flow_mark b ≡ true → is_gap (b ∷ rest) ≡ false
    black_mark b rest e =
        false_or (is_white b) (ends_line (b ∷ rest)) (false_or (b == 32) (b == 9) (not_byte b 32 refl e) (not_byte b 9 refl e))
        (false_or (b == 10) _ (not_byte b 10 refl e) (ap (λ (c : Bool). c && sees 10 rest) (not_byte b 13 refl e)))

pub mark_at : (b : ℕ) (t : Text) → is_flow_mark b ≡ true → IsMark (b ∷ t)
mark_at b t e = record { byte = b; rest = t; parts = refl; is_mark = e }

pub mark_stops : (b : ℕ) (t : Text) → is_flow_mark b ≡ true → IsStop (b ∷ t)
mark_stops b t e = mark_stop (b ∷ t) (mark_at b t e)
