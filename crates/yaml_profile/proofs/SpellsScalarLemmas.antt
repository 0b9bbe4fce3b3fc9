-- Scalars and keys that are read are such texts.
use Rattle.std.proofs.Common.{◌≡◌, ◌⊎◌, inl, inr, ℕ, zero, suc, ◌+◌, ◌*◌, Bool, true, false, ◌&&◌, ◌||◌, ◌==◌, cond, List, [], ◌∷◌, ◌++◌, length, map, take, drop, Option, Some, None, Ok, refl, sym, ap, subst, ◌∙◌, append_assoc, arith}
use Rattle.std.specs.Prelude.{IfOk, flat_map, encode_utf8}
use Rattle.std.proofs.lemmas.Bool.{eqb-true}
use Rattle.std.proofs.Math.Seq.{drop-append_seam, take-append_seam}
use Rattle.yaml_profile.specs.Text.{Text, refuse, sees, is_white, ends_line, past_white}
use Rattle.yaml_profile.specs.declared.fault.Fault.TheVariants.{Syntax}
use Rattle.yaml_profile.specs.Scalar.{single, hex, hex_value, hex_digits, short_escape, by_kind, escape, is_scalar_value, double, double_quoted, begins_plain, ends_plain, plain_len, plain_of, has_forbidden, plain, scalar, closes}
use Rattle.yaml_profile.specs.Tree.{Each}
use Rattle.yaml_profile.specs.Space.{◌and_then◌, Is}
use Rattle.yaml_profile.specs.ScalarTexts.{in_single, IsSingle, number_of, IsEscape, InDouble, none, byte, escape as escaped, IsQuoted, GoesOn, IsPlain}
use Rattle.yaml_profile.proofs.FineLemmas.{bind, choose, pick, either}
use Rattle.yaml_profile.proofs.SpellsPartLemmas.{Cuts, Reads, chain, widen, one_byte, IsFull, append_nil, mapped}

pub left_true : (x y : Bool) → x ≡ true → (x || y) ≡ true
left_true x y e = ap (λ (z : Bool). z || y) e

pub right_true : (x y : Bool) → y ≡ true → (x || y) ≡ true
right_true true y e = refl
right_true false y e = e

pub both_true : (x y : Bool) → x ≡ true → y ≡ true → (x && y) ≡ true
both_true x y e f = ap (λ (z : Bool). z && y) e ∙ f

pub left_false : (x y : Bool) → (x || y) ≡ false → x ≡ false
left_false true y e = absurd cc
left_false false y e = refl

pub differ : {x : Bool} → x ≡ true → x ≡ false → ⊥
differ e f = cc

-- ---- single-quoted

record SingleRest (found t : Text) (x : List ℕ × Text) : Type 0 where
  value : List ℕ
  same : x.0 ≡ found ++ value
  whole : t ≡ flat_map in_single value ++ 39 ∷ x.1
  one_line : Each (λ b. (b == 10) ≡ false) value

abbrev SingleHolds : List ℕ → Bool → Text → List ℕ × Text → Type 0
SingleHolds found true t x = SingleRest found (39 ∷ t) x
SingleHolds found false t x = SingleRest found t x

single_over : (found t : Text) → SingleRest found (39 ∷ t) (found, t)
single_over found t = record { value = []; same = append_nil found; whole = refl; one_line = tt }

single_more : (found : List ℕ) (b : ℕ) (front t : Text) (x : List ℕ × Text) → front ≡ in_single b → (b == 10) ≡ false
    → SingleRest (found ++ b ∷ []) t x → SingleRest found (front ++ t) x
single_more found b front t x e f h = record {
  value = b ∷ h.value;
  same = h.same ∙ append_assoc found (b ∷ []) h.value;
  whole = ap (λ (s : Text). s ++ t) e ∙ ap (λ (s : Text). in_single b ++ s) h.whole
      ∙ sym (append_assoc (in_single b) (flat_map in_single h.value) (39 ∷ x.1));
  one_line = (f, h.one_line);
}

itself : (b : ℕ) → (b == 39) ≡ false → b ∷ [] ≡ in_single b
itself b e = ap (λ (c : Bool). cond c (39 ∷ 39 ∷ []) (b ∷ [])) (sym e)

single_reads : (found : List ℕ) (closed : Bool) (t : Text) → IfOk (single found closed t) (SingleHolds found closed t)
unfolding single
single_reads found true [] = single_over found []
single_reads found true (b ∷ t) =
    choose (SingleRest found (39 ∷ b ∷ t)) (b == 39) _ _
    (λ e.
    let P : ℕ → Type 0 = λ c. IfOk (single (found ++ 39 ∷ []) false t) (SingleRest found (39 ∷ c ∷ t)) in
    subst P (sym (eqb-true b 39 e)) (mapped (SingleRest (found ++ 39 ∷ []) t) (SingleRest found (39 ∷ 39 ∷ t)) (single (found ++ 39 ∷ []) false t)
    (λ x h. single_more found 39 (39 ∷ 39 ∷ []) t x refl refl h) (single_reads (found ++ 39 ∷ []) false t)))
    (λ _. single_over found (b ∷ t))
single_reads found false [] = tt
single_reads found false (b ∷ t) =
    choose (SingleRest found (b ∷ t)) (b == 39) _ _
    (λ e. let P : ℕ → Type 0 = λ c. IfOk (single found true t) (SingleRest found (c ∷ t)) in subst P (sym (eqb-true b 39 e))
    (single_reads found true t))
    (λ e. choose (SingleRest found (b ∷ t)) (ends_line (b ∷ t)) _ _ (λ _. tt)
    (λ f. mapped (SingleRest (found ++ b ∷ []) t) (SingleRest found (b ∷ t)) (single (found ++ b ∷ []) false t)
    (λ x h. single_more found b (b ∷ []) t x (itself b e) (left_false (b == 10) _ f) h) (single_reads (found ++ b ∷ []) false t)))

as_single : (t : Text) (x : List ℕ × Text) → SingleRest [] t x → Reads IsSingle (39 ∷ t) x
as_single t x h = record {
  part = 39 ∷ (flat_map in_single h.value ++ 39 ∷ []);
  whole = ap (λ (s : Text). 39 ∷ s) (h.whole ∙ sym (append_assoc (flat_map in_single h.value) (39 ∷ []) x.1));
  holds = let P : List ℕ → Type 0 = λ v. IsSingle v (39 ∷ (flat_map in_single h.value ++ 39 ∷ [])) in
      subst P (sym h.same) (record { quoted = refl; one_line = h.one_line });
}

-- ---- double-quoted

record HexRest (n number : ℕ) (t : Text) (x : ℕ × Text) : Type 0 where
  digits : Text
  values : List ℕ
  whole : t ≡ digits ++ x.1
  count : n ≡ length digits
  of_digits : map hex_value digits ≡ map (λ v. Some v) values
  same : x.0 ≡ number_of number values
  valid : is_scalar_value x.0 ≡ true

hex_more : (n number b d : ℕ) (t : Text) (x : ℕ × Text) → hex_value b ≡ Some d → HexRest n (16 * number + d) t x → HexRest (suc n) number (b ∷ t) x
hex_more n number b d t x e h = record {
  digits = b ∷ h.digits;
  values = d ∷ h.values;
  whole = ap (λ (s : Text). b ∷ s) h.whole;
  count = let k = h.count in omega arith;
  of_digits = let some : ℕ → Option ℕ = λ v. Some v in ap (λ (o : Option ℕ). o ∷ map hex_value h.digits) e
      ∙ ap (λ (l : List (Option ℕ)). some d ∷ l) h.of_digits;
  same = h.same;
  valid = h.valid;
}

hex_reads : (whole : Text) (n number : ℕ) (t : Text) → IfOk (hex whole n number t) (HexRest n number t)
unfolding hex
hex_reads whole zero number t =
    choose (HexRest zero number t) (is_scalar_value number) _ _
    (λ e. record { digits = []; values = []; whole = refl; count = refl; of_digits = refl; same = refl; valid = e }) (λ _. tt)
hex_reads whole (suc n) number [] = tt
hex_reads whole (suc n) number (b ∷ t) = go (hex_reads whole n) (hex_value b) refl
  where
    go : ((m : ℕ) (s : Text) → IfOk (hex whole n m s) (HexRest n m s)) → (o : Option ℕ) → hex_value b ≡ o
        → IfOk (elim o [ Some d ↦ hex whole n (16 * number + d) t | None ↦ refuse Syntax whole ]) (HexRest (suc n) number (b ∷ t))
    go next (Some d) e = mapped (HexRest n (16 * number + d) t) (HexRest (suc n) number (b ∷ t)) (hex whole n (16 * number + d) t)
        (λ x h. hex_more n number b d t x e h) (next (16 * number + d) t)
    go next None e = tt

abbrev EscapeReads : ℕ → Text → ℕ × Text → Type 0
EscapeReads c t x = Cuts (λ s. IsEscape x.0 (92 ∷ s)) (c ∷ t) x.1

by_kind_reads : (whole : Text) (c : ℕ) (count short : Option ℕ) (t : Text) → hex_digits c ≡ count → short_escape c ≡ short
    → IfOk (by_kind whole count short t) (EscapeReads c t)
by_kind_reads whole c (Some n) short t e f =
    mapped (HexRest n 0 t) (EscapeReads c t) (hex whole n 0 t) (λ x h.
    let some : ℕ → Option ℕ = λ v. Some v in
    record {
      part = c ∷ h.digits;
      whole = ap (λ (s : Text). c ∷ s) h.whole;
      holds = inr (record {
        letter = c;
        digits = h.digits;
        values = h.values;
        written = refl;
        count = e
            ∙ ap some h.count;
        of_digits = h.of_digits;
        number = h.same;
        valid = h.valid;
      });
    }) (hex_reads whole n 0 t)
by_kind_reads whole c None (Some k) t e f = record {
  part = c ∷ [];
  whole = refl;
  holds = inl
      (record { letter = c; written = refl; stands_for = f });
}
by_kind_reads whole c None None t e f = tt

abbrev EscapeRest : Text → ℕ × Text → Type 0
EscapeRest t x = Cuts (λ s. IsEscape x.0 (92 ∷ s)) t x.1

escape_reads : (whole t : Text) → IfOk (escape whole t) (EscapeRest t)
unfolding escape
escape_reads whole [] = tt
escape_reads whole (c ∷ t) = by_kind_reads whole c (hex_digits c) (short_escape c) t refl refl

record DoubleRest (found t : Text) (x : List ℕ × Text) : Type 0 where
  value : List ℕ
  text : Text
  same : x.0 ≡ found ++ value
  whole : t ≡ text ++ 34 ∷ x.1
  inside : InDouble value text

double_byte : (found : List ℕ) (b : ℕ) (t : Text) (x : List ℕ × Text) → (b == 34) ≡ false → (b == 92) ≡ false → (b == 10) ≡ false
    → DoubleRest (found ++ b ∷ []) t x → DoubleRest found (b ∷ t) x
double_byte found b t x e f g h = record {
  value = b ∷ h.value;
  text = b ∷ h.text;
  same = h.same ∙ append_assoc found (b ∷ []) h.value;
  whole = ap (λ (s : Text). b ∷ s) h.whole;
  inside = byte b (ap (λ (c : Bool). c || b == 92 || b == 10) e ∙ ap (λ (c : Bool). c || b == 10) f ∙ g) h.inside;
}

double_escape : (found : List ℕ) (t : Text) (c : ℕ × Text) (x : List ℕ × Text) → EscapeRest t c → DoubleRest (found ++ encode_utf8 c.0) c.1 x
    → DoubleRest found (92 ∷ t) x
double_escape found t c x e h = record {
  value = encode_utf8 c.0 ++ h.value;
  text = (92 ∷ e.part) ++ h.text;
  same = h.same ∙ append_assoc found (encode_utf8 c.0) h.value;
  whole = ap (λ (s : Text). 92 ∷ s) (e.whole ∙ ap (λ (s : Text). e.part ++ s) h.whole ∙ sym (append_assoc e.part h.text (34 ∷ x.1)));
  inside = escaped c.0 (92 ∷ e.part) h.value h.text e.holds h.inside refl refl;
}

double_reads : (n : ℕ) (found : List ℕ) (t : Text) → IfOk (double n found t) (DoubleRest found t)
unfolding double
double_reads zero found t = tt
double_reads (suc n) found [] = tt
double_reads (suc n) found (b ∷ t) =
    choose (DoubleRest found (b ∷ t)) (b == 34) _ _
    (λ e. record { value = []; text = []; same = append_nil found; whole = ap (λ (c : ℕ). c ∷ t) (eqb-true b 34 e); inside = none })
    (λ e. choose (DoubleRest found (b ∷ t)) (b == 92) _ _
    (λ f. bind (EscapeRest t) (DoubleRest found (b ∷ t)) (escape (b ∷ t) t) (λ c. double n (found ++ encode_utf8 c.0) c.1) (escape_reads (b ∷ t) t)
    (λ c k. mapped (DoubleRest (found ++ encode_utf8 c.0) c.1) (DoubleRest found (b ∷ t)) (double n (found ++ encode_utf8 c.0) c.1)
    (λ x h. let P : ℕ → Type 0 = λ d. DoubleRest found (d ∷ t) x in subst P (sym (eqb-true b 92 f)) (double_escape found t c x k h))
    (double_reads n (found ++ encode_utf8 c.0) c.1)))
    (λ f. choose (DoubleRest found (b ∷ t)) (ends_line (b ∷ t)) _ _ (λ _. tt)
    (λ g. mapped (DoubleRest (found ++ b ∷ []) t) (DoubleRest found (b ∷ t)) (double n (found ++ b ∷ []) t)
    (λ x h. double_byte found b t x e f (left_false (b == 10) _ g) h) (double_reads n (found ++ b ∷ []) t))))

abbrev IsDouble : List ℕ → Text → Type 0
IsDouble value text = (Is 34 and_then InDouble value and_then Is 34) text

as_double : (t : Text) (x : List ℕ × Text) → DoubleRest [] t x → Reads IsDouble (34 ∷ t) x
as_double t x h =
    let inside : Cuts (InDouble x.0) t (34 ∷ x.1) = record {
      part = h.text;
      whole = h.whole;
      holds = let P : List ℕ
          → Type 0 = λ v. InDouble v h.text in subst P (sym h.same) h.inside;
    } in
    chain (one_byte 34 t) (chain inside (one_byte 34 x.1))

-- ---- plain

-- if white and a colon follow, then what closes a plain scalar follows the colon
abbrev pub Colon : Bool → Text → Type 0
Colon flow t = sees 58 (past_white t) ≡ true → closes flow (drop 1 (past_white t)) ≡ true

record PlainPart (flow white : Bool) (at : ℕ) (t : Text) (len : ℕ) : Type 0 where
  part : Text
  rest : Text
  whole : t ≡ part ++ rest
  goes_on : GoesOn flow white part rest
  count : len ≡ at + length part
  colon : Colon flow rest

abbrev PlainRest : Bool → Bool → ℕ → ℕ → Text → ℕ → Type 0
PlainRest flow white at len t n = ((n ≡ len) × Colon flow t) ⊎ PlainPart flow white at t n

colon_there : (flow white : Bool) (t : Text) → ends_plain flow white (58 ∷ t) ≡ true → closes flow t ≡ true
colon_there flow white t e =
    either (closes flow t || (flow && false)) (white && false)
    (λ f. either (closes flow t) (flow && false) (λ g. g) (λ g. absurd (no flow g)) f) (λ f. absurd (no white f)) e
  where
    no : (c : Bool) → (c && false) ≡ true → ⊥
    no true e = cc
    no false e = cc

no_white : (flow white : Bool) (b : ℕ) (t : Text) → is_white b ≡ true → ends_plain flow white (b ∷ t) ≡ true → ⊥
no_white flow white b t w e =
    either (b == 32) (b == 9) (λ f. at 32 (eqb-true b 32 f) (no flow white)) (λ f. at 9 (eqb-true b 9 f) (no flow white)) w
  where
    no : (c d : Bool) → ((c && false) || (d && false)) ≡ true → ⊥
    no true true e = cc
    no true false e = cc
    no false true e = cc
    no false false e = cc

    at : (k : ℕ) → b ≡ k → (ends_plain flow white (k ∷ t) ≡ true → ⊥) → ⊥
    at k f g = let P : ℕ → Type 0 = λ c. ends_plain flow white (c ∷ t) ≡ true in g (subst P f e)

colon_end : (flow white : Bool) (b : ℕ) (t : Text) → ends_plain flow white (b ∷ t) ≡ true → Colon flow (b ∷ t)
unfolding past_white
colon_end flow white b t e =
    let P : Text → Type 0 = λ s. sees 58 s ≡ true → closes flow (drop 1 s) ≡ true in
    pick P (is_white b) (past_white t) (b ∷ t) (λ w. absurd (no_white flow white b t w e))
    (λ _ f. let Q : ℕ → Type 0 = λ c. ends_plain flow white (c ∷ t) ≡ true in colon_there flow white t (subst Q (eqb-true b 58 f) e))

colon_white : (flow : Bool) (b : ℕ) (t : Text) → is_white b ≡ true → Colon flow t → Colon flow (b ∷ t)
unfolding past_white
colon_white flow b t w h =
    let P : Text → Type 0 = λ s. sees 58 s ≡ true → closes flow (drop 1 s) ≡ true in
    pick P (is_white b) (past_white t) (b ∷ t) (λ _. h) (λ f. absurd (differ w f))

colon_none : (flow : Bool) → Colon flow []
unfolding past_white
colon_none flow e = absurd cc

plain_more : (flow white : Bool) (at n : ℕ) (b : ℕ) (t : Text) → ends_plain flow white (b ∷ t) ≡ false → PlainPart flow (is_white b) (at + 1) t n
    → PlainPart flow white at (b ∷ t) n
plain_more flow white at n b t e h = record {
  part = b ∷ h.part;
  rest = h.rest;
  whole = ap (λ (s : Text). b ∷ s) h.whole;
  goes_on = (let P : Text → Type 0 = λ s. ends_plain flow white (b ∷ s) ≡ false in subst P h.whole e, h.goes_on);
  count = let k = h.count in omega arith;
  colon = h.colon;
}

plain_reads : (flow white : Bool) (at len : ℕ) (t : Text) → PlainRest flow white at len t (plain_len flow white at len t)
unfolding plain_len
plain_reads flow white at len [] = inl (refl, colon_none flow)
plain_reads flow white at len (b ∷ t) = go (ends_plain flow white (b ∷ t)) (is_white b) refl refl (plain_reads flow true (at + 1) len t)
    (plain_reads flow false (at + 1) (at + 1) t)
  where
    go : (c d : Bool) → ends_plain flow white (b ∷ t) ≡ c → is_white b ≡ d → PlainRest flow true (at + 1) len t (plain_len flow true (at + 1) len t)
        → PlainRest flow false (at + 1) (at + 1) t (plain_len flow false (at + 1) (at + 1) t)
        → PlainRest flow white at len (b ∷ t) (cond c len (cond d (plain_len flow true (at + 1) len t) (plain_len flow false (at + 1) (at + 1) t)))
    go true d e f p q = inl (refl, colon_end flow white b t e)
    go false true e f (inl h) q = inl (h.0, colon_white flow b t f h.1)
    go false true e f (inr h) q =
        let P : Bool → Type 0 = λ w. PlainPart flow w (at + 1) t (plain_len flow true (at + 1) len t) in inr
        (plain_more flow white at _ b t e (subst P (sym f) h))
    go false false e f p (inl h) = inr (record { part = b ∷ []; rest = t; whole = refl; goes_on = (e, f); count = let k = h.0 in omega arith; colon = h.1 })
    go false false e f p (inr h) =
        let P : Bool → Type 0 = λ w. PlainPart flow w (at + 1) t (plain_len flow false (at + 1) (at + 1) t) in inr
        (plain_more flow white at _ b t e (subst P (sym f) h))

-- a plain scalar with all that follows it
pub record PlainText (flow : Bool) (t : Text) (x : List ℕ × Text) : Type 0 where
  pub whole : t ≡ x.0 ++ x.1
  pub is_plain : IsPlain flow x.0 x.1
  pub colon : Colon flow x.1
  pub full : IsFull x.0

plain_over : (flow : Bool) (b : ℕ) (s rest : Text) (n : ℕ) → begins_plain flow (b ∷ (s ++ rest)) ≡ true → GoesOn flow false s rest → Colon flow rest
    → n ≡ suc (length s)
    → IfOk (plain_of (b ∷ (s ++ rest)) n) (PlainText flow (b ∷ (s ++ rest)))
plain_over flow b s rest n begins goes colon e =
    let P : ℕ → Type 0 = λ k. IfOk (plain_of (b ∷ (s ++ rest)) k) (PlainText flow (b ∷ (s ++ rest))) in
    let front : take (suc (length s)) (b ∷ (s ++ rest)) ≡ b ∷ s = take-append_seam (b ∷ s) rest in
    let back : drop (suc (length s)) (b ∷ (s ++ rest)) ≡ rest = drop-append_seam (b ∷ s) rest in
    let Q : Text → Text → Type 0 = λ v r. IfOk (cond (has_forbidden v) (refuse Syntax (b ∷ (s ++ rest))) (Ok (v, r)))
    (PlainText flow (b ∷ (s ++ rest))) in
    subst P (sym e) (subst (λ v. Q v (drop (suc (length s)) (b ∷ (s ++ rest)))) (sym front) (subst (λ r. Q (b ∷ s) r) (sym back)
    (choose (PlainText flow (b ∷ (s ++ rest))) (has_forbidden (b ∷ s)) _ _ (λ _. tt)
    (λ f. record { whole = refl; is_plain = record { begins = begins; goes_on = goes; allowed = f }; colon = colon; full = λ k. cc }))))

plain_text : (flow : Bool) (t : Text) → IfOk (plain flow t) (PlainText flow t)
unfolding plain
plain_text flow [] = tt
plain_text flow (b ∷ t) =
    choose (PlainText flow (b ∷ t)) (begins_plain flow (b ∷ t)) _ _
    (λ e. go e (plain_len flow false 1 1 t) (plain_reads flow false 1 1 t)) (λ _. tt)
  where
    go : begins_plain flow (b ∷ t) ≡ true → (n : ℕ) → PlainRest flow false 1 1 t n → IfOk (plain_of (b ∷ t) n) (PlainText flow (b ∷ t))
    go e n (inl h) = plain_over flow b [] t n e refl h.1 h.0
    go e n (inr h) =
        let P : Text → Type 0 = λ s. begins_plain flow (b ∷ s) ≡ true in
        let Q : Text → Type 0 = λ s. IfOk (plain_of (b ∷ s) n) (PlainText flow (b ∷ s)) in
        subst Q (sym h.whole) (plain_over flow b h.part h.rest n (subst P h.whole e) h.goes_on h.colon (let k = h.count in omega arith))

-- ---- a scalar

-- a scalar that was read, with what follows it
abbrev pub ScalarText : Bool → Text → List ℕ × Text → Type 0
ScalarText flow t x = Reads IsQuoted t x ⊎ PlainText flow t x

behind : (c : ℕ) (t : Text) → sees c t ≡ true → c ∷ drop 1 t ≡ t
behind c [] e = absurd cc
behind c (b ∷ t) e = ap (λ (d : ℕ). d ∷ t) (sym (eqb-true b c e))

pub scalar_text : (flow : Bool) (t : Text) → IfOk (scalar flow t) (ScalarText flow t)
unfolding scalar
scalar_text flow t =
    choose (ScalarText flow t) (sees 39 t) _ _
    (λ e. mapped (SingleRest [] (drop 1 t)) (ScalarText flow t) (single [] false (drop 1 t))
    (λ x h. let P : Text → Type 0 = λ s. Reads IsSingle s x in inl (widen (λ s k. inl k) (subst P (behind 39 t e) (as_single (drop 1 t) x h))))
    (single_reads [] false (drop 1 t)))
    (λ _. choose (ScalarText flow t) (sees 34 t) _ _
    (λ e. mapped (DoubleRest [] (drop 1 t)) (ScalarText flow t) (double_quoted (drop 1 t))
    (λ x h. let P : Text → Type 0 = λ s. Reads IsDouble s x in inl (widen (λ s k. inr k) (subst P (behind 34 t e) (as_double (drop 1 t) x h))))
    (double_reads (suc (length (drop 1 t))) [] (drop 1 t)))
    (λ _. mapped (PlainText flow t) (ScalarText flow t) (plain flow t) (λ x h. inr h) (plain_text flow t)))
