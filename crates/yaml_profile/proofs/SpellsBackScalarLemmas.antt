-- The texts of scalars and keys are read as such.
use Rattle.std.proofs.Common.{◌≡◌, ◌⊎◌, inl, inr, ℕ, zero, suc, ◌+◌, ◌*◌, ◌<◌, Bool, true, false, ◌&&◌, ◌||◌, ◌==◌, cond, List, [], ◌∷◌, ◌++◌, length, map, drop, Option, Some, None, Result, Ok, refl, sym, ap, subst, ◌∙◌, append_assoc, arith}
use Rattle.std.specs.Prelude.{flat_map, encode_utf8}
use Rattle.std.proofs.lemmas.Bool.{eqb-true}
use Rattle.std.proofs.lemmas.List.{length-append}
use Rattle.yaml_profile.specs.declared.fault.Refusal.{Refusal}
use Rattle.yaml_profile.specs.declared.fault.Fault.TheVariants.{Syntax}
use Rattle.yaml_profile.specs.Text.{Text, refuse, sees, ends_line}
use Rattle.yaml_profile.specs.Scalar.{single, hex, hex_value, hex_digits, short_escape, by_kind, escape, is_scalar_value, double, scalar}
use Rattle.yaml_profile.specs.Flow.{left_out}
use Rattle.yaml_profile.specs.Block.{is_dash}
use Rattle.yaml_profile.specs.Tree.{Each}
use Rattle.yaml_profile.specs.Space.{◌and_then◌, Is}
use Rattle.yaml_profile.specs.ScalarTexts.{in_single, IsSingle, number_of, IsNumbered, IsEscape, InDouble, none as empty, byte, escape as escaped, IsQuoted}
use Rattle.yaml_profile.proofs.SpellsPartLemmas.{append_nil}
use Rattle.yaml_profile.proofs.SpellsScalarLemmas.{left_false}
use Rattle.yaml_profile.proofs.SpellsBackSpaceLemmas.{when_true, when_false, when_ok, false_or, right_false, IsStop}

abbrev Found : Type 0
Found = Result (List ℕ × Text) Refusal

abbrev found : List ℕ → Text → Found
found v rest = Ok (v, rest)

-- ---- single-quoted

abbrev OneLine : List ℕ → Type 0
OneLine v = Each (λ b. (b == 10) ≡ false) v

single_head : (v : List ℕ) (t : Text) → OneLine v → sees 10 (flat_map in_single v ++ 39 ∷ t) ≡ false
single_head [] t h = refl
single_head (b ∷ v) t h = go (b == 39) refl
  where
    go : (c : Bool) → (b == 39) ≡ c → sees 10 ((cond c (39 ∷ 39 ∷ []) (b ∷ []) ++ flat_map in_single v) ++ 39 ∷ t) ≡ false
    go true e = refl
    go false e = h.0

single_end : (v : List ℕ) (t : Text) → sees 39 t ≡ false → single v true t ≡ found v t
unfolding single
single_end v [] e = refl
single_end v (b ∷ t) e = when_false (b == 39) (single (v ++ 39 ∷ []) false t) (Ok (v, b ∷ t)) e

single_back : (v w : List ℕ) (t : Text) → OneLine w → sees 39 t ≡ false → single v false (flat_map in_single w ++ 39 ∷ t) ≡ found (v ++ w) t
unfolding single
single_back v [] t h e = single_end v t e ∙ ap (λ (x : List ℕ). found x t) (append_nil v)
single_back v (b ∷ w) t h e = go (b == 39) refl (single_back (v ++ 39 ∷ []) w t h.1 e) (single_back (v ++ b ∷ []) w t h.1 e)
  where
    tail : Text
    tail = flat_map in_single w ++ 39 ∷ t

    go : (c : Bool) → (b == 39) ≡ c → single (v ++ 39 ∷ []) false tail ≡ found ((v ++ 39 ∷ []) ++ w) t
        → single (v ++ b ∷ []) false tail ≡ found ((v ++ b ∷ []) ++ w) t
        → single v false ((cond c (39 ∷ 39 ∷ []) (b ∷ []) ++ flat_map in_single w) ++ 39 ∷ t) ≡ found (v ++ b ∷ w) t
    go true f p q = p ∙ ap (λ (x : List ℕ). found x t) (append_assoc v (39 ∷ []) w ∙ ap (λ (c : ℕ). v ++ c ∷ w) (sym (eqb-true b 39 f)))
    go false f p q =
        let rest = flat_map in_single w ++ 39 ∷ t in
        let line : ends_line (b ∷ rest) ≡ false = false_or (b == 10) _ h.0 (ap (λ (c : Bool). b == 13 && c) (single_head w t h.1) ∙ no (b == 13)) in
        when_false (b == 39) (single v true rest) _ f ∙ when_false (ends_line (b ∷ rest)) _ (single (v ++ b ∷ []) false rest) line ∙ q
        ∙ ap (λ (x : List ℕ). found x t) (append_assoc v (b ∷ []) w)
      where
        no : (c : Bool) → (c && false) ≡ false
        no true = refl
        no false = refl

-- ---- double-quoted

abbrev first_of : List (Option ℕ) → Option ℕ
first_of [] = None
first_of (x ∷ xs) = x

no_some : (code : ℕ) (o : Option ℕ) → o ≡ None → o ≡ Some code → ⊥
no_some code o e f = cc

hex_back : (whole digits : Text) (values : List ℕ) (number : ℕ) (t : Text) → map hex_value digits ≡ map (λ v. Some v) values
    → is_scalar_value (number_of number values) ≡ true
    → hex whole (length digits) number (digits ++ t) ≡ Ok (number_of number values, t)
unfolding hex
hex_back whole [] [] number t e valid = when_true (is_scalar_value number) (Ok (number, t)) (refuse Syntax whole) valid
hex_back whole [] (v ∷ values) number t e valid = absurd cc
hex_back whole (d ∷ digits) [] number t e valid = absurd cc
hex_back whole (d ∷ digits) (v ∷ values) number t e valid =
    let go : Option ℕ → Result (ℕ × Text) Refusal = λ o. elim o [
      | Some k ↦ hex whole (length digits) (16 * number + k)
          (digits ++ t)
      | None ↦ refuse Syntax whole
    ] in
    ap go (ap first_of e) ∙ hex_back whole digits values (16 * number + v) t (ap (drop 1) e) valid

hex_alone : (c : ℕ) → (hex_digits c ≡ None) ⊎ (short_escape c ≡ None)
hex_alone c = go (c == 120) (c == 117) (c == 85) refl refl refl
  where
    go : (x y z : Bool) → (c == 120) ≡ x → (c == 117) ≡ y → (c == 85) ≡ z → (hex_digits c ≡ None) ⊎ (short_escape c ≡ None)
    go true y z e f g = inr (ap short_escape (eqb-true c 120 e))
    go false true z e f g = inr (ap short_escape (eqb-true c 117 f))
    go false false true e f g = inr (ap short_escape (eqb-true c 85 g))
    go false false false e f g = inl (when_false (c == 120) (Some 2) _ e ∙ when_false (c == 117) (Some 4) _ f ∙ when_false (c == 85) (Some 8) None g)

short_back : (whole : Text) (letter code : ℕ) (t : Text) → short_escape letter ≡ Some code → escape whole (letter ∷ t) ≡ Ok (code, t)
unfolding escape
short_back whole letter code t e = go (hex_alone letter)
  where
    go : (hex_digits letter ≡ None) ⊎ (short_escape letter ≡ None) → by_kind whole (hex_digits letter) (short_escape letter) t ≡ Ok (code, t)
    go (inl h) = ap (λ (o : Option ℕ). by_kind whole o (short_escape letter) t) h ∙ ap (λ (o : Option ℕ). by_kind whole None o t) e
    go (inr h) = absurd (no_some code (short_escape letter) h e)

numbered_back : (whole : Text) (code : ℕ) (x : Text) (h : IsNumbered code x) (t : Text) → escape whole (h.letter ∷ (h.digits ++ t)) ≡ Ok (code, t)
unfolding escape
numbered_back whole code x h t =
    ap (λ (o : Option ℕ). by_kind whole o (short_escape h.letter) (h.digits ++ t)) h.count
    ∙ hex_back whole h.digits h.values 0 t h.of_digits (ap is_scalar_value (sym h.number) ∙ h.valid) ∙ ap (λ (n : ℕ). Ok (n, t)) (sym h.number)

-- an escape begins with its backslash, and is read after it
record EscapeText (code : ℕ) (first : Text) : Type 0 where
  rest : Text
  begins : first ≡ 92 ∷ rest
  reads : (whole t : Text) → escape whole (rest ++ t) ≡ Ok (code, t)

escape_text : (code : ℕ) (first : Text) → IsEscape code first → EscapeText code first
escape_text code first (inl h) = record { rest = h.letter ∷ []; begins = h.written; reads = λ whole t. short_back whole h.letter code t h.stands_for }
escape_text code first (inr h) = record { rest = h.letter ∷ h.digits; begins = h.written; reads = λ whole t. numbered_back whole code first h t }

double_head : (v s t : Text) → InDouble v s → sees 10 (s ++ 34 ∷ t) ≡ false
double_head v s t empty = refl
double_head v s t (byte b e h) = right_false (b == 34 || b == 92) _ e
double_head v s t (escaped code first w u e h f g) =
    let k = escape_text code first e in ap (λ (x : Text). sees 10 (x ++ 34 ∷ t)) (g ∙ ap (λ (x : Text). x ++ u) k.begins)

double_back : (n : ℕ) (v w s t : Text) → InDouble w s → length s < n → double n v (s ++ 34 ∷ t) ≡ found (v ++ w) t
unfolding double
double_back zero v w s t h less = absurd (omega arith)
double_back (suc n) v w s t empty less = ap (λ (x : List ℕ). found x t) (append_nil v)
double_back (suc n) v w s t (byte {v = x} {t = u} b e h) less =
    let rest = u ++ 34 ∷ t in
    let quote = left_false (b == 34) (b == 92) (left_false (b == 34 || b == 92) _ e) in
    let slash = right_false (b == 34) (b == 92) (left_false (b == 34 || b == 92) _ e) in
    let line : ends_line (b ∷ rest) ≡ false = false_or (b == 10) _ (right_false (b == 34 || b == 92) _ e)
    (ap (λ (c : Bool). b == 13 && c) (double_head x u t h) ∙ no (b == 13)) in
    when_false (b == 34) (found v rest) _ quote ∙ when_false (b == 92) _ _ slash
    ∙ when_false (ends_line (b ∷ rest)) _ (double n (v ++ b ∷ []) rest) line
    ∙ double_back n (v ++ b ∷ []) x u t h (omega arith) ∙ ap (λ (y : List ℕ). found y t) (append_assoc v (b ∷ []) x)
  where
    no : (c : Bool) → (c && false) ≡ false
    no true = refl
    no false = refl
double_back (suc n) v w s t (escaped code first x u e h f g) less =
    let k = escape_text code first e in
    let rest = k.rest ++ (u ++ 34 ∷ t) in
    let whole : s ++ 34 ∷ t ≡ 92 ∷ rest =
    ap (λ (y : Text). y ++ 34 ∷ t) (g ∙ ap (λ (y : Text). y ++ u) k.begins) ∙ ap (λ (y : Text). 92 ∷ y) (append_assoc k.rest u (34 ∷ t)) in
    let shorter : length u < n = (let l : length s ≡ suc (length k.rest) + length u = ap length (g ∙ ap (λ (y : Text). y ++ u) k.begins)
    ∙ length-append (92 ∷ k.rest) u in omega arith) in
    ap (double (suc n) v) whole ∙ when_ok (escape (92 ∷ rest) rest) (code, u ++ 34 ∷ t) (λ c. double n (v ++ encode_utf8 c.0) c.1)
    (k.reads (92 ∷ rest) (u ++ 34 ∷ t))
    ∙ double_back n (v ++ encode_utf8 code) x u t h shorter
    ∙ ap (λ (y : List ℕ). found y t) (append_assoc v (encode_utf8 code) x ∙ ap (λ (y : List ℕ). v ++ y) (sym f))

-- ---- quoted

-- what a node or a key begins with
pub record IsBegun (t : Text) : Type 0 where
  pub stop : IsStop t
  pub out : left_out t ≡ None
  pub dash : is_dash t ≡ false
  pub percent : sees 37 t ≡ false
  pub comma : sees 44 t ≡ false
  pub bracket : sees 93 t ≡ false
  pub brace : sees 125 t ≡ false

-- and a scalar
pub record IsScalarBegun (t : Text) : Type 0 where
  pub begun : IsBegun t
  pub no_sequence : sees 91 t ≡ false
  pub no_mapping : sees 123 t ≡ false

single_begun : (t : Text) → IsScalarBegun (39 ∷ t)
single_begun t = record {
  begun = record { stop = record { no_gap = refl; no_hash = refl }; out = refl; dash = refl; percent = refl; comma = refl; bracket = refl; brace = refl };
  no_sequence = refl;
  no_mapping = refl;
}

double_begun : (t : Text) → IsScalarBegun (34 ∷ t)
double_begun t = record {
  begun = record { stop = record { no_gap = refl; no_hash = refl }; out = refl; dash = refl; percent = refl; comma = refl; bracket = refl; brace = refl };
  no_sequence = refl;
  no_mapping = refl;
}

-- a scalar is read
pub record ScalarBack (flow : Bool) (v t rest : Text) : Type 0 where
  pub reads : scalar flow t ≡ Ok (v, rest)
  pub begins : IsScalarBegun t

single_scalar : (flow : Bool) (v s t : Text) → IsSingle v s → sees 39 t ≡ false → ScalarBack flow v (s ++ t) t
unfolding scalar
single_scalar flow v s t h e =
    let rest = flat_map in_single v ++ 39 ∷ t in
    let same : s ++ t ≡ 39 ∷ rest = ap (λ (x : Text). x ++ t) h.quoted
    ∙ ap (λ (x : Text). 39 ∷ x) (append_assoc (flat_map in_single v) (39 ∷ []) t) in
    record {
      reads = ap (scalar flow) same ∙ single_back [] v t h.one_line e;
      begins = let P : Text → Type 0 = λ x. IsScalarBegun x in subst P (sym same) (single_begun rest);
    }

double_scalar : (flow : Bool) (v s t : Text) → (Is 34 and_then InDouble v and_then Is 34) s → ScalarBack flow v (s ++ t) t
unfolding scalar
double_scalar flow v s t h =
    let k = h.is_second in
    let rest = k.first ++ 34 ∷ t in
    let inside : s ≡ 34 ∷ (k.first ++ 34 ∷ []) = h.parts ∙ ap (λ (x : Text). x ++ h.second) h.is_first
    ∙ ap (λ (x : Text). 34 ∷ x) (k.parts ∙ ap (λ (x : Text). k.first ++ x) k.is_second) in
    let same : s ++ t ≡ 34 ∷ rest = ap (λ (x : Text). x ++ t) inside ∙ ap (λ (x : Text). 34 ∷ x) (append_assoc k.first (34 ∷ []) t) in
    let fits : length k.first < suc (length rest) = (let l = length-append k.first (34 ∷ t) in omega arith) in
    record {
      reads = ap (scalar flow) same ∙ double_back (suc (length rest)) [] v k.first t k.is_first fits;
      begins = let P : Text → Type 0 = λ x. IsScalarBegun x in subst P (sym same) (double_begun rest);
    }

pub quoted_scalar : (flow : Bool) (v s t : Text) → IsQuoted v s → sees 39 t ≡ false → ScalarBack flow v (s ++ t) t
quoted_scalar flow v s t (inl h) e = single_scalar flow v s t h e
quoted_scalar flow v s t (inr h) e = double_scalar flow v s t h
