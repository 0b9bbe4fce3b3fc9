-- A scalar is no longer than its text, and a name is shorter than its key.
use Rattle.std.proofs.Common.{◌≡◌, inl, inr, ℕ, ◌+◌, ◌≤◌, Bool, true, false, ◌==◌, cond, List, [], ◌∷◌, ◌++◌, length, Option, ap, subst, ◌∙◌, arith}
use Rattle.std.specs.Prelude.{IfSome, flat_map, encode_utf8}
use Rattle.std.proofs.lemmas.List.{length-append}
use Rattle.std.proofs.lemmas.Str.{length-encode, len_utf8_bounds, len_utf8_ascii}
use Rattle.yaml_profile.specs.Text.{Text}
use Rattle.yaml_profile.specs.Scalar.{hex_digits}
use Rattle.yaml_profile.specs.Space.{◌and_then◌}
use Rattle.yaml_profile.specs.ScalarTexts.{in_single, IsShort, IsNumbered, IsEscape, InDouble, none, byte, escape, IsQuoted, IsScalar, IsKey, quoted, plain}
use Rattle.yaml_profile.proofs.FineLemmas.{choose_option}
use Rattle.yaml_profile.proofs.ScalarLemmas.{Short, short_small}

pub both_length : {P Q : Text → Type 0} (t : Text) (h : (P and_then Q) t) → length t ≡ length h.first + length h.second
both_length t h = ap length h.parts ∙ length-append h.first h.second

-- ---- quoted

single_fits : (v : List ℕ) → length v ≤ length (flat_map in_single v)
single_fits [] = omega arith
single_fits (b ∷ v) = go (b == 39) (single_fits v)
  where
    go : (c : Bool) → length v ≤ length (flat_map in_single v)
        → length (b ∷ v) ≤ length (cond c (39 ∷ 39 ∷ []) (b ∷ []) ++ flat_map in_single v)
    go true h = omega arith
    go false h = omega arith

short_fits : (code : ℕ) (text : Text) → IsShort code text → length (encode_utf8 code) ≤ length text
short_fits code text h =
    let P : Option ℕ → Type 0 = λ o. IfSome o (Short h.letter) in
    let small : Short h.letter code = subst P h.stands_for (short_small h.letter) in
    let encoded = length-encode code in
    let one = len_utf8_ascii code small.1 in
    let written = ap length h.written in omega arith

digits_count : (c : ℕ) → IfSome (hex_digits c) (λ n. 2 ≤ n)
digits_count c =
    choose_option (λ n. 2 ≤ n) (c == 120) _ _ (λ _. omega arith)
    (λ _. choose_option (λ n. 2 ≤ n) (c == 117) _ _ (λ _. omega arith)
    (λ _. choose_option (λ n. 2 ≤ n) (c == 85) _ _ (λ _. omega arith) (λ _. tt)))

numbered_fits : (code : ℕ) (text : Text) → IsNumbered code text → length (encode_utf8 code) ≤ length text
numbered_fits code text h =
    let P : Option ℕ → Type 0 = λ o. IfSome o (λ n. 2 ≤ n) in
    let two : 2 ≤ length h.digits = subst P h.count (digits_count h.letter) in
    let encoded = length-encode code in
    let four = (len_utf8_bounds code).1 in
    let written = ap length h.written in omega arith

escape_fits : (code : ℕ) (text : Text) → IsEscape code text → length (encode_utf8 code) ≤ length text
escape_fits code text (inl h) = short_fits code text h
escape_fits code text (inr h) = numbered_fits code text h

inside_fits : {v t : List ℕ} → InDouble v t → length v ≤ length t
inside_fits none = omega arith
inside_fits (byte b e h) = let fits = inside_fits h in omega arith
inside_fits (escape code first v t e h same whole) =
    let fits = inside_fits h in
    let first_fits = escape_fits code first e in
    let of_value = ap length same ∙ length-append (encode_utf8 code) v in
    let of_text = ap length whole ∙ length-append first t in omega arith

quoted_fits : (value text : Text) → IsQuoted value text → length value ≤ length text
quoted_fits value text (inl h) =
    let fits = single_fits value in
    let whole = ap length h.quoted in omega (arith, length-append (flat_map in_single value) (39 ∷ []))
quoted_fits value text (inr h) =
    let fits = inside_fits h.is_second.is_first in
    let whole = both_length text h in
    let inside = both_length h.second h.is_second in omega arith

-- ---- a scalar or a key

pub scalar_fits : (flow : Bool) (value text : Text) → IsScalar flow value text → length value ≤ length text
scalar_fits flow value text (inl h) = quoted_fits value text h
scalar_fits flow value text (inr h) = let whole = ap length h.0 in omega arith

pub key_fits : (flow : Bool) (name key value : Text) → IsKey flow name key value → length name + 1 ≤ length key
key_fits flow name key value (quoted h) =
    let fits = quoted_fits name h.first h.is_first in
    let whole = both_length key h in
    let behind = both_length h.second h.is_second in
    let colon = ap length h.is_second.is_second in omega arith
key_fits flow name key value (plain white w p e c) =
    let whole = ap length e ∙ length-append name (white ++ 58 ∷ []) in
    let behind = length-append white (58 ∷ []) in omega arith
