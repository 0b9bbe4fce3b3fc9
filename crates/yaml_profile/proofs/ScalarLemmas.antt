-- The texts of scalars and keys are UTF-8, and so is what follows them.
use Rattle.std.proofs.Common.{◌≡◌, ℕ, zero, suc, ◌+◌, ◌*◌, ◌<◌, Bool, true, false, ◌&&◌, ◌||◌, ◌==◌, cond, List, [], ◌∷◌, ◌++◌, length, take, drop, get_or, Option, Some, None, refl, sym, ap, subst, ◌∙◌, ◌⊎◌, inl, inr, append_assoc, arith}
use Rattle.std.specs.Prelude.{IsUtf8, IfSome, encode_utf8}
use Rattle.std.specs.Char.{is_digit, digit_value, IsScalar}
use Rattle.std.specs.Str.{IsCharBoundary}
use Rattle.std.proofs.lemmas.Bool.{eqb-true}
use Rattle.std.proofs.lemmas.Bool.Decides.{nat_tests}
use Rattle.std.proofs.lemmas.Grind.{common_steps}
use Rattle.std.proofs.lemmas.List.{length-append}
use Rattle.std.proofs.lemmas.Str.{IsUtf8-nil, IsUtf8-encode, IsUtf8-take, IsUtf8-drop, IsCharBoundary-before_ascii, IsCharBoundary-end, encode_ascii}
use Rattle.yaml_profile.specs.declared.fault.Fault.TheVariants.{Syntax}
use Rattle.yaml_profile.specs.Text.{Text, refuse, sees, is_white, ends_line, is_flow_mark}
use Rattle.yaml_profile.specs.Scalar.{single, hex, hex_value, hex_digits, short_escape, by_kind, escape, is_scalar_value, double, begins_plain, ends_plain, plain_len, has_forbidden, plain, scalar, closes}
use Rattle.yaml_profile.proofs.CutLemmas.{cut, along, small_by, behind_ascii, behind_byte, moved, joined}
use Rattle.yaml_profile.proofs.FineLemmas.{Fine, bind, choose, choose_option, pick, either, first_of_both, second_of_both}

abbrev Both : List ℕ × Text → Type 0
Both x = IsUtf8 x.0 × IsUtf8 x.1

pub byte_utf8 : (b : ℕ) → b < 128 → IsUtf8 (b ∷ [])
byte_utf8 b small = along _ _ (encode_ascii b small) (IsUtf8-encode b (grind (arith, nat_tests)))

-- ---- single-quoted

abbrev Given : List ℕ → Bool → Text → Type 0
Given found true t = IsUtf8 (found ++ 39 ∷ t)
Given found false t = IsUtf8 (found ++ t)

single_fine : (found : List ℕ) (closed : Bool) (t : Text) → Given found closed t → Fine IsUtf8 (single found closed t)
unfolding single
single_fine found true [] u = ((cut found 39 [] (omega arith) u).before, IsUtf8-nil)
single_fine found true (b ∷ t) u =
    let parts = cut found 39 (b ∷ t) (omega arith) u in
    choose Both (b == 39) _ _
    (λ e. single_fine (found ++ 39 ∷ []) false t (joined found (39 ∷ []) t parts.before (byte_utf8 39 (omega arith)) (behind_ascii b t (small_by b 39 e (omega arith)) parts.after)))
    (λ e. (parts.before, parts.after))
single_fine found false [] u = tt
single_fine found false (b ∷ t) u =
    choose Both (b == 39) _ _
    (λ e. single_fine found true t (let P : ℕ → Type 0 = λ c. IsUtf8 (found ++ c ∷ t) in subst P (eqb-true b 39 e) u))
    (λ e. choose Both (ends_line (b ∷ t)) _ _ (λ f. tt) (λ f. single_fine (found ++ b ∷ []) false t (moved found b t u)))

-- ---- double-quoted

abbrev Character : ℕ × Text → Type 0
Character x = (is_scalar_value x.0 ≡ true) × IsUtf8 x.1

digit_small : (b : ℕ) → is_digit b 16 ≡ true → b < 128
digit_small b h = grind (arith, nat_tests)

hex_small : (b d : ℕ) → hex_value b ≡ Some d → b < 128
hex_small b d h = go (is_digit b 16) refl h
  where
    go : (c : Bool) → is_digit b 16 ≡ c → cond c (Some (digit_value b)) None ≡ Some d → b < 128
    go true e k = digit_small b e
    go false e k = absurd cc

hex_fine : (whole : Text) (n number : ℕ) (t : Text) → IsUtf8 t → Fine (λ c. is_scalar_value c ≡ true) (hex whole n number t)
unfolding hex
hex_fine whole zero number t u = choose Character (is_scalar_value number) _ _ (λ e. (e, u)) (λ e. tt)
hex_fine whole (suc n) number [] u = tt
hex_fine whole (suc n) number (b ∷ t) u = go (hex_fine whole n) (hex_value b) refl
  where
    go : ((m : ℕ) (s : Text) → IsUtf8 s → Fine (λ c. is_scalar_value c ≡ true) (hex whole n m s)) → (o : Option ℕ) → hex_value b ≡ o
        → Fine (λ c. is_scalar_value c ≡ true) (elim o [ Some d ↦ hex whole n (16 * number + d) t | None ↦ refuse Syntax whole ])
    go more (Some d) e = more (16 * number + d) t (behind_ascii b t (hex_small b d e) u)
    go more None e = tt

scalar_is : (c : ℕ) → is_scalar_value c ≡ true → IsScalar c
scalar_is c h = grind (arith, nat_tests)

pub small_scalar : (c : ℕ) → c < 128 → is_scalar_value c ≡ true
small_scalar c h = grind (arith, nat_tests)

-- the byte of an escape that stands for k. Both are ASCII
abbrev pub Short : ℕ → ℕ → Type 0
Short c k = (c < 128) × (k < 128)

by_kind_fine : (whole : Text) (c : ℕ) (count short : Option ℕ) (t : Text) → IsUtf8 (c ∷ t) → IfSome count (λ _. c < 128) → IfSome short (Short c)
    → Fine (λ k. is_scalar_value k ≡ true) (by_kind whole count short t)
by_kind_fine whole c (Some n) short t u small s = hex_fine whole n 0 t (behind_ascii c t small u)
by_kind_fine whole c None (Some k) t u small s = (small_scalar k s.1, behind_ascii c t s.0 u)
by_kind_fine whole c None None t u small s = tt

hex_digits_small : (c : ℕ) → IfSome (hex_digits c) (λ _. c < 128)
hex_digits_small c =
    choose_option (λ _. c < 128) (c == 120) _ _ (λ e. small_by c 120 e (omega arith))
    (λ _. choose_option (λ _. c < 128) (c == 117) _ _ (λ e. small_by c 117 e (omega arith))
    (λ _. choose_option (λ _. c < 128) (c == 85) _ _ (λ e. small_by c 85 e (omega arith)) (λ _. tt)))

hit : (c k v : ℕ) → k < 128 → v < 128 → (c == k) ≡ true → Short c v
hit c k v small low e = (small_by c k e small, low)

itself_small : (c : ℕ) → (c == 92 || c == 34 || c == 47 || c == 32) ≡ true → c < 128
itself_small c h =
    either (c == 92 || c == 34 || c == 47) (c == 32)
    (λ e. either (c == 92 || c == 34) (c == 47)
    (λ f. either (c == 92) (c == 34) (λ g. small_by c 92 g (omega arith)) (λ g. small_by c 34 g (omega arith)) f)
    (λ f. small_by c 47 f (omega arith)) e)
    (λ e. small_by c 32 e (omega arith)) h

pub short_small : (c : ℕ) → IfSome (short_escape c) (Short c)
short_small c =
    choose_option (Short c) (c == 92 || c == 34 || c == 47 || c == 32) _ _ (λ e. (itself_small c e, itself_small c e))
    (λ _. choose_option (Short c) (c == 48) _ _ (hit c 48 0 (omega arith) (omega arith))
    (λ _. choose_option (Short c) (c == 97) _ _ (hit c 97 7 (omega arith) (omega arith))
    (λ _. choose_option (Short c) (c == 98) _ _ (hit c 98 8 (omega arith) (omega arith))
    (λ _. choose_option (Short c) (c == 116) _ _ (hit c 116 9 (omega arith) (omega arith))
    (λ _. choose_option (Short c) (c == 110) _ _ (hit c 110 10 (omega arith) (omega arith))
    (λ _. choose_option (Short c) (c == 118) _ _ (hit c 118 11 (omega arith) (omega arith))
    (λ _. choose_option (Short c) (c == 102) _ _ (hit c 102 12 (omega arith) (omega arith))
    (λ _. choose_option (Short c) (c == 114) _ _ (hit c 114 13 (omega arith) (omega arith))
    (λ _. choose_option (Short c) (c == 101) _ _ (hit c 101 27 (omega arith) (omega arith)) (λ _. tt))))))))))

escape_fine : (whole t : Text) → IsUtf8 t → Fine (λ k. is_scalar_value k ≡ true) (escape whole t)
unfolding escape
escape_fine whole [] u = tt
escape_fine whole (c ∷ t) u = by_kind_fine whole c (hex_digits c) (short_escape c) t u (hex_digits_small c) (short_small c)

double_fine : (n : ℕ) (found : List ℕ) (t : Text) → IsUtf8 (found ++ t) → Fine IsUtf8 (double n found t)
unfolding double
double_fine zero found t u = tt
double_fine (suc n) found [] u = tt
double_fine (suc n) found (b ∷ t) u =
    choose Both (b == 34) _ _
    (λ e. let parts = cut found b t (small_by b 34 e (omega arith)) u in (parts.before, parts.after))
    (λ _. choose Both (b == 92) _ _
    (λ e.
    let parts = cut found b t (small_by b 92 e (omega arith)) u in
    bind Character Both (escape (b ∷ t) t) (λ c. double n (found ++ encode_utf8 c.0) c.1) (escape_fine (b ∷ t) t parts.after)
    (λ c h. double_fine n (found ++ encode_utf8 c.0) c.1 (joined found (encode_utf8 c.0) c.1 parts.before (IsUtf8-encode c.0 (scalar_is c.0 h.0)) h.1)))
    (λ _. choose Both (ends_line (b ∷ t)) _ _ (λ f. tt) (λ f. double_fine n (found ++ b ∷ []) t (moved found b t u))))

-- ---- plain

pub line_small : (b : ℕ) (t : Text) → ends_line (b ∷ t) ≡ true → b < 128
line_small b t h =
    either (b == 10) (b == 13 && sees 10 t) (λ e. small_by b 10 e (omega arith)) (λ e. small_by b 13 (first_of_both (b == 13) (sees 10 t) e) (omega arith)) h

pub white_small : (b : ℕ) → is_white b ≡ true → b < 128
white_small b h = either (b == 32) (b == 9) (λ e. small_by b 32 e (omega arith)) (λ e. small_by b 9 e (omega arith)) h

mark_small : (b : ℕ) → is_flow_mark b ≡ true → b < 128
mark_small b h =
    either (b == 44 || b == 91 || b == 93 || b == 123) (b == 125)
    (λ e. either (b == 44 || b == 91 || b == 93) (b == 123)
    (λ f. either (b == 44 || b == 91) (b == 93)
    (λ g. either (b == 44) (b == 91) (λ k. small_by b 44 k (omega arith)) (λ k. small_by b 91 k (omega arith)) g)
    (λ g. small_by b 93 g (omega arith)) f)
    (λ f. small_by b 123 f (omega arith)) e)
    (λ e. small_by b 125 e (omega arith)) h

end_small : (flow white : Bool) (b : ℕ) (t : Text) → ends_plain flow white (b ∷ t) ≡ true → b < 128
end_small flow white b t h =
    either (ends_line (b ∷ t) || (b == 58 && closes flow t) || (flow && is_flow_mark b)) (white && b == 35)
    (λ e. either (ends_line (b ∷ t) || (b == 58 && closes flow t)) (flow && is_flow_mark b)
    (λ f. either (ends_line (b ∷ t)) (b == 58 && closes flow t) (line_small b t) (λ g. small_by b 58 (first_of_both (b == 58) (closes flow t) g) (omega arith)) f)
    (λ f. mark_small b (second_of_both flow (is_flow_mark b) f)) e)
    (λ e. small_by b 35 (second_of_both white (b == 35) e) (omega arith)) h

-- the cut before a byte of ASCII
before : (front : List ℕ) (b : ℕ) (t : Text) (whole : Text) (at : ℕ) → whole ≡ front ++ b ∷ t → length front ≡ at → b < 128 → IsCharBoundary whole at
before front b t whole at e l small =
    let long : length whole ≡ length front + suc (length t) = ap length e ∙ length-append front (b ∷ t) in
    let here : get_or (front ++ b ∷ t) (length front) 0 ≡ b = grind (arith, common_steps) in
    let same : get_or whole at 0 ≡ b = ap (λ (w : List ℕ). get_or w at 0) e ∙ ap (λ (i : ℕ). get_or (front ++ b ∷ t) i 0) (sym l) ∙ here in
    IsCharBoundary-before_ascii whole at (omega arith) (omega (arith, same))

settled : (whole : Text) (len at : ℕ) → (len ≡ at) ⊎ IsCharBoundary whole len → IsCharBoundary whole at → IsCharBoundary whole len
settled whole len at (inl same) h = let P : ℕ → Type 0 = λ n. IsCharBoundary whole n in subst P (sym same) h
settled whole len at (inr ok) h = ok

plain_cut : (flow white : Bool) (front : List ℕ) (at len : ℕ) (t whole : Text) → whole ≡ front ++ t → length front ≡ at → (len ≡ at) ⊎ IsCharBoundary whole len
    → IsCharBoundary whole (plain_len flow white at len t)
unfolding plain_len
plain_cut flow white front at len [] whole e l ok =
    let long : length whole ≡ at = ap length e ∙ length-append front [] ∙ omega (arith, l) in
    let P : ℕ → Type 0 = λ n. IsCharBoundary whole n in
    settled whole len at ok (subst P long (IsCharBoundary-end whole))
plain_cut flow white front at len (b ∷ t) whole e l ok =
    let P : ℕ → Type 0 = λ n. IsCharBoundary whole n in
    let more : whole ≡ (front ++ b ∷ []) ++ t = e ∙ sym (append_assoc front (b ∷ []) t) in
    let longer : length (front ++ b ∷ []) ≡ at + 1 = length-append front (b ∷ []) ∙ omega (arith, l) in
    pick P (ends_plain flow white (b ∷ t)) len (cond (is_white b) (plain_len flow true (at + 1) len t) (plain_len flow false (at + 1) (at + 1) t))
    (λ h. settled whole len at ok (before front b t whole at e l (end_small flow white b t h)))
    (λ _. pick P (is_white b) (plain_len flow true (at + 1) len t) (plain_len flow false (at + 1) (at + 1) t)
    (λ h. plain_cut flow true (front ++ b ∷ []) (at + 1) len t whole more longer (inr (settled whole len at ok (before front b t whole at e l (white_small b h)))))
    (λ _. plain_cut flow false (front ++ b ∷ []) (at + 1) (at + 1) t whole more longer (inl refl)))

plain_fine : (flow : Bool) (t : Text) → IsUtf8 t → Fine IsUtf8 (plain flow t)
unfolding plain
plain_fine flow [] u = tt
plain_fine flow (b ∷ t) u =
    let len = plain_len flow false 1 1 t in
    let ok : IsCharBoundary (b ∷ t) len = plain_cut flow false (b ∷ []) 1 1 t (b ∷ t) refl refl (inl refl) in
    choose Both (begins_plain flow (b ∷ t)) _ _
    (λ _. choose Both (has_forbidden (take len (b ∷ t))) _ _ (λ _. tt) (λ _. (IsUtf8-take (b ∷ t) len u ok, IsUtf8-drop (b ∷ t) len u ok)))
    (λ _. tt)

pub scalar_fine : (flow : Bool) (t : Text) → IsUtf8 t → Fine IsUtf8 (scalar flow t)
unfolding scalar
scalar_fine flow t u =
    choose Both (sees 39 t) _ _ (λ e. single_fine [] false (drop 1 t) (behind_byte 39 t (omega arith) e u))
    (λ _. choose Both (sees 34 t) _ _ (λ e. double_fine (suc (length (drop 1 t))) [] (drop 1 t) (behind_byte 34 t (omega arith) e u)) (λ _. plain_fine flow t u))
