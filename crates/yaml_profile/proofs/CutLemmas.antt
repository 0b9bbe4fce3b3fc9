-- Where a text in UTF-8 may be cut: at each byte of ASCII.
use Rattle.std.proofs.Common.{◌≡◌, ℕ, ◌+◌, ◌<◌, true, ◌==◌, List, [], ◌∷◌, ◌++◌, length, take, drop, get_or, sym, subst, append_assoc, arith}
use Rattle.std.specs.Prelude.{IsUtf8}
use Rattle.std.proofs.lemmas.Bool.{eqb-true}
use Rattle.std.proofs.lemmas.Grind.{common_steps}
use Rattle.std.proofs.lemmas.List.{length-append}
use Rattle.std.proofs.lemmas.Str.{IsUtf8-append, IsUtf8-take, IsUtf8-drop, IsCharBoundary-before_ascii, IsCharBoundary-after_ascii}
use Rattle.yaml_profile.specs.Text.{Text, sees}

pub record IsCut (front : List ℕ) (b : ℕ) (t : Text) : Type 0 where
  pub before : IsUtf8 front
  pub from : IsUtf8 (b ∷ t)
  pub after : IsUtf8 t

pub along : (x y : List ℕ) → x ≡ y → IsUtf8 x → IsUtf8 y
along x y e u = let P : List ℕ → Type 0 = λ w. IsUtf8 w in subst P e u

pub cut : (front : List ℕ) (b : ℕ) (t : Text) → b < 128 → IsUtf8 (front ++ b ∷ t) → IsCut front b t
cut front b t small u =
    let w = front ++ b ∷ t in
    let i = length front in
    let inside : i < length w = omega (arith, length-append front (b ∷ t)) in
    let here : get_or w i 0 ≡ b = grind (arith, common_steps) in
    let ascii : get_or w i 0 < 128 = omega (arith, here) in
    let first : take i w ≡ front = grind (arith, common_steps) in
    let rest : drop i w ≡ b ∷ t = grind (arith, common_steps) in
    let last : drop (i + 1) w ≡ t = grind (arith, common_steps) in
    record {
      before = along _ _ first (IsUtf8-take w i u (IsCharBoundary-before_ascii w i inside ascii));
      from = along _ _ rest (IsUtf8-drop w i u (IsCharBoundary-before_ascii w i inside ascii));
      after = along _ _ last (IsUtf8-drop w (i + 1) u (IsCharBoundary-after_ascii w i u inside ascii));
    }

pub small_by : (b c : ℕ) → (b == c) ≡ true → c < 128 → b < 128
small_by b c e h = omega (arith, eqb-true b c e)

-- after a byte of ASCII
pub behind_ascii : (b : ℕ) (t : Text) → b < 128 → IsUtf8 (b ∷ t) → IsUtf8 t
behind_ascii b t small u = (cut [] b t small u).after

pub behind_byte : (c : ℕ) (t : Text) → c < 128 → sees c t ≡ true → IsUtf8 t → IsUtf8 (drop 1 t)
behind_byte c [] small e u = absurd cc
behind_byte c (b ∷ t) small e u = behind_ascii b t (small_by b c e small) u

-- the end of a text in UTF-8, which may begin within a character
pub record IsTail (t : Text) : Type 0 where
  pub front : List ℕ
  pub whole : IsUtf8 (front ++ t)

pub tail_of : (t : Text) → IsUtf8 t → IsTail t
tail_of t u = record { front = []; whole = u }

pub tail_behind : (b : ℕ) (t : Text) → IsTail (b ∷ t) → IsTail t
tail_behind b t h = record { front = h.front ++ b ∷ []; whole = along _ _ (sym (append_assoc h.front (b ∷ []) t)) h.whole }

pub tail_cut : (b : ℕ) (t : Text) → b < 128 → IsTail (b ∷ t) → IsUtf8 t
tail_cut b t small h = (cut h.front b t small h.whole).after

-- one byte goes from the text that is left to the text so far
pub moved : (found : List ℕ) (b : ℕ) (t : Text) → IsUtf8 (found ++ b ∷ t) → IsUtf8 ((found ++ b ∷ []) ++ t)
moved found b t u = along _ _ (sym (append_assoc found (b ∷ []) t)) u

-- two texts with a third between
pub joined : (found more : List ℕ) (t : Text) → IsUtf8 found → IsUtf8 more → IsUtf8 t → IsUtf8 ((found ++ more) ++ t)
joined found more t u v w = IsUtf8-append (found ++ more) t (IsUtf8-append found more u v) w
