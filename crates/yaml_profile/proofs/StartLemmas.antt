-- The first byte of a node as it is written: a quote or an opening bracket.
use Rattle.std.proofs.Common.{◌≡◌, ℕ, Bool, true, false, ◌||◌, ◌==◌, List, ◌∷◌, ◌++◌, None, refl, sym, ap, subst}
use Rattle.std.proofs.lemmas.Bool.{eqb-true}
use Rattle.yaml_profile.specs.Text.{Text, sees, past_white, past_space, spaced}
use Rattle.yaml_profile.specs.Flow.{left_out}

-- whether a node as it is written begins with this byte
abbrev pub is_start : ℕ → Bool
is_start b = b == 34 || (b == 91 || b == 123)

-- the text begins with such a byte
pub record IsStarted (text : Text) : Type 0 where
  pub first : ℕ
  pub others : List ℕ
  pub parts : text ≡ first ∷ others
  pub starts : is_start first ≡ true

start_cases : (P : ℕ → Type 0) (b : ℕ) → P 34 → P 91 → P 123 → is_start b ≡ true → P b
start_cases P b p q r h = go (b == 34) (b == 91) (b == 123) refl refl refl h
  where
    go : (x y z : Bool) → (b == 34) ≡ x → (b == 91) ≡ y → (b == 123) ≡ z → (x || (y || z)) ≡ true → P b
    go true y z ex ey ez k = subst P (sym (eqb-true b 34 ex)) p
    go false true z ex ey ez k = subst P (sym (eqb-true b 91 ey)) q
    go false false true ex ey ez k = subst P (sym (eqb-true b 123 ez)) r
    go false false false ex ey ez k = absurd cc

-- what holds of each text after such a byte holds of the text
pub at_start : (P : Text → Type 0) (text : Text) → IsStarted text → ((t : Text) → P (34 ∷ t)) → ((t : Text) → P (91 ∷ t)) → ((t : Text) → P (123 ∷ t))
    → P text
at_start P text s p q r = subst P (sym s.parts) (start_cases (λ (c : ℕ). P (c ∷ s.others)) s.first (p s.others) (q s.others) (r s.others) s.starts)

pub started_more : (text rest : Text) → IsStarted text → IsStarted (text ++ rest)
started_more text rest s = record { first = s.first; others = s.others ++ rest; parts = ap (λ (w : Text). w ++ rest) s.parts; starts = s.starts }

-- passing white leaves such a text whole
pub record IsKept (text : Text) : Type 0 where
  pub spaced_self : spaced text ≡ text
  pub spaced_space : spaced (32 ∷ text) ≡ text
  pub past_space : past_white (32 ∷ text) ≡ text

pub kept : (text : Text) → IsStarted text → IsKept text
unfolding past_space past_white
kept text s =
    at_start (λ (t : Text). IsKept t) text s
    (λ t. record { spaced_self = refl; spaced_space = refl; past_space = refl })
    (λ t. record { spaced_self = refl; spaced_space = refl; past_space = refl })
    (λ t. record { spaced_self = refl; spaced_space = refl; past_space = refl })

-- no mark after an item stands there, and nothing that the profile leaves out
pub record StartsNode (text : Text) : Type 0 where
  pub no_comma : sees 44 text ≡ false
  pub no_bracket : sees 93 text ≡ false
  pub no_brace : sees 125 text ≡ false
  pub allowed : left_out text ≡ None

pub node_start : (text : Text) → IsStarted text → StartsNode text
node_start text s =
    at_start (λ (t : Text). StartsNode t) text s
    (λ t. record { no_comma = refl; no_bracket = refl; no_brace = refl; allowed = refl })
    (λ t. record { no_comma = refl; no_bracket = refl; no_brace = refl; allowed = refl })
    (λ t. record { no_comma = refl; no_bracket = refl; no_brace = refl; allowed = refl })

-- no white stands before a mark
pub spaced_mark : (rest : Text) → (spaced (93 ∷ rest) ≡ 93 ∷ rest) × (spaced (44 ∷ rest) ≡ 44 ∷ rest) × (spaced (125 ∷ rest) ≡ 125 ∷ rest)
unfolding past_space
spaced_mark rest = (refl, refl, refl)
