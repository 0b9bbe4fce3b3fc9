-- A part of a text, and what follows it.
use Rattle.std.proofs.Common.{◌≡◌, ℕ, true, List, [], ◌∷◌, ◌++◌, drop, refl, sym, ap, ◌∙◌, append_assoc, length, Result, Ok, Err, arith, ◌<◌}
use Rattle.std.proofs.lemmas.Bool.{eqb-true}
use Rattle.std.proofs.lemmas.List.{length-append}
use Rattle.std.specs.Prelude.{IfOk}
use Rattle.yaml_profile.specs.declared.fault.Refusal.{Refusal}
use Rattle.yaml_profile.specs.Text.{Text, sees}
use Rattle.yaml_profile.specs.Space.{◌and_then◌, Many, none, more, Is}

-- a part of the text that is so, and then the rest
pub record Cuts (P : Text → Type 0) (t rest : Text) : Type 0 where
  pub part : Text
  pub whole : t ≡ part ++ rest
  pub holds : P part

-- the value was read from a part of the text
abbrev pub Reads : {A : Type 0} → (A → Text → Type 0) → Text → A × Text → Type 0
Reads P t x = Cuts (P x.0) t x.1

pub both_parts : {P Q : Text → Type 0} (s t : Text) → P s → Q t → (P and_then Q) (s ++ t)
both_parts s t p q = record { first = s; second = t; parts = refl; is_first = p; is_second = q }

pub chain : {P Q : Text → Type 0} {t u v : Text} → Cuts P t u → Cuts Q u v → Cuts (P and_then Q) t v
chain {v = v} p q = record {
  part = p.part ++ q.part;
  whole = p.whole ∙ ap (λ (s : Text). p.part ++ s) q.whole ∙ sym (append_assoc p.part q.part v);
  holds = both_parts p.part q.part p.holds q.holds;
}

pub widen : {P Q : Text → Type 0} {t u : Text} → ((s : Text) → P s → Q s) → Cuts P t u → Cuts Q t u
widen f p = record { part = p.part; whole = p.whole; holds = f p.part p.holds }

pub whole_cut : {P : Text → Type 0} (t u : Text) → P t → Cuts P (t ++ u) u
whole_cut t u p = record { part = t; whole = refl; holds = p }

pub no_part : {P : Text → Type 0} (t : Text) → P [] → Cuts P t t
no_part t p = record { part = []; whole = refl; holds = p }

pub one_byte : (b : ℕ) (t : Text) → Cuts (Is b) (b ∷ t) t
one_byte b t = record { part = b ∷ []; whole = refl; holds = refl }

pub seen_byte : (c : ℕ) (t : Text) → sees c t ≡ true → Cuts (Is c) t (drop 1 t)
seen_byte c [] e = absurd cc
seen_byte c (b ∷ t) e = record { part = b ∷ []; whole = refl; holds = ap (λ (x : ℕ). x ∷ []) (eqb-true b c e) }

pub many_append : {P : Text → Type 0} {s t : Text} → Many P s → Many P t → Many P (s ++ t)
many_append none q = q
many_append {t = t} (more first rest p ps e) q = more first (rest ++ t) p (many_append ps q) (ap (λ (x : Text). x ++ t) e ∙ append_assoc first rest t)

-- a list is not empty
abbrev pub IsFull : {A : Type 0} → List A → Type 0
IsFull xs = xs ≡ [] → ⊥

pub seen_full : (c : ℕ) (t : Text) → sees c t ≡ true → IsFull t
seen_full c t e empty = cc

pub append_nil : (s : Text) → s ≡ s ++ []
append_nil [] = refl
append_nil (b ∷ s) = ap (λ (x : Text). b ∷ x) (append_nil s)

pub full_shorter : (s t : Text) → IsFull s → length t < length (s ++ t)
full_shorter [] t f = absurd (f refl)
full_shorter (b ∷ s) t f = let l = length-append s t in omega arith

-- what holds of a value that was read gives more
pub mapped : {A : Type 0} (P Q : A → Type 0) (o : Result A Refusal) → ((x : A) → P x → Q x) → IfOk o P → IfOk o Q
mapped P Q (Ok x) f p = f x p
mapped P Q (Err e) f p = tt
