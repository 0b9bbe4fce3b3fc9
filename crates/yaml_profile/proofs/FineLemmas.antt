-- What holds of each value that reading gives.
use Rattle.std.proofs.Common.{◌≡◌, Bool, true, false, ◌&&◌, ◌||◌, cond, Option, Some, None, Result, Ok, Err, refl}
use Rattle.std.specs.Prelude.{IfOk, IfSome, IsUtf8}
use Rattle.yaml_profile.specs.declared.fault.Refusal.{Refusal}
use Rattle.yaml_profile.specs.declared.error.Feature.{Feature}
use Rattle.yaml_profile.specs.Text.{Text, Outcome, ◌>>=◌}
use Rattle.yaml_profile.specs.Flow.{unless}

-- the value is so, and the text after it is UTF-8
abbrev pub Fine : {A : Type 0} → (A → Type 0) → Outcome A → Type 0
Fine P o = IfOk o (λ x. P x.0 × IsUtf8 x.1)

pub bind : {A B : Type 0} (P : A → Type 0) (Q : B → Type 0) (o : Result A Refusal) (f : A → Result B Refusal) → IfOk o P → ((x : A) → P x → IfOk (f x) Q) → IfOk (o >>= f) Q
bind P Q (Ok x) f p g = g x p
bind P Q (Err e) f p g = tt

pub choose : {A : Type 0} (P : A → Type 0) (c : Bool) (x y : Result A Refusal) → (c ≡ true → IfOk x P) → (c ≡ false → IfOk y P) → IfOk (cond c x y) P
choose P true x y p q = p refl
choose P false x y p q = q refl

pub allowed : {A : Type 0} (P : A → Type 0) (f : Option Feature) (t : Text) (o : Result A Refusal) → IfOk o P → IfOk (unless f t o) P
allowed P (Some feature) t o h = tt
allowed P None t o h = h

pub choose_option : {A : Type 0} (P : A → Type 0) (c : Bool) (x y : Option A) → (c ≡ true → IfSome x P) → (c ≡ false → IfSome y P) → IfSome (cond c x y) P
choose_option P true x y p q = p refl
choose_option P false x y p q = q refl

pub pick : {X : Type 0} (P : X → Type 0) (c : Bool) (x y : X) → (c ≡ true → P x) → (c ≡ false → P y) → P (cond c x y)
pick P true x y p q = p refl
pick P false x y p q = q refl

pub either : {P : Type 0} (x y : Bool) → (x ≡ true → P) → (y ≡ true → P) → (x || y) ≡ true → P
either true y p q e = p refl
either false y p q e = q e

pub first_of_both : (x y : Bool) → (x && y) ≡ true → x ≡ true
first_of_both true y e = refl
first_of_both false y e = e

pub second_of_both : (x y : Bool) → (x && y) ≡ true → y ≡ true
second_of_both true y e = e
second_of_both false y e = absurd cc
