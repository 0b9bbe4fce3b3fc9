-- What a reading that found something went through.
use Rattle.std.proofs.Common.{◌≡◌, Bool, true, false, ◌&&◌, Option, Some, None, cond, refl, ap}
use Rattle.build_keys.specs.Reading.{◌>>=◌, when}

-- two steps that found something
pub record Found {A B : Type 0} (first : Option A) (next : A → Option B) (end : B) : Type 0 where
  pub middle : A
  pub first_is : first ≡ Some middle
  pub next_is : next middle ≡ Some end

pub found : {A B : Type 0} (first : Option A) (next : A → Option B) (end : B) → (first >>= next) ≡ Some end → Found first next end
found None next end e = cc e
found (Some x) next end e = record { middle = x; first_is = refl; next_is = e }

pub step : {A B : Type 0} (first : Option A) (next : A → Option B) (x : A) → first ≡ Some x → (first >>= next) ≡ next x
step first next x e = ap (λ o. o >>= next) e

-- a test that held
pub record Held {A : Type 0} (test : Bool) (x y : A) : Type 0 where
  pub holds : test ≡ true
  pub same : Some x ≡ Some y

pub held : {A : Type 0} (test : Bool) (x y : A) → when test x ≡ Some y → Held test x y
held true x y e = record { holds = refl; same = e }
held false x y e = cc e

pub when-true : {A : Type 0} (test : Bool) (x : A) → test ≡ true → when test x ≡ Some x
when-true test x e = ap (λ b. when b x) e

-- one of two readings
pub either : {A P : Type 0} (test : Bool) (one other : Option A) (x : A) → (test ≡ true → one ≡ Some x → P) → (other ≡ Some x → P)
    → cond test one other ≡ Some x → P
either true one other x f g e = f refl e
either false one other x f g e = g e

pub and-true : (a b : Bool) → a ≡ true → b ≡ true → (a && b) ≡ true
and-true a b e f = rw (e, f) refl

pub and-first : (a b : Bool) → (a && b) ≡ true → a ≡ true
and-first true b e = refl
and-first false b e = e

pub and-second : (a b : Bool) → (a && b) ≡ true → b ≡ true
and-second true b e = e
and-second false b e = cc e

-- two pairs that are one
abbrev first-of : {A B : Type 0} → A × B → A
first-of pair = pair.0

abbrev second-of : {A B : Type 0} → A × B → B
second-of pair = pair.1

abbrev some-or : {A : Type 0} → A → Option A → A
some-or other None = other
some-or other (Some x) = x

some-same : {A : Type 0} (x y : A) → Some x ≡ Some y → x ≡ y
some-same x y e = ap (some-or x) e

abbrev SamePairs : {A B : Type 0} → A → A → B → B → Type 0
SamePairs {A} {B} a c b d = let p : A × B = (a, b) in let q : A × B = (c, d) in Some p ≡ Some q

pub first-same : {A B : Type 0} (a c : A) (b d : B) → SamePairs a c b d → a ≡ c
first-same {A} {B} a c b d e = let p : A × B = (a, b) in let q : A × B = (c, d) in ap first-of (some-same p q e)

pub second-same : {A B : Type 0} (a c : A) (b d : B) → SamePairs a c b d → b ≡ d
second-same {A} {B} a c b d e = let p : A × B = (a, b) in let q : A × B = (c, d) in ap second-of (some-same p q e)
