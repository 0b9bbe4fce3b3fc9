-- What a part of a tree gives: a value, or the first refusal.
use Rattle.std.specs.Prelude.{◌≡◌, ℕ, Bool, List, [], ◌∷◌, length, take, nat_lt, not, if◌then◌else◌, Option, Some, None, Result, Ok, Err}
use Rattle.manifest_values.specs.declared.refusal.Refusal.{Refusal}
use Rattle.manifest_values.specs.declared.refusal.Stop.{Stop}
use Rattle.manifest_values.specs.declared.refusal.Stop.TheVariants as stop

-- what a part gives: a value, or the first refusal
abbrev pub Given : Type 0 → Type 0
Given A = Result A Refusal

-- what comes of going on with the value, or the refusal that came first
infixl 10 ◌>>=◌
abbrev pub ◌>>=◌ : {A B : Type 0} → Given A → (A → Given B) → Given B
(Ok x) >>= f = f x
(Err e) >>= f = Err e

-- what is given where the test holds, and otherwise the refusal
abbrev pub given_if : {A : Type 0} → Bool → Refusal → Given A → Given A
given_if test refusal given = if test then given else Err refusal

-- what is there, and otherwise the refusal
abbrev pub given_or : {A : Type 0} → Refusal → Option A → Given A
given_or refusal None = Err refusal
given_or refusal (Some x) = Ok x

-- each item as `f` reads it, or the refusal of the first that is refused
abbrev pub each : {A B : Type 0} → (A → Given B) → List A → Given (List B)
each f [] = Ok []
each f (x ∷ xs) = do
  y ← f x
  ys ← each f xs
  Ok (y ∷ ys)

-- the same of a list that has a limit: the refusal of the limit comes at the item that passes it
abbrev pub each_within : {A B : Type 0} → ℕ → Refusal → (A → Given B) → List A → Given (List B)
each_within limit refusal f xs = each f (take limit xs) >>= λ ys. given_if (not (nat_lt limit (length xs))) refusal (Ok ys)

-- what `f` makes of a value and of each item in turn
abbrev pub fold : {A B : Type 0} → (B → A → Given B) → B → List A → Given B
fold f b [] = Ok b
fold f b (x ∷ xs) = f b x >>= λ c. fold f c xs

-- what a function refuses is what is refused, unless memory ran out
abbrev pub Fails : {Y : Type 0} → Stop → Given Y → Type 0
Fails stop.Memory given = Unit {0}
Fails (stop.Refused refusal) given = given ≡ Err refusal

-- what a function returned, seen by `view`, is what is given, unless memory ran out
abbrev pub Gives : {X Y : Type 0} → (X → Y) → Result X Stop → Given Y → Type 0
Gives view (Ok x) given = given ≡ Ok (view x)
Gives view (Err e) given = Fails e given

-- the stop is this refusal, unless memory ran out
abbrev pub Stops : Stop → Refusal → Type 0
Stops stop.Memory refusal = Unit {0}
Stops (stop.Refused found) refusal = found ≡ refusal

-- what a change made is what is given, unless memory ran out
abbrev pub Makes : {X Y : Type 0} → X → Result Y Stop → Given X → Type 0
Makes new (Ok done) given = given ≡ Ok new
Makes new (Err e) given = Fails e given
