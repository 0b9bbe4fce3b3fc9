-- What rules say of keys, and what fits a need.
use Rattle.std.specs.Prelude.{◌≡◌, ℕ, Bool, true, false, List, [], ◌∷◌, map, length}
use Rattle.build_keys.specs.declared.key.Key.{Key}
use Rattle.build_keys.specs.declared.key.Key.TheVariants.{Command}
use Rattle.build_values.specs.declared.value.Value.{Value}
use Rattle.build_values.specs.declared.value.Value.TheVariants as values
use Rattle.outside.specs.declared.order.Order.{Order}
use Rattle.engine_rules.specs.declared.row.Dep.{Dep}
use Rattle.engine_rules.specs.declared.row.Row.{Row}
use Rattle.engine_rules.specs.declared.needs.Answer.{Answer}
use Rattle.engine_rules.specs.declared.needs.Check.{Check}
use Rattle.engine_rules.specs.declared.needs.Outcome.{Outcome as End}
use Rattle.engine_rules.specs.declared.needs.Outcome.TheVariants as ends
use Rattle.engine_rules.specs.declared.needs.Given.{Given}
use Rattle.engine_rules.specs.declared.needs.Given.TheVariants.{Answers, Info, Names, Outcome}
use Rattle.engine_rules.specs.declared.needs.Need.{Need}
use Rattle.engine_rules.specs.declared.needs.Need.TheVariants.{Ask, Stat, List as Names_of, Run, Done, Fail}

-- the keys that answers are of
abbrev pub answer_keys : List Answer → List Key
answer_keys answers = map (λ (a : Answer). a.key) answers

-- the keys of dependencies
abbrev pub dep_keys : List Dep → List Key
dep_keys deps = map (λ (d : Dep). d.key) deps

-- an order may end so: where it succeeded, there is one value of file information for each output
abbrev pub IsEndOf : Order → End → Type 0
IsEndOf order (ends.Failed exit) = Unit {0}
IsEndOf order (ends.Changed path by_lane by_build) = Unit {0}
IsEndOf order (ends.Done found outputs) = length outputs ≡ length order.outputs

-- what is given is what was needed
abbrev pub IsFit : Need → Given → Type 0
IsFit (Ask deps) (Answers answers) = answer_keys answers ≡ dep_keys deps
IsFit (Stat path form) (Info info) = Unit {0}
IsFit (Names_of path) (Names names) = Unit {0}
IsFit (Run order) (Outcome outcome) = IsEndOf order outcome
IsFit need given = ⊥

-- nothing more is needed
abbrev pub IsLast : Need → Type 0
IsLast (Done value) = Unit {0}
IsLast (Fail failure) = Unit {0}
IsLast need = ⊥

-- what rules say: the text of what is to be done for a key, what it needs after it was given this, the newest first, the paths
-- that keep a stored result, whether the key always runs, and whether a command may find a path
pub record Meaning : Type 0 where
  pub signature : Key → List ℕ
  pub need : Key → List Given → Need
  pub checks : Key → Row → List Check
  pub always : Key → Bool
  pub allowed : Key → List ℕ → Bool

-- the value is that of a failure
abbrev pub is_failed : Value → Bool
is_failed values.Virtual = false
is_failed (values.File info) = false
is_failed (values.Names names) = false
is_failed (values.Tree entries) = false
is_failed (values.Structure entries) = false
is_failed (values.Done infos) = false
is_failed (values.Expected paths) = false
is_failed values.Targets = false
is_failed values.Failed = true

-- how an order ended was given
abbrev pub has_outcome : List Given → Bool
has_outcome [] = false
has_outcome (Outcome outcome ∷ gs) = true
has_outcome (Answers answers ∷ gs) = has_outcome gs
has_outcome (Info info ∷ gs) = has_outcome gs
has_outcome (Names names ∷ gs) = has_outcome gs

-- no key is done with a failure, a key needs one order at most, and an order is one of its key's command
pub record IsLawful (m : Meaning) : Type 0 where
  pub ends : (k : Key) (gs : List Given) (v : Value) → m.need k gs ≡ Done v → is_failed v ≡ false
  pub one_order : (k : Key) (gs : List Given) (order : Order) → m.need k gs ≡ Run order → has_outcome gs ≡ false
  pub own_order : (k : Key) (gs : List Given) (order : Order) → m.need k gs ≡ Run order → k ≡ Command order.command
