-- The first input that is made later, and the first command that reads one.
use Rattle.std.proofs.Common.{◌≡◌, ◌<◌, ◌≤◌, ◌+◌, ℕ, Bool, List, length, get_or, refl, sym, ap, ◌∙◌, subst, inl, inr, arith}
use Rattle.std.specs.Prelude.{slice_get, Some}
use Rattle.std.proofs.lemmas.Bool.{cases_lt}
use Rattle.std.proofs.lemmas.Option.{slice_get_within, slice_get_read}
use Rattle.file_info.proofs.Lists.{In-get, In-index}
use Rattle.build_manifest.specs.declared.command.Command.{Command}
use Rattle.build_manifest.specs.declared.command.Input.{Input}
use Rattle.build_plan.specs.Built.{AreEarlier, IsMadeLater}
use Rattle.build_plan.specs.Reached.{IsMarked}
use Rattle.build_plan.specs.Unbuilt.{AreNoneLate, IsFirstLate, IsFirstLaterAt}
use Rattle.build_plan.proofs.ReachLemmas.{item_at}

-- an item that is read
pub item_there : {X : Type 0} (xs : List X) (k : ℕ) (x : X) → k < length xs → x ≡ get_or xs k x → slice_get xs k ≡ Some x
item_there xs k x h e = slice_get_read xs (length xs) k x refl h e

-- none of the inputs before this place is made later
abbrev pub AreEarlierBefore : List Command → ℕ → List Input → ℕ → Type 0
AreEarlierBefore commands place inputs at = (k : ℕ) (i : Input) → k < at → slice_get inputs k ≡ Some i → IsMadeLater commands place i → ⊥

-- one input more is made before
pub one_earlier : (commands : List Command) (place : ℕ) (inputs : List Input) (at : ℕ) (x : Input) → AreEarlierBefore commands place inputs at
    → slice_get inputs at ≡ Some x → (IsMadeLater commands place x → ⊥) → AreEarlierBefore commands place inputs (at + 1)
one_earlier commands place inputs at x before there here k i less is late = elim (cases_lt k at) [
  | inl lower ↦ before k i lower is late
  | inr not_lower ↦
      let same : at ≡ k = omega arith in
      let both : Some x ≡ Some i = sym there ∙ ap (slice_get inputs) same ∙ is in
      let inputs_same : i ≡ x = cc both in
      here (subst (IsMadeLater commands place) inputs_same late)
]

-- the first input that is made later is found
pub first_found : (commands : List Command) (place : ℕ) (inputs : List Input) (at : ℕ) (x : Input) → AreEarlierBefore commands place inputs at
    → slice_get inputs at ≡ Some x → IsMadeLater commands place x → IsFirstLaterAt commands place inputs at
first_found commands place inputs at x before there late = record {
  within = slice_get_within inputs at x there;
  later = λ i is. (let both : Some x ≡ Some i = sym there ∙ is in let same : x ≡ i = cc both in subst (IsMadeLater commands place) same late);
  earlier = before;
}

-- no input is made later
pub all_earlier : (commands : List Command) (place : ℕ) (inputs : List Input) (at : ℕ) → AreEarlierBefore commands place inputs at
    → length inputs ≤ at → AreEarlier commands place inputs
all_earlier commands place inputs at before past i among late =
    let (k, is) = In-index i inputs among in
    let within = slice_get_within inputs k i is in
    before k i (omega arith) is late

-- an input that is made later is not made before
not_earlier : (commands : List Command) (place : ℕ) (inputs : List Input) (at : ℕ) → IsFirstLaterAt commands place inputs at
    → AreEarlier commands place inputs → ⊥
not_earlier commands place inputs at first earlier =
    let (i, there) = item_at inputs at first.within in
    earlier i (In-get inputs at i there) (first.later i there)

-- the first marked command that reads what is made later is found
pub late_found : (commands : List Command) (marks : List Bool) (place at : ℕ) → place < length commands → IsMarked marks place
    → AreNoneLate commands marks place
    → ((c : Command) → slice_get commands place ≡ Some c → IsFirstLaterAt commands place c.inputs at)
    → IsFirstLate commands marks (place, at)
late_found commands marks place at within marked before found = record {
  first = record {
    within = within;
    marked = marked;
    other = λ c there. not_earlier commands place c.inputs at (found c there);
    before = before;
  };
  input = found;
}
