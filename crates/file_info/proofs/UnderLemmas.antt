-- What stands after a folder.
use Rattle.std.proofs.Common.{◌≡◌, ◌≢◌, ℕ, Bool, true, false, not, IsTrue, refl, List, [], ◌∷◌, ◌++◌, ap, sym, ◌∙◌, append_assoc}
use Rattle.std.specs.Prelude.{Option, Some, None, MatchOption}
use denote.Ref.{Bor}

same_rest : (root more rest : List ℕ) → root ++ more ≡ root ++ rest → more ≡ rest
same_rest [] more rest e = e
same_rest (b ∷ root) more rest e = same_rest root more rest (cc)

pub folder : (path root more : List ℕ) (r : Option (Bor (List ℕ))) → path ≡ root ++ more → MatchOption r ((rest : List ℕ) → more ≢ (47 ∷ []) ++ rest) (λ x. more ≡ (47 ∷ []) ++ x.now)
    → MatchOption r ((rest : List ℕ) → path ≢ (root ++ 47 ∷ []) ++ rest) (λ x. path ≡ (root ++ 47 ∷ []) ++ x.now)
folder path root more None p h = λ rest e. h rest (same_rest root more ((47 ∷ []) ++ rest) (sym p ∙ e ∙ append_assoc root (47 ∷ []) rest))
folder path root more (Some x) p h = p ∙ ap (λ w. root ++ w) h ∙ sym (append_assoc root (47 ∷ []) x.now)

pub no_folder : (path root : List ℕ) → ((rest : List ℕ) → path ≢ root ++ rest) → (rest : List ℕ) → path ≢ (root ++ 47 ∷ []) ++ rest
no_folder path root h rest e = h ((47 ∷ []) ++ rest) (e ∙ append_assoc root (47 ∷ []) rest)

pub is_not : (b : Bool) → IsTrue (not b) → b ≡ false
is_not true t = cc t
is_not false t = refl

pub not_is : (b : Bool) → (b ≡ true → ⊥) → IsTrue (not b)
not_is true h = absurd (h refl)
not_is false h = refl
