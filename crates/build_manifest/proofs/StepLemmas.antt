-- One more item of a list that is walked.
use Rattle.std.proofs.Common.{◌≡◌, ℕ, ◌+◌, ◌<◌, suc, Bool, true, false, cond, ◌||◌, List, [], ◌∷◌, ◌++◌, length, take, get_or, position, Option, None, Some, IfSome, refl, sym, ap, ◌∙◌, arith}
use Rattle.std.proofs.lemmas.Grind.{common_steps}
use Rattle.std.proofs.lemmas.Bool.Decides.{nat_tests}
use Rattle.std.proofs.lemmas.List.Folds.{list_any-append}
use Rattle.std.specs.List.{list_any}
use Rattle.std.specs.Option.{option_or, option_map}

-- a place that is found lies in the list
pub position_within : {X : Type 0} (p : X → Bool) (xs : List X) (r : Option ℕ) → r ≡ position p xs → IfSome r (λ i. i < length xs)
position_within p xs r h = grind (arith, common_steps, nat_tests)

-- the place in a longer list
pub position_cons : {X : Type 0} (p : X → Bool) (x : X) (xs : List X) → position p (x ∷ xs) ≡ cond (p x) (Some 0) (option_map suc (position p xs))
position_cons p x xs = grind (arith, common_steps, nat_tests)

-- one place further on
shifted : (c : Bool) (o : Option ℕ) (b : Bool) (n : ℕ) → cond c (Some 0) (option_map suc (option_or o (cond b (Some n) None))) ≡ option_or (cond c (Some 0) (option_map suc o)) (cond b (Some (suc n)) None)
shifted true o b n = refl
shifted false None true n = refl
shifted false None false n = refl
shifted false (Some x) b n = refl

-- one item more at the end is found where none before it is
pub position_push : {X : Type 0} (p : X → Bool) (xs : List X) (y : X) → position p (xs ++ y ∷ []) ≡ option_or (position p xs) (cond (p y) (Some (length xs)) None)
position_push p [] y = grind (arith, common_steps, nat_tests)
position_push p (x ∷ xs) y =
    position_cons p x (xs ++ y ∷ []) ∙ ap (λ o. cond (p x) (Some 0) (option_map suc o)) (position_push p xs y)
    ∙ shifted (p x) (position p xs) (p y) (length xs) ∙ ap (λ o. option_or o (cond (p y) (Some (suc (length xs))) None)) (sym (position_cons p x xs))

-- the same of the first items of a list
pub position_next : {X : Type 0} (p : X → Bool) (xs : List X) (i : ℕ) (x : X) → i < length xs → x ≡ get_or xs i x
    → position p (take (i + 1) xs) ≡ option_or (position p (take i xs)) (cond (p x) (Some i) None)
position_next p xs i x h e = grind (arith, common_steps, position_push p (take i xs) x)

-- whether an item of the first ones passes a test
pub list_any_next : {X : Type 0} (p : X → Bool) (xs : List X) (i : ℕ) (x : X) → i < length xs → x ≡ get_or xs i x
    → list_any p (take (i + 1) xs) ≡ (list_any p (take i xs) || p x)
list_any_next p xs i x h e = grind (arith, common_steps, list_any-append)

-- what was there first stays, and one value comes at two chances
pub option_or_cond : (o : Option ℕ) (a b : Bool) (w : ℕ) → option_or (option_or o (cond a (Some w) None)) (cond b (Some w) None) ≡ option_or o (cond (a || b) (Some w) None)
option_or_cond None true b w = refl
option_or_cond None false b w = refl
option_or_cond (Some x) a b w = refl
