-- Places in lists that grow by one item.
use Rattle.std.proofs.Common.{◌≡◌, ℕ, suc, Bool, true, false, cond, List, [], ◌∷◌, ◌++◌, length, position, Option, None, Some, refl, sym, ap, ◌∙◌, arith}
use Rattle.std.proofs.lemmas.Grind.{common_steps}
use Rattle.std.proofs.lemmas.Bool.Decides.{nat_tests}
use Rattle.std.specs.Option.{option_or, option_map}

-- the place in a longer list
pub position_cons : {X : Type 0} (p : X → Bool) (x : X) (xs : List X)
    → position p (x ∷ xs) ≡ cond (p x) (Some 0) (option_map suc (position p xs))
position_cons p x xs = grind (arith, common_steps, nat_tests)

-- one place further on
shifted : (c : Bool) (o : Option ℕ) (b : Bool) (n : ℕ)
    → cond c (Some 0) (option_map suc (option_or o (cond b (Some n) None)))
    ≡ option_or (cond c (Some 0) (option_map suc o)) (cond b (Some (suc n)) None)
shifted true o b n = refl
shifted false None true n = refl
shifted false None false n = refl
shifted false (Some x) b n = refl

-- one item more at the end is found where none before it is
pub position_push : {X : Type 0} (p : X → Bool) (xs : List X) (y : X)
    → position p (xs ++ y ∷ []) ≡ option_or (position p xs) (cond (p y) (Some (length xs)) None)
position_push p [] y = grind (arith, common_steps, nat_tests)
position_push p (x ∷ xs) y =
    position_cons p x (xs ++ y ∷ []) ∙ ap (λ o. cond (p x) (Some 0) (option_map suc o)) (position_push p xs y)
    ∙ shifted (p x) (position p xs) (p y) (length xs)
    ∙ ap (λ o. option_or o (cond (p y) (Some (suc (length xs))) None)) (sym (position_cons p x xs))
