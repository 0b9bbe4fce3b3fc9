-- Lists in which nothing stands twice.
use Rattle.std.specs.Prelude.{ℕ, Bool, true, ◌&&◌, not, List, [], ◌∷◌, Option}
use Rattle.std.specs.List.{list_any}
use Rattle.std.specs.Option.{is_none}

-- whether no item is the same as a later one
abbrev pub differ : {A : Type 0} → (A → A → Bool) → List A → Bool
differ same [] = true
differ same (x ∷ xs) = not (list_any (same x) xs) && differ same xs

-- whether the items differ, and none of them has a place so far
abbrev pub are_new : {A : Type 0} → (A → A → Bool) → (A → Option ℕ) → List A → Bool
are_new same place [] = true
are_new same place (x ∷ xs) = is_none (place x) && not (list_any (same x) xs) && are_new same place xs
