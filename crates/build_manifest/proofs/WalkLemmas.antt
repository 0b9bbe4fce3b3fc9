-- A walk over a list whose items are noted.
use Rattle.std.proofs.Common.{◌≡◌, ℕ, ◌+◌, ◌<◌, true, ◌&&◌, cond, List, [], ◌∷◌, ◌++◌, length, drop, take, get_or, map, Option, Some, None, sym, ap, ◌∙◌}
use Rattle.std.specs.Prelude.{bytes_eq}
use Rattle.std.specs.Option.{option_or, is_none}
use Rattle.std.proofs.lemmas.List.{at_drop_more, take_more}
use Rattle.build_manifest.specs.Distinct.{are_new}
use Rattle.build_manifest.proofs.NewLemmas.{new_first, noted_new, first_free}
use Rattle.build_manifest.proofs.SameLemmas.{bytes_swap, same_bytes}

-- a test of what is left of a list, one item on
pub left_next : {X Y : Type 0} (F : List X → Y) (xs : List X) (i : ℕ) (x : X) → i < length xs → x ≡ get_or xs i x → F (drop i xs) ≡ F (x ∷ drop (i + 1) xs)
left_next {X} F xs i x h e = at_drop_more F xs i x h ∙ ap (λ (y : X). F (y ∷ drop (i + 1) xs)) (sym e)

-- one more of the first items of a list
pub first_next : {X : Type 0} (xs : List X) (i : ℕ) (x : X) → i < length xs → x ≡ get_or xs i x → take (i + 1) xs ≡ take i xs ++ x ∷ []
first_next {X} xs i x h e = take_more xs i x h ∙ ap (λ (y : X). take i xs ++ y ∷ []) (sym e)

-- a name that is new has no place, each name handed on as a text
pub name_free : {X : Type 0} (name : X → List ℕ) (xs : List X) (i : ℕ) (x : X) (text : List ℕ) (place : List ℕ → Option ℕ) → i < length xs → x ≡ get_or xs i x
    → text ≡ name x → true ≡ are_new bytes_eq place (map name (drop i xs)) → place text ≡ None
name_free name xs i x text place h e same before =
    ap place same
    ∙ first_free bytes_eq place (name x) (map name (drop (i + 1) xs)) (before ∙ left_next (λ l. are_new bytes_eq place (map name l)) xs i x h e)

-- the others get their places one by one
pub name_noted : {X : Type 0} (name : X → List ℕ) (xs : List X) (i : ℕ) (x : X) (text : List ℕ) (place now : List ℕ → Option ℕ) → i < length xs → x ≡ get_or xs i x
    → text ≡ name x → true ≡ are_new bytes_eq place (map name (drop i xs)) → ((q : List ℕ) → now q ≡ cond (bytes_eq q text) (Some i) (place q))
    → (q : List ℕ) → now q ≡ option_or (place q) (cond (bytes_eq q (name x)) (Some i) None)
name_noted name xs i x text place now h e same before noted q =
    noted_new bytes_eq same_bytes place now text i (name_free name xs i x text place h e same before) noted q
    ∙ ap (λ (t : List ℕ). option_or (place q) (cond (bytes_eq q t) (Some i) None)) same

-- and the names that are left are new
pub names_next : {X : Type 0} (name : X → List ℕ) (xs : List X) (i : ℕ) (x : X) (text : List ℕ) (place now : List ℕ → Option ℕ) → i < length xs → x ≡ get_or xs i x
    → text ≡ name x → true ≡ are_new bytes_eq place (map name (drop i xs)) → ((q : List ℕ) → now q ≡ cond (bytes_eq q text) (Some i) (place q))
    → true ≡ are_new bytes_eq now (map name (drop (i + 1) xs))
names_next name xs i x text place now h e same before noted =
    before ∙ left_next (λ l. are_new bytes_eq place (map name l)) xs i x h e
    ∙ new_first bytes_eq bytes_swap place now (name x) i (name_noted name xs i x text place now h e same before noted) (map name (drop (i + 1) xs))
    ∙ ap (λ (o : Option ℕ). is_none o && are_new bytes_eq now (map name (drop (i + 1) xs))) (ap place (sym same) ∙ name_free name xs i x text place h e same before)
