-- Items that are noted one by one, where none is noted twice.
use Rattle.std.proofs.Common.{◌≡◌, ℕ, Bool, true, false, not, ◌&&◌, ◌||◌, cond, List, [], ◌∷◌, Option, Some, None, refl, sym, ap, ◌∙◌, rules}
use Rattle.std.specs.List.{list_any}
use Rattle.std.specs.Option.{option_or, is_none}
use Rattle.build_manifest.specs.Distinct.{differ, are_new}

shuffle : (s t a b r : Bool) → ((a && not s) && b && (not t && r)) ≡ (not (s || t) && (a && b && r))
shuffle true true true true r = refl
shuffle true true true false r = refl
shuffle true true false b r = refl
shuffle true false true true r = refl
shuffle true false true false r = refl
shuffle true false false b r = refl
shuffle false true true true r = refl
shuffle false true true false r = refl
shuffle false true false b r = refl
shuffle false false true true r = refl
shuffle false false true false r = refl
shuffle false false false b r = refl

none_now : (o : Option ℕ) (s : Bool) (n : ℕ) → is_none (option_or o (cond s (Some n) None)) ≡ (is_none o && not s)
none_now None true n = refl
none_now None false n = refl
none_now (Some x) s n = refl

-- what is new once one item more has a place
pub new_beside : {A : Type 0} (same : A → A → Bool) (swap : (p q : A) → same p q ≡ same q p) (place now : A → Option ℕ) (x : A) (n : ℕ)
    → ((q : A) → now q ≡ option_or (place q) (cond (same q x) (Some n) None)) → (ys : List A)
    → are_new same now ys ≡ (not (list_any (same x) ys) && are_new same place ys)
new_beside same swap place now x n noted [] = refl
new_beside same swap place now x n noted (y ∷ ys) =
    ap (λ (r : Bool). is_none (now y) && not (list_any (same y) ys) && r) (new_beside same swap place now x n noted ys)
    ∙ ap (λ (o : Option ℕ). is_none o && not (list_any (same y) ys) && (not (list_any (same x) ys) && are_new same place ys)) (noted y)
    ∙ ap (λ (a : Bool). a && not (list_any (same y) ys) && (not (list_any (same x) ys) && are_new same place ys)) (none_now (place y) (same y x) n)
    ∙ ap (λ (s : Bool). is_none (place y) && not s && not (list_any (same y) ys) && (not (list_any (same x) ys) && are_new same place ys)) (swap y x)
    ∙ shuffle (same x y) (list_any (same x) ys) (is_none (place y)) (not (list_any (same y) ys)) (are_new same place ys)

and_assoc : (a b c : Bool) → (a && b && c) ≡ (a && (b && c))
and_assoc true b c = refl
and_assoc false b c = refl

-- one item, and then those that are new beside it
pub new_first : {A : Type 0} (same : A → A → Bool) (swap : (p q : A) → same p q ≡ same q p) (place now : A → Option ℕ) (x : A) (n : ℕ)
    → ((q : A) → now q ≡ option_or (place q) (cond (same q x) (Some n) None)) → (ys : List A)
    → are_new same place (x ∷ ys) ≡ (is_none (place x) && are_new same now ys)
new_first same swap place now x n noted ys =
    and_assoc (is_none (place x)) (not (list_any (same x) ys)) (are_new same place ys)
    ∙ ap (λ (r : Bool). is_none (place x) && r) (sym (new_beside same swap place now x n noted ys))

pub or_nothing : (o : Option ℕ) → option_or o None ≡ o
or_nothing None = refl
or_nothing (Some x) = refl

-- where nothing has a place, the items have only to differ
pub new_at_first : {A : Type 0} (same : A → A → Bool) (place : A → Option ℕ) → ((q : A) → place q ≡ None) → (xs : List A)
    → differ same xs ≡ are_new same place xs
new_at_first same place none [] = refl
new_at_first same place none (x ∷ xs) =
    ap (λ (r : Bool). not (list_any (same x) xs) && r) (new_at_first same place none xs)
    ∙ ap (λ (o : Option ℕ). is_none o && not (list_any (same x) xs) && are_new same place xs) (sym (none x))

-- what has no place takes the one that is noted, and the others keep theirs
pub noted_new : {A : Type 0} (same : A → A → Bool) (equal : (p q : A) → same p q ≡ true → p ≡ q) (place now : A → Option ℕ) (x : A) (n : ℕ) → place x ≡ None
    → ((q : A) → now q ≡ cond (same q x) (Some n) (place q)) → (q : A) → now q ≡ option_or (place q) (cond (same q x) (Some n) None)
noted_new same equal place now x n free noted q = noted q ∙ go (same q x) refl
  where
    go : (b : Bool) → same q x ≡ b → cond b (Some n) (place q) ≡ option_or (place q) (cond b (Some n) None)
    go true e = ap (λ (o : Option ℕ). option_or o (Some n)) (sym (ap place (equal q x e) ∙ free))
    go false e = sym (or_nothing (place q))

-- the first of new items has no place
pub first_free : {A : Type 0} (same : A → A → Bool) (place : A → Option ℕ) (x : A) (xs : List A) → true ≡ are_new same place (x ∷ xs) → place x ≡ None
first_free same place x xs h = go (place x) h
  where
    go : (o : Option ℕ) → true ≡ (is_none o && not (list_any (same x) xs) && are_new same place xs) → o ≡ None
    go None e = refl
    go (Some y) e = absurd (search (rules))
