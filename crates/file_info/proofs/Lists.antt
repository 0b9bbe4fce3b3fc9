-- Facts on lists: membership, look-ups by place, and images.
use Rattle.std.proofs.Common.{◌≡◌, ◌⊎◌, ◌<◌, ◌≤◌, ℕ, zero, suc, ◌+◌, Bool, true, false, List, [], ◌∷◌, ◌++◌, map, length, take, drop, get_or}
use Rattle.std.proofs.Common.{suc-add, zero-add, add-one, refl, inl, inr, ap, sym, subst, arith, ◌∙◌, eqb, eq-eqb, eqb-true}
use Rattle.std.specs.Prelude.{slice_get, Some, ◌&&◌, ◌||◌}
use Rattle.std.specs.List.{list_any}
use Rattle.std.proofs.lemmas.Option.{slice_get-get_or}
use Rattle.file_info.specs.Content.{same_list}
use Rattle.file_info.specs.Lists.{In, IsDistinct}

-- ---- membership

pub In-left : {A : Type 0} (x : A) (xs ys : List A) → In x xs → In x (xs ++ ys)
In-left x [] ys i = absurd i
In-left x (y ∷ xs) ys (inl e) = inl e
In-left x (y ∷ xs) ys (inr i) = inr (In-left x xs ys i)

pub In-right : {A : Type 0} (x : A) (xs ys : List A) → In x ys → In x (xs ++ ys)
In-right x [] ys i = i
In-right x (y ∷ xs) ys i = inr (In-right x xs ys i)

pub In-either : {A : Type 0} (x : A) (xs ys : List A) → In x (xs ++ ys) → In x xs ⊎ In x ys
In-either x [] ys i = inr i
In-either x (y ∷ xs) ys (inl e) = inl (inl e)
In-either x (y ∷ xs) ys (inr i) = elim (In-either x xs ys i) [ inl j ↦ inl (inr j) | inr j ↦ inr j ]

pub In-one : {A : Type 0} {x y : A} → In x (y ∷ []) → x ≡ y
In-one (inl e) = e
In-one (inr i) = absurd i

pub In-map : {A B : Type 0} (f : A → B) (x : A) (xs : List A) → In x xs → In (f x) (map f xs)
In-map f x [] i = absurd i
In-map f x (y ∷ xs) (inl e) = inl (ap f e)
In-map f x (y ∷ xs) (inr i) = inr (In-map f x xs i)

pub In-map-back : {A B : Type 0} (f : A → B) (y : B) (xs : List A) → In y (map f xs) → (x : A) × In x xs × (y ≡ f x)
In-map-back f y [] i = absurd i
In-map-back f y (x ∷ xs) (inl e) = (x, inl refl, e)
In-map-back f y (x ∷ xs) (inr i) = let (z, j, e) = In-map-back f y xs i in (z, inr j, e)

-- the place of one of the list
pub In-index : {A : Type 0} (x : A) (xs : List A) → In x xs → (k : ℕ) × (slice_get xs k ≡ Some x)
In-index x [] i = absurd i
In-index x (y ∷ xs) (inl e) = (zero, ap Some (sym e))
In-index x (y ∷ xs) (inr i) = let (k, e) = In-index x xs i in (suc k, e)

pub In-get : {A : Type 0} (xs : List A) (k : ℕ) (x : A) → slice_get xs k ≡ Some x → In x xs
In-get [] k x e = cc e
In-get (y ∷ ys) zero x e = inl (cc e)
In-get (y ∷ ys) (suc k) x e = inr (In-get ys k x e)

-- what stands at a place
pub In-at : {A : Type 0} (xs : List A) (k : ℕ) (d : A) → k < length xs → In (get_or xs k d) xs
In-at [] k d h = absurd (omega arith)
In-at (x ∷ xs) zero d h = inl refl
In-at (x ∷ xs) (suc k) d h = inr (In-at xs k d (omega arith))

pub In-take : {A : Type 0} (x : A) (n : ℕ) (xs : List A) → In x (take n xs) → In x xs
In-take x zero [] i = i
In-take x zero (y ∷ ys) i = absurd i
In-take x (suc n) [] i = i
In-take x (suc n) (y ∷ ys) (inl e) = inl e
In-take x (suc n) (y ∷ ys) (inr i) = inr (In-take x n ys i)

pub In-drop : {A : Type 0} (x : A) (n : ℕ) (xs : List A) → In x (drop n xs) → In x xs
In-drop x zero xs i = i
In-drop x (suc n) [] i = i
In-drop x (suc n) (y ∷ ys) i = inr (In-drop x n ys i)

drop-suc : {A : Type 0} (x : A) (n : ℕ) (xs : List A) → In x (drop (suc n) xs) → In x (drop n xs)
drop-suc x zero [] i = i
drop-suc x zero (y ∷ ys) i = inr i
drop-suc x (suc n) [] i = i
drop-suc x (suc n) (y ∷ ys) i = drop-suc x n ys i

pub In-drop-more : {A : Type 0} (x : A) (n : ℕ) (xs : List A) → In x (drop (n + 1) xs) → In x (drop n xs)
In-drop-more x n xs i = drop-suc x n xs (subst (λ (k : ℕ). In x (drop k xs)) (add-one n) i)

-- what stands at a place is among what is left where as many or fewer are dropped
pub In-drop-get : {A : Type 0} (xs : List A) (n k : ℕ) (x : A) → slice_get xs k ≡ Some x → n ≤ k → In x (drop n xs)
In-drop-get xs zero k x e h = In-get xs k x e
In-drop-get [] (suc n) k x e h = cc e
In-drop-get (y ∷ ys) (suc n) zero x e h = absurd (omega arith)
In-drop-get (y ∷ ys) (suc n) (suc k) x e h = In-drop-get ys n k x e (omega arith)

pub distinct-more : {A : Type 0} (xs : List A) (x : A) → IsDistinct xs → (In x xs → ⊥) → IsDistinct (xs ++ x ∷ [])
distinct-more [] x d new = (λ i. i, tt)
distinct-more (y ∷ ys) x d new = (λ i. none (In-either y ys (x ∷ []) i), distinct-more ys x d.1 (λ i. new (inr i)))
  where
    none : In y ys ⊎ In y (x ∷ []) → ⊥
    none (inl i) = d.0 i
    none (inr i) = new (inl (sym (In-one i)))

-- ---- equality

pub same_list-refl : (xs : List ℕ) → same_list xs xs ≡ true
same_list-refl [] = refl
same_list-refl (x ∷ xs) = rw (eq-eqb x x refl) (same_list-refl xs)

pub same_list-true : (xs ys : List ℕ) → same_list xs ys ≡ true → xs ≡ ys
same_list-true [] [] e = refl
same_list-true [] (y ∷ ys) e = cc e
same_list-true (x ∷ xs) [] e = cc e
same_list-true (x ∷ xs) (y ∷ ys) e = go (eqb x y) refl e (same_list-true xs ys)
  where
    go : (b : Bool) → eqb x y ≡ b → (b && same_list xs ys) ≡ true → (same_list xs ys ≡ true → xs ≡ ys) → x ∷ xs ≡ y ∷ ys
    go true h f ih = (let first : x ≡ y = eqb-true x y h in let rest : xs ≡ ys = ih f in cc)
    go false h f ih = cc f

-- ---- tests

-- one of the list passes
pub any-in : {A : Type 0} (p : A → Bool) (xs : List A) (x : A) → In x xs → p x ≡ true → list_any p xs ≡ true
any-in p [] x i e = absurd i
any-in p (y ∷ xs) x (inl same) e = ap (λ (b : Bool). b || list_any p xs) (ap p (sym same) ∙ e)
any-in p (y ∷ xs) x (inr i) e = right (p y) (any-in p xs x i e)
  where
    right : (b : Bool) → list_any p xs ≡ true → (b || list_any p xs) ≡ true
    right true h = refl
    right false h = h

pub any-some : {A : Type 0} (p : A → Bool) (xs : List A) → list_any p xs ≡ true → (x : A) × In x xs × (p x ≡ true)
any-some p [] e = cc e
any-some {A} p (x ∷ xs) e = go (p x) refl e (any-some p xs)
  where
    go : (b : Bool) → p x ≡ b → (b || list_any p xs) ≡ true → (list_any p xs ≡ true → (y : A) × In y xs × (p y ≡ true))
        → (y : A) × In y (x ∷ xs) × (p y ≡ true)
    go true h f more = (x, inl refl, h)
    go false h f more = let (y, i, g) = more f in (y, inr i, g)

-- ---- look-ups

pub get-map : {A B : Type 0} (f : A → B) (xs : List A) (k : ℕ) (x : A) → slice_get xs k ≡ Some x → slice_get (map f xs) k ≡ Some (f x)
get-map f [] k x e = cc e
get-map f (y ∷ xs) zero x e = let same : y ≡ x = cc e in ap (λ z. Some (f z)) same
get-map f (y ∷ xs) (suc k) x e = get-map f xs k x e

-- what is looked up among the images is the image of what stands there
pub get-map-back : {A B : Type 0} (f : A → B) (xs : List A) (k : ℕ) (y : B) → slice_get (map f xs) k ≡ Some y
    → (x : A) × ((slice_get xs k ≡ Some x) × (f x ≡ y))
get-map-back f [] k y e = cc e
get-map-back f (x ∷ xs) zero y e = (x, (refl, cc e))
get-map-back f (x ∷ xs) (suc k) y e = get-map-back f xs k y e

pub get-append : {A : Type 0} (xs ys : List A) (k : ℕ) (x : A) → slice_get xs k ≡ Some x → slice_get (xs ++ ys) k ≡ Some x
get-append [] ys k x e = cc e
get-append (z ∷ zs) ys zero x e = e
get-append (z ∷ zs) ys (suc k) x e = get-append zs ys k x e

-- the last one
pub get-last : {A : Type 0} (xs : List A) (x : A) → slice_get (xs ++ x ∷ []) (length xs) ≡ Some x
get-last [] x = refl
get-last (y ∷ xs) x = get-last xs x

pub get-take : {A : Type 0} (xs : List A) (n k : ℕ) (x : A) → slice_get (take n xs) k ≡ Some x → (slice_get xs k ≡ Some x) × (k < n)
get-take [] zero k x e = cc e
get-take [] (suc n) k x e = cc e
get-take (y ∷ ys) zero k x e = cc e
get-take (y ∷ ys) (suc n) zero x e = (e, omega arith)
get-take (y ∷ ys) (suc n) (suc k) x e = (let r = get-take ys n k x e in (r.0, (let l = r.1 in omega arith)))

pub get-drop : {A : Type 0} (xs : List A) (n j : ℕ) (x : A) → slice_get (drop n xs) j ≡ Some x → slice_get xs (n + j) ≡ Some x
get-drop xs zero j x e = rw zero-add e
get-drop [] (suc n) j x e = cc e
get-drop (y ∷ ys) (suc n) j x e = rw suc-add (get-drop ys n j x e)

-- what is read at a place within the list stands there
pub get-read : {A : Type 0} (xs : List A) (k : ℕ) (d x : A) → get_or xs k d ≡ x → k < length xs → slice_get xs k ≡ Some x
get-read xs k d x e h = slice_get-get_or xs k d h ∙ ap Some e

-- a list is what stands before a place, what stands there, and what stands after it
pub take-drop-get : {A : Type 0} (xs : List A) (k : ℕ) (x : A) → slice_get xs k ≡ Some x → xs ≡ take k xs ++ x ∷ drop (k + 1) xs
take-drop-get [] k x e = cc e
take-drop-get (y ∷ ys) zero x e = (let same : y ≡ x = cc e in ap (λ z. z ∷ ys) same)
take-drop-get (y ∷ ys) (suc k) x e = let rest = take-drop-get ys k x e in rw suc-add (ap (λ (zs : List _). y ∷ zs) rest)

pub take-drop : {A : Type 0} (xs : List A) (k : ℕ) (x : A) → x ≡ get_or xs k x → k < length xs → xs ≡ take k xs ++ x ∷ drop (k + 1) xs
take-drop xs k x e h = take-drop-get xs k x (get-read xs k x x (sym e) h)

-- ---- images

pub map-same : {A B : Type 0} (f g : A → B) (xs : List A) → ((x : A) → In x xs → f x ≡ g x) → map f xs ≡ map g xs
map-same f g [] e = refl
map-same f g (x ∷ xs) e = ap (λ (y : _). y ∷ map f xs) (e x (inl refl)) ∙ ap (λ (ys : List _). g x ∷ ys) (map-same f g xs (λ y i. e y (inr i)))
