-- How items are spelled one after the other.
use Rattle.std.proofs.Common.{◌≡◌, ◌+◌, ◌<◌, ◌≤◌, ℕ, List, [], ◌∷◌, ◌++◌, map, length, take, get_or, refl, ap, sym, ◌∙◌, append_assoc, append-nil}
use Rattle.std.proofs.lemmas.List.{take_more, take_all, length-map}
use Rattle.spelling.specs.Spelling.{count_bytes, items_bytes, list_bytes}

pub items-append : {A : Type 0} (f : A → List ℕ) (xs ys : List A) → items_bytes f (xs ++ ys) ≡ items_bytes f xs ++ items_bytes f ys
items-append f [] ys = refl
items-append f (x ∷ xs) ys = ap (λ z. f x ++ z) (items-append f xs ys) ∙ sym (append_assoc (f x) (items_bytes f xs) (items_bytes f ys))

pub items-map : {A B : Type 0} (f : B → List ℕ) (g : A → B) (xs : List A) → items_bytes f (map g xs) ≡ items_bytes (λ x. f (g x)) xs
items-map f g [] = refl
items-map f g (x ∷ xs) = ap (λ z. f (g x) ++ z) (items-map f g xs)

-- a list of images is spelled by the spellings of the images
pub list-map : {A B : Type 0} (f : B → List ℕ) (g : A → B) (xs : List A) → list_bytes f (map g xs) ≡ list_bytes (λ x. f (g x)) xs
list-map f g xs =
    ap (λ n. count_bytes n ++ items_bytes f (map g xs)) (length-map xs g) ∙ ap (λ z. count_bytes (length xs) ++ z) (items-map f g xs)

items-take : {A : Type 0} (f : A → List ℕ) (xs : List A) (k : ℕ) (x : A) → k < length xs → x ≡ get_or xs k x
    → items_bytes f (take (k + 1) xs) ≡ items_bytes f (take k xs) ++ f x
items-take f xs k x h e =
    ap (items_bytes f) (take_more xs k x h) ∙ items-append f (take k xs) (get_or xs k x ∷ [])
    ∙ ap (λ z. items_bytes f (take k xs) ++ z) (append-nil (f (get_or xs k x)) ∙ ap f (sym e))

-- one item more was added
pub items-more : {A : Type 0} (f : A → List ℕ) (xs : List A) (k : ℕ) (x : A) (base out new : List ℕ) → k < length xs → x ≡ get_or xs k x
    → out ≡ base ++ items_bytes f (take k xs) → new ≡ out ++ f x → new ≡ base ++ items_bytes f (take (k + 1) xs)
items-more f xs k x base out new h e before after =
    after ∙ ap (λ z. z ++ f x) before ∙ append_assoc base (items_bytes f (take k xs)) (f x) ∙ ap (λ z. base ++ z) (sym (items-take f xs k x h e))

-- the count was added, and all items
pub list-whole : {A : Type 0} (f : A → List ℕ) (xs ys : List A) (k n : ℕ) (base counted out : List ℕ) → length xs ≤ k → xs ≡ ys → n ≡ length ys
    → counted ≡ base ++ count_bytes n → out ≡ counted ++ items_bytes f (take k xs) → out ≡ base ++ list_bytes f ys
list-whole f xs ys k n base counted out h same count before after =
    let items : items_bytes f (take k xs) ≡ items_bytes f ys = ap (items_bytes f) (take_all k xs h ∙ same) in
    after ∙ ap (λ z. z ++ items_bytes f (take k xs)) (before ∙ ap (λ i. base ++ count_bytes i) count)
    ∙ append_assoc base (count_bytes (length ys)) (items_bytes f (take k xs)) ∙ ap (λ z. base ++ (count_bytes (length ys) ++ z)) items

-- the count was added, and the images of all items
pub list-whole-map : {A B : Type 0} (f : B → List ℕ) (g : A → B) (xs ys : List A) (k n : ℕ) (base counted out : List ℕ) → length xs ≤ k → xs ≡ ys
    → n ≡ length ys → counted ≡ base ++ count_bytes n → out ≡ counted ++ items_bytes (λ x. f (g x)) (take k xs)
    → out ≡ base ++ list_bytes f (map g ys)
list-whole-map f g xs ys k n base counted out h same count before after =
    list-whole (λ x. f (g x)) xs ys k n base counted out h same count before after ∙ ap (λ z. base ++ z) (sym (list-map f g ys))
