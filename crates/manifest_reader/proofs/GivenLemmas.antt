-- What holds of the parts where a reading gives a value.
use Rattle.std.proofs.Common.{◌≡◌, ◌≤◌, ℕ, ◌+◌, Bool, true, false, not, List, [], ◌∷◌, map, length, take, ltb, Option, None, Some, Ok, Err, inl, inr, refl, sym, subst, ap, ◌∙◌, arith}
use Rattle.std.proofs.lemmas.Bool.{ltb-false, not-true}
use Rattle.std.proofs.lemmas.List.{take_all}
use Rattle.file_info.specs.Lists.{In}
use Rattle.yaml_profile.specs.Weight.{total}
use Rattle.manifest_values.specs.declared.refusal.Refusal.{Refusal}
use Rattle.manifest_values.specs.Refusal.{Given, ◌>>=◌, given_if, given_or, each, each_within, fold}

-- each of two steps gives a value
pub both_given : {A B : Type 0} (g : Given A) (f : A → Given B) (y : B) → (g >>= f) ≡ Ok y → (x : A) × (g ≡ Ok x) × (f x ≡ Ok y)
both_given (Err r) f y e = cc e
both_given (Ok x) f y e = (x, refl, e)

-- the test holds, and the value is given
pub test_given : {A : Type 0} (b : Bool) (r : Refusal) (g : Given A) (y : A) → given_if b r g ≡ Ok y → (b ≡ true) × (g ≡ Ok y)
test_given true r g y e = (refl, e)
test_given false r g y e = cc e

-- the value is there
pub there_given : {A : Type 0} (r : Refusal) (o : Option A) (y : A) → given_or r o ≡ Ok y → o ≡ Some y
there_given r None y e = cc e
there_given r (Some x) y e = cc e

-- the value is there, and the next step gives one
pub found_given : {A B : Type 0} (r : Refusal) (o : Option A) (f : A → Given B) (y : B) → (given_or r o >>= f) ≡ Ok y
    → (x : A) × (o ≡ Some x) × (f x ≡ Ok y)
found_given r None f y e = cc e
found_given r (Some x) f y e = (x, refl, e)

-- the first item is read, and so are the others
record FirstRead {A B : Type 0} (f : A → Given B) (x : A) (xs : List A) (ys : List B) : Type 0 where
  first : B
  others : List B
  read : f x ≡ Ok first
  more : each f xs ≡ Ok others
  is : (first ∷ others) ≡ ys

first_read : {A B : Type 0} (f : A → Given B) (x : A) (xs : List A) (ys : List B) → each f (x ∷ xs) ≡ Ok ys → FirstRead f x xs ys
first_read f x xs ys e =
    let (first, read, rest) = both_given (f x) _ ys e in
    let (others, more, last) = both_given (each f xs) _ ys rest in
    record { first = first; others = others; read = read; more = more; is = cc last }

-- as many items as are read
pub each_length : {A B : Type 0} (f : A → Given B) (xs : List A) (ys : List B) → each f xs ≡ Ok ys → length ys ≡ length xs
each_length f [] ys e =
    let is : [] ≡ ys = cc e in
    subst (λ zs. length zs ≡ 0) is refl
each_length f (x ∷ xs) ys e =
    let r = first_read f x xs ys e in
    let rest = each_length f xs r.others r.more in
    subst (λ zs. length zs ≡ length (x ∷ xs)) r.is (omega arith)

-- each item comes of one that is read
pub each_given : {A B : Type 0} (f : A → Given B) (xs : List A) (ys : List B) → each f xs ≡ Ok ys → (y : B) → In y ys
    → (x : A) × In x xs × (f x ≡ Ok y)
each_given f [] ys e y i =
    let is : [] ≡ ys = cc e in
    absurd (subst (In y) (sym is) i)
each_given f (x ∷ xs) ys e y i =
    let r = first_read f x xs ys e in
    let found : In y (r.first ∷ r.others) = subst (In y) (sym r.is) i in
    elim found [
      | inl is ↦ (x, inl refl, subst (λ v. f x ≡ Ok v) (sym is) r.read)
      | inr after ↦ let (z, j, read) = each_given f xs r.others r.more y after in (z, inr j, read)
    ]

-- each item that is read gives one
pub each_read : {A B : Type 0} (f : A → Given B) (xs : List A) (ys : List B) → each f xs ≡ Ok ys → (x : A) → In x xs
    → (y : B) × In y ys × (f x ≡ Ok y)
each_read f [] ys e x i = absurd i
each_read f (x ∷ xs) ys e z i =
    let r = first_read f x xs ys e in
    elim i [
      | inl is ↦ (r.first, subst (In r.first) r.is (inl refl), ap f is ∙ r.read)
      | inr after ↦
          let (y, j, read) = each_read f xs r.others r.more z after in
          (y, subst (In y) r.is (inr j), read)
    ]

-- what each item keeps of the one that it comes of stands in the same order
pub each_same : {A B C : Type 0} (f : A → Given B) (of_read : A → C) (of_given : B → C) (xs : List A) (ys : List B)
    → ((x : A) (y : B) → In x xs → f x ≡ Ok y → of_given y ≡ of_read x) → each f xs ≡ Ok ys → map of_given ys ≡ map of_read xs
each_same f of_read of_given [] ys same e =
    let is : [] ≡ ys = cc e in
    ap (map of_given) (sym is)
each_same f of_read of_given (x ∷ xs) ys same e =
    let r = first_read f x xs ys e in
    let rest = each_same f of_read of_given xs r.others (λ z y i. same z y (inr i)) r.more in
    let head = same x r.first (inl refl) r.read in
    ap (map of_given) (sym r.is) ∙ (ap (λ c. c ∷ map of_given r.others) head ∙ ap (λ cs. of_read x ∷ cs) rest)

-- what the items weigh together where each weighs no more than the one that it comes of
pub each_total : {A B : Type 0} (f : A → Given B) (of_read : A → ℕ) (of_given : B → ℕ) (xs : List A) (ys : List B)
    → ((x : A) (y : B) → f x ≡ Ok y → of_given y ≤ of_read x) → each f xs ≡ Ok ys → total of_given ys ≤ total of_read xs
each_total f of_read of_given [] ys less e =
    let is : [] ≡ ys = cc e in
    subst (λ zs. total of_given zs ≤ 0) is (omega arith)
each_total f of_read of_given (x ∷ xs) ys less e =
    let r = first_read f x xs ys e in
    let rest = each_total f of_read of_given xs r.others less r.more in
    let head = less x r.first r.read in
    subst (λ zs. total of_given zs ≤ total of_read (x ∷ xs)) r.is (omega arith)

-- each item is read, and there are no more than the limit
pub within_given : {A B : Type 0} (limit : ℕ) (refusal : Refusal) (f : A → Given B) (xs : List A) (ys : List B)
    → each_within limit refusal f xs ≡ Ok ys
    → (each f xs ≡ Ok ys) × (length ys ≤ limit)
within_given limit refusal f xs ys e =
    let (zs, read, last) = both_given (each f (take limit xs)) _ ys e in
    let (test, same) = test_given (not (ltb limit (length xs))) refusal (Ok zs) ys last in
    let few : length xs ≤ limit = ltb-false limit (length xs) (not-true _ test) in
    let whole : each f xs ≡ Ok zs = subst (λ l. each f l ≡ Ok zs) (take_all limit xs few) read in
    let all : each f xs ≡ Ok ys = whole ∙ same in
    (all, omega (arith, each_length f xs ys all))

-- what each step keeps holds at the end
pub fold_keeps : {A B : Type 0} (P : B → Type 0) (f : B → A → Given B) (b : B) (xs : List A) (last : B)
    → ((c d : B) (x : A) → In x xs → P c → f c x ≡ Ok d → P d) → P b → fold f b xs ≡ Ok last → P last
fold_keeps P f b [] last step p e =
    let is : b ≡ last = cc e in
    subst P is p
fold_keeps P f b (x ∷ xs) last step p e =
    let (c, first, rest) = both_given (f b x) _ last e in
    fold_keeps P f c xs last (λ d g y i. step d g y (inr i)) (step b c x (inl refl) p first) rest

-- each item is taken by a step
pub fold_takes : {A B : Type 0} (f : B → A → Given B) (b : B) (xs : List A) (last : B) → fold f b xs ≡ Ok last → (x : A) → In x xs
    → (c : B) × (d : B) × (f c x ≡ Ok d)
fold_takes f b [] last e x i = absurd i
fold_takes f b (y ∷ xs) last e x i =
    let (c, first, rest) = both_given (f b y) _ last e in
    elim i [
      | inl is ↦ (b, c, ap (f b) is ∙ first)
      | inr after ↦ fold_takes f c xs last rest x after
    ]

-- where each step adds no more than the item weighs, all add no more than the items weigh together
pub fold_total : {A B : Type 0} (measure : B → ℕ) (of_item : A → ℕ) (f : B → A → Given B) (b : B) (xs : List A) (last : B)
    → ((c d : B) (x : A) → In x xs → f c x ≡ Ok d → measure d ≤ measure c + of_item x) → fold f b xs ≡ Ok last
    → measure last ≤ measure b + total of_item xs
fold_total measure of_item f b [] last step e =
    let is : b ≡ last = cc e in
    subst (λ c. measure c ≤ measure b + 0) is (omega arith)
fold_total measure of_item f b (x ∷ xs) last step e =
    let (c, first, rest) = both_given (f b x) _ last e in
    let after = fold_total measure of_item f c xs last (λ d g y i. step d g y (inr i)) rest in
    let head = step b c x (inl refl) first in
    omega arith
