-- Lists whose items are read one by one, where nothing comes once one of them has another shape.
use Rattle.std.proofs.Common.{◌≡◌, ℕ, ◌+◌, List, [], ◌∷◌, ◌++◌, length, Option, Some, None, refl, sym, ap, ◌∙◌, append_assoc, append-nil, arith}
use Rattle.yaml_profile.specs.declared.yaml.Yaml.{Yaml}
use Rattle.yaml_profile.specs.declared.yaml.Pair.{Pair}
use Rattle.build_manifest.specs.declared.command.EnvPair.{EnvPair}
use Rattle.manifest_values.specs.Shapes.{◌then◌, text_of, all_texts}
use Rattle.manifest_values.specs.Values.{variable_of, all_variables}

-- each item as `f` reads it, and nothing where one of them has another shape
abbrev pub each_shape : {A B : Type 0} → (A → Option B) → List A → Option (List B)
each_shape f [] = Some []
each_shape f (x ∷ xs) = f x then λ y. each_shape f xs then λ ys. Some (y ∷ ys)

pub all_texts_each : (xs : List Yaml) → all_texts xs ≡ each_shape text_of xs
all_texts_each [] = refl
all_texts_each (x ∷ xs) = ap (λ (o : Option (List (List ℕ))). text_of x then λ text. o then λ texts. Some (text ∷ texts)) (all_texts_each xs)

pub all_variables_each : (ps : List Pair) → all_variables ps ≡ each_shape variable_of ps
all_variables_each [] = refl
all_variables_each (p ∷ ps) = ap (λ (o : Option (List EnvPair)). variable_of p then λ v. o then λ vs. Some (v ∷ vs)) (all_variables_each ps)

-- the items so far before those that are to come
abbrev pub after : {B : Type 0} → List B → Option (List B) → Option (List B)
after out None = None
after out (Some ys) = Some (out ++ ys)

-- what is expected of all items is what was read and then what is left
pub record Shaped {A B : Type 0} (f : A → Option B) (all : List A) (out : List B) (left : List A) (count : ℕ) : Type 0 where
  pub goes_on : each_shape f all ≡ after out (each_shape f left)
  pub counted : count ≡ length left

after_nothing : {B : Type 0} (o : Option (List B)) → o ≡ after [] o
after_nothing None = refl
after_nothing (Some ys) = refl

pub begins : {A B : Type 0} (f : A → Option B) (all : List A) (count : ℕ) (out : List B) → out ≡ [] → count ≡ length all → Shaped f all out all count
begins f all count out none counted = record {
  goes_on = after_nothing (each_shape f all) ∙ ap (λ o. after o (each_shape f all)) (sym none);
  counted = counted;
}

after_one : {B : Type 0} (out : List B) (y : B) (o : Option (List B)) → after out (o then (λ ys. Some (y ∷ ys))) ≡ after (out ++ y ∷ []) o
after_one out y None = refl
after_one out y (Some ys) = ap Some (sym (append_assoc out (y ∷ []) ys))

pub goes_next : {A B : Type 0} (f : A → Option B) (all : List A) (out new : List B) (left rest : List A) (count less : ℕ) (x : A) (y : B)
    → Shaped f all out left count → left ≡ x ∷ rest → less + 1 ≡ count → f x ≡ Some y → new ≡ out ++ y ∷ [] → Shaped f all new rest less
goes_next {A} {B} f all out new left rest count less x y reads first fewer found pushed = record {
  goes_on =
      reads.goes_on ∙ ap (λ (l : List A). after out (each_shape f l)) first
      ∙ ap (λ (o : Option B). after out (o then (λ z. each_shape f rest then (λ ys. Some (z ∷ ys))))) found
      ∙ after_one out y (each_shape f rest) ∙ ap (λ (o : List B). after o (each_shape f rest)) (sym pushed);
  counted =
      let was = reads.counted in
      let longer = ap length first in
      omega arith;
}

pub stops : {A B : Type 0} (f : A → Option B) (all : List A) (out : List B) (left rest : List A) (count : ℕ) (x : A)
    → Shaped f all out left count → left ≡ x ∷ rest → f x ≡ None → each_shape f all ≡ None
stops {A} {B} f all out left rest count x reads first refused =
    reads.goes_on ∙ ap (λ (l : List A). after out (each_shape f l)) first
    ∙ ap (λ (o : Option B). after out (o then (λ z. each_shape f rest then (λ ys. Some (z ∷ ys))))) refused

nothing_left : {A : Type 0} (l : List A) → length l ≡ 0 → l ≡ []
nothing_left [] h = refl
nothing_left (x ∷ xs) h = absurd (omega arith)

pub ends : {A B : Type 0} (f : A → Option B) (all : List A) (out : List B) (left : List A) (count : ℕ)
    → Shaped f all out left count → count ≡ 0 → each_shape f all ≡ Some out
ends {A} f all out left count reads none =
    reads.goes_on ∙ ap (λ (l : List A). after out (each_shape f l)) (nothing_left left (sym reads.counted ∙ none)) ∙ ap Some (append-nil out)
