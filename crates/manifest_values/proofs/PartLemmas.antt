-- Lists whose items are read in turn.
use Rattle.std.proofs.Common.{◌≡◌, ℕ, ◌+◌, List, [], ◌∷◌, ◌++◌, length, Ok, Err, refl, sym, ap, ◌∙◌, append_assoc, append-nil, arith}
use Rattle.manifest_values.specs.declared.refusal.Stop.{Stop}
use Rattle.manifest_values.specs.declared.refusal.Stop.TheVariants as stop
use Rattle.manifest_values.specs.Refusal.{Given, ◌>>=◌, each, fold, Fails}

-- the items so far before those that are to come
abbrev pub after : {B : Type 0} → List B → Given (List B) → Given (List B)
after out (Err e) = Err e
after out (Ok ys) = Ok (out ++ ys)

-- what all items give is what was read and then what is left
pub record Reads {A B : Type 0} (f : A → Given B) (all : List A) (out : List B) (left : List A) (count : ℕ) : Type 0 where
  pub goes_on : each f all ≡ after out (each f left)
  pub counted : count ≡ length left

after_nothing : {B : Type 0} (o : Given (List B)) → o ≡ after [] o
after_nothing (Err e) = refl
after_nothing (Ok ys) = refl

pub begins : {A B : Type 0} (f : A → Given B) (all : List A) (count : ℕ) (out : List B) → out ≡ [] → count ≡ length all → Reads f all out all count
begins f all count out none counted = record {
  goes_on = after_nothing (each f all) ∙ ap (λ o. after o (each f all)) (sym none);
  counted = counted;
}

after_one : {B : Type 0} (out : List B) (y : B) (o : Given (List B)) → after out (o >>= (λ ys. Ok (y ∷ ys))) ≡ after (out ++ y ∷ []) o
after_one out y (Err e) = refl
after_one out y (Ok ys) = ap Ok (sym (append_assoc out (y ∷ []) ys))

pub goes_next : {A B : Type 0} (f : A → Given B) (all : List A) (out new : List B) (left rest : List A) (count less : ℕ) (x : A) (y : B)
    → Reads f all out left count → left ≡ x ∷ rest → less + 1 ≡ count → f x ≡ Ok y → new ≡ out ++ y ∷ [] → Reads f all new rest less
goes_next {A} {B} f all out new left rest count less x y reads first fewer found pushed = record {
  goes_on =
      reads.goes_on ∙ ap (λ (l : List A). after out (each f l)) first
      ∙ ap (λ (o : Given B). after out (o >>= (λ z. each f rest >>= (λ ys. Ok (z ∷ ys))))) found
      ∙ after_one out y (each f rest) ∙ ap (λ (o : List B). after o (each f rest)) (sym pushed);
  counted =
      let was = reads.counted in
      let longer = ap length first in
      omega arith;
}

pub stops : {A B : Type 0} (f : A → Given B) (all xs : List A) (out : List B) (left rest : List A) (count : ℕ) (x : A) (e : Stop)
    → all ≡ xs → Reads f all out left count → left ≡ x ∷ rest → Fails e (f x) → Fails e (each f xs)
stops {A} {B} f all xs out left rest count x (stop.Refused r) same reads first refused =
    ap (each f) (sym same) ∙ reads.goes_on ∙ ap (λ (l : List A). after out (each f l)) first
    ∙ ap (λ (o : Given B). after out (o >>= (λ z. each f rest >>= (λ ys. Ok (z ∷ ys))))) refused
stops f all xs out left rest count x stop.Memory same reads first refused = tt

nothing_left : {A : Type 0} (l : List A) → length l ≡ 0 → l ≡ []
nothing_left [] h = refl
nothing_left (x ∷ xs) h = absurd (omega arith)

pub ends : {A B : Type 0} (f : A → Given B) (all xs : List A) (out : List B) (left : List A) (count : ℕ)
    → all ≡ xs → Reads f all out left count → count ≡ 0 → each f xs ≡ Ok out
ends {A} f all xs out left count same reads none =
    ap (each f) (sym same) ∙ reads.goes_on ∙ ap (λ (l : List A). after out (each f l)) (nothing_left left (sym reads.counted ∙ none))
    ∙ ap Ok (append-nil out)

-- what all items make of the first value is what those that are left make of this one
pub record Folds {A B : Type 0} (f : B → A → Given B) (first : B) (all : List A) (now : B) (left : List A) (count : ℕ) : Type 0 where
  pub goes_on : fold f first all ≡ fold f now left
  pub counted : count ≡ length left

pub fold_next : {A B : Type 0} (f : B → A → Given B) (first : B) (all : List A) (now new : B) (left rest : List A) (count less : ℕ) (x : A)
    → Folds f first all now left count → left ≡ x ∷ rest → less + 1 ≡ count → f now x ≡ Ok new → Folds f first all new rest less
fold_next {A} {B} f first all now new left rest count less x folds begun fewer found = record {
  goes_on =
      folds.goes_on ∙ ap (λ (l : List A). fold f now l) begun
      ∙ ap (λ (o : Given B). o >>= (λ c. fold f c rest)) found;
  counted =
      let was = folds.counted in
      let longer = ap length begun in
      omega arith;
}

pub fold_stops : {A B : Type 0} (f : B → A → Given B) (first : B) (all xs : List A) (now : B) (left rest : List A) (count : ℕ) (x : A) (e : Stop)
    → all ≡ xs → Folds f first all now left count → left ≡ x ∷ rest → Fails e (f now x) → Fails e (fold f first xs)
fold_stops {A} {B} f first all xs now left rest count x (stop.Refused r) same folds begun refused =
    ap (fold f first) (sym same) ∙ folds.goes_on ∙ ap (λ (l : List A). fold f now l) begun
    ∙ ap (λ (o : Given B). o >>= (λ c. fold f c rest)) refused
fold_stops f first all xs now left rest count x stop.Memory same folds begun refused = tt

pub fold_ends : {A B : Type 0} (f : B → A → Given B) (first : B) (all xs : List A) (now : B) (left : List A) (count : ℕ)
    → all ≡ xs → Folds f first all now left count → count ≡ 0 → fold f first xs ≡ Ok now
fold_ends {A} f first all xs now left count same folds none =
    ap (fold f first) (sym same) ∙ folds.goes_on ∙ ap (λ (l : List A). fold f now l) (nothing_left left (sym folds.counted ∙ none))
