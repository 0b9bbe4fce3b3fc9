-- Lists: what is read is what was spelled, and nothing else.
use Rattle.std.proofs.Common.{◌≡◌, ℕ, zero, suc, List, [], ◌∷◌, ◌++◌, length, Some, refl, sym, ◌∙◌, ap, subst, append_assoc, append-nil}
use Rattle.spelling.specs.Spelling.{count_bytes, items_bytes, list_bytes}
use Rattle.build_keys.specs.Keys.{Each, AreItems}
use Rattle.build_keys.specs.Reading.{Reader, IsRead, Reads, count_at, items_from, list_at}
use Rattle.build_keys.proofs.OptionLemmas.{found, step, first-same, second-same}
use Rattle.build_keys.proofs.CountLemmas.{IsCount, count-reads}

-- one item more was read
pub items-more : {A : Type 0} (read : Reader A) (n m : ℕ) (before : List A) (bytes : List ℕ) (item : A) (rest : List ℕ) → m ≡ suc n → read bytes ≡ Some (item, rest)
    → items_from read m before bytes ≡ items_from read n (before ++ item ∷ []) rest
items-more read n m before bytes item rest e r = ap (λ k. items_from read k before bytes) e ∙ step (read bytes) _ (item, rest) r

one-more : {A : Type 0} (before : List A) (x : A) (xs : List A) → (before ++ x ∷ []) ++ xs ≡ before ++ x ∷ xs
one-more before x xs = append_assoc before (x ∷ []) xs

pub items-back : {A : Type 0} (spelled : A → List ℕ) (is : A → Type 0) (read : Reader A) → Reads spelled is read → (xs before : List A) (rest : List ℕ) → Each is xs
    → items_from read (length xs) before (items_bytes spelled xs ++ rest) ≡ Some (before ++ xs, rest)
items-back spelled is read r [] before rest h = ap (λ z. Some (z, rest)) (sym (append-nil before))
items-back spelled is read r (x ∷ xs) before rest h =
    let behind = items_bytes spelled xs ++ rest in
    ap (items_from read (suc (length xs)) before) (append_assoc (spelled x) (items_bytes spelled xs) rest)
    ∙ step (read (spelled x ++ behind)) _ (x, behind) (r.back x behind h.0)
    ∙ items-back spelled is read r xs (before ++ x ∷ []) rest h.1 ∙ ap (λ z. Some (z, rest)) (one-more before x xs)

-- items that were read after those that were found before
pub record AreRead {A : Type 0} (spelled : A → List ℕ) (is : A → Type 0) (n : ℕ) (before : List A) (bytes : List ℕ) (all : List A) (rest : List ℕ) : Type 0 where
  pub items : List A
  pub all_is : all ≡ before ++ items
  pub many : length items ≡ n
  pub whole : bytes ≡ items_bytes spelled items ++ rest
  pub each : Each is items

pub items-only : {A : Type 0} (spelled : A → List ℕ) (is : A → Type 0) (read : Reader A) → Reads spelled is read
    → (n : ℕ) (before : List A) (bytes : List ℕ) (all : List A) (rest : List ℕ) → items_from read n before bytes ≡ Some (all, rest)
    → AreRead spelled is n before bytes all rest
items-only spelled is read r zero before bytes all rest e =
    let one = first-same before all bytes rest e in
    let two = second-same before all bytes rest e in
    record { items = []; all_is = sym one ∙ sym (append-nil before); many = refl; whole = two; each = tt }
items-only spelled is read r (suc n) before bytes all rest e =
    let got = found (read bytes) _ (all, rest) e in
    let x = got.middle.0 in
    let behind = got.middle.1 in
    let one = r.only bytes x behind got.first_is in
    let more = items-only spelled is read r n (before ++ x ∷ []) behind all rest got.next_is in
    record {
      items = x ∷ more.items;
      all_is = more.all_is ∙ one-more before x more.items;
      many = ap suc more.many;
      whole = one.whole ∙ ap (λ z. spelled x ++ z) more.whole ∙ sym (append_assoc (spelled x) (items_bytes spelled more.items) rest);
      each = (one.has_one, more.each);
    }

list-back : {A : Type 0} (spelled : A → List ℕ) (is : A → Type 0) (read : Reader A) → Reads spelled is read → (xs : List A) (rest : List ℕ) → AreItems is xs
    → list_at read (list_bytes spelled xs ++ rest) ≡ Some (xs, rest)
unfolding list_at
list-back spelled is read r xs rest h =
    let n = length xs in
    let behind = items_bytes spelled xs ++ rest in
    ap (list_at read) (append_assoc (count_bytes n) (items_bytes spelled xs) rest)
    ∙ step (count_at (count_bytes n ++ behind)) _ (n, behind) (count-reads.back n behind h.few) ∙ items-back spelled is read r xs [] rest h.each

list-only : {A : Type 0} (spelled : A → List ℕ) (is : A → Type 0) (read : Reader A) → Reads spelled is read → (bytes : List ℕ) (xs : List A) (rest : List ℕ)
    → list_at read bytes ≡ Some (xs, rest) → IsRead (list_bytes spelled) (AreItems is) bytes xs rest
unfolding list_at
list-only spelled is read r bytes xs rest e =
    let got = found (count_at bytes) _ (xs, rest) e in
    let n = got.middle.0 in
    let count = count-reads.only bytes n got.middle.1 got.first_is in
    let all = items-only spelled is read r n [] got.middle.1 xs rest got.next_is in
    let same : all.items ≡ xs = sym all.all_is in
    let many : n ≡ length xs = sym all.many ∙ ap length same in
    record {
      whole = count.whole ∙ ap (λ z. count_bytes n ++ z) (all.whole ∙ ap (λ z. items_bytes spelled z ++ rest) same)
          ∙ sym (append_assoc (count_bytes n) (items_bytes spelled xs) rest) ∙ ap (λ z. count_bytes z ++ items_bytes spelled xs ++ rest) many;
      has_one = record {
        each = let P : List _ → Type 0 = Each is in subst P same all.each;
        few = let P : ℕ → Type 0 = IsCount in subst P many count.has_one;
      };
    }

pub list-reads : {A : Type 0} (spelled : A → List ℕ) (is : A → Type 0) (read : Reader A) → Reads spelled is read
    → Reads (list_bytes spelled) (AreItems is) (list_at read)
list-reads spelled is read r = record { back = list-back spelled is read r; only = list-only spelled is read r }
