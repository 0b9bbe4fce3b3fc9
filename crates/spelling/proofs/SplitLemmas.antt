-- A text begins with one spelling of its kind at most, among those below 2^32 bytes.
use Rattle.std.specs.Prelude.{◌≡◌, ◌<◌, ◌≤◌, ◌^◌, ℕ, Bool, true, false, List, [], ◌∷◌, ◌++◌, length}
use Rattle.std.specs.Int.{w32, to_be_bytes, from_be_bytes}
use Rattle.std.proofs.Common.{sym, ◌∙◌, ap, refl, arith, append_assoc, append-nil, length-append}
use Rattle.std.proofs.lemmas.Nat.{from_be_bytes-to_be_bytes_4}
use Rattle.file_info.specs.declared.node.NodeName.{NodeName}
use Rattle.file_info.specs.declared.node.NodeName.TheVariants.{Path, Virtual}
use Rattle.spelling.specs.Spelling.{count_bytes, flag_bytes, text_bytes, items_bytes, list_bytes, node_bytes}
use Rattle.spelling.specs.Splits.{Same, Splits, Left}

-- parts of equal length
pub even-parts : (a b r s : List ℕ) → length a ≡ length b → a ++ r ≡ b ++ s → Same a b r s
even-parts [] [] r s n e = record { first = refl; rest = e }
even-parts [] (y ∷ b) r s n e = absurd (omega arith)
even-parts (x ∷ a) [] r s n e = absurd (omega arith)
even-parts (x ∷ a) (y ∷ b) r s n e =
    let head : x ≡ y = cc e in
    let tail : a ++ r ≡ b ++ s = cc e in
    let same = even-parts a b r s (omega arith) tail in
    record { first = cc (head, same.first); rest = same.rest }

pub count-length : (n : ℕ) → length (count_bytes n) ≡ 4
unfolding count_bytes
count-length n = refl

pub count-splits : (m n : ℕ) (r s : List ℕ) → m < 2 ^ 32 → n < 2 ^ 32 → count_bytes m ++ r ≡ count_bytes n ++ s → Same m n r s
unfolding count_bytes
count-splits m n r s h k e =
    let same = even-parts (to_be_bytes w32 m) (to_be_bytes w32 n) r s refl e in
    record {
      first = sym (from_be_bytes-to_be_bytes_4 m h) ∙ ap (from_be_bytes w32) same.first ∙ from_be_bytes-to_be_bytes_4 n k;
      rest = same.rest;
    }

-- where one text begins with the spellings of two texts, they are the same, since their lengths fit the count
pub text-once : (t u r s : List ℕ) → length t < 2 ^ 32 → length u < 2 ^ 32 → text_bytes t ++ r ≡ text_bytes u ++ s → Same t u r s
text-once t u r s h k e =
    let counts = count-splits (length t) (length u) (t ++ r) (u ++ s) h k
    (sym (append_assoc (count_bytes (length t)) t r) ∙ e ∙ append_assoc (count_bytes (length u)) u s) in
    even-parts t u r s counts.first counts.rest

pub text-splits : Splits text_bytes
text-splits = record {
  some = λ t. omega (arith, length-append (count_bytes (length t)) t, count-length (length t));
  once = λ t u r s h k e.
      let long = length-append (count_bytes (length t)) t in
      let long' = length-append (count_bytes (length u)) u in
      text-once t u r s (omega arith) (omega arith) e;
}

-- as many bytes as items, at least
pub items-some : {A : Type 0} (f : A → List ℕ) → Splits f → (xs : List A) → length xs ≤ length (items_bytes f xs)
items-some f p [] = omega arith
items-some f p (x ∷ xs) = omega (arith, p.some x, items-some f p xs, length-append (f x) (items_bytes f xs))

pub items-split : {A : Type 0} (f : A → List ℕ) → Splits f → (xs ys : List A) (r s : List ℕ) → length xs ≡ length ys
    → length (items_bytes f xs) < 2 ^ 32 → length (items_bytes f ys) < 2 ^ 32 → items_bytes f xs ++ r ≡ items_bytes f ys ++ s → Same xs ys r s
items-split f p [] [] r s n h k e = record { first = refl; rest = e }
items-split f p [] (y ∷ ys) r s n h k e = absurd (omega arith)
items-split f p (x ∷ xs) [] r s n h k e = absurd (omega arith)
items-split f p (x ∷ xs) (y ∷ ys) r s n h k e =
    let long = length-append (f x) (items_bytes f xs) in
    let long' = length-append (f y) (items_bytes f ys) in
    let head = p.once x y (items_bytes f xs ++ r) (items_bytes f ys ++ s) (omega arith) (omega arith)
    (sym (append_assoc (f x) (items_bytes f xs) r) ∙ e ∙ append_assoc (f y) (items_bytes f ys) s) in
    let tail = items-split f p xs ys r s (omega arith) (omega arith) (omega arith) head.rest in
    record { first = cc (head.first, tail.first); rest = tail.rest }

pub list-splits : {A : Type 0} (f : A → List ℕ) → Splits f → Splits (list_bytes f)
list-splits f p = record {
  some = λ xs. omega (arith, length-append (count_bytes (length xs)) (items_bytes f xs), count-length (length xs));
  once = λ xs ys r s h k e.
      let long = length-append (count_bytes (length xs)) (items_bytes f xs) in
      let long' = length-append (count_bytes (length ys)) (items_bytes f ys) in
      let many = items-some f p xs in
      let many' = items-some f p ys in
      let four = count-length (length xs) in
      let four' = count-length (length ys) in
      let counts = count-splits (length xs) (length ys) (items_bytes f xs ++ r) (items_bytes f ys ++ s) (omega arith) (omega arith)
      (sym (append_assoc (count_bytes (length xs)) (items_bytes f xs) r) ∙ e ∙ append_assoc (count_bytes (length ys)) (items_bytes f ys) s) in
      items-split f p xs ys r s counts.first (omega arith) (omega arith) counts.rest;
}

pub node-splits : Splits node_bytes
node-splits = record { some = some-node; once = once-node }
  where
    some-node : (x : NodeName) → 1 ≤ length (node_bytes x)
    some-node (Path p) = omega arith
    some-node (Virtual n) = omega arith

    once-node : (x y : NodeName) (r s : List ℕ) → length (node_bytes x) < 2 ^ 32 → length (node_bytes y) < 2 ^ 32
        → node_bytes x ++ r ≡ node_bytes y ++ s → Same x y r s
    once-node (Path p) (Path q) r s h k e =
        let rest : text_bytes p ++ r ≡ text_bytes q ++ s = cc e in
        let same = text-splits.once p q r s (omega arith) (omega arith) rest in
        record { first = ap Path same.first; rest = same.rest }
    once-node (Virtual p) (Virtual q) r s h k e =
        let rest : text_bytes p ++ r ≡ text_bytes q ++ s = cc e in
        let same = text-splits.once p q r s (omega arith) (omega arith) rest in
        record { first = ap Virtual same.first; rest = same.rest }
    once-node (Path p) (Virtual q) r s h k e = cc e
    once-node (Virtual p) (Path q) r s h k e = cc e

-- one spelling after another
pub both-split : {A B : Type 0} (f : A → List ℕ) (g : B → List ℕ) → Splits f → Splits g → (x y : A) (u v : B) (r s : List ℕ)
    → length (f x ++ g u) < 2 ^ 32 → length (f y ++ g v) < 2 ^ 32 → (f x ++ g u) ++ r ≡ (f y ++ g v) ++ s
    → Same x y (g u ++ r) (g v ++ s) × Same u v r s
both-split f g p q x y u v r s h k e =
    let long = length-append (f x) (g u) in
    let long' = length-append (f y) (g v) in
    let head = p.once x y (g u ++ r) (g v ++ s) (omega arith) (omega arith) (sym (append_assoc (f x) (g u) r) ∙ e ∙ append_assoc (f y) (g v) s) in
    (head, q.once u v r s (omega arith) (omega arith) head.rest)

pub texts-split : Splits (list_bytes text_bytes)
texts-split = list-splits text_bytes text-splits

pub flag-splits : Splits flag_bytes
flag-splits = record { some = some-flag; once = once-flag }
  where
    some-flag : (x : Bool) → 1 ≤ length (flag_bytes x)
    some-flag false = omega arith
    some-flag true = omega arith

    once-flag : (x y : Bool) (r s : List ℕ) → length (flag_bytes x) < 2 ^ 32 → length (flag_bytes y) < 2 ^ 32
        → flag_bytes x ++ r ≡ flag_bytes y ++ s → Same x y r s
    once-flag false false r s h k e = record { first = refl; rest = cc e }
    once-flag true true r s h k e = record { first = refl; rest = cc e }
    once-flag false true r s h k e = cc e
    once-flag true false r s h k e = cc e

-- what is left when the first spelling is taken off
pub left-of : {A : Type 0} (f : A → List ℕ) → Splits f → (x y : A) (r s : List ℕ) → length (f x ++ r) < 2 ^ 32 → f x ++ r ≡ f y ++ s
    → Left x y r s
left-of f p x y r s h e =
    let long = length-append (f x) r in
    let long' = length-append (f y) s in
    let even = ap length e in
    let same = p.once x y r s (omega arith) (omega arith) e in
    record { first = same.first; rest = same.rest; short = omega arith }

-- the same where nothing follows
pub last-of : {A : Type 0} (f : A → List ℕ) → Splits f → (x y : A) → length (f x) < 2 ^ 32 → f x ≡ f y → x ≡ y
last-of f p x y h e =
    let even = ap length e in
    let same = p.once x y [] [] h (omega arith) (append-nil (f x) ∙ e ∙ sym (append-nil (f y))) in
    same.first
