-- The order of spellings is that of their parts, one after the other.
use Rattle.std.proofs.Common.{◌≡◌, ℕ, zero, suc, ◌+◌, ◌<◌, ◌^◌, Bool, true, false, List, [], ◌∷◌, ◌++◌, drop, get_or, length, refl, sym, ◌∙◌, ap}
use Rattle.std.proofs.Common.{arith, append-nil}
use Rattle.std.specs.declared.cmp.Ordering.{Ordering}
use Rattle.std.specs.declared.cmp.Ordering.TheVariants.{Less, Equal, Greater}
use Rattle.std.specs.Ordering.{nat_cmp, ordering_then, is_ne}
use Rattle.std.specs.Cmp.Lexicographic.{slice_cmp}
use Rattle.std.specs.Str.{is_utf8}
use Rattle.std.specs.Cmp.{IsTotalOrder}
use Rattle.std.proofs.lemmas.Cmp.{ranked, on_total, nat_list_cmp_total}
use Rattle.std.proofs.lemmas.Map.Lookups.{exact_bytes}
use Rattle.spelling.specs.Spelling.{count_bytes, text_bytes, items_bytes}
use Rattle.spelling.proofs.SplitLemmas.{count-length, count-splits, even-parts}
use Rattle.build_keys.specs.declared.key.Key.{Key}
use Rattle.build_keys.specs.Keys.{IsShort, Each, IsKey, key_bytes}
use Rattle.build_keys.specs.KeyOrder.{key_cmp}
use Rattle.build_keys.specs.Reading.{Reader, Reads, passing_at}
use Rattle.build_keys.proofs.OptionLemmas.{first-same}
use Rattle.build_keys.proofs.TextLemmas.{passing-reads}
use Rattle.build_keys.proofs.KeyLemmas.{key-alone}

abbrev cmp : List ℕ → List ℕ → Ordering
cmp = slice_cmp nat_cmp

next-cmp : (o p q r : Ordering) → (o ≡ Equal → p ≡ ordering_then q r) → ordering_then o p ≡ ordering_then (ordering_then o q) r
next-cmp Less p q r f = refl
next-cmp Equal p q r f = f refl
next-cmp Greater p q r f = refl

-- where neither list goes on after the other ends, the first difference decides
cmp-apart : (a b r s : List ℕ) → ((u v : List ℕ) → a ++ u ≡ b ++ v → a ≡ b) → cmp (a ++ r) (b ++ s) ≡ ordering_then (cmp a b) (cmp r s)
cmp-apart [] [] r s f = refl
cmp-apart [] (y ∷ b) r s f = let e = f (y ∷ b) [] (sym (append-nil (y ∷ b))) in cc e
cmp-apart (x ∷ a) [] r s f = let e = f [] (x ∷ a) (append-nil (x ∷ a)) in cc e
cmp-apart (x ∷ a) (y ∷ b) r s f =
    next-cmp (nat_cmp x y) (cmp (a ++ r) (b ++ s)) (cmp a b) (cmp r s)
    (λ e. let same : x ≡ y = ranked x y Equal (sym e) in cmp-apart a b r s (λ u v g. let whole = f u v (cc (same, g)) in cc whole))

even-cmp : (a b r s : List ℕ) → length a ≡ length b → cmp (a ++ r) (b ++ s) ≡ ordering_then (cmp a b) (cmp r s)
even-cmp a b r s n = cmp-apart a b r s (λ u v g. (even-parts a b u v n g).first)

counts-cmp : (m n : ℕ) (r s : List ℕ) → cmp (count_bytes m ++ r) (count_bytes n ++ s) ≡ ordering_then (cmp (count_bytes m) (count_bytes n)) (cmp r s)
counts-cmp m n r s = even-cmp (count_bytes m) (count_bytes n) r s (count-length m ∙ sym (count-length n))

then-stops : (o p : Ordering) → (o ≡ Equal → ⊥) → ordering_then o p ≡ o
then-stops Less p f = refl
then-stops Equal p f = absurd (f refl)
then-stops Greater p f = refl

-- counts that differ decide, and else what follows them does
pub counts-decide : (m n : ℕ) (x y r s : List ℕ) (o : Ordering) → x ≡ count_bytes m → y ≡ count_bytes n → o ≡ cmp x y → (o ≡ Equal → ⊥)
    → o ≡ cmp (count_bytes m ++ r) (count_bytes n ++ s)
counts-decide m n x y r s o e f g never =
    let counts : o ≡ cmp (count_bytes m) (count_bytes n) = g ∙ ap (λ z. cmp z y) e ∙ ap (cmp (count_bytes m)) f in
    sym (then-stops o (cmp r s) never) ∙ ap (λ z. ordering_then z (cmp r s)) counts ∙ sym (counts-cmp m n r s)

pub counts-equal : (m n : ℕ) (x y r s : List ℕ) (o p : Ordering) → x ≡ count_bytes m → y ≡ count_bytes n → o ≡ cmp x y → o ≡ Equal → p ≡ cmp r s
    → p ≡ cmp (count_bytes m ++ r) (count_bytes n ++ s)
counts-equal m n x y r s o p e f g h k =
    let counts : cmp (count_bytes m) (count_bytes n) ≡ Equal = sym (ap (cmp (count_bytes m)) f) ∙ sym (ap (λ z. cmp z y) e) ∙ sym g ∙ h in
    k ∙ sym (ap (λ z. ordering_then z (cmp r s)) counts) ∙ sym (counts-cmp m n r s)

-- counts of one spelling are equal
pub counts-same : (m n : ℕ) → m < 2 ^ 32 → n < 2 ^ 32 → cmp (count_bytes m) (count_bytes n) ≡ Equal → m ≡ n
counts-same m n h k e = (count-splits m n [] [] h k (ap (λ z. z ++ []) (exact_bytes (count_bytes m) (count_bytes n) e))).first

-- what is read from the front decides before what follows it
reads-cmp : {A : Type 0} (spelled : A → List ℕ) (is : A → Type 0) (read : Reader A) → Reads spelled is read → (x y : A) (r s : List ℕ) → is x → is y
    → cmp (spelled x ++ r) (spelled y ++ s) ≡ ordering_then (cmp (spelled x) (spelled y)) (cmp r s)
reads-cmp spelled is read reads x y r s h k =
    cmp-apart (spelled x) (spelled y) r s (λ u v g. ap spelled (first-same x y u v (sym (reads.back x u h) ∙ ap read g ∙ reads.back y v k)))

pub passing-cmp : (test : List ℕ → Bool) (x y r s : List ℕ) → IsShort test x → IsShort test y
    → cmp (text_bytes x ++ r) (text_bytes y ++ s) ≡ ordering_then (cmp (text_bytes x) (text_bytes y)) (cmp r s)
passing-cmp test x y r s h k = reads-cmp text_bytes (IsShort test) (passing_at test) (passing-reads test) x y r s h k

abbrev Items : ℕ → List (List ℕ) → List ℕ
Items k xs = items_bytes text_bytes (drop k xs)

-- the items from one place on decide by the item there, and then by those from the next place on
items-cmp : (a b : List (List ℕ)) (k : ℕ) (x y : List ℕ) → Each (IsShort is_utf8) a → Each (IsShort is_utf8) b → k < length a → k < length b
    → x ≡ get_or a k x → y ≡ get_or b k y → cmp (Items k a) (Items k b) ≡ ordering_then (cmp (text_bytes x) (text_bytes y)) (cmp (Items (suc k) a) (Items (suc k) b))
items-cmp [] b k x y h g m n e f = absurd (omega arith)
items-cmp (p ∷ a) [] k x y h g m n e f = absurd (omega arith)
items-cmp (p ∷ a) (q ∷ b) zero x y h g m n e f =
    passing-cmp is_utf8 p q (items_bytes text_bytes a) (items_bytes text_bytes b) h.0 g.0
    ∙ ap (λ z. ordering_then (cmp (text_bytes z) (text_bytes q)) (cmp (items_bytes text_bytes a) (items_bytes text_bytes b))) (sym e)
    ∙ ap (λ z. ordering_then (cmp (text_bytes x) (text_bytes z)) (cmp (items_bytes text_bytes a) (items_bytes text_bytes b))) (sym f)
items-cmp (p ∷ a) (q ∷ b) (suc k) x y h g m n e f = items-cmp a b k x y h.1 g.1 (omega arith) (omega arith) e f

-- items that differ decide
pub items-decide : (a b : List (List ℕ)) (k : ℕ) (x y u v : List ℕ) (o : Ordering) → Each (IsShort is_utf8) a → Each (IsShort is_utf8) b → k < length a → k < length b
    → x ≡ get_or a k x → y ≡ get_or b k y → u ≡ x → v ≡ y → o ≡ cmp (text_bytes u) (text_bytes v) → (o ≡ Equal → ⊥) → o ≡ cmp (Items k a) (Items k b)
items-decide a b k x y u v o h g m n e f s t p never =
    let rest = cmp (Items (suc k) a) (Items (suc k) b) in
    let here : o ≡ cmp (text_bytes x) (text_bytes y) = p ∙ ap (λ z. cmp (text_bytes z) (text_bytes v)) s ∙ ap (λ z. cmp (text_bytes x) (text_bytes z)) t in
    sym (then-stops o rest never) ∙ ap (λ z. ordering_then z rest) here ∙ sym (items-cmp a b k x y h g m n e f)

-- and else those from the next place on do
pub items-equal : (a b : List (List ℕ)) (k : ℕ) (x y u v : List ℕ) (o : Ordering) → Each (IsShort is_utf8) a → Each (IsShort is_utf8) b → k < length a → k < length b
    → x ≡ get_or a k x → y ≡ get_or b k y → u ≡ x → v ≡ y → o ≡ cmp (text_bytes u) (text_bytes v) → o ≡ Equal
    → cmp (Items k a) (Items k b) ≡ cmp (Items (k + 1) a) (Items (k + 1) b)
items-equal a b k x y u v o h g m n e f s t p same =
    let rest = cmp (Items (suc k) a) (Items (suc k) b) in
    let here : o ≡ cmp (text_bytes x) (text_bytes y) = p ∙ ap (λ z. cmp (text_bytes z) (text_bytes v)) s ∙ ap (λ z. cmp (text_bytes x) (text_bytes z)) t in
    let next : suc k ≡ k + 1 = omega arith in
    items-cmp a b k x y h g m n e f ∙ ap (λ z. ordering_then z rest) (sym here ∙ same) ∙ ap (λ z. cmp (Items z a) (Items z b)) next

pub is_ne-false : (o : Ordering) (t : Bool) → t ≡ is_ne o → t ≡ false → o ≡ Equal
is_ne-false Less t e f = let g = sym e ∙ f in cc g
is_ne-false Equal t e f = refl
is_ne-false Greater t e f = let g = sym e ∙ f in cc g

pub is_ne-true : (o : Ordering) (t : Bool) → t ≡ is_ne o → t ≡ true → o ≡ Equal → ⊥
is_ne-true o t e f s = let g : false ≡ true = ap (λ z. is_ne z) (sym s) ∙ sym e ∙ f in cc g

-- texts that differ decide before what follows them, and else that decides
pub passing-decide : (test : List ℕ → Bool) (x y u v r s : List ℕ) (o : Ordering) → IsShort test x → IsShort test y → u ≡ x → v ≡ y
    → o ≡ cmp (text_bytes u) (text_bytes v) → (o ≡ Equal → ⊥) → o ≡ cmp (text_bytes x ++ r) (text_bytes y ++ s)
passing-decide test x y u v r s o h k e f p never =
    let here : o ≡ cmp (text_bytes x) (text_bytes y) = p ∙ ap (λ z. cmp (text_bytes z) (text_bytes v)) e ∙ ap (λ z. cmp (text_bytes x) (text_bytes z)) f in
    sym (then-stops o (cmp r s) never) ∙ ap (λ z. ordering_then z (cmp r s)) here ∙ sym (passing-cmp test x y r s h k)

pub passing-equal : (test : List ℕ → Bool) (x y u v r s : List ℕ) (o p : Ordering) → IsShort test x → IsShort test y → u ≡ x → v ≡ y
    → o ≡ cmp (text_bytes u) (text_bytes v) → o ≡ Equal → p ≡ cmp r s → p ≡ cmp (text_bytes x ++ r) (text_bytes y ++ s)
passing-equal test x y u v r s o p h k e f q same after =
    let here : o ≡ cmp (text_bytes x) (text_bytes y) = q ∙ ap (λ z. cmp (text_bytes z) (text_bytes v)) e ∙ ap (λ z. cmp (text_bytes x) (text_bytes z)) f in
    after ∙ sym (ap (λ z. ordering_then z (cmp r s)) (sym here ∙ same)) ∙ sym (passing-cmp test x y r s h k)

pub key_cmp-total : IsTotalOrder key_cmp
key_cmp-total = on_total key_bytes nat_list_cmp_total

pub key_cmp-Equal : (a b : Key) → IsKey a → IsKey b → key_cmp a b ≡ Equal → a ≡ b
key_cmp-Equal a b h k e = key-alone a b h k (exact_bytes (key_bytes a) (key_bytes b) e)
