-- The lengths of spellings.
use Rattle.std.proofs.Common.{◌≡◌, ℕ, ◌+◌, ◌<◌, ◌≤◌, List, [], ◌∷◌, ◌++◌, take, get_or, length, refl, sym, ◌∙◌, ap, arith, length-append}
use Rattle.std.proofs.lemmas.List.{take_more, take_all}
use Rattle.file_info.specs.declared.info.Info.TheVariants as infos
use Rattle.spelling.specs.Spelling.{count_bytes, text_bytes, items_bytes, list_bytes}
use Rattle.spelling.proofs.ItemLemmas.{items-append}
use Rattle.spelling.proofs.SplitLemmas.{count-length}
use Rattle.build_values.specs.Values.{capped, num_bytes, info_bytes}

pub capped-sum : (a b m n : ℕ) → m ≡ capped a → n ≡ capped b → capped (m + n) ≡ capped (a + b)
capped-sum a b m n e f = omega (arith, e, f)

pub text-length : (text : List ℕ) → length (text_bytes text) ≡ 4 + length text
text-length text = length-append (count_bytes (length text)) text ∙ ap (λ n. n + length text) (count-length (length text))

pub list-length : {A : Type 0} (spelled : A → List ℕ) (xs : List A) → length (list_bytes spelled xs) ≡ 4 + length (items_bytes spelled xs)
list-length spelled xs = length-append (count_bytes (length xs)) (items_bytes spelled xs) ∙ ap (λ n. n + length (items_bytes spelled xs)) (count-length (length xs))

num-length : (n : ℕ) → length (num_bytes n) ≡ 8
unfolding num_bytes
num-length n = refl

-- the size and the four numbers of a stamp
pub stamp-length : (size : ℕ) (stamp : List ℕ) → length stamp ≡ 4 → length (num_bytes size ++ items_bytes num_bytes stamp) ≡ 40
stamp-length size (a ∷ b ∷ c ∷ d ∷ []) h =
    length-append (num_bytes size) (items_bytes num_bytes (a ∷ b ∷ c ∷ d ∷ []))
    ∙ omega (
      arith,
      num-length size,
      num-length a,
      num-length b,
      num-length c,
      num-length d,
      length-append (num_bytes a) (items_bytes num_bytes (b ∷ c ∷ d ∷ [])),
      length-append (num_bytes b) (items_bytes num_bytes (c ∷ d ∷ [])),
      length-append (num_bytes c) (items_bytes num_bytes (d ∷ [])),
      length-append (num_bytes d) [],
    )
stamp-length size [] h = absurd (omega arith)
stamp-length size (a ∷ []) h = absurd (omega arith)
stamp-length size (a ∷ b ∷ []) h = absurd (omega arith)
stamp-length size (a ∷ b ∷ c ∷ []) h = absurd (omega arith)
stamp-length size (a ∷ b ∷ c ∷ d ∷ e ∷ stamp) h = absurd (omega arith)

-- one item more was counted
pub items-longer : {A : Type 0} (spelled : A → List ℕ) (xs : List A) (k : ℕ) (x : A) (total long next : ℕ) → k < length xs → x ≡ get_or xs k x
    → total ≡ capped (4 + length (items_bytes spelled (take k xs))) → long ≡ capped (length (spelled x)) → next ≡ capped (total + long)
    → next ≡ capped (4 + length (items_bytes spelled (take (k + 1) xs)))
items-longer spelled xs k x total long next h e before one after =
    let there = items_bytes spelled (take k xs) in
    let last = items-append spelled (take k xs) (get_or xs k x ∷ []) in
    let whole : items_bytes spelled (take (k + 1) xs) ≡ there ++ (spelled (get_or xs k x) ++ []) = ap (items_bytes spelled) (take_more xs k x h) ∙ last in
    let size : length (items_bytes spelled (take (k + 1) xs)) ≡ length there + length (spelled x) =
    ap length whole ∙ length-append there (spelled (get_or xs k x) ++ []) ∙ omega (arith, length-append (spelled (get_or xs k x)) [], ap (λ z. length (spelled z)) e) in
    omega (arith, before, one, after, size)

-- all items were counted
pub items-whole : {A : Type 0} (spelled : A → List ℕ) (xs ys : List A) (k : ℕ) (total : ℕ) → length xs ≤ k → xs ≡ ys
    → total ≡ capped (4 + length (items_bytes spelled (take k xs))) → total ≡ capped (length (list_bytes spelled ys))
items-whole spelled xs ys k total h same e =
    e ∙ ap (λ z. capped (4 + length (items_bytes spelled z))) (take_all k xs h ∙ same) ∙ ap capped (sym (list-length spelled ys))

-- a link
pub link-length : (text : List ℕ) (count part total : ℕ) → count ≡ length text → part ≡ capped (4 + count) → total ≡ capped (1 + part)
    → total ≡ capped (length (info_bytes (infos.Link text)))
link-length text count part total e f g = omega (arith, text-length text, e, f, g)

-- a file
pub file-length : (size total : ℕ) (stamp : List ℕ) → total ≡ capped (1 + length (num_bytes size ++ items_bytes num_bytes stamp))
    → total ≡ capped (length (info_bytes (infos.File size stamp)))
file-length size total stamp e = omega (arith, e)
