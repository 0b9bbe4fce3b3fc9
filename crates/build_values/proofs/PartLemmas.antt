-- The parts of a value have a spelling where the whole is short enough.
use Rattle.std.proofs.Common.{◌≡◌, ℕ, zero, suc, ◌+◌, ◌<◌, ◌≤◌, ◌^◌, true, ◌&&◌, not, nat_le, List, [], ◌∷◌, ◌++◌, take, get_or, length, sym, ◌∙◌}
use Rattle.std.proofs.Common.{ap, subst, arith, length-append}
use Rattle.std.specs.List.{list_any}
use Rattle.std.specs.Prelude.{◌==◌, ◌||◌}
use Rattle.std.specs.Str.{is_utf8}
use Rattle.std.proofs.lemmas.Bool.{leb-true}
use Rattle.std.proofs.lemmas.List.{take_more, take_all}
use Rattle.file_info.specs.Path.{is_skipped, is_up}
use Rattle.name_list.specs.EntryNames.{ends_name, is_plain_name, is_entry_name, comes_first, are_entry_names}
use Rattle.spelling.specs.Spelling.{text_bytes, items_bytes, list_bytes}
use Rattle.build_keys.specs.Keys.{IsShort, Each, ArePatterns}
use Rattle.file_info.specs.declared.info.Info.{Info}
use Rattle.file_info.specs.declared.info.Info.TheVariants as infos
use Rattle.file_info.specs.declared.node.TreeEntry.{TreeEntry}
use Rattle.file_info.specs.declared.node.ShapeEntry.{ShapeEntry}
use Rattle.build_values.specs.Values.{info_bytes, kind_bytes, entry_bytes, shape_bytes, value_bytes, IsNum, IsValue}
use Rattle.build_values.specs.declared.value.Value.{Value}
use Rattle.build_values.specs.declared.value.Value.TheVariants.{Names}
use Rattle.build_keys.proofs.OptionLemmas.{and-first, and-second}
use Rattle.build_values.proofs.LengthLemmas.{text-length, list-length}

-- an item's spelling is no longer than those of all
pub item-short : {A : Type 0} (spelled : A → List ℕ) (xs : List A) (k : ℕ) (x : A) → k < length xs → x ≡ get_or xs k x
    → length (spelled x) ≤ length (items_bytes spelled xs)
item-short spelled [] k x h e = absurd (omega arith)
item-short spelled (y ∷ xs) zero x h e =
    let long = length-append (spelled y) (items_bytes spelled xs) in
    omega (arith, long, ap (λ z. length (spelled z)) e)
item-short spelled (y ∷ xs) (suc k) x h e =
    let long = length-append (spelled y) (items_bytes spelled xs) in
    omega (arith, long, item-short spelled xs k x (omega arith) e)

Each-append : {A : Type 0} (is : A → Type 0) (xs : List A) (x : A) → Each is xs → is x → Each is (xs ++ x ∷ [])
Each-append is [] x h k = (k, tt)
Each-append is (y ∷ xs) x h k = (h.0, Each-append is xs x h.1 k)

-- one item more has a spelling
pub Each-more : {A : Type 0} (is : A → Type 0) (xs : List A) (k : ℕ) (x : A) → k < length xs → x ≡ get_or xs k x → Each is (take k xs) → is x → Each is (take (k + 1) xs)
Each-more {A} is xs k x h e before one =
    let P : List A → Type 0 = Each is in
    let Q : A → Type 0 = is in
    subst P (sym (take_more xs k x h)) (Each-append is (take k xs) (get_or xs k x) before (subst Q e one))

-- all items have one
pub Each-whole : {A : Type 0} (is : A → Type 0) (xs ys : List A) (k : ℕ) → length xs ≤ k → xs ≡ ys → Each is (take k xs) → Each is ys
Each-whole {A} is xs ys k h same before = let P : List A → Type 0 = Each is in subst P (take_all k xs h ∙ same) before

-- as many bytes as items, at least
pub items-few : {A : Type 0} (spelled : A → List ℕ) → ((x : A) → 1 ≤ length (spelled x)) → (xs : List A) → length xs ≤ length (items_bytes spelled xs)
items-few spelled some [] = omega arith
items-few spelled some (x ∷ xs) = omega (arith, some x, items-few spelled some xs, length-append (spelled x) (items_bytes spelled xs))

-- each text of the names of a directory is UTF-8 and short
entry-short : (text : List ℕ) → is_entry_name text ≡ true → IsShort is_utf8 text
entry-short text e =
    let two = not (is_skipped text) in
    let three = not (is_up text) in
    let four = nat_le (length text) 4096 in
    let five = not (list_any ends_name text) in
    let plain = and-second (is_utf8 text) (is_plain_name text) e in
    let fits = leb-true (length text) 4096 (and-second (two && three) four (and-first (two && three && four) five plain)) in
    record { passes = and-first (is_utf8 text) (is_plain_name text) e; short = omega (arith, fits) }

names-each : (names : List (List ℕ)) → are_entry_names names ≡ true → Each (IsShort is_utf8) names
names-each [] e = tt
names-each (name ∷ names) e =
    let front = and-first (is_entry_name name && comes_first name names) (are_entry_names names) e in (
      entry-short name (and-first (is_entry_name name) (comes_first name names) front),
      names-each names (and-second (is_entry_name name && comes_first name names) (are_entry_names names) e),
    )

pub names-patterns : (names : List (List ℕ)) → are_entry_names names ≡ true → length (list_bytes text_bytes names) < 2 ^ 32 → ArePatterns names
names-patterns names e h = record {
  each = names-each names e;
  few = omega (arith, h, list-length text_bytes names, items-few text_bytes (λ t. omega (arith, text-length t)) names);
}

-- numbers that fit
pub Each-nums : (xs : List ℕ) → ((i : ℕ) → get_or xs i 0 < 2 ^ 64) → Each IsNum xs
Each-nums [] f = tt
Each-nums (x ∷ xs) f = (f 0, Each-nums xs (λ i. f (suc i)))

pub text-some : (text : List ℕ) → 1 ≤ length (text_bytes text)
text-some text = omega (arith, text-length text)

pub info-some : (info : Info) → 1 ≤ length (info_bytes info)
info-some infos.Missing = omega arith
info-some infos.Directory = omega arith
info-some (infos.File size stamp) = omega arith
info-some (infos.Link text) = omega arith

pub entry-some : (entry : TreeEntry) → 1 ≤ length (entry_bytes entry)
entry-some entry = omega (arith, text-length entry.path, length-append (text_bytes entry.path) (info_bytes entry.info))

pub shape-some : (entry : ShapeEntry) → 1 ≤ length (shape_bytes entry)
shape-some entry = omega (arith, text-length entry.path, length-append (text_bytes entry.path) (kind_bytes entry.kind))

-- the list of a value that is short enough has few items
pub value-few : {A : Type 0} (number : ℕ) (made : List A → Value) (spelled : A → List ℕ) → ((xs : List A) → value_bytes (made xs) ≡ number ∷ list_bytes spelled xs)
    → ((x : A) → 1 ≤ length (spelled x)) → (value : Value) (xs : List A) → value ≡ made xs → length (value_bytes value) ≤ 16777216 → length xs < 2 ^ 32
value-few number made spelled b some value xs e h =
    let long : length (value_bytes value) ≡ length (number ∷ list_bytes spelled xs) = ap (λ v. length (value_bytes v)) e ∙ ap length (b xs) in
    omega (arith, long, list-length spelled xs, items-few spelled some xs, h)

-- the names of a directory as a value
pub value-names : (value : Value) (names : List (List ℕ)) → value ≡ Names names → are_entry_names names ≡ true → length (value_bytes value) ≤ 16777216 → IsValue value
value-names value names e t h =
    let long : length (value_bytes value) ≡ length (value_bytes (Names names)) = ap (λ v. length (value_bytes v)) e in
    let fits : length (value_bytes (Names names)) ≤ 16777216 = omega (arith, long, h) in
    let P : Value → Type 0 = IsValue in
    let whole : IsValue (Names names) = record { has_parts = (names-patterns names t (omega (arith, fits)), t); at_most = fits } in
    subst P (sym e) whole
