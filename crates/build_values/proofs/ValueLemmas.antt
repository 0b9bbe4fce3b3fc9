-- Values: what is read is what was spelled, and nothing else.
use Rattle.std.proofs.Common.{◌≡◌, ℕ, ◌-◌, ◌<◌, ◌≤◌, List, [], ◌∷◌, ◌++◌, drop, length, Some, None, eqb, refl, sym, ◌∙◌, ap, subst, arith}
use Rattle.std.proofs.Common.{length-append, append-nil}
use Rattle.std.specs.Prelude.{true}
use Rattle.std.proofs.lemmas.Bool.{eqb-true}
use Rattle.std.proofs.Math.Seq.{drop-append_seam}
use Rattle.name_list.specs.EntryNames.{are_entry_names}
use Rattle.file_info.specs.declared.info.Info.{Info}
use Rattle.file_info.specs.declared.info.Info.TheVariants as infos
use Rattle.file_info.specs.declared.info.Kind.{Kind}
use Rattle.file_info.specs.declared.info.Kind.TheVariants as kinds
use Rattle.file_info.specs.declared.node.TreeEntry.{TreeEntry}
use Rattle.file_info.specs.declared.node.ShapeEntry.{ShapeEntry}
use Rattle.spelling.specs.Spelling.{text_bytes, items_bytes, list_bytes}
use Rattle.build_keys.specs.Keys.{IsShort, AreItems, ArePatterns, is_path}
use Rattle.build_keys.specs.Reading.{Reader, IsRead, Reads, text_at, passing_at, list_at, one_in}
use Rattle.build_keys.specs.KeyReading.{patterns_at}
use Rattle.build_values.specs.Values.{num_bytes, info_bytes, kind_bytes, entry_bytes, shape_bytes, value_bytes, IsNum, IsStamp, IsInfo, IsEntry}
use Rattle.build_values.specs.Values.{IsShape, HasParts, IsValue}
use Rattle.build_values.specs.ValueReading.{num_at, stamp_at, info_at, kind_at, entry_of, shape_of, entry_at, shape_at, names_at, value_at}
use Rattle.build_values.specs.ValueReading.{BeginsWithValue}
use Rattle.build_values.specs.declared.value.Value.{Value}
use Rattle.build_values.specs.declared.value.Value.TheVariants.{Virtual, File, Names, Tree, Structure, Done, Expected, Targets, Failed}
use Rattle.build_keys.proofs.OptionLemmas.{found, held, step, when-true, either, first-same, second-same}
use Rattle.build_keys.proofs.TextLemmas.{HasCount, text-reads}
use Rattle.build_keys.proofs.ItemLemmas.{list-reads}
use Rattle.build_keys.proofs.VariantLemmas.{OnlyAfter, bare-only, one-back, one-only, two-back, two-parts, two-only}
use Rattle.build_values.proofs.NumLemmas.{num-reads, stamp-reads}
use Rattle.build_keys.proofs.KeyLemmas.{path-reads, patterns-read}

info-back : (info : Info) (rest : List ℕ) → IsInfo info → info_at (info_bytes info ++ rest) ≡ Some (info, rest)
unfolding info_at
info-back infos.Missing rest h = refl
info-back infos.Directory rest h = refl
info-back (infos.File size stamp) rest h =
    two-back infos.File num_bytes IsNum num_at (items_bytes num_bytes) IsStamp stamp_at num-reads stamp-reads size stamp rest h.0 h.1
info-back (infos.Link text) rest h = one-back infos.Link text_bytes HasCount text_at text-reads text rest h

info-only : (bytes : List ℕ) (info : Info) (rest : List ℕ) → info_at bytes ≡ Some (info, rest) → IsRead info_bytes IsInfo bytes info rest
unfolding info_at
info-only [] info rest e = cc e
info-only (tag ∷ bytes) info rest e =
    either (eqb tag 0) _ _ (info, rest) (λ t. bare-only 0 infos.Missing info_bytes IsInfo refl tt tag bytes info rest (eqb-true tag 0 t))
    (either (eqb tag 1) _ _ (info, rest) (λ t. bare-only 1 infos.Directory info_bytes IsInfo refl tt tag bytes info rest (eqb-true tag 1 t))
    (either (eqb tag 2) _ _ (info, rest)
    (λ t. two-only 2 infos.File num_bytes IsNum num_at (items_bytes num_bytes) IsStamp stamp_at info_bytes IsInfo num-reads stamp-reads
    (record { bytes = λ _ _. refl; has_one = λ _ _ h k. (h, k) }) tag bytes info rest (eqb-true tag 2 t))
    (either (eqb tag 3) _ _ (info, rest)
    (λ t. one-only 3 infos.Link text_bytes HasCount text_at info_bytes IsInfo text-reads (record { bytes = λ _. refl; has_one = λ _ h. h }) tag bytes info rest (eqb-true tag 3 t))
    (λ f. cc f)))) e

info-reads : Reads info_bytes IsInfo info_at
info-reads = record { back = info-back; only = info-only }

-- every kind has a spelling
abbrev IsKind : Kind → Type 0
IsKind kind = Unit {0}

kind-back : (kind : Kind) (rest : List ℕ) → IsKind kind → kind_at (kind_bytes kind ++ rest) ≡ Some (kind, rest)
unfolding kind_at
kind-back kinds.Directory rest h = refl
kind-back kinds.Other rest h = refl

kind-only : (bytes : List ℕ) (kind : Kind) (rest : List ℕ) → kind_at bytes ≡ Some (kind, rest) → IsRead kind_bytes IsKind bytes kind rest
unfolding kind_at
kind-only [] kind rest e = cc e
kind-only (tag ∷ bytes) kind rest e =
    either (eqb tag 1) _ _ (kind, rest) (λ t. bare-only 1 kinds.Directory kind_bytes IsKind refl tt tag bytes kind rest (eqb-true tag 1 t))
    (either (eqb tag 2) _ _ (kind, rest) (λ t. bare-only 2 kinds.Other kind_bytes IsKind refl tt tag bytes kind rest (eqb-true tag 2 t)) (λ f. cc f)) e

kind-reads : Reads kind_bytes IsKind kind_at
kind-reads = record { back = kind-back; only = kind-only }

entry-back : (entry : TreeEntry) (rest : List ℕ) → IsEntry entry → entry_at (entry_bytes entry ++ rest) ≡ Some (entry, rest)
unfolding entry_at
entry-back entry rest h =
    two-back entry_of text_bytes (IsShort is_path) (passing_at is_path) info_bytes IsInfo info_at path-reads info-reads entry.path entry.info rest h.0 h.1

entry-only : (bytes : List ℕ) (entry : TreeEntry) (rest : List ℕ) → entry_at bytes ≡ Some (entry, rest) → IsRead entry_bytes IsEntry bytes entry rest
unfolding entry_at
entry-only bytes entry rest e =
    let read = two-parts entry_of text_bytes (IsShort is_path) (passing_at is_path) info_bytes IsInfo info_at path-reads info-reads bytes entry rest e in
    record {
      whole = read.whole ∙ ap (λ z. entry_bytes z ++ rest) read.same;
      has_one = let P : TreeEntry → Type 0 = IsEntry in subst P read.same (read.has_one, read.has_two);
    }

entry-reads : Reads entry_bytes IsEntry entry_at
entry-reads = record { back = entry-back; only = entry-only }

shape-back : (entry : ShapeEntry) (rest : List ℕ) → IsShape entry → shape_at (shape_bytes entry ++ rest) ≡ Some (entry, rest)
unfolding shape_at
shape-back entry rest h =
    two-back shape_of text_bytes (IsShort is_path) (passing_at is_path) kind_bytes IsKind kind_at path-reads kind-reads entry.path entry.kind rest h tt

shape-only : (bytes : List ℕ) (entry : ShapeEntry) (rest : List ℕ) → shape_at bytes ≡ Some (entry, rest) → IsRead shape_bytes IsShape bytes entry rest
unfolding shape_at
shape-only bytes entry rest e =
    let read = two-parts shape_of text_bytes (IsShort is_path) (passing_at is_path) kind_bytes IsKind kind_at path-reads kind-reads bytes entry rest e in
    record {
      whole = read.whole ∙ ap (λ z. shape_bytes z ++ rest) read.same;
      has_one = let P : ShapeEntry → Type 0 = IsShape in subst P read.same read.has_one;
    }

shape-reads : Reads shape_bytes IsShape shape_at
shape-reads = record { back = shape-back; only = shape-only }

-- names of a directory, in order
abbrev AreNames : List (List ℕ) → Type 0
AreNames names = ArePatterns names × (are_entry_names names ≡ true)

names-back : (names : List (List ℕ)) (rest : List ℕ) → AreNames names → names_at (list_bytes text_bytes names ++ rest) ≡ Some (names, rest)
unfolding names_at
names-back names rest h =
    step (patterns_at (list_bytes text_bytes names ++ rest)) _ (names, rest) (patterns-read.back names rest h.0) ∙ when-true (are_entry_names names) (names, rest) h.1

names-only : (bytes : List ℕ) (names : List (List ℕ)) (rest : List ℕ) → names_at bytes ≡ Some (names, rest) → IsRead (list_bytes text_bytes) AreNames bytes names rest
unfolding names_at
names-only bytes names rest e =
    let got = found (patterns_at bytes) _ (names, rest) e in
    let texts = got.middle.0 in
    let behind = got.middle.1 in
    let read = patterns-read.only bytes texts behind got.first_is in
    let cut = held (are_entry_names texts) (texts, behind) (names, rest) got.next_is in
    let one = first-same texts names behind rest cut.same in
    let two = second-same texts names behind rest cut.same in
    record {
      whole = read.whole ∙ ap (λ z. list_bytes text_bytes z ++ behind) one ∙ ap (λ z. list_bytes text_bytes names ++ z) two;
      has_one = let P : List (List ℕ) → Type 0 = AreNames in subst P one (read.has_one, cut.holds);
    }

names-reads : Reads (list_bytes text_bytes) AreNames names_at
names-reads = record { back = names-back; only = names-only }

infos-read : Reads (list_bytes info_bytes) (AreItems IsInfo) (list_at info_at)
infos-read = list-reads info_bytes IsInfo info_at info-reads

entries-read : Reads (list_bytes entry_bytes) (AreItems IsEntry) (list_at entry_at)
entries-read = list-reads entry_bytes IsEntry entry_at entry-reads

shapes-read : Reads (list_bytes shape_bytes) (AreItems IsShape) (list_at shape_at)
shapes-read = list-reads shape_bytes IsShape shape_at shape-reads

paths-read : Reads (list_bytes text_bytes) (AreItems (IsShort is_path)) (list_at (passing_at is_path))
paths-read = list-reads text_bytes (IsShort is_path) (passing_at is_path) path-reads

value-back : (value : Value) (rest : List ℕ) → HasParts value → value_at (value_bytes value ++ rest) ≡ Some (value, rest)
unfolding value_at
value-back Virtual rest h = refl
value-back (File info) rest h = one-back File info_bytes IsInfo info_at info-reads info rest h
value-back (Names names) rest h = one-back Names (list_bytes text_bytes) AreNames names_at names-reads names rest h
value-back (Tree entries) rest h = one-back Tree (list_bytes entry_bytes) (AreItems IsEntry) (list_at entry_at) entries-read entries rest h
value-back (Structure entries) rest h = one-back Structure (list_bytes shape_bytes) (AreItems IsShape) (list_at shape_at) shapes-read entries rest h
value-back (Done all) rest h = one-back Done (list_bytes info_bytes) (AreItems IsInfo) (list_at info_at) infos-read all rest h
value-back (Expected paths) rest h = one-back Expected (list_bytes text_bytes) (AreItems (IsShort is_path)) (list_at (passing_at is_path)) paths-read paths rest h
value-back Targets rest h = refl
value-back Failed rest h = refl

-- what was read as a value of one part
part-only : {A : Type 0} (number : ℕ) (made : A → Value) (spelled : A → List ℕ) (is : A → Type 0) (read : Reader A) → Reads spelled is read
    → ((part : A) → value_bytes (made part) ≡ number ∷ spelled part) → ((part : A) → is part → HasParts (made part))
    → OnlyAfter number value_bytes HasParts (one_in made read)
part-only number made spelled is read r b h = one-only number made spelled is read value_bytes HasParts r (record { bytes = b; has_one = h })

value-only : (bytes : List ℕ) (value : Value) (rest : List ℕ) → value_at bytes ≡ Some (value, rest) → IsRead value_bytes HasParts bytes value rest
unfolding value_at
value-only [] value rest e = cc e
value-only (tag ∷ bytes) value rest e =
    either (eqb tag 1) _ _ (value, rest) (λ t. bare-only 1 Virtual value_bytes HasParts refl tt tag bytes value rest (eqb-true tag 1 t))
    (either (eqb tag 2) _ _ (value, rest) (λ t. part-only 2 File info_bytes IsInfo info_at info-reads (λ _. refl) (λ _ h. h) tag bytes value rest (eqb-true tag 2 t))
    (either (eqb tag 3) _ _ (value, rest)
    (λ t. part-only 3 Names (list_bytes text_bytes) AreNames names_at names-reads (λ _. refl) (λ _ h. h) tag bytes value rest (eqb-true tag 3 t))
    (either (eqb tag 4) _ _ (value, rest)
    (λ t. part-only 4 Tree (list_bytes entry_bytes) (AreItems IsEntry) (list_at entry_at) entries-read (λ _. refl) (λ _ h. h) tag bytes value rest (eqb-true tag 4 t))
    (either (eqb tag 5) _ _ (value, rest)
    (λ t. part-only 5 Structure (list_bytes shape_bytes) (AreItems IsShape) (list_at shape_at) shapes-read (λ _. refl) (λ _ h. h) tag bytes value rest (eqb-true tag 5 t))
    (either (eqb tag 6) _ _ (value, rest)
    (λ t. part-only 6 Done (list_bytes info_bytes) (AreItems IsInfo) (list_at info_at) infos-read (λ _. refl) (λ _ h. h) tag bytes value rest (eqb-true tag 6 t))
    (either (eqb tag 7) _ _ (value, rest)
    (λ t. part-only 7 Expected (list_bytes text_bytes) (AreItems (IsShort is_path)) (list_at (passing_at is_path)) paths-read (λ _. refl) (λ _ h. h)
    tag bytes value rest (eqb-true tag 7 t))
    (either (eqb tag 8) _ _ (value, rest) (λ t. bare-only 8 Targets value_bytes HasParts refl tt tag bytes value rest (eqb-true tag 8 t))
    (either (eqb tag 9) _ _ (value, rest) (λ t. bare-only 9 Failed value_bytes HasParts refl tt tag bytes value rest (eqb-true tag 9 t))
    (λ f. cc f))))))))) e

pub value-reads : Reads value_bytes HasParts value_at
value-reads = record { back = value-back; only = value-only }

value-length : (bytes : List ℕ) (value : Value) (rest : List ℕ) → value_at bytes ≡ Some (value, rest) → length bytes - length rest ≡ length (value_bytes value)
value-length bytes value rest e =
    let read = value-only bytes value rest e in
    omega (arith, ap length read.whole, length-append (value_bytes value) rest)

-- the value that was read, and its length
pub value-begins : (bytes : List ℕ) (value : Value) (rest : List ℕ) (long : ℕ) → value_at bytes ≡ Some (value, rest) → long ≡ length bytes - length rest
    → long ≤ 16777216 → BeginsWithValue bytes value long
value-begins bytes value rest long e l m =
    let read = value-only bytes value rest e in
    let size : long ≡ length (value_bytes value) = l ∙ value-length bytes value rest e in
    let left : drop long bytes ≡ rest = ap (λ n. drop n bytes) size ∙ ap (drop (length (value_bytes value))) read.whole ∙ drop-append_seam (value_bytes value) rest in
    record {
      is = record { has_parts = read.has_one; at_most = omega (arith, size, m) };
      spelled = read.whole ∙ ap (λ z. value_bytes value ++ z) (sym left);
      length_is = size;
    }

-- bytes of which no value was read begin with no spelling
pub value-none : (bytes : List ℕ) → value_at bytes ≡ None → (value : Value) (rest : List ℕ) → IsValue value → bytes ≡ value_bytes value ++ rest → ⊥
value-none bytes e value rest h s = let both = sym e ∙ ap value_at s ∙ value-back value rest h.has_parts in cc both

-- the same bytes begin with the spellings of two values
pub value-once : (a b : Value) (r s : List ℕ) → IsValue a → IsValue b → value_bytes a ++ r ≡ value_bytes b ++ s → (a ≡ b) × (r ≡ s)
value-once a b r s h k e =
    let both = sym (value-back a r h.has_parts) ∙ ap value_at e ∙ value-back b s k.has_parts in
    (first-same a b r s both, second-same a b r s both)

-- nor do those of which a value was read that is too long
pub value-long : (bytes : List ℕ) (value : Value) (rest : List ℕ) (long : ℕ) → value_at bytes ≡ Some (value, rest) → long ≡ length bytes - length rest
    → 16777216 < long → (other : Value) (more : List ℕ) → IsValue other → bytes ≡ value_bytes other ++ more → ⊥
value-long bytes value rest long e l m other more h s =
    let both = sym e ∙ ap value_at s ∙ value-back other more h.has_parts in
    let same = ap (λ z. length (value_bytes z)) (first-same value other rest more both) in
    omega (arith, l ∙ value-length bytes value rest e ∙ same, m, h.at_most)

pub value-alone : (a b : Value) → IsValue a → IsValue b → value_bytes a ≡ value_bytes b → a ≡ b
value-alone a b h k e = (value-once a b [] [] h k (ap (λ z. z ++ []) e)).0

pub value-no-prefix : (a b : Value) (r : List ℕ) → IsValue a → IsValue b → value_bytes a ++ r ≡ value_bytes b → r ≡ []
value-no-prefix a b r h k e = (value-once a b r [] h k (e ∙ sym (append-nil (value_bytes b)))).1
