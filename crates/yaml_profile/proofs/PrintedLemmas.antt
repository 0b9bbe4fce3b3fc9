-- A tree as it is printed is UTF-8.
use Rattle.std.proofs.Common.{◌≡◌, ℕ, zero, suc, ◌+◌, ◌/◌, ◌%◌, ◌<◌, Bool, true, false, ◌||◌, ◌==◌, nat_lt, List, [], ◌∷◌, ◌++◌, map, replicate, refl, subst, append_assoc, arith}
use Rattle.std.specs.Prelude.{IsUtf8, flat_map}
use Rattle.std.specs.Char.{digit_char}
use Rattle.std.proofs.lemmas.Bool.Decides.{nat_tests}
use Rattle.std.proofs.lemmas.Str.{IsUtf8-nil, IsUtf8-append}
use Rattle.yaml_profile.specs.declared.yaml.Yaml.{Yaml, out-Yaml}
use Rattle.yaml_profile.specs.declared.yaml.Yaml.TheOpen.{Yaml-F}
use Rattle.yaml_profile.specs.declared.yaml.Pair.{Pair}
use Rattle.yaml_profile.specs.Text.{Text}
use Rattle.yaml_profile.specs.Tree.{Each, name_of, IsText, IsNode, IsTree}
use Rattle.yaml_profile.specs.Tree as tree
use Rattle.yaml_profile.specs.Print.{Layer, escaped_by, escaped, all_escaped, quoted, with_commas, pair_text, layer_text, shallow_text, flow_text, value_text, entry_text, map_lines, spelling_of, spelling}
use Rattle.yaml_profile.proofs.CutLemmas.{along, cut, small_by, moved, joined}
use Rattle.yaml_profile.proofs.ScalarLemmas.{byte_utf8}
use Rattle.yaml_profile.proofs.QuotedLemmas.{small_control}

-- ---- a text

digit_small : (d : ℕ) → d < 16 → digit_char d < 128
digit_small d h = grind (arith, nat_tests)

ascii_more : (b : ℕ) (t : Text) → b < 128 → IsUtf8 t → IsUtf8 (b ∷ t)
ascii_more b t small u = IsUtf8-append (b ∷ []) t (byte_utf8 b small) u

either_small : (b : ℕ) → (b == 92 || b == 34) ≡ true → b < 128
either_small b h = grind (arith, nat_tests)

-- a byte in a text gives way to what is written for it
escaped_utf8 : (found : List ℕ) (b : ℕ) (t : Text) → IsUtf8 (found ++ b ∷ t) → IsUtf8 ((found ++ escaped b) ++ t)
escaped_utf8 found b t u = go _ _ _ _ refl refl refl refl
  where
    between : (w : List ℕ) → b < 128 → IsUtf8 w → IsUtf8 ((found ++ w) ++ t)
    between w small v = let parts = cut found b t small u in joined found w t parts.before v parts.after

    two : (x y : ℕ) → x < 128 → y < 128 → IsUtf8 (x ∷ y ∷ [])
    two x y i j = ascii_more x (y ∷ []) i (byte_utf8 y j)

    go : (q l h c : Bool) → (b == 92 || b == 34) ≡ q → (b == 10) ≡ l → (b == 9) ≡ h → (nat_lt b 32 || b == 127) ≡ c
        → IsUtf8 ((found ++ escaped_by b q l h c) ++ t)
    go true l h c eq el eh ec = let small = either_small b eq in between (92 ∷ b ∷ []) small (two 92 b (omega arith) small)
    go false true h c eq el eh ec = between (92 ∷ 110 ∷ []) (small_by b 10 el (omega arith)) (two 92 110 (omega arith) (omega arith))
    go false false true c eq el eh ec = between (92 ∷ 116 ∷ []) (small_by b 9 eh (omega arith)) (two 92 116 (omega arith) (omega arith))
    go false false false true eq el eh ec =
        let small = small_control b ec in
        let digits = two (digit_char (b / 16)) (digit_char (b % 16)) (digit_small (b / 16) (omega arith)) (digit_small (b % 16) (omega arith)) in
        between (92 ∷ 120 ∷ digit_char (b / 16) ∷ digit_char (b % 16) ∷ []) small
        (IsUtf8-append (92 ∷ 120 ∷ []) _ (two 92 120 (omega arith) (omega arith)) digits)
    go false false false false eq el eh ec = moved found b t u

all_utf8 : (found text : List ℕ) → IsUtf8 (found ++ text) → IsUtf8 (found ++ all_escaped text)
unfolding all_escaped
all_utf8 found [] u = u
all_utf8 found (b ∷ text) u =
    along _ _ (append_assoc found (escaped b) (all_escaped text))
    (all_utf8 (found ++ escaped b) text (escaped_utf8 found b text u))

quoted_utf8 : (text : List ℕ) → IsUtf8 text → IsUtf8 (quoted text)
quoted_utf8 text u =
    ascii_more 34 (all_escaped text ++ 34 ∷ []) (omega arith)
    (IsUtf8-append (all_escaped text) (34 ∷ []) (all_utf8 [] text u) (byte_utf8 34 (omega arith)))

-- ---- a tree on one line

commas_utf8 : (xs : List (List ℕ)) → Each IsUtf8 xs → IsUtf8 (with_commas xs)
unfolding with_commas
commas_utf8 [] each = IsUtf8-nil
commas_utf8 (x ∷ []) each = each.0
commas_utf8 (x ∷ y ∷ ys) each =
    IsUtf8-append x (44 ∷ 32 ∷ with_commas (y ∷ ys)) each.0
    (ascii_more 44 _ (omega arith) (ascii_more 32 _ (omega arith) (commas_utf8 (y ∷ ys) each.1)))

bracketed_utf8 : (a b : ℕ) (t : List ℕ) → a < 128 → b < 128 → IsUtf8 t → IsUtf8 (a ∷ (t ++ b ∷ []))
bracketed_utf8 a b t i j u = ascii_more a (t ++ b ∷ []) i (IsUtf8-append t (b ∷ []) u (byte_utf8 b j))

-- a tree that is so is UTF-8 as it is written
abbrev Written : (Yaml → Type 0) → (Yaml → List ℕ) → Type 0
Written P inner = (y : Yaml) → P y → IsUtf8 (inner y)

items_utf8 : (P : Yaml → Type 0) (inner : Yaml → List ℕ) → Written P inner → (ys : List Yaml) → Each P ys → Each IsUtf8 (map inner ys)
items_utf8 P inner f [] each = tt
items_utf8 P inner f (y ∷ ys) each = (f y each.0, items_utf8 P inner f ys each.1)

pair_utf8 : (inner : Yaml → List ℕ) (p : Pair) → IsUtf8 (name_of p) → IsUtf8 (inner (tree.value_of p)) → IsUtf8 (pair_text inner p)
pair_utf8 inner p u v =
    IsUtf8-append (quoted (name_of p)) (58 ∷ 32 ∷ inner (tree.value_of p)) (quoted_utf8 (name_of p) u)
    (ascii_more 58 _ (omega arith) (ascii_more 32 _ (omega arith) v))

abbrev EachPair : (Yaml → Type 0) → List Pair → Type 0
EachPair P ps = Each (λ p. IsUtf8 (name_of p) × P (tree.value_of p)) ps

pairs_utf8 : (P : Yaml → Type 0) (inner : Yaml → List ℕ) → Written P inner → (ps : List Pair) → EachPair P ps → Each IsUtf8 (map (pair_text inner) ps)
pairs_utf8 P inner f [] each = tt
pairs_utf8 P inner f (p ∷ ps) each = (pair_utf8 inner p each.0.0 (f (tree.value_of p) each.0.1), pairs_utf8 P inner f ps each.1)

layer_utf8 : (P : Yaml → Type 0) (inner : Yaml → List ℕ) → Written P inner → (l : Layer) → IsNode P l → IsUtf8 (layer_text inner l)
layer_utf8 P inner f (Yaml-F.Scalar text) h = quoted_utf8 text h
layer_utf8 P inner f (Yaml-F.Seq ys) h = bracketed_utf8 91 93 _ (omega arith) (omega arith) (commas_utf8 (map inner ys) (items_utf8 P inner f ys h))
layer_utf8 P inner f (Yaml-F.Map ps) h =
    bracketed_utf8 123 125 _ (omega arith) (omega arith) (commas_utf8 (map (pair_text inner) ps) (pairs_utf8 P inner f ps h.0))

shallow_utf8 : (l : Layer) → IsText l → IsUtf8 (shallow_text l)
shallow_utf8 (Yaml-F.Scalar text) h = quoted_utf8 text h
shallow_utf8 (Yaml-F.Seq ys) h = absurd h
shallow_utf8 (Yaml-F.Map ps) h = absurd h

flow_utf8 : (depth : ℕ) (y : Yaml) → IsTree depth y → IsUtf8 (flow_text depth y)
unfolding IsTree flow_text
flow_utf8 zero y h = shallow_utf8 (out-Yaml y) h
flow_utf8 (suc depth) y h = layer_utf8 (IsTree depth) (flow_text depth) (λ z k. flow_utf8 depth z k) (out-Yaml y) h

-- ---- lines

spaces_utf8 : (n : ℕ) → IsUtf8 (replicate n 32)
spaces_utf8 zero = IsUtf8-nil
spaces_utf8 (suc n) = ascii_more 32 (replicate n 32) (omega arith) (spaces_utf8 n)

beside_utf8 : (t : List ℕ) → IsUtf8 t → IsUtf8 (32 ∷ (t ++ 10 ∷ []))
beside_utf8 t u = bracketed_utf8 32 10 t (omega arith) (omega arith) u

value_utf8 : (P : Yaml → Type 0) (flow : Yaml → List ℕ) (lines : List Pair → List ℕ) (v : Yaml) (l : Layer) → Written P flow → P v
    → ((p : Pair) (ps : List Pair) → l ≡ Yaml-F.Map (p ∷ ps) → IsUtf8 (lines (p ∷ ps))) → IsUtf8 (value_text flow lines v l)
value_utf8 P flow lines v (Yaml-F.Scalar text) f h g = beside_utf8 (flow v) (f v h)
value_utf8 P flow lines v (Yaml-F.Seq ys) f h g = beside_utf8 (flow v) (f v h)
value_utf8 P flow lines v (Yaml-F.Map []) f h g = beside_utf8 (flow v) (f v h)
value_utf8 P flow lines v (Yaml-F.Map (p ∷ ps)) f h g = ascii_more 10 (lines (p ∷ ps)) (omega arith) (g p ps refl)

entry_utf8 : (flow : Yaml → List ℕ) (lines : List Pair → List ℕ) (spaces : ℕ) (p : Pair) → IsUtf8 (name_of p)
    → IsUtf8 (value_text flow lines (tree.value_of p) (out-Yaml (tree.value_of p)))
    → IsUtf8 (entry_text flow lines spaces p)
entry_utf8 flow lines spaces p u v =
    IsUtf8-append (replicate spaces 32 ++ quoted (name_of p)) (58 ∷ value_text flow lines (tree.value_of p) (out-Yaml (tree.value_of p)))
    (IsUtf8-append (replicate spaces 32) (quoted (name_of p)) (spaces_utf8 spaces) (quoted_utf8 (name_of p) u)) (ascii_more 58 _ (omega arith) v)

each_utf8 : (P : Yaml → Type 0) (flow : Yaml → List ℕ) (lines : List Pair → List ℕ) (spaces : ℕ) (ps : List Pair)
    → ((v : Yaml) → P v → IsUtf8 (value_text flow lines v (out-Yaml v))) → EachPair P ps → IsUtf8 (flat_map (entry_text flow lines spaces) ps)
each_utf8 P flow lines spaces [] f each = IsUtf8-nil
each_utf8 P flow lines spaces (p ∷ ps) f each =
    IsUtf8-append (entry_text flow lines spaces p) (flat_map (entry_text flow lines spaces) ps)
    (entry_utf8 flow lines spaces p each.0.0 (f (tree.value_of p) each.0.1)) (each_utf8 P flow lines spaces ps f each.1)

lines_utf8 : (depth spaces : ℕ) (v : Yaml) (ps : List Pair) → out-Yaml v ≡ Yaml-F.Map ps → IsTree depth v → IsUtf8 (map_lines depth spaces ps)
unfolding IsTree map_lines
lines_utf8 zero spaces v ps e h = IsUtf8-nil
lines_utf8 (suc depth) spaces v ps e h =
    let node : IsNode (IsTree depth) (Yaml-F.Map ps) = subst (λ (l : Layer). IsNode (IsTree depth) l) e h in
    each_utf8 (IsTree depth) (flow_text depth) (map_lines depth (spaces + 2)) spaces ps
    (λ w k. value_utf8 (IsTree depth) (flow_text depth) (map_lines depth (spaces + 2)) w (out-Yaml w) (flow_utf8 depth) k
    (λ q qs same. lines_utf8 depth (spaces + 2) w (q ∷ qs) same k)) node.0

pub spelling_utf8 : (y : Yaml) → IsTree 64 y → IsUtf8 (spelling y)
unfolding spelling
spelling_utf8 y h = go (out-Yaml y) refl
  where
    line : IsUtf8 (flow_text 64 y ++ 10 ∷ [])
    line = IsUtf8-append (flow_text 64 y) (10 ∷ []) (flow_utf8 64 y h) (byte_utf8 10 (omega arith))

    go : (l : Layer) → out-Yaml y ≡ l → IsUtf8 (spelling_of y l)
    go (Yaml-F.Scalar text) e = line
    go (Yaml-F.Seq ys) e = line
    go (Yaml-F.Map []) e = line
    go (Yaml-F.Map (p ∷ ps)) e = lines_utf8 64 0 y (p ∷ ps) e h
