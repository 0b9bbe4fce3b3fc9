-- The canonical spelling of a tree.
use Rattle.std.specs.Prelude.{ℕ, zero, suc, ◌+◌, ◌/◌, ◌%◌, Bool, true, false, ◌||◌, ◌==◌, nat_lt, List, [], ◌∷◌, ◌++◌, map, replicate, flat_map}
pub use Rattle.std.specs.Char.{digit_char}
use Rattle.yaml_profile.specs.declared.yaml.Yaml.{Yaml, out-Yaml}
use Rattle.yaml_profile.specs.declared.yaml.Yaml.TheOpen.{Yaml-F}
use Rattle.yaml_profile.specs.declared.yaml.Pair.{Pair}
use Rattle.yaml_profile.specs.Tree.{name_of, value_of}

-- how a byte is written between double quotes, by whether it is `\` or `"`, LF, a tab, or another control byte
abbrev pub escaped_by : ℕ → Bool → Bool → Bool → Bool → List ℕ
escaped_by b true _ _ _ = 92 ∷ b ∷ []
escaped_by b false true _ _ = 92 ∷ 110 ∷ []
escaped_by b false false true _ = 92 ∷ 116 ∷ []
escaped_by b false false false true = 92 ∷ 120 ∷ digit_char (b / 16) ∷ digit_char (b % 16) ∷ []
escaped_by b false false false false = b ∷ []

-- how a byte is written between double quotes
abbrev pub escaped : ℕ → List ℕ
escaped b = escaped_by b (b == 92 || b == 34) (b == 10) (b == 9) (nat_lt b 32 || b == 127)

-- how a text is written between double quotes
unfoldable pub all_escaped : List ℕ → List ℕ
all_escaped [] = []
all_escaped (b ∷ t) = escaped b ++ all_escaped t

-- a text in double quotes
abbrev pub quoted : List ℕ → List ℕ
quoted text = 34 ∷ (all_escaped text ++ 34 ∷ [])

-- texts with `, ` between them
unfoldable pub with_commas : List (List ℕ) → List ℕ
with_commas [] = []
with_commas (x ∷ []) = x
with_commas (x ∷ y ∷ ys) = x ++ 44 ∷ 32 ∷ with_commas (y ∷ ys)

-- ---- one line

-- a node by its kind
abbrev pub Layer : Type 0
Layer = Yaml-F Yaml Pair

-- a pair on one line, where its value is written so
abbrev pub pair_text : (Yaml → List ℕ) → Pair → List ℕ
pair_text inner p = quoted (name_of p) ++ 58 ∷ 32 ∷ inner (value_of p)

-- a node on one line, where the nodes in it are written so
abbrev pub layer_text : (Yaml → List ℕ) → Layer → List ℕ
layer_text inner (Yaml-F.Scalar text) = quoted text
layer_text inner (Yaml-F.Seq items) = 91 ∷ (with_commas (map inner items) ++ 93 ∷ [])
layer_text inner (Yaml-F.Map pairs) = 123 ∷ (with_commas (map (pair_text inner) pairs) ++ 125 ∷ [])

-- a node on one line, where no level of collections is left
abbrev pub shallow_text : Layer → List ℕ
shallow_text (Yaml-F.Scalar text) = quoted text
shallow_text (Yaml-F.Seq items) = 91 ∷ 93 ∷ []
shallow_text (Yaml-F.Map pairs) = 123 ∷ 125 ∷ []

-- a tree on one line, to so many levels of collections
unfoldable pub flow_text : ℕ → Yaml → List ℕ
flow_text zero tree = shallow_text (out-Yaml tree)
flow_text (suc depth) tree = layer_text (flow_text depth) (out-Yaml tree)

-- ---- one pair a line

-- what stands after a key's `:`, where a tree on one line and the lines of a mapping are written so
abbrev pub value_text : (Yaml → List ℕ) → (List Pair → List ℕ) → Yaml → Layer → List ℕ
value_text flow lines value (Yaml-F.Scalar text) = 32 ∷ (flow value ++ 10 ∷ [])
value_text flow lines value (Yaml-F.Seq items) = 32 ∷ (flow value ++ 10 ∷ [])
value_text flow lines value (Yaml-F.Map []) = 32 ∷ (flow value ++ 10 ∷ [])
value_text flow lines value (Yaml-F.Map (p ∷ ps)) = 10 ∷ lines (p ∷ ps)

-- the line of a pair after so many spaces, with the lines of its value
abbrev pub entry_text : (Yaml → List ℕ) → (List Pair → List ℕ) → ℕ → Pair → List ℕ
entry_text flow lines spaces p =
    replicate spaces 32 ++ quoted (name_of p) ++ 58 ∷ value_text flow lines (value_of p) (out-Yaml (value_of p))

-- the lines of a mapping after so many spaces, to so many levels of collections
unfoldable pub map_lines : ℕ → ℕ → List Pair → List ℕ
map_lines zero spaces pairs = []
map_lines (suc depth) spaces pairs = flat_map (entry_text (flow_text depth) (map_lines depth (spaces + 2)) spaces) pairs

-- the canonical spelling of a tree that is this node
abbrev pub spelling_of : Yaml → Layer → List ℕ
spelling_of tree (Yaml-F.Scalar text) = flow_text 64 tree ++ 10 ∷ []
spelling_of tree (Yaml-F.Seq items) = flow_text 64 tree ++ 10 ∷ []
spelling_of tree (Yaml-F.Map []) = flow_text 64 tree ++ 10 ∷ []
spelling_of tree (Yaml-F.Map (p ∷ ps)) = map_lines 64 0 (p ∷ ps)

-- the canonical spelling of a tree
unfoldable pub spelling : Yaml → List ℕ
spelling tree = spelling_of tree (out-Yaml tree)
