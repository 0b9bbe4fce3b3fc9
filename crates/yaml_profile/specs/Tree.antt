-- What holds of every tree that is read.
use Rattle.std.specs.Prelude.{ℕ, zero, suc, List, [], ◌∷◌, map, IsUtf8}
use Rattle.file_info.specs.Lists.{IsDistinct}
use Rattle.yaml_profile.specs.declared.yaml.Yaml.{Yaml, out-Yaml}
use Rattle.yaml_profile.specs.declared.yaml.Yaml.TheOpen.{Yaml-F}
use Rattle.yaml_profile.specs.declared.yaml.Pair.{Pair, out-Pair}

-- each item of the list is so
abbrev pub Each : {A : Type 0} → (A → Type 0) → List A → Type 0
Each P [] = Unit {0}
Each P (x ∷ xs) = P x × Each P xs

-- the name of a pair
abbrev pub name_of : Pair → List ℕ
name_of p = (out-Pair p).name

-- the value of a pair
abbrev pub value_of : Pair → Yaml
value_of p = (out-Pair p).value

-- a scalar in UTF-8
abbrev pub IsText : Yaml-F Yaml Pair → Type 0
IsText (Yaml-F.Scalar text) = IsUtf8 text
IsText (Yaml-F.Seq items) = ⊥
IsText (Yaml-F.Map pairs) = ⊥

-- a node whose texts are UTF-8 and whose names differ, where the nodes below it are so
abbrev pub IsNode : (Yaml → Type 0) → Yaml-F Yaml Pair → Type 0
IsNode P (Yaml-F.Scalar text) = IsUtf8 text
IsNode P (Yaml-F.Seq items) = Each P items
IsNode P (Yaml-F.Map pairs) = Each (λ p. IsUtf8 (name_of p) × P (value_of p)) pairs × IsDistinct (map name_of pairs)

-- collections nest no deeper than the number, each text and each name is UTF-8, and no mapping has a name twice
unfoldable pub IsTree : ℕ → Yaml → Type 0
IsTree zero tree = IsText (out-Yaml tree)
IsTree (suc depth) tree = IsNode (IsTree depth) (out-Yaml tree)
