-- How much the texts of a tree weigh together.
use Rattle.std.specs.Prelude.{ℕ, zero, suc, ◌+◌, List, [], ◌∷◌, length}
use Rattle.yaml_profile.specs.declared.yaml.Yaml.{Yaml, out-Yaml}
use Rattle.yaml_profile.specs.declared.yaml.Yaml.TheOpen.{Yaml-F}
use Rattle.yaml_profile.specs.declared.yaml.Pair.{Pair}
use Rattle.yaml_profile.specs.Tree.{name_of, value_of}

-- the sum of what each item weighs
abbrev pub total : {A : Type 0} → (A → ℕ) → List A → ℕ
total f [] = 0
total f (x ∷ xs) = f x + total f xs

-- what a pair weighs, where its value weighs so much
abbrev pub pair_weight : (Yaml → ℕ) → Pair → ℕ
pair_weight f p = (length (name_of p) + 1) + f (value_of p)

-- what a node weighs, where the nodes below it weigh so much: each text its length and one more
abbrev pub node_weight : (Yaml → ℕ) → Yaml-F Yaml Pair → ℕ
node_weight f (Yaml-F.Scalar text) = length text + 1
node_weight f (Yaml-F.Seq items) = total f items
node_weight f (Yaml-F.Map pairs) = total (pair_weight f) pairs

-- what the scalars and names of a tree weigh, to so many levels of collections
unfoldable pub weight : ℕ → Yaml → ℕ
weight zero tree = node_weight (λ _. 0) (out-Yaml tree)
weight (suc depth) tree = node_weight (weight depth) (out-Yaml tree)
