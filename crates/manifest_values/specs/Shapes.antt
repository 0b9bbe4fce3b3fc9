-- The shapes of the values of a tree.
use Rattle.std.specs.Prelude.{ℕ, Bool, true, false, List, [], ◌∷◌, if◌then◌else◌, Option, Some, None, bytes_eq, codes}
use Rattle.yaml_profile.specs.Tree.{name_of, value_of}
use Rattle.yaml_profile.specs.declared.yaml.Yaml.{Yaml, out-Yaml}
use Rattle.yaml_profile.specs.declared.yaml.Yaml.TheOpen.{Yaml-F}
use Rattle.yaml_profile.specs.declared.yaml.Pair.{Pair}

-- what `f` gives for what is there, and nothing where nothing is
infixl 10 ◌then◌
abbrev pub ◌then◌ : {A B : Type 0} → Option A → (A → Option B) → Option B
None then f = None
(Some x) then f = f x

-- the text of a scalar
unfoldable pub text_of : Yaml → Option (List ℕ)
text_of tree = elim (out-Yaml tree) [ Yaml-F.Scalar text ↦ Some text | Yaml-F.Seq items ↦ None | Yaml-F.Map pairs ↦ None ]

-- the pairs of a mapping
unfoldable pub pairs_of : Yaml → Option (List Pair)
pairs_of tree = elim (out-Yaml tree) [ Yaml-F.Scalar text ↦ None | Yaml-F.Seq items ↦ None | Yaml-F.Map pairs ↦ Some pairs ]

-- the texts of nodes that are all scalars
abbrev pub all_texts : List Yaml → Option (List (List ℕ))
all_texts [] = Some []
all_texts (x ∷ xs) = text_of x then λ text. all_texts xs then λ texts. Some (text ∷ texts)

-- a list of texts: a sequence of scalars, or a scalar, which stands for a list of one
unfoldable pub texts_of : Yaml → Option (List (List ℕ))
texts_of tree = elim (out-Yaml tree) [ Yaml-F.Scalar text ↦ Some (text ∷ []) | Yaml-F.Seq items ↦ all_texts items | Yaml-F.Map pairs ↦ None ]

-- the flag that a text is: `true` or `false`
abbrev pub flag_named : List ℕ → Option Bool
flag_named text = if bytes_eq text (codes "true") then Some true else (if bytes_eq text (codes "false") then Some false else None)

-- the flag of a scalar
unfoldable pub flag_of : Yaml → Option Bool
flag_of tree = text_of tree then flag_named

-- the value of the first pair of this name
abbrev pub value_named : List ℕ → List Pair → Option Yaml
value_named name [] = None
value_named name (p ∷ ps) = if bytes_eq name (name_of p) then Some (value_of p) else value_named name ps
