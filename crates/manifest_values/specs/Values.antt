-- The values of attributes, by their shapes. Nothing comes where the shape is another.
use Rattle.std.specs.Prelude.{ℕ, Bool, true, false, not, ◌&&◌, ◌||◌, ◌==◌, List, [], ◌∷◌, if◌then◌else◌, Option, Some, None, bytes_eq}
use Rattle.std.specs.List.{list_any}
use Rattle.yaml_profile.specs.Tree.{name_of, value_of}
use Rattle.yaml_profile.specs.declared.yaml.Yaml.{Yaml, out-Yaml}
use Rattle.yaml_profile.specs.declared.yaml.Yaml.TheOpen.{Yaml-F}
use Rattle.yaml_profile.specs.declared.yaml.Pair.{Pair}
use Rattle.build_manifest.specs.Command.{has_nul}
use Rattle.build_manifest.specs.declared.command.Args.{Args}
use Rattle.build_manifest.specs.declared.command.Args.TheVariants.{Words, Line}
use Rattle.build_manifest.specs.declared.command.EnvPair.{EnvPair}
use Rattle.manifest_values.specs.Shapes.{◌then◌, text_of, pairs_of, all_texts}

-- what is there where the test holds
abbrev pub when : {A : Type 0} → Bool → Option A → Option A
when test found = if test then found else None

-- whether the list has an item
abbrev pub has_item : {A : Type 0} → List A → Bool
has_item [] = false
has_item (x ∷ xs) = true

-- a line for the shell, without a byte 0
abbrev pub line_in : List ℕ → Option Args
line_in text = when (not (has_nul text)) (Some (Line text))

-- whether one of the words has a byte 0
abbrev pub any_has_nul : List (List ℕ) → Bool
any_has_nul words = list_any has_nul words

-- words: at least one, and none with a byte 0
abbrev pub words_in : List (List ℕ) → Option Args
words_in words = when (has_item words && not (any_has_nul words)) (Some (Words words))

-- the words of nodes that are all scalars
abbrev pub words_of : List Yaml → Option Args
words_of items = all_texts items then words_in

-- the program of `args`: a line for the shell, or a list of words; no byte is 0
unfoldable pub program_of : Yaml → Option Args
program_of tree = elim (out-Yaml tree)
    [ Yaml-F.Scalar text ↦ line_in text | Yaml-F.Seq items ↦ words_of items | Yaml-F.Map pairs ↦ None ]

-- whether the name has `=` or a byte 0
abbrev pub has_barred : List ℕ → Bool
has_barred name = list_any (λ b. b == 0 || b == 61) name

-- whether a variable may have this name: it is not empty, and has neither `=` nor a byte 0
abbrev pub is_variable_name : List ℕ → Bool
is_variable_name name = has_item name && not (has_barred name)

-- the variable of a pair
unfoldable pub variable_of : Pair → Option EnvPair
variable_of p = text_of (value_of p) then λ text.
    when (is_variable_name (name_of p) && not (has_nul text)) (Some (record { name = name_of p; text = text }))

-- the variables of pairs
abbrev pub all_variables : List Pair → Option (List EnvPair)
all_variables [] = Some []
all_variables (p ∷ ps) = variable_of p then λ variable. all_variables ps then λ variables. Some (variable ∷ variables)

-- the variables of `env`
unfoldable pub variables_of : Yaml → Option (List EnvPair)
variables_of tree = pairs_of tree then all_variables

-- the text of a link: it is not empty, and no byte is 0
unfoldable pub link_of : Yaml → Option (List ℕ)
link_of tree = text_of tree then λ text. when (has_item text && not (has_nul text)) (Some text)

-- this very text
unfoldable pub exactly : List ℕ → Yaml → Option (List ℕ)
exactly wanted tree = text_of tree then λ text. when (bytes_eq text wanted) (Some text)
