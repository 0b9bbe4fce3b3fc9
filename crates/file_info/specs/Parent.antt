-- The folder that a path stands in.
use Rattle.std.specs.Prelude.{◌≡◌, ◌⊎◌, ℕ, Bool, if◌then◌else◌, Option, Some, None, List, [], ◌∷◌, ◌++◌, replicate}
use Rattle.file_info.specs.Path.{parts_of, way_of, dots, relative_text, absolute_text, is_absolute}

-- the names without the last one
abbrev pub but_last : List (List ℕ) → List (List ℕ)
but_last [] = []
but_last (name ∷ []) = []
but_last (name ∷ next ∷ names) = name ∷ but_last (next ∷ names)

-- the text of a way: a slash and its names where it begins at the root, and otherwise as many `..` as it has steps up, and
-- then its names
abbrev pub way_text : Bool → ℕ → List (List ℕ) → List ℕ
way_text absolute ups names = if absolute then absolute_text names else relative_text (replicate ups dots ++ names)

-- the text of a way without its last name. None where it has no name
abbrev pub folder_text : Bool → ℕ → List (List ℕ) → Option (List ℕ)
folder_text absolute ups [] = None
folder_text absolute ups (name ∷ names) = Some (way_text absolute ups (but_last (name ∷ names)))

-- the folder that a path stands in: its way without the last name. None for `/`, for `.` and for paths of `..` alone, which
-- have no name
abbrev pub parent_of : List ℕ → Option (List ℕ)
parent_of path = let way = way_of (parts_of path) in folder_text (is_absolute path) way.ups way.names

-- a path without a name: `/`, or as many `..` as one likes, of which none is `.`
abbrev pub IsTop : List ℕ → Type 0
IsTop path = (path ≡ 47 ∷ []) ⊎ ((ups : ℕ) × (path ≡ relative_text (replicate ups dots)))
