-- What a text may be: a name, a path, or a virtual node.
use Rattle.std.specs.Prelude.{ℕ, ◌-◌, ◌==◌, Bool, false, ◌&&◌, List, [], ◌∷◌, length, slice_get, if◌then◌else◌, Option, Some, None}
use Rattle.std.specs.List.{list_any}
use Rattle.std.specs.Option.{is_none}
use Rattle.std.specs.Str.{is_utf8}
use Rattle.file_info.specs.Name.{is_control}
use Rattle.file_info.specs.NameFault.{name_fault}
use Rattle.file_info.specs.Path.{normal_form}
use Rattle.file_info.specs.PathFault.{path_fault}

-- whether a byte of the text is a control character
abbrev pub has_control : List ℕ → Bool
has_control text = list_any is_control text

-- whether the text is a name
unfoldable pub is_name : List ℕ → Bool
is_name text = is_utf8 text && is_none (name_fault text)

-- whether the text is a path
unfoldable pub is_path_text : List ℕ → Bool
is_path_text text = is_utf8 text && is_none (path_fault text)

-- the path that the text is, in normal form. None where it is no path
unfoldable pub path_in : List ℕ → Option (List ℕ)
path_in text = if is_path_text text then Some (normal_form text) else None

-- whether the byte is the text's last
abbrev pub ends_with : ℕ → List ℕ → Bool
ends_with byte text = elim (slice_get text (length text - 1)) [ None ↦ false | Some last ↦ last == byte ]

-- whether the text ends with `/`, as that of a directory does
abbrev pub has_slash : List ℕ → Bool
has_slash text = ends_with 47 text

-- whether the text is `<...>`, which names a virtual node
abbrev pub is_angled : List ℕ → Bool
is_angled [] = false
is_angled (b ∷ text) = b == 60 && ends_with 62 text
