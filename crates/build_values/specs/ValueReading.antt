-- How a value is read from the front of bytes.
use Rattle.std.specs.Prelude.{◌≡◌, ℕ, suc, zero, ◌^◌, ◌==◌, ◌&&◌, if◌then◌else◌, Bool, List, [], ◌∷◌, ◌++◌, length, drop, nat_lt, Option, Some}
use Rattle.std.specs.Prelude.{None, bytes_eq}
use Rattle.std.specs.Int.{w64, from_be_bytes}
use Rattle.name_list.specs.EntryNames.{are_entry_names}
use Rattle.file_info.specs.declared.info.Info.{Info}
use Rattle.file_info.specs.declared.info.Info.TheVariants as infos
use Rattle.file_info.specs.declared.info.Kind.{Kind}
use Rattle.file_info.specs.declared.info.Kind.TheVariants as kinds
use Rattle.file_info.specs.declared.node.TreeEntry.{TreeEntry}
use Rattle.file_info.specs.declared.node.ShapeEntry.{ShapeEntry}
use Rattle.build_keys.specs.Keys.{is_path}
use Rattle.build_keys.specs.Reading.{Reader, ◌>>=◌, when, text_at, passing_at, items_from, list_at, one_in, two_in}
use Rattle.build_keys.specs.KeyReading.{patterns_at}
use Rattle.build_values.specs.Values.{num_bytes, value_bytes, IsValue}
use Rattle.build_values.specs.declared.value.Value.{Value}
use Rattle.build_values.specs.declared.value.Value.TheVariants.{Virtual, File, Names, Tree, Structure, Done, Expected, Targets, Failed}

-- whether eight bytes are the spelling of this number
abbrev pub is_num : ℕ → List ℕ → Bool
is_num n eight = nat_lt n (2 ^ 64) && bytes_eq (num_bytes n) eight

-- the number that eight bytes spell
abbrev pub num_in : List ℕ → List ℕ → Option (ℕ × List ℕ)
num_in eight rest = when (is_num (from_be_bytes w64 eight) eight) (from_be_bytes w64 eight, rest)

-- a number in eight bytes
unfoldable pub num_at : Reader ℕ
num_at (a ∷ b ∷ c ∷ d ∷ e ∷ f ∷ g ∷ h ∷ rest) = num_in (a ∷ b ∷ c ∷ d ∷ e ∷ f ∷ g ∷ h ∷ []) rest
num_at (a ∷ b ∷ c ∷ d ∷ e ∷ f ∷ g ∷ []) = None
num_at (a ∷ b ∷ c ∷ d ∷ e ∷ f ∷ []) = None
num_at (a ∷ b ∷ c ∷ d ∷ e ∷ []) = None
num_at (a ∷ b ∷ c ∷ d ∷ []) = None
num_at (a ∷ b ∷ c ∷ []) = None
num_at (a ∷ b ∷ []) = None
num_at (a ∷ []) = None
num_at [] = None

-- the four numbers of a stamp
abbrev pub stamp_at : Reader (List ℕ)
stamp_at = items_from num_at (suc (suc (suc (suc zero)))) []

-- file information
unfoldable pub info_at : Reader Info
info_at [] = None
info_at (tag ∷ rest) =
    if tag == 0 then Some (infos.Missing, rest)
    else (if tag == 1 then Some (infos.Directory, rest)
    else (if tag == 2 then two_in infos.File num_at stamp_at rest
    else (if tag == 3 then one_in infos.Link text_at rest else None)))

-- a kind
unfoldable pub kind_at : Reader Kind
kind_at [] = None
kind_at (tag ∷ rest) = if tag == 1 then Some (kinds.Directory, rest) else (if tag == 2 then Some (kinds.Other, rest) else None)

-- the entry of this path and file information
abbrev pub entry_of : List ℕ → Info → TreeEntry
entry_of path info = record { path = path; info = info }

-- the entry of this path and kind
abbrev pub shape_of : List ℕ → Kind → ShapeEntry
shape_of path kind = record { path = path; kind = kind }

-- an entry of a tree
unfoldable pub entry_at : Reader TreeEntry
entry_at bytes = two_in entry_of (passing_at is_path) info_at bytes

-- an entry of a structure
unfoldable pub shape_at : Reader ShapeEntry
shape_at bytes = two_in shape_of (passing_at is_path) kind_at bytes

-- the names of a directory: texts that are names, in order
unfoldable pub names_at : Reader (List (List ℕ))
names_at bytes = do
  names ← patterns_at bytes
  when (are_entry_names names.0) (names.0, names.1)

-- a value of any length
unfoldable pub value_at : Reader Value
value_at [] = None
value_at (tag ∷ rest) =
    if tag == 1 then Some (Virtual, rest)
    else (if tag == 2 then one_in File info_at rest
    else (if tag == 3 then one_in Names names_at rest
    else (if tag == 4 then one_in Tree (list_at entry_at) rest
    else (if tag == 5 then one_in Structure (list_at shape_at) rest
    else (if tag == 6 then one_in Done (list_at info_at) rest
    else (if tag == 7 then one_in Expected (list_at (passing_at is_path)) rest
    else (if tag == 8 then Some (Targets, rest)
    else (if tag == 9 then Some (Failed, rest) else None))))))))

-- the bytes begin with the spelling of the value, which has this length
pub record BeginsWithValue (bytes : List ℕ) (value : Value) (long : ℕ) : Type 0 where
  pub is : IsValue value
  pub spelled : bytes ≡ value_bytes value ++ drop long bytes
  pub length_is : long ≡ length (value_bytes value)
