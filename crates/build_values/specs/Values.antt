-- How a value is spelled in bytes.
use Rattle.std.specs.Prelude.{◌≡◌, ℕ, ◌<◌, ◌≤◌, ◌^◌, true, min, List, [], ◌∷◌, ◌++◌, length}
use Rattle.std.specs.Int.{w64, to_be_bytes}
use Rattle.name_list.specs.EntryNames.{are_entry_names}
use Rattle.file_info.specs.declared.info.Info.{Info}
use Rattle.file_info.specs.declared.info.Info.TheVariants as infos
use Rattle.file_info.specs.declared.info.Kind.{Kind}
use Rattle.file_info.specs.declared.info.Kind.TheVariants as kinds
use Rattle.file_info.specs.declared.node.TreeEntry.{TreeEntry}
use Rattle.file_info.specs.declared.node.ShapeEntry.{ShapeEntry}
use Rattle.spelling.specs.Spelling.{text_bytes, items_bytes, list_bytes}
use Rattle.build_keys.specs.Keys.{IsShort, Each, AreItems, ArePatterns, is_path}
use Rattle.build_values.specs.declared.value.Value.{Value}
use Rattle.build_values.specs.declared.value.Value.TheVariants.{Virtual, File, Names, Tree, Structure, Done, Expected, Targets, Failed}

-- a number in eight bytes, the highest first
unfoldable pub num_bytes : ℕ → List ℕ
num_bytes n = to_be_bytes w64 n

-- file information: a byte that tells the kinds apart, then the size and the stamp of a file or the text of a link
abbrev pub info_bytes : Info → List ℕ
info_bytes infos.Missing = 0 ∷ []
info_bytes infos.Directory = 1 ∷ []
info_bytes (infos.File size stamp) = 2 ∷ num_bytes size ++ items_bytes num_bytes stamp
info_bytes (infos.Link text) = 3 ∷ text_bytes text

-- a kind: 1 for a directory and 2 for anything else
abbrev pub kind_bytes : Kind → List ℕ
kind_bytes kinds.Directory = 1 ∷ []
kind_bytes kinds.Other = 2 ∷ []

-- an entry of a tree: its path and its file information
abbrev pub entry_bytes : TreeEntry → List ℕ
entry_bytes entry = text_bytes entry.path ++ info_bytes entry.info

-- an entry of a structure: its path and its kind
abbrev pub shape_bytes : ShapeEntry → List ℕ
shape_bytes entry = text_bytes entry.path ++ kind_bytes entry.kind

-- the one spelling of a value: the byte that it begins with, and its parts
abbrev pub value_bytes : Value → List ℕ
value_bytes Virtual = 1 ∷ []
value_bytes (File info) = 2 ∷ info_bytes info
value_bytes (Names names) = 3 ∷ list_bytes text_bytes names
value_bytes (Tree entries) = 4 ∷ list_bytes entry_bytes entries
value_bytes (Structure entries) = 5 ∷ list_bytes shape_bytes entries
value_bytes (Done infos) = 6 ∷ list_bytes info_bytes infos
value_bytes (Expected paths) = 7 ∷ list_bytes text_bytes paths
value_bytes Targets = 8 ∷ []
value_bytes Failed = 9 ∷ []

-- the length, or 16,777,217 for every greater one
abbrev pub capped : ℕ → ℕ
capped n = min n 16777217

-- a number that fits eight bytes
abbrev pub IsNum : ℕ → Type 0
IsNum n = n < 2 ^ 64

-- four numbers
pub record IsStamp (stamp : List ℕ) : Type 0 where
  pub each : Each IsNum stamp
  pub four : length stamp ≡ 4

-- file information with a spelling
abbrev pub IsInfo : Info → Type 0
IsInfo infos.Missing = Unit {0}
IsInfo infos.Directory = Unit {0}
IsInfo (infos.File size stamp) = IsNum size × IsStamp stamp
IsInfo (infos.Link text) = length text < 2 ^ 32

-- an entry of a tree with a spelling
abbrev pub IsEntry : TreeEntry → Type 0
IsEntry entry = IsShort is_path entry.path × IsInfo entry.info

-- an entry of a structure with a spelling
abbrev pub IsShape : ShapeEntry → Type 0
IsShape entry = IsShort is_path entry.path

-- the parts of the value have a spelling
abbrev pub HasParts : Value → Type 0
HasParts Virtual = Unit {0}
HasParts (File info) = IsInfo info
HasParts (Names names) = ArePatterns names × (are_entry_names names ≡ true)
HasParts (Tree entries) = AreItems IsEntry entries
HasParts (Structure entries) = AreItems IsShape entries
HasParts (Done infos) = AreItems IsInfo infos
HasParts (Expected paths) = AreItems (IsShort is_path) paths
HasParts Targets = Unit {0}
HasParts Failed = Unit {0}

-- a value with a spelling, which has at most 16,777,216 bytes
pub record IsValue (value : Value) : Type 0 where
  pub has_parts : HasParts value
  pub at_most : length (value_bytes value) ≤ 16777216
