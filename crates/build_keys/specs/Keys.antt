-- How a key is spelled in bytes, and which keys have a spelling.
use Rattle.std.specs.Prelude.{◌≡◌, ℕ, ◌<◌, ◌^◌, Bool, true, ◌&&◌, List, [], ◌∷◌, ◌++◌, length, bytes_eq}
use Rattle.std.specs.Option.{is_none}
use Rattle.std.specs.Str.{is_utf8}
use Rattle.file_info.specs.NameFault.{name_fault}
use Rattle.file_info.specs.Path.{normal_form}
use Rattle.file_info.specs.PathFault.{path_fault}
use Rattle.file_info.specs.declared.node.NodeName.{NodeName}
use Rattle.file_info.specs.declared.node.NodeName.TheVariants.{Path, Virtual}
use Rattle.spelling.specs.Spelling.{text_bytes, list_bytes, node_bytes}
use Rattle.build_keys.specs.declared.key.Key.{Key}
use Rattle.build_keys.specs.declared.key.Key.TheVariants.{Target, Command, Node, Contents, Tree, Structure}

-- the byte that a key begins with
abbrev pub tag_of : Key → ℕ
tag_of (Target name) = 1
tag_of (Command name) = 2
tag_of (Node node) = 3
tag_of (Contents path) = 4
tag_of (Tree path patterns) = 5
tag_of (Structure path patterns) = 6

-- what follows that byte: a name, a node, or a path, and the patterns where the key has them
abbrev pub parts_of : Key → List ℕ
parts_of (Target name) = text_bytes name
parts_of (Command name) = text_bytes name
parts_of (Node node) = node_bytes node
parts_of (Contents path) = text_bytes path
parts_of (Tree path patterns) = text_bytes path ++ list_bytes text_bytes patterns
parts_of (Structure path patterns) = text_bytes path ++ list_bytes text_bytes patterns

-- the one spelling of a key
abbrev pub key_bytes : Key → List ℕ
key_bytes key = tag_of key ∷ parts_of key

-- whether a text is a name
abbrev pub is_name : List ℕ → Bool
is_name text = is_utf8 text && is_none (name_fault text)

-- whether a text is a path in normal form
abbrev pub is_path : List ℕ → Bool
is_path text = is_utf8 text && is_none (path_fault text) && bytes_eq (normal_form text) text

-- the text passes the test, and its length fits the four bytes of a count
pub record IsShort (test : List ℕ → Bool) (text : List ℕ) : Type 0 where
  pub passes : test text ≡ true
  pub short : length text < 2 ^ 32

-- a node with a spelling
abbrev pub IsNode : NodeName → Type 0
IsNode (Path path) = IsShort is_path path
IsNode (Virtual name) = IsShort is_name name

-- each item of the list is such a thing
abbrev pub Each : {A : Type 0} → (A → Type 0) → List A → Type 0
Each is [] = Unit {0}
Each is (item ∷ items) = is item × Each is items

-- each item is such a thing, and their number fits the four bytes of a count
pub record AreItems {A : Type 0} (is : A → Type 0) (items : List A) : Type 0 where
  pub each : Each is items
  pub few : length items < 2 ^ 32

-- patterns with a spelling: each is UTF-8, and their number and their lengths fit four bytes
abbrev pub ArePatterns : List (List ℕ) → Type 0
ArePatterns = AreItems (IsShort is_utf8)

-- a key with a spelling
abbrev pub IsKey : Key → Type 0
IsKey (Target name) = IsShort is_name name
IsKey (Command name) = IsShort is_name name
IsKey (Node node) = IsNode node
IsKey (Contents path) = IsShort is_path path
IsKey (Tree path patterns) = IsShort is_path path × ArePatterns patterns
IsKey (Structure path patterns) = IsShort is_path path × ArePatterns patterns

-- the patterns of the key, if it has any, have a spelling. The names and paths of a key always have one
abbrev pub HasPatterns : Key → Type 0
HasPatterns (Target name) = Unit {0}
HasPatterns (Command name) = Unit {0}
HasPatterns (Node node) = Unit {0}
HasPatterns (Contents path) = Unit {0}
HasPatterns (Tree path patterns) = ArePatterns patterns
HasPatterns (Structure path patterns) = ArePatterns patterns
