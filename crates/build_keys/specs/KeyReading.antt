-- How a key is read from the front of bytes.
use Rattle.std.specs.Prelude.{◌≡◌, ℕ, ◌==◌, if◌then◌else◌, List, [], ◌∷◌, ◌++◌, length, drop, None}
use Rattle.std.specs.Str.{is_utf8}
use Rattle.file_info.specs.declared.node.NodeName.{NodeName}
use Rattle.file_info.specs.declared.node.NodeName.TheVariants.{Path, Virtual}
use Rattle.build_keys.specs.Keys.{is_name, is_path, IsKey, key_bytes}
use Rattle.build_keys.specs.Reading.{Reader, passing_at, list_at, one_in, two_in}
use Rattle.build_keys.specs.declared.key.Key.{Key}
use Rattle.build_keys.specs.declared.key.Key.TheVariants.{Target, Command, Node, Contents, Tree, Structure}

-- patterns after their count
abbrev pub patterns_at : Reader (List (List ℕ))
patterns_at = list_at (passing_at is_utf8)

-- a node: the byte 0 and the text of a path, or the byte 1 and the text of a virtual name
unfoldable pub node_at : Reader NodeName
node_at [] = None
node_at (tag ∷ rest) =
    if tag == 0 then one_in Path (passing_at is_path) rest
    else (if tag == 1 then one_in Virtual (passing_at is_name) rest else None)

-- a key: its tag and its parts
unfoldable pub key_at : Reader Key
key_at [] = None
key_at (tag ∷ rest) =
    if tag == 1 then one_in Target (passing_at is_name) rest
    else (if tag == 2 then one_in Command (passing_at is_name) rest
    else (if tag == 3 then one_in Node node_at rest
    else (if tag == 4 then one_in Contents (passing_at is_path) rest
    else (if tag == 5 then two_in Tree (passing_at is_path) patterns_at rest
    else (if tag == 6 then two_in Structure (passing_at is_path) patterns_at rest else None)))))

-- the bytes begin with the spelling of the key, which has this length
pub record BeginsWith (bytes : List ℕ) (key : Key) (long : ℕ) : Type 0 where
  pub is : IsKey key
  pub spelled : bytes ≡ key_bytes key ++ drop long bytes
  pub length_is : long ≡ length (key_bytes key)
