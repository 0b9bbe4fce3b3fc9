-- The signatures of targets and nodes, and what a shell command hands its tool.
use Rattle.std.specs.Prelude.{ℕ, ◌+◌, if◌then◌else◌, Bool, true, false, List, [], ◌∷◌, ◌++◌, map, bytes_eq, Option, Some, None}
use Rattle.file_info.specs.declared.node.NodeName.{NodeName}
use Rattle.file_info.specs.declared.node.NodeName.TheVariants.{Path, Virtual}
use Rattle.spelling.specs.Spelling.{count_bytes, text_bytes, list_bytes}
use Rattle.outside.specs.Meaning.{ToolMeaning, key_bytes}
use Rattle.build_manifest.specs.declared.command.Command.{Command}
use Rattle.build_manifest.specs.declared.command.TargetEntry.{TargetEntry}
use Rattle.build_meaning.specs.Commands.{key_of, variable_of, shell_of}

-- what a shell command hands its tool
abbrev pub shell_meaning : Command → ToolMeaning
shell_meaning c = shell_of c.signature c.args (map variable_of c.env) c.inherit_env c.deps

-- the signature of a target: what its nodes ask, in order
abbrev pub target_signature : TargetEntry → List ℕ
target_signature target = list_bytes key_bytes (map key_of target.nodes)

-- whether both are paths, or both are virtual
abbrev pub are_alike : NodeName → NodeName → Bool
are_alike (Path a) (Path b) = true
are_alike (Path a) (Virtual b) = false
are_alike (Virtual a) (Path b) = false
are_alike (Virtual a) (Virtual b) = true

-- whether they are one node
abbrev pub is_same : NodeName → NodeName → Bool
is_same (Path a) (Path b) = bytes_eq a b
is_same (Path a) (Virtual b) = false
is_same (Virtual a) (Path b) = false
is_same (Virtual a) (Virtual b) = bytes_eq a b

-- the place of a node among the paths or among the virtual nodes, as it is one or the other, counted from 0
abbrev pub place_among : NodeName → List NodeName → ℕ
place_among node [] = 0
place_among node (other ∷ others) =
    if is_same node other then 0
    else (if are_alike node other then 1 + place_among node others else place_among node others)

-- the signature of a node: 0 where no command makes it, or 1, the maker's name, and the node's place among the maker's outputs of
-- its sort
abbrev pub node_signature : Option Command → NodeName → List ℕ
node_signature None node = 0 ∷ []
node_signature (Some maker) node = 1 ∷ text_bytes maker.name ++ count_bytes (place_among node maker.outputs)
