-- Where a name, a node or a path stands.
use Rattle.std.specs.Prelude.{ℕ, Bool, false, ◌||◌, List, map, Option, position, slice_get, bytes_eq}
use Rattle.std.specs.List.{list_any, flat_map}
use Rattle.std.specs.Option.{option_and_then, option_map}
use Rattle.file_info.specs.declared.node.NodeName.{NodeName}
use Rattle.file_info.specs.declared.node.NodeName.TheVariants.{Path, Virtual}
use Rattle.build_manifest.specs.declared.command.Command.{Command}
use Rattle.build_manifest.specs.declared.command.Input.{Input}
use Rattle.build_manifest.specs.declared.command.TargetEntry.{TargetEntry}

-- the place of the first command of this name
abbrev pub command_place : List Command → List ℕ → Option ℕ
command_place commands name = position (λ (c : Command). bytes_eq name c.name) commands

-- the place of the first target of this name
abbrev pub target_place : List TargetEntry → List ℕ → Option ℕ
target_place targets name = position (λ (t : TargetEntry). bytes_eq name t.name) targets

-- the first target of this name
abbrev pub target_named : List TargetEntry → List ℕ → Option TargetEntry
target_named targets name = option_and_then (slice_get targets) (target_place targets name)

-- whether two nodes are one
abbrev pub is_node : NodeName → NodeName → Bool
is_node (Path p) (Path q) = bytes_eq p q
is_node (Path p) (Virtual o) = false
is_node (Virtual n) (Path q) = false
is_node (Virtual n) (Virtual o) = bytes_eq n o

-- whether the node is among the outputs of the command
abbrev pub makes : NodeName → Command → Bool
makes node command = list_any (is_node node) command.outputs

-- the place of the first command that makes the node
abbrev pub maker_of : List Command → NodeName → Option ℕ
maker_of commands node = position (makes node) commands

-- the name of the first command that makes the node
abbrev pub maker_name : List Command → NodeName → Option (List ℕ)
maker_name commands node = option_map (λ (c : Command). c.name) (option_and_then (slice_get commands) (maker_of commands node))

-- the place of the first command that writes the dependency file of this path
abbrev pub deps_place : List Command → List ℕ → Option ℕ
deps_place commands path = position (λ (c : Command). list_any (bytes_eq path) c.deps) commands

-- whether the node is the path
abbrev pub is_path : List ℕ → NodeName → Bool
is_path path (Path p) = bytes_eq path p
is_path path (Virtual n) = false

-- whether the path is that of one of the inputs
abbrev pub reads_path : List ℕ → List Input → Bool
reads_path path inputs = list_any (λ (i : Input). is_path path i.node) inputs

-- whether the path is that of an input, a must-follow node or an output of the command
abbrev pub command_uses : List ℕ → Command → Bool
command_uses path c = reads_path path c.inputs || reads_path path c.follow || list_any (is_path path) c.outputs

-- whether the path is that of a node of the manifest
abbrev pub is_used : List TargetEntry → List Command → List ℕ → Bool
is_used targets commands path = list_any (λ (t : TargetEntry). reads_path path t.nodes) targets || list_any (command_uses path) commands

-- the names of the targets, in order
abbrev pub target_names : List TargetEntry → List (List ℕ)
target_names targets = map (λ (t : TargetEntry). t.name) targets

-- the names of the commands, in order
abbrev pub command_names : List Command → List (List ℕ)
command_names commands = map (λ (c : Command). c.name) commands

-- the outputs of all commands, in order
abbrev pub all_outputs : List Command → List NodeName
all_outputs commands = flat_map (λ (c : Command). c.outputs) commands

-- the dependency files of all commands, in order
abbrev pub all_deps : List Command → List (List ℕ)
all_deps commands = flat_map (λ (c : Command). c.deps) commands
