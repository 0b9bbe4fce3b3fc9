-- The key that an input asks for.
use Rattle.std.specs.Prelude.{ℕ, List}
use Rattle.file_info.specs.declared.node.NodeName.{NodeName}
use Rattle.file_info.specs.declared.node.NodeName.TheVariants as node
use Rattle.build_manifest.specs.declared.command.InputForm.{InputForm}
use Rattle.build_manifest.specs.declared.command.InputForm.TheVariants.{File, Virtual, Tree, Structure}
use Rattle.build_keys.specs.declared.key.Key.{Key}
use Rattle.build_keys.specs.declared.key.Key.TheVariants as key

-- the node itself, or all that stands below a path that is read as a tree or a structure. A virtual node has nothing below it
abbrev pub asked : InputForm → NodeName → Key
asked File n = key.Node n
asked Virtual n = key.Node n
asked (Tree patterns) (node.Path path) = key.Tree path patterns
asked (Tree patterns) (node.Virtual name) = key.Node (node.Virtual name)
asked (Structure patterns) (node.Path path) = key.Structure path patterns
asked (Structure patterns) (node.Virtual name) = key.Node (node.Virtual name)
