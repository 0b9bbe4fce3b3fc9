-- What a command of a manifest means.
use Rattle.std.specs.Prelude.{ℕ, Bool, List, [], map, Option, Some, None}
use Rattle.file_info.specs.Content.{node_text}
use Rattle.file_info.specs.declared.node.NodeName.{NodeName}
use Rattle.outside.specs.declared.order.EnvText.{EnvText}
use Rattle.outside.specs.Meaning.{InputKey, NodeKey, TreeKey, StructureKey, ToolMeaning, Phony, ShellWords, ShellLine, ShellSigned, MakesDirectory, MakesLink, Archives, RemovesStale, Meaning}
use Rattle.build_manifest.specs.declared.command.Args.{Args}
use Rattle.build_manifest.specs.declared.command.Args.TheVariants.{Absent, Words, Line}
use Rattle.build_manifest.specs.declared.command.Command.{Command}
use Rattle.build_manifest.specs.declared.command.EnvPair.{EnvPair}
use Rattle.build_manifest.specs.declared.command.Input.{Input}
use Rattle.build_manifest.specs.declared.command.InputForm.{InputForm}
use Rattle.build_manifest.specs.declared.command.InputForm.TheVariants.{File, Virtual, Tree, Structure}
use Rattle.build_manifest.specs.declared.command.Tool.{Tool}
use Rattle.build_manifest.specs.declared.command.Tool.TheVariants as tools

-- what a command asks of a node that is read in this form
abbrev pub key_in : NodeName → InputForm → InputKey
key_in node File = NodeKey node
key_in node Virtual = NodeKey node
key_in node (Tree patterns) = TreeKey (node_text node) patterns
key_in node (Structure patterns) = StructureKey (node_text node) patterns

-- what a command asks of an input
abbrev pub key_of : Input → InputKey
key_of input = key_in input.node input.form

-- a variable that is set for the command
abbrev pub variable_of : EnvPair → EnvText
variable_of pair = record { name = pair.name; text = pair.text }

-- what a shell command hands its tool: its words or its line, and its variables
abbrev pub program_of : Args → List EnvText → Bool → List (List ℕ) → ToolMeaning
program_of Absent env inherit deps = ShellWords [] env inherit deps
program_of (Words words) env inherit deps = ShellWords words env inherit deps
program_of (Line line) env inherit deps = ShellLine line env inherit deps

-- what a shell command hands its tool: a signature of its own, where it has one, stands in place of its program
abbrev pub shell_of : Option (List ℕ) → Args → List EnvText → Bool → List (List ℕ) → ToolMeaning
shell_of (Some signature) args env inherit deps = ShellSigned signature inherit deps
shell_of None args env inherit deps = program_of args env inherit deps

-- the tool, and what the command hands it
abbrev pub tool_in : Tool → Command → ToolMeaning
tool_in tools.Phony c = Phony
tool_in tools.Shell c = shell_of c.signature c.args (map variable_of c.env) c.inherit_env c.deps
tool_in tools.Mkdir c = MakesDirectory
tool_in tools.Symlink c = MakesLink c.contents
tool_in tools.Archive c = Archives
tool_in tools.StaleFileRemoval c = RemovesStale c.expected c.roots

-- what a command of a manifest means: everything but its name, its description and how its nodes are written
abbrev pub meaning_of : Command → Meaning
meaning_of c = record {
  inputs = map key_of c.inputs;
  follow = map key_of c.follow;
  outputs = c.outputs;
  allow_missing = c.allow_missing;
  always = c.always;
  tool = tool_in c.tool c;
}
