-- Whether an input, a node or a command is plain, and whether a maker stands late, as tests.
use Rattle.std.specs.Prelude.{◌&&◌, ℕ, Bool, true, false, not, nat_le, List, [], ◌∷◌, Option, Some, None}
use Rattle.std.specs.List.{list_all}
use Rattle.std.specs.Option.{is_none}
use Rattle.file_info.specs.declared.node.NodeName.{NodeName}
use Rattle.file_info.specs.declared.node.NodeName.TheVariants as node
use Rattle.build_manifest.specs.declared.command.Command.{Command}
use Rattle.build_manifest.specs.declared.command.Input.{Input}
use Rattle.build_manifest.specs.declared.command.InputForm.{InputForm}
use Rattle.build_manifest.specs.declared.command.InputForm.TheVariants as form
use Rattle.build_manifest.specs.declared.command.Tool.{Tool}
use Rattle.build_manifest.specs.declared.command.Tool.TheVariants as tools

-- whether the node is a file
abbrev pub is_file_node : NodeName → Bool
is_file_node (node.Path path) = true
is_file_node (node.Virtual name) = false

-- whether it is the form of a file
abbrev pub is_file_form : InputForm → Bool
is_file_form form.File = true
is_file_form form.Virtual = false
is_file_form (form.Tree patterns) = false
is_file_form (form.Structure patterns) = false

-- whether the input is a file, read as one
abbrev pub is_file_input : Input → Bool
is_file_input input = is_file_node input.node && is_file_form input.form

-- whether the tool runs a program
abbrev pub is_shell : Tool → Bool
is_shell tools.Phony = false
is_shell tools.Shell = true
is_shell tools.Mkdir = false
is_shell tools.Symlink = false
is_shell tools.Archive = false
is_shell tools.StaleFileRemoval = false

-- whether the list has no item
abbrev pub has_none : {A : Type 0} → List A → Bool
has_none [] = true
has_none (x ∷ xs) = false

-- whether a shell command has files alone as its nodes, and follows none
abbrev pub has_plain_nodes : Command → Bool
has_plain_nodes c = is_shell c.tool && list_all is_file_input c.inputs && has_none c.follow && list_all is_file_node c.outputs

-- whether nothing is said of what is run but the program
abbrev pub has_plain_program : Command → Bool
has_plain_program c = has_none c.env && c.inherit_env && has_none c.deps && is_none c.signature

-- whether nothing is said of when it is run
abbrev pub has_plain_flags : Command → Bool
has_plain_flags c = not c.allow_missing && not c.always

-- whether the command is plain
abbrev pub is_plain : Command → Bool
is_plain c = has_plain_nodes c && has_plain_program c && has_plain_flags c

-- whether the maker of a node stands at this place or after it
abbrev pub is_from : ℕ → Option ℕ → Bool
is_from place None = false
is_from place (Some maker) = nat_le place maker
