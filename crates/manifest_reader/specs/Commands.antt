-- The commands of a manifest, each read alone.
use Rattle.std.specs.Prelude.{ℕ, suc, ◌-◌, ◌==◌, Bool, true, false, not, ◌&&◌, ◌||◌, List, [], ◌∷◌, length, map, if◌then◌else◌, Option, Some, None, Ok, Err, codes}
use Rattle.std.specs.Option.{option_or}
use Rattle.file_info.specs.declared.node.NodeName.{NodeName}
use Rattle.yaml_profile.specs.Tree.{name_of, value_of}
use Rattle.yaml_profile.specs.declared.yaml.Yaml.{Yaml}
use Rattle.yaml_profile.specs.declared.yaml.Pair.{Pair}
use Rattle.build_manifest.specs.Command.{bare_command, files_in}
use Rattle.build_manifest.specs.declared.command.Args.TheVariants.{Absent, Words, Line}
use Rattle.build_manifest.specs.declared.command.Command.{Command}
use Rattle.build_manifest.specs.declared.command.Input.{Input}
use Rattle.build_manifest.specs.declared.command.InputForm.{InputForm}
use Rattle.build_manifest.specs.declared.command.InputForm.TheVariants as form
use Rattle.build_manifest.specs.declared.command.Tool.{Tool}
use Rattle.build_manifest.specs.declared.command.Tool.TheVariants as tools
use Rattle.build_manifest.specs.declared.draft.DirectoryOutput.{DirectoryOutput}
use Rattle.build_manifest.specs.declared.draft.Draft.{Draft}
use Rattle.manifest_reader.specs.declared.attributes.Attribute.{Attribute}
use Rattle.manifest_reader.specs.declared.attributes.Attribute.TheVariants as attribute
use Rattle.manifest_values.specs.declared.refusal.Counted.TheVariants.{Inputs, Outputs, DepsFiles}
use Rattle.manifest_values.specs.declared.refusal.Refusal.{Refusal}
use Rattle.manifest_values.specs.declared.refusal.Refusal.TheVariants.{BadAttribute, BadPath, UnknownAttribute, UnknownTool, Limit}
use Rattle.manifest_values.specs.Known.{Facts}
use Rattle.manifest_values.specs.Nodes.{input_of, path_of}
use Rattle.manifest_values.specs.Refusal.{Given, ◌>>=◌, given_if, given_or, each, each_within, fold}
use Rattle.manifest_reader.specs.Rows.{attribute_of, tool_named}
use Rattle.manifest_values.specs.Shapes.{text_of, pairs_of, texts_of, flag_of, value_named, ◌then◌}
use Rattle.manifest_values.specs.Texts.{is_name}
use Rattle.manifest_values.specs.Values.{has_item, program_of, variables_of, link_of, exactly}

-- the command of this name and this tool of which nothing else is said, before the rules over the whole
abbrev pub bare_draft : List ℕ → Tool → Draft
bare_draft name tool = record { command = bare_command name tool; directory = None }

-- the refusal of an attribute of the command by its shape
abbrev pub bad : Command → List ℕ → Refusal
bad c name = BadAttribute c.name name

-- the value of a shape that is due at the attribute of this name
abbrev pub shaped : {A : Type 0} → (Yaml → Option A) → Command → List ℕ → Yaml → Given A
shaped shape c name tree = given_or (bad c name) (shape tree)

-- the nodes of a list, of which there may be so many
abbrev pub nodes_of : ℕ → Refusal → Facts → List ℕ → List (List ℕ) → Given (List Input)
nodes_of most limit facts owner texts = each_within most limit (input_of facts owner) texts

-- whether the tool is `stale-file-removal`, which has no input
abbrev pub asks_nothing : Tool → Bool
asks_nothing tools.Phony = false
asks_nothing tools.Shell = false
asks_nothing tools.Mkdir = false
asks_nothing tools.Symlink = false
asks_nothing tools.Archive = false
asks_nothing tools.StaleFileRemoval = true

-- `inputs`: with the must-follow nodes at most 65,536
unfoldable pub inputs_of : Facts → Command → Yaml → Given (List Input)
inputs_of facts c tree = shaped texts_of c (codes "inputs") tree >>= λ texts.
    given_if (not (asks_nothing c.tool && has_item texts)) (bad c (codes "inputs"))
    (nodes_of (65536 - length c.follow) (Limit Inputs 65536) facts c.name texts)

-- `must-follow`: with the inputs at most 65,536
unfoldable pub follow_of : Facts → Command → Yaml → Given (List Input)
follow_of facts c tree = shaped texts_of c (codes "must-follow") tree >>= λ texts.
    nodes_of (65536 - length c.inputs) (Limit Inputs 65536) facts c.name texts

-- `outputs`: at most 65,536
unfoldable pub outputs_of : Facts → Command → Yaml → Given (List Input)
outputs_of facts c tree = shaped texts_of c (codes "outputs") tree >>= λ texts. nodes_of 65536 (Limit Outputs 65536) facts c.name texts

-- whether the node is read as a directory
abbrev pub is_directory : InputForm → Bool
is_directory form.File = false
is_directory form.Virtual = false
is_directory (form.Tree patterns) = true
is_directory (form.Structure patterns) = true

-- the output at this place, where it is a directory
abbrev pub directory_at : ℕ → List ℕ → InputForm → Option DirectoryOutput
directory_at place written form = if is_directory form then Some (record { place = place; written = written }) else None

-- the first of the outputs from this place on that is a directory
abbrev pub directory_from : ℕ → List Input → Option DirectoryOutput
directory_from place [] = None
directory_from place (o ∷ os) = option_or (directory_at place o.written o.form) (directory_from (suc place) os)

-- the draft with these outputs
abbrev pub with_outputs : Draft → List Input → Draft
with_outputs d outputs = record {
  command = record d.command { outputs = map (λ (o : Input). o.node) outputs };
  directory = directory_from 0 outputs;
}

-- `deps`: at most 16 paths
unfoldable pub deps_of : Command → Yaml → Given (List (List ℕ))
deps_of c tree = shaped texts_of c (codes "deps") tree >>= λ texts. each_within 16 (Limit DepsFiles 16) (path_of c.name) texts

-- the paths of this attribute
unfoldable pub paths_of : List ℕ → Command → Yaml → Given (List (List ℕ))
paths_of name c tree = shaped texts_of c name tree >>= λ texts. each (path_of c.name) texts

-- the draft with these inputs
abbrev pub put_inputs : Facts → Draft → Yaml → Given Draft
put_inputs facts d tree = inputs_of facts d.command tree >>= λ v. Ok (record d { command = record d.command { inputs = v } })

-- the draft with these must-follow nodes
abbrev pub put_follow : Facts → Draft → Yaml → Given Draft
put_follow facts d tree = follow_of facts d.command tree >>= λ v. Ok (record d { command = record d.command { follow = v } })

-- the draft with the outputs of a list
abbrev pub put_outputs : Facts → Draft → Yaml → Given Draft
put_outputs facts d tree = outputs_of facts d.command tree >>= λ v. Ok (with_outputs d v)

-- the draft with this description
abbrev pub put_description : Draft → Yaml → Given Draft
put_description d tree =
    shaped text_of d.command (codes "description") tree >>= λ v. Ok (record d { command = record d.command { description = Some v } })

-- the draft with this signature
abbrev pub put_signature : Draft → Yaml → Given Draft
put_signature d tree = shaped text_of d.command (codes "signature") tree >>= λ v. Ok (record d { command = record d.command { signature = Some v } })

-- the draft with this flag for missing inputs
abbrev pub put_allow_missing : Draft → Yaml → Given Draft
put_allow_missing d tree =
    shaped flag_of d.command (codes "allow-missing-inputs") tree >>= λ v. Ok (record d { command = record d.command { allow_missing = v } })

-- the draft with this flag for each build
abbrev pub put_always : Draft → Yaml → Given Draft
put_always d tree = shaped flag_of d.command (codes "always-out-of-date") tree >>= λ v. Ok (record d { command = record d.command { always = v } })

-- the draft with this flag for the environment of the build
abbrev pub put_inherit_env : Draft → Yaml → Given Draft
put_inherit_env d tree = shaped flag_of d.command (codes "inherit-env") tree >>= λ v. Ok (record d { command = record d.command { inherit_env = v } })

-- the draft with this program
abbrev pub put_args : Draft → Yaml → Given Draft
put_args d tree = shaped program_of d.command (codes "args") tree >>= λ v. Ok (record d { command = record d.command { args = v } })

-- the draft with these variables
abbrev pub put_env : Draft → Yaml → Given Draft
put_env d tree = shaped variables_of d.command (codes "env") tree >>= λ v. Ok (record d { command = record d.command { env = v } })

-- the draft with these dependency files
abbrev pub put_deps : Draft → Yaml → Given Draft
put_deps d tree = deps_of d.command tree >>= λ v. Ok (record d { command = record d.command { deps = v } })

-- the draft as it is, where its dependency files are read as the only style that there is
abbrev pub put_deps_style : Draft → Yaml → Given Draft
put_deps_style d tree = shaped (exactly (codes "makefile")) d.command (codes "deps-style") tree >>= λ v. Ok d

-- the draft with this text of its link
abbrev pub put_contents : Draft → Yaml → Given Draft
put_contents d tree = shaped link_of d.command (codes "contents") tree >>= λ v. Ok (record d { command = record d.command { contents = v } })

-- the draft with these paths that stay
abbrev pub put_expected : Draft → Yaml → Given Draft
put_expected d tree = paths_of (codes "expectedOutputs") d.command tree >>= λ v. Ok (record d { command = record d.command { expected = v } })

-- the draft with these places of a removal
abbrev pub put_roots : Draft → Yaml → Given Draft
put_roots d tree = paths_of (codes "roots") d.command tree >>= λ v. Ok (record d { command = record d.command { roots = v } })

-- the draft with this attribute
abbrev pub put : Facts → Draft → Attribute → Yaml → Given Draft
put facts d attribute.Tool tree = Ok d
put facts d attribute.Inputs tree = put_inputs facts d tree
put facts d attribute.Outputs tree = put_outputs facts d tree
put facts d attribute.Description tree = put_description d tree
put facts d attribute.MustFollow tree = put_follow facts d tree
put facts d attribute.AllowMissingInputs tree = put_allow_missing d tree
put facts d attribute.AlwaysOutOfDate tree = put_always d tree
put facts d attribute.Args tree = put_args d tree
put facts d attribute.Env tree = put_env d tree
put facts d attribute.Deps tree = put_deps d tree
put facts d attribute.DepsStyle tree = put_deps_style d tree
put facts d attribute.InheritEnv tree = put_inherit_env d tree
put facts d attribute.Signature tree = put_signature d tree
put facts d attribute.Contents tree = put_contents d tree
put facts d attribute.ExpectedOutputs tree = put_expected d tree
put facts d attribute.Roots tree = put_roots d tree

-- the draft with the attribute of a pair
unfoldable pub taken : Facts → Draft → Pair → Given Draft
taken facts d p =
    given_or (UnknownAttribute d.command.name (name_of p)) (attribute_of d.command.tool (name_of p)) >>= λ found. put facts d found (value_of p)

-- the attribute that the command lacks though its tool requires it
abbrev pub missing : Command → Tool → Option (List ℕ)
missing c tools.Phony = None
missing c tools.Shell = elim c.args [ Absent ↦ Some (codes "args") | Words words ↦ None | Line line ↦ None ]
missing c tools.Mkdir = None
missing c tools.Symlink = if has_item c.contents then None else Some (codes "contents")
missing c tools.Archive = None
missing c tools.StaleFileRemoval = None

-- whether the tool makes exactly one file
abbrev pub makes_one_file : Tool → Bool
makes_one_file tools.Phony = false
makes_one_file tools.Shell = false
makes_one_file tools.Mkdir = true
makes_one_file tools.Symlink = true
makes_one_file tools.Archive = true
makes_one_file tools.StaleFileRemoval = false

-- whether exactly one of the nodes is a file
abbrev pub has_one_file : List NodeName → Bool
has_one_file nodes = files_in nodes == 1

-- the draft, where nothing required is missing and a tool that makes exactly one file has one output that is not virtual
unfoldable pub finished : Draft → Given Draft
finished d = elim (missing d.command d.command.tool) [
  | Some name ↦ Err (bad d.command name)
  | None ↦ given_if (not (makes_one_file d.command.tool) || has_one_file d.command.outputs) (bad d.command (codes "outputs")) (Ok d)
]

-- the tool of the command of this name with these attributes
unfoldable pub tool_of : List ℕ → List Pair → Given Tool
tool_of name pairs =
    given_or (BadAttribute name (codes "tool")) (value_named (codes "tool") pairs then text_of) >>= λ text.
    given_or (UnknownTool name text) (tool_named text)

-- the draft of the command of this name and this tool with these attributes
abbrev pub draft_with : Facts → List ℕ → Tool → List Pair → Given Draft
draft_with facts name tool pairs = fold (taken facts) (bare_draft name tool) pairs >>= finished

-- the command of a pair: its name and the mapping of its attributes, in file order after the tool
unfoldable pub draft_of : Facts → Pair → Given Draft
draft_of facts p =
    given_if (is_name (name_of p)) (BadPath (codes "commands") (name_of p))
    (given_or (BadAttribute (codes "commands") (name_of p)) (pairs_of (value_of p)) >>= λ pairs.
    tool_of (name_of p) pairs >>= λ tool. draft_with facts (name_of p) tool pairs)
