-- The sections of a manifest, in file order.
use Rattle.std.specs.Prelude.{ℕ, Bool, ◌&&◌, ◌||◌, not, List, [], length, nat_lt, if◌then◌else◌, Option, Some, None, Ok, Err, bytes_eq, codes}
use Rattle.yaml_profile.specs.Tree.{name_of, value_of}
use Rattle.yaml_profile.specs.declared.yaml.Yaml.{Yaml}
use Rattle.yaml_profile.specs.declared.yaml.Pair.{Pair}
use Rattle.build_manifest.specs.declared.command.Input.{Input}
use Rattle.build_manifest.specs.declared.command.TargetEntry.{TargetEntry}
use Rattle.build_manifest.specs.declared.draft.Draft.{Draft}
use Rattle.manifest_reader.specs.declared.client.Client.{Client}
use Rattle.manifest_values.specs.declared.refusal.Counted.TheVariants.{Targets, Commands, Inputs, Patterns}
use Rattle.manifest_values.specs.declared.refusal.Refusal.{Refusal}
use Rattle.manifest_values.specs.declared.refusal.Refusal.TheVariants.{NoClient, WrongClient, UnknownSection, SectionOrder, BadAttribute, BadPath, UnknownAttribute, UnknownTool, Limit}
use Rattle.manifest_reader.specs.declared.sections.Parts.{Parts}
use Rattle.manifest_reader.specs.declared.sections.Section.{Section}
use Rattle.manifest_reader.specs.declared.sections.Section.TheVariants as section
use Rattle.manifest_reader.specs.Commands.{draft_of}
use Rattle.manifest_values.specs.Known.{Facts, facts_of, is_virtual_text}
use Rattle.manifest_values.specs.Nodes.{input_of}
use Rattle.manifest_values.specs.Refusal.{Given, ◌>>=◌, given_if, given_or, each_within, fold}
use Rattle.manifest_reader.specs.Rows.{tool_named}
use Rattle.manifest_values.specs.Shapes.{text_of, pairs_of, texts_of, flag_of, value_named}
use Rattle.manifest_values.specs.Texts.{is_name, is_path_text}
use Rattle.manifest_values.specs.Values.{exactly, has_item}

-- nothing is kept of the part; it is only checked
abbrev pub Checked : Type 0
Checked = Given (Unit {0})

-- the refusal of a section whose value has another shape
abbrev pub bad_section : List ℕ → Refusal
bad_section name = BadAttribute name name

-- the text of an attribute of the client
abbrev pub client_text : Pair → Given (List ℕ)
client_text p = given_or (BadAttribute (codes "client") (name_of p)) (text_of (value_of p))

-- `client`: what an attribute says
unfoldable pub client_with : Client → Pair → Given Client
client_with client p =
    if bytes_eq (name_of p) (codes "name") then (client_text p >>= λ text. Ok (record client { name = text }))
    else (if bytes_eq (name_of p) (codes "version") then (client_text p >>= λ text. Ok (record client { version = text }))
    else (if bytes_eq (name_of p) (codes "file-system")
    then (given_or (BadAttribute (codes "client") (name_of p)) (exactly (codes "default") (value_of p)) >>= λ text. Ok client)
    else Err (UnknownAttribute (codes "client") (name_of p))))

-- a client of which nothing is said: no name, and the version 0
abbrev pub bare_client : Client
bare_client = record { name = []; version = codes "0" }

-- the client of these attributes
abbrev pub client_of : List Pair → Given Client
client_of pairs = fold client_with bare_client pairs

-- `client`: its attributes, and then whether it is `basic` in the version 0
unfoldable pub client_checked : Yaml → Checked
client_checked tree =
    given_or (bad_section (codes "client")) (pairs_of tree) >>= λ pairs.
    client_of pairs >>= λ client.
    given_if (bytes_eq client.name (codes "basic") && bytes_eq client.version (codes "0")) (WrongClient client.name client.version) (Ok tt)

-- `tools`: a known tool, of which nothing is said
unfoldable pub tool_checked : Unit {0} → Pair → Checked
tool_checked u p =
    given_or (UnknownTool (codes "tools") (name_of p)) (tool_named (name_of p)) >>= λ tool.
    given_or (BadAttribute (codes "tools") (name_of p)) (pairs_of (value_of p)) >>= λ pairs.
    given_if (not (has_item pairs)) (BadAttribute (codes "tools") (name_of p)) (Ok tt)

-- `tools`
unfoldable pub tools_checked : Yaml → Checked
tools_checked tree = given_or (bad_section (codes "tools")) (pairs_of tree) >>= λ pairs. fold tool_checked tt pairs

-- the nodes of the target of this name
abbrev pub target_nodes : Facts → List ℕ → Yaml → Given (List Input)
target_nodes facts name tree =
    given_or (BadAttribute (codes "targets") name) (texts_of tree) >>= λ texts. each_within 65536 (Limit Inputs 65536) (input_of facts name) texts

-- `targets`: a name with its nodes
unfoldable pub target_of : Facts → Pair → Given TargetEntry
target_of facts p =
    given_if (is_name (name_of p)) (BadPath (codes "targets") (name_of p))
    (target_nodes facts (name_of p) (value_of p) >>= λ nodes. Ok (record { name = name_of p; nodes = nodes }))

-- `targets`: at most 65,536
unfoldable pub targets_of : Facts → Yaml → Given (List TargetEntry)
targets_of facts tree = given_or (bad_section (codes "targets")) (pairs_of tree) >>= each_within 65536 (Limit Targets 65536) (target_of facts)

-- `default`: the name of a target
unfoldable pub default_of : Yaml → Given (List ℕ)
default_of tree =
    given_or (bad_section (codes "default")) (text_of tree) >>= λ text. given_if (is_name text) (BadPath (codes "default") text) (Ok text)

-- a pattern is not too long
abbrev pub pattern_checked : Refusal → List ℕ → Checked
pattern_checked refusal pattern = given_if (not (nat_lt 255 (length pattern))) refusal (Ok tt)

-- the patterns of a node: at most 64
unfoldable pub patterns_checked : List ℕ → List ℕ → Yaml → Checked
patterns_checked owner name tree =
    given_or (BadAttribute owner name) (texts_of tree) >>= λ texts.
    each_within 64 (Limit Patterns 64) (pattern_checked (BadAttribute owner name)) texts >>= λ checked. Ok tt

-- whether the name is that of a flag of a node
abbrev pub is_node_flag : List ℕ → Bool
is_node_flag name = bytes_eq name (codes "is-virtual") || bytes_eq name (codes "is-directory") || bytes_eq name (codes "is-directory-structure")

-- `nodes`: an attribute of the entry of this name
unfoldable pub node_attribute_checked : List ℕ → Unit {0} → Pair → Checked
node_attribute_checked owner u p =
    if is_node_flag (name_of p) then (given_or (BadAttribute owner (name_of p)) (flag_of (value_of p)) >>= λ flag. Ok tt)
    else (if bytes_eq (name_of p) (codes "content-exclusion-patterns") then patterns_checked owner (name_of p) (value_of p)
    else Err (UnknownAttribute owner (name_of p)))

-- `nodes`: an entry of this name with these attributes, of which the name is a path where it is not virtual
abbrev pub attributes_checked : Facts → List ℕ → List Pair → Checked
attributes_checked facts name pairs =
    given_if (is_virtual_text facts name || is_path_text name) (BadPath (codes "nodes") name) (fold (node_attribute_checked name) tt pairs)

-- `nodes`: an entry, of which the name is checked, then the shape, then that it is a path where it is not virtual, and then the
-- attributes
unfoldable pub entry_checked : Facts → Unit {0} → Pair → Checked
entry_checked facts u p =
    given_if (is_name (name_of p)) (BadPath (codes "nodes") (name_of p))
    (given_or (BadAttribute (codes "nodes") (name_of p)) (pairs_of (value_of p)) >>= λ pairs. attributes_checked facts (name_of p) pairs)

-- `nodes`
unfoldable pub nodes_checked : Facts → Yaml → Checked
nodes_checked facts tree = given_or (bad_section (codes "nodes")) (pairs_of tree) >>= fold (entry_checked facts) tt

-- `commands`: at most 262,144
unfoldable pub commands_of : Facts → Yaml → Given (List Draft)
commands_of facts tree = given_or (bad_section (codes "commands")) (pairs_of tree) >>= each_within 262144 (Limit Commands 262144) (draft_of facts)

-- the section of this name
unfoldable pub section_named : List ℕ → Option Section
section_named name =
    if bytes_eq name (codes "client") then Some section.Client
    else (if bytes_eq name (codes "tools") then Some section.Tools
    else (if bytes_eq name (codes "targets") then Some section.Targets
    else (if bytes_eq name (codes "default") then Some section.Default
    else (if bytes_eq name (codes "nodes") then Some section.Nodes
    else (if bytes_eq name (codes "commands") then Some section.Commands else None)))))

-- the place of a section in their order
abbrev pub rank : Section → ℕ
rank section.Client = 0
rank section.Tools = 1
rank section.Targets = 2
rank section.Default = 3
rank section.Nodes = 4
rank section.Commands = 5

-- what was read, with the targets of a section
abbrev pub put_targets : Facts → Parts → Yaml → Given Parts
put_targets facts parts tree = targets_of facts tree >>= λ targets. Ok (record parts { targets = targets })

-- what was read, with the default of a section
abbrev pub put_default : Parts → Yaml → Given Parts
put_default parts tree = default_of tree >>= λ name. Ok (record parts { default_name = Some name })

-- what was read, with the commands of a section
abbrev pub put_commands : Facts → Parts → Yaml → Given Parts
put_commands facts parts tree = commands_of facts tree >>= λ drafts. Ok (record parts { drafts = drafts })

-- what was read, with what a section of this value adds
abbrev pub with_section : Facts → Parts → Section → Yaml → Given Parts
with_section facts parts section.Client tree = client_checked tree >>= λ u. Ok parts
with_section facts parts section.Tools tree = tools_checked tree >>= λ u. Ok parts
with_section facts parts section.Targets tree = put_targets facts parts tree
with_section facts parts section.Default tree = put_default parts tree
with_section facts parts section.Nodes tree = nodes_checked facts tree >>= λ u. Ok parts
with_section facts parts section.Commands tree = put_commands facts parts tree

-- what was read, with the section of a pair: it is known, and stands after those that precede it
unfoldable pub section_read : Facts → Parts → Pair → Given Parts
section_read facts parts p =
    given_or (UnknownSection (name_of p)) (section_named (name_of p)) >>= λ section.
    given_if (not (nat_lt (rank section) parts.rank)) (SectionOrder (name_of p))
    (with_section facts (record parts { rank = rank section }) section (value_of p))

-- nothing was read yet
abbrev pub no_parts : Parts
no_parts = record { rank = 0; targets = []; default_name = None; drafts = [] }

-- the parts of a manifest with these sections, which have a `client`
unfoldable pub parts_in : List Pair → Given Parts
parts_in pairs = given_or NoClient (value_named (codes "client") pairs) >>= λ client. fold (section_read (facts_of pairs)) no_parts pairs

-- the parts of the manifest of a tree
unfoldable pub parts_of : Yaml → Given Parts
parts_of tree = given_or NoClient (pairs_of tree) >>= parts_in
