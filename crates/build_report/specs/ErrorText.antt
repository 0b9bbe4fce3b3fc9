-- What is said of a manifest that is refused.
use Rattle.std.specs.Prelude.{ℕ, List, ◌++◌, codes, decimal}
use Rattle.file_info.specs.Content.{node_text}
use Rattle.file_info.specs.declared.node.NodeName.{NodeName}
use Rattle.yaml_profile.specs.declared.error.Feature.{Feature}
use Rattle.yaml_profile.specs.declared.error.Feature.TheVariants.{Anchor, Alias, Tag, Directive, Documents, BlockScalar, ManyLines, ExplicitKey, Compact}
use Rattle.yaml_profile.specs.declared.error.YamlError.{YamlError}
use Rattle.yaml_profile.specs.declared.error.YamlError.TheVariants as yaml
use Rattle.manifest_values.specs.declared.refusal.Counted.{Counted}
use Rattle.manifest_values.specs.declared.refusal.Counted.TheVariants.{Targets, Commands, Inputs, Outputs, Patterns, DepsFiles}
use Rattle.manifest_reader.specs.declared.error.LoadError.{LoadError}
use Rattle.manifest_reader.specs.declared.error.LoadError.TheVariants as load
use Rattle.build_report.specs.Escape.{at_byte, show}

-- what the profile leaves out, by its name
abbrev pub feature_text : Feature → List ℕ
feature_text Anchor = codes "anchor"
feature_text Alias = codes "alias"
feature_text Tag = codes "tag"
feature_text Directive = codes "directive"
feature_text Documents = codes "documents"
feature_text BlockScalar = codes "block scalar"
feature_text ManyLines = codes "many lines"
feature_text ExplicitKey = codes "explicit key"
feature_text Compact = codes "compact"

-- what the profile leaves out, and where
abbrev pub left_out_text : Feature → ℕ → List ℕ
left_out_text feature at = at_byte (codes "left out") at ++ codes ": " ++ feature_text feature

-- why a text has no tree. Want of memory is an end of its own, and never stands here.
abbrev pub yaml_text : YamlError → List ℕ
yaml_text yaml.TooLong = codes "too long"
yaml_text (yaml.NotUtf8 at) = at_byte (codes "not UTF-8") at
yaml_text (yaml.LeftOut feature at) = left_out_text feature at
yaml_text (yaml.Indent at) = at_byte (codes "indentation") at
yaml_text (yaml.TooDeep at) = at_byte (codes "too deep") at
yaml_text (yaml.RepeatedKey at) = at_byte (codes "repeated key") at
yaml_text (yaml.Syntax at) = at_byte (codes "syntax") at
yaml_text yaml.NoMemory = codes "out of memory"

-- the name of what a limit counts
abbrev pub counted_text : Counted → List ℕ
counted_text Targets = codes "targets"
counted_text Commands = codes "commands"
counted_text Inputs = codes "inputs"
counted_text Outputs = codes "outputs"
counted_text Patterns = codes "patterns"
counted_text DepsFiles = codes "dependency files"

-- which limit is passed
abbrev pub limit_text : Counted → ℕ → List ℕ
limit_text what limit = codes "more than " ++ decimal limit ++ codes " " ++ counted_text what

-- which client a manifest names
abbrev pub client_text : List ℕ → List ℕ → List ℕ
client_text name version = codes "wrong client " ++ show name ++ codes " version " ++ show version

-- two commands
unfoldable pub pair_text : List ℕ → List ℕ → List ℕ
pair_text first second = show first ++ codes " and " ++ show second

-- which commands make a node
abbrev pub makers_text : NodeName → List ℕ → List ℕ → List ℕ
makers_text node first second = show (node_text node) ++ codes " is made by " ++ pair_text first second

-- which output is a directory
abbrev pub directory_text : List ℕ → List ℕ → List ℕ
directory_text command node = codes "directory output " ++ show node ++ codes " in " ++ show command

-- which dependency file is something else too
abbrev pub deps_text : List ℕ → List ℕ → List ℕ
deps_text command path = codes "dependency file " ++ show path ++ codes " of " ++ show command ++ codes " is also something else"

-- what is wrong in an owner
abbrev pub text_in : List ℕ → List ℕ → List ℕ → List ℕ
text_in what name owner = what ++ show name ++ codes " in " ++ show owner

-- why a manifest is not loaded. Want of memory is an end of its own, and never stands here.
abbrev pub load_text : LoadError → List ℕ
load_text (load.Yaml error) = yaml_text error
load_text load.NoClient = codes "no client"
load_text (load.WrongClient name version) = client_text name version
load_text (load.UnknownSection name) = codes "unknown section " ++ show name
load_text (load.SectionOrder section) = codes "section " ++ show section ++ codes " is out of order"
load_text (load.UnknownTool owner tool) = text_in (codes "unknown tool ") tool owner
load_text (load.UnknownAttribute owner name) = text_in (codes "unknown attribute ") name owner
load_text (load.BadAttribute owner name) = text_in (codes "bad attribute ") name owner
load_text (load.BadPath owner text) = text_in (codes "bad path ") text owner
load_text (load.Limit what limit) = limit_text what limit
load_text (load.UnknownDefault name) = codes "unknown default " ++ show name
load_text (load.TwoMakers node first second) = makers_text node first second
load_text (load.DirectoryOutput command node) = directory_text command node
load_text (load.DepsClash command path) = deps_text command path
load_text load.NoMemory = codes "out of memory"
