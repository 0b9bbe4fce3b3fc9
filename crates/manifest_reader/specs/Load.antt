-- What loading a text answers.
use Rattle.std.specs.Prelude.{ℕ, List, Result, Ok, Err}
use Rattle.yaml_profile.specs.Read.{yaml_of}
use Rattle.yaml_profile.specs.declared.yaml.Yaml.{Yaml}
use Rattle.yaml_profile.specs.declared.error.YamlError.{YamlError}
use Rattle.yaml_profile.specs.declared.error.YamlError.TheVariants as yaml
use Rattle.build_manifest.specs.Manifest.{ManifestLists}
use Rattle.build_manifest.specs.Rules.{ruled}
use Rattle.build_manifest.specs.declared.fault.RuleFault.{RuleFault}
use Rattle.build_manifest.specs.declared.fault.RuleFault.TheVariants as rule
use Rattle.manifest_reader.specs.declared.error.LoadError.{LoadError}
use Rattle.manifest_reader.specs.declared.error.LoadError.TheVariants as load
use Rattle.manifest_values.specs.declared.refusal.Refusal.{Refusal}
use Rattle.manifest_values.specs.declared.refusal.Refusal.TheVariants as refusal
use Rattle.manifest_values.specs.declared.refusal.Stop.{Stop}
use Rattle.manifest_values.specs.declared.refusal.Stop.TheVariants as stop
use Rattle.manifest_reader.specs.declared.sections.Parts.{Parts}
use Rattle.manifest_values.specs.Refusal.{Given}
use Rattle.manifest_reader.specs.Sections.{parts_of}

-- what the refusal of a text is for a manifest
abbrev pub unread : YamlError → LoadError
unread yaml.NoMemory = load.NoMemory
unread yaml.TooLong = load.Yaml yaml.TooLong
unread (yaml.NotUtf8 at) = load.Yaml (yaml.NotUtf8 at)
unread (yaml.LeftOut feature at) = load.Yaml (yaml.LeftOut feature at)
unread (yaml.Indent at) = load.Yaml (yaml.Indent at)
unread (yaml.TooDeep at) = load.Yaml (yaml.TooDeep at)
unread (yaml.RepeatedKey at) = load.Yaml (yaml.RepeatedKey at)
unread (yaml.Syntax at) = load.Yaml (yaml.Syntax at)

-- what the refusal of a part is for a manifest
abbrev pub error_of : Refusal → LoadError
error_of refusal.NoClient = load.NoClient
error_of (refusal.WrongClient name version) = load.WrongClient name version
error_of (refusal.UnknownSection name) = load.UnknownSection name
error_of (refusal.SectionOrder name) = load.SectionOrder name
error_of (refusal.UnknownTool owner tool) = load.UnknownTool owner tool
error_of (refusal.UnknownAttribute owner name) = load.UnknownAttribute owner name
error_of (refusal.BadAttribute owner name) = load.BadAttribute owner name
error_of (refusal.BadPath owner text) = load.BadPath owner text
error_of (refusal.Limit what limit) = load.Limit what limit

-- what a stop is for a manifest
abbrev pub stopped : Stop → LoadError
stopped stop.Memory = load.NoMemory
stopped (stop.Refused r) = error_of r

-- what a broken rule is for a manifest
abbrev pub broken : RuleFault → LoadError
broken (rule.UnknownDefault name) = load.UnknownDefault name
broken (rule.DirectoryOutput command node) = load.DirectoryOutput command node
broken (rule.TwoMakers node first second) = load.TwoMakers node first second
broken (rule.DepsClash command path) = load.DepsClash command path
broken rule.NoMemory = load.NoMemory

-- the manifest by the rules over the whole, or the first that is broken
abbrev pub of_rules : Result ManifestLists RuleFault → Result ManifestLists LoadError
of_rules (Err fault) = Err (broken fault)
of_rules (Ok lists) = Ok lists

-- the manifest of the parts of a tree: a part's refusal first, and then the rules
abbrev pub of_parts : Given Parts → Result ManifestLists LoadError
of_parts (Err refusal) = Err (error_of refusal)
of_parts (Ok parts) = of_rules (ruled parts.targets parts.default_name parts.drafts)

-- the manifest of what was read: the reader's refusal first, and then those of the parts
abbrev pub of_reading : Result Yaml YamlError → Result ManifestLists LoadError
of_reading (Err refusal) = Err (load.Yaml refusal)
of_reading (Ok tree) = of_parts (parts_of tree)

-- the manifest of a text: the reader's refusal first, then those of the parts, then the rules
unfoldable pub loaded : List ℕ → Result ManifestLists LoadError
loaded bytes = of_reading (yaml_of bytes)
