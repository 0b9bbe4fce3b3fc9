-- What contracts see of a manifest, what it keeps, and what its tables say of its lists.
use Rattle.std.specs.Prelude.{◌≡◌, ◌<◌, ◌≤◌, ℕ, false, IsTrue, IfSome, List, length, Option, slice_get, bytes_eq}
use Rattle.std.specs.Option.{option_and_then}
use Rattle.std.specs.declared.string.String.{String}
use Rattle.indexmap.specs.IndexMap.{IndexMap, get_by_text}
use Rattle.file_info.specs.Lists.{In}
use Rattle.file_info.specs.declared.node.NodeName.{NodeName}
use Rattle.build_manifest.specs.declared.command.Command.{Command}
use Rattle.build_manifest.specs.declared.command.TargetEntry.{TargetEntry}
use Rattle.build_manifest.specs.declared.makers.Makers.{Makers}
use Rattle.build_manifest.specs.Command.{IsCommand, IsTarget}
use Rattle.build_manifest.specs.Distinct.{differ}
use Rattle.build_manifest.specs.Makers.{noted_maker}
use Rattle.build_manifest.specs.Places.{command_place, target_place, maker_of, deps_place, is_node, is_used, target_names, command_names, all_outputs, all_deps}

-- what contracts see of a manifest: targets and commands in the order of the file, and the place of the target that is built
-- where none is named
pub record ManifestLists : Type 0 where
  pub targets : List TargetEntry
  pub default_place : Option ℕ
  pub commands : List Command

-- what contracts see of these targets, this place and these commands
abbrev pub lists_of : List TargetEntry → Option ℕ → List Command → ManifestLists
lists_of targets place commands = record { targets = targets; default_place = place; commands = commands }

-- the target that is built where none is named
abbrev pub default_of : List TargetEntry → Option ℕ → Option TargetEntry
default_of targets place = option_and_then (slice_get targets) place

-- what targets and commands keep one by one: at most 65,536 targets and 262,144 commands, no name twice, and each of them such
-- as it may be
pub record AreParts (targets : List TargetEntry) (commands : List Command) : Type 0 where
  pub few_targets : length targets ≤ 65536
  pub few_commands : length commands ≤ 262144
  pub target_names : IsTrue (differ bytes_eq (target_names targets))
  pub command_names : IsTrue (differ bytes_eq (command_names commands))
  pub each_target : (t : TargetEntry) → In t targets → IsTarget t
  pub each_command : (c : Command) → In c commands → IsCommand c

-- what every manifest keeps: its parts are such as they may be, its default is one of its targets, each node has one maker at
-- most, and no dependency file is a node or the dependency file of two commands
pub record IsManifest (m : ManifestLists) : Type 0 where
  pub parts : AreParts m.targets m.commands
  pub default_place : IfSome m.default_place (λ place. place < length m.targets)
  pub one_maker : IsTrue (differ is_node (all_outputs m.commands))
  pub one_owner : IsTrue (differ bytes_eq (all_deps m.commands))
  pub no_node : (p : List ℕ) → In p (all_deps m.commands) → is_used m.targets m.commands p ≡ false

-- each table of a manifest answers what a walk over its lists would
pub record IsIndexed {A B C S R Q : Type 0} (m : ManifestLists) (target_places : IndexMap (String A) ℕ S)
    (command_places : IndexMap (String B) ℕ R) (makers : Makers) (deps_places : IndexMap (String C) ℕ Q) : Type 0 where
  pub targets_placed : (name : List ℕ) → get_by_text target_places name ≡ target_place m.targets name
  pub commands_placed : (name : List ℕ) → get_by_text command_places name ≡ command_place m.commands name
  pub makers_noted : (node : NodeName) → noted_maker makers node ≡ maker_of m.commands node
  pub deps_placed : (path : List ℕ) → get_by_text deps_places path ≡ deps_place m.commands path
