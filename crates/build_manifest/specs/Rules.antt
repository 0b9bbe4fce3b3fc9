-- The rules over the whole manifest, and the first that is broken.
use Rattle.std.specs.Prelude.{ℕ, Bool, List, [], ◌∷◌, ◌++◌, ◌||◌, cond, if◌then◌else◌, take, map, Option, Some, None, Result, Ok, Err, bytes_eq}
use Rattle.std.specs.List.{list_any}
use Rattle.std.specs.Option.{option_or}
use Rattle.file_info.specs.declared.node.NodeName.{NodeName}
use Rattle.build_manifest.specs.declared.command.Command.{Command}
use Rattle.build_manifest.specs.declared.command.TargetEntry.{TargetEntry}
use Rattle.build_manifest.specs.declared.draft.DirectoryOutput.{DirectoryOutput}
use Rattle.build_manifest.specs.declared.draft.Draft.{Draft}
use Rattle.build_manifest.specs.declared.fault.RuleFault.{RuleFault}
use Rattle.build_manifest.specs.declared.fault.RuleFault.TheVariants as faults
use Rattle.build_manifest.specs.Manifest.{ManifestLists, lists_of}
use Rattle.build_manifest.specs.Places.{is_node, is_used, maker_name, target_place}

-- the first fault, or what comes where there is none
abbrev pub first : Option RuleFault → Option RuleFault → Option RuleFault
first found next = option_or found next

-- the fault of a default that no target has
abbrev pub default_fault : List TargetEntry → Option (List ℕ) → Option RuleFault
default_fault targets None = None
default_fault targets (Some name) = elim (target_place targets name) [ None ↦ Some (faults.UnknownDefault name) | Some place ↦ None ]

-- the place of the default
abbrev pub default_place_of : List TargetEntry → Option (List ℕ) → Option ℕ
default_place_of targets None = None
default_place_of targets (Some name) = target_place targets name

-- the command that makes the node already: one of those before, or this one by one of these outputs of its own
abbrev pub earlier_maker : List Command → List ℕ → List NodeName → NodeName → Option (List ℕ)
earlier_maker before name own node = option_or (maker_name before node) (cond (list_any (is_node node) own) (Some name) None)

-- the fault of the outputs of a command that has these outputs too, after those commands
abbrev pub makers_fault : List Command → List ℕ → List NodeName → List NodeName → Option RuleFault
makers_fault before name own [] = None
makers_fault before name own (n ∷ ns) = elim (earlier_maker before name own n)
    [ Some maker ↦ Some (faults.TwoMakers n maker name) | None ↦ makers_fault before name (own ++ n ∷ []) ns ]

-- the outputs before the first that is a directory
abbrev pub before_directory : Option DirectoryOutput → List NodeName → List NodeName
before_directory None outputs = outputs
before_directory (Some directory) outputs = take directory.place outputs

-- the fault of an output that is a directory
abbrev pub directory_fault : List ℕ → Option DirectoryOutput → Option RuleFault
directory_fault name None = None
directory_fault name (Some directory) = Some (faults.DirectoryOutput name directory.written)

-- the first fault of the outputs of a command, after those commands
abbrev pub draft_fault : List Command → Draft → Option RuleFault
draft_fault before d =
    first (makers_fault before d.command.name [] (before_directory d.directory d.command.outputs)) (directory_fault d.command.name d.directory)

-- the first fault of the outputs of these commands, after those
abbrev pub outputs_fault : List Command → List Draft → Option RuleFault
outputs_fault before [] = None
outputs_fault before (d ∷ ds) = first (draft_fault before d) (outputs_fault (before ++ d.command ∷ []) ds)

-- the first fault of the dependency files of a command, where these are named before: one is a node, or is named before
abbrev pub deps_fault : (List ℕ → Bool) → List (List ℕ) → List ℕ → List (List ℕ) → Option RuleFault
deps_fault used named name [] = None
deps_fault used named name (p ∷ ps) =
    if used p || list_any (bytes_eq p) named then Some (faults.DepsClash name p) else deps_fault used (named ++ p ∷ []) name ps

-- the first fault of the dependency files of these commands, where those are named before
abbrev pub all_deps_fault : (List ℕ → Bool) → List (List ℕ) → List Command → Option RuleFault
all_deps_fault used named [] = None
all_deps_fault used named (c ∷ cs) = first (deps_fault used named c.name c.deps) (all_deps_fault used (named ++ c.deps) cs)

-- the commands of drafts
abbrev pub commands_of : List Draft → List Command
commands_of drafts = map (λ (d : Draft). d.command) drafts

-- the first rule that is broken: the default, then the outputs, then the dependency files
abbrev pub rule_fault : List TargetEntry → Option (List ℕ) → List Draft → Option RuleFault
rule_fault targets default drafts =
    first (default_fault targets default)
    (first (outputs_fault [] drafts) (all_deps_fault (is_used targets (commands_of drafts)) [] (commands_of drafts)))

-- the manifest of these targets and commands, or the first rule that is broken
unfoldable pub ruled : List TargetEntry → Option (List ℕ) → List Draft → Result ManifestLists RuleFault
ruled targets default drafts = elim (rule_fault targets default drafts) [
  | Some fault ↦ Err fault
  | None ↦ Ok (lists_of targets (default_place_of targets default) (commands_of drafts))
]
