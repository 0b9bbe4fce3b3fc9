-- A manifest that is loaded keeps what its targets and commands keep.
use Rattle.std.proofs.Common.{◌≡◌, ◌≤◌, ◌<◌, ℕ, List, length, Option, None, Some, Result, Ok, Err, ◌⊎◌, inl, inr, refl, subst, arith}
use Rattle.std.specs.Prelude.{IfOk}
use Rattle.std.proofs.lemmas.Bool.{cases_lt}
use Rattle.yaml_profile.specs.Read.{yaml_of}
use Rattle.yaml_profile.specs.Tree.{IsTree}
use Rattle.yaml_profile.specs.Weight.{weight}
use Rattle.yaml_profile.specs.declared.yaml.Yaml.{Yaml}
use Rattle.yaml_profile.specs.declared.error.YamlError.{YamlError}
use Rattle.yaml_profile.specs.declared.error.YamlError.TheVariants.{TooLong}
use Rattle.yaml_profile.proofs.DocumentLemmas.{yaml_of_fine}
use Rattle.yaml_profile.proofs.ReadLemmas.{too_long}
use Rattle.yaml_profile.proofs.WeightTreeLemmas.{read_weighs}
use Rattle.build_manifest.specs.Manifest.{ManifestLists, AreParts, lists_of}
use Rattle.build_manifest.specs.Rules.{ruled, rule_fault, default_place_of, commands_of}
use Rattle.build_manifest.specs.declared.command.TargetEntry.{TargetEntry}
use Rattle.build_manifest.specs.declared.draft.Draft.{Draft}
use Rattle.build_manifest.specs.declared.fault.RuleFault.{RuleFault}
use Rattle.manifest_reader.specs.declared.sections.Parts.{Parts}
use Rattle.manifest_reader.specs.Load.{of_rules, of_parts, of_reading, loaded}
use Rattle.manifest_values.specs.Refusal.{Given}
use Rattle.manifest_reader.specs.Sections.{parts_of}
use Rattle.manifest_reader.proofs.PartsLemmas.{parts_kept}

-- a text that is read is not too long
not_long : (t : List ℕ) (tree : Yaml) → yaml_of t ≡ Ok tree → length t ≤ 67108864
not_long t tree e = go (cases_lt 67108864 (length t))
  where
    go : (67108864 < length t) ⊎ (length t ≤ 67108864) → length t ≤ 67108864
    go (inl long) =
        let refused : yaml_of t ≡ Err TooLong = too_long t long in
        cc (e, refused)
    go (inr short) = short

tree_read : (t : List ℕ) (tree : Yaml) → yaml_of t ≡ Ok tree → IsTree 64 tree
tree_read t tree e =
    let P : Result Yaml YamlError → Type 0 = λ o. IfOk o (IsTree 64) in
    subst P e (yaml_of_fine t)

abbrev ruled_by : List TargetEntry → Option (List ℕ) → List Draft → Option RuleFault → Result ManifestLists RuleFault
ruled_by targets default drafts o = elim o [
  | Some fault ↦ Err fault
  | None ↦ Ok (lists_of targets (default_place_of targets default) (commands_of drafts))
]

-- the lists of a manifest that keeps the rules are those of its parts
ruled-lists : (targets : List TargetEntry) (default : Option (List ℕ)) (drafts : List Draft) (m : ManifestLists) → ruled targets default drafts ≡ Ok m
    → AreParts targets (commands_of drafts) → AreParts m.targets m.commands
unfolding ruled
ruled-lists targets default drafts m e kept = go (rule_fault targets default drafts) e
  where
    go : (o : Option RuleFault) → ruled_by targets default drafts o ≡ Ok m → AreParts m.targets m.commands
    go (Some fault) h = cc h
    go None h =
        let is : lists_of targets (default_place_of targets default) (commands_of drafts) ≡ m = cc h in
        subst (λ (x : ManifestLists). AreParts x.targets x.commands) is kept

rules_given : (r : Result ManifestLists RuleFault) (m : ManifestLists) → of_rules r ≡ Ok m → r ≡ Ok m
rules_given (Err fault) m e = cc e
rules_given (Ok lists) m e = cc e

of_parts-kept : (g : Given Parts) (m : ManifestLists) → ((parts : Parts) → g ≡ Ok parts → AreParts parts.targets (commands_of parts.drafts))
    → of_parts g ≡ Ok m
    → AreParts m.targets m.commands
of_parts-kept (Err refusal) m kept e = cc e
of_parts-kept (Ok parts) m kept e =
    let given = rules_given (ruled parts.targets parts.default_name parts.drafts) m e in
    ruled-lists parts.targets parts.default_name parts.drafts m given (kept parts refl)

-- the parts of a text that is read
pub read_parts_kept : (t : List ℕ) (tree : Yaml) (parts : Parts) → yaml_of t ≡ Ok tree → parts_of tree ≡ Ok parts
    → AreParts parts.targets (commands_of parts.drafts)
read_parts_kept t tree parts read given =
    let heavy = read_weighs t tree read in
    let short = not_long t tree read in
    let light : weight 64 tree ≤ 67108865 = omega arith in
    parts_kept tree parts (tree_read t tree read) light given

of_reading-kept : (t : List ℕ) (r : Result Yaml YamlError) (m : ManifestLists) → yaml_of t ≡ r → of_reading r ≡ Ok m → AreParts m.targets m.commands
of_reading-kept t (Err refusal) m read e = cc e
of_reading-kept t (Ok tree) m read e = of_parts-kept (parts_of tree) m (λ parts given. read_parts_kept t tree parts read given) e

-- a manifest that is loaded has targets and commands that are such as they may be
pub loaded_kept : (bytes : List ℕ) (m : ManifestLists) → loaded bytes ≡ Ok m → AreParts m.targets m.commands
unfolding loaded
loaded_kept bytes m e = of_reading-kept bytes (yaml_of bytes) m refl e
