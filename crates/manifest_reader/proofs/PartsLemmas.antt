-- The parts of a tree keep what the targets and commands of a manifest keep.
use Rattle.std.proofs.Common.{◌≡◌, ◌≤◌, ℕ, Bool, true, false, not, List, [], ◌∷◌, map, length, Some, Ok, refl, sym, subst, ap, ◌∙◌, arith}
use Rattle.std.specs.Prelude.{bytes_eq, codes, nat_lt}
use Rattle.std.specs.List.{list_any}
use Rattle.std.proofs.lemmas.Bool.{and_from, not_from_false}
use Rattle.std.proofs.lemmas.List.{length-map}
use Rattle.std.proofs.lemmas.Slice.Eq.{bytes_eq-Decides}
use Rattle.file_info.specs.Lists.{In, IsDistinct}
use Rattle.file_info.proofs.Lists.{In-map-back, any-some}
use Rattle.yaml_profile.specs.Tree.{name_of, value_of, IsTree}
use Rattle.yaml_profile.specs.Weight.{total, pair_weight, weight}
use Rattle.yaml_profile.specs.declared.yaml.Yaml.{Yaml}
use Rattle.yaml_profile.specs.declared.yaml.Pair.{Pair}
use Rattle.build_manifest.specs.Command.{IsCommand, IsTarget}
use Rattle.build_manifest.specs.Distinct.{differ}
use Rattle.build_manifest.specs.Manifest.{AreParts}
use Rattle.build_manifest.specs.Places.{target_names, command_names}
use Rattle.build_manifest.specs.Rules as rules
use Rattle.build_manifest.specs.declared.command.Command.{Command}
use Rattle.build_manifest.specs.declared.command.TargetEntry.{TargetEntry}
use Rattle.build_manifest.specs.declared.draft.Draft.{Draft}
use Rattle.manifest_values.specs.declared.refusal.Refusal.TheVariants.{UnknownSection, SectionOrder}
use Rattle.manifest_reader.specs.declared.sections.Parts.{Parts}
use Rattle.manifest_reader.specs.declared.sections.Section.{Section}
use Rattle.manifest_reader.specs.declared.sections.Section.TheVariants as section
use Rattle.manifest_reader.specs.Commands.{draft_of}
use Rattle.manifest_values.specs.Known.{Facts, facts_of}
use Rattle.manifest_values.specs.Nodes.{input_of}
use Rattle.manifest_values.specs.Shapes.{pairs_of, texts_of, value_named}
use Rattle.manifest_reader.specs.Sections.{client_checked, tools_checked, target_nodes, target_of, targets_of, default_of, nodes_checked, commands_of, section_named, rank, with_section, section_read, no_parts, parts_in, parts_of}
use Rattle.manifest_values.specs.Texts.{is_name}
use Rattle.manifest_reader.proofs.DraftLemmas.{AreKnown, IsDraft, draft_fine}
use Rattle.manifest_reader.proofs.GivenLemmas.{both_given, test_given, found_given, each_given, each_same, within_given, fold_keeps}
use Rattle.manifest_reader.proofs.KnownLemmas.{section_pairs-is, entries_fine, outputs_known}
use Rattle.manifest_reader.proofs.NodeLemmas.{AreEntries, input_read}
use Rattle.manifest_reader.proofs.RowLemmas.{commands_named}
use Rattle.manifest_reader.proofs.ShapeLemmas.{total_in, ArePairs, pairs_below}

-- ---- names

no_other : (name : List ℕ) (names : List (List ℕ)) → (In name names → ⊥) → list_any (bytes_eq name) names ≡ false
no_other name names none = go (list_any (bytes_eq name) names) refl
  where
    go : (b : Bool) → list_any (bytes_eq name) names ≡ b → list_any (bytes_eq name) names ≡ false
    go true e =
        let (other, i, same) = any-some (bytes_eq name) names e in
        absurd (none (subst (λ n. In n names) (sym ((bytes_eq-Decides name other).0 same)) i))
    go false e = e

-- names of which none stands twice differ
names_differ : (names : List (List ℕ)) → IsDistinct names → differ bytes_eq names ≡ true
names_differ [] d = refl
names_differ (n ∷ names) d =
    let alone = not_from_false (list_any (bytes_eq n) names) (no_other n names d.0) in
    and_from (not (list_any (bytes_eq n) names)) (differ bytes_eq names) alone (names_differ names d.1)

-- ---- targets

target_fine : (facts : Facts) (p : Pair) (t : TargetEntry) → AreEntries facts → target_of facts p ≡ Ok t → (t.name ≡ name_of p) × IsTarget t
unfolding target_of
target_fine facts p t entries e =
    let (name, e1) = test_given (is_name (name_of p)) _ _ t e in
    let (nodes, listed, last) = both_given (target_nodes facts (name_of p) (value_of p)) _ t e1 in
    let (texts, read, given) = found_given _ (texts_of (value_of p)) _ nodes listed in
    let (all, few) = within_given 65536 _ (input_of facts (name_of p)) texts nodes given in
    let made : TargetEntry = record { name = name_of p; nodes = nodes } in
    let is : made ≡ t = cc last in
    let fine : IsTarget made = record {
      few_nodes = few;
      nodes = λ i there.
          let (text, j, from) = each_given (input_of facts (name_of p)) texts nodes all i there in
          input_read facts (name_of p) text i entries from;
    } in
    subst (λ (x : TargetEntry). (x.name ≡ name_of p) × IsTarget x) is (refl, fine)

-- targets that are such as they may be
record AreTargets (targets : List TargetEntry) : Type 0 where
  few : length targets ≤ 65536
  names : differ bytes_eq (target_names targets) ≡ true
  fine : (t : TargetEntry) → In t targets → IsTarget t

targets_fine : (facts : Facts) (depth : ℕ) (tree : Yaml) (targets : List TargetEntry) → AreEntries facts → IsTree depth tree
    → targets_of facts tree ≡ Ok targets → AreTargets targets
unfolding targets_of
targets_fine facts depth tree targets entries fine e =
    let (ps, read, given) = found_given _ (pairs_of tree) _ targets e in
    let (all, few) = within_given 65536 _ (target_of facts) ps targets given in
    let below = pairs_below depth tree ps fine read in
    let pairs = below.fine in
    let names : target_names targets ≡ map name_of ps =
    each_same (target_of facts) name_of (λ (t : TargetEntry). t.name) ps targets (λ p t i made. (target_fine facts p t entries made).0) all in
    record {
      few = few;
      names = ap (differ bytes_eq) names ∙ names_differ (map name_of ps) pairs.distinct;
      fine = λ t there. let (p, i, made) = each_given (target_of facts) ps targets all t there in (target_fine facts p t entries made).1;
    }

-- ---- commands

-- drafts whose commands are such as they may be
record AreDrafts (drafts : List Draft) : Type 0 where
  few : length (rules.commands_of drafts) ≤ 262144
  names : differ bytes_eq (command_names (rules.commands_of drafts)) ≡ true
  fine : (c : Command) → In c (rules.commands_of drafts) → IsCommand c

draft_names : (drafts : List Draft) → command_names (rules.commands_of drafts) ≡ map (λ (d : Draft). d.command.name) drafts
draft_names [] = refl
draft_names (d ∷ drafts) = ap (λ (ns : List (List ℕ)). d.command.name ∷ ns) (draft_names drafts)

commands_fine : (facts : Facts) (depth : ℕ) (tree : Yaml) (drafts : List Draft) → AreEntries facts
    → ((ps : List Pair) → pairs_of tree ≡ Some ps → (p : Pair) → In p ps → AreKnown facts p) → IsTree depth tree → weight depth tree ≤ 67108865
    → commands_of facts tree ≡ Ok drafts → AreDrafts drafts
unfolding commands_of
commands_fine facts depth tree drafts entries known fine light e =
    let (ps, read, given) = found_given _ (pairs_of tree) _ drafts e in
    let (all, few) = within_given 262144 _ (draft_of facts) ps drafts given in
    let below = pairs_below depth tree ps fine read in
    let pairs = below.fine in
    let heavy = below.weighs in
    let each : (p : Pair) (d : Draft) → In p ps → draft_of facts p ≡ Ok d → IsDraft p d =
    λ p d i made. draft_fine facts below.below p d entries (known ps read p i) (pairs.values p i)
    (let most = total_in (pair_weight (weight below.below)) p ps i in omega arith) made in
    let names : map (λ (d : Draft). d.command.name) drafts ≡ map name_of ps =
    each_same (draft_of facts) name_of (λ (d : Draft). d.command.name) ps drafts (λ p d i made. (each p d i made).named) all in
    let as_many : length (rules.commands_of drafts) ≡ length drafts = length-map drafts (λ (d : Draft). d.command) in
    record {
      few = omega arith;
      names = ap (differ bytes_eq) (draft_names drafts ∙ names) ∙ names_differ (map name_of ps) pairs.distinct;
      fine = λ c there.
          let (d, i, is) = In-map-back (λ (x : Draft). x.command) c drafts there in
          let (p, j, made) = each_given (draft_of facts) ps drafts all d i in
          subst IsCommand (sym is) (each p d j made).fine;
    }

-- ---- sections

-- what the parts that were read so far keep
abbrev AreKept : Parts → Type 0
AreKept parts = AreParts parts.targets (rules.commands_of parts.drafts)

none_kept : AreKept no_parts
none_kept = record {
  few_targets = omega arith;
  few_commands = omega arith;
  target_names = refl;
  command_names = refl;
  each_target = λ t i. absurd i;
  each_command = λ c i. absurd i;
}

-- what is needed to read a section
record IsSection (facts : Facts) (s : Section) (depth : ℕ) (tree : Yaml) : Type 0 where
  entries : AreEntries facts
  fine : IsTree depth tree
  light : weight depth tree ≤ 67108865
  known : s ≡ section.Commands → (ps : List Pair) → pairs_of tree ≡ Some ps → (p : Pair) → In p ps → AreKnown facts p

-- a section keeps it
with_section_keeps : (facts : Facts) (s : Section) (depth : ℕ) (tree : Yaml) (c d : Parts) → IsSection facts s depth tree → AreKept c
    → with_section facts c s tree ≡ Ok d → AreKept d
with_section_keeps facts section.Client depth tree c d h kept e =
    let (u, checked, last) = both_given (client_checked tree) _ d e in
    let is : c ≡ d = cc last in
    subst AreKept is kept
with_section_keeps facts section.Tools depth tree c d h kept e =
    let (u, checked, last) = both_given (tools_checked tree) _ d e in
    let is : c ≡ d = cc last in
    subst AreKept is kept
with_section_keeps facts section.Targets depth tree c d h kept e =
    let (targets, read, last) = both_given (targets_of facts tree) _ d e in
    let new = targets_fine facts depth tree targets h.entries h.fine read in
    let made : Parts = record c { targets = targets } in
    let is : made ≡ d = cc last in
    let now : AreKept made = record {
      few_targets = new.few;
      few_commands = kept.few_commands;
      target_names = new.names;
      command_names = kept.command_names;
      each_target = new.fine;
      each_command = kept.each_command;
    } in
    subst AreKept is now
with_section_keeps facts section.Default depth tree c d h kept e =
    let (name, read, last) = both_given (default_of tree) _ d e in
    let made : Parts = record c { default_name = Some name } in
    let is : made ≡ d = cc last in
    let now : AreKept made = kept in
    subst AreKept is now
with_section_keeps facts section.Nodes depth tree c d h kept e =
    let (u, checked, last) = both_given (nodes_checked facts tree) _ d e in
    let is : c ≡ d = cc last in
    subst AreKept is kept
with_section_keeps facts section.Commands depth tree c d h kept e =
    let (drafts, read, last) = both_given (commands_of facts tree) _ d e in
    let new = commands_fine facts depth tree drafts h.entries (h.known refl) h.fine h.light read in
    let made : Parts = record c { drafts = drafts } in
    let is : made ≡ d = cc last in
    let now : AreKept made = record {
      few_targets = kept.few_targets;
      few_commands = new.few;
      target_names = kept.target_names;
      command_names = new.names;
      each_target = kept.each_target;
      each_command = new.fine;
    } in
    subst AreKept is now

-- the pairs of a whole tree, all sections of which were read
record AreSections (pairs : List Pair) (depth : ℕ) : Type 0 where
  fine : ArePairs depth pairs
  light : total (pair_weight (weight depth)) pairs ≤ 67108865
  entries : AreEntries (facts_of pairs)

section_keeps : (pairs : List Pair) (depth : ℕ) (c d : Parts) (p : Pair) → AreSections pairs depth → In p pairs → AreKept c
    → section_read (facts_of pairs) c p ≡ Ok d → AreKept d
unfolding section_read
section_keeps pairs depth c d p h i kept e =
    let (s, found, e1) = found_given (UnknownSection (name_of p)) (section_named (name_of p)) _ d e in
    let (order, e2) = test_given (not (nat_lt (rank s) c.rank)) (SectionOrder (name_of p)) _ d e1 in
    let most = total_in (pair_weight (weight depth)) p pairs i in
    let all = h.light in
    let fine = h.fine in
    let is_section : IsSection (facts_of pairs) s depth (value_of p) = record {
      entries = h.entries;
      fine = fine.values p i;
      light = omega arith;
      known = λ is ps read q j.
          let named : name_of p ≡ codes "commands" = commands_named (name_of p) (subst (λ t. section_named (name_of p) ≡ Some t) is found) in
          outputs_known pairs q (subst (In q) (sym (section_pairs-is pairs depth fine p (codes "commands") ps i named read)) j);
    } in
    let now : AreKept (record c { rank = rank s }) = kept in
    with_section_keeps (facts_of pairs) s depth (value_of p) (record c { rank = rank s }) d is_section now e2

parts_in-kept : (pairs : List Pair) (depth : ℕ) (parts : Parts) → ArePairs depth pairs → total (pair_weight (weight depth)) pairs ≤ 67108865
    → parts_in pairs ≡ Ok parts → AreKept parts
unfolding parts_in
parts_in-kept pairs depth parts fine light e =
    let (client, there, all) = found_given _ (value_named (codes "client") pairs) _ parts e in
    let sections : AreSections pairs depth = record { fine = fine; light = light; entries = entries_fine pairs depth parts fine all } in
    fold_keeps AreKept (section_read (facts_of pairs)) no_parts pairs parts
    (λ c d p i kept read. section_keeps pairs depth c d p sections i kept read) none_kept all

-- the parts of a tree that weighs no more than a text may keep what the targets and commands of a manifest keep
pub parts_kept : (tree : Yaml) (parts : Parts) → IsTree 64 tree → weight 64 tree ≤ 67108865 → parts_of tree ≡ Ok parts
    → AreParts parts.targets (rules.commands_of parts.drafts)
unfolding parts_of
parts_kept tree parts fine light e =
    let (pairs, read, all) = found_given _ (pairs_of tree) parts_in parts e in
    let below = pairs_below 64 tree pairs fine read in
    let heavy = below.weighs in
    parts_in-kept pairs below.below parts below.fine (omega arith) all
