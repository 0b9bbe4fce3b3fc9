-- The nodes and paths of a command's lists.
use Rattle.std.proofs.Common.{◌≡◌, ◌≤◌, ℕ, ◌+◌, ◌-◌, Bool, true, false, not, ◌&&◌, List, [], map, length, Some, Ok, refl, sym, subst, ap, ◌∙◌, arith}
use Rattle.std.proofs.lemmas.Bool.{true≢false}
use Rattle.std.proofs.lemmas.List.{length-map}
use Rattle.file_info.specs.Lists.{In}
use Rattle.file_info.specs.declared.node.NodeName.{NodeName}
use Rattle.file_info.proofs.Lists.{In-map-back}
use Rattle.yaml_profile.specs.Tree.{IsTree}
use Rattle.yaml_profile.specs.Weight.{weight}
use Rattle.yaml_profile.specs.declared.yaml.Yaml.{Yaml}
use Rattle.build_manifest.specs.Command.{AreInputs, IsNode, is_virtual}
use Rattle.build_manifest.specs.declared.command.Command.{Command}
use Rattle.build_manifest.specs.declared.command.Input.{Input}
use Rattle.build_manifest.specs.declared.command.Tool.{Tool}
use Rattle.manifest_values.specs.declared.refusal.Refusal.{Refusal}
use Rattle.manifest_values.specs.declared.refusal.Refusal.TheVariants.{Limit}
use Rattle.manifest_values.specs.declared.refusal.Counted.TheVariants.{Inputs}
use Rattle.manifest_reader.specs.Commands.{asks_nothing, nodes_of, inputs_of, follow_of, outputs_of, deps_of, paths_of}
use Rattle.manifest_values.specs.Known.{Facts, is_virtual_text}
use Rattle.manifest_values.specs.Nodes.{input_of, path_of}
use Rattle.manifest_values.specs.Shapes.{texts_of}
use Rattle.manifest_values.specs.Values.{has_item}
use Rattle.manifest_reader.proofs.GivenLemmas.{test_given, found_given, within_given, each_given}
use Rattle.manifest_reader.proofs.NodeLemmas.{AreEntries, input_read, input_virtual, read_node}
use Rattle.manifest_reader.proofs.ShapeLemmas.{texts_fine}
use Rattle.manifest_reader.proofs.ValueLemmas.{no_items, ArePaths, paths_fine}

-- nodes of a list: each read as it may be, and no more than the limit
pub record AreNodes (most : ℕ) (nodes : List Input) : Type 0 where
  pub few : length nodes ≤ most
  pub read : AreInputs nodes

nodes_fine : (most : ℕ) (limit : Refusal) (facts : Facts) (owner : List ℕ) (texts : List (List ℕ)) (nodes : List Input) → AreEntries facts
    → nodes_of most limit facts owner texts ≡ Ok nodes → AreNodes most nodes
nodes_fine most limit facts owner texts nodes entries e =
    let (all, few) = within_given most limit (input_of facts owner) texts nodes e in
    record {
      few = few;
      read = λ i there.
          let (t, j, made) = each_given (input_of facts owner) texts nodes all i there in
          input_read facts owner t i entries made;
    }

no_nodes : (most : ℕ) (limit : Refusal) (facts : Facts) (owner : List ℕ) (nodes : List Input) → nodes_of most limit facts owner [] ≡ Ok nodes
    → nodes ≡ []
no_nodes most limit facts owner nodes e =
    let (all, few) = within_given most limit (input_of facts owner) [] nodes e in
    let is : [] ≡ nodes = cc all in
    sym is

-- the inputs of a command
pub record AreCommandInputs (t : Tool) (c : Command) (nodes : List Input) : Type 0 where
  pub few : length nodes + length c.follow ≤ 65536
  pub read : AreInputs nodes
  pub none : asks_nothing t ≡ true → nodes ≡ []

not-both : (a b : Bool) → not (a && b) ≡ true → a ≡ true → b ≡ false
not-both true true e f = absurd (true≢false (sym e))
not-both true false e f = refl
not-both false b e f = absurd (true≢false (sym f))

-- the inputs that are put into a command
pub inputs_fine : (facts : Facts) (t : Tool) (c : Command) (tree : Yaml) (nodes : List Input) → AreEntries facts → c.tool ≡ t
    → length c.follow ≤ 65536
    → inputs_of facts c tree ≡ Ok nodes → AreCommandInputs t c nodes
unfolding inputs_of
inputs_fine facts t c tree nodes entries of_tool room e =
    let (texts, read, e1) = found_given _ (texts_of tree) _ nodes e in
    let (test, given) = test_given (not (asks_nothing c.tool && has_item texts)) _ _ nodes e1 in
    let fine = nodes_fine (65536 - length c.follow) (Limit Inputs 65536) facts c.name texts nodes entries given in
    let few = fine.few in
    record {
      few = omega arith;
      read = fine.read;
      none = λ h.
          let empty : texts ≡ [] = no_items texts (not-both (asks_nothing c.tool) (has_item texts) test (ap asks_nothing of_tool ∙ h)) in
          let read_of = λ (ts : List (List ℕ)). nodes_of (65536 - length c.follow) (Limit Inputs 65536) facts c.name ts in
          no_nodes (65536 - length c.follow) (Limit Inputs 65536) facts c.name nodes (subst (λ ts. read_of ts ≡ Ok nodes) empty given);
    }

-- the must-follow nodes that are put into a command
pub follow_fine : (facts : Facts) (c : Command) (tree : Yaml) (nodes : List Input) → AreEntries facts → follow_of facts c tree ≡ Ok nodes
    → AreNodes (65536 - length c.inputs) nodes
unfolding follow_of
follow_fine facts c tree nodes entries e =
    let (texts, read, given) = found_given _ (texts_of tree) _ nodes e in
    nodes_fine (65536 - length c.inputs) _ facts c.name texts nodes entries given

-- each text of the list names a virtual node
abbrev pub AreVirtual : Facts → Yaml → Type 0
AreVirtual facts tree = (texts : List (List ℕ)) → texts_of tree ≡ Some texts → (text : List ℕ) → In text texts → is_virtual_text facts text ≡ true

-- the outputs of a command
pub record AreOutputs (facts : Facts) (tree : Yaml) (nodes : List NodeName) : Type 0 where
  pub few : length nodes ≤ 65536
  pub each : (n : NodeName) → In n nodes → IsNode n
  pub virtual : AreVirtual facts tree → (n : NodeName) → In n nodes → is_virtual n ≡ true

-- the outputs that are put into a command
pub outputs_fine : (facts : Facts) (c : Command) (tree : Yaml) (nodes : List Input) → AreEntries facts → outputs_of facts c tree ≡ Ok nodes
    → AreOutputs facts tree (map (λ (o : Input). o.node) nodes)
unfolding outputs_of
outputs_fine facts c tree nodes entries e =
    let (texts, read, given) = found_given _ (texts_of tree) _ nodes e in
    let fine = nodes_fine 65536 _ facts c.name texts nodes entries given in
    let (all, few) = within_given 65536 _ (input_of facts c.name) texts nodes given in
    let as_many : length (map (λ (o : Input). o.node) nodes) ≡ length nodes = length-map nodes (λ (o : Input). o.node) in
    record {
      few = omega arith;
      each = λ n there.
          let (i, j, is) = In-map-back (λ (o : Input). o.node) n nodes there in
          subst IsNode (sym is) (read_node i.node i.form (fine.read i j));
      virtual = λ v n there.
          let (i, j, is) = In-map-back (λ (o : Input). o.node) n nodes there in
          let (text, k, made) = each_given (input_of facts c.name) texts nodes all i j in
          ap is_virtual is ∙ input_virtual facts c.name text i (v texts read text k) made;
    }

-- the dependency files that are put into a command
pub deps_fine : (depth : ℕ) (c : Command) (tree : Yaml) (paths : List (List ℕ)) → IsTree depth tree → deps_of c tree ≡ Ok paths
    → (length paths ≤ 16) × ArePaths (weight depth tree) paths
unfolding deps_of
deps_fine depth c tree paths h e =
    let (texts, read, given) = found_given _ (texts_of tree) _ paths e in
    let (all, few) = within_given 16 _ (path_of c.name) texts paths given in
    (few, paths_fine (weight depth tree) c.name texts paths (texts_fine depth tree texts h read) all)

-- the paths of a removal
pub removal_fine : (depth : ℕ) (name : List ℕ) (c : Command) (tree : Yaml) (paths : List (List ℕ)) → IsTree depth tree
    → paths_of name c tree ≡ Ok paths → ArePaths (weight depth tree) paths
unfolding paths_of
removal_fine depth name c tree paths h e =
    let (texts, read, all) = found_given _ (texts_of tree) _ paths e in
    paths_fine (weight depth tree) c.name texts paths (texts_fine depth tree texts h read) all
