-- What a command keeps while its attributes are put into it.
use Rattle.std.proofs.Common.{◌≡◌, ◌≤◌, ℕ, ◌+◌, Bool, true, false, not, List, [], map, length, None, Some, Ok, refl, sym, subst, ◌∙◌, arith}
use Rattle.std.specs.Prelude.{codes}
use Rattle.std.proofs.lemmas.Bool.{not-true, true≢false}
use Rattle.file_info.specs.Lists.{In}
use Rattle.file_info.specs.Normal.{IsPath}
use Rattle.file_info.specs.declared.node.NodeName.{NodeName}
use Rattle.yaml_profile.specs.Tree.{IsTree}
use Rattle.yaml_profile.specs.declared.yaml.Yaml.{Yaml}
use Rattle.build_manifest.specs.Command.{bare_command, AreInputs, IsNode, IsProgram, IsVariable, MakesNoFile, has_nul}
use Rattle.build_manifest.specs.declared.command.Args.{Args}
use Rattle.build_manifest.specs.declared.command.Args.TheVariants.{Absent, Words, Line}
use Rattle.build_manifest.specs.declared.command.Command.{Command}
use Rattle.build_manifest.specs.declared.command.EnvPair.{EnvPair}
use Rattle.build_manifest.specs.declared.command.Input.{Input}
use Rattle.build_manifest.specs.declared.command.Tool.{Tool}
use Rattle.build_manifest.specs.declared.draft.Draft.{Draft}
use Rattle.manifest_reader.specs.declared.attributes.Attribute.{Attribute}
use Rattle.manifest_reader.specs.declared.attributes.Attribute.TheVariants as attribute
use Rattle.manifest_reader.specs.Commands.{asks_nothing, inputs_of, follow_of, outputs_of, with_outputs, deps_of, paths_of, put}
use Rattle.manifest_values.specs.Known.{Facts}
use Rattle.manifest_values.specs.Shapes.{text_of, flag_of}
use Rattle.manifest_values.specs.Values.{exactly, program_of, variables_of, link_of}
use Rattle.manifest_reader.proofs.GivenLemmas.{both_given, found_given}
use Rattle.manifest_reader.proofs.NodeLemmas.{AreEntries}
use Rattle.manifest_reader.proofs.NodeListLemmas.{inputs_fine, follow_fine, AreVirtual, outputs_fine, deps_fine, removal_fine}
use Rattle.manifest_reader.proofs.RowLemmas.{is_shell, is_symlink, makes_nothing, has}
use Rattle.manifest_reader.proofs.ValueLemmas.{program_fine, variables_fine, link_fine}

-- no program yet, or a program
abbrev pub MayRun : Args → Type 0
MayRun Absent = Unit {0}
MayRun (Words words) = IsProgram (Words words)
MayRun (Line line) = IsProgram (Line line)

may_run : (a : Args) → IsProgram a → MayRun a
may_run Absent h = tt
may_run (Words words) h = h
may_run (Line line) h = h

-- what holds of a command of the tool at each moment while its attributes are put into it
pub record IsSoFar (name : List ℕ) (t : Tool) (c : Command) : Type 0 where
  pub named : c.name ≡ name
  pub tool : c.tool ≡ t
  pub few_nodes : length c.inputs + length c.follow ≤ 65536
  pub few_outputs : length c.outputs ≤ 65536
  pub few_deps : length c.deps ≤ 16
  pub inputs : AreInputs c.inputs
  pub follow : AreInputs c.follow
  pub outputs : (n : NodeName) → In n c.outputs → IsNode n
  pub args : MayRun c.args
  pub env : (v : EnvPair) → In v c.env → IsVariable v
  pub deps : (p : List ℕ) → In p c.deps → IsPath p
  pub contents : has_nul c.contents ≡ false
  pub expected : (p : List ℕ) → In p c.expected → IsPath p
  pub roots : (p : List ℕ) → In p c.roots → IsPath p
  pub no_args : is_shell t ≡ false → c.args ≡ Absent
  pub no_env : is_shell t ≡ false → c.env ≡ []
  pub inherits : is_shell t ≡ false → c.inherit_env ≡ true
  pub no_deps : is_shell t ≡ false → c.deps ≡ []
  pub no_signature : is_shell t ≡ false → c.signature ≡ None
  pub no_contents : is_symlink t ≡ false → c.contents ≡ []
  pub no_expected : asks_nothing t ≡ false → c.expected ≡ []
  pub no_roots : asks_nothing t ≡ false → c.roots ≡ []
  pub no_inputs : asks_nothing t ≡ true → c.inputs ≡ []
  pub no_follow : asks_nothing t ≡ true → c.follow ≡ []
  pub not_missing : asks_nothing t ≡ true → c.allow_missing ≡ false
  pub not_always : asks_nothing t ≡ true → c.always ≡ false
  pub no_file : makes_nothing t ≡ true → MakesNoFile c

-- it holds at the start
pub bare_so_far : (name : List ℕ) (t : Tool) → IsSoFar name t (bare_command name t)
bare_so_far name t = record {
  named = refl;
  tool = refl;
  few_nodes = omega arith;
  few_outputs = omega arith;
  few_deps = omega arith;
  inputs = λ i there. absurd there;
  follow = λ i there. absurd there;
  outputs = λ i there. absurd there;
  args = tt;
  env = λ i there. absurd there;
  deps = λ i there. absurd there;
  contents = refl;
  expected = λ i there. absurd there;
  roots = λ i there. absurd there;
  no_args = λ e. refl;
  no_env = λ e. refl;
  inherits = λ e. refl;
  no_deps = λ e. refl;
  no_signature = λ e. refl;
  no_contents = λ e. refl;
  no_expected = λ e. refl;
  no_roots = λ e. refl;
  no_inputs = λ e. refl;
  no_follow = λ e. refl;
  not_missing = λ e. refl;
  not_always = λ e. refl;
  no_file = λ e n there. absurd there;
}

-- ---- attributes

excluded : {A : Type 0} (b : Bool) → b ≡ true → b ≡ false → A
excluded b e f = absurd (true≢false (sym e ∙ f))

excluded-not : {A : Type 0} (b : Bool) → not b ≡ true → b ≡ true → A
excluded-not b e f = excluded b f (not-true b e)

-- an attribute keeps what holds so far
pub put_keeps : (facts : Facts) (name : List ℕ) (t : Tool) (d e : Draft) (a : Attribute) (depth : ℕ) (tree : Yaml) → AreEntries facts
    → IsTree depth tree → has a t ≡ true
    → (a ≡ attribute.Outputs → makes_nothing t ≡ true → AreVirtual facts tree) → IsSoFar name t d.command → put facts d a tree ≡ Ok e
    → IsSoFar name t e.command
put_keeps facts name t d e attribute.Tool depth tree entries fine own virtual h given =
    let is : d ≡ e = cc given in
    subst (λ (x : Draft). IsSoFar name t x.command) is h
put_keeps facts name t d e attribute.Inputs depth tree entries fine own virtual h given =
    let (v, read, last) = both_given (inputs_of facts d.command tree) _ e given in
    let few = h.few_nodes in
    let new = inputs_fine facts t d.command tree v entries h.tool (omega arith) read in
    let command : Command = record d.command { inputs = v } in
    let made : IsSoFar name t command = assumption (new.few, new.read, new.none) in
    let is : (record d { command = command }) ≡ e = cc last in
    subst (λ (x : Draft). IsSoFar name t x.command) is made
put_keeps facts name t d e attribute.Outputs depth tree entries fine own virtual h given =
    let (v, read, last) = both_given (outputs_of facts d.command tree) _ e given in
    let new = outputs_fine facts d.command tree v entries read in
    let nodes : List NodeName = map (λ (o : Input). o.node) v in
    let command : Command = record d.command { outputs = nodes } in
    let none : makes_nothing t ≡ true → MakesNoFile command = λ m. new.virtual (virtual refl m) in
    let made : IsSoFar name t command = assumption (new.few, new.each, none) in
    let is : with_outputs d v ≡ e = cc last in
    subst (λ (x : Draft). IsSoFar name t x.command) is made
put_keeps facts name t d e attribute.Description depth tree entries fine own virtual h given =
    let (v, read, last) = found_given _ (text_of tree) _ e given in
    let command : Command = record d.command { description = Some v } in
    let made : IsSoFar name t command = assumption (h.no_file) in
    let is : (record d { command = command }) ≡ e = cc last in
    subst (λ (x : Draft). IsSoFar name t x.command) is made
put_keeps facts name t d e attribute.MustFollow depth tree entries fine own virtual h given =
    let (v, read, last) = both_given (follow_of facts d.command tree) _ e given in
    let few = h.few_nodes in
    let new = follow_fine facts d.command tree v entries read in
    let room = new.few in
    let both : length d.command.inputs + length v ≤ 65536 = omega arith in
    let none : asks_nothing t ≡ true → v ≡ [] = excluded-not (asks_nothing t) own in
    let command : Command = record d.command { follow = v } in
    let made : IsSoFar name t command = assumption (both, new.read, none) in
    let is : (record d { command = command }) ≡ e = cc last in
    subst (λ (x : Draft). IsSoFar name t x.command) is made
put_keeps facts name t d e attribute.AllowMissingInputs depth tree entries fine own virtual h given =
    let (v, read, last) = found_given _ (flag_of tree) _ e given in
    let none : asks_nothing t ≡ true → v ≡ false = excluded-not (asks_nothing t) own in
    let command : Command = record d.command { allow_missing = v } in
    let made : IsSoFar name t command = assumption (none) in
    let is : (record d { command = command }) ≡ e = cc last in
    subst (λ (x : Draft). IsSoFar name t x.command) is made
put_keeps facts name t d e attribute.AlwaysOutOfDate depth tree entries fine own virtual h given =
    let (v, read, last) = found_given _ (flag_of tree) _ e given in
    let none : asks_nothing t ≡ true → v ≡ false = excluded-not (asks_nothing t) own in
    let command : Command = record d.command { always = v } in
    let made : IsSoFar name t command = assumption (none) in
    let is : (record d { command = command }) ≡ e = cc last in
    subst (λ (x : Draft). IsSoFar name t x.command) is made
put_keeps facts name t d e attribute.Args depth tree entries fine own virtual h given =
    let (v, read, last) = found_given _ (program_of tree) _ e given in
    let new : MayRun v = may_run v (program_fine depth tree v fine read).0 in
    let none : is_shell t ≡ false → v ≡ Absent = excluded (is_shell t) own in
    let command : Command = record d.command { args = v } in
    let made : IsSoFar name t command = assumption (new, none) in
    let is : (record d { command = command }) ≡ e = cc last in
    subst (λ (x : Draft). IsSoFar name t x.command) is made
put_keeps facts name t d e attribute.Env depth tree entries fine own virtual h given =
    let (v, read, last) = found_given _ (variables_of tree) _ e given in
    let new = variables_fine depth tree v fine read in
    let none : is_shell t ≡ false → v ≡ [] = excluded (is_shell t) own in
    let command : Command = record d.command { env = v } in
    let made : IsSoFar name t command = assumption (new.each, none) in
    let is : (record d { command = command }) ≡ e = cc last in
    subst (λ (x : Draft). IsSoFar name t x.command) is made
put_keeps facts name t d e attribute.Deps depth tree entries fine own virtual h given =
    let (v, read, last) = both_given (deps_of d.command tree) _ e given in
    let (few, new) = deps_fine depth d.command tree v fine read in
    let none : is_shell t ≡ false → v ≡ [] = excluded (is_shell t) own in
    let command : Command = record d.command { deps = v } in
    let made : IsSoFar name t command = assumption (few, new.each, none) in
    let is : (record d { command = command }) ≡ e = cc last in
    subst (λ (x : Draft). IsSoFar name t x.command) is made
put_keeps facts name t d e attribute.DepsStyle depth tree entries fine own virtual h given =
    let (v, read, last) = found_given _ (exactly (codes "makefile") tree) _ e given in
    let is : d ≡ e = cc last in
    subst (λ (x : Draft). IsSoFar name t x.command) is h
put_keeps facts name t d e attribute.InheritEnv depth tree entries fine own virtual h given =
    let (v, read, last) = found_given _ (flag_of tree) _ e given in
    let none : is_shell t ≡ false → v ≡ true = excluded (is_shell t) own in
    let command : Command = record d.command { inherit_env = v } in
    let made : IsSoFar name t command = assumption (none) in
    let is : (record d { command = command }) ≡ e = cc last in
    subst (λ (x : Draft). IsSoFar name t x.command) is made
put_keeps facts name t d e attribute.Signature depth tree entries fine own virtual h given =
    let (v, read, last) = found_given _ (text_of tree) _ e given in
    let none : is_shell t ≡ false → Some v ≡ None = excluded (is_shell t) own in
    let command : Command = record d.command { signature = Some v } in
    let made : IsSoFar name t command = assumption (none) in
    let is : (record d { command = command }) ≡ e = cc last in
    subst (λ (x : Draft). IsSoFar name t x.command) is made
put_keeps facts name t d e attribute.Contents depth tree entries fine own virtual h given =
    let (v, read, last) = found_given _ (link_of tree) _ e given in
    let new = link_fine depth tree v read in
    let none : is_symlink t ≡ false → v ≡ [] = excluded (is_symlink t) own in
    let command : Command = record d.command { contents = v } in
    let made : IsSoFar name t command = assumption (new.no_nul, none) in
    let is : (record d { command = command }) ≡ e = cc last in
    subst (λ (x : Draft). IsSoFar name t x.command) is made
put_keeps facts name t d e attribute.ExpectedOutputs depth tree entries fine own virtual h given =
    let (v, read, last) = both_given (paths_of (codes "expectedOutputs") d.command tree) _ e given in
    let new = removal_fine depth (codes "expectedOutputs") d.command tree v fine read in
    let none : asks_nothing t ≡ false → v ≡ [] = excluded (asks_nothing t) own in
    let command : Command = record d.command { expected = v } in
    let made : IsSoFar name t command = assumption (new.each, none) in
    let is : (record d { command = command }) ≡ e = cc last in
    subst (λ (x : Draft). IsSoFar name t x.command) is made
put_keeps facts name t d e attribute.Roots depth tree entries fine own virtual h given =
    let (v, read, last) = both_given (paths_of (codes "roots") d.command tree) _ e given in
    let new = removal_fine depth (codes "roots") d.command tree v fine read in
    let none : asks_nothing t ≡ false → v ≡ [] = excluded (asks_nothing t) own in
    let command : Command = record d.command { roots = v } in
    let made : IsSoFar name t command = assumption (new.each, none) in
    let is : (record d { command = command }) ≡ e = cc last in
    subst (λ (x : Draft). IsSoFar name t x.command) is made
