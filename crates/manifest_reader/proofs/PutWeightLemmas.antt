-- What is put into a command weighs no more than the values of its attributes.
use Rattle.std.proofs.Common.{◌≡◌, ◌≤◌, ℕ, ◌+◌, Some, Ok, subst, arith}
use Rattle.std.specs.Prelude.{codes}
use Rattle.yaml_profile.specs.Tree.{IsTree}
use Rattle.yaml_profile.specs.Weight.{weight}
use Rattle.yaml_profile.specs.declared.yaml.Yaml.{Yaml}
use Rattle.build_manifest.specs.Command.{own_weight}
use Rattle.build_manifest.specs.declared.draft.Draft.{Draft}
use Rattle.manifest_reader.specs.declared.attributes.Attribute.{Attribute}
use Rattle.manifest_reader.specs.declared.attributes.Attribute.TheVariants as attribute
use Rattle.manifest_reader.specs.Commands.{inputs_of, follow_of, outputs_of, with_outputs, deps_of, paths_of, put}
use Rattle.manifest_values.specs.Known.{Facts}
use Rattle.manifest_values.specs.Shapes.{text_of, flag_of}
use Rattle.manifest_values.specs.Values.{exactly, program_of, variables_of, link_of}
use Rattle.manifest_reader.proofs.GivenLemmas.{both_given, found_given}
use Rattle.manifest_reader.proofs.NodeListLemmas.{removal_fine}
use Rattle.manifest_reader.proofs.ShapeLemmas.{text_weighs}
use Rattle.manifest_reader.proofs.ValueLemmas.{program_fine, variables_fine, link_fine}

-- an attribute adds no more than its value weighs
pub put_weighs : (facts : Facts) (d e : Draft) (a : Attribute) (depth : ℕ) (tree : Yaml) → IsTree depth tree → put facts d a tree ≡ Ok e
    → own_weight e.command ≤ own_weight d.command + weight depth tree
put_weighs facts d e attribute.Tool depth tree fine given =
    let is : d ≡ e = cc given in
    subst (λ (x : Draft). own_weight x.command ≤ own_weight d.command + weight depth tree) is (omega arith)
put_weighs facts d e attribute.Inputs depth tree fine given =
    let (v, read, last) = both_given (inputs_of facts d.command tree) _ e given in
    let made : Draft = record d { command = record d.command { inputs = v } } in
    let is : made ≡ e = cc last in
    let light : own_weight made.command ≤ own_weight d.command + weight depth tree = omega arith in
    subst (λ (x : Draft). own_weight x.command ≤ own_weight d.command + weight depth tree) is light
put_weighs facts d e attribute.Outputs depth tree fine given =
    let (v, read, last) = both_given (outputs_of facts d.command tree) _ e given in
    let made : Draft = with_outputs d v in
    let is : made ≡ e = cc last in
    let light : own_weight made.command ≤ own_weight d.command + weight depth tree = omega arith in
    subst (λ (x : Draft). own_weight x.command ≤ own_weight d.command + weight depth tree) is light
put_weighs facts d e attribute.Description depth tree fine given =
    let (v, read, last) = found_given _ (text_of tree) _ e given in
    let made : Draft = record d { command = record d.command { description = Some v } } in
    let is : made ≡ e = cc last in
    let light : own_weight made.command ≤ own_weight d.command + weight depth tree = omega arith in
    subst (λ (x : Draft). own_weight x.command ≤ own_weight d.command + weight depth tree) is light
put_weighs facts d e attribute.MustFollow depth tree fine given =
    let (v, read, last) = both_given (follow_of facts d.command tree) _ e given in
    let made : Draft = record d { command = record d.command { follow = v } } in
    let is : made ≡ e = cc last in
    let light : own_weight made.command ≤ own_weight d.command + weight depth tree = omega arith in
    subst (λ (x : Draft). own_weight x.command ≤ own_weight d.command + weight depth tree) is light
put_weighs facts d e attribute.AllowMissingInputs depth tree fine given =
    let (v, read, last) = found_given _ (flag_of tree) _ e given in
    let made : Draft = record d { command = record d.command { allow_missing = v } } in
    let is : made ≡ e = cc last in
    let light : own_weight made.command ≤ own_weight d.command + weight depth tree = omega arith in
    subst (λ (x : Draft). own_weight x.command ≤ own_weight d.command + weight depth tree) is light
put_weighs facts d e attribute.AlwaysOutOfDate depth tree fine given =
    let (v, read, last) = found_given _ (flag_of tree) _ e given in
    let made : Draft = record d { command = record d.command { always = v } } in
    let is : made ≡ e = cc last in
    let light : own_weight made.command ≤ own_weight d.command + weight depth tree = omega arith in
    subst (λ (x : Draft). own_weight x.command ≤ own_weight d.command + weight depth tree) is light
put_weighs facts d e attribute.Args depth tree fine given =
    let (v, read, last) = found_given _ (program_of tree) _ e given in
    let new = (program_fine depth tree v fine read).1 in
    let made : Draft = record d { command = record d.command { args = v } } in
    let is : made ≡ e = cc last in
    let light : own_weight made.command ≤ own_weight d.command + weight depth tree = omega arith in
    subst (λ (x : Draft). own_weight x.command ≤ own_weight d.command + weight depth tree) is light
put_weighs facts d e attribute.Env depth tree fine given =
    let (v, read, last) = found_given _ (variables_of tree) _ e given in
    let new = (variables_fine depth tree v fine read).light in
    let made : Draft = record d { command = record d.command { env = v } } in
    let is : made ≡ e = cc last in
    let light : own_weight made.command ≤ own_weight d.command + weight depth tree = omega arith in
    subst (λ (x : Draft). own_weight x.command ≤ own_weight d.command + weight depth tree) is light
put_weighs facts d e attribute.Deps depth tree fine given =
    let (v, read, last) = both_given (deps_of d.command tree) _ e given in
    let made : Draft = record d { command = record d.command { deps = v } } in
    let is : made ≡ e = cc last in
    let light : own_weight made.command ≤ own_weight d.command + weight depth tree = omega arith in
    subst (λ (x : Draft). own_weight x.command ≤ own_weight d.command + weight depth tree) is light
put_weighs facts d e attribute.DepsStyle depth tree fine given =
    let (v, read, last) = found_given _ (exactly (codes "makefile") tree) _ e given in
    let is : d ≡ e = cc last in
    subst (λ (x : Draft). own_weight x.command ≤ own_weight d.command + weight depth tree) is (omega arith)
put_weighs facts d e attribute.InheritEnv depth tree fine given =
    let (v, read, last) = found_given _ (flag_of tree) _ e given in
    let made : Draft = record d { command = record d.command { inherit_env = v } } in
    let is : made ≡ e = cc last in
    let light : own_weight made.command ≤ own_weight d.command + weight depth tree = omega arith in
    subst (λ (x : Draft). own_weight x.command ≤ own_weight d.command + weight depth tree) is light
put_weighs facts d e attribute.Signature depth tree fine given =
    let (v, read, last) = found_given _ (text_of tree) _ e given in
    let new = text_weighs depth tree v read in
    let made : Draft = record d { command = record d.command { signature = Some v } } in
    let is : made ≡ e = cc last in
    let light : own_weight made.command ≤ own_weight d.command + weight depth tree = omega arith in
    subst (λ (x : Draft). own_weight x.command ≤ own_weight d.command + weight depth tree) is light
put_weighs facts d e attribute.Contents depth tree fine given =
    let (v, read, last) = found_given _ (link_of tree) _ e given in
    let new = (link_fine depth tree v read).light in
    let made : Draft = record d { command = record d.command { contents = v } } in
    let is : made ≡ e = cc last in
    let light : own_weight made.command ≤ own_weight d.command + weight depth tree = omega arith in
    subst (λ (x : Draft). own_weight x.command ≤ own_weight d.command + weight depth tree) is light
put_weighs facts d e attribute.ExpectedOutputs depth tree fine given =
    let (v, read, last) = both_given (paths_of (codes "expectedOutputs") d.command tree) _ e given in
    let new = (removal_fine depth (codes "expectedOutputs") d.command tree v fine read).light in
    let made : Draft = record d { command = record d.command { expected = v } } in
    let is : made ≡ e = cc last in
    let light : own_weight made.command ≤ own_weight d.command + weight depth tree = omega arith in
    subst (λ (x : Draft). own_weight x.command ≤ own_weight d.command + weight depth tree) is light
put_weighs facts d e attribute.Roots depth tree fine given =
    let (v, read, last) = both_given (paths_of (codes "roots") d.command tree) _ e given in
    let new = (removal_fine depth (codes "roots") d.command tree v fine read).light in
    let made : Draft = record d { command = record d.command { roots = v } } in
    let is : made ≡ e = cc last in
    let light : own_weight made.command ≤ own_weight d.command + weight depth tree = omega arith in
    subst (λ (x : Draft). own_weight x.command ≤ own_weight d.command + weight depth tree) is light
