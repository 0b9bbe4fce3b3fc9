use Rattle.std.proofs.Common.{◌≡◌, Some, None, rules}
use Rattle.manifest_values.specs.Refusal.{Stops}
use Rattle.manifest_values.specs.declared.refusal.Refusal.TheVariants.{BadPath}
use Rattle.manifest_values.specs.Texts.{path_in}
use Rattle.manifest_values.proofs.NodeLemmas.{path_found, path_refused}
use Rattle.manifest_values.proofs.nodes.path_of.Goals as goal

pub returns-in-Some : goal.returns-in-Some
returns-in-Some c =
    let found : Some c.in-Some.path ≡ path_in c.args.text = search rules in
    path_found c.args.owner.now c.args.text c.in-Some.path found

pub returns : goal.returns
returns c =
    let missing : None ≡ path_in c.args.text = search rules in
    let is : Stops c.bad_path.result (BadPath c.args.owner.now c.args.text) = search rules in
    path_refused c.bad_path.result c.args.owner.now c.args.text is missing
