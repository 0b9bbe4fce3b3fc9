use Rattle.std.proofs.Common.{◌≡◌, Some, None, rules}
use Rattle.manifest_values.specs.Refusal.{Stops}
use Rattle.manifest_values.specs.declared.refusal.Refusal.TheVariants.{BadPath}
use Rattle.manifest_values.specs.Texts.{path_in}
use Rattle.manifest_values.proofs.NodeLemmas.{path_found, path_refused}
use Rattle.manifest_values.proofs.nodes.name_path.Goals as goal

pub returns-in-Some : goal.returns-in-Some
returns-in-Some c =
    let found : Some c.in-Some.path ≡ path_in c.args.name.now = search rules in
    path_found c.args.owner.now c.args.name.now c.in-Some.path found

pub returns-in-None : goal.returns-in-None
returns-in-None c =
    let missing : None ≡ path_in c.args.name.now = search rules in
    let is : Stops c.bad_path.result (BadPath c.args.owner.now c.args.name.now) = search rules in
    path_refused c.bad_path.result c.args.owner.now c.args.name.now is missing
