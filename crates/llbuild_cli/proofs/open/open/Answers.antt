use Rattle.llbuild_cli.specs.declared.refusal.Refusal.{Refusal}
use Rattle.llbuild_cli.specs.Open.{IsUnloaded}
use Rattle.llbuild_cli.specs.Plan.{IsUnopened}
use Rattle.llbuild_cli.proofs.OpenLemmas.{err_on, load_unopened}
use Rattle.llbuild_cli.proofs.open.open.Goals as goal

pub returns-clause-refused : goal.returns-clause-refused
returns-clause-refused g c =
    let old = g.W.Disk.view c.args.world.now in
    let new = g.W.Disk.view c.bytes_of.new.world in
    let bytes = c.in_ok-bytes.bytes in
    err_on c.manifest_of.result (IsUnloaded bytes) (IsUnopened g.W.Disk.gave old new c.args.file.now)
    (λ (r : Refusal) why. load_unopened g.W.Disk.gave old new c.args.file.now bytes r c.in_ok-bytes.ensures.ok why) c.manifest_of.ensures.refused
