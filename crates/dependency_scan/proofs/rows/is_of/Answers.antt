use Rattle.build_keys.specs.SameKeyLemmas.{key-decides}
use Rattle.dependency_scan.proofs.rows.is_of.Goals as goal

pub returns : goal.returns
returns c = key-decides c.args.entry.now.key c.args.key.now c.same.result c.same.ensures
