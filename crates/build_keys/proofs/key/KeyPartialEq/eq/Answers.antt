use Rattle.build_keys.specs.SameKeyLemmas.{key-decides}
use Rattle.build_keys.proofs.key.KeyPartialEq.eq.Goals as goal

pub returns : goal.returns
returns c = key-decides c.args.self.now c.args.other.now c.same.result c.same.ensures
