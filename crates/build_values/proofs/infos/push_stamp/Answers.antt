use Rattle.std.proofs.Common.{get_or}
use Rattle.spelling.proofs.ItemLemmas.{items-more}
use Rattle.build_values.specs.Values.{num_bytes}
use Rattle.build_values.proofs.NumLemmas.{get_or-within}
use Rattle.build_values.proofs.infos.push_stamp.Goals as goal

pub loop-number-preserved : goal.loop-number-preserved
loop-number-preserved c =
    let stamp = c.args.stamp.now in
    let k = c.loop-number.number-index in
    let number = get_or stamp k 0 in
    items-more num_bytes stamp k number _ _ _ c.loop-number-test.true (get_or-within stamp k 0 number c.loop-number-test.true) c.loop-number.invariant c.in_ok-push_num.ensures
