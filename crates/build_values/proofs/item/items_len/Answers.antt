use Rattle.build_values.proofs.LengthLemmas.{items-longer, items-whole}
use Rattle.build_values.proofs.item.items_len.Goals as goal

pub loop-item-preserved : goal.loop-item-preserved
loop-item-preserved g c =
    items-longer g.T.Item.spelled c.as_slice-item-items.result.now c.loop-item.item-index c.item-item.result c.loop-item.total c.spelled_len.result c.sum_len-total.result
    c.loop-item-test.true c.item-item.is c.loop-item.invariant c.spelled_len.ensures c.sum_len-total.ensures

pub returns : goal.returns
returns g c =
    items-whole g.T.Item.spelled c.as_slice-item-items.result.now c.args.items.now c.loop-item.item-index c.loop-item.total
    c.loop-item-test.false c.as_slice-item-items.ensures c.loop-item.invariant
