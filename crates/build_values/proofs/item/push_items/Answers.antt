use Rattle.spelling.proofs.ItemLemmas.{items-more}
use Rattle.build_values.proofs.item.push_items.Goals as goal

pub loop-item-preserved : goal.loop-item-preserved
loop-item-preserved g c =
    items-more g.T.Item.spelled _ _ c.item-item.result _ _ _ c.loop-item-test.true c.item-item.is c.loop-item.invariant c.in_ok-push_to.ensures
