use Rattle.std.proofs.Common.{take}
use Rattle.build_keys.specs.Keys.{Each}
use Rattle.build_values.proofs.item.items_have_a_spelling.Given as goal

abbrev pub invariant-loop-item : goal.invariant-loop-item
invariant-loop-item g l = Each g.T.Item.has_one (take l.item-index l.item-items)
