use Rattle.std.proofs.Common.{◌≡◌, ◌+◌, take, length}
use Rattle.spelling.specs.Spelling.{items_bytes}
use Rattle.build_values.specs.Values.{capped}
use Rattle.build_values.proofs.item.items_len.Given as goal

abbrev pub invariant-loop-item : goal.invariant-loop-item
invariant-loop-item g l = l.total ≡ capped (4 + length (items_bytes g.T.Item.spelled (take l.item-index l.item-items)))
