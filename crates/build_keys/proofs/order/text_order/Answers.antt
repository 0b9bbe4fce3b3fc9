use Rattle.std.proofs.Common.{length}
use Rattle.build_keys.proofs.OrderLemmas.{counts-decide, counts-equal}
use Rattle.build_keys.proofs.order.text_order.Goals as goal

pub returns-in-Equal : goal.returns-in-Equal
returns-in-Equal c =
    let a = c.args.a.now in
    let b = c.args.b.now in
    counts-equal (length a) (length b) c.count_of.result c.count_of-2.result a b c.cmp.result c.cmp-in-Equal.result
    c.count_of.ensures c.count_of-2.ensures c.cmp.ensures c.in-Equal.is c.cmp-in-Equal.ensures

pub returns-in_default : goal.returns-in_default
returns-in_default c =
    let a = c.args.a.now in
    let b = c.args.b.now in
    counts-decide (length a) (length b) c.count_of.result c.count_of-2.result a b c.cmp.result c.count_of.ensures c.count_of-2.ensures c.cmp.ensures c.in_default.not-Equal
