use Rattle.std.proofs.Common.{sym, ◌∙◌, arith}
use Rattle.build_keys.proofs.OrderLemmas.{items-decide, items-equal, is_ne-false, is_ne-true}
use Rattle.build_keys.proofs.order.items_order.Goals as goal

pub returns-then-is_ne : goal.returns-then-is_ne
returns-then-is_ne c =
    let order = c.text_order-order in
    items-decide c.args.a.now c.args.b.now c.loop-place.place c.index-a-place.result c.index-b-place.result c.as_slice.result.now c.as_slice-in-loop-place.result.now order.result
    c.requires.first c.requires.second c.loop-place-test.true (omega (arith, c.loop-place-test.true, c.requires.as_many)) c.index-a-place.is c.index-b-place.is
    c.as_slice.ensures c.as_slice-in-loop-place.ensures order.ensures (is_ne-true order.result c.is_ne.result c.is_ne.ensures c.if-is_ne.true)
    ∙ sym c.loop-place.invariant

pub loop-place-preserved : goal.loop-place-preserved
loop-place-preserved c =
    let order = c.text_order-order in
    c.loop-place.invariant
    ∙ items-equal c.args.a.now c.args.b.now c.loop-place.place c.index-a-place.result c.index-b-place.result c.as_slice.result.now c.as_slice-in-loop-place.result.now order.result
    c.requires.first c.requires.second c.loop-place-test.true (omega (arith, c.loop-place-test.true, c.requires.as_many)) c.index-a-place.is c.index-b-place.is
    c.as_slice.ensures c.as_slice-in-loop-place.ensures order.ensures (is_ne-false order.result c.is_ne.result c.is_ne.ensures c.if-is_ne.false)
