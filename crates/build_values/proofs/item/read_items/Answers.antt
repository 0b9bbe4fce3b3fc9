use Rattle.std.proofs.Common.{◌-◌, ◌+◌, ◌∙◌, ap, sym, arith}
use Rattle.build_keys.specs.Reading.{items_from}
use Rattle.build_keys.proofs.ItemLemmas.{items-more}
use Rattle.build_values.proofs.item.read_items.Goals as goal

pub loop-preserved : goal.loop-preserved
loop-preserved g c =
    let count = c.in_ok-count.count in
    let i = c.loop.counter in
    let tail = c.in_ok-item.tail.now in
    let more = items-more g.T.Item.reads (count - (i + 1)) (count - i) c.loop.found c.loop.rest.now c.in_ok-item.item tail
    (omega (arith, c.loop-test.true)) c.in_ok-item.ensures.reads in
    record {
      reads = c.loop.invariant.reads ∙ more ∙ ap (λ z. items_from g.T.Item.reads (count - (i + 1)) z tail) (sym c.in_ok-push.ensures.ok);
      shorter = omega (arith, c.in_ok-item.ensures.shorter, c.loop.invariant.shorter);
    }
