use Rattle.std.proofs.Common.{length, ap, arith}
use Rattle.spelling.specs.Spelling.{items_bytes}
use Rattle.build_values.proofs.PartLemmas.{item-short, Each-more, Each-whole}
use Rattle.build_values.proofs.item.items_have_a_spelling.Goals as goal

pub has_a_spelling-requires : goal.has_a_spelling-requires
has_a_spelling-requires g c =
    let short = item-short g.T.Item.spelled c.as_slice-item-items.result.now c.loop-item.item-index c.item-item.result c.loop-item-test.true c.item-item.is in
    let same = ap (λ z. length (items_bytes g.T.Item.spelled z)) c.as_slice-item-items.ensures in
    omega (arith, short, same, c.requires.short)

pub loop-item-preserved : goal.loop-item-preserved
loop-item-preserved g c =
    Each-more g.T.Item.has_one c.as_slice-item-items.result.now c.loop-item.item-index c.item-item.result c.loop-item-test.true c.item-item.is
    c.loop-item.invariant c.has_a_spelling.ensures

pub returns : goal.returns
returns g c = record {
  each = Each-whole g.T.Item.has_one c.as_slice-item-items.result.now c.args.items.now c.loop-item.item-index c.loop-item-test.false
      c.as_slice-item-items.ensures c.loop-item.invariant;
  few = c.requires.few;
}
