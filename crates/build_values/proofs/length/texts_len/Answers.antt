use Rattle.std.proofs.Common.{◌+◌, ◌∙◌, ap, sym}
use Rattle.spelling.specs.Spelling.{text_bytes}
use Rattle.build_values.specs.Values.{capped}
use Rattle.build_values.proofs.LengthLemmas.{text-length, items-longer, items-whole}
use Rattle.build_values.proofs.length.texts_len.Goals as goal

pub loop-text-preserved : goal.loop-text-preserved
loop-text-preserved c =
    items-longer text_bytes c.as_slice-text-items.result.now c.loop-text.text-index c.text-item.result c.loop-text.total c.text_len.result c.sum_len-total.result
    c.loop-text-test.true c.text-item.is c.loop-text.invariant
    (c.text_len.ensures ∙ ap (λ n. capped (4 + n)) c.len.ensures ∙ ap capped (sym (text-length c.text-item.result))) c.sum_len-total.ensures

pub returns : goal.returns
returns c =
    items-whole text_bytes c.as_slice-text-items.result.now c.args.texts.now c.loop-text.text-index c.loop-text.total
    c.loop-text-test.false c.as_slice-text-items.ensures c.loop-text.invariant
