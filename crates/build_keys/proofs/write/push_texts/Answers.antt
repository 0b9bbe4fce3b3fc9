use Rattle.std.proofs.Common.{◌++◌, ◌∙◌, ap}
use Rattle.spelling.specs.Spelling.{text_bytes}
use Rattle.spelling.proofs.ItemLemmas.{items-more}
use Rattle.build_keys.proofs.write.push_texts.Goals as goal

pub loop-text-preserved : goal.loop-text-preserved
loop-text-preserved c =
    items-more text_bytes _ _ c.text-item.result _ _ _ c.loop-text-test.true c.text-item.is c.loop-text.invariant
    (c.in_ok-push_text.ensures ∙ ap (λ z. c.loop-text.out.items ++ text_bytes z) c.as_slice.ensures)
