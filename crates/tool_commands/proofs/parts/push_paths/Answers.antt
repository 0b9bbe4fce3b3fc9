use Rattle.std.proofs.Common.{◌++◌, ◌∙◌, ap}
use Rattle.spelling.specs.Spelling.{text_bytes}
use Rattle.spelling.proofs.ItemLemmas.{items-more}
use Rattle.tool_commands.proofs.parts.push_paths.Goals as goal

pub loop-path-preserved : goal.loop-path-preserved
loop-path-preserved c =
    items-more text_bytes _ _ c.path-item.result _ _ _ c.loop-path-test.true c.path-item.is c.loop-path.invariant
    (c.in_ok-push_text.ensures ∙ ap (λ z. c.loop-path.out.items ++ text_bytes z) (c.as_bytes.ensures.value ∙ c.text.ensures.value))
