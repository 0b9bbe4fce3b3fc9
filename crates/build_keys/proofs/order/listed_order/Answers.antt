use Rattle.std.proofs.Common.{◌∙◌}
use Rattle.spelling.specs.Spelling.{text_bytes, list_bytes}
use Rattle.build_keys.specs.Keys.{is_path}
use Rattle.build_keys.proofs.OrderLemmas.{passing-decide, passing-equal}
use Rattle.build_keys.proofs.order.listed_order.Goals as goal

pub returns-in-Equal : goal.returns-in-Equal
returns-in-Equal c =
    passing-equal is_path c.args.path.now c.args.other.now c.as_bytes.result.now c.as_bytes-2.result.now
    (list_bytes text_bytes c.args.patterns.now) (list_bytes text_bytes c.args.other_patterns.now) c.text_order.result c.patterns_order.result
    c.path_has_a_spelling.ensures c.path_has_a_spelling-2.ensures (c.as_bytes.ensures.value ∙ c.text.ensures.value) (c.as_bytes-2.ensures.value ∙ c.text-2.ensures.value)
    c.text_order.ensures c.in-Equal.is c.patterns_order.ensures

pub returns-in_default : goal.returns-in_default
returns-in_default c =
    passing-decide is_path c.args.path.now c.args.other.now c.as_bytes.result.now c.as_bytes-2.result.now
    (list_bytes text_bytes c.args.patterns.now) (list_bytes text_bytes c.args.other_patterns.now) c.text_order.result
    c.path_has_a_spelling.ensures c.path_has_a_spelling-2.ensures (c.as_bytes.ensures.value ∙ c.text.ensures.value) (c.as_bytes-2.ensures.value ∙ c.text-2.ensures.value)
    c.text_order.ensures c.in_default.not-Equal
