use Rattle.std.proofs.Common.{length, sym, ◌∙◌, ap}
use Rattle.std.specs.Ordering.{nat_cmp}
use Rattle.std.specs.Cmp.Lexicographic.{slice_cmp}
use Rattle.spelling.specs.Spelling.{count_bytes, text_bytes, items_bytes}
use Rattle.build_keys.proofs.OrderLemmas.{counts-decide, counts-equal, counts-same}
use Rattle.build_keys.proofs.order.patterns_order.Goals as goal

pub items_order-requires-clause-as_many : goal.items_order-requires-clause-as_many
items_order-requires-clause-as_many c =
    let a = c.args.a.now in
    let b = c.args.b.now in
    let one = c.count_of.ensures ∙ ap count_bytes c.len.ensures in
    let two = c.count_of-2.ensures ∙ ap count_bytes c.len-2.ensures in
    let counts = sym (ap (λ z. slice_cmp nat_cmp z (count_bytes (length b))) one) in
    let both = sym (ap (slice_cmp nat_cmp c.count_of.result) two) in
    ap length c.as_slice.ensures
    ∙ counts-same (length a) (length b) c.requires.first.few c.requires.second.few (counts ∙ both ∙ sym c.cmp.ensures ∙ c.in-Equal.is)
    ∙ sym (ap length c.as_slice-in-Equal.ensures)

pub returns-in-Equal : goal.returns-in-Equal
returns-in-Equal c =
    let a = c.args.a.now in
    let b = c.args.b.now in
    let items = ap (λ z. slice_cmp nat_cmp (items_bytes text_bytes z) (items_bytes text_bytes c.as_slice-in-Equal.result.now)) c.as_slice.ensures in
    let others = ap (λ z. slice_cmp nat_cmp (items_bytes text_bytes a) (items_bytes text_bytes z)) c.as_slice-in-Equal.ensures in
    counts-equal (length a) (length b) c.count_of.result c.count_of-2.result (items_bytes text_bytes a) (items_bytes text_bytes b) c.cmp.result c.items_order.result
    (c.count_of.ensures ∙ ap count_bytes c.len.ensures) (c.count_of-2.ensures ∙ ap count_bytes c.len-2.ensures) c.cmp.ensures c.in-Equal.is
    (c.items_order.ensures ∙ items ∙ others)

pub returns-in_default : goal.returns-in_default
returns-in_default c =
    let a = c.args.a.now in
    let b = c.args.b.now in
    counts-decide (length a) (length b) c.count_of.result c.count_of-2.result (items_bytes text_bytes a) (items_bytes text_bytes b) c.cmp.result
    (c.count_of.ensures ∙ ap count_bytes c.len.ensures) (c.count_of-2.ensures ∙ ap count_bytes c.len-2.ensures) c.cmp.ensures c.in_default.not-Equal
