use Rattle.std.proofs.Common.{rules, sym, ap, ◌∙◌}
use Rattle.manifest_values.specs.Shapes.{text_of, all_texts}
use Rattle.manifest_values.proofs.ShapeLemmas.{all_texts_each, begins, goes_next, stops, ends}
use Rattle.manifest_values.proofs.shapes.all_texts.Goals as goal

pub loop-item-init : goal.loop-item-init
loop-item-init c = begins text_of _ _ _ (cc) (search rules)

pub loop-item-preserved : goal.loop-item-preserved
loop-item-preserved c =
    goes_next text_of _ _ _ _ _ _ _ c.in-Some.item c.in-Some-text_of.text c.loop-item.invariant c.in-Some.ensures.steps.0 c.in-Some.ensures.steps.1
    (sym c.in-Some-text_of.ensures) c.in_ok-push.ensures.ok

pub returns-in_default : goal.returns-in_default
returns-in_default c =
    sym (ap all_texts (sym (c.into_iter-item-iterator.ensures.into_iter_gives.0 ∙ c.into_vec-item-items.ensures)) ∙ all_texts_each _
    ∙ stops text_of _ _ _ _ _ c.in-Some.item c.loop-item.invariant c.in-Some.ensures.steps.0 (sym c.in_default.ensures))

pub returns : goal.returns
returns c =
    sym (ap all_texts (sym (c.into_iter-item-iterator.ensures.into_iter_gives.0 ∙ c.into_vec-item-items.ensures)) ∙ all_texts_each _
    ∙ ends text_of _ _ _ _ c.loop-item.invariant c.in-None.ensures.steps.0)
