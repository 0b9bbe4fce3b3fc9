use Rattle.std.proofs.Common.{rules, sym, ap, ◌∙◌}
use Rattle.manifest_values.specs.Values.{variable_of, all_variables}
use Rattle.manifest_values.proofs.ShapeLemmas.{all_variables_each, begins, goes_next, stops, ends}
use Rattle.manifest_values.proofs.values.all_variables.Goals as goal

pub loop-pair-init : goal.loop-pair-init
loop-pair-init c = begins variable_of _ _ _ (cc) (search rules)

pub loop-pair-preserved : goal.loop-pair-preserved
loop-pair-preserved c =
    goes_next variable_of _ _ _ _ _ _ _ c.in-Some.pair c.in-Some-variable_of.variable c.loop-pair.invariant
    c.in-Some.ensures.steps.0 c.in-Some.ensures.steps.1 (sym c.in-Some-variable_of.ensures) c.in_ok-push.ensures.ok

pub returns-in_default : goal.returns-in_default
returns-in_default c =
    sym (ap all_variables (sym (c.into_iter-pair-iterator.ensures.into_iter_gives.0 ∙ c.into_vec-pair-items.ensures)) ∙ all_variables_each _
    ∙ stops variable_of _ _ _ _ _ c.in-Some.pair c.loop-pair.invariant c.in-Some.ensures.steps.0 (sym c.in_default.ensures))

pub returns : goal.returns
returns c =
    sym (ap all_variables (sym (c.into_iter-pair-iterator.ensures.into_iter_gives.0 ∙ c.into_vec-pair-items.ensures)) ∙ all_variables_each _
    ∙ ends variable_of _ _ _ _ c.loop-pair.invariant c.in-None.ensures.steps.0)
