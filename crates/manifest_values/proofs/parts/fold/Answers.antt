use Rattle.std.proofs.Common.{◌≡◌, refl, rules, ◌∙◌}
use Rattle.std.specs.Vec.Iter.{into_iter_items}
use Rattle.manifest_values.proofs.PartLemmas.{fold_next, fold_stops, fold_ends}
use Rattle.manifest_values.proofs.parts.fold.Goals as goal

pub loop-item-init : goal.loop-item-init
loop-item-init g c = record { goes_on = refl; counted = search rules }

pub loop-item-preserved : goal.loop-item-preserved
loop-item-preserved g c =
    fold_next (g.S.Step.makes c.args.step.now) _ _ _ _ _ _ _ _ c.in-Some.item c.loop-item.invariant
    c.in-Some.ensures.steps.0 c.in-Some.ensures.steps.1
    c.in_ok-take.ensures

pub returns-in_err-take : goal.returns-in_err-take
returns-in_err-take g c =
    let same : into_iter_items c.into_iter-item-iterator.result ≡ c.args.items
    = c.into_iter-item-iterator.ensures.into_iter_gives.0 ∙ c.into_vec-item-items.ensures in
    let stopped
    = fold_stops (g.S.Step.makes c.args.step.now) _ _ c.args.items _ _ _ _ c.in-Some.item c.in_err-take.field-0.0 same
    c.loop-item.invariant c.in-Some.ensures.steps.0 c.in_err-take.ensures in
    search rules

pub returns : goal.returns
returns g c = fold_ends (g.S.Step.makes c.args.step.now) _ _ _ _ _ _ (cc) c.loop-item.invariant c.in-None.ensures.steps.0
