use Rattle.std.proofs.Common.{◌≡◌, rules, ◌∙◌}
use Rattle.std.specs.Vec.Iter.{into_iter_items}
use Rattle.manifest_values.proofs.PartLemmas.{begins, goes_next, stops, ends}
use Rattle.manifest_values.proofs.parts.each.Goals as goal

pub loop-item-init : goal.loop-item-init
loop-item-init g c = begins (g.R.ReadPart.gives c.args.reader.now) _ _ _ (cc) (search rules)

pub loop-item-preserved : goal.loop-item-preserved
loop-item-preserved g c =
    goes_next (g.R.ReadPart.gives c.args.reader.now) _ _ _ _ _ _ _ c.in-Some.item c.in_ok-part.part c.loop-item.invariant
    c.in-Some.ensures.steps.0 c.in-Some.ensures.steps.1
    c.in_ok-part.ensures c.in_ok-push.ensures.ok

pub returns-in_err-part : goal.returns-in_err-part
returns-in_err-part g c =
    let same : into_iter_items c.into_iter-item-iterator.result ≡ c.args.items
    = c.into_iter-item-iterator.ensures.into_iter_gives.0 ∙ c.into_vec-item-items.ensures in
    let stopped
    = stops (g.R.ReadPart.gives c.args.reader.now) _ c.args.items _ _ _ _ c.in-Some.item c.in_err-part.field-0.0 same
    c.loop-item.invariant c.in-Some.ensures.steps.0 c.in_err-part.ensures in
    search rules

pub returns : goal.returns
returns g c = ends (g.R.ReadPart.gives c.args.reader.now) _ _ _ _ _ (cc) c.loop-item.invariant c.in-None.ensures.steps.0
