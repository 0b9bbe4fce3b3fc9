use Rattle.std.proofs.Common.{◌≡◌, length, sym, ◌∙◌}
use Rattle.build_plan.proofs.ReachLemmas.{item_at, nothing_left, waiting_within, walk_begins, walk_ends, walk_goes_on, walk_less}
use Rattle.build_plan.proofs.reach.walk.Goals as goal

pub loop-place-init : goal.loop-place-init
loop-place-init c =
    walk_begins c.args.manifest.now.commands c.args.nodes.now _ _ _ _ c.requires.none c.new-waiting.ensures.items c.in_ok-mark_makers.ensures

pub mark_asked-requires-clause-within : goal.mark_asked-requires-clause-within
mark_asked-requires-clause-within c =
    waiting_within c.args.manifest.now.commands c.args.nodes.now _ _ _ c.in-Some.place c.in-Some.ensures.items c.loop-place.invariant

pub loop-place-smaller : goal.loop-place-smaller
loop-place-smaller c =
    let within = waiting_within c.args.manifest.now.commands c.args.nodes.now _ _ _ c.in-Some.place c.in-Some.ensures.items c.loop-place.invariant in
    let (user, here) = item_at c.args.manifest.now.commands c.in-Some.place within in
    walk_less c.args.manifest.now.commands _ _ _ _ _ _ c.in-Some.place c.in-Some.ensures.items (c.in_ok-mark_asked.ensures user here)

pub loop-place-preserved : goal.loop-place-preserved
loop-place-preserved c =
    let within = waiting_within c.args.manifest.now.commands c.args.nodes.now _ _ _ c.in-Some.place c.in-Some.ensures.items c.loop-place.invariant in
    let (user, here) = item_at c.args.manifest.now.commands c.in-Some.place within in
    walk_goes_on c.args.manifest.now.commands c.args.nodes.now _ _ _ _ _ c.in-Some.place user here c.in-Some.ensures.items
    (c.in_ok-mark_asked.ensures user here) c.loop-place.invariant

pub returns : goal.returns
returns c =
    let empty : length c.loop-place.waiting.items ≡ 0 = sym c.loop-place.waiting.ok.0 ∙ c.in_default.ensures.cases.0 in
    walk_ends c.args.manifest.now c.requires.kept c.args.nodes.now _ _ (nothing_left _ empty) c.loop-place.invariant
