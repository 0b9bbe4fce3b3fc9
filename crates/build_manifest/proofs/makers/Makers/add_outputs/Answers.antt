use Rattle.std.proofs.Common.{◌≡◌, ℕ, None, Some, Option, cond, take, sym, ap, inr, ◌∙◌}
use Rattle.std.specs.List.{list_any, slice_get}
use Rattle.std.specs.Option.{option_or, option_map, option_and_then}
use Rattle.std.proofs.lemmas.Option.{slice_get-get_or}
use Rattle.build_manifest.specs.Makers.{noted_maker}
use Rattle.build_manifest.specs.Places.{is_node, maker_of}
use Rattle.build_manifest.specs.Rules.{commands_of, earlier_maker}
use Rattle.build_manifest.proofs.MakerLemmas.{name_of, earlier_noted, noted_within, makers_next, makers_stop, makers_noted}
use Rattle.build_manifest.proofs.makers.Makers.add_outputs.Goals as goal

pub loop-node-preserved : goal.loop-node-preserved
loop-node-preserved c =
    let xs = c.args.nodes.now in
    let i = c.loop-node.node-index in
    let x = c.node-item.result in
    let ds = c.args.drafts.now in
    let k = c.args.place in
    let name = c.args.draft.now.command.name in
    let free : noted_maker c.loop-node.self x ≡ None = sym c.in_ok-maker.ensures.found ∙ c.in_default.is in
    let was : noted_maker c.loop-node.self x ≡ option_or (maker_of (commands_of (take k ds)) x) (cond (list_any (is_node x) (take i xs)) (Some k) None)
    = c.loop-node.invariant.noted x ∙ ap (λ (o : Option ℕ). option_or o (cond (list_any (is_node x) (take i xs)) (Some k) None)) (c.requires.before x) in
    let none : earlier_maker (commands_of (take k ds)) name (take i xs) x ≡ None
    = earlier_noted ds k c.args.draft.now (take i xs) x (noted_maker c.loop-node.self x) c.requires.at was
    ∙ ap (λ (o : Option ℕ). option_map name_of (option_and_then (slice_get ds) o)) free in
    record {
      noted = makers_noted xs i x k (noted_maker c.args.self.now) _ _ c.loop-node-test.true c.node-item.is c.loop-node.invariant.noted c.in_ok-maker.ensures.noted free;
      fault = c.loop-node.invariant.fault ∙ makers_next (commands_of (take k ds)) name xs i x c.loop-node-test.true c.node-item.is none;
    }

pub returns-in-Some-clause-judged : goal.returns-in-Some-clause-judged
returns-in-Some-clause-judged c =
    let xs = c.args.nodes.now in
    let i = c.loop-node.node-index in
    let x = c.node-item.result in
    let ds = c.args.drafts.now in
    let k = c.args.place in
    let m = c.in-Some.maker in
    let name = c.args.draft.now.command.name in
    let found : noted_maker c.loop-node.self x ≡ Some m = sym c.in_ok-maker.ensures.found ∙ c.in-Some.is in
    let was : noted_maker c.loop-node.self x ≡ option_or (maker_of (commands_of (take k ds)) x) (cond (list_any (is_node x) (take i xs)) (Some k) None)
    = c.loop-node.invariant.noted x ∙ ap (λ (o : Option ℕ). option_or o (cond (list_any (is_node x) (take i xs)) (Some k) None)) (c.requires.before x) in
    let within = noted_within ds k m c.args.draft.now (take i xs) x c.requires.at (sym found ∙ was) in
    let earlier = earlier_noted ds k c.args.draft.now (take i xs) x (noted_maker c.loop-node.self x) c.requires.at was
    ∙ ap (λ (o : Option ℕ). option_map name_of (option_and_then (slice_get ds) o)) found
    ∙ ap (option_map name_of) (slice_get-get_or ds m c.index-drafts-maker.result within) in
    inr (c.loop-node.invariant.fault ∙ makers_stop (commands_of (take k ds)) name _ xs i x c.loop-node-test.true c.node-item.is earlier ∙ ap Some (sym c.in_ok-two_makers.ensures))
