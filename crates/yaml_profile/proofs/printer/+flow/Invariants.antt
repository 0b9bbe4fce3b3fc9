use Rattle.std.proofs.Common.{◌≡◌, ◌+◌, ◌*◌, ◌++◌, length, map}
use Rattle.yaml_profile.specs.Print.{with_commas, flow_text, pair_text}
use Rattle.yaml_profile.proofs.printer.+flow.Given as goal

abbrev pub decreases-push_flow : goal.decreases-push_flow
decreases-push_flow l = 2 * l.depth

abbrev pub decreases-push_items : goal.decreases-push_items
decreases-push_items l = 2 * l.depth + 1

abbrev pub decreases-push_pairs : goal.decreases-push_pairs
decreases-push_pairs l = 2 * l.depth + 1

abbrev pub invariant-push_items-turns : goal.invariant-push_items-turns
invariant-push_items-turns l =
    l.out.items ++ with_commas (map (flow_text l.depth) l.rest) ≡ l.fn.out.items ++ with_commas (map (flow_text l.depth) l.items)

abbrev pub decreases-push_items-turns : goal.decreases-push_items-turns
decreases-push_items-turns l = length l.rest

abbrev pub invariant-push_pairs-turns : goal.invariant-push_pairs-turns
invariant-push_pairs-turns l =
    let spelled = pair_text (flow_text l.depth) in
    l.out.items ++ with_commas (map spelled l.rest) ≡ l.fn.out.items ++ with_commas (map spelled l.pairs)

abbrev pub decreases-push_pairs-turns : goal.decreases-push_pairs-turns
decreases-push_pairs-turns l = length l.rest
