use Rattle.std.proofs.Common.{◌≡◌, ◌+◌, ◌-◌, ◌++◌, take}
use Rattle.std.specs.List.{flat_map}
use Rattle.yaml_profile.specs.Print.{entry_text, flow_text, map_lines}
use Rattle.yaml_profile.proofs.printer.+lines.Given as goal

abbrev pub invariant-push_lines-loop-pair : goal.invariant-push_lines-loop-pair
invariant-push_lines-loop-pair l =
    let below = l.depth - 1 in
    l.out.items ≡ l.fn.out.items ++ flat_map (entry_text (flow_text below) (map_lines below (l.spaces + 2)) l.spaces) (take l.pair-index l.pairs)
