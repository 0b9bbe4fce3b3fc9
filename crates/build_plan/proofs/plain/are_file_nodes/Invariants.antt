use Rattle.std.proofs.Common.{◌≡◌, drop}
use Rattle.std.specs.List.{list_all}
use Rattle.build_plan.specs.Plain.{is_file_node}
use Rattle.build_plan.proofs.plain.are_file_nodes.Given as goal

abbrev pub invariant-loop-node : goal.invariant-loop-node
invariant-loop-node l = list_all is_file_node l.node-items ≡ list_all is_file_node (drop l.node-index l.node-items)
