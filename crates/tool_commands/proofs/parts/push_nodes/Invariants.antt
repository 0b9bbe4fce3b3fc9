use Rattle.std.proofs.Common.{◌≡◌, ◌++◌, take}
use Rattle.spelling.specs.Spelling.{items_bytes, node_bytes}
use Rattle.tool_commands.proofs.parts.push_nodes.Given as goal

abbrev pub invariant-loop-node : goal.invariant-loop-node
invariant-loop-node l = l.out.items ≡ l.initial.out.items ++ items_bytes node_bytes (take l.node-index l.node-items)
