use Rattle.std.proofs.Common.{◌≡◌, take}
use Rattle.outside.specs.OrderForm.{paths_of}
use Rattle.tool_commands.proofs.order.paths.Given as goal

abbrev pub invariant-loop-node : goal.invariant-loop-node
invariant-loop-node l = l.paths ≡ paths_of (take l.node-index l.node-items)
