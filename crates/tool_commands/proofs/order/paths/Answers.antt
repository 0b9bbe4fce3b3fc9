use Rattle.std.proofs.Common.{◌∙◌}
use Rattle.tool_commands.proofs.SignatureLemmas.{path_taken, virtual_left}
use Rattle.tool_commands.proofs.order.paths.Goals as goal
use Rattle.tool_commands.proofs.order.paths.Goals.{in-Path+in_ok-copy-in-Path+in_ok-push-in-Path, in-Virtual}

pub loop-node-preserved : goal.loop-node-preserved
loop-node-preserved c = elim c.match-node.branch [
  | in-Path+in_ok-copy-in-Path+in_ok-push-in-Path w ↦
      path_taken _ _ c.node-item.result _ _ _ _ c.loop-node-test.true c.node-item.is c.loop-node.invariant w.in-Path.is w.in_ok-copy-in-Path.ensures (w.paths-is ∙ w.in_ok-push-in-Path.ensures.ok)
  | in-Virtual w ↦ virtual_left _ _ c.node-item.result _ _ _ c.loop-node-test.true c.node-item.is c.loop-node.invariant w.in-Virtual.is w.paths-is
]
