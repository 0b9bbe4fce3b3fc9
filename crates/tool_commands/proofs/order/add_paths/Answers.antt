use Rattle.std.proofs.Common.{◌∙◌}
use Rattle.tool_commands.proofs.SignatureLemmas.{path_added, virtual_passed}
use Rattle.tool_commands.proofs.order.add_paths.Goals as goal
use Rattle.tool_commands.proofs.order.add_paths.Goals.{in-Path+in_ok-add_path-in-Path, in-Virtual}

pub loop-node-preserved : goal.loop-node-preserved
loop-node-preserved c = elim c.match-node.branch [
  | in-Path+in_ok-add_path-in-Path w ↦
      path_added _ _ c.node-item.result _ _ _ _ c.loop-node-test.true c.node-item.is c.loop-node.invariant w.in-Path.is (w.words-is ∙ w.in_ok-add_path-in-Path.ensures)
  | in-Virtual w ↦ virtual_passed _ _ c.node-item.result _ _ _ _ c.loop-node-test.true c.node-item.is c.loop-node.invariant w.in-Virtual.is w.words-is
]
