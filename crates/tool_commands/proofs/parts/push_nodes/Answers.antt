use Rattle.spelling.specs.Spelling.{node_bytes}
use Rattle.spelling.proofs.ItemLemmas.{items-more}
use Rattle.tool_commands.proofs.parts.push_nodes.Goals as goal

pub loop-node-preserved : goal.loop-node-preserved
loop-node-preserved c =
    items-more node_bytes _ _ c.node-item.result _ _ _ c.loop-node-test.true c.node-item.is c.loop-node.invariant c.in_ok-push_node.ensures
