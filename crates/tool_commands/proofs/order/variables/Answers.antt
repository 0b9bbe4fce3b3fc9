use Rattle.tool_commands.proofs.SignatureLemmas.{variables_more}
use Rattle.tool_commands.proofs.order.variables.Goals as goal

pub loop-pair-preserved : goal.loop-pair-preserved
loop-pair-preserved c =
    variables_more _ _ c.pair-item.result _ _ _ _ c.loop-pair-test.true c.pair-item.is c.loop-pair.invariant c.in_ok-copy.ensures c.in_ok-copy-2.ensures c.in_ok-push.ensures.ok
