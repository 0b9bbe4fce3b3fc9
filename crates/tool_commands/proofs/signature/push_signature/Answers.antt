use Rattle.tool_commands.proofs.SignatureLemmas.{on_ok, pushed_whole}
use Rattle.tool_commands.proofs.signature.push_signature.Goals as goal

pub returns : goal.returns
returns c =
    on_ok c.push_tool.result
    (pushed_whole c.args.command.now c.args.out.now.items _ _ _ _ _ _ _ c.group_byte.result c.group_byte.ensures c.in_ok-push.ensures.items c.in_ok-push_keys.ensures
    c.in_ok-push_keys-2.ensures c.in_ok-push_nodes.ensures c.in_ok-push_flag.ensures c.in_ok-push_flag-2.ensures)
    c.push_tool.ensures
