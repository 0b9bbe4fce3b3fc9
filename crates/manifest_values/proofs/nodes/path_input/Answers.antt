use Rattle.std.proofs.Common.{rules}
use Rattle.manifest_values.proofs.NodeLemmas.{node_given, node_refused}
use Rattle.manifest_values.proofs.nodes.path_input.Goals as goal

pub returns-in_err-path : goal.returns-in_err-path
returns-in_err-path c =
    let stopped = node_refused c.in_err-path.field-0.0 c.args.known.now c.args.owner.now c.args.written c.in_err-path.ensures in
    search rules

pub returns : goal.returns
returns c =
    let given = node_given c.args.known.now c.args.owner.now c.args.written c.in_ok-path.path c.in_ok-path.ensures in
    search rules
