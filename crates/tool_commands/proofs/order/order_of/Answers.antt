use Rattle.std.proofs.Common.{◌∙◌, sym, subst}
use Rattle.outside.specs.OrderForm.{AreReadsOf}
use Rattle.build_meaning.specs.Commands.{meaning_of}
use Rattle.tool_commands.proofs.ActLemmas.{order-formed}
use Rattle.tool_commands.proofs.order.order_of.Goals as goal

pub returns-clause-formed : goal.returns-clause-formed
returns-clause-formed c reads distinct =
    order-formed c.args.command.now _ c.requires.command (c.signature.view_is ∙ c.requires.signature) c.in_ok-act.ensures c.in_ok-paths.ensures c.in_ok-copy-2.ensures
    (subst (AreReadsOf (meaning_of c.args.command.now).inputs) (sym c.reads.view_is) reads) distinct
