use Rattle.std.proofs.Common.{ap, ◌∙◌, arith}
use Rattle.std.proofs.lemmas.Grind.{common_steps}
use Rattle.yaml_profile.specs.Print.{flow_text}
use Rattle.yaml_profile.proofs.LayerLemmas.{flow_seq, flow_map}
use Rattle.yaml_profile.proofs.printer.+flow.Goals as goal

pub push_flow-returns-in_ok-push-in-Seq-2-2 : goal.push_flow-returns-in_ok-push-in-Seq-2-2
push_flow-returns-in_ok-push-in-Seq-2-2 t c =
    let whole = ap (flow_text c.args.depth) c.in-Seq-2.is ∙ flow_seq c.args.depth _ (omega arith) in
    grind (arith, common_steps, whole)

pub push_flow-returns-in_ok-push-in-Map-2-2 : goal.push_flow-returns-in_ok-push-in-Map-2-2
push_flow-returns-in_ok-push-in-Map-2-2 t c =
    let whole = ap (flow_text c.args.depth) c.in-Map-2.is ∙ flow_map c.args.depth _ (omega arith) in
    grind (arith, common_steps, whole)
