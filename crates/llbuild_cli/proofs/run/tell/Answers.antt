use Rattle.std.proofs.Common.{◌∙◌}
use Rattle.build_report.specs.Text.{failure_text}
use Rattle.llbuild_cli.proofs.SinkLemmas.{written_text}
use Rattle.llbuild_cli.proofs.run.tell.Goals as goal

pub returns-in-Ok-clause-wrote : goal.returns-in-Ok-clause-wrote
returns-in-Ok-clause-wrote g c =
    written_text c.put_all.result _ _ c.as_slice.result.now (failure_text c.args.report.end) (c.as_slice.ensures.value ∙ c.in-Ok.ensures)
    c.put_all.ensures.ok c.put_all.ensures.part c.put_all.ensures.cause
