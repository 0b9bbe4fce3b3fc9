use Rattle.command_line.proofs.JobLemmas.{build_refused}
use Rattle.command_line.proofs.words.build_of.Goals as goal

pub returns-in_err-words-clause-job : goal.returns-in_err-words-clause-job
returns-in_err-words-clause-job c = build_refused _ c.from_residual.result c.in_err-words.field-0.0 c.in_err-words.ensures.refused c.from_residual.ensures.1
