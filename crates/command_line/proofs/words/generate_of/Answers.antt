use Rattle.command_line.proofs.JobLemmas.{generate_refused}
use Rattle.command_line.proofs.words.generate_of.Goals as goal

pub returns-in_err-matches-clause-job : goal.returns-in_err-matches-clause-job
returns-in_err-matches-clause-job c = generate_refused _ c.from_residual.result c.in_err-matches.field-0.0 c.in_err-matches.ensures c.from_residual.ensures.1
