use Rattle.command_line.proofs.JobLemmas.{dump_refused}
use Rattle.command_line.proofs.words.dump_of.Goals as goal

pub returns-in_err-matches-clause-job : goal.returns-in_err-matches-clause-job
returns-in_err-matches-clause-job c = dump_refused _ c.from_residual.result c.in_err-matches.field-0.0 c.in_err-matches.ensures c.from_residual.ensures.1
