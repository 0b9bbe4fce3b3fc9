use Rattle.std.proofs.Common.{rules, map}
use Rattle.std.specs.Prelude.{string_bytes}
use Rattle.std.specs.Global.{Global}
use Rattle.command_line.specs.Job.{served_job}
use Rattle.llbuild_cli.specs.Open.{usage_refusal}
use Rattle.llbuild_cli.proofs.OpenLemmas.{no_job}
use Rattle.llbuild_cli.proofs.ProgressLemmas.{if_err}
use Rattle.llbuild_cli.proofs.open.job_of.Goals as goal

pub returns-in_err-job-clause-refused : goal.returns-in_err-job-clause-refused
returns-in_err-job-clause-refused c =
    let fault = c.in_err-job.field-0.0 in
    if_err c.from_residual.result (usage_refusal fault) _ (search rules)
    (no_job (served_job (map (string_bytes {Z = Global}) c.args.words.now)) fault c.in_err-job.ensures.job)
