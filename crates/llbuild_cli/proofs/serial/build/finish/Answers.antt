use Rattle.std.proofs.Common.{rules}
use Rattle.llbuild_cli.specs.declared.stop.Stop.TheVariants.{NoMemory}
use Rattle.llbuild_cli.proofs.ProgressLemmas.{if_err}
use Rattle.llbuild_cli.proofs.SinkLemmas.{part_none}
use Rattle.llbuild_cli.proofs.serial.build.finish.Goals as goal

pub returns-in_err-text-clause-stop : goal.returns-in_err-text-clause-stop
returns-in_err-text-clause-stop g c = if_err c.from_residual-in_err-text.result NoMemory _ (search rules) (part_none (g.O.Sink.view c.args.out.now) _)
