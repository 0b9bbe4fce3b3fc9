use Rattle.std.proofs.Common.{map}
use Rattle.std.specs.Prelude.{string_bytes}
use Rattle.std.specs.Global.{Global}
use Rattle.llbuild_cli.specs.Run.{answers_of}
use Rattle.llbuild_cli.proofs.RunLemmas.{told_or_not}
use Rattle.llbuild_cli.proofs.run.run_alone.Goals as goal

pub returns-clause-served : goal.returns-clause-served
returns-clause-served g c =
    told_or_not (answers_of g.L.Law.does g.W.World.ended g.W.Disk.gave) (g.W.Disk.view c.args.world.now) (g.W.Disk.view c.attempt-report.new.world) (g.O.Sink.view c.args.out.now) (g.O.Sink.view c.attempt-report.new.out)
    (map (string_bytes {Z = Global}) c.args.words.now) c.attempt-report.result c.finish.result.report c.finish.ensures.report c.attempt-report.ensures
