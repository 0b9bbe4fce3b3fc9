use Rattle.std.proofs.Common.{take}
use Rattle.outside.specs.View.{Stayed}
use Rattle.llbuild_cli.specs.Journal.{Knows, IsOnce}
use Rattle.llbuild_cli.specs.Look.{Looked}
use Rattle.llbuild_cli.specs.Input.{AreRead}
use Rattle.llbuild_cli.specs.CommandRun.{IsInput}
use Rattle.llbuild_cli.proofs.serial.look.gather.Given as goal

abbrev pub invariant-loop-input : goal.invariant-loop-input
invariant-loop-input g l = record {
  looked : Looked (g.W.Disk.view l.world) (IsInput l.fn.inputs) l.fn.seen l.seen;
  once : IsOnce l.seen;
  reads : AreRead (Knows l.seen) (take l.input-index l.input-items) l.reads;
  stayed : Stayed (g.W.Disk.view l.fn.world) (g.W.Disk.view l.world);
}
