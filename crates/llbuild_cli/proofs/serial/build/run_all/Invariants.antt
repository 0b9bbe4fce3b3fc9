use Rattle.std.proofs.Common.{◌≡◌, ◌≤◌, ◌+◌, [], take, length}
use Rattle.outside.specs.View.{Grew}
use Rattle.llbuild_cli.specs.MissingInput.{AllReadFirst}
use Rattle.llbuild_cli.specs.BuildStop.{IsWritten}
use Rattle.llbuild_cli.specs.Outcome.{AreOrders, AllDone, HeardWell, heard_names}
use Rattle.llbuild_cli.specs.Journal.{Knows, IsOnce}
use Rattle.llbuild_cli.specs.Move.{Moved}
use Rattle.llbuild_cli.specs.Source.{AreSources}
use Rattle.llbuild_cli.specs.Stands.{Stands}
use Rattle.llbuild_cli.specs.Start.{starts_of}
use Rattle.build_report.specs.Text.{lines_of}
use Rattle.llbuild_cli.proofs.StartLemmas.{start_names}
use Rattle.llbuild_cli.proofs.serial.build.run_all.Given as goal

abbrev pub invariant-commands : goal.invariant-commands
invariant-commands g l = record {
  stands : Stands g.L.Law.does l.manifest.commands l.marks l.place (g.W.Disk.view l.world) l.seen;
  starts : l.seen.starts ≡ starts_of (take l.place l.manifest.commands) l.marks;
  wrote : Grew (g.O.Sink.view l.fn.out) (g.O.Sink.view l.out) (lines_of l.seen.starts);
  done : AllDone l.seen.heard;
  names : heard_names l.seen.heard ≡ start_names l.seen.starts;
  orders : AreOrders l.manifest.commands l.seen.heard;
  read : AllReadFirst l.manifest.commands (Knows l.seen) l.seen.starts l.seen.heard;
  heard : HeardWell g.W.World.ended g.L.Law.does (g.W.Disk.view l.world) l.seen.heard;
  moved : Moved (IsWritten l.manifest.commands l.seen.starts) (g.W.Disk.view l.fn.world) (g.W.Disk.view l.world);
  none : (g.W.Disk.view l.world).orders ≡ [];
  begins : (g.W.Disk.view l.world).begins ≤ (g.W.Disk.view l.fn.world).begins + length l.seen.starts;
  later : (g.O.Sink.view l.fn.out).faults ≤ (g.O.Sink.view l.out).faults;
  once : IsOnce l.seen;
  sources : AreSources (record { manifest = l.manifest; target = l.target }) l.seen.stats;
}
