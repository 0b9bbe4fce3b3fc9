use Rattle.std.proofs.Common.{◌≤◌, ◌-◌, take, length}
use Rattle.outside.specs.View.{Grew}
use Rattle.llbuild_cli.proofs.put_all.put_all.Given as goal

abbrev pub invariant-rest : goal.invariant-rest
invariant-rest g l = record {
  inside : l.at ≤ length l.piece;
  told : Grew (g.O.Sink.view l.fn.out) (g.O.Sink.view l.out) (take l.at l.piece);
  later : (g.O.Sink.view l.fn.out).faults ≤ (g.O.Sink.view l.out).faults;
}

abbrev pub decreases-rest : goal.decreases-rest
decreases-rest g l = length l.piece - l.at
