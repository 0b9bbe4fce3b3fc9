use Rattle.std.proofs.Common.{◌≡◌, ◌≤◌, drop}
use Rattle.command_line.specs.Number.{at_most, number_from}
use Rattle.command_line.proofs.number.number_from.Given as goal

abbrev pub invariant-loop-byte : goal.invariant-loop-byte
invariant-loop-byte l = record {
  within : l.number ≤ l.most;
  same : at_most l.most (number_from 0 l.digits) ≡ at_most l.most (number_from l.number (drop l.byte-index l.digits));
}
