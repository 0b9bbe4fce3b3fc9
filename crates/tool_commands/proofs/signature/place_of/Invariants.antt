use Rattle.std.proofs.Common.{◌≡◌, ◌+◌, ◌≤◌, drop}
use Rattle.tool_commands.specs.Signatures.{place_among}
use Rattle.tool_commands.proofs.signature.place_of.Given as goal

abbrev pub invariant-loop-other : goal.invariant-loop-other
invariant-loop-other l = record {
  counted : l.place ≤ l.other-index;
  rest : place_among l.node l.nodes ≡ l.place + place_among l.node (drop l.other-index l.nodes);
}
