use Rattle.manifest_reader.proofs.CountLemmas.{Counts}
use Rattle.manifest_reader.proofs.commands.has_one_file.Given as goal

abbrev pub invariant-loop-node : goal.invariant-loop-node
invariant-loop-node l = Counts l.nodes l.found l.node-index
