use Rattle.manifest_reader.proofs.CountLemmas.{count_begins, count_file, count_other, count_two, count_ends}
use Rattle.manifest_reader.proofs.commands.has_one_file.Goals as goal
use Rattle.manifest_reader.proofs.commands.has_one_file.Goals.{in-Path+else-found, in_default}

pub loop-node-init : goal.loop-node-init
loop-node-init c = count_begins _

pub loop-node-preserved : goal.loop-node-preserved
loop-node-preserved c =
    elim c.match-node.branch [
      | in-Path+else-found w ↦
          rw w.found-is (count_file _ _ c.node-item.result _ _ c.loop-node-test.true c.node-item.is w.in-Path.is w.if-found.false c.loop-node.invariant)
      | in_default w ↦
          rw w.found-is (count_other _ _ c.node-item.result _ _ c.loop-node-test.true c.node-item.is w.in_default.is c.loop-node.invariant)
    ]

pub returns-then-found : goal.returns-then-found
returns-then-found c = count_two _ _ c.node-item.result _ _ c.loop-node-test.true c.node-item.is
    c.in-Path.is c.if-found.true c.loop-node.invariant

pub returns : goal.returns
returns c = count_ends _ _ _ c.loop-node-test.false c.loop-node.invariant
