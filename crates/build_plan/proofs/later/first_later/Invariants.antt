use Rattle.build_plan.proofs.LaterLemmas.{AreEarlierBefore}
use Rattle.build_plan.proofs.later.first_later.Given as goal

abbrev pub invariant-loop-at : goal.invariant-loop-at
invariant-loop-at l = AreEarlierBefore l.manifest.commands l.place l.inputs l.at
