use Rattle.std.proofs.Common.{take}
use Rattle.build_plan.specs.Reached.{AddsMakers}
use Rattle.build_plan.proofs.reach.mark_makers.Given as goal

abbrev pub invariant-loop-input : goal.invariant-loop-input
invariant-loop-input l =
    AddsMakers l.manifest.commands (take l.input-index l.input-items) l.initial.marks l.initial.waiting.items l.marks l.waiting.items
