use Rattle.std.proofs.Common.{◌≡◌, take}
use Rattle.memory_files.proofs.edits.drafts.Given as goal

abbrev pub invariant-loop-path : goal.invariant-loop-path
invariant-loop-path l = l.drafts ≡ take l.path-index l.paths
