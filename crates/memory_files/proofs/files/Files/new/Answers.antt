use Rattle.std.proofs.Common.{refl}
use Rattle.memory_files.proofs.PlaceLemmas.{none-yet}
use Rattle.memory_files.proofs.files.Files.new.Goals as goal

pub invariant_of-result : goal.invariant_of-result
invariant_of-result c = rw c.new-writes.ensures (none-yet _ (λ p. rw c.new-places.ensures.empty refl))
