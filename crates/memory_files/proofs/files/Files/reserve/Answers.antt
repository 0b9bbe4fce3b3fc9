use Rattle.memory_files.proofs.PlaceLemmas.{indexed-same, text-kept}
use Rattle.memory_files.proofs.files.Files.reserve.Goals as goal

pub invariant_of-self-2 : goal.invariant_of-self-2
invariant_of-self-2 c =
    indexed-same _ _ _ _ c.reserve.ensures.items (text-kept c.self.inside.places c.reserve-2.new.self c.reserve-2.ensures.entries.2) c.self.invariant
