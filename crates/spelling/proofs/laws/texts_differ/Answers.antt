use Rattle.spelling.proofs.SplitLemmas.{text-once}
use Rattle.spelling.proofs.laws.texts_differ.Goals as goal

pub returns : goal.returns
returns c a b r s h k e = let same = text-once a b r s h k e in (same.first, same.rest)
