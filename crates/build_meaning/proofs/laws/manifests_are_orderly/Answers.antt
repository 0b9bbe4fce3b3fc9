use Rattle.build_meaning.proofs.OrderlyLemmas.{orderly}
use Rattle.build_meaning.proofs.laws.manifests_are_orderly.Goals as goal

pub returns : goal.returns
returns c m h = orderly m h
