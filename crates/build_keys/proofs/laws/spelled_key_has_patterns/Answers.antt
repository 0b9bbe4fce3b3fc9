use Rattle.build_keys.proofs.KeyLemmas.{key-patterns}
use Rattle.build_keys.proofs.laws.spelled_key_has_patterns.Goals as goal

pub returns : goal.returns
returns c = key-patterns
