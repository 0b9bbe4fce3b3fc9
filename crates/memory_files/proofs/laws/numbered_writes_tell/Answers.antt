use Rattle.memory_files.proofs.MapLemmas.{map-tells}
use Rattle.memory_files.proofs.laws.numbered_writes_tell.Goals as goal

pub returns : goal.returns
returns c = map-tells
