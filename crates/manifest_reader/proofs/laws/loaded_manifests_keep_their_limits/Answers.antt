use Rattle.manifest_reader.proofs.LoadLemmas.{loaded_kept}
use Rattle.manifest_reader.proofs.laws.loaded_manifests_keep_their_limits.Goals as goal

pub returns : goal.returns
returns c bytes m e = loaded_kept bytes m e
