use Rattle.std.proofs.Common.{sym}
use Rattle.manifest_values.proofs.TextLemmas.{not_text}
use Rattle.manifest_values.proofs.texts.path_in.Goals as goal

pub returns-in-Err : goal.returns-in-Err
returns-in-Err c = sym (not_text _ c.in-Err.ensures.cases.0)
