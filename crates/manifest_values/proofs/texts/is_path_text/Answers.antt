use Rattle.std.proofs.Common.{rules}
use Rattle.manifest_values.proofs.TextLemmas.{path_tested}
use Rattle.manifest_values.proofs.texts.is_path_text.Goals as goal

pub returns : goal.returns
returns c =
    let tested = path_tested c.args.text.now in
    search rules
