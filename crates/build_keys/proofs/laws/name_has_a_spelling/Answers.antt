use Rattle.std.proofs.Common.{subst, ◌∙◌, List, ℕ}
use Rattle.std.specs.Str.{IsUtf8}
use Rattle.build_keys.proofs.NameLemmas.{name-short}
use Rattle.build_keys.proofs.laws.name_has_a_spelling.Goals as goal

pub returns : goal.returns
returns c =
    let P : List ℕ → Type 0 = IsUtf8 in
    let bytes = c.as_bytes-bytes.ensures in
    name-short c.args.name.now c.text.ensures.is_name (subst P (bytes.value ∙ c.text.ensures.value) bytes.utf8)
