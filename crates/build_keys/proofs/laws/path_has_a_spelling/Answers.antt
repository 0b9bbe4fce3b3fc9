use Rattle.std.proofs.Common.{subst, ◌∙◌, List, ℕ}
use Rattle.std.specs.Str.{IsUtf8}
use Rattle.build_keys.proofs.NameLemmas.{path-short}
use Rattle.build_keys.proofs.laws.path_has_a_spelling.Goals as goal

pub returns : goal.returns
returns c =
    let P : List ℕ → Type 0 = IsUtf8 in
    let path = c.args.path.now in
    let bytes = c.as_bytes-bytes.ensures in
    let is = c.text.ensures.is_path in
    path-short path (c.path_is_accepted.ensures path is) (c.normal_form_stays.ensures path is.normal) is.at_most (subst P (bytes.value ∙ c.text.ensures.value) bytes.utf8)
