use Rattle.std.proofs.Common.{◌∙◌, ℕ, List, sym, subst}
use Rattle.std.specs.Prelude.{IsTrue}
use Rattle.std.specs.Str.{is_utf8}
use Rattle.std.proofs.lemmas.Str.{is_utf8-from_IsUtf8}
use Rattle.command_line.proofs.value.bytes_of.Goals as goal

pub returns-in-Ok-clause-text : goal.returns-in-Ok-clause-text
returns-in-Ok-clause-text c =
    subst (λ (t : List ℕ). IsTrue (is_utf8 t)) (sym (c.from_vec.ensures ∙ c.in-Ok.ensures.items)) (is_utf8-from_IsUtf8 c.as_bytes.result.now c.as_bytes.ensures.utf8)
