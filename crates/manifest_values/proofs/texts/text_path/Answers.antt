use Rattle.std.proofs.Common.{ap, sym, ◌∙◌, Some, inl, inr}
use Rattle.manifest_values.proofs.TextLemmas.{text_is_path, text_is_none}
use Rattle.manifest_values.proofs.texts.text_path.Goals as goal

pub returns-in-Ok : goal.returns-in-Ok
returns-in-Ok c = ap Some c.in-Ok.ensures.ok ∙ sym (text_is_path c.args.text.now c.utf8.text c.in-Ok.ensures.accepted)

pub returns-in_default : goal.returns-in_default
returns-in_default c =
    elim c.in-Err.ensures.refused [
      | inl is ↦ absurd (c.in_default.not-NoMemory is)
      | inr fault ↦ sym (text_is_none c.args.text.now c.in-Err.error fault)
    ]
