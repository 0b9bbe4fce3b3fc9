use Rattle.std.proofs.Common.{◌≡◌, ◌∙◌, ℕ, ap, sym}
use Rattle.manifest_reader.specs.Rows.{code_in, rows}
use Rattle.manifest_reader.proofs.AttributeLemmas.{no_code, one_code}
use Rattle.manifest_reader.proofs.attributes.attribute_of.Goals as goal

pub returns-in-Some : goal.returns-in-Some
returns-in-Some c =
    let name = c.args.name.now in
    let found = ap (λ (g : ℕ). code_in rows g name) (sym c.group_of.ensures) ∙ sym c.code_of.ensures ∙ c.in-Some.is in
    c.attribute_at.ensures ∙ sym (one_code c.args.tool name c.in-Some.code found)

pub returns-in-None : goal.returns-in-None
returns-in-None c =
    let name = c.args.name.now in
    let none = ap (λ (g : ℕ). code_in rows g name) (sym c.group_of.ensures) ∙ sym c.code_of.ensures ∙ c.in-None.is in
    sym (no_code c.args.tool name none)
