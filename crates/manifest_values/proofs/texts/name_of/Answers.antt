use Rattle.std.proofs.Common.{◌≡◌, ap, sym, subst, ◌∙◌, true, false, Ok, rules}
use Rattle.std.specs.Prelude.{IsUtf8, string_bytes}
use Rattle.std.specs.Option.{is_none}
use Rattle.std.proofs.lemmas.Str.{IsUtf8-string_bytes}
use Rattle.std.proofs.lemmas.Bool.{false≢true}
use Rattle.file_info.specs.NameFault.{name_fault}
use Rattle.manifest_values.specs.Refusal.{Stops}
use Rattle.manifest_values.specs.declared.refusal.Refusal.TheVariants.{BadPath}
use Rattle.manifest_values.proofs.TextLemmas.{text_is_name, name_has_fault, name_not_text}
use Rattle.manifest_values.proofs.texts.name_of.Goals as goal

pub returns-then-not-has_no_fault : goal.returns-then-not-has_no_fault
returns-then-not-has_no_fault c =
    let fault : is_none (name_fault c.args.text) ≡ false = search rules in
    let is : Stops c.bad_path.result (BadPath c.args.owner.now c.args.text) = search rules in
    name_has_fault c.bad_path.result c.args.owner.now c.args.text is fault

pub returns-in-Ok-from_string : goal.returns-in-Ok-from_string
returns-in-Ok-from_string c =
    let same : string_bytes c.in-Ok.text ≡ c.args.text = ap (λ v. v.items) c.in-Ok.ensures.ok ∙ c.into_vec.ensures in
    let free : is_none (name_fault c.args.text) ≡ true = search rules in
    text_is_name c.args.owner.now c.args.text (subst IsUtf8 same (IsUtf8-string_bytes c.in-Ok.text)) free
    ∙ ap Ok (sym (c.in-Ok-from_string.ensures.ok ∙ same))

pub returns-in-Err : goal.returns-in-Err
returns-in-Err c =
    let is : Stops c.bad_path-in-Err.result (BadPath c.args.owner.now c.args.text) = search rules in
    name_not_text c.bad_path-in-Err.result c.args.owner.now c.args.text is
    (λ u. false≢true (c.in-Err.ensures.succeeds (subst IsUtf8 (sym c.into_vec.ensures) u)))
