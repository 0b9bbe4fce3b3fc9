use Rattle.std.proofs.Common.{◌≡◌, ◌-◌, length, Ok, Err, Result, ap, sym, ◌∙◌, inr, arith, rules}
use Rattle.yaml_profile.specs.declared.error.YamlError.{YamlError}
use Rattle.yaml_profile.specs.declared.yaml.Yaml.{Yaml}
use Rattle.yaml_profile.specs.Block.{document}
use Rattle.yaml_profile.specs.Read.{error_at, placed}
use Rattle.yaml_profile.proofs.ReadLemmas.{too_long, not_utf8, placed_text}
use Rattle.yaml_profile.proofs.DocumentLemmas.{tree_fine}
use Rattle.yaml_profile.proofs.reader.read.Goals as goal

pub returns-then-bytes-gt-TEXT_MAX-clause-refused :
    goal.returns-then-bytes-gt-TEXT_MAX-clause-refused
returns-then-bytes-gt-TEXT_MAX-clause-refused c = inr (too_long _ (omega arith))

pub returns-in-Err-clause-refused : goal.returns-in-Err-clause-refused
returns-in-Err-clause-refused c =
    inr (not_utf8 _ _ (omega arith) (c.valid_up_to.ensures ∙ c.in-Err.ensures.valid_len) c.in-Err.ensures.cases.0)

pub returns-in-Ok-clause-ok : goal.returns-in-Ok-clause-ok
returns-in-Ok-clause-ok c =
    let text = c.args.bytes.now in
    let tree : document text ≡ Ok c.in-Ok.tree = search rules in
    placed_text text (omega arith) c.in_default.ensures.cases.1 ∙ ap (placed text) tree

pub returns-in-Ok-clause-sound : goal.returns-in-Ok-clause-sound
returns-in-Ok-clause-sound c = tree_fine c.args.bytes.now c.in-Ok.tree (returns-in-Ok-clause-ok c)

pub returns-in-Err-Refused-clause-refused : goal.returns-in-Err-Refused-clause-refused
returns-in-Err-Refused-clause-refused c =
    let text = c.args.bytes.now in
    let refusal = c.in-Err-Refused.field-0-0 in
    let first : document text ≡ Err refusal = search rules in
    let fails : YamlError → Result Yaml YamlError = λ e. Err e in
    let at : fails (error_at refusal.fault (length text - refusal.left)) ≡ fails c.error_at.result =
    ap fails (ap (error_at refusal.fault) (sym c.saturating_sub.ensures) ∙ sym c.error_at.ensures) in
    inr (placed_text text (omega arith) c.in_default.ensures.cases.1 ∙ ap (placed text) first ∙ at)
