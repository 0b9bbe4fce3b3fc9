use Rattle.std.proofs.Common.{◌+◌, length, ◌∙◌, ap, sym}
use Rattle.build_values.specs.Values.{capped}
use Rattle.build_values.proofs.LengthLemmas.{text-length}
use Rattle.build_values.proofs.infos.PathNameItem.spelled_len.Goals as goal

pub returns : goal.returns
returns c = c.text_len.ensures ∙ ap (λ z. capped (4 + length z)) c.text.ensures.value ∙ ap capped (sym (text-length c.args.self.now))
