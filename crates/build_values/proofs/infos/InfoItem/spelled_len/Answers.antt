use Rattle.std.proofs.Common.{length, ◌∙◌, ap, sym}
use Rattle.build_values.specs.Values.{capped, info_bytes}
use Rattle.build_values.proofs.LengthLemmas.{file-length, link-length}
use Rattle.build_values.proofs.infos.InfoItem.spelled_len.Goals as goal

pub returns-in-Link : goal.returns-in-Link
returns-in-Link c =
    link-length c.in-Link.text c.len.result c.text_len.result c.sum_len.result c.len.ensures c.text_len.ensures c.sum_len.ensures
    ∙ ap (λ i. capped (length (info_bytes i))) (sym c.in-Link.is)

pub returns-in-File : goal.returns-in-File
returns-in-File c = file-length c.in-File.size c.file_len.result c.in-File.stamp c.file_len.ensures ∙ ap (λ i. capped (length (info_bytes i))) (sym c.in-File.is)
