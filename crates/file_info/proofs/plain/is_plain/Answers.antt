use Rattle.file_info.proofs.PlainLemmas.{plain-rest, plain-whole}
use Rattle.file_info.proofs.plain.is_plain.Goals as goal

pub returns-then-first-eq47 : goal.returns-then-first-eq47
returns-then-first-eq47 c = plain-rest _ _ _ _ c.in-Some.ensures.cases.0 c.if-first-eq47.true c.has_special.ensures

pub returns : goal.returns
returns c = plain-whole _ _ c.has_special-2.ensures
