use Rattle.std.proofs.Common.{w64}
use Rattle.std.proofs.Math.Facts.{Fits-lt-pow}
use Rattle.build_values.proofs.PartLemmas.{Each-nums}
use Rattle.build_values.proofs.infos.numbers_have_a_spelling.Goals as goal

pub returns : goal.returns
returns c = Each-nums c.args.numbers.now (λ i. Fits-lt-pow {w = w64} (c.type_inv.numbers i))
