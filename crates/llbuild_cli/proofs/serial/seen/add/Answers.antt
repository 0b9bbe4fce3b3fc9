use Rattle.std.proofs.Common.{arith}
use Rattle.std.proofs.lemmas.Map.Text.{text_keys}
use Rattle.llbuild_cli.proofs.serial.seen.add.Goals as goal

pub returns-clause-noted : goal.returns-clause-noted
returns-clause-noted c = record {
  here = grind (arith, text_keys);
  others = λ q differs. grind (arith, text_keys);
}
