use Rattle.std.proofs.Common.{◌≡◌, ◌+◌, take, length}
use Rattle.spelling.specs.Spelling.{text_bytes, items_bytes}
use Rattle.build_values.specs.Values.{capped}
use Rattle.build_values.proofs.length.texts_len.Given as goal

abbrev pub invariant-loop-text : goal.invariant-loop-text
invariant-loop-text l = l.total ≡ capped (4 + length (items_bytes text_bytes (take l.text-index l.text-items)))
