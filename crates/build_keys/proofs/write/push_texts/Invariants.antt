use Rattle.std.proofs.Common.{◌≡◌, ◌++◌, take}
use Rattle.spelling.specs.Spelling.{items_bytes, text_bytes}
use Rattle.build_keys.proofs.write.push_texts.Given as goal

abbrev pub invariant-loop-text : goal.invariant-loop-text
invariant-loop-text l = l.out.items ≡ l.initial.out.items ++ items_bytes text_bytes (take l.text-index l.text-items)
