use Rattle.std.proofs.Common.{◌≡◌, ◌∷◌, [], ◌++◌, drop}
use Rattle.yaml_profile.specs.Print.{all_escaped}
use Rattle.yaml_profile.proofs.printer.push_quoted.Given as goal

abbrev pub invariant-loop-byte : goal.invariant-loop-byte
invariant-loop-byte l = l.out.items ++ all_escaped (drop l.byte-index l.text) ≡ (l.fn.out.items ++ 34 ∷ []) ++ all_escaped l.text
