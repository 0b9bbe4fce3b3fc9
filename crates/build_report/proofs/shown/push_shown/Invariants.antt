use Rattle.std.proofs.Common.{◌≡◌, ◌++◌, take}
use Rattle.build_report.specs.Escape.{show}
use Rattle.build_report.proofs.shown.push_shown.Given as goal

abbrev pub invariant-loop-byte : goal.invariant-loop-byte
invariant-loop-byte l = l.out.items ≡ l.fn.out.items ++ show (take l.byte-index l.text)
