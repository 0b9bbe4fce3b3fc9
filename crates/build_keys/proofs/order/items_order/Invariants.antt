use Rattle.std.proofs.Common.{◌≡◌, drop}
use Rattle.std.specs.Ordering.{nat_cmp}
use Rattle.std.specs.Cmp.Lexicographic.{slice_cmp}
use Rattle.spelling.specs.Spelling.{text_bytes, items_bytes}
use Rattle.build_keys.proofs.order.items_order.Given as goal

abbrev pub invariant-loop-place : goal.invariant-loop-place
invariant-loop-place l =
    slice_cmp nat_cmp (items_bytes text_bytes l.a) (items_bytes text_bytes l.b)
    ≡ slice_cmp nat_cmp (items_bytes text_bytes (drop l.place l.a)) (items_bytes text_bytes (drop l.place l.b))
