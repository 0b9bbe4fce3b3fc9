-- The order of keys.
use Rattle.std.specs.declared.cmp.Ordering.{Ordering}
use Rattle.std.specs.Ordering.{nat_cmp}
use Rattle.std.specs.Cmp.Lexicographic.{slice_cmp}
use Rattle.build_keys.specs.Keys.{key_bytes}
use Rattle.build_keys.specs.declared.key.Key.{Key}

-- keys are in the order of their spellings, byte by byte
abbrev pub key_cmp : Key → Key → Ordering
key_cmp a b = slice_cmp nat_cmp (key_bytes a) (key_bytes b)
