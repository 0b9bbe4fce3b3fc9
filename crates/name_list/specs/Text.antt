-- Bytes that may be text.
use Rattle.std.specs.Prelude.{◌≡◌, ℕ, true, List}
use Rattle.std.specs.Str.{is_utf8}

-- the text has these bytes, which are UTF-8
pub record IsTextOf (bytes text : List ℕ) : Type 0 where
  pub same : text ≡ bytes
  pub utf8 : is_utf8 bytes ≡ true
