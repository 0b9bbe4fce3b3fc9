-- How texts and numbers are shown.
use Rattle.std.specs.Prelude.{ℕ, ◌+◌, ◌-◌, ◌/◌, ◌%◌, nat_lt, if◌then◌else◌, List, [], ◌∷◌, ◌++◌, codes, decimal, flat_map}
use Rattle.file_info.specs.Name.{is_control}

-- the digit of a number below 16: `0` to `9`, and then `a` to `f`
abbrev pub hex_digit : ℕ → ℕ
hex_digit n = if nat_lt n 10 then 48 + n else 97 + (n - 10)

-- how a byte is shown: a control character as a backslash, `x` and two hexadecimal digits, and every other as itself
abbrev pub shown_byte : ℕ → List ℕ
shown_byte b = if is_control b then 92 ∷ 120 ∷ hex_digit (b / 16) ∷ hex_digit (b % 16) ∷ [] else b ∷ []

-- how a text is shown: byte by byte
abbrev pub show : List ℕ → List ℕ
show text = flat_map shown_byte text

-- a text, ` at byte ` and the place in decimal
unfoldable pub at_byte : List ℕ → ℕ → List ℕ
at_byte text at = text ++ codes " at byte " ++ decimal at

-- a line's end: LF
abbrev pub line_end : List ℕ
line_end = 10 ∷ []
