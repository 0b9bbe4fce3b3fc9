-- Scalars and keys, which stand on one line.
-- Bytes by their codes: 9 tab, 33 !, 34 ", 35 #, 37 %, 38 &, 39 ', 42 *, 45 -, 47 /, 58 :, 62 >, 63 ?, 64 @, 92 \, 96 `, 124 |,
-- and the letters of escapes: 48 0, 85 U, 97 a, 98 b, 101 e, 102 f, 110 n, 114 r, 116 t, 117 u, 118 v, 120 x.
use Rattle.std.specs.Prelude.{ℕ, zero, suc, ◌+◌, ◌*◌, Bool, true, false, not, ◌&&◌, ◌||◌, ◌==◌, nat_lt, if◌then◌else◌, List, [], ◌∷◌, ◌++◌, length, take, drop, Option, Some, None, Ok, encode_utf8}
use Rattle.std.specs.Char.{is_digit, digit_value}
use Rattle.yaml_profile.specs.declared.fault.Fault.TheVariants.{LeftOut, Syntax}
use Rattle.yaml_profile.specs.declared.error.Feature.TheVariants.{ManyLines}
use Rattle.yaml_profile.specs.Text.{Text, Outcome, refuse, ◌>>=◌, sees, is_white, ends_line, is_gap, is_flow_mark}

-- ---- single-quoted

-- the text between single quotes and what follows it, after the opening quote, with the text so far. The flag says that a
-- quote was just passed: it closes the text, or stands with a second one for a quote
unfoldable pub single : List ℕ → Bool → Text → Outcome (List ℕ)
single found true [] = Ok (found, [])
single found true (b ∷ t) = if b == 39 then single (found ++ 39 ∷ []) false t else Ok (found, b ∷ t)
single found false [] = refuse Syntax []
single found false (b ∷ t) =
    if b == 39 then single found true t
    else (if ends_line (b ∷ t) then refuse (LeftOut ManyLines) (b ∷ t) else single (found ++ b ∷ []) false t)

-- ---- double-quoted

-- whether a character has this number
abbrev pub is_scalar_value : ℕ → Bool
is_scalar_value n = nat_lt n 0xD800 || (nat_lt 0xDFFF n && nat_lt n 0x110000)

-- the value of a hexadecimal digit, and None for any other byte
abbrev pub hex_value : ℕ → Option ℕ
hex_value b = if is_digit b 16 then Some (digit_value b) else None

-- the character of so many digits. A digit that is none is a fault of the whole escape
unfoldable pub hex : Text → ℕ → ℕ → Text → Outcome ℕ
hex whole zero number t = if is_scalar_value number then Ok (number, t) else refuse Syntax whole
hex whole (suc n) number [] = refuse Syntax []
hex whole (suc n) number (b ∷ t) = elim (hex_value b) [ Some d ↦ hex whole n (16 * number + d) t | None ↦ refuse Syntax whole ]

-- the byte that an escape of one letter stands for, and None where there is no such escape
abbrev pub short_escape : ℕ → Option ℕ
short_escape c =
    if c == 92 || c == 34 || c == 47 || c == 32 then Some c
    else (if c == 48 then Some 0 else (if c == 97 then Some 7 else (if c == 98 then Some 8 else (if c == 116 then Some 9
    else (if c == 110 then Some 10 else (if c == 118 then Some 11 else (if c == 102 then Some 12 else (if c == 114 then Some 13
    else (if c == 101 then Some 27 else None)))))))))

-- how many digits an escape has, by its letter, and None for any other byte
abbrev pub hex_digits : ℕ → Option ℕ
hex_digits c = if c == 120 then Some 2 else (if c == 117 then Some 4 else (if c == 85 then Some 8 else None))

-- the character of an escape with digits, or of one with a letter alone; any other is a fault of the whole escape
abbrev pub by_kind : Text → Option ℕ → Option ℕ → Text → Outcome ℕ
by_kind whole (Some count) short t = hex whole count 0 t
by_kind whole None (Some c) t = Ok (c, t)
by_kind whole None None t = refuse Syntax whole

-- the character that an escape stands for, after its backslash
unfoldable pub escape : Text → Text → Outcome ℕ
escape whole [] = refuse Syntax []
escape whole (c ∷ t) = by_kind whole (hex_digits c) (short_escape c) t

-- the text between double quotes and what follows it, after the opening quote, with the text so far. The number bounds the
-- turns, and the count of the bytes is enough
unfoldable pub double : ℕ → List ℕ → Text → Outcome (List ℕ)
double zero found t = refuse Syntax t
double (suc n) found [] = refuse Syntax []
double (suc n) found (b ∷ t) =
    if b == 34 then Ok (found, t)
    else (if b == 92 then (do c ← escape (b ∷ t) t; double n (found ++ encode_utf8 c.0) c.1)
    else (if ends_line (b ∷ t) then refuse (LeftOut ManyLines) (b ∷ t) else double n (found ++ b ∷ []) t))

-- the text between double quotes and what follows it, after the opening quote
abbrev pub double_quoted : Text → Outcome (List ℕ)
double_quoted t = double (suc (length t)) [] t

-- ---- plain; a first flag says that the scalar stands in a flow collection

-- whether a gap stands here, or, in a flow collection, one of its marks: what may not follow `-`, `?` or `:` inside the text
-- of a plain scalar
abbrev pub closes : Bool → Text → Bool
closes flow [] = true
closes flow (b ∷ t) = is_gap (b ∷ t) || (flow && is_flow_mark b)

-- whether the byte is one that no plain scalar begins with
abbrev pub is_indicator : ℕ → Bool
is_indicator b =
    is_flow_mark b || b == 35 || b == 38 || b == 42 || b == 33 || b == 124 || b == 62 || b == 39 || b == 34 || b == 37 || b == 64 || b == 96

-- whether a plain scalar begins here
abbrev pub begins_plain : Bool → Text → Bool
begins_plain flow [] = false
begins_plain flow (b ∷ t) =
    not (is_gap (b ∷ t) || is_indicator b) && not ((b == 45 || b == 63 || b == 58) && closes flow t)

-- whether a plain scalar ends here. The second flag says that white stands before
abbrev pub ends_plain : Bool → Bool → Text → Bool
ends_plain flow white [] = true
ends_plain flow white (b ∷ t) = ends_line (b ∷ t) || (b == 58 && closes flow t) || (flow && is_flow_mark b) || (white && b == 35)

-- how many bytes a plain scalar takes, up to the last that is not white: the first number is how many were passed, the second
-- how many up to the last such byte so far
unfoldable pub plain_len : Bool → Bool → ℕ → ℕ → Text → ℕ
plain_len flow white at len [] = len
plain_len flow white at len (b ∷ t) =
    if ends_plain flow white (b ∷ t) then len
    else (if is_white b then plain_len flow true (at + 1) len t else plain_len flow false (at + 1) (at + 1) t)

-- whether the byte is below 0x20 and no tab
abbrev pub is_forbidden : ℕ → Bool
is_forbidden b = nat_lt b 32 && not (b == 9)

-- whether the text has such a byte
unfoldable pub has_forbidden : List ℕ → Bool
has_forbidden [] = false
has_forbidden (b ∷ t) = is_forbidden b || has_forbidden t

-- the plain scalar of so many bytes and what follows it, if it has no byte that is forbidden
abbrev pub plain_of : Text → ℕ → Outcome (List ℕ)
plain_of t len = if has_forbidden (take len t) then refuse Syntax t else Ok (take len t, drop len t)

-- a plain scalar and what follows it
unfoldable pub plain : Bool → Text → Outcome (List ℕ)
plain flow t = if begins_plain flow t then plain_of t (plain_len flow false 1 1 (drop 1 t)) else refuse Syntax t

-- ---- a scalar or a key

-- a scalar or a key and what follows it. The flag says that it stands in a flow collection
unfoldable pub scalar : Bool → Text → Outcome (List ℕ)
scalar flow t =
    if sees 39 t then single [] false (drop 1 t)
    else (if sees 34 t then double_quoted (drop 1 t) else plain flow t)
