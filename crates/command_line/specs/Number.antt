-- Numbers in words.
use Rattle.std.specs.Prelude.{ℕ, Bool, ◌+◌, ◌*◌, ◌-◌, ◌==◌, ◌&&◌, nat_le, if◌then◌else◌, List, [], ◌∷◌, Option, Some, None}

-- whether the byte is a decimal digit
abbrev pub is_digit : ℕ → Bool
is_digit b = nat_le 48 b && nat_le b 57

-- the number that has these digits after those of another
unfoldable pub number_from : ℕ → List ℕ → Option ℕ
number_from n [] = Some n
number_from n (b ∷ bs) = if is_digit b then number_from (10 * n + (b - 48)) bs else None

-- the number of a text: decimal digits, at least one, without sign or leading zero
abbrev pub number_of : List ℕ → Option ℕ
number_of [] = None
number_of (b ∷ []) = number_from 0 (b ∷ [])
number_of (b ∷ c ∷ rest) = if b == 48 then None else number_from 0 (b ∷ c ∷ rest)

-- the number where it is not more than this
abbrev pub at_most : ℕ → Option ℕ → Option ℕ
at_most most None = None
at_most most (Some n) = if nat_le n most then Some n else None

-- the number where it is not less than this
abbrev pub at_least : ℕ → Option ℕ → Option ℕ
at_least least None = None
at_least least (Some n) = if nat_le least n then Some n else None

-- the number of a text where it lies between these
abbrev pub number_in : ℕ → ℕ → List ℕ → Option ℕ
number_in least most text = at_least least (at_most most (number_of text))

-- the number with one more digit, where it is not more than this
abbrev pub with_digit : ℕ → ℕ → ℕ → Option ℕ
with_digit most n b = if is_digit b then at_most most (Some (10 * n + (b - 48))) else None
