-- The texts of scalars and keys.
-- Bytes by their codes: 10 LF, 34 ", 39 ', 58 :, 92 \.
use Rattle.std.specs.Prelude.{◌≡◌, ◌⊎◌, ℕ, ◌+◌, ◌*◌, Bool, true, false, ◌||◌, ◌==◌, if◌then◌else◌, List, [], ◌∷◌, ◌++◌, length, map, drop, flat_map, Some, encode_utf8}
use Rattle.yaml_profile.specs.Text.{Text, is_white}
use Rattle.yaml_profile.specs.Scalar.{is_scalar_value, hex_value, short_escape, hex_digits, closes, begins_plain, ends_plain, has_forbidden}
use Rattle.yaml_profile.specs.Tree.{Each}
use Rattle.yaml_profile.specs.Space.{◌and_then◌, Is, IsWhite}

-- ---- quoted

-- a byte in single quotes: a quote is written twice, and any other byte is itself
abbrev pub in_single : ℕ → Text
in_single b = if b == 39 then 39 ∷ 39 ∷ [] else b ∷ []

-- a text in single quotes, with no LF in it
pub record IsSingle (value text : Text) : Type 0 where
  pub quoted : text ≡ 39 ∷ (flat_map in_single value ++ 39 ∷ [])
  pub one_line : Each (λ b. (b == 10) ≡ false) value

-- the number of these digits at base 16, after the digits of the first number
abbrev pub number_of : ℕ → List ℕ → ℕ
number_of high [] = high
number_of high (d ∷ ds) = number_of (16 * high + d) ds

-- an escape of one letter, for the character of this code
pub record IsShort (code : ℕ) (text : Text) : Type 0 where
  pub letter : ℕ
  pub written : text ≡ 92 ∷ letter ∷ []
  pub stands_for : short_escape letter ≡ Some code

-- an escape with hexadecimal digits, as many as its letter asks for, for the character of this code
pub record IsNumbered (code : ℕ) (text : Text) : Type 0 where
  pub letter : ℕ
  pub digits : Text
  pub values : List ℕ
  pub written : text ≡ 92 ∷ letter ∷ digits
  pub count : hex_digits letter ≡ Some (length digits)
  pub of_digits : map hex_value digits ≡ map (λ v. Some v) values
  pub number : code ≡ number_of 0 values
  pub valid : is_scalar_value code ≡ true

-- an escape, for the character of this code
abbrev pub IsEscape : ℕ → Text → Type 0
IsEscape code text = IsShort code text ⊎ IsNumbered code text

-- what stands between double quotes, for a value: bytes but `"`, `\` and LF stand for themselves, and escapes for characters
pub data InDouble : List ℕ → Text → Type 0 where
  none : InDouble [] []
  byte : {v t : List ℕ} (b : ℕ) → (b == 34 || b == 92 || b == 10) ≡ false → InDouble v t → InDouble (b ∷ v) (b ∷ t)
  escape : {value text : List ℕ} (code : ℕ) (first v t : List ℕ) → IsEscape code first → InDouble v t → value ≡ encode_utf8 code ++ v
      → text ≡ first ++ t → InDouble value text

-- a text in single or double quotes
abbrev pub IsQuoted : List ℕ → Text → Type 0
IsQuoted value text = IsSingle value text ⊎ (Is 34 and_then InDouble value and_then Is 34) text

-- ---- plain

-- a plain scalar ends at no byte of the text, where this stands next, and its last byte is not white. The second flag says
-- that white stands before the text
abbrev pub GoesOn : Bool → Bool → Text → Text → Type 0
GoesOn flow white [] next = white ≡ false
GoesOn flow white (b ∷ t) next = (ends_plain flow white (b ∷ (t ++ next)) ≡ false) × GoesOn flow (is_white b) t next

-- a plain scalar, where this stands next
pub record IsPlain (flow : Bool) (value next : Text) : Type 0 where
  pub begins : begins_plain flow (value ++ next) ≡ true
  pub goes_on : GoesOn flow false (drop 1 value) next
  pub allowed : has_forbidden value ≡ false

-- ---- a scalar or a key

-- a scalar; the flag says that it stands in a flow collection
abbrev pub IsScalar : Bool → List ℕ → Text → Type 0
IsScalar flow value text = IsQuoted value text ⊎ ((text ≡ value) × IsPlain flow value [])

-- a key with its colon, where this is the text of its value. After a plain key a gap or a flow mark follows the colon
pub data IsKey (flow : Bool) (name key value : Text) : Type 0 where
  quoted : (IsQuoted name and_then IsWhite and_then Is 58) key → IsKey flow name key value
  plain : (white : Text) → IsWhite white → IsPlain flow name (white ++ 58 ∷ []) → key ≡ name ++ (white ++ 58 ∷ []) → closes flow value ≡ true
      → IsKey flow name key value
