-- A text in double quotes is read back.
use Rattle.std.proofs.Common.{◌≡◌, ℕ, zero, suc, ◌+◌, ◌*◌, ◌/◌, ◌%◌, ◌<◌, ◌≤◌, Bool, true, false, cond, ◌||◌, ◌==◌, nat_lt, List, [], ◌∷◌, ◌++◌, length, Option, Some, None, Ok, refl, sym, ap, subst, ◌∙◌, append_assoc, append-nil, arith}
use Rattle.std.specs.Prelude.{encode_utf8}
use Rattle.std.specs.Char.{digit_char}
use Rattle.std.proofs.lemmas.Bool.{eqb-true}
use Rattle.std.proofs.lemmas.Bool.Decides.{nat_tests}
use Rattle.std.proofs.lemmas.List.{length-append}
use Rattle.std.proofs.lemmas.Str.{encode_ascii, digit_value-digit_char}
use Rattle.yaml_profile.specs.declared.fault.Fault.TheVariants.{Syntax}
use Rattle.yaml_profile.specs.Text.{Text, Outcome, refuse}
use Rattle.yaml_profile.specs.Scalar.{is_scalar_value, hex, hex_value, escape, double, double_quoted, scalar}
use Rattle.yaml_profile.specs.Print.{escaped_by, escaped, all_escaped, quoted}
use Rattle.yaml_profile.proofs.ScalarLemmas.{small_scalar}

-- ---- hexadecimal digits

hex_value_is : (d : ℕ) → d < 16 → hex_value (digit_char d) ≡ Some d
hex_value_is d h = let e = digit_value-digit_char d (omega arith) in rw e (grind (arith, nat_tests))

split_byte : (b : ℕ) → 16 * (16 * 0 + b / 16) + b % 16 ≡ b
split_byte b = omega arith

hex_step : (whole : Text) (n number b d : ℕ) (t : Text) → hex_value b ≡ Some d → hex whole (suc n) number (b ∷ t) ≡ hex whole n (16 * number + d) t
unfolding hex
hex_step whole n number b d t e =
    ap (λ (o : Option ℕ). elim o as (λ _. Outcome ℕ) [ Some x ↦ hex whole n (16 * number + x) t | None ↦ refuse Syntax whole ]) e

hex_end : (whole : Text) (number : ℕ) (t : Text) → is_scalar_value number ≡ true → hex whole 0 number t ≡ Ok (number, t)
unfolding hex
hex_end whole number t e = ap (λ (c : Bool). cond c (Ok (number, t)) (refuse Syntax whole)) e

hex_read : (whole : Text) (b : ℕ) (more : Text) → b < 128 → hex whole 2 0 (digit_char (b / 16) ∷ digit_char (b % 16) ∷ more) ≡ Ok (b, more)
hex_read whole b more h =
    hex_step whole 1 0 (digit_char (b / 16)) (b / 16) (digit_char (b % 16) ∷ more) (hex_value_is (b / 16) (omega arith))
    ∙ hex_step whole 0 (16 * 0 + b / 16) (digit_char (b % 16)) (b % 16) more (hex_value_is (b % 16) (omega arith))
    ∙ ap (λ (k : ℕ). hex whole 0 k more) (split_byte b) ∙ hex_end whole b more (small_scalar b h)

-- ---- one byte

-- the byte, as it is written, is read as itself
abbrev IsByte : ℕ → List ℕ → ℕ → List ℕ → Text → Type 0
IsByte b written n found more = double (suc n) found (written ++ more) ≡ double n (found ++ b ∷ []) more

character : (n : ℕ) (found : List ℕ) (more : Text) (b : ℕ) → b < 128 → double n (found ++ encode_utf8 b) more ≡ double n (found ++ b ∷ []) more
character n found more b h = ap (λ (w : List ℕ). double n (found ++ w) more) (encode_ascii b h)

at_backslash : (n : ℕ) (found : List ℕ) (more : Text) → IsByte 92 (92 ∷ 92 ∷ []) n found more
unfolding double escape
at_backslash n found more = character n found more 92 (omega arith)

at_quote : (n : ℕ) (found : List ℕ) (more : Text) → IsByte 34 (92 ∷ 34 ∷ []) n found more
unfolding double escape
at_quote n found more = character n found more 34 (omega arith)

at_line_end : (n : ℕ) (found : List ℕ) (more : Text) → IsByte 10 (92 ∷ 110 ∷ []) n found more
unfolding double escape
at_line_end n found more = character n found more 10 (omega arith)

at_tab : (n : ℕ) (found : List ℕ) (more : Text) → IsByte 9 (92 ∷ 116 ∷ []) n found more
unfolding double escape
at_tab n found more = character n found more 9 (omega arith)

at_control : (n : ℕ) (found : List ℕ) (more : Text) (b : ℕ) → b < 128
    → IsByte b (92 ∷ 120 ∷ digit_char (b / 16) ∷ digit_char (b % 16) ∷ []) n found more
unfolding double escape
at_control n found more b h =
    let e = hex_read (92 ∷ 120 ∷ digit_char (b / 16) ∷ digit_char (b % 16) ∷ more) b more h in
    rw (e, encode_ascii b h) refl

at_other : (n : ℕ) (found : List ℕ) (more : Text) (b : ℕ) → (b == 34) ≡ false → (b == 92) ≡ false → (b == 10) ≡ false → (b == 13) ≡ false
    → IsByte b (b ∷ []) n found more
unfolding double
at_other n found more b q s l r = rw (q, s, l, r) refl

or_false : (x y : Bool) → (x || y) ≡ false → (x ≡ false) × (y ≡ false)
or_false true y h = absurd cc
or_false false y h = (refl, h)

pub small_control : (b : ℕ) → (nat_lt b 32 || b == 127) ≡ true → b < 128
small_control b h = grind (arith, nat_tests)

not_return : (b : ℕ) → (nat_lt b 32 || b == 127) ≡ false → (b == 13) ≡ false
not_return b h = grind (arith, nat_tests)

-- at a byte that equals the number, what holds at the number
at_number : (P : ℕ → Type 0) (b c : ℕ) → (b == c) ≡ true → P c → P b
at_number P b c e h = subst P (sym (eqb-true b c e)) h

marked : (n : ℕ) (found : List ℕ) (more : Text) (b : ℕ) → (b == 92 || b == 34) ≡ true → IsByte b (92 ∷ b ∷ []) n found more
marked n found more b h = go (b == 92) refl h
  where
    go : (x : Bool) → (b == 92) ≡ x → (x || b == 34) ≡ true → IsByte b (92 ∷ b ∷ []) n found more
    go true e k = at_number (λ (c : ℕ). IsByte c (92 ∷ c ∷ []) n found more) b 92 e (at_backslash n found more)
    go false e k = at_number (λ (c : ℕ). IsByte c (92 ∷ c ∷ []) n found more) b 34 k (at_quote n found more)

byte_read : (n : ℕ) (found : List ℕ) (more : Text) (b : ℕ) (q l t c : Bool) → (b == 92 || b == 34) ≡ q → (b == 10) ≡ l → (b == 9) ≡ t
    → (nat_lt b 32 || b == 127) ≡ c
    → IsByte b (escaped_by b q l t c) n found more
byte_read n found more b true l t c eq el et ec = marked n found more b eq
byte_read n found more b false true t c eq el et ec = at_number (λ (w : ℕ). IsByte w (92 ∷ 110 ∷ []) n found more) b 10 el (at_line_end n found more)
byte_read n found more b false false true c eq el et ec = at_number (λ (w : ℕ). IsByte w (92 ∷ 116 ∷ []) n found more) b 9 et (at_tab n found more)
byte_read n found more b false false false true eq el et ec = at_control n found more b (small_control b ec)
byte_read n found more b false false false false eq el et ec =
    let p = or_false (b == 92) (b == 34) eq in
    at_other n found more b p.1 p.0 el (not_return b ec)

-- ---- a text

all_read : (text : List ℕ) (n : ℕ) (found : List ℕ) (rest : Text) → length text ≤ n
    → double (suc n) found (all_escaped text ++ 34 ∷ rest) ≡ Ok (found ++ text, rest)
unfolding double all_escaped
all_read [] n found rest le = ap (λ (x : List ℕ). Ok (x, rest)) (sym (append-nil found))
all_read (b ∷ text) zero found rest le = absurd (omega arith)
all_read (b ∷ text) (suc n) found rest le =
    let one = byte_read (suc n) found (all_escaped text ++ 34 ∷ rest) b _ _ _ _ refl refl refl refl in
    let more = all_read text n (found ++ b ∷ []) rest (omega arith) in
    let regrouped : (escaped b ++ all_escaped text) ++ 34 ∷ rest ≡ escaped b ++ (all_escaped text ++ 34 ∷ rest) =
    append_assoc (escaped b) (all_escaped text) (34 ∷ rest) in
    ap (double (suc (suc n)) found) regrouped ∙ one ∙ more ∙ ap (λ (x : List ℕ). Ok (x, rest)) (append_assoc found (b ∷ []) text)

byte_long : (b : ℕ) (q l t c : Bool) → 1 ≤ length (escaped_by b q l t c)
byte_long b true l t c = omega arith
byte_long b false true t c = omega arith
byte_long b false false true c = omega arith
byte_long b false false false true = omega arith
byte_long b false false false false = omega arith

all_long : (text : List ℕ) → length text ≤ length (all_escaped text)
unfolding all_escaped
all_long [] = omega arith
all_long (b ∷ text) =
    let one = byte_long b (b == 92 || b == 34) (b == 10) (b == 9) (nat_lt b 32 || b == 127) in
    omega (arith, length-append (escaped b) (all_escaped text), one, all_long text)

quoted_read : (text : List ℕ) (rest : Text) → double_quoted (all_escaped text ++ 34 ∷ rest) ≡ Ok (text, rest)
quoted_read text rest = all_read text _ [] rest (omega (arith, length-append (all_escaped text) (34 ∷ rest), all_long text))

pub scalar_read : (flow : Bool) (text : List ℕ) (rest : Text) → scalar flow (quoted text ++ rest) ≡ Ok (text, rest)
unfolding scalar
scalar_read flow text rest = ap double_quoted (append_assoc (all_escaped text) (34 ∷ []) rest) ∙ quoted_read text rest
