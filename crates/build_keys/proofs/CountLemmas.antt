-- Counts: what is read is what was spelled, and nothing else.
use Rattle.std.proofs.Common.{◌≡◌, ℕ, zero, suc, ◌+◌, ◌-◌, ◌*◌, ◌<◌, ◌≤◌, ◌^◌, true, nat_lt, List, [], ◌∷◌, ◌++◌, take, drop, length, get_or, Some}
use Rattle.std.proofs.Common.{refl, sym, ◌∙◌, ap, subst, arith}
use Rattle.std.specs.Prelude.{bytes_eq}
use Rattle.std.specs.Int.{w32, from_be_bytes}
use Rattle.std.proofs.lemmas.Bool.{lt-ltb, ltb-true}
use Rattle.std.proofs.lemmas.List.{take_all}
use Rattle.std.proofs.lemmas.Nat.{be_bytes_4, from_be_bytes-to_be_bytes_4}
use Rattle.std.proofs.lemmas.Slice.Eq.{bytes_eq-Decides}
use Rattle.spelling.specs.Spelling.{count_bytes}
use Rattle.build_keys.specs.Reading.{IsRead, Reads, when, is_count, count_in, count_at}
use Rattle.build_keys.proofs.OptionLemmas.{held, and-true, and-first, and-second, first-same, second-same}

-- the number is below 2^32, so it fits the four bytes of a count
abbrev pub IsCount : ℕ → Type 0
IsCount n = n < 2 ^ 32

-- four bytes that spell a number
counted : (four rest : List ℕ) (n : ℕ) → n < 2 ^ 32 → n ≡ from_be_bytes w32 four → count_bytes n ≡ four → count_in four rest ≡ Some (n, rest)
counted four rest n h e s =
    let test : is_count n four ≡ true =
    and-true (nat_lt n (2 ^ 32)) (bytes_eq (count_bytes n) four) (lt-ltb n (2 ^ 32) h) ((bytes_eq-Decides (count_bytes n) four).1 s) in
    ap (λ m. when (is_count m four) (m, rest)) (sym e) ∙ ap (λ b. when b (n, rest)) test

fit : (a b c d : ℕ) (rest : List ℕ) → ((i : ℕ) → get_or (a ∷ b ∷ c ∷ d ∷ rest) i 0 < 256) → (i : ℕ) → get_or (a ∷ b ∷ c ∷ d ∷ []) i 0 < 256
fit a b c d rest f zero = f 0
fit a b c d rest f (suc zero) = f 1
fit a b c d rest f (suc (suc zero)) = f 2
fit a b c d rest f (suc (suc (suc zero))) = f 3
fit a b c d rest f (suc (suc (suc (suc i)))) = omega arith

-- the number that the first four of some bytes spell
pub count_at-four : (bytes : List ℕ) (n : ℕ) → 4 ≤ length bytes → ((i : ℕ) → get_or bytes i 0 < 256) → n < 2 ^ 32
    → n ≡ get_or bytes 0 0 * 16777216 + get_or bytes 1 0 * 65536 + get_or bytes 2 0 * 256 + get_or bytes 3 0
    → count_at bytes ≡ Some (n, take (length bytes - 4) (drop 4 bytes))
unfolding count_at count_bytes
count_at-four [] n long f h e = absurd (omega arith)
count_at-four (a ∷ []) n long f h e = absurd (omega arith)
count_at-four (a ∷ b ∷ []) n long f h e = absurd (omega arith)
count_at-four (a ∷ b ∷ c ∷ []) n long f h e = absurd (omega arith)
count_at-four (a ∷ b ∷ c ∷ d ∷ rest) n long f h e =
    let four = a ∷ b ∷ c ∷ d ∷ [] in
    let number : n ≡ from_be_bytes w32 four = e in
    let read = counted four rest n h number (be_bytes_4 four n refl (fit a b c d rest f) number) in
    let whole : take (length (a ∷ b ∷ c ∷ d ∷ rest) - 4) rest ≡ rest = take_all (length (a ∷ b ∷ c ∷ d ∷ rest) - 4) rest (omega arith) in
    read ∙ ap (λ z. Some (n, z)) (sym whole)

count-back : (n : ℕ) (rest : List ℕ) → IsCount n → count_at (count_bytes n ++ rest) ≡ Some (n, rest)
unfolding count_at count_bytes
count-back n rest h = counted (count_bytes n) rest n h (sym (from_be_bytes-to_be_bytes_4 n h)) refl

count_in-only : (four behind : List ℕ) (n : ℕ) (rest : List ℕ) → count_in four behind ≡ Some (n, rest) → IsRead count_bytes IsCount (four ++ behind) n rest
count_in-only four behind n rest e =
    let m = from_be_bytes w32 four in
    let got = held (is_count m four) (m, behind) (n, rest) e in
    let number = first-same m n behind rest got.same in
    let same = second-same m n behind rest got.same in
    let short = ltb-true m (2 ^ 32) (and-first (nat_lt m (2 ^ 32)) (bytes_eq (count_bytes m) four) got.holds) in
    let spelled : count_bytes m ≡ four = (bytes_eq-Decides (count_bytes m) four).0 (and-second (nat_lt m (2 ^ 32)) (bytes_eq (count_bytes m) four) got.holds) in
    record {
      whole = ap (λ z. z ++ behind) (sym spelled) ∙ ap (λ z. count_bytes z ++ behind) number ∙ ap (λ z. count_bytes n ++ z) same;
      has_one = let P : ℕ → Type 0 = IsCount in subst P number short;
    }

count-only : (bytes : List ℕ) (n : ℕ) (rest : List ℕ) → count_at bytes ≡ Some (n, rest) → IsRead count_bytes IsCount bytes n rest
unfolding count_at
count-only [] n rest e = cc e
count-only (a ∷ []) n rest e = cc e
count-only (a ∷ b ∷ []) n rest e = cc e
count-only (a ∷ b ∷ c ∷ []) n rest e = cc e
count-only (a ∷ b ∷ c ∷ d ∷ behind) n rest e = count_in-only (a ∷ b ∷ c ∷ d ∷ []) behind n rest e

pub count-reads : Reads count_bytes IsCount count_at
count-reads = record { back = count-back; only = count-only }
