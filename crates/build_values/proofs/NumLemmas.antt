-- Numbers in eight bytes: what is read is what was spelled, and nothing else.
use Rattle.std.proofs.Common.{◌≡◌, ℕ, zero, suc, ◌-◌, ◌<◌, ◌≤◌, ◌^◌, true, nat_lt, List, [], ◌∷◌, ◌++◌, take, drop, length, get_or, Some, refl}
use Rattle.std.proofs.Common.{sym, ◌∙◌, ap, subst, arith}
use Rattle.std.specs.Prelude.{bytes_eq}
use Rattle.std.specs.Int.{w64, from_be_bytes}
use Rattle.std.proofs.lemmas.Bool.{lt-ltb, ltb-true}
use Rattle.std.proofs.lemmas.List.{take_all}
use Rattle.std.proofs.lemmas.Nat.{be_bytes_8, from_be_bytes-to_be_bytes_8}
use Rattle.std.proofs.lemmas.Slice.Eq.{bytes_eq-Decides}
use Rattle.spelling.specs.Spelling.{items_bytes}
use Rattle.build_values.specs.Values.{num_bytes, IsNum, IsStamp}
use Rattle.build_keys.specs.Reading.{IsRead, Reads, when, items_from}
use Rattle.build_values.specs.ValueReading.{is_num, num_in, num_at, stamp_at}
use Rattle.build_keys.proofs.OptionLemmas.{held, and-true, and-first, and-second, first-same, second-same}
use Rattle.build_keys.proofs.ItemLemmas.{items-back, items-only}

-- eight bytes that spell a number
num_in-spelled : (eight rest : List ℕ) (n : ℕ) → n < 2 ^ 64 → n ≡ from_be_bytes w64 eight → num_bytes n ≡ eight → num_in eight rest ≡ Some (n, rest)
num_in-spelled eight rest n h e s =
    let test : is_num n eight ≡ true =
    and-true (nat_lt n (2 ^ 64)) (bytes_eq (num_bytes n) eight) (lt-ltb n (2 ^ 64) h) ((bytes_eq-Decides (num_bytes n) eight).1 s) in
    ap (λ m. when (is_num m eight) (m, rest)) (sym e) ∙ ap (λ b. when b (n, rest)) test

fit : (a b c d e f g h : ℕ) (rest : List ℕ) → ((i : ℕ) → get_or (a ∷ b ∷ c ∷ d ∷ e ∷ f ∷ g ∷ h ∷ rest) i 0 < 256)
    → (i : ℕ) → get_or (a ∷ b ∷ c ∷ d ∷ e ∷ f ∷ g ∷ h ∷ []) i 0 < 256
fit a b c d e f g h rest k zero = k 0
fit a b c d e f g h rest k (suc zero) = k 1
fit a b c d e f g h rest k (suc (suc zero)) = k 2
fit a b c d e f g h rest k (suc (suc (suc zero))) = k 3
fit a b c d e f g h rest k (suc (suc (suc (suc zero)))) = k 4
fit a b c d e f g h rest k (suc (suc (suc (suc (suc zero))))) = k 5
fit a b c d e f g h rest k (suc (suc (suc (suc (suc (suc zero)))))) = k 6
fit a b c d e f g h rest k (suc (suc (suc (suc (suc (suc (suc zero))))))) = k 7
fit a b c d e f g h rest k (suc (suc (suc (suc (suc (suc (suc (suc i)))))))) = omega arith

-- the number that the first eight of some bytes spell
pub num_at-eight : (bytes : List ℕ) (n : ℕ) → 8 ≤ length bytes → ((i : ℕ) → get_or bytes i 0 < 256) → n < 2 ^ 64
    → n ≡ from_be_bytes w64
    (get_or bytes 0 0 ∷ get_or bytes 1 0 ∷ get_or bytes 2 0 ∷ get_or bytes 3 0 ∷ get_or bytes 4 0 ∷ get_or bytes 5 0 ∷ get_or bytes 6 0 ∷ get_or bytes 7 0 ∷ [])
    → num_at bytes ≡ Some (n, take (length bytes - 8) (drop 8 bytes))
unfolding num_at num_bytes
num_at-eight (a ∷ b ∷ c ∷ d ∷ e ∷ f ∷ g ∷ h ∷ rest) n long k m number =
    let eight = a ∷ b ∷ c ∷ d ∷ e ∷ f ∷ g ∷ h ∷ [] in
    let read = num_in-spelled eight rest n m number (be_bytes_8 eight n refl (fit a b c d e f g h rest k) number) in
    let all = length (a ∷ b ∷ c ∷ d ∷ e ∷ f ∷ g ∷ h ∷ rest) - 8 in
    let whole : take all rest ≡ rest = take_all all rest (omega arith) in
    read ∙ ap (λ z. Some (n, z)) (sym whole)
num_at-eight (a ∷ b ∷ c ∷ d ∷ e ∷ f ∷ g ∷ []) n long k m number = absurd (omega arith)
num_at-eight (a ∷ b ∷ c ∷ d ∷ e ∷ f ∷ []) n long k m number = absurd (omega arith)
num_at-eight (a ∷ b ∷ c ∷ d ∷ e ∷ []) n long k m number = absurd (omega arith)
num_at-eight (a ∷ b ∷ c ∷ d ∷ []) n long k m number = absurd (omega arith)
num_at-eight (a ∷ b ∷ c ∷ []) n long k m number = absurd (omega arith)
num_at-eight (a ∷ b ∷ []) n long k m number = absurd (omega arith)
num_at-eight (a ∷ []) n long k m number = absurd (omega arith)
num_at-eight [] n long k m number = absurd (omega arith)

num-back : (n : ℕ) (rest : List ℕ) → IsNum n → num_at (num_bytes n ++ rest) ≡ Some (n, rest)
unfolding num_at num_bytes
num-back n rest h = num_in-spelled (num_bytes n) rest n h (sym (from_be_bytes-to_be_bytes_8 n h)) refl

num_in-only : (eight behind : List ℕ) (n : ℕ) (rest : List ℕ) → num_in eight behind ≡ Some (n, rest) → IsRead num_bytes IsNum (eight ++ behind) n rest
num_in-only eight behind n rest e =
    let m = from_be_bytes w64 eight in
    let got = held (is_num m eight) (m, behind) (n, rest) e in
    let number = first-same m n behind rest got.same in
    let same = second-same m n behind rest got.same in
    let fits = ltb-true m (2 ^ 64) (and-first (nat_lt m (2 ^ 64)) (bytes_eq (num_bytes m) eight) got.holds) in
    let spelled : num_bytes m ≡ eight = (bytes_eq-Decides (num_bytes m) eight).0 (and-second (nat_lt m (2 ^ 64)) (bytes_eq (num_bytes m) eight) got.holds) in
    record {
      whole = ap (λ z. z ++ behind) (sym spelled) ∙ ap (λ z. num_bytes z ++ behind) number ∙ ap (λ z. num_bytes n ++ z) same;
      has_one = let P : ℕ → Type 0 = IsNum in subst P number fits;
    }

num-only : (bytes : List ℕ) (n : ℕ) (rest : List ℕ) → num_at bytes ≡ Some (n, rest) → IsRead num_bytes IsNum bytes n rest
unfolding num_at
num-only (a ∷ b ∷ c ∷ d ∷ e ∷ f ∷ g ∷ h ∷ behind) n rest k = num_in-only (a ∷ b ∷ c ∷ d ∷ e ∷ f ∷ g ∷ h ∷ []) behind n rest k
num-only (a ∷ b ∷ c ∷ d ∷ e ∷ f ∷ g ∷ []) n rest k = cc k
num-only (a ∷ b ∷ c ∷ d ∷ e ∷ f ∷ []) n rest k = cc k
num-only (a ∷ b ∷ c ∷ d ∷ e ∷ []) n rest k = cc k
num-only (a ∷ b ∷ c ∷ d ∷ []) n rest k = cc k
num-only (a ∷ b ∷ c ∷ []) n rest k = cc k
num-only (a ∷ b ∷ []) n rest k = cc k
num-only (a ∷ []) n rest k = cc k
num-only [] n rest k = cc k

pub num-reads : Reads num_bytes IsNum num_at
num-reads = record { back = num-back; only = num-only }

stamp-back : (stamp rest : List ℕ) → IsStamp stamp → stamp_at (items_bytes num_bytes stamp ++ rest) ≡ Some (stamp, rest)
stamp-back stamp rest h =
    let P : ℕ → Type 0 = λ n. items_from num_at n [] (items_bytes num_bytes stamp ++ rest) ≡ Some (stamp, rest) in
    subst P h.four (items-back num_bytes IsNum num_at num-reads stamp [] rest h.each)

stamp-only : (bytes stamp rest : List ℕ) → stamp_at bytes ≡ Some (stamp, rest) → IsRead (items_bytes num_bytes) IsStamp bytes stamp rest
stamp-only bytes stamp rest e =
    let read = items-only num_bytes IsNum num_at num-reads 4 [] bytes stamp rest e in
    let same : read.items ≡ stamp = sym read.all_is in
    record {
      whole = read.whole ∙ ap (λ z. items_bytes num_bytes z ++ rest) same;
      has_one = let P : List ℕ → Type 0 = IsStamp in subst P same (record { each = read.each; four = read.many });
    }

pub stamp-reads : Reads (items_bytes num_bytes) IsStamp stamp_at
stamp-reads = record { back = stamp-back; only = stamp-only }

-- within a list it does not matter what stands for the items past its end
pub get_or-within : (xs : List ℕ) (k d e : ℕ) → k < length xs → get_or xs k d ≡ get_or xs k e
get_or-within [] k d e h = absurd (omega arith)
get_or-within (x ∷ xs) zero d e h = refl
get_or-within (x ∷ xs) (suc k) d e h = get_or-within xs k d e (omega arith)
