-- Texts: what is read is what was spelled, and nothing else.
use Rattle.std.proofs.Common.{◌≡◌, ℕ, Bool, List, ◌++◌, take, drop, length, Some, sym, ◌∙◌, ap, subst, arith, nat_le, append_assoc, length-append}
use Rattle.std.proofs.lemmas.Bool.{leb-true, le-leb}
use Rattle.std.proofs.lemmas.List.{take-append-drop, length-take-le}
use Rattle.std.proofs.Math.Seq.{drop-append_seam, take-append_seam}
use Rattle.spelling.specs.Spelling.{count_bytes, text_bytes}
use Rattle.build_keys.specs.Keys.{IsShort}
use Rattle.build_keys.specs.Reading.{IsRead, Reads, count_at, text_at, passing_at}
use Rattle.build_keys.proofs.OptionLemmas.{found, held, step, when-true, first-same, second-same}
use Rattle.build_keys.proofs.CountLemmas.{IsCount, count-reads}

-- the number of the text's bytes fits the four bytes of a count
abbrev pub HasCount : List ℕ → Type 0
HasCount text = IsCount (length text)

text-back : (text rest : List ℕ) → HasCount text → text_at (text_bytes text ++ rest) ≡ Some (text, rest)
unfolding text_at
text-back text rest h =
    let n = length text in
    let behind = text ++ rest in
    ap text_at (append_assoc (count_bytes n) text rest)
    ∙ step (count_at (count_bytes n ++ behind)) _ (n, behind) (count-reads.back n behind h)
    ∙ when-true (nat_le n (length behind)) (take n behind, drop n behind) (le-leb n (length behind) (omega (arith, length-append text rest)))
    ∙ ap (λ z. Some (z, drop n behind)) (take-append_seam text rest) ∙ ap (λ z. Some (text, z)) (drop-append_seam text rest)

text-only : (bytes text rest : List ℕ) → text_at bytes ≡ Some (text, rest) → IsRead text_bytes HasCount bytes text rest
unfolding text_at
text-only bytes text rest e =
    let got = found (count_at bytes) _ (text, rest) e in
    let n = got.middle.0 in
    let behind = got.middle.1 in
    let count = count-reads.only bytes n behind got.first_is in
    let cut = held (nat_le n (length behind)) (take n behind, drop n behind) (text, rest) got.next_is in
    let one = first-same (take n behind) text (drop n behind) rest cut.same in
    let two = second-same (take n behind) text (drop n behind) rest cut.same in
    let size : n ≡ length text = sym (length-take-le n behind (leb-true n (length behind) cut.holds)) ∙ ap length one in
    let all : behind ≡ text ++ rest = sym (take-append-drop n behind) ∙ ap (λ z. z ++ drop n behind) one ∙ ap (λ z. text ++ z) two in
    record {
      whole = count.whole ∙ ap (λ z. count_bytes n ++ z) all ∙ sym (append_assoc (count_bytes n) text rest) ∙ ap (λ z. count_bytes z ++ text ++ rest) size;
      has_one = let P : ℕ → Type 0 = IsCount in subst P size count.has_one;
    }

pub text-reads : Reads text_bytes HasCount text_at
text-reads = record { back = text-back; only = text-only }

passing-back : (test : List ℕ → Bool) (text rest : List ℕ) → IsShort test text → passing_at test (text_bytes text ++ rest) ≡ Some (text, rest)
unfolding passing_at
passing-back test text rest h =
    step (text_at (text_bytes text ++ rest)) _ (text, rest) (text-back text rest h.short) ∙ when-true (test text) (text, rest) h.passes

passing-only : (test : List ℕ → Bool) (bytes text rest : List ℕ) → passing_at test bytes ≡ Some (text, rest) → IsRead text_bytes (IsShort test) bytes text rest
unfolding passing_at
passing-only test bytes text rest e =
    let got = found (text_at bytes) _ (text, rest) e in
    let word = got.middle.0 in
    let behind = got.middle.1 in
    let read = text-only bytes word behind got.first_is in
    let cut = held (test word) (word, behind) (text, rest) got.next_is in
    let one = first-same word text behind rest cut.same in
    let two = second-same word text behind rest cut.same in
    record {
      whole = read.whole ∙ ap (λ z. text_bytes z ++ behind) one ∙ ap (λ z. text_bytes text ++ z) two;
      has_one = let P : List ℕ → Type 0 = IsShort test in subst P one (record { passes = cut.holds; short = read.has_one });
    }

pub passing-reads : (test : List ℕ → Bool) → Reads text_bytes (IsShort test) (passing_at test)
passing-reads test = record { back = passing-back test; only = passing-only test }
