-- Numbers of digits.
use Rattle.std.proofs.Common.{◌≡◌, ◌≤◌, ◌<◌, ℕ, ◌+◌, ◌*◌, ◌-◌, Bool, true, false, nat_le, if◌then◌else◌, List, [], ◌∷◌, Option, Some, None, refl, ap, ◌∙◌, arith}
use Rattle.std.proofs.lemmas.Grind.{common_steps}
use Rattle.std.proofs.lemmas.Bool.{leb-true, le-leb}
use Rattle.std.proofs.lemmas.Bool.Decides.{leb_tells}
use Rattle.command_line.specs.Number.{is_digit, number_from, at_most, with_digit}

-- more digits make no smaller number
pub grows : (n : ℕ) (bs : List ℕ) (m : ℕ) → number_from n bs ≡ Some m → n ≤ m
unfolding number_from
grows n [] m e = (let same : n ≡ m = cc e in omega arith)
grows n (b ∷ bs) m e = go (is_digit b) (grows (10 * n + (b - 48)) bs m) e
  where
    go : (c : Bool) → (number_from (10 * n + (b - 48)) bs ≡ Some m → 10 * n + (b - 48) ≤ m)
        → (if c then number_from (10 * n + (b - 48)) bs else None) ≡ Some m → n ≤ m
    go true later h = (let more : 10 * n + (b - 48) ≤ m = later h in omega arith)
    go false later h = absurd cc

-- a number that is too large stays so
pub too_large : (most n : ℕ) (bs : List ℕ) → most < n → at_most most (number_from n bs) ≡ None
too_large most n bs h = go (number_from n bs) refl
  where
    go : (o : Option ℕ) → number_from n bs ≡ o → at_most most o ≡ None
    go None e = refl
    go (Some m) e = (let more : n ≤ m = grows n bs m e in grind (arith, common_steps, leb_tells))

-- one more digit
pub next_digit : (most n b : ℕ) (bs : List ℕ) (o : Option ℕ) → with_digit most n b ≡ o → at_most most (number_from n (b ∷ bs)) ≡ elim o [ None ↦ None | Some m ↦ at_most most (number_from m bs) ]
unfolding number_from
next_digit most n b bs o e = ap (λ (x : Option ℕ). x) (go (is_digit b) e)
  where
    more : ℕ
    more = 10 * n + (b - 48)

    fits : (c : Bool) → nat_le more most ≡ c → (p : Option ℕ) → (if c then Some more else None) ≡ p → at_most most (number_from more bs) ≡ elim p [ None ↦ None | Some m ↦ at_most most (number_from m bs) ]
    fits true h p e = ap (λ (x : Option ℕ). elim x [ None ↦ None | Some m ↦ at_most most (number_from m bs) ]) e
    fits false h p e = too_large most more bs (grind (arith, common_steps, leb_tells)) ∙ ap (λ (x : Option ℕ). elim x [ None ↦ None | Some m ↦ at_most most (number_from m bs) ]) e

    go : (c : Bool) → (if c then at_most most (Some more) else None) ≡ o → at_most most (if c then number_from more bs else None) ≡ elim o [ None ↦ None | Some m ↦ at_most most (number_from m bs) ]
    go true h = fits (nat_le more most) refl o h
    go false h = ap (λ (x : Option ℕ). elim x [ None ↦ None | Some m ↦ at_most most (number_from m bs) ]) h

-- a digit that fits
pub digit_within : (most n b m : ℕ) → with_digit most n b ≡ Some m → m ≤ most
digit_within most n b m e = go (is_digit b) e
  where
    fits : (c : Bool) → nat_le (10 * n + (b - 48)) most ≡ c → (if c then Some (10 * n + (b - 48)) else None) ≡ Some m → m ≤ most
    fits true h e = (let same : 10 * n + (b - 48) ≡ m = cc e in omega (arith, leb-true (10 * n + (b - 48)) most h))
    fits false h e = absurd cc

    go : (c : Bool) → (if c then at_most most (Some (10 * n + (b - 48))) else None) ≡ Some m → m ≤ most
    go true h = fits (nat_le (10 * n + (b - 48)) most) refl h
    go false h = absurd cc

-- no more digits
pub no_digit : (most n : ℕ) (bs : List ℕ) → n ≤ most → bs ≡ [] → at_most most (number_from n bs) ≡ Some n
unfolding number_from
no_digit most n bs h e =
    ap (λ (l : List ℕ). at_most most (number_from n l)) e ∙ ap (λ (c : Bool). if c then Some n else None) (le-leb n most h)
