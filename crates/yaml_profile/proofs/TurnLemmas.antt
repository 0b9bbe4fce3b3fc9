-- A recursion on a number of turns, beside a loop whose text shrinks.
use Rattle.std.proofs.Common.{◌≡◌, ℕ, suc, ◌-◌, ◌<◌, ◌≤◌, ap, sym, ◌∙◌, arith}

-- f goes on to the whole, with more turns than bytes are left
pub record Turns {X : Type 0} (f : ℕ → X) (left : ℕ) (whole : X) : Type 0 where
  pub turns : ℕ
  pub enough : left ≤ turns
  pub goes_on : f (suc turns) ≡ whole

pub next_turn : {X : Type 0} (f g : ℕ → X) (k l : ℕ) (whole : X) → Turns f k whole → l < k → ((n : ℕ) → f (suc n) ≡ g n) → Turns g l whole
next_turn f g k l whole t less step =
    let enough = t.enough in
    let same : suc (t.turns - 1) ≡ t.turns = omega arith in
    record { turns = t.turns - 1; enough = omega arith; goes_on = ap g same ∙ sym (step t.turns) ∙ t.goes_on }
