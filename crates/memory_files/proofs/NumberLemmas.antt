-- Numbers of writes, and the map that agrees with all of them.
use Rattle.std.proofs.Common.{◌≡◌, ◌+◌, ℕ, suc, Bool, true, false, List, [], ◌∷◌, ◌++◌, length, refl, eqb, eq-eqb, arith}
use Rattle.std.specs.Prelude.{◌&&◌}
use Rattle.memory_files.specs.declared.write.Write.{Write}
use Rattle.memory_files.specs.Log.{numbered_from}

pub both-true : (a b : Bool) → (a && b) ≡ true → (a ≡ true) × (b ≡ true)
both-true true b e = (refl, e)
both-true false b e = cc e

pub numbered-append : (n : ℕ) (ws : List Write) (w : Write) → numbered_from n ws ≡ true → w.number ≡ n + length ws → numbered_from n (ws ++ w ∷ []) ≡ true
numbered-append n [] w h e =
    let same : w.number ≡ n = omega (arith, e) in
    rw (eq-eqb w.number n same) refl
numbered-append n (v ∷ ws) w h e =
    let parts = both-true (eqb v.number n) (numbered_from (suc n) ws) h in
    rw parts.0 (numbered-append (suc n) ws w parts.1 (omega (arith, e)))
