-- The map of a numbered log agrees with each of its writes.
use Rattle.std.proofs.Common.{◌≡◌, ◌≤◌, ◌<◌, ℕ, suc, Bool, true, false, cond, List, [], ◌∷◌, length, refl, inl, inr, ap, sym, ◌∙◌, subst, eqb, eq-eqb, eqb-true, arith}
use Rattle.std.specs.Prelude.{◌&&◌}
use Rattle.file_info.specs.Content.{FileVersion, text_at, same_list, same_info}
use Rattle.file_info.specs.Lists.{In}
use Rattle.file_info.specs.declared.info.Info.TheVariants.{File}
use Rattle.memory_files.specs.declared.write.What.{What}
use Rattle.memory_files.specs.declared.write.What.TheVariants.{Gone, Dir, Bytes, LinkText}
use Rattle.memory_files.specs.declared.write.Write.{Write}
use Rattle.memory_files.specs.Log.{AgreesAt, Tells, numbered_from, map_of, text_of}
use Rattle.memory_files.proofs.LogLemmas.{agrees-all}
use Rattle.file_info.proofs.Lists.{same_list-refl}
use Rattle.memory_files.proofs.NumberLemmas.{both-true}

above : (ws : List Write) (n : ℕ) → numbered_from n ws ≡ true → (w : Write) → In w ws → n ≤ w.number
above [] n h w i = absurd i
above (v ∷ ws) n h w (inl e) = (let first = eqb-true v.number n (both-true (eqb v.number n) (numbered_from (suc n) ws) h).0 in let same = ap (λ (z : Write). z.number) e in omega arith)
above (v ∷ ws) n h w (inr i) = (let rest = above ws (suc n) (both-true (eqb v.number n) (numbered_from (suc n) ws) h).1 w i in omega arith)

eqb-less : (a b : ℕ) → a < b → eqb a b ≡ false
eqb-less a b h = go (eqb a b) refl
  where
    go : (c : Bool) → eqb a b ≡ c → c ≡ false
    go true e = (let same = eqb-true a b e in absurd (omega arith))
    go false e = refl

and-false : (a b c d : Bool) → c ≡ false → (a && (b && (c && d))) ≡ false
and-false true true c d e = rw e refl
and-false true false c d e = refl
and-false false b c d e = refl

info-refl : (s n : ℕ) → same_info (File s (n ∷ 0 ∷ 0 ∷ 0 ∷ [])) (File s (n ∷ 0 ∷ 0 ∷ 0 ∷ [])) ≡ true
info-refl s n = rw (eq-eqb s s refl, eq-eqb n n refl) refl

at-own : (ws : List Write) (n : ℕ) → numbered_from n ws ≡ true → (w : Write) → In w ws
    → text_at (map_of ws) w.path (File (length (text_of w.what)) (w.number ∷ 0 ∷ 0 ∷ 0 ∷ [])) ≡ text_of w.what
at-own [] n h w i = absurd i
at-own (v ∷ ws) n h w (inl e) =
    subst (λ (z : Write). text_at (map_of (v ∷ ws)) z.path (File (length (text_of z.what)) (z.number ∷ 0 ∷ 0 ∷ 0 ∷ [])) ≡ text_of z.what) (sym e)
    (ap (λ (b : Bool). cond (b && same_info (File (length (text_of v.what)) (v.number ∷ 0 ∷ 0 ∷ 0 ∷ [])) (File (length (text_of v.what)) (v.number ∷ 0 ∷ 0 ∷ 0 ∷ []))) (text_of v.what) (text_at (map_of ws) v.path (File (length (text_of v.what)) (v.number ∷ 0 ∷ 0 ∷ 0 ∷ [])))) (same_list-refl v.path)
    ∙ ap (λ (b : Bool). cond b (text_of v.what) (text_at (map_of ws) v.path (File (length (text_of v.what)) (v.number ∷ 0 ∷ 0 ∷ 0 ∷ [])))) (info-refl (length (text_of v.what)) v.number))
at-own (v ∷ ws) n h w (inr i) =
    let parts = both-true (eqb v.number n) (numbered_from (suc n) ws) h in
    let first = eqb-true v.number n parts.0 in
    let later = above ws (suc n) parts.1 w i in
    let apart : eqb v.number w.number ≡ false = eqb-less v.number w.number (omega arith) in
    ap (λ (b : Bool). cond b (text_of v.what) (text_at (map_of ws) w.path (File (length (text_of w.what)) (w.number ∷ 0 ∷ 0 ∷ 0 ∷ []))))
    (and-false (same_list v.path w.path) (eqb (length (text_of v.what)) (length (text_of w.what))) (eqb v.number w.number) (same_list (0 ∷ 0 ∷ 0 ∷ []) (0 ∷ 0 ∷ 0 ∷ [])) apart)
    ∙ at-own ws (suc n) parts.1 w i

agrees : (m : List FileVersion) (p : List ℕ) (n : ℕ) (x : What) → text_at m p (File (length (text_of x)) (n ∷ 0 ∷ 0 ∷ 0 ∷ [])) ≡ text_of x → AgreesAt m p n x
agrees m p n Gone h = tt
agrees m p n Dir h = tt
agrees m p n (Bytes b) h = h
agrees m p n (LinkText t) h = tt

pub map-tells : (ws : List Write) → numbered_from 1 ws ≡ true → Tells ws (map_of ws)
map-tells ws h = agrees-all ws (map_of ws) (λ w i. agrees (map_of ws) w.path w.number w.what (at-own ws 1 h w i))
