-- A path with one part more is directly in the path, and what is under something under a root is under the root.
use Rattle.std.proofs.Common.{◌≡◌, ◌≢◌, ◌⊎◌, ℕ, Bool, true, false, ◌&&◌, cond, List, [], ◌∷◌, ◌++◌, refl, ap, sym, ◌∙◌, subst, arith, append_assoc, inl, inr}
use Rattle.std.specs.Prelude.{◌==◌}
use Rattle.std.proofs.lemmas.Grind.{common_steps}
use Rattle.file_info.specs.Path.{is_absolute, is_skipped}
use Rattle.file_info.specs.Normal.{IsPlainPart}
use Rattle.file_info.specs.Under.{front_of, joined_with, leads_up, GoesDown, IsBelow, IsUnder, IsDirectlyIn}
use Rattle.file_info.proofs.AgainLemmas.{no_cut}

not_equal : (b c : ℕ) → b ≢ c → (b == c) ≡ false
not_equal b c n = grind (arith, common_steps)

dot_not_slash : (b : ℕ) → (b == 46) ≡ true → (b == 47) ≡ false
dot_not_slash b e = grind (arith, common_steps)

and_false : (x : Bool) → (x && false) ≡ false
and_false true = refl
and_false false = refl

and_true : (x : Bool) → (x && true) ≡ x
and_true true = refl
and_true false = refl

plain-not_absolute : (name : List ℕ) → IsPlainPart name → is_absolute name ≡ false
plain-not_absolute [] p = cc (p.not_skipped)
plain-not_absolute (b ∷ name) p = no_cut b (p.no_slash 0 b (omega arith))

plain-not_up : (name : List ℕ) → IsPlainPart name → leads_up name ≡ false
plain-not_up [] p = refl
plain-not_up (a ∷ []) p = refl
plain-not_up (a ∷ b ∷ []) p = p.not_up
plain-not_up (a ∷ b ∷ c ∷ name) p =
    let last : (c == 47) ≡ false = no_cut c (p.no_slash 2 c (omega arith)) in
    ap (λ (x : Bool). (a == 46) && ((b == 46) && x)) last ∙ ap (λ (x : Bool). (a == 46) && x) (and_false (b == 46)) ∙ and_false (a == 46)

plain-down : (name : List ℕ) → IsPlainPart name → GoesDown name
plain-down name p = record {
  not_empty = λ e. (let t : is_skipped [] ≡ false = subst (λ (n : List ℕ). is_skipped n ≡ false) e p.not_skipped in cc t);
  not_dot = λ e. (let t : is_skipped (46 ∷ []) ≡ false = subst (λ (n : List ℕ). is_skipped n ≡ false) e p.not_skipped in cc t);
  not_rooted = plain-not_absolute name p;
  not_up = plain-not_up name p;
}

one-start : (dot slash : Bool) (a : ℕ) (name : List ℕ) → (a == 47) ≡ slash → (dot ≡ true → slash ≡ false) → is_absolute name ≡ false
    → is_absolute (cond dot [] (cond slash (47 ∷ []) (a ∷ 47 ∷ [])) ++ name) ≡ slash
one-start true slash a name e d n = n ∙ sym (d refl)
one-start false true a name e d n = refl
one-start false false a name e d n = e

join-start : (path name : List ℕ) → is_absolute name ≡ false → is_absolute (joined_with path name) ≡ is_absolute path
join-start [] name n = n
join-start (a ∷ []) name n = one-start (a == 46) (a == 47) a name refl (dot_not_slash a) n
join-start (a ∷ b ∷ path) name n = refl

pub join-directly_in : (path name : List ℕ) → IsPlainPart name → IsDirectlyIn (joined_with path name) path
join-directly_in path name p =
    (name, (record { begins = refl; same_start = join-start path name (plain-not_absolute name p); down = plain-down name p }, p.no_slash))

append-empty : (x y : List ℕ) → x ++ y ≡ [] → y ≡ []
append-empty [] y e = e
append-empty (a ∷ x) y e = cc e

append-single : (x y : List ℕ) (c : ℕ) → x ++ y ≡ c ∷ [] → (y ≡ c ∷ []) ⊎ (y ≡ [])
append-single [] y c e = inl e
append-single (a ∷ x) y c e = inr (append-empty x y (let rest : x ++ y ≡ [] = cc e in rest))

front-long : (path : List ℕ) → path ≢ [] → path ≢ 46 ∷ [] → path ≢ 47 ∷ [] → front_of path ≡ path ++ 47 ∷ []
front-long [] n d s = absurd (n refl)
front-long (a ∷ []) n d s =
    let dot : (a == 46) ≡ false = not_equal a 46 (λ e. d (ap (λ (b : ℕ). b ∷ []) e)) in
    let slash : (a == 47) ≡ false = not_equal a 47 (λ e. s (ap (λ (b : ℕ). b ∷ []) e)) in
    rw (dot, slash) refl
front-long (a ∷ b ∷ path) n d s = refl

-- where the path is below the root, a slash follows it in what is below the path
below-long : (path root rest : List ℕ) → IsBelow path root rest → front_of path ≡ path ++ 47 ∷ []
below-long path root rest b = front-long path
    (λ e. b.down.not_empty (append-empty (front_of root) rest (sym b.begins ∙ e)))
    (λ e. elim (append-single (front_of root) rest 46 (sym b.begins ∙ e)) [ inl d ↦ b.down.not_dot d | inr n ↦ b.down.not_empty n ])
    (λ e. elim (append-single (front_of root) rest 47 (sym b.begins ∙ e)) [ inl s ↦ (let t : is_absolute (47 ∷ []) ≡ false = subst (λ (r : List ℕ). is_absolute r ≡ false) s b.down.not_rooted in cc t) | inr n ↦ b.down.not_empty n ])

longer-not_up : (t s : List ℕ) → GoesDown t → leads_up (t ++ 47 ∷ s) ≡ false
longer-not_up [] s d = absurd (d.not_empty refl)
longer-not_up (a ∷ []) [] d = and_false (a == 46)
longer-not_up (a ∷ []) (c ∷ s) d = and_false (a == 46)
longer-not_up (a ∷ b ∷ []) s d = ap (λ (x : Bool). (a == 46) && x) (and_true (b == 46)) ∙ d.not_up
longer-not_up (a ∷ b ∷ c ∷ t) s d = d.not_up

longer-not_rooted : (t s : List ℕ) → GoesDown t → is_absolute (t ++ 47 ∷ s) ≡ false
longer-not_rooted [] s d = absurd (d.not_empty refl)
longer-not_rooted (a ∷ t) s d = d.not_rooted

slash_not_dot : (s : List ℕ) → 47 ∷ s ≡ 46 ∷ [] → ⊥
slash_not_dot s e = let t : true ≡ false = ap is_absolute e in cc t

longer-down : (t s : List ℕ) → GoesDown t → GoesDown (t ++ 47 ∷ s)
longer-down t s d = record {
  not_empty = λ e. (let n = append-empty t (47 ∷ s) e in cc n);
  not_dot = λ e. elim (append-single t (47 ∷ s) 46 e) [ inl w ↦ slash_not_dot s w | inr n ↦ cc n ];
  not_rooted = longer-not_rooted t s d;
  not_up = longer-not_up t s d;
}

pub under-under : (path middle root : List ℕ) → IsUnder path middle → IsUnder middle root → IsUnder path root
under-under path middle root u v =
    let s = u.0 in
    let t = v.0 in (
      t ++ 47 ∷ s,
      record {
        begins = u.1.begins ∙ ap (λ (f : List ℕ). f ++ s) (below-long middle root t v.1 ∙ ap (λ (m : List ℕ). m ++ 47 ∷ []) v.1.begins)
            ∙ append_assoc (front_of root ++ t) (47 ∷ []) s ∙ append_assoc (front_of root) t (47 ∷ s);
        same_start = u.1.same_start ∙ v.1.same_start;
        down = longer-down t s v.1.down;
      },
    )
