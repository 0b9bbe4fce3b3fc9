-- A path with one part more.
use Rattle.std.proofs.Common.{◌≡◌, ◌≢◌, ℕ, ◌≤◌, List, [], ◌∷◌, ◌++◌, length, refl, ap, arith, true, false, sym, ◌∙◌, subst, cond, Bool, append_assoc}
use Rattle.std.specs.Prelude.{All, ◌==◌, replicate}
use Rattle.std.proofs.lemmas.List.Elements.{All-append, All-cons, All-nil}
use Rattle.std.specs.List.{join_with_byte}
use Rattle.file_info.specs.Path.{is_skipped, relative_text, absolute_text, dots}
use Rattle.file_info.specs.Normal.{IsPlainPart, IsNormal, IsPath, absolute_path, relative_path}
use Rattle.file_info.specs.Under.{front_of, joined_with}
use Rattle.file_info.proofs.WayLemmas.{join_with_byte-more}
use Rattle.file_info.proofs.NormalLemmas.{Each, Each-All, HasNoSlash}
use Rattle.file_info.proofs.AgainLemmas.{All-Each, no_cut, all-no_slash, first-not_skipped}

front_of-join : (part : List ℕ) (parts : List (List ℕ)) → is_skipped part ≡ false → HasNoSlash part → front_of (join_with_byte 47 (part ∷ parts)) ≡ join_with_byte 47 (part ∷ parts) ++ 47 ∷ []
front_of-join [] parts s n = cc
front_of-join (a ∷ []) [] s n = rw (s, no_cut a (n 0 a (omega arith))) refl
front_of-join (a ∷ []) (next ∷ parts) s n = refl
front_of-join (a ∷ b ∷ part) [] s n = refl
front_of-join (a ∷ b ∷ part) (next ∷ parts) s n = refl

front_of-slash : (part : List ℕ) (parts : List (List ℕ)) → is_skipped part ≡ false → front_of (47 ∷ join_with_byte 47 (part ∷ parts)) ≡ (47 ∷ join_with_byte 47 (part ∷ parts)) ++ 47 ∷ []
front_of-slash [] parts s = cc
front_of-slash (a ∷ part) [] s = refl
front_of-slash (a ∷ part) (next ∷ parts) s = refl

joined-more : (part : List ℕ) (parts : List (List ℕ)) (name : List ℕ) → (join_with_byte 47 (part ∷ parts) ++ 47 ∷ []) ++ name ≡ join_with_byte 47 ((part ∷ parts) ++ name ∷ [])
joined-more part parts name = append_assoc (join_with_byte 47 (part ∷ parts)) (47 ∷ []) name ∙ sym (join_with_byte-more 47 part parts name)

pub joined_with-absolute : (names : List (List ℕ)) → Each IsPlainPart names → (name : List ℕ) → joined_with (absolute_text names) name ≡ absolute_text (names ++ name ∷ [])
joined_with-absolute [] e name = refl
joined_with-absolute (first ∷ names) e name = ap (λ w. w ++ name) (front_of-slash first names e.0.not_skipped) ∙ ap (λ w. 47 ∷ w) (joined-more first names name)

joined_with-all : (all : List (List ℕ)) (name : List ℕ) → ((part : List ℕ) (parts : List (List ℕ)) → all ≡ part ∷ parts → is_skipped part ≡ false) → Each HasNoSlash all
    → joined_with (relative_text all) name ≡ relative_text (all ++ name ∷ [])
joined_with-all [] name s e = refl
joined_with-all (part ∷ parts) name s e = ap (λ w. w ++ name) (front_of-join part parts (s part parts refl) e.0) ∙ joined-more part parts name

Each-push : (P : List ℕ → Type 0) (parts : List (List ℕ)) (part : List ℕ) → Each P parts → P part → Each P (parts ++ part ∷ [])
Each-push P [] part e p = (p, tt)
Each-push P (first ∷ parts) part e p = (e.0, Each-push P parts part e.1 p)

pub joined_with-relative : (ups : ℕ) (names : List (List ℕ)) → Each IsPlainPart names → (name : List ℕ) → joined_with (relative_text (replicate ups dots ++ names)) name ≡ relative_text (replicate ups dots ++ (names ++ name ∷ []))
joined_with-relative ups names e name =
    joined_with-all (replicate ups dots ++ names) name (λ part parts p. first-not_skipped ups names part parts e p) (all-no_slash ups names e)
    ∙ ap relative_text (append_assoc (replicate ups dots) names (name ∷ []))

pub joined_with-IsNormal : (path name : List ℕ) → IsNormal path → IsPlainPart name → IsNormal (joined_with path name)
joined_with-IsNormal _ name (absolute_path names a) p =
    let e : Each IsPlainPart names = All-Each IsPlainPart names a in
    subst IsNormal (sym (joined_with-absolute names e name)) (absolute_path (names ++ name ∷ []) (Each-All IsPlainPart _ (Each-push IsPlainPart names name e p)))
joined_with-IsNormal _ name (relative_path ups names a) p =
    let e : Each IsPlainPart names = All-Each IsPlainPart names a in
    subst IsNormal (sym (joined_with-relative ups names e name)) (relative_path ups (names ++ name ∷ []) (Each-All IsPlainPart _ (Each-push IsPlainPart names name e p)))

front_of-no_nul : (path : List ℕ) → All (λ b. b ≢ 0) path → All (λ b. b ≢ 0) (front_of path)
front_of-no_nul [] a = a
front_of-no_nul (b ∷ []) a = one (b == 46) (b == 47) b (a 0 b (omega arith))
  where
    one : (dot slash : Bool) (b : ℕ) → b ≢ 0 → All (λ x. x ≢ 0) (cond dot [] (cond slash (47 ∷ []) (b ∷ 47 ∷ [])))
    one true slash b n = All-nil (λ x. x ≢ 0)
    one false true b n = All-cons (λ x. x ≢ 0) 47 [] (omega arith) (All-nil (λ x. x ≢ 0))
    one false false b n = All-cons (λ x. x ≢ 0) b (47 ∷ []) n (All-cons (λ x. x ≢ 0) 47 [] (omega arith) (All-nil (λ x. x ≢ 0)))
front_of-no_nul (b ∷ c ∷ path) a = All-append (λ x. x ≢ 0) (b ∷ c ∷ path) (47 ∷ []) a (All-cons (λ x. x ≢ 0) 47 [] (omega arith) (All-nil (λ x. x ≢ 0)))

pub joined_with-IsPath : (path name : List ℕ) → IsPath path → IsPlainPart name → All (λ b. b ≢ 0) name → length (joined_with path name) ≤ 4096 → IsPath (joined_with path name)
joined_with-IsPath path name p q n l = record {
  normal = joined_with-IsNormal path name p.normal q;
  at_most = l;
  no_nul = All-append (λ x. x ≢ 0) (front_of path) name (front_of-no_nul path p.no_nul) n;
}
