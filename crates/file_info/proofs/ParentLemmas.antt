-- The folder of a path is a path, and the folder of a joined path is what was joined.
use Rattle.std.proofs.Common.{◌≡◌, ◌≢◌, ℕ, ◌+◌, ◌≤◌, Bool, true, false, cond, List, [], ◌∷◌, ◌++◌, length, map, refl, ap, sym, ◌∙◌, subst, arith, append-nil, inl, inr, ◌↔◌}
use Rattle.std.specs.Prelude.{All, ◌==◌, replicate, Option, Some, None, option_to_list, is_none}
use Rattle.std.proofs.lemmas.List.{map-append}
use Rattle.std.proofs.lemmas.List.{get_or_append_left}
use Rattle.std.proofs.lemmas.List.Elements.{All-cons, All-nil}
use Rattle.std.proofs.Common.{length-append}
use Rattle.file_info.specs.Path.{Way, parts_of, way_of, dots, is_absolute, relative_text, absolute_text}
use Rattle.file_info.specs.Normal.{IsPlainPart, IsNormal, IsPath, absolute_path, relative_path}
use Rattle.file_info.specs.Under.{front_of, joined_with}
use Rattle.file_info.specs.Parent.{but_last, way_text, folder_text, parent_of, IsTop}
use Rattle.file_info.proofs.NormalLemmas.{Each, Each-All, HasNoSlash, way_of-plain, parts_of-no_slash}
use Rattle.file_info.proofs.AgainLemmas.{All-Each, parts_of-join, plain-no_slash, all-no_slash, way_of-names, way_of-all, first-not_skipped, joined-not_absolute, normal_form-again}
use Rattle.file_info.proofs.JoinLemmas.{joined_with-absolute, joined_with-relative}

pub but_last-more : (names : List (List ℕ)) (name : List ℕ) → but_last (names ++ name ∷ []) ≡ names
but_last-more [] name = refl
but_last-more (first ∷ []) name = refl
but_last-more (first ∷ next ∷ names) name = ap (λ (ns : List (List ℕ)). first ∷ ns) (but_last-more (next ∷ names) name)

pub folder_text-more : (absolute : Bool) (ups : ℕ) (names : List (List ℕ)) (name : List ℕ) → folder_text absolute ups (names ++ name ∷ []) ≡ Some (way_text absolute ups names)
folder_text-more absolute ups [] name = refl
folder_text-more absolute ups (first ∷ names) name = ap (λ (ns : List (List ℕ)). Some (way_text absolute ups ns)) (but_last-more (first ∷ names) name)

Each-front : (P : List ℕ → Type 0) (names : List (List ℕ)) (name : List ℕ) → Each P (names ++ name ∷ []) → Each P names
Each-front P [] name e = tt
Each-front P (first ∷ names) name e = (e.0, Each-front P names name e.1)

Each-end : (P : List ℕ → Type 0) (names : List (List ℕ)) (name : List ℕ) → Each P (names ++ name ∷ []) → P name
Each-end P [] name e = e.0
Each-end P (first ∷ names) name e = Each-end P names name e.1

joined-way : (absolute : Bool) (ups : ℕ) (names : List (List ℕ)) (name : List ℕ) → Each IsPlainPart names
    → joined_with (way_text absolute ups names) name ≡ way_text absolute ups (names ++ name ∷ [])
joined-way true ups names name e = joined_with-absolute names e name
joined-way false ups names name e = joined_with-relative ups names e name

way-normal : (absolute : Bool) (ups : ℕ) (names : List (List ℕ)) → Each IsPlainPart names → IsNormal (way_text absolute ups names)
way-normal true ups names e = absolute_path names (Each-All IsPlainPart names e)
way-normal false ups names e = relative_path ups names (Each-All IsPlainPart names e)

All-front : (P : ℕ → Type 0) (xs ys : List ℕ) → All P (xs ++ ys) → All P xs
All-front P xs ys a = λ k d l. subst P (get_or_append_left xs ys d k l) (a k d (omega (arith, l, length-append xs ys)))

dot_not_nul : (b : ℕ) → (b == 46) ≡ true → b ≢ 0
dot_not_nul b e z = (let t : (0 == 46) ≡ true = subst (λ (n : ℕ). (n == 46) ≡ true) z e in cc t)

slash_not_nul : (b : ℕ) → (b == 47) ≡ true → b ≢ 0
slash_not_nul b e z = (let t : (0 == 47) ≡ true = subst (λ (n : ℕ). (n == 47) ≡ true) z e in cc t)

one-no_nul : (dot slash : Bool) (b : ℕ) → (b == 46) ≡ dot → All (λ x. x ≢ 0) (cond dot [] (cond slash (47 ∷ []) (b ∷ 47 ∷ []))) → (b == 47) ≡ slash → All (λ x. x ≢ 0) (b ∷ [])
one-no_nul true slash b e a s = All-cons (λ x. x ≢ 0) b [] (dot_not_nul b e) (All-nil (λ x. x ≢ 0))
one-no_nul false true b e a s = All-cons (λ x. x ≢ 0) b [] (slash_not_nul b s) (All-nil (λ x. x ≢ 0))
one-no_nul false false b e a s = All-front (λ x. x ≢ 0) (b ∷ []) (47 ∷ []) a

front-no_nul : (path : List ℕ) → All (λ x. x ≢ 0) (front_of path) → All (λ x. x ≢ 0) path
front-no_nul [] a = a
front-no_nul (b ∷ []) a = one-no_nul (b == 46) (b == 47) b refl a refl
front-no_nul (b ∷ c ∷ path) a = All-front (λ x. x ≢ 0) (b ∷ c ∷ path) (47 ∷ []) a

front-length : (path : List ℕ) → length path ≤ length (front_of path) + 1
front-length [] = omega arith
front-length (b ∷ []) = omega arith
front-length (b ∷ c ∷ path) = omega (arith, length-append (b ∷ c ∷ path) (47 ∷ []))

plain-some : (name : List ℕ) → IsPlainPart name → 1 ≤ length name
plain-some [] p = cc (p.not_skipped)
plain-some (b ∷ name) p = omega arith

front-IsPath : (path parent name : List ℕ) → IsPath path → joined_with parent name ≡ path → IsNormal parent → IsPlainPart name → IsPath parent
front-IsPath path parent name p e n q = record {
  normal = n;
  at_most = omega (arith, front-length parent, length-append (front_of parent) name, plain-some name q, p.at_most, ap length e);
  no_nul = front-no_nul parent (All-front (λ x. x ≢ 0) (front_of parent) name (subst (λ (t : List ℕ). All (λ x. x ≢ 0) t) (sym e) p.no_nul));
}

-- what stands before the last name of a path is a path
pub folder-IsPath : (path : List ℕ) → IsPath path → (names : List (List ℕ)) (name : List ℕ) → (way_of (parts_of path)).names ≡ names ++ name ∷ []
    → IsPath (way_text (is_absolute path) (way_of (parts_of path)).ups names)
folder-IsPath path p names name e =
    let way = way_of (parts_of path) in
    let plain : Each IsPlainPart (names ++ name ∷ []) = subst (Each IsPlainPart) e (way_of-plain (parts_of path) (parts_of-no_slash path)) in
    let front = Each-front IsPlainPart names name plain in
    let whole : way_text (is_absolute path) way.ups way.names ≡ path = normal_form-again path p.normal in
    front-IsPath path (way_text (is_absolute path) way.ups names) name p
    (joined-way (is_absolute path) way.ups names name front ∙ ap (λ (ns : List (List ℕ)). way_text (is_absolute path) way.ups ns) (sym e) ∙ whole)
    (way-normal (is_absolute path) way.ups names front) (Each-end IsPlainPart names name plain)

-- the names before the one that was taken, and that one
pub popped : {X : Type 0} (f : X → List ℕ) (xs ys : List X) (r : Option X) → xs ≡ ys ++ option_to_list r → is_none r ≡ false
    → (name : List ℕ) × (map f xs ≡ map f ys ++ name ∷ [])
popped f xs ys None e n = cc n
popped f xs ys (Some x) e n = (f x, ap (map f) e ∙ map-append f ys (x ∷ []))

way-absolute : (names : List (List ℕ)) → Each IsPlainPart names → way_of (parts_of (absolute_text names)) ≡ record { ups = 0; names = names }
way-absolute [] e = refl
way-absolute (first ∷ names) e = rw (parts_of-join first names (plain-no_slash (first ∷ names) e), way_of-names (first ∷ names) e) refl

way-relative : (ups : ℕ) (names : List (List ℕ)) → Each IsPlainPart names → (all : List (List ℕ)) → replicate ups dots ++ names ≡ all
    → way_of (parts_of (relative_text all)) ≡ record { ups = ups; names = names }
way-relative ups names e [] p = ap way_of (sym p) ∙ way_of-all ups names e
way-relative ups names e (part ∷ parts) p =
    ap way_of (parts_of-join part parts (subst (Each HasNoSlash) p (all-no_slash ups names e))) ∙ ap way_of (sym p) ∙ way_of-all ups names e

relative-start : (ups : ℕ) (names : List (List ℕ)) → Each IsPlainPart names → (all : List (List ℕ)) → replicate ups dots ++ names ≡ all
    → is_absolute (relative_text all) ≡ false
relative-start ups names e [] p = refl
relative-start ups names e (part ∷ parts) p =
    let slashes : Each HasNoSlash (part ∷ parts) = subst (Each HasNoSlash) p (all-no_slash ups names e) in
    joined-not_absolute part parts (first-not_skipped ups names part parts e p) slashes.0

parent-absolute : (names : List (List ℕ)) → Each IsPlainPart names → parent_of (absolute_text names) ≡ folder_text true 0 names
parent-absolute names e = ap (λ (w : Way). folder_text true w.ups w.names) (way-absolute names e)

parent-relative : (ups : ℕ) (names : List (List ℕ)) → Each IsPlainPart names → parent_of (relative_text (replicate ups dots ++ names)) ≡ folder_text false ups names
parent-relative ups names e =
    let text = relative_text (replicate ups dots ++ names) in
    let way = way_of (parts_of text) in
    ap (λ (b : Bool). folder_text b way.ups way.names) (relative-start ups names e _ refl) ∙ ap (λ (w : Way). folder_text false w.ups w.names) (way-relative ups names e _ refl)

Each-more : (P : List ℕ → Type 0) (names : List (List ℕ)) (name : List ℕ) → Each P names → P name → Each P (names ++ name ∷ [])
Each-more P [] name e p = (p, tt)
Each-more P (first ∷ names) name e p = (e.0, Each-more P names name e.1 p)

pub parent-join : (path name : List ℕ) → IsNormal path → IsPlainPart name → parent_of (joined_with path name) ≡ Some path
parent-join _ name (absolute_path names a) p =
    let e : Each IsPlainPart names = All-Each IsPlainPart names a in
    ap parent_of (joined_with-absolute names e name) ∙ parent-absolute (names ++ name ∷ []) (Each-more IsPlainPart names name e p) ∙ folder_text-more true 0 names name
parent-join _ name (relative_path ups names a) p =
    let e : Each IsPlainPart names = All-Each IsPlainPart names a in
    ap parent_of (joined_with-relative ups names e name) ∙ parent-relative ups (names ++ name ∷ []) (Each-more IsPlainPart names name e p) ∙ folder_text-more false ups names name

top-absolute : (names : List (List ℕ)) → folder_text true 0 names ≡ None → IsTop (absolute_text names)
top-absolute [] e = inl refl
top-absolute (first ∷ names) e = cc e

top-relative : (ups : ℕ) (names : List (List ℕ)) → folder_text false ups names ≡ None → IsTop (relative_text (replicate ups dots ++ names))
top-relative ups [] e = inr (ups, ap relative_text (append-nil (replicate ups dots)))
top-relative ups (first ∷ names) e = cc e

top-none : (path : List ℕ) → IsTop path → parent_of path ≡ None
top-none path (inl e) = ap parent_of e
top-none path (inr t) = ap parent_of (t.1 ∙ sym (ap relative_text (append-nil (replicate t.0 dots)))) ∙ parent-relative t.0 [] tt

pub parent-none : (path : List ℕ) → IsNormal path → (parent_of path ≡ None) ↔ IsTop path
parent-none _ (absolute_path names a) =
    ((λ e. top-absolute names (sym (parent-absolute names (All-Each IsPlainPart names a)) ∙ e)), top-none (absolute_text names))
parent-none _ (relative_path ups names a) =
    ((λ e. top-relative ups names (sym (parent-relative ups names (All-Each IsPlainPart names a)) ∙ e)), top-none (relative_text (replicate ups dots ++ names)))
