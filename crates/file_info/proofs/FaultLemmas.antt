-- A path has no fault, and a text without fault has a normal form that is a path.
use Rattle.std.proofs.Common.{◌≡◌, ◌≢◌, ℕ, ◌<◌, List, [], ◌∷◌, ◌++◌, length, refl, subst, arith, true, false, cond, Bool, Option, Some, None}
use Rattle.std.specs.Prelude.{All, ◌==◌, ◌||◌, ◌&&◌, replicate, nat_lt}
use Rattle.std.proofs.lemmas.Grind.{common_steps}
use Rattle.std.proofs.lemmas.Bool.{ltb-false, le-ltb}
use Rattle.std.proofs.lemmas.List.Elements.{All-cons, All-nil}
use Rattle.std.proofs.lemmas.List.Folds.{list_any_none}
use Rattle.std.specs.List.{list_any, join_with_byte}
use Rattle.file_info.specs.declared.path.PathError.{PathError}
use Rattle.file_info.specs.declared.path.PathError.TheVariants.{Empty, TooLong, HasNul, AboveRoot}
use Rattle.file_info.specs.Path.{parts_of, way_of, is_skipped, is_absolute, normal_form, relative_text, absolute_text, dots}
use Rattle.file_info.specs.PathFault.{path_fault}
use Rattle.file_info.specs.Normal.{IsPlainPart, IsNormal, IsPath, absolute_path, relative_path}
use Rattle.file_info.proofs.NormalLemmas.{Each, HasNoSlash}
use Rattle.file_info.proofs.AgainLemmas.{All-Each, parts_of-join, plain-no_slash, way_of-names, all-no_slash, first-not_skipped, joined-not_absolute}
use Rattle.file_info.proofs.WholeLemmas.{normal_form-IsPath}

-- the first of four faults
abbrev first_of_four : Bool → Bool → Bool → Bool → Option PathError
first_of_four empty long nul above = cond empty (Some Empty) (cond long (Some TooLong) (cond nul (Some HasNul) (cond above (Some AboveRoot) None)))

-- none of the first three
record NoneOf (empty long nul : Bool) : Type 0 where
  not_empty : empty ≡ false
  not_long : long ≡ false
  not_nul : nul ≡ false

none_of : (empty long nul above : Bool) → first_of_four empty long nul above ≡ None → NoneOf empty long nul
none_of true long nul above e = cc
none_of false true nul above e = cc
none_of false false true above e = cc
none_of false false false above e = record { not_empty = refl; not_long = refl; not_nul = refl }

all_four : (empty long nul above : Bool) → empty ≡ false → long ≡ false → nul ≡ false → above ≡ false → first_of_four empty long nul above ≡ None
all_four empty long nul above e l n a = rw (e, l, n, a) refl

not_nul : (b : ℕ) → (b == 0) ≡ false → b ≢ 0
not_nul b e = grind (arith, common_steps)

no_nul : (b : ℕ) → b ≢ 0 → (b == 0) ≡ false
no_nul b n = grind (arith, common_steps)

first-false : (x y : Bool) → (x || y) ≡ false → x ≡ false
first-false true y e = e
first-false false y e = refl

second-false : (x y : Bool) → (x || y) ≡ false → y ≡ false
second-false true y e = cc
second-false false y e = e

without_nul : (bytes : List ℕ) → list_any (λ b. b == 0) bytes ≡ false → All (λ b. b ≢ 0) bytes
without_nul [] e = All-nil (λ b. b ≢ 0)
without_nul (b ∷ bytes) e =
    All-cons (λ b. b ≢ 0) b bytes (not_nul b (first-false (b == 0) (list_any (λ b. b == 0) bytes) e)) (without_nul bytes (second-false (b == 0) (list_any (λ b. b == 0) bytes) e))

-- a text without fault has a normal form that is a path
pub accepted-IsPath : (bytes : List ℕ) → path_fault bytes ≡ None → IsPath (normal_form bytes)
accepted-IsPath bytes e =
    let none : NoneOf (length bytes == 0) (nat_lt 4096 (length bytes)) (list_any (λ b. b == 0) bytes) = none_of _ _ _ (is_absolute bytes && nat_lt 0 (way_of (parts_of bytes)).ups) e in
    normal_form-IsPath bytes none.not_empty (ltb-false 4096 (length bytes) none.not_long) (without_nul bytes none.not_nul)

joined-long : (part : List ℕ) (parts : List (List ℕ)) → is_skipped part ≡ false → 0 < length (join_with_byte 47 (part ∷ parts))
joined-long [] parts s = cc
joined-long (b ∷ part) [] s = omega arith
joined-long (b ∷ part) (next ∷ parts) s = omega arith

relative-long : (ups : ℕ) (names : List (List ℕ)) → Each IsPlainPart names → (all : List (List ℕ)) → replicate ups dots ++ names ≡ all → 0 < length (relative_text all)
relative-long ups names e [] p = omega arith
relative-long ups names e (part ∷ parts) p = joined-long part parts (first-not_skipped ups names part parts e p)

normal-long : (bytes : List ℕ) → IsNormal bytes → 0 < length bytes
normal-long _ (absolute_path names p) = omega arith
normal-long _ (relative_path ups names p) = relative-long ups names (All-Each IsPlainPart names p) _ refl

long-not_empty : (n : ℕ) → 0 < n → (n == 0) ≡ false
long-not_empty n l = grind (arith, common_steps)

-- the path leads above the root
abbrev is_above : List ℕ → Bool
is_above bytes = is_absolute bytes && nat_lt 0 (way_of (parts_of bytes)).ups

absolute-below : (names : List (List ℕ)) → Each IsPlainPart names → is_above (absolute_text names) ≡ false
absolute-below [] e = refl
absolute-below (name ∷ names) e = rw (parts_of-join name names (plain-no_slash (name ∷ names) e), way_of-names (name ∷ names) e) refl

relative-below : (ups : ℕ) (names : List (List ℕ)) → Each IsPlainPart names → (all : List (List ℕ)) → replicate ups dots ++ names ≡ all → is_above (relative_text all) ≡ false
relative-below ups names e [] p = refl
relative-below ups names e (part ∷ parts) p =
    let slashes : Each HasNoSlash (part ∷ parts) = subst (Each HasNoSlash) p (all-no_slash ups names e) in
    rw (joined-not_absolute part parts (first-not_skipped ups names part parts e p) slashes.0) refl

normal-below : (bytes : List ℕ) → IsNormal bytes → is_above bytes ≡ false
normal-below _ (absolute_path names p) = absolute-below names (All-Each IsPlainPart names p)
normal-below _ (relative_path ups names p) = relative-below ups names (All-Each IsPlainPart names p) _ refl

-- a path has no fault
pub path-accepted : (path : List ℕ) → IsPath path → path_fault path ≡ None
path-accepted path p =
    all_four _ _ _ _ (long-not_empty _ (normal-long path p.normal)) (le-ltb 4096 (length path) p.at_most) (list_any_none (λ b. b == 0) path (λ k d l. no_nul _ (p.no_nul k d l))) (normal-below path p.normal)
