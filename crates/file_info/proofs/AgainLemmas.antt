-- A path in normal form, read again.
use Rattle.std.proofs.Common.{◌≡◌, ◌≢◌, ℕ, List, [], ◌∷◌, ◌++◌, refl, ap, arith, false, sym, ◌∙◌, subst, suc, zero, add-one}
use Rattle.std.specs.Prelude.{All, ◌==◌, replicate}
use Rattle.std.proofs.lemmas.Grind.{common_steps}
use Rattle.std.proofs.lemmas.List.Elements.{All-cons, All-nil}
use Rattle.std.proofs.lemmas.List.Splits.{slice_split_at, slice_split_none}
use Rattle.std.specs.List.{join_with_byte}
use Rattle.file_info.specs.Path.{parts_of, way_of, is_skipped, is_absolute, normal_form, relative_text, absolute_text, dots}
use Rattle.file_info.specs.Normal.{IsPlainPart, IsNormal, absolute_path, relative_path}
use Rattle.file_info.proofs.NormalLemmas.{Each, HasNoSlash}

pub All-Each : (P : List ℕ → Type 0) (parts : List (List ℕ)) → All P parts → Each P parts
All-Each P [] h = tt
All-Each P (part ∷ parts) h = (h 0 part (omega arith), All-Each P parts (λ k d l. h (suc k) d (omega arith)))

pub no_cut : (b : ℕ) → b ≢ 47 → (b == 47) ≡ false
no_cut b n = grind (arith, common_steps)

-- parts with no slash, joined and cut again
pub parts_of-join : (part : List ℕ) (parts : List (List ℕ)) → Each HasNoSlash (part ∷ parts) → parts_of (join_with_byte 47 (part ∷ parts)) ≡ part ∷ parts
parts_of-join part [] e = slice_split_none (λ b. b == 47) part (λ k d l. no_cut _ (e.0 k d l))
parts_of-join part (next ∷ parts) e =
    slice_split_at (λ b. b == 47) part 47 (join_with_byte 47 (next ∷ parts)) (λ k d l. no_cut _ (e.0 k d l)) refl
    ∙ ap (λ w. part ∷ w) (parts_of-join next parts e.1)

pub plain-no_slash : (names : List (List ℕ)) → Each IsPlainPart names → Each HasNoSlash names
plain-no_slash [] e = tt
plain-no_slash (name ∷ names) e = (e.0.no_slash, plain-no_slash names e.1)

dots-no_slash : HasNoSlash dots
dots-no_slash = All-cons (λ b. b ≢ 47) 46 (46 ∷ []) (omega arith) (All-cons (λ b. b ≢ 47) 46 [] (omega arith) (All-nil (λ b. b ≢ 47)))

pub all-no_slash : (ups : ℕ) (names : List (List ℕ)) → Each IsPlainPart names → Each HasNoSlash (replicate ups dots ++ names)
all-no_slash zero names e = plain-no_slash names e
all-no_slash (suc ups) names e = (dots-no_slash, all-no_slash ups names e)

-- names alone lead down by just them
pub way_of-names : (names : List (List ℕ)) → Each IsPlainPart names → way_of names ≡ record { ups = 0; names = names }
way_of-names [] e = refl
way_of-names (name ∷ names) e = rw (e.0.not_skipped, e.0.not_up, way_of-names names e.1) refl

pub way_of-all : (ups : ℕ) (names : List (List ℕ)) → Each IsPlainPart names → way_of (replicate ups dots ++ names) ≡ record { ups = ups; names = names }
way_of-all zero names e = way_of-names names e
way_of-all (suc ups) names e = rw (way_of-all ups names e, add-one) refl

not_absolute : (part rest : List ℕ) → is_skipped part ≡ false → HasNoSlash part → is_absolute (part ++ rest) ≡ false
not_absolute [] rest s n = cc
not_absolute (b ∷ part) rest s n = no_cut b (n 0 b (omega arith))

pub first-not_skipped : (ups : ℕ) (names : List (List ℕ)) (part : List ℕ) (parts : List (List ℕ)) → Each IsPlainPart names → replicate ups dots ++ names ≡ part ∷ parts → is_skipped part ≡ false
first-not_skipped zero [] part parts e p = cc
first-not_skipped zero (name ∷ names) part parts e p = let same : name ≡ part = cc in subst (λ w. is_skipped w ≡ false) same e.0.not_skipped
first-not_skipped (suc ups) names part parts e p = let same : dots ≡ part = cc in subst (λ w. is_skipped w ≡ false) same refl

pub joined-not_absolute : (part : List ℕ) (parts : List (List ℕ)) → is_skipped part ≡ false → HasNoSlash part → is_absolute (join_with_byte 47 (part ∷ parts)) ≡ false
joined-not_absolute [] parts s n = cc
joined-not_absolute (b ∷ part) [] s n = no_cut b (n 0 b (omega arith))
joined-not_absolute (b ∷ part) (next ∷ parts) s n = no_cut b (n 0 b (omega arith))

relative-again : (ups : ℕ) (names : List (List ℕ)) → Each IsPlainPart names → (all : List (List ℕ)) → replicate ups dots ++ names ≡ all → normal_form (relative_text all) ≡ relative_text all
relative-again ups names e [] p = refl
relative-again ups names e (part ∷ parts) p =
    let slashes : Each HasNoSlash (part ∷ parts) = subst (Each HasNoSlash) p (all-no_slash ups names e) in
    let way : way_of (part ∷ parts) ≡ record { ups = ups; names = names } = ap way_of (sym p) ∙ way_of-all ups names e in
    rw (joined-not_absolute part parts (first-not_skipped ups names part parts e p) slashes.0, parts_of-join part parts slashes, way, p) refl

absolute-again : (names : List (List ℕ)) → Each IsPlainPart names → normal_form (absolute_text names) ≡ absolute_text names
absolute-again [] e = refl
absolute-again (name ∷ names) e =
    rw (parts_of-join name names (plain-no_slash (name ∷ names) e), way_of-names (name ∷ names) e) refl

-- a path in normal form is its own normal form
pub normal_form-again : (bytes : List ℕ) → IsNormal bytes → normal_form bytes ≡ bytes
normal_form-again _ (absolute_path names p) = absolute-again names (All-Each IsPlainPart names p)
normal_form-again _ (relative_path ups names p) = relative-again ups names (All-Each IsPlainPart names p) _ refl
