-- The normal form has no bytes that the text lacks but dots and slashes, and is not longer.
use Rattle.std.proofs.Common.{◌≡◌, ℕ, ◌+◌, ◌*◌, ◌-◌, ◌<◌, ◌≤◌, List, [], ◌∷◌, ◌++◌, length, refl, arith, true, false, ◌∙◌, cond, Bool, suc, zero, length-append}
use Rattle.std.specs.Prelude.{All, ◌==◌, replicate}
use Rattle.std.proofs.lemmas.Grind.{common_steps}
use Rattle.std.proofs.lemmas.List.Elements.{All-cons, All-nil, All-append}
use Rattle.std.specs.List.{onto_first, join_with_byte}
use Rattle.file_info.specs.Path.{Way, parts_of, way_of, is_skipped, is_up, is_absolute, normal_form, relative_text, absolute_text, dots}
use Rattle.file_info.proofs.NormalLemmas.{Each}

-- the bytes of the parts, with a slash after each
abbrev weight : List (List ℕ) → ℕ
weight [] = 0
weight (part ∷ parts) = length part + 1 + weight parts

weight-onto : (b : ℕ) (parts : List (List ℕ)) → 0 < length parts → weight (onto_first b parts) ≡ weight parts + 1
weight-onto b [] l = absurd (omega arith)
weight-onto b (part ∷ parts) l = omega arith

long-onto : (b : ℕ) (parts : List (List ℕ)) → 0 < length (onto_first b parts)
long-onto b [] = omega arith
long-onto b (part ∷ parts) = omega arith

long-cut : (t : Bool) (b : ℕ) (parts : List (List ℕ)) → 0 < length (cond t ([] ∷ parts) (onto_first b parts))
long-cut true b parts = omega arith
long-cut false b parts = long-onto b parts

long-parts : (bytes : List ℕ) → 0 < length (parts_of bytes)
long-parts [] = omega arith
long-parts (b ∷ bytes) = long-cut (b == 47) b (parts_of bytes)

weight-cut : (t : Bool) (b : ℕ) (parts : List (List ℕ)) → 0 < length parts → weight (cond t ([] ∷ parts) (onto_first b parts)) ≡ weight parts + 1
weight-cut true b parts l = omega arith
weight-cut false b parts l = weight-onto b parts l

weight-parts_of : (bytes : List ℕ) → weight (parts_of bytes) ≡ length bytes + 1
weight-parts_of [] = refl
weight-parts_of (b ∷ bytes) = weight-cut (b == 47) b (parts_of bytes) (long-parts bytes) ∙ omega (arith, weight-parts_of bytes)

weight-append : (xs ys : List (List ℕ)) → weight (xs ++ ys) ≡ weight xs + weight ys
weight-append [] ys = omega arith
weight-append (x ∷ xs) ys = omega (arith, weight-append xs ys)

weight-dots : (n : ℕ) → weight (replicate n dots) ≡ 3 * n
weight-dots zero = refl
weight-dots (suc n) = omega (arith, weight-dots n)

length-up : (part : List ℕ) → is_up part ≡ true → length part ≡ 2
length-up [] u = cc
length-up (a ∷ []) u = cc
length-up (a ∷ b ∷ []) u = refl
length-up (a ∷ b ∷ c ∷ part) u = cc

abbrev heavy : Way → ℕ
heavy way = 3 * way.ups + weight way.names

before-heavy : (skipped up level : Bool) (part : List ℕ) (way : Way) → (up ≡ true → length part ≡ 2) → (level ≡ false → 0 < way.ups)
    → heavy (cond skipped way (cond up (record { ups = way.ups + 1; names = way.names }) (cond level (record { ups = 0; names = part ∷ way.names }) (record { ups = way.ups - 1; names = way.names })))) ≤ length part + 1 + heavy way
before-heavy true up level part way u l = omega arith
before-heavy false true level part way u l = let two : length part ≡ 2 = u refl in omega arith
before-heavy false false true part way u l = omega arith
before-heavy false false false part way u l = omega arith

pub not_level : (n : ℕ) → (n == 0) ≡ false → 0 < n
not_level n e = grind (arith, common_steps)

-- the way of the parts is no heavier than they are
way_of-heavy : (parts : List (List ℕ)) → heavy (way_of parts) ≤ weight parts
way_of-heavy [] = omega arith
way_of-heavy (part ∷ parts) =
    let step : heavy (way_of (part ∷ parts)) ≤ length part + 1 + heavy (way_of parts) = before-heavy (is_skipped part) (is_up part) ((way_of parts).ups == 0) part (way_of parts) (length-up part) (not_level _) in
    omega (arith, way_of-heavy parts)

length-join : (part : List ℕ) (parts : List (List ℕ)) → length (join_with_byte 47 (part ∷ parts)) + 1 ≡ weight (part ∷ parts)
length-join part [] = omega arith
length-join part (next ∷ parts) = omega (arith, length-append part (47 ∷ join_with_byte 47 (next ∷ parts)), length-join next parts)

length-relative : (n : ℕ) (parts : List (List ℕ)) → 0 < n → weight parts ≤ n + 1 → length (relative_text parts) ≤ n
length-relative n [] l w = omega arith
length-relative n (part ∷ parts) l w = omega (arith, length-join part parts)

length-absolute : (n : ℕ) (names : List (List ℕ)) → weight names ≤ n → 0 < n → length (absolute_text names) ≤ n
length-absolute n [] w l = omega arith
length-absolute n (name ∷ names) w l = omega (arith, length-join name names)

weight-slash : (bytes : List ℕ) → is_absolute bytes ≡ true → weight (way_of (parts_of bytes)).names ≤ length bytes
weight-slash [] a = cc
weight-slash (b ∷ bytes) a = rw a (omega (arith, way_of-heavy (parts_of bytes), weight-parts_of bytes))

length-spelled : (absolute : Bool) (way : Way) (n : ℕ) → 0 < n → heavy way ≤ n + 1 → (absolute ≡ true → weight way.names ≤ n)
    → length (cond absolute (absolute_text way.names) (relative_text (replicate way.ups dots ++ way.names))) ≤ n
length-spelled true way n l h a = length-absolute n way.names (a refl) l
length-spelled false way n l h a = length-relative n (replicate way.ups dots ++ way.names) l (omega (arith, weight-append (replicate way.ups dots) way.names, weight-dots way.ups))

-- the normal form is not longer than the text
pub length-normal_form : (bytes : List ℕ) → 0 < length bytes → length (normal_form bytes) ≤ length bytes
length-normal_form bytes l =
    length-spelled (is_absolute bytes) (way_of (parts_of bytes)) (length bytes) l (omega (arith, way_of-heavy (parts_of bytes), weight-parts_of bytes)) (weight-slash bytes)

-- P holds of the bytes of each part
module _ (P : ℕ → Type 0) where
  abbrev AllIn : List (List ℕ) → Type 0
  AllIn parts = Each (All P) parts

  in-onto : (b : ℕ) (parts : List (List ℕ)) → P b → AllIn parts → AllIn (onto_first b parts)
  in-onto b [] p e = (All-cons P b [] p (All-nil P), tt)
  in-onto b (part ∷ parts) p e = (All-cons P b part p e.0, e.1)

  in-cut : (t : Bool) (b : ℕ) (parts : List (List ℕ)) → P b → AllIn parts → AllIn (cond t ([] ∷ parts) (onto_first b parts))
  in-cut true b parts p e = (All-nil P, e)
  in-cut false b parts p e = in-onto b parts p e

  in-parts : (bytes : List ℕ) → All P bytes → AllIn (parts_of bytes)
  in-parts [] a = (All-nil P, tt)
  in-parts (b ∷ bytes) a = in-cut (b == 47) b (parts_of bytes) (a 0 b (omega arith)) (in-parts bytes (λ k d l. a (suc k) d (omega arith)))

  in-before : (skipped up level : Bool) (part : List ℕ) (way : Way) → All P part → AllIn way.names
      → AllIn (cond skipped way (cond up (record { ups = way.ups + 1; names = way.names }) (cond level (record { ups = 0; names = part ∷ way.names }) (record { ups = way.ups - 1; names = way.names })))).names
  in-before true up level part way p e = e
  in-before false true level part way p e = e
  in-before false false true part way p e = (p, e)
  in-before false false false part way p e = e

  in-way : (parts : List (List ℕ)) → AllIn parts → AllIn (way_of parts).names
  in-way [] e = tt
  in-way (part ∷ parts) e = in-before (is_skipped part) (is_up part) ((way_of parts).ups == 0) part (way_of parts) e.0 (in-way parts e.1)

  in-join : P 47 → (parts : List (List ℕ)) → AllIn parts → All P (join_with_byte 47 parts)
  in-join s [] e = All-nil P
  in-join s (part ∷ []) e = e.0
  in-join s (part ∷ next ∷ parts) e = All-append P part (47 ∷ join_with_byte 47 (next ∷ parts)) e.0 (All-cons P 47 (join_with_byte 47 (next ∷ parts)) s (in-join s (next ∷ parts) e.1))

  in-dots : P 46 → (ups : ℕ) (names : List (List ℕ)) → AllIn names → AllIn (replicate ups dots ++ names)
  in-dots d zero names e = e
  in-dots d (suc ups) names e = (All-cons P 46 (46 ∷ []) d (All-cons P 46 [] d (All-nil P)), in-dots d ups names e)

  in-relative : P 47 → P 46 → (parts : List (List ℕ)) → AllIn parts → All P (relative_text parts)
  in-relative s d [] e = All-cons P 46 [] d (All-nil P)
  in-relative s d (part ∷ parts) e = in-join s (part ∷ parts) e

  in-spelled : P 47 → P 46 → (absolute : Bool) (way : Way) → AllIn way.names → All P (cond absolute (absolute_text way.names) (relative_text (replicate way.ups dots ++ way.names)))
  in-spelled s d true way e = All-cons P 47 (join_with_byte 47 way.names) s (in-join s way.names e)
  in-spelled s d false way e = in-relative s d (replicate way.ups dots ++ way.names) (in-dots d way.ups way.names e)

  -- each byte of the normal form is one of the text's, a dot or a slash
  pub All-normal_form : P 47 → P 46 → (bytes : List ℕ) → All P bytes → All P (normal_form bytes)
  All-normal_form s d bytes a = in-spelled s d (is_absolute bytes) (way_of (parts_of bytes)) (in-way (parts_of bytes) (in-parts bytes a))
