-- Paths whose parts are all plain are in normal form.
use Rattle.std.proofs.Common.{◌≡◌, ℕ, ◌≤◌, Bool, true, false, ◌==◌, ◌||◌, List, [], ◌∷◌, length, refl, not, sym, ◌∙◌, subst, ap, arith}
use Rattle.std.specs.List.{list_any, join_with_byte, All}
use Rattle.std.proofs.lemmas.List.Splits.{join_with_byte-slice_split, length-slice_split}
use Rattle.std.proofs.lemmas.Bool.{true≢false}
use Rattle.file_info.specs.Path.{is_skipped, is_up, parts_of, relative_text}
use Rattle.file_info.specs.Normal.{IsPlainPart, IsNormal, absolute_path, relative_path}
use Rattle.file_info.proofs.NormalLemmas.{Each, HasNoSlash, Each-All, parts_of-no_slash}

-- whether the part is empty, `.` or `..`
abbrev pub is_special : List ℕ → Bool
is_special part = is_skipped part || is_up part

neither : (a b : Bool) → (a || b) ≡ false → (a ≡ false) × (b ≡ false)
neither true b e = absurd (true≢false e)
neither false b e = (refl, e)

plain-parts : (parts : List (List ℕ)) → Each HasNoSlash parts → list_any is_special parts ≡ false → Each IsPlainPart parts
plain-parts [] slash e = tt
plain-parts (part ∷ parts) slash e =
    let first : (is_special part ≡ false) × (list_any is_special parts ≡ false) = neither _ _ e in
    let both : (is_skipped part ≡ false) × (is_up part ≡ false) = neither _ _ first.0 in
    (record { not_skipped = both.0; not_up = both.1; no_slash = slash.0 }, plain-parts parts slash.1 first.1)

all-plain : (bytes : List ℕ) → list_any is_special (parts_of bytes) ≡ false → All IsPlainPart (parts_of bytes)
all-plain bytes e = Each-All IsPlainPart (parts_of bytes) (plain-parts (parts_of bytes) (parts_of-no_slash bytes) e)

relative-joined : (parts : List (List ℕ)) → 1 ≤ length parts → relative_text parts ≡ join_with_byte 47 parts
relative-joined [] h = absurd (omega (arith, h))
relative-joined (part ∷ parts) h = refl

-- a relative path of plain parts
pub plain-relative : (bytes : List ℕ) → list_any is_special (parts_of bytes) ≡ false → IsNormal bytes
plain-relative bytes e =
    let some : 1 ≤ length (parts_of bytes) = omega (arith, length-slice_split (λ b. b == 47) bytes) in
    subst IsNormal (relative-joined (parts_of bytes) some ∙ join_with_byte-slice_split 47 bytes) (relative_path 0 (parts_of bytes) (all-plain bytes e))

-- an absolute path of plain parts
pub plain-absolute : (rest : List ℕ) → list_any is_special (parts_of rest) ≡ false → IsNormal (47 ∷ rest)
plain-absolute rest e = subst (λ t. IsNormal (47 ∷ t)) (join_with_byte-slice_split 47 rest) (absolute_path (parts_of rest) (all-plain rest e))

not-special : (b : Bool) → not b ≡ true → b ≡ false
not-special true e = sym e
not-special false e = refl

-- a path that begins with a slash, by the answer for what follows it
pub plain-rest : (text rest : List ℕ) (first : ℕ) (special : Bool) → text ≡ first ∷ rest → first ≡ 47
    → special ≡ list_any is_special (parts_of rest) → not special ≡ true → IsNormal text
plain-rest text rest first special whole start e plain =
    subst IsNormal (ap (λ b. b ∷ rest) (sym start) ∙ sym whole) (plain-absolute rest (sym e ∙ not-special special plain))

-- any other path, by the answer for the whole
pub plain-whole : (text : List ℕ) (special : Bool) → special ≡ list_any is_special (parts_of text) → not special ≡ true → IsNormal text
plain-whole text special e plain = plain-relative text (sym e ∙ not-special special plain)
