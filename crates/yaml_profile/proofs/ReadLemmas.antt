-- What a text gives, by cases.
use Rattle.std.proofs.Common.{◌≡◌, ℕ, Bool, true, false, cond, nat_lt, ◌<◌, ◌≤◌, length, Result, Err, refl, sym, ap, ◌∙◌, arith}
use Rattle.std.specs.Prelude.{IsUtf8}
use Rattle.std.specs.Str.{is_utf8}
use Rattle.std.specs.Str.Lossy.{utf8_valid_len}
use Rattle.std.proofs.lemmas.Str.{IsUtf8-from_is_utf8, is_utf8-from_IsUtf8}
use Rattle.std.proofs.lemmas.Bool.Decides.{nat_tests}
use Rattle.yaml_profile.specs.declared.error.YamlError.{YamlError}
use Rattle.yaml_profile.specs.declared.error.YamlError.TheVariants.{TooLong, NotUtf8}
use Rattle.yaml_profile.specs.declared.yaml.Yaml.{Yaml}
use Rattle.yaml_profile.specs.Text.{Text}
use Rattle.yaml_profile.specs.Block.{document}
use Rattle.yaml_profile.specs.Read.{yaml_of, placed}

abbrev answer : Bool → Bool → Text → Result Yaml YamlError
answer long utf8 t = cond long (Err TooLong) (cond utf8 (placed t (document t)) (Err (NotUtf8 (utf8_valid_len t))))

answer_by : (t : Text) (long utf8 : Bool) → nat_lt 67108864 (length t) ≡ long → is_utf8 t ≡ utf8 → yaml_of t ≡ answer long utf8 t
unfolding yaml_of
answer_by t long utf8 l u = ap (λ (b : Bool). answer b (is_utf8 t) t) l ∙ ap (λ (b : Bool). answer long b t) u

pub too_long : (t : Text) → 67108864 < length t → yaml_of t ≡ Err TooLong
unfolding yaml_of
too_long t h = let l : nat_lt 67108864 (length t) ≡ true = grind (arith, nat_tests) in answer_by t true (is_utf8 t) l refl

not_text : (t : Text) → (IsUtf8 t → ⊥) → is_utf8 t ≡ false
not_text t h = go (is_utf8 t) refl
  where
    go : (b : Bool) → is_utf8 t ≡ b → is_utf8 t ≡ false
    go true e = absurd (h (IsUtf8-from_is_utf8 t e))
    go false e = e

fits_in : (t : Text) → length t ≤ 67108864 → nat_lt 67108864 (length t) ≡ false
fits_in t h = grind (arith, nat_tests)

pub not_utf8 : (t : Text) (at : ℕ) → length t ≤ 67108864 → at ≡ utf8_valid_len t → (IsUtf8 t → ⊥) → yaml_of t ≡ Err (NotUtf8 at)
not_utf8 t at fits same h = answer_by t false false (fits_in t fits) (not_text t h) ∙ ap (λ (n : ℕ). Err (NotUtf8 n)) (sym same)

pub placed_text : (t : Text) → length t ≤ 67108864 → IsUtf8 t → yaml_of t ≡ placed t (document t)
placed_text t fits h = answer_by t false true (fits_in t fits) (is_utf8-from_IsUtf8 t h)
