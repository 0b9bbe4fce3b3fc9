-- Names and paths have a spelling.
use Rattle.std.proofs.Common.{◌≡◌, ℕ, ◌<◌, ◌≤◌, ◌==◌, Bool, false, Option, Some, None, List, length, cond, nat_lt, refl, ap, arith}
use Rattle.std.specs.Prelude.{All, position, bytes_eq}
use Rattle.std.specs.Option.{is_none, option_map}
use Rattle.std.specs.Str.{IsUtf8, is_utf8}
use Rattle.std.proofs.lemmas.Bool.{le-ltb}
use Rattle.std.proofs.lemmas.Grind.{common_steps}
use Rattle.std.proofs.lemmas.List.Quantifiers.{position-Some}
use Rattle.std.proofs.lemmas.Slice.Eq.{bytes_eq-Decides}
use Rattle.std.proofs.lemmas.Str.{is_utf8-from_IsUtf8}
use Rattle.file_info.specs.Name.{IsName, is_control}
use Rattle.file_info.specs.NameFault.{name_fault}
use Rattle.file_info.specs.declared.name.NameError.TheVariants.{Empty, TooLong, Control}
use Rattle.file_info.specs.Path.{normal_form}
use Rattle.file_info.specs.PathFault.{path_fault}
use Rattle.build_keys.specs.Keys.{IsShort, is_name, is_path}
use Rattle.build_keys.proofs.OptionLemmas.{and-true}

no-control : (text : List ℕ) (at : Option ℕ) → position is_control text ≡ at → All (λ b. is_control b ≡ false) text → at ≡ None
no-control text None e h = refl
no-control text (Some i) e h = let found = position-Some is_control text i 0 e in cc (found.1, h i 0 found.0)

no-fault : (empty long : Bool) (at : Option ℕ) → empty ≡ false → long ≡ false → at ≡ None
    → cond empty (Some Empty) (cond long (Some TooLong) (option_map Control at)) ≡ None
no-fault empty long at e l n = rw (e, l, n) refl

not-empty : (n : ℕ) → 0 < n → (n == 0) ≡ false
not-empty n h = grind (arith, common_steps)

pub name-short : (text : List ℕ) → IsName text → IsUtf8 text → IsShort is_name text
name-short text h u =
    let fault : name_fault text ≡ None =
    no-fault (length text == 0) (nat_lt 4096 (length text)) (position is_control text) (not-empty (length text) h.not_empty)
    (le-ltb 4096 (length text) h.at_most) (no-control text (position is_control text) refl h.no_control) in
    record { passes = and-true (is_utf8 text) (is_none (name_fault text)) (is_utf8-from_IsUtf8 text u) (ap is_none fault); short = omega (arith, h.at_most) }

pub path-short : (text : List ℕ) → path_fault text ≡ None → normal_form text ≡ text → length text ≤ 4096 → IsUtf8 text → IsShort is_path text
path-short text f n m u = record {
  passes = and-true _ (bytes_eq (normal_form text) text) (and-true (is_utf8 text) (is_none (path_fault text)) (is_utf8-from_IsUtf8 text u) (ap is_none f))
      ((bytes_eq-Decides (normal_form text) text).1 n);
  short = omega (arith, m);
}
