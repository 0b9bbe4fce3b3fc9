use Rattle.std.proofs.Common.{◌≡◌, Bool, true, false, List, ℕ, refl}
use Rattle.std.specs.Str.{IsUtf8, is_utf8}
use Rattle.std.proofs.lemmas.Str.{IsUtf8-from_is_utf8, is_utf8-from_IsUtf8}
use Rattle.name_list.proofs.text.utf8_text.Goals as goal

pub returns-in-Ok : goal.returns-in-Ok
returns-in-Ok c =
    let cases = c.in-Ok.ensures.cases in
    record { same = cases.0; utf8 = is_utf8-from_IsUtf8 c.args.bytes.now cases.1 }

not-utf8 : (bytes : List ℕ) (test : Bool) → is_utf8 bytes ≡ test → (IsUtf8 bytes → ⊥) → test ≡ false
not-utf8 bytes true e never = absurd (never (IsUtf8-from_is_utf8 bytes e))
not-utf8 bytes false e never = refl

pub returns-in-Err : goal.returns-in-Err
returns-in-Err c = not-utf8 c.args.bytes.now (is_utf8 c.args.bytes.now) refl c.in-Err.ensures.cases.0
