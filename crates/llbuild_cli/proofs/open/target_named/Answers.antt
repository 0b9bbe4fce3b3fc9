use Rattle.std.proofs.Common.{◌≡◌, ℕ, List, true, sym, subst}
use Rattle.std.specs.Str.{is_utf8}
use Rattle.llbuild_cli.proofs.open.target_named.Goals as goal
use Rattle.std.proofs.lemmas.Str.{IsUtf8-from_is_utf8}

pub returns-in-Err : goal.returns-in-Err
returns-in-Err c = absurd (c.in-Err.ensures.cases.0 (IsUtf8-from_is_utf8 c.as_slice.result.now (subst (λ (t : List ℕ). is_utf8 t ≡ true) (sym c.as_slice.ensures) c.requires)))
