-- The normal form is a path.
use Rattle.std.proofs.Common.{◌≡◌, ◌≢◌, ℕ, ◌≤◌, false, List, length, arith}
use Rattle.std.specs.Prelude.{All, ◌==◌}
use Rattle.file_info.specs.Path.{normal_form}
use Rattle.file_info.specs.Normal.{IsPath}
use Rattle.file_info.proofs.NormalLemmas.{normal_form-IsNormal}
use Rattle.file_info.proofs.BoundLemmas.{length-normal_form, All-normal_form, not_level}

pub normal_form-IsPath : (bytes : List ℕ) → (length bytes == 0) ≡ false → length bytes ≤ 4096 → All (λ b. b ≢ 0) bytes → IsPath (normal_form bytes)
normal_form-IsPath bytes l m n = record {
  normal = normal_form-IsNormal bytes;
  at_most = omega (arith, length-normal_form bytes (not_level _ l));
  no_nul = All-normal_form (λ b. b ≢ 0) (omega arith) (omega arith) bytes n;
}
