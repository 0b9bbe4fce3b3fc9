-- How a world goes on.
use Rattle.std.specs.Prelude.{◌≡◌, ◌≤◌, ℕ, List}
use Rattle.file_info.specs.declared.info.Form.{Form}
use Rattle.outside.specs.View.{DiskView, Told, Keeps}

-- what tells at exit told at entry, and then nothing differs but at these paths; the count of faults did not fall
pub record Moved (written : List ℕ → Type 0) (old new : DiskView) : Type 0 where
  pub keeps : Keeps old new
  pub same : Told new → (p : List ℕ) (f : Form) → (written p → ⊥) → new.at p f ≡ old.at p f
  pub later : old.faults ≤ new.faults
