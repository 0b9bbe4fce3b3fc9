-- Spellings that can be read from the front of a text in one way only.
use Rattle.std.specs.Prelude.{◌≡◌, ◌<◌, ◌≤◌, ◌^◌, ℕ, List, ◌++◌, length}

-- two things are the same, and so is what follows the two
pub record Same {A B : Type 0} (x y : A) (r s : B) : Type 0 where
  pub first : x ≡ y
  pub rest : r ≡ s

-- each spelling has a byte, and where one text begins with the spellings of two things, each below 2^32 bytes, the
-- things are the same, and so is what follows them
pub record Splits {A : Type 0} (f : A → List ℕ) : Type 0 where
  pub some : (x : A) → 1 ≤ length (f x)
  pub once : (x y : A) (r s : List ℕ) → length (f x) < 2 ^ 32 → length (f y) < 2 ^ 32 → f x ++ r ≡ f y ++ s → Same x y r s

-- the things that two equal texts begin with are the same, and what follows them is the same and below 2^32 bytes
pub record Left {A : Type 0} (x y : A) (r s : List ℕ) : Type 0 where
  pub first : x ≡ y
  pub rest : r ≡ s
  pub short : length r < 2 ^ 32
