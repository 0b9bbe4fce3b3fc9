-- What is left of a list from a place on.
use Rattle.std.proofs.Common.{◌≡◌, ℕ, zero, suc, ◌+◌, ◌<◌, List, [], ◌∷◌, drop, length, get_or, Some, ap, sym, suc-add}
use Rattle.std.specs.Prelude.{slice_get}
use Rattle.file_info.proofs.Lists.{get-read}

pub drop-get : {A : Type 0} (xs : List A) (n : ℕ) (x : A) → slice_get xs n ≡ Some x → drop n xs ≡ x ∷ drop (n + 1) xs
drop-get [] n x e = cc e
drop-get (y ∷ ys) zero x e = (let same : y ≡ x = cc e in ap (λ z. z ∷ ys) same)
drop-get (y ∷ ys) (suc n) x e = rw suc-add (drop-get ys n x e)

pub drop-step : {A : Type 0} (xs : List A) (i : ℕ) (e : A) → i < length xs → e ≡ get_or xs i e → drop i xs ≡ e ∷ drop (i + 1) xs
drop-step xs i e h is = drop-get xs i e (get-read xs i e e (sym is) h)
