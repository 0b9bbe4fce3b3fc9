-- Texts that are names or paths.
use Rattle.std.proofs.Common.{◌≡◌, ℕ, suc, Bool, true, false, not, cond, ◌&&◌, ◌||◌, if◌then◌else◌, List, [], ◌∷◌, Option, Some, None, position, Ok, Err, refl, sym, ap, ◌∙◌}
use Rattle.std.specs.Prelude.{IsUtf8}
use Rattle.std.specs.List.{list_any}
use Rattle.std.specs.Option.{is_none, is_some, option_map}
use Rattle.std.specs.Str.{is_utf8}
use Rattle.std.proofs.lemmas.Str.{IsUtf8-from_is_utf8, is_utf8-from_IsUtf8}
use Rattle.file_info.specs.NameFault.{name_fault}
use Rattle.file_info.specs.Path.{normal_form}
use Rattle.file_info.specs.PathFault.{path_fault}
use Rattle.file_info.specs.declared.path.PathError.{PathError}
use Rattle.manifest_values.specs.declared.refusal.Refusal.TheVariants.{BadPath}
use Rattle.manifest_values.specs.declared.refusal.Stop.{Stop}
use Rattle.manifest_values.specs.declared.refusal.Stop.TheVariants as stop
use Rattle.manifest_values.specs.Refusal.{Given, given_if, Fails, Stops}
use Rattle.manifest_values.specs.Texts.{is_name, is_path_text, path_in}
use Rattle.manifest_values.proofs.PlaceLemmas.{position_cons}

is_false : (b : Bool) → (b ≡ true → ⊥) → b ≡ false
is_false true never = absurd (never refl)
is_false false never = refl

pub not_utf8 : (t : List ℕ) → (IsUtf8 t → ⊥) → is_utf8 t ≡ false
not_utf8 t never = is_false (is_utf8 t) (λ e. never (IsUtf8-from_is_utf8 t e))

none_mapped : {E : Type 0} (f : ℕ → E) (b c : Bool) (o : Option ℕ) → is_none (option_map f o) ≡ not c
    → is_none (option_map f (cond b (Some 0) (option_map suc o))) ≡ not (b || c)
none_mapped f true c o h = refl
none_mapped f false c None h = h
none_mapped f false c (Some n) h = h

-- nothing is found where no item passes
pub none_found : {A E : Type 0} (p : A → Bool) (f : ℕ → E) (xs : List A) → is_none (option_map f (position p xs)) ≡ not (list_any p xs)
none_found p f [] = refl
none_found p f (x ∷ xs) =
    ap (λ o. is_none (option_map f o)) (position_cons p x xs) ∙ none_mapped f (p x) (list_any p xs) (position p xs) (none_found p f xs)

-- the path of a text, by whether it is UTF-8 and by its fault
abbrev path_by : Bool → Option PathError → List ℕ → Option (List ℕ)
path_by utf8 fault t = if utf8 && is_none fault then Some (normal_form t) else None

by_path : (t : List ℕ) → path_in t ≡ path_by (is_utf8 t) (path_fault t) t
unfolding path_in is_path_text
by_path t = refl

pub not_text : (t : List ℕ) → (IsUtf8 t → ⊥) → path_in t ≡ None
not_text t never = by_path t ∙ ap (λ (b : Bool). path_by b (path_fault t) t) (not_utf8 t never)

pub text_is_path : (t : List ℕ) → IsUtf8 t → path_fault t ≡ None → path_in t ≡ Some (normal_form t)
text_is_path t utf8 fault =
    by_path t ∙ ap (λ (b : Bool). path_by b (path_fault t) t) (is_utf8-from_IsUtf8 t utf8) ∙ ap (λ (o : Option PathError). path_by true o t) fault

and_false : (b : Bool) → (b && false) ≡ false
and_false true = refl
and_false false = refl

pub text_is_none : (t : List ℕ) (e : PathError) → path_fault t ≡ Some e → path_in t ≡ None
text_is_none t e fault =
    by_path t ∙ ap (λ (o : Option PathError). path_by (is_utf8 t) o t) fault
    ∙ ap (λ (b : Bool). if b then Some (normal_form t) else None) (and_false (is_utf8 t))

-- the name of a text, by whether it is UTF-8 and by its fault
abbrev name_by : Bool → Bool → List ℕ → List ℕ → Given (List ℕ)
name_by utf8 free owner t = given_if (utf8 && free) (BadPath owner t) (Ok t)

by_name : (owner t : List ℕ) → given_if (is_name t) (BadPath owner t) (Ok t) ≡ name_by (is_utf8 t) (is_none (name_fault t)) owner t
unfolding is_name
by_name owner t = refl

pub text_is_name : (owner t : List ℕ) → IsUtf8 t → is_none (name_fault t) ≡ true → given_if (is_name t) (BadPath owner t) (Ok t) ≡ Ok t
text_is_name owner t utf8 free =
    by_name owner t ∙ ap (λ (b : Bool). name_by b (is_none (name_fault t)) owner t) (is_utf8-from_IsUtf8 t utf8)
    ∙ ap (λ (b : Bool). name_by true b owner t) free

refused_by : (found : Stop) (owner t : List ℕ) (given : Given (List ℕ)) → Stops found (BadPath owner t) → given ≡ Err (BadPath owner t)
    → Fails found given
refused_by stop.Memory owner t given is h = tt
refused_by (stop.Refused r) owner t given is h = h ∙ ap Err (sym is)

pub name_has_fault : (found : Stop) (owner t : List ℕ) → Stops found (BadPath owner t) → is_none (name_fault t) ≡ false
    → Fails found (given_if (is_name t) (BadPath owner t) (Ok t))
name_has_fault found owner t is fault =
    refused_by found owner t _ is (by_name owner t ∙ ap (λ (b : Bool). name_by (is_utf8 t) b owner t) fault
    ∙ ap (λ (b : Bool). given_if b (BadPath owner t) (Ok t)) (and_false (is_utf8 t)))

pub name_not_text : (found : Stop) (owner t : List ℕ) → Stops found (BadPath owner t) → (IsUtf8 t → ⊥)
    → Fails found (given_if (is_name t) (BadPath owner t) (Ok t))
name_not_text found owner t is never =
    refused_by found owner t _ is (by_name owner t ∙ ap (λ (b : Bool). name_by b (is_none (name_fault t)) owner t) (not_utf8 t never))

some_tested : (b : Bool) (x : List ℕ) → is_some (if b then Some x else None) ≡ b
some_tested true x = refl
some_tested false x = refl

pub path_tested : (t : List ℕ) → is_some (path_in t) ≡ is_path_text t
unfolding path_in
path_tested t = some_tested (is_path_text t) (normal_form t)
