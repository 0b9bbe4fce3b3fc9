-- The first fault of texts, text by text.
use Rattle.std.proofs.Common.{◌≡◌, ℕ, Bool, true, false, not, if◌then◌else◌, List, [], ◌∷◌, ◌++◌, length, Option, Some, None, refl, ap, ◌∙◌}
use Rattle.std.specs.Option.{option_or}
use Rattle.name_list.specs.EntryNames.{is_entry_name}
use Rattle.name_list.specs.ListFaults.{is_among, first_fault}
use Rattle.name_list.specs.declared.fault.ListError.{ListError}
use Rattle.name_list.specs.declared.fault.ListError.TheVariants.{Bad, Repeated}

-- the fault of a text, by what is known of it
abbrev fault_by : List (List ℕ) → Bool → Bool → Option ListError
fault_by before names among =
    if not names then Some (Bad (length before)) else (if among then Some (Repeated (length before)) else None)

-- the first fault, by what is known of the first text
known : (before : List (List ℕ)) (text : List ℕ) (others : List (List ℕ)) (names among : Bool)
    → is_entry_name text ≡ names → is_among before text ≡ among
    → first_fault before (text ∷ others) ≡ option_or (fault_by before names among) (first_fault (before ++ text ∷ []) others)
known before text others names among e f =
    let goes : Option ListError → Option ListError = λ fault. option_or fault (first_fault (before ++ text ∷ []) others) in
    ap (λ b. goes (fault_by before b (is_among before text))) e ∙ ap (λ b. goes (fault_by before names b)) f

-- a text that cannot name an entry
pub bad_first : (before : List (List ℕ)) (text : List ℕ) (others : List (List ℕ)) → is_entry_name text ≡ false
    → first_fault before (text ∷ others) ≡ Some (Bad (length before))
bad_first before text others e = known before text others false (is_among before text) e refl

-- a text that came before
pub repeated_first : (before : List (List ℕ)) (text : List ℕ) (others : List (List ℕ)) → is_entry_name text ≡ true → is_among before text ≡ true
    → first_fault before (text ∷ others) ≡ Some (Repeated (length before))
repeated_first before text others e f = known before text others true true e f

-- a text with no fault
pub passes_first : (before : List (List ℕ)) (text : List ℕ) (others : List (List ℕ)) → is_entry_name text ≡ true → is_among before text ≡ false
    → first_fault before (text ∷ others) ≡ first_fault (before ++ text ∷ []) others
passes_first before text others e f = known before text others true false e f
