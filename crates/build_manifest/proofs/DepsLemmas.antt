-- The first fault of dependency files, found on a walk.
use Rattle.std.proofs.Common.{◌≡◌, ℕ, suc, ◌+◌, ◌<◌, Bool, true, false, ◌||◌, if◌then◌else◌, cond, List, [], ◌∷◌, ◌++◌, length, drop, take, get_or, position, Option, Some, None, refl, sym, ap, ◌∙◌, append_assoc, append-nil}
use Rattle.std.specs.Prelude.{bytes_eq}
use Rattle.std.specs.List.{list_any}
use Rattle.std.specs.Option.{option_or, option_map, is_some}
use Rattle.std.proofs.lemmas.List.Folds.{list_any-append}
use Rattle.build_manifest.specs.declared.command.Command.{Command}
use Rattle.build_manifest.specs.declared.fault.RuleFault.{RuleFault}
use Rattle.build_manifest.specs.declared.fault.RuleFault.TheVariants as faults
use Rattle.build_manifest.specs.Places.{all_deps, deps_place}
use Rattle.build_manifest.specs.declared.draft.Draft.{Draft}
use Rattle.build_manifest.specs.Rules.{first, commands_of, deps_fault, all_deps_fault}
use Rattle.build_manifest.proofs.SameLemmas.{bytes_same, is_named}
use Rattle.build_manifest.proofs.StepLemmas.{position_cons}
use Rattle.build_manifest.proofs.WalkLemmas.{left_next}
use Rattle.build_manifest.proofs.MakerLemmas.{first_none, commands_next}

-- a place is found where an item passes
pub some_place : {X : Type 0} (p : X → Bool) (xs : List X) → is_some (position p xs) ≡ list_any p xs
some_place p [] = refl
some_place p (x ∷ xs) = ap is_some (position_cons p x xs) ∙ go (p x) (position p xs) (some_place p xs)
  where
    go : (b : Bool) (o : Option ℕ) → is_some o ≡ list_any p xs → is_some (cond b (Some 0) (option_map suc o)) ≡ (b || list_any p xs)
    go true o e = refl
    go false None e = e
    go false (Some k) e = e

-- a dependency file has a place
pub deps_placed : (q : List ℕ) (cs : List Command) → is_some (deps_place cs q) ≡ list_any (bytes_eq q) (all_deps cs)
deps_placed q cs = some_place (λ (c : Command). list_any (bytes_eq q) c.deps) cs ∙ sym (is_named q cs)

pub some_or : {A : Type 0} (o : Option A) (b : Bool) (n : A) → is_some (option_or o (cond b (Some n) None)) ≡ (is_some o || b)
some_or None true n = refl
some_or None false n = refl
some_or (Some x) b n = refl

-- the dependency files of one more command
pub all_deps_next : (ds : List Draft) (i : ℕ) (d : Draft) → i < length ds → d ≡ get_or ds i d
    → all_deps (commands_of (take (i + 1) ds)) ≡ all_deps (commands_of (take i ds)) ++ d.command.deps
all_deps_next ds i d h e = ap all_deps (commands_next ds i d h e) ∙ go (commands_of (take i ds))
  where
    go : (cs : List Command) → all_deps (cs ++ d.command ∷ []) ≡ all_deps cs ++ d.command.deps
    go [] = append-nil d.command.deps
    go (c ∷ cs) = ap (λ (l : List (List ℕ)). c.deps ++ l) (go cs) ∙ sym (append_assoc c.deps (all_deps cs) d.command.deps)

-- a command whose dependency files have no fault
pub each_next : (used : List ℕ → Bool) (ds : List Draft) (i : ℕ) (d : Draft) → i < length ds → d ≡ get_or ds i d
    → deps_fault used (all_deps (commands_of (take i ds))) d.command.name d.command.deps ≡ None
    → all_deps_fault used (all_deps (commands_of (take i ds))) (commands_of (drop i ds))
    ≡ all_deps_fault used (all_deps (commands_of (take (i + 1) ds))) (commands_of (drop (i + 1) ds))
each_next used ds i d h e none =
    let named = all_deps (commands_of (take i ds)) in
    let left = commands_of (drop (i + 1) ds) in
    left_next (λ (l : List Draft). all_deps_fault used named (commands_of l)) ds i d h e
    ∙ first_none (deps_fault used named d.command.name d.command.deps) (all_deps_fault used (named ++ d.command.deps) left) none
    ∙ ap (λ (l : List (List ℕ)). all_deps_fault used l left) (sym (all_deps_next ds i d h e))

itself : (q : List ℕ) (ps : List (List ℕ)) → list_any (bytes_eq q) (q ∷ ps) ≡ true
itself q ps = ap (λ (b : Bool). b || list_any (bytes_eq q) ps) (bytes_same q)

or_right : (a b : Bool) → b ≡ true → (a || b) ≡ true
or_right true b e = refl
or_right false b e = e

-- tests that agree on the files of a command find the same fault there
deps_alike : (f g : List ℕ → Bool) (named : List (List ℕ)) (name : List ℕ) (ps : List (List ℕ)) → ((q : List ℕ) → list_any (bytes_eq q) ps ≡ true → f q ≡ g q)
    → deps_fault f named name ps ≡ deps_fault g named name ps
deps_alike f g named name [] alike = refl
deps_alike f g named name (p ∷ ps) alike =
    ap (λ (b : Bool). if b || list_any (bytes_eq p) named then Some (faults.DepsClash name p) else deps_fault f (named ++ p ∷ []) name ps) (alike p (itself p ps))
    ∙ ap (λ (o : Option RuleFault). if g p || list_any (bytes_eq p) named then Some (faults.DepsClash name p) else o)
    (deps_alike f g (named ++ p ∷ []) name ps (λ q there. alike q (or_right (bytes_eq q p) (list_any (bytes_eq q) ps) there)))

-- tests that agree on all dependency files find the same fault
pub all_deps_alike : (f g : List ℕ → Bool) (named : List (List ℕ)) (cs : List Command) → ((q : List ℕ) → list_any (bytes_eq q) (all_deps cs) ≡ true → f q ≡ g q)
    → all_deps_fault f named cs ≡ all_deps_fault g named cs
all_deps_alike f g named [] alike = refl
all_deps_alike f g named (c ∷ cs) alike =
    ap (λ (o : Option RuleFault). first o (all_deps_fault f (named ++ c.deps) cs))
    (deps_alike f g named c.name c.deps (λ q there. alike q (list_any-append (bytes_eq q) c.deps (all_deps cs) ∙ ap (λ (b : Bool). b || list_any (bytes_eq q) (all_deps cs)) there)))
    ∙ ap (λ (o : Option RuleFault). first (deps_fault g named c.name c.deps) o)
    (all_deps_alike f g (named ++ c.deps) cs
    (λ q there. alike q (list_any-append (bytes_eq q) c.deps (all_deps cs) ∙ or_right (list_any (bytes_eq q) c.deps) (list_any (bytes_eq q) (all_deps cs)) there)))
