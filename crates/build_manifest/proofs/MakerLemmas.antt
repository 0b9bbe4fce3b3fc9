-- The first fault of outputs, found on a walk.
use Rattle.std.proofs.Common.{◌≡◌, ℕ, zero, suc, ◌+◌, ◌<◌, Bool, true, false, cond, List, [], ◌∷◌, ◌++◌, length, drop, take, get_or, map, position, Option, Some, None, IfSome, refl, sym, ap, ◌∙◌, arith, length-take}
use Rattle.std.specs.List.{list_any, slice_get}
use Rattle.std.specs.Option.{option_or, option_map, option_and_then}
use Rattle.std.proofs.lemmas.List.{length-map}
use Rattle.std.proofs.lemmas.Option.{slice_get_within, slice_get-get_or}
use Rattle.file_info.specs.declared.node.NodeName.{NodeName}
use Rattle.build_manifest.specs.declared.command.Command.{Command}
use Rattle.build_manifest.specs.declared.draft.DirectoryOutput.{DirectoryOutput}
use Rattle.build_manifest.specs.declared.draft.Draft.{Draft}
use Rattle.build_manifest.specs.declared.fault.RuleFault.{RuleFault}
use Rattle.build_manifest.specs.declared.fault.RuleFault.TheVariants as faults
use Rattle.build_manifest.specs.Places.{is_node, makes, maker_of, maker_name, command_names}
use Rattle.build_manifest.specs.Rules.{first, before_directory, directory_fault, commands_of, earlier_maker, makers_fault, draft_fault, outputs_fault}
use Rattle.build_manifest.proofs.NewLemmas.{noted_new}
use Rattle.build_manifest.proofs.SameLemmas.{same_node}
use Rattle.build_manifest.proofs.StepLemmas.{position_cons, position_push, position_within, list_any_next, option_or_cond}
use Rattle.build_manifest.proofs.WalkLemmas.{left_next, first_next}

-- no fault, and then what comes after it
pub first_none : (found next : Option RuleFault) → found ≡ None → first found next ≡ next
first_none found next h = ap (λ (o : Option RuleFault). first o next) h

-- the name of a draft's command
abbrev pub name_of : Draft → List ℕ
name_of d = d.command.name

pub shift_get : {X : Type 0} (x : X) (xs : List X) (o : Option ℕ) → option_and_then (slice_get (x ∷ xs)) (option_map suc o) ≡ option_and_then (slice_get xs) o
shift_get x xs None = refl
shift_get x xs (Some k) = refl

-- the maker's name stands at its place
maker_named : (ds : List Draft) (i : ℕ) (n : NodeName)
    → maker_name (commands_of (take i ds)) n ≡ option_map name_of (option_and_then (slice_get ds) (maker_of (commands_of (take i ds)) n))
maker_named ds zero n = refl
maker_named [] (suc i) n = refl
maker_named (d ∷ ds) (suc i) n =
    ap (λ (o : Option ℕ). option_map (λ (c : Command). c.name) (option_and_then (slice_get (d.command ∷ commands_of (take i ds))) o)) (position_cons (makes n) d.command (commands_of (take i ds)))
    ∙ go (makes n d.command) (maker_named ds i n)
    ∙ ap (λ (o : Option ℕ). option_map name_of (option_and_then (slice_get (d ∷ ds)) o)) (sym (position_cons (makes n) d.command (commands_of (take i ds))))
  where
    go : (b : Bool) → maker_name (commands_of (take i ds)) n ≡ option_map name_of (option_and_then (slice_get ds) (maker_of (commands_of (take i ds)) n))
        → option_map (λ (c : Command). c.name) (option_and_then (slice_get (d.command ∷ commands_of (take i ds))) (cond b (Some 0) (option_map suc (maker_of (commands_of (take i ds)) n))))
        ≡ option_map name_of (option_and_then (slice_get (d ∷ ds)) (cond b (Some 0) (option_map suc (maker_of (commands_of (take i ds)) n))))
    go true more = refl
    go false more =
        ap (option_map (λ (c : Command). c.name)) (shift_get d.command (commands_of (take i ds)) (maker_of (commands_of (take i ds)) n))
        ∙ more ∙ ap (option_map name_of) (sym (shift_get d ds (maker_of (commands_of (take i ds)) n)))

-- the earlier maker is the one that was noted
pub earlier_noted : (ds : List Draft) (i : ℕ) (d : Draft) (own : List NodeName) (n : NodeName) (place : Option ℕ) → slice_get ds i ≡ Some d
    → place ≡ option_or (maker_of (commands_of (take i ds)) n) (cond (list_any (is_node n) own) (Some i) None)
    → earlier_maker (commands_of (take i ds)) d.command.name own n ≡ option_map name_of (option_and_then (slice_get ds) place)
earlier_noted ds i d own n place here noted =
    ap (λ (o : Option (List ℕ)). option_or o (cond (list_any (is_node n) own) (Some d.command.name) None)) (maker_named ds i n)
    ∙ go (maker_of (commands_of (take i ds)) n) (list_any (is_node n) own) (position_within (makes n) (commands_of (take i ds)) (maker_of (commands_of (take i ds)) n) refl)
    ∙ ap (λ (o : Option ℕ). option_map name_of (option_and_then (slice_get ds) o)) (sym noted)
  where
    got : (m : ℕ) → m < length (commands_of (take i ds)) → m < length ds
    got m h = omega (arith, length-map (take i ds) (λ (e : Draft). e.command), length-take i ds)

    go : (o : Option ℕ) (b : Bool) → IfSome o (λ m. m < length (commands_of (take i ds)))
        → option_or (option_map name_of (option_and_then (slice_get ds) o)) (cond b (Some d.command.name) None)
        ≡ option_map name_of (option_and_then (slice_get ds) (option_or o (cond b (Some i) None)))
    go None true h = ap (option_map name_of) (sym here)
    go None false h = refl
    go (Some m) b h =
        let is = slice_get-get_or ds m d (got m h) in
        ap (λ (q : Option Draft). option_or (option_map name_of q) (cond b (Some d.command.name) None)) is ∙ ap (option_map name_of) (sym is)

-- a maker that was noted is one of the commands
pub noted_within : (ds : List Draft) (i m : ℕ) (d : Draft) (own : List NodeName) (n : NodeName) → slice_get ds i ≡ Some d
    → Some m ≡ option_or (maker_of (commands_of (take i ds)) n) (cond (list_any (is_node n) own) (Some i) None) → m < length ds
noted_within ds i m d own n here noted =
    go (maker_of (commands_of (take i ds)) n) (list_any (is_node n) own) (position_within (makes n) (commands_of (take i ds)) (maker_of (commands_of (take i ds)) n) refl) noted
  where
    go : (o : Option ℕ) (b : Bool) → IfSome o (λ k. k < length (commands_of (take i ds))) → Some m ≡ option_or o (cond b (Some i) None) → m < length ds
    go (Some k) b h e =
        let same : m ≡ k = cc e in
        omega (arith, h, length-map (take i ds) (λ (x : Draft). x.command), length-take i ds)
    go None true h e =
        let same : m ≡ i = cc e in
        omega (arith, slice_get_within ds i d here)
    go None false h e = cc e

-- a node that has no maker so far
pub makers_next : (before : List Command) (name : List ℕ) (xs : List NodeName) (i : ℕ) (x : NodeName) → i < length xs → x ≡ get_or xs i x
    → earlier_maker before name (take i xs) x ≡ None → makers_fault before name (take i xs) (drop i xs) ≡ makers_fault before name (take (i + 1) xs) (drop (i + 1) xs)
makers_next before name xs i x h e none =
    left_next (makers_fault before name (take i xs)) xs i x h e
    ∙ ap (λ (o : Option (List ℕ)). elim o [ Some maker ↦ Some (faults.TwoMakers x maker name) | None ↦ makers_fault before name (take i xs ++ x ∷ []) (drop (i + 1) xs) ]) none
    ∙ ap (λ (own : List NodeName). makers_fault before name own (drop (i + 1) xs)) (sym (first_next xs i x h e))

-- a node that has one
pub makers_stop : (before : List Command) (name maker : List ℕ) (xs : List NodeName) (i : ℕ) (x : NodeName) → i < length xs → x ≡ get_or xs i x
    → earlier_maker before name (take i xs) x ≡ Some maker → makers_fault before name (take i xs) (drop i xs) ≡ Some (faults.TwoMakers x maker name)
makers_stop before name maker xs i x h e found =
    left_next (makers_fault before name (take i xs)) xs i x h e
    ∙ ap (λ (o : Option (List ℕ)). elim o [ Some maker ↦ Some (faults.TwoMakers x maker name) | None ↦ makers_fault before name (take i xs ++ x ∷ []) (drop (i + 1) xs) ]) found

-- the places of the makers, one node further
pub makers_noted : (xs : List NodeName) (i : ℕ) (x : NodeName) (at : ℕ) (old place now : NodeName → Option ℕ) → i < length xs → x ≡ get_or xs i x
    → ((n : NodeName) → place n ≡ option_or (old n) (cond (list_any (is_node n) (take i xs)) (Some at) None))
    → ((n : NodeName) → now n ≡ cond (is_node n x) (Some at) (place n)) → place x ≡ None
    → (n : NodeName) → now n ≡ option_or (old n) (cond (list_any (is_node n) (take (i + 1) xs)) (Some at) None)
makers_noted xs i x at old place now h e before noted free n =
    noted_new is_node same_node place now x at free noted n ∙ ap (λ (o : Option ℕ). option_or o (cond (is_node n x) (Some at) None)) (before n)
    ∙ option_or_cond (old n) (list_any (is_node n) (take i xs)) (is_node n x) at
    ∙ ap (λ (b : Bool). option_or (old n) (cond b (Some at) None)) (sym (list_any_next (is_node n) xs i x h e))

or_none : (o : Option RuleFault) → first o None ≡ o
or_none None = refl
or_none (Some e) = refl

-- a command without an output that is a directory
pub no_directory : (before : List Command) (d : Draft) → d.directory ≡ None → draft_fault before d ≡ makers_fault before d.command.name [] d.command.outputs
no_directory before d none =
    ap (λ (o : Option DirectoryOutput). first (makers_fault before d.command.name [] (before_directory o d.command.outputs)) (directory_fault d.command.name o)) none
    ∙ or_none (makers_fault before d.command.name [] d.command.outputs)

-- a command with one
pub one_directory : (before : List Command) (d : Draft) (o : DirectoryOutput) → d.directory ≡ Some o
    → draft_fault before d ≡ first (makers_fault before d.command.name [] (take o.place d.command.outputs)) (Some (faults.DirectoryOutput d.command.name o.written))
one_directory before d o some =
    ap (λ (r : Option DirectoryOutput). first (makers_fault before d.command.name [] (before_directory r d.command.outputs)) (directory_fault d.command.name r)) some

-- the commands of one more draft
pub commands_next : (ds : List Draft) (i : ℕ) (d : Draft) → i < length ds → d ≡ get_or ds i d → commands_of (take (i + 1) ds) ≡ commands_of (take i ds) ++ d.command ∷ []
commands_next ds i d h e = ap commands_of (first_next ds i d h e) ∙ go (take i ds)
  where
    go : (es : List Draft) → commands_of (es ++ d ∷ []) ≡ commands_of es ++ d.command ∷ []
    go [] = refl
    go (x ∷ es) = ap (λ (cs : List Command). x.command ∷ cs) (go es)

-- the place of the first command that passes a test, one command further
pub place_next : (p : Command → Bool) (ds : List Draft) (i : ℕ) (d : Draft) → i < length ds → d ≡ get_or ds i d
    → position p (commands_of (take (i + 1) ds)) ≡ option_or (position p (commands_of (take i ds))) (cond (p d.command) (Some i) None)
place_next p ds i d h e =
    let long : length (commands_of (take i ds)) ≡ i = omega (arith, length-map (take i ds) (λ (x : Draft). x.command), length-take i ds) in
    ap (position p) (commands_next ds i d h e) ∙ position_push p (commands_of (take i ds)) d.command
    ∙ ap (λ (k : ℕ). option_or (position p (commands_of (take i ds))) (cond (p d.command) (Some k) None)) long

-- the names of the commands of drafts
pub draft_names : (ds : List Draft) → command_names (commands_of ds) ≡ map (λ (d : Draft). d.command.name) ds
draft_names [] = refl
draft_names (d ∷ ds) = ap (λ (l : List (List ℕ)). d.command.name ∷ l) (draft_names ds)

-- the makers, one command further
pub maker_next : (ds : List Draft) (i : ℕ) (d : Draft) (n : NodeName) → i < length ds → d ≡ get_or ds i d
    → maker_of (commands_of (take (i + 1) ds)) n ≡ option_or (maker_of (commands_of (take i ds)) n) (cond (makes n d.command) (Some i) None)
maker_next ds i d n h e = place_next (makes n) ds i d h e

-- a command whose outputs have no fault
pub outputs_next : (ds : List Draft) (i : ℕ) (d : Draft) → i < length ds → d ≡ get_or ds i d → draft_fault (commands_of (take i ds)) d ≡ None
    → outputs_fault (commands_of (take i ds)) (drop i ds) ≡ outputs_fault (commands_of (take (i + 1) ds)) (drop (i + 1) ds)
outputs_next ds i d h e none =
    left_next (outputs_fault (commands_of (take i ds))) ds i d h e
    ∙ first_none (draft_fault (commands_of (take i ds)) d) (outputs_fault (commands_of (take i ds) ++ d.command ∷ []) (drop (i + 1) ds)) none
    ∙ ap (λ (cs : List Command). outputs_fault cs (drop (i + 1) ds)) (sym (commands_next ds i d h e))
