-- Where no rule is broken, nothing stands twice.
use Rattle.std.proofs.Common.{◌≡◌, ℕ, suc, Bool, true, false, not, ◌&&◌, ◌||◌, if◌then◌else◌, cond, List, [], ◌∷◌, ◌++◌, Option, Some, None, refl, sym, ap, inl, inr, ◌∙◌, append_assoc, append-nil, rules}
use Rattle.std.specs.Prelude.{bytes_eq}
use Rattle.std.specs.List.{list_any, slice_get}
use Rattle.std.specs.Option.{option_map, option_and_then, is_some}
use Rattle.std.proofs.lemmas.List.Folds.{list_any-append}
use Rattle.file_info.specs.Lists.{In}
use Rattle.file_info.proofs.Lists.{In-either}
use Rattle.file_info.specs.declared.node.NodeName.{NodeName}
use Rattle.build_manifest.specs.declared.command.Command.{Command}
use Rattle.build_manifest.specs.declared.draft.DirectoryOutput.{DirectoryOutput}
use Rattle.build_manifest.specs.declared.draft.Draft.{Draft}
use Rattle.build_manifest.specs.declared.fault.RuleFault.{RuleFault}
use Rattle.build_manifest.specs.declared.fault.RuleFault.TheVariants as faults
use Rattle.build_manifest.specs.Distinct.{differ}
use Rattle.build_manifest.specs.Places.{is_node, makes, maker_of, maker_name, all_outputs, all_deps}
use Rattle.build_manifest.specs.Rules.{first, commands_of, earlier_maker, makers_fault, draft_fault, outputs_fault, deps_fault, all_deps_fault}
use Rattle.build_manifest.proofs.SameLemmas.{bytes_swap, node_swap, is_output}
use Rattle.build_manifest.proofs.StepLemmas.{position_cons}
use Rattle.build_manifest.proofs.MakerLemmas.{shift_get, no_directory, one_directory}
use Rattle.build_manifest.proofs.DepsLemmas.{some_or}

-- neither of two faults
pub neither : (found next : Option RuleFault) → first found next ≡ None → (found ≡ None) × (next ≡ None)
neither None next h = (refl, h)
neither (Some e) next h = cc h

both : (a b : Bool) → (a && b) ≡ true → (a ≡ true) × (b ≡ true)
both true b h = (refl, h)
both false b h = absurd (search (rules))

either_not : (a b : Bool) → (a || b) ≡ false → (a ≡ false) × (b ≡ false)
either_not true b h = absurd (search (rules))
either_not false b h = (refl, h)

pushed : (a s : Bool) → not a ≡ true → s ≡ false → not (a || (s || false)) ≡ true
pushed true s h k = h
pushed false true h k = absurd (search (rules))
pushed false false h k = refl

-- one item more at the end, unlike all before it
differ_push : {A : Type 0} (same : A → A → Bool) (swap : (p q : A) → same p q ≡ same q p) (xs : List A) (y : A) → differ same xs ≡ true → list_any (same y) xs ≡ false
    → differ same (xs ++ y ∷ []) ≡ true
differ_push same swap [] y h free = refl
differ_push same swap (x ∷ xs) y h free =
    let (new, more) = both (not (list_any (same x) xs)) (differ same xs) h in
    let (other, rest) = either_not (same y x) (list_any (same y) xs) free in
    let none : not (list_any (same x) (xs ++ y ∷ [])) ≡ true
    = ap not (list_any-append (same x) xs (y ∷ [])) ∙ pushed (list_any (same x) xs) (same x y) new (swap x y ∙ other) in
    ap (λ (b : Bool). b && differ same (xs ++ y ∷ [])) none ∙ differ_push same swap xs y more rest

-- a node has a maker where a command makes it
maker_known : (cs : List Command) (n : NodeName) → is_some (maker_name cs n) ≡ list_any (makes n) cs
maker_known [] n = refl
maker_known (c ∷ cs) n =
    ap (λ (o : Option ℕ). is_some (option_map (λ (d : Command). d.name) (option_and_then (slice_get (c ∷ cs)) o))) (position_cons (makes n) c cs)
    ∙ go (makes n c) (maker_known cs n)
  where
    go : (b : Bool) → is_some (maker_name cs n) ≡ list_any (makes n) cs
        → is_some (option_map (λ (d : Command). d.name) (option_and_then (slice_get (c ∷ cs)) (cond b (Some 0) (option_map suc (maker_of cs n))))) ≡ (b || list_any (makes n) cs)
    go true more = refl
    go false more = ap (λ (o : Option Command). is_some (option_map (λ (d : Command). d.name) o)) (shift_get c cs (maker_of cs n)) ∙ more

-- a node without an earlier maker is no output so far
no_earlier : (before : List Command) (name : List ℕ) (own : List NodeName) (n : NodeName) → earlier_maker before name own n ≡ None
    → list_any (is_node n) (all_outputs before ++ own) ≡ false
no_earlier before name own n none =
    list_any-append (is_node n) (all_outputs before) own
    ∙ ap (λ (b : Bool). b || list_any (is_node n) own) (is_output n before ∙ sym (maker_known before n))
    ∙ sym (some_or (maker_name before n) (list_any (is_node n) own) name) ∙ ap is_some none

-- outputs without a fault differ from those before them
makers_free : (before : List Command) (name : List ℕ) (own ns : List NodeName) → makers_fault before name own ns ≡ None → differ is_node (all_outputs before ++ own) ≡ true
    → differ is_node (all_outputs before ++ (own ++ ns)) ≡ true
makers_free before name own [] none so_far = ap (λ (l : List NodeName). differ is_node (all_outputs before ++ l)) (append-nil own) ∙ so_far
makers_free before name own (n ∷ ns) none so_far = go (earlier_maker before name own n) refl none (makers_free before name (own ++ n ∷ []) ns)
  where
    go : (o : Option (List ℕ)) → earlier_maker before name own n ≡ o
        → ◌≡◌ {A = Option RuleFault} (elim o [ Some maker ↦ Some (faults.TwoMakers n maker name) | None ↦ makers_fault before name (own ++ n ∷ []) ns ]) None
        → (makers_fault before name (own ++ n ∷ []) ns ≡ None → differ is_node (all_outputs before ++ (own ++ n ∷ [])) ≡ true
        → differ is_node (all_outputs before ++ ((own ++ n ∷ []) ++ ns)) ≡ true)
        → differ is_node (all_outputs before ++ (own ++ n ∷ ns)) ≡ true
    go (Some maker) is h more = cc h
    go None is h more =
        ap (λ (l : List NodeName). differ is_node (all_outputs before ++ l)) (sym (append_assoc own (n ∷ []) ns))
        ∙ more h (ap (differ is_node) (sym (append_assoc (all_outputs before) own (n ∷ [])))
        ∙ differ_push is_node node_swap (all_outputs before ++ own) n so_far (no_earlier before name own n is))

outputs_push : (cs : List Command) (c : Command) → all_outputs (cs ++ c ∷ []) ≡ all_outputs cs ++ c.outputs
outputs_push [] c = append-nil c.outputs
outputs_push (d ∷ cs) c = ap (λ (l : List NodeName). d.outputs ++ l) (outputs_push cs c) ∙ sym (append_assoc d.outputs (all_outputs cs) c.outputs)

-- one command more
draft_free : (before : List Command) (d : Draft) → draft_fault before d ≡ None → differ is_node (all_outputs before) ≡ true → differ is_node (all_outputs (before ++ d.command ∷ [])) ≡ true
draft_free before d none so_far = go d.directory refl
  where
    go : (o : Option DirectoryOutput) → d.directory ≡ o → differ is_node (all_outputs (before ++ d.command ∷ [])) ≡ true
    go None is =
        ap (differ is_node) (outputs_push before d.command)
        ∙ makers_free before d.command.name [] d.command.outputs (sym (no_directory before d is) ∙ none) (ap (differ is_node) (append-nil (all_outputs before)) ∙ so_far)
    go (Some o) is =
        let (a, b) = neither _ (Some (faults.DirectoryOutput d.command.name o.written)) (sym (one_directory before d o is) ∙ none) in
        cc b

-- all commands
pub outputs_free : (before : List Command) (ds : List Draft) → outputs_fault before ds ≡ None → differ is_node (all_outputs before) ≡ true
    → differ is_node (all_outputs (before ++ commands_of ds)) ≡ true
outputs_free before [] none so_far = ap (λ (l : List Command). differ is_node (all_outputs l)) (append-nil before) ∙ so_far
outputs_free before (d ∷ ds) none so_far =
    let (here, after) = neither (draft_fault before d) (outputs_fault (before ++ d.command ∷ []) ds) none in
    ap (λ (l : List Command). differ is_node (all_outputs l)) (sym (append_assoc before (d.command ∷ []) (commands_of ds)))
    ∙ outputs_free (before ++ d.command ∷ []) ds after (draft_free before d here so_far)

-- paths that differ from those before them, and are no nodes
pub record AreFree (used : List ℕ → Bool) (named ps : List (List ℕ)) : Type 0 where
  pub apart : differ bytes_eq (named ++ ps) ≡ true
  pub unused : (p : List ℕ) → In p ps → used p ≡ false

-- dependency files without a fault
deps_free : (used : List ℕ → Bool) (named : List (List ℕ)) (name : List ℕ) (ps : List (List ℕ)) → deps_fault used named name ps ≡ None → differ bytes_eq named ≡ true
    → AreFree used named ps
deps_free used named name [] none so_far = record { apart = ap (differ bytes_eq) (append-nil named) ∙ so_far; unused = λ p i. absurd i }
deps_free used named name (p ∷ ps) none so_far = go (used p || list_any (bytes_eq p) named) refl none (deps_free used (named ++ p ∷ []) name ps)
  where
    go : (b : Bool) → (used p || list_any (bytes_eq p) named) ≡ b → (if b then Some (faults.DepsClash name p) else deps_fault used (named ++ p ∷ []) name ps) ≡ None
        → (deps_fault used (named ++ p ∷ []) name ps ≡ None → differ bytes_eq (named ++ p ∷ []) ≡ true → AreFree used (named ++ p ∷ []) ps)
        → AreFree used named (p ∷ ps)
    go true is h more = cc h
    go false is h more =
        let (no_node, new) = either_not (used p) (list_any (bytes_eq p) named) is in
        let rest = more h (differ_push bytes_eq bytes_swap named p so_far new) in
        record {
          apart = ap (differ bytes_eq) (sym (append_assoc named (p ∷ []) ps)) ∙ rest.apart;
          unused = λ q i. elim i [ inl e ↦ ap used e ∙ no_node | inr j ↦ rest.unused q j ];
        }

-- all of them
pub all_deps_free : (used : List ℕ → Bool) (named : List (List ℕ)) (cs : List Command) → all_deps_fault used named cs ≡ None → differ bytes_eq named ≡ true
    → AreFree used named (all_deps cs)
all_deps_free used named [] none so_far = record { apart = ap (differ bytes_eq) (append-nil named) ∙ so_far; unused = λ p i. absurd i }
all_deps_free used named (c ∷ cs) none so_far =
    let (here, after) = neither (deps_fault used named c.name c.deps) (all_deps_fault used (named ++ c.deps) cs) none in
    let own = deps_free used named c.name c.deps here so_far in
    let rest = all_deps_free used (named ++ c.deps) cs after own.apart in
    record {
      apart = ap (differ bytes_eq) (sym (append_assoc named c.deps (all_deps cs))) ∙ rest.apart;
      unused = λ p i. elim (In-either p c.deps (all_deps cs) i) [ inl j ↦ own.unused p j | inr j ↦ rest.unused p j ];
    }
