-- Writes of outputs.
use Rattle.std.proofs.Common.{◌≡◌, ◌⊎◌, ◌+◌, ◌<◌, ℕ, suc, Bool, true, false, List, [], ◌∷◌, ◌++◌, length, take, get_or, refl, inl, inr, ap, sym, ◌∙◌, subst, append_assoc, append-nil, arith}
use Rattle.std.specs.Prelude.{◌||◌}
use Rattle.std.specs.List.{list_any}
use Rattle.std.proofs.lemmas.List.{take_more, length-take-le}
use Rattle.file_info.specs.Lists.{In}
use Rattle.file_info.specs.declared.info.Form.TheVariants.{Link}
use Rattle.outside.specs.declared.order.Act.{Act}
use Rattle.outside.specs.declared.order.Act.TheVariants.{Spawn, MakeDir, MakeLink}
use Rattle.outside.specs.declared.order.Order.{Order}
use Rattle.memory_files.specs.declared.write.What.{What}
use Rattle.memory_files.specs.declared.write.What.TheVariants.{Dir}
use Rattle.memory_files.specs.declared.write.Write.{Write}
use Rattle.memory_files.specs.Log.{put, last_of, info_of, info_at, is_directory}
use Rattle.memory_world.specs.Performance.{is_blocked, made_by, put_outputs, WentOn}
use Rattle.file_info.proofs.Lists.{In-either, In-one, In-take}

pub or-false : (a b : Bool) → (a || b) ≡ false → (a ≡ false) × (b ≡ false)
or-false true b e = cc e
or-false false b e = (refl, e)

-- where no item passes, none of them does
pub any-none : {A : Type 0} (test : A → Bool) (xs : List A) → list_any test xs ≡ false → (x : A) → In x xs → test x ≡ false
any-none test [] e x i = absurd i
any-none test (y ∷ xs) e x (inl same) = ap test same ∙ (or-false (test y) (list_any test xs) e).0
any-none test (y ∷ xs) e x (inr i) = any-none test xs (or-false (test y) (list_any test xs) e).1 x i

pub outputs-more : (ws : List Write) (made : ℕ → What) (place : ℕ) (ps : List (List ℕ)) (p : List ℕ)
    → put_outputs ws made place (ps ++ p ∷ []) ≡ put (put_outputs ws made place ps) p (made (place + length ps))
outputs-more ws made place [] p = ap (λ (n : ℕ). put ws p (made n)) (omega arith)
outputs-more ws made place (q ∷ ps) p =
    let next = put ws q (made place) in
    outputs-more next made (suc place) ps p ∙ ap (λ (n : ℕ). put (put_outputs next made (suc place) ps) p (made n)) (omega arith)

-- one output more
pub outputs-step : (ws now new : List Write) (made : ℕ → What) (ps : List (List ℕ)) (k : ℕ) (p : List ℕ) (x : What) → k < length ps → p ≡ get_or ps k p
    → now ≡ put_outputs ws made 0 (take k ps) → x ≡ made k → new ≡ put now p x → new ≡ put_outputs ws made 0 (take (k + 1) ps)
outputs-step ws now new made ps k p x h is before what after =
    let more : take (k + 1) ps ≡ take k ps ++ p ∷ [] = take_more ps k p h ∙ ap (λ (z : List ℕ). take k ps ++ z ∷ []) (sym is) in
    let count : length (take k ps) ≡ k = length-take-le k ps (omega arith) in
    after ∙ ap (λ (z : List Write). put z p x) before ∙ ap (put (put_outputs ws made 0 (take k ps)) p) what
    ∙ ap (λ (n : ℕ). put (put_outputs ws made 0 (take k ps)) p (made n)) (omega (arith, count))
    ∙ sym (outputs-more ws made 0 (take k ps) p) ∙ ap (put_outputs ws made 0) (sym more)

-- a write to this path spares what was a directory
abbrev Spares : List Write → List ℕ → What → Type 0
Spares old p x = (is_directory (info_of (last_of old p) Link) ≡ false) ⊎ (x ≡ Dir)

-- what is made where nothing is in the way spares what was a directory
spares : (old : List Write) (order : Order) (act : Act) (hashed : List ℕ) (p : List ℕ) (n : ℕ) → is_blocked (info_at old) order.reads act p ≡ false
    → Spares old p (made_by act hashed n)
spares old order (Spawn words env inherit clear) hashed p n e = inl (or-false (is_directory (info_of (last_of old p) Link)) _ e).0
spares old order MakeDir hashed p n e = inr refl
spares old order (MakeLink text) hashed p n e = inl e

pub went-put : (ps : List (List ℕ)) (old ws : List Write) (p : List ℕ) (x : What) → In p ps → Spares old p x
    → WentOn ps old ws → WentOn ps old (put ws p x)
went-put ps old ws p x i free w =
    let item : Write = record { path = p; number = length ws + 1; what = x } in
    record {
      more = w.more ++ item ∷ [];
      is = ap (λ (z : List Write). z ++ item ∷ []) w.is ∙ append_assoc old w.more (item ∷ []);
      at = λ v j. elim (In-either v w.more (item ∷ []) j) [ inl k ↦ w.at v k | inr k ↦ subst (λ (z : Write). In z.path ps) (sym (In-one k)) i ];
      spared = λ v j. elim (In-either v w.more (item ∷ []) j) [
        | inl k ↦ w.spared v k
        | inr k ↦ subst (λ (z : Write). Spares old z.path z.what) (sym (In-one k)) free
      ];
    }

went-outputs : (qs : List (List ℕ)) (old ws : List Write) (made : ℕ → What) (place : ℕ) (ps : List (List ℕ)) → ((p : List ℕ) → In p ps → In p qs)
    → ((p : List ℕ) (n : ℕ) → In p qs → Spares old p (made n)) → WentOn qs old ws → WentOn qs old (put_outputs ws made place ps)
went-outputs qs old ws made place [] i free w = w
went-outputs qs old ws made place (p ∷ ps) i free w =
    went-outputs qs old (put ws p (made place)) made (suc place) ps (λ q j. i q (inr j)) free (went-put qs old ws p (made place) (i p (inl refl)) (free p place (i p (inl refl))) w)

pub went-nowhere : (ps : List (List ℕ)) (old : List Write) → WentOn ps old old
went-nowhere ps old = record { more = []; is = sym (append-nil old); at = λ w i. absurd i; spared = λ w i. absurd i }

-- some of the outputs
pub went_some : (order : Order) (k : ℕ) (old now : List Write) (hashed : List ℕ) → list_any (is_blocked (info_at old) order.reads order.act) order.outputs ≡ false
    → now ≡ put_outputs old (made_by order.act hashed) 0 (take k order.outputs) → WentOn order.outputs old now
went_some order k old now hashed none e =
    subst (WentOn order.outputs old) (sym e) (went-outputs order.outputs old old (made_by order.act hashed) 0 (take k order.outputs) (λ p i. In-take p k order.outputs i)
    (λ p n i. spares old order order.act hashed p n (any-none (is_blocked (info_at old) order.reads order.act) order.outputs none p i)) (went-nowhere order.outputs old))
