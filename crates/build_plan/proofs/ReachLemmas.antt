-- A walk over what nodes need, marked place by place.
use Rattle.std.proofs.Common.{◌≡◌, ◌⊎◌, ◌<◌, ◌+◌, ℕ, zero, suc, Bool, true, false, cond, List, [], ◌∷◌, ◌++◌, length, get_or, set, replicate, refl, sym, ap, ◌∙◌, subst, inl, inr, arith, length-append, take}
use Rattle.std.specs.Prelude.{slice_get, Some, None, Result, Ok, Err, OnOk}
use Rattle.std.proofs.Math.ListN.{length-set}
use Rattle.std.proofs.lemmas.List.{length-replicate, set-get_or}
use Rattle.std.proofs.lemmas.Option.{slice_get_within, slice_get-get_or}
use Rattle.file_info.specs.Lists.{In}
use Rattle.file_info.proofs.Lists.{In-get, In-index, In-left, In-right, In-either, In-one}
use Rattle.build_manifest.specs.declared.command.Command.{Command}
use Rattle.build_manifest.specs.declared.command.Input.{Input}
use Rattle.build_manifest.specs.Manifest.{IsManifest, ManifestLists}
use Rattle.build_manifest.specs.Places.{maker_of}
use Rattle.build_manifest.proofs.WalkLemmas.{first_next}
use Rattle.build_meaning.specs.Need.{IsNeeded, wants, needs, follows, AreMarks}
use Rattle.build_meaning.proofs.MakerLemmas.{maker_makes, maker_at}
use Rattle.build_plan.specs.Reached.{IsMarked, unmarked, asked_by, IsMakerOf, AddsMakers, AreReached}

set_kept : (marks : List Bool) (k j : ℕ) → IsMarked marks j → IsMarked (set marks k true) j
set_kept [] k j e = e
set_kept (b ∷ marks) zero zero e = refl
set_kept (b ∷ marks) zero (suc j) e = e
set_kept (b ∷ marks) (suc k) zero e = e
set_kept (b ∷ marks) (suc k) (suc j) e = set_kept marks k j e

set_there : (marks : List Bool) (k : ℕ) → k < length marks → IsMarked (set marks k true) k
set_there [] k h = absurd (omega arith)
set_there (b ∷ marks) zero h = refl
set_there (b ∷ marks) (suc k) h = set_there marks k (omega arith)

set_from : (marks : List Bool) (k j : ℕ) → IsMarked (set marks k true) j → IsMarked marks j ⊎ (k ≡ j)
set_from [] k j e = inl e
set_from (b ∷ marks) zero zero e = inr refl
set_from (b ∷ marks) zero (suc j) e = inl e
set_from (b ∷ marks) (suc k) zero e = inl e
set_from (b ∷ marks) (suc k) (suc j) e = elim (set_from marks k j e) [ inl f ↦ inl f | inr f ↦ inr (ap suc f) ]

set_less : (marks : List Bool) (k : ℕ) → get_or marks k true ≡ false → unmarked (set marks k true) + 1 ≡ unmarked marks
set_less [] k e = cc e
set_less (true ∷ marks) zero e = cc e
set_less (false ∷ marks) zero e = omega arith
set_less (true ∷ marks) (suc k) e = set_less marks k e
set_less (false ∷ marks) (suc k) e = let more = set_less marks k e in omega arith

none_marked : (n j : ℕ) → IsMarked (replicate n false) j → ⊥
none_marked zero j e = cc e
none_marked (suc n) zero e = cc e
none_marked (suc n) (suc j) e = none_marked n j e

-- an item stands at each place of a list
pub item_at : {X : Type 0} (xs : List X) (k : ℕ) → k < length xs → (x : X) × (slice_get xs k ≡ Some x)
item_at [] k h = absurd (omega arith)
item_at (x ∷ xs) zero h = (x, refl)
item_at (x ∷ xs) (suc k) h = item_at xs k (omega arith)

-- ---- what one step adds

-- of no input there is no maker
pub adds_none : (cs : List Command) (marks : List Bool) (waiting : List ℕ) → AddsMakers cs [] marks waiting marks waiting
adds_none cs marks waiting = record {
  count = refl;
  kept = λ k e. e;
  makers = λ k m. absurd m.among;
  only = λ k e. inl e;
  waits = λ k i. i;
  held = λ k i. inl i;
  fresh = λ k e. inl e;
  work = omega arith;
}

one_maker : (cs : List Command) (i : Input) (k j : ℕ) → maker_of cs i.node ≡ Some k → IsMakerOf cs (i ∷ []) j → k ≡ j
one_maker cs i k j e m =
    let same : m.input ≡ i = In-one m.among in
    let there : maker_of cs i.node ≡ Some j = ap (λ (z : Input). maker_of cs z.node) (sym same) ∙ m.makes in
    cc (e, there)

-- an input without a maker
pub adds_no_maker : (cs : List Command) (i : Input) (marks : List Bool) (waiting : List ℕ) → maker_of cs i.node ≡ None
    → AddsMakers cs (i ∷ []) marks waiting marks waiting
adds_no_maker cs i marks waiting e =
    let same = adds_none cs marks waiting in
    record {
      count = refl;
      kept = same.kept;
      makers = λ k m.
          let there : maker_of cs i.node ≡ Some k = ap (λ (z : Input). maker_of cs z.node) (sym (In-one m.among)) ∙ m.makes in
          cc (e, there);
      only = λ k f. inl f;
      waits = same.waits;
      held = same.held;
      fresh = same.fresh;
      work = same.work;
    }

adds_marked : (cs : List Command) (i : Input) (k : ℕ) (marks : List Bool) (waiting : List ℕ) → maker_of cs i.node ≡ Some k → IsMarked marks k
    → AddsMakers cs (i ∷ []) marks waiting marks waiting
adds_marked cs i k marks waiting e marked =
    let same = adds_none cs marks waiting in
    record {
      count = refl;
      kept = same.kept;
      makers = λ j m. subst (IsMarked marks) (one_maker cs i k j e m) marked;
      only = λ j f. inl f;
      waits = same.waits;
      held = same.held;
      fresh = same.fresh;
      work = same.work;
    }

adds_new : (cs : List Command) (i : Input) (k : ℕ) (marks : List Bool) (waiting : List ℕ) → maker_of cs i.node ≡ Some k → k < length marks
    → get_or marks k true ≡ false → AddsMakers cs (i ∷ []) marks waiting (set marks k true) (waiting ++ k ∷ [])
adds_new cs i k marks waiting e h free = record {
  count = length-set marks k true;
  kept = λ j f. set_kept marks k j f;
  makers = λ j m. subst (IsMarked (set marks k true)) (one_maker cs i k j e m) (set_there marks k h);
  only = λ j f.
      elim (set_from marks k j f) [ inl g ↦ inl g | inr g ↦ inr (record { input = i; among = inl refl; makes = e ∙ ap Some g }) ];
  waits = λ j n. In-left j waiting (k ∷ []) n;
  held = λ j n.
      elim (In-either j waiting (k ∷ []) n) [
        | inl m ↦ inl m
        | inr m ↦ inr (subst (IsMarked (set marks k true)) (sym (In-one m)) (set_there marks k h))
      ];
  fresh = λ j f.
      elim (set_from marks k j f) [ inl g ↦ inl g | inr g ↦ inr (In-right j waiting (k ∷ []) (inl (sym g))) ];
  work = let less = set_less marks k free in let more = length-append waiting (k ∷ []) in omega arith;
}

-- an input with a maker
pub adds_maker : (cs : List Command) (i : Input) (k : ℕ) (marks new : List Bool) (waited waiting : List ℕ) → maker_of cs i.node ≡ Some k
    → k < length marks
    → new ≡ set marks k true → waiting ≡ cond (get_or marks k true) waited (waited ++ k ∷ []) → AddsMakers cs (i ∷ []) marks waited new waiting
adds_maker cs i k marks new waited waiting e h set_now waits_now = go (get_or marks k true) refl waits_now
  where
    go : (b : Bool) → get_or marks k true ≡ b → waiting ≡ cond b waited (waited ++ k ∷ []) → AddsMakers cs (i ∷ []) marks waited new waiting
    go true is same =
        let as_before : new ≡ marks = set_now ∙ ap (set marks k) (sym is) ∙ set-get_or marks k true in
        rw (as_before, same) (adds_marked cs i k marks waited e (slice_get-get_or marks k true h ∙ ap Some is))
    go false is more = rw (set_now, more) (adds_new cs i k marks waited e h is)

in_first : (cs : List Command) (is js : List Input) (k : ℕ) → IsMakerOf cs is k → IsMakerOf cs (is ++ js) k
in_first cs is js k m = record { input = m.input; among = In-left m.input is js m.among; makes = m.makes }

in_second : (cs : List Command) (is js : List Input) (k : ℕ) → IsMakerOf cs js k → IsMakerOf cs (is ++ js) k
in_second cs is js k m = record { input = m.input; among = In-right m.input is js m.among; makes = m.makes }

in_either : (cs : List Command) (is js : List Input) (k : ℕ) → IsMakerOf cs (is ++ js) k → IsMakerOf cs is k ⊎ IsMakerOf cs js k
in_either cs is js k m = elim (In-either m.input is js m.among) [
  | inl i ↦ inl (record { input = m.input; among = i; makes = m.makes })
  | inr i ↦ inr (record { input = m.input; among = i; makes = m.makes })
]

-- two steps
pub adds_both : (cs : List Command) (is js : List Input) (old mid new : List Bool) (waited between waiting : List ℕ)
    → AddsMakers cs is old waited mid between → AddsMakers cs js mid between new waiting → AddsMakers cs (is ++ js) old waited new waiting
adds_both cs is js old mid new waited between waiting a b = record {
  count = b.count ∙ a.count;
  kept = λ k e. b.kept k (a.kept k e);
  makers = λ k m. elim (in_either cs is js k m) [ inl n ↦ b.kept k (a.makers k n) | inr n ↦ b.makers k n ];
  only = λ k e.
      elim (b.only k e) [
        | inl f ↦ elim (a.only k f) [ inl g ↦ inl g | inr n ↦ inr (in_first cs is js k n) ]
        | inr n ↦ inr (in_second cs is js k n)
      ];
  waits = λ k i. b.waits k (a.waits k i);
  held = λ k i. elim (b.held k i) [ inl j ↦ elim (a.held k j) [ inl n ↦ inl n | inr e ↦ inr (b.kept k e) ] | inr e ↦ inr e ];
  fresh = λ k e. elim (b.fresh k e) [ inl f ↦ elim (a.fresh k f) [ inl g ↦ inl g | inr i ↦ inr (b.waits k i) ] | inr i ↦ inr i ];
  work = let first = a.work in let second = b.work in omega arith;
}

-- one input more
pub adds_next : (cs : List Command) (xs : List Input) (i : ℕ) (x : Input) (old mid new : List Bool) (waited between waiting : List ℕ)
    → i < length xs → x ≡ get_or xs i x → AddsMakers cs (take i xs) old waited mid between → AddsMakers cs (x ∷ []) mid between new waiting
    → AddsMakers cs (take (i + 1) xs) old waited new waiting
adds_next cs xs i x old mid new waited between waiting h e a b =
    subst (λ is. AddsMakers cs is old waited new waiting) (sym (first_next xs i x h e))
    (adds_both cs (take i xs) (x ∷ []) old mid new waited between waiting a b)

-- an input without a maker, after which all is as before
pub adds_nothing : (cs : List Command) (i : Input) (marks new : List Bool) (waited waiting : List ℕ) → maker_of cs i.node ≡ None → new ≡ marks
    → waiting ≡ waited → AddsMakers cs (i ∷ []) marks waited new waiting
adds_nothing cs i marks new waited waiting e same still = rw (same, still) (adds_no_maker cs i marks waited e)

-- what holds at success gives what follows from it
pub on_ok : {A E P Q : Type 0} (r : Result A E) → (P → Q) → OnOk r P → OnOk r Q
on_ok (Ok x) f p = f p
on_ok (Err e) f p = tt

-- ---- the walk

needed_maker : (cs : List Command) (is : List Input) (k : ℕ) (c : Command) → slice_get cs k ≡ Some c → IsMakerOf cs is k
    → (i : Input) × In i is × In i.node c.outputs
needed_maker cs is k c at m =
    let (e, there, o) = maker_makes cs m.input.node k m.makes in
    let same : e ≡ c = cc (there, at) in
    (m.input, m.among, subst (λ (z : Command). In m.input.node z.outputs) same o)

-- it begins with the makers of the wanted nodes
pub walk_begins : (cs : List Command) (wanted : List Input) (none marks : List Bool) (nothing waiting : List ℕ)
    → none ≡ replicate (length cs) false → nothing ≡ [] → AddsMakers cs wanted none nothing marks waiting → AreReached cs wanted marks waiting
walk_begins cs wanted none marks nothing waiting is empty a =
    let free = λ (k : ℕ) (e : IsMarked none k). none_marked (length cs) k (subst (λ l. IsMarked l k) is e) in
    record {
      count = a.count ∙ ap length is ∙ length-replicate (length cs) false;
      sound = λ k c at e.
          elim (a.only k e) [
            | inl f ↦ absurd (free k f)
            | inr m ↦ let (i, among, o) = needed_maker cs wanted k c at m in wants i (In-get cs k c at) among o
          ];
      wanted_makers = a.makers;
      held = λ k i. elim (a.held k i) [ inl j ↦ absurd (subst (In k) empty j) | inr e ↦ e ];
      closed = λ k c at e. elim (a.fresh k e) [ inl f ↦ absurd (free k f) | inr i ↦ inl i ];
    }

asked_needed : (cs : List Command) (wanted : List Input) (user : Command) (k : ℕ) (c : Command) → IsNeeded cs wanted user → slice_get cs k ≡ Some c
    → IsMakerOf cs (asked_by user) k → IsNeeded cs wanted c
asked_needed cs wanted user k c need at m = elim (in_either cs user.inputs user.follow k m) [
  | inl n ↦ let (i, among, o) = needed_maker cs user.inputs k c at n in needs user i (In-get cs k c at) need among o
  | inr n ↦ let (i, among, o) = needed_maker cs user.follow k c at n in follows user i (In-get cs k c at) need among o
]

-- what waits is a command
pub waiting_within : (cs : List Command) (wanted : List Input) (marks : List Bool) (before waited : List ℕ) (place : ℕ)
    → before ≡ waited ++ place ∷ [] → AreReached cs wanted marks before → place < length cs
waiting_within cs wanted marks before waited place popped r =
    let marked = r.held place (subst (In place) (sym popped) (In-right place waited (place ∷ []) (inl refl))) in
    let within = slice_get_within marks place true marked in
    let count = r.count in
    omega arith

-- less is left to do
pub walk_less : (cs : List Command) (is : List Input) (old new : List Bool) (before waited waiting : List ℕ) (place : ℕ)
    → before ≡ waited ++ place ∷ [] → AddsMakers cs is old waited new waiting → unmarked new + length waiting < unmarked old + length before
walk_less cs is old new before waited waiting place popped a =
    let work = a.work in
    let longer : length before ≡ length waited + 1 = ap length popped ∙ length-append waited (place ∷ []) in
    omega arith

-- it goes on with the makers of what one command asks that waited
pub walk_goes_on : (cs : List Command) (wanted : List Input) (old new : List Bool) (before waited waiting : List ℕ) (place : ℕ) (user : Command)
    → slice_get cs place ≡ Some user → before ≡ waited ++ place ∷ [] → AddsMakers cs (asked_by user) old waited new waiting
    → AreReached cs wanted old before → AreReached cs wanted new waiting
walk_goes_on cs wanted old new before waited waiting place user here popped a r =
    let was = λ (k : ℕ) (i : In k waited). subst (In k) (sym popped) (In-left k waited (place ∷ []) i) in
    let marked : IsMarked old place = r.held place (subst (In place) (sym popped) (In-right place waited (place ∷ []) (inl refl))) in
    let need : IsNeeded cs wanted user = r.sound place user here marked in
    record {
      count = a.count ∙ r.count;
      sound = λ k c at e. elim (a.only k e) [ inl f ↦ r.sound k c at f | inr m ↦ asked_needed cs wanted user k c need at m ];
      wanted_makers = λ k m. a.kept k (r.wanted_makers k m);
      held = λ k i. elim (a.held k i) [ inl j ↦ a.kept k (r.held k (was k j)) | inr e ↦ e ];
      closed = λ k c at e.
          elim (a.fresh k e) [
            | inr i ↦ inl i
            | inl f ↦
                elim (r.closed k c at f) [
                  | inr asked ↦ inr (λ j m. a.kept j (asked j m))
                  | inl i ↦
                      elim (In-either k waited (place ∷ []) (subst (In k) popped i)) [
                        | inl j ↦ inl (a.waits k j)
                        | inr one ↦
                            let there : slice_get cs k ≡ Some user = ap (slice_get cs) (In-one one) ∙ here in
                            let same : user ≡ c = cc (there, at) in
                            inr (λ j m. a.makers j (subst (λ (z : Command). IsMakerOf cs (asked_by z) j) (sym same) m))
                      ]
                ]
          ];
    }

needed_in : (cs : List Command) (wanted : List Input) (c : Command) → IsNeeded cs wanted c → In c cs
needed_in cs wanted c (wants i n r o) = n
needed_in cs wanted c (needs user i n u r o) = n
needed_in cs wanted c (follows user i n u r o) = n

marked_user : (cs : List Command) (wanted : List Input) (marks : List Bool) → AreReached cs wanted marks [] → (user : Command) (k j : ℕ)
    → slice_get cs k ≡ Some user → IsMarked marks k → IsMakerOf cs (asked_by user) j → IsMarked marks j
marked_user cs wanted marks r user k j at e m = elim (r.closed k user at e) [ inl i ↦ absurd i | inr asked ↦ asked j m ]

each_marked : (m : ManifestLists) → IsManifest m → (wanted : List Input) (marks : List Bool) → AreReached m.commands wanted marks []
    → (c : Command) → IsNeeded m.commands wanted c → (k : ℕ) → slice_get m.commands k ≡ Some c → IsMarked marks k
each_marked m h wanted marks r c (wants i n among o) k at =
    r.wanted_makers k (record { input = i; among = among; makes = maker_at m h i.node k c at o })
each_marked m h wanted marks r c (needs user i n u among o) k at =
    let (j, there) = In-index user m.commands (needed_in m.commands wanted user u) in
    marked_user m.commands wanted marks r user j k there (each_marked m h wanted marks r user u j there)
    (record { input = i; among = In-left i user.inputs user.follow among; makes = maker_at m h i.node k c at o })
each_marked m h wanted marks r c (follows user i n u among o) k at =
    let (j, there) = In-index user m.commands (needed_in m.commands wanted user u) in
    marked_user m.commands wanted marks r user j k there (each_marked m h wanted marks r user u j there)
    (record { input = i; among = In-right i user.inputs user.follow among; makes = maker_at m h i.node k c at o })

pub nothing_left : (xs : List ℕ) → length xs ≡ 0 → xs ≡ []
nothing_left [] h = refl
nothing_left (x ∷ xs) h = absurd (omega arith)

-- where nothing waits each needed command is marked, and no other
pub walk_ends : (m : ManifestLists) → IsManifest m → (wanted : List Input) (marks : List Bool) (waiting : List ℕ) → waiting ≡ []
    → AreReached m.commands wanted marks waiting → AreMarks m.commands wanted marks
walk_ends m h wanted marks waiting none reached =
    let r : AreReached m.commands wanted marks [] = subst (AreReached m.commands wanted marks) none reached in
    record {
      count = r.count;
      each = λ k c at. (r.sound k c at, λ n. each_marked m h wanted marks r c n k at);
    }
