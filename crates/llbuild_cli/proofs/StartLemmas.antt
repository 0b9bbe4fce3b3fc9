-- The starts of the marked commands.
use Rattle.std.proofs.Common.{◌≡◌, ◌≤◌, ℕ, zero, suc, ◌+◌, Bool, true, false, List, [], ◌∷◌, ◌++◌, map, length, take, refl, sym, ◌∙◌, ap, inl, inr, arith, add-one}
use Rattle.std.specs.Prelude.{slice_get, Some}
use Rattle.file_info.proofs.Lists.{In-get, In-index, get-map, get-take}
use Rattle.file_info.specs.Lists.{In, IsDistinct}
use Rattle.build_manifest.specs.declared.command.Command.{Command}
use Rattle.build_manifest.specs.declared.command.Input.{Input}
use Rattle.build_meaning.specs.Need.{IsNeeded, wants, needs, follows, AreMarks}
use Rattle.build_meaning.specs.Orderly.{AreOrderly}
use Rattle.build_meaning.proofs.OrderlyLemmas.{one_place}
use Rattle.build_report.specs.declared.report.Start.{Start}
use Rattle.llbuild_cli.specs.Start.{start_of, starts_of, AreStarts, AllStarted}

-- the marked command of a start
pub record IsStartAt (commands : List Command) (marks : List Bool) (s : Start) : Type 0 where
  pub place : ℕ
  pub command : Command
  pub at : slice_get commands place ≡ Some command
  pub marked : slice_get marks place ≡ Some true
  pub is : s ≡ start_of command

start_later : {c : Command} {cs : List Command} {b : Bool} {ms : List Bool} {s : Start} → IsStartAt cs ms s → IsStartAt (c ∷ cs) (b ∷ ms) s
start_later i = record { place = suc i.place; command = i.command; at = i.at; marked = i.marked; is = i.is }

pub start_at : (cs : List Command) (ms : List Bool) (s : Start) → In s (starts_of cs ms) → IsStartAt cs ms s
start_at [] ms s i = absurd i
start_at (c ∷ cs) [] s i = absurd i
start_at (c ∷ cs) (true ∷ ms) s (inl e) = record { place = zero; command = c; at = refl; marked = refl; is = e }
start_at (c ∷ cs) (true ∷ ms) s (inr i) = start_later (start_at cs ms s i)
start_at (c ∷ cs) (false ∷ ms) s i = start_later (start_at cs ms s i)

pub started_in : (cs : List Command) (ms : List Bool) (k : ℕ) (c : Command) → slice_get cs k ≡ Some c → slice_get ms k ≡ Some true → In (start_of c) (starts_of cs ms)
started_in [] ms k c e m = cc e
started_in (d ∷ cs) [] k c e m = cc m
started_in (d ∷ cs) (true ∷ ms) zero c e m = inl (let same : d ≡ c = cc e in ap start_of (sym same))
started_in (d ∷ cs) (false ∷ ms) zero c e m = cc m
started_in (d ∷ cs) (true ∷ ms) (suc k) c e m = inr (started_in cs ms k c e m)
started_in (d ∷ cs) (false ∷ ms) (suc k) c e m = started_in cs ms k c e m

-- no more than there are commands
pub starts_few : (cs : List Command) (ms : List Bool) → length (starts_of cs ms) ≤ length cs
starts_few [] ms = omega arith
starts_few (c ∷ cs) [] = omega arith
starts_few (c ∷ cs) (true ∷ ms) = let rest = starts_few cs ms in omega arith
starts_few (c ∷ cs) (false ∷ ms) = let rest = starts_few cs ms in omega arith

abbrev pub start_names : List Start → List (List ℕ)
start_names starts = map (λ (s : Start). s.command) starts

abbrev pub names_of : List Command → List (List ℕ)
names_of commands = map (λ (c : Command). c.name) commands

name_in : (cs : List Command) (ms : List Bool) (n : List ℕ) → In n (start_names (starts_of cs ms)) → In n (names_of cs)
name_in [] ms n i = i
name_in (c ∷ cs) [] n i = absurd i
name_in (c ∷ cs) (true ∷ ms) n (inl e) = inl e
name_in (c ∷ cs) (true ∷ ms) n (inr i) = inr (name_in cs ms n i)
name_in (c ∷ cs) (false ∷ ms) n i = inr (name_in cs ms n i)

pub starts_distinct : (cs : List Command) (ms : List Bool) → IsDistinct (names_of cs) → IsDistinct (start_names (starts_of cs ms))
starts_distinct [] ms d = tt
starts_distinct (c ∷ cs) [] d = tt
starts_distinct (c ∷ cs) (true ∷ ms) d = ((λ i. d.0 (name_in cs ms c.name i)), starts_distinct cs ms d.1)
starts_distinct (c ∷ cs) (false ∷ ms) d = starts_distinct cs ms d.1

-- one marked command more
starts_suc : (cs : List Command) (ms : List Bool) (k : ℕ) (c : Command) → slice_get cs k ≡ Some c → slice_get ms k ≡ Some true
    → starts_of (take (suc k) cs) ms ≡ starts_of (take k cs) ms ++ start_of c ∷ []
starts_suc [] ms k c e m = cc e
starts_suc (d ∷ cs) [] k c e m = cc m
starts_suc (d ∷ cs) (true ∷ ms) zero c e m = (let same : d ≡ c = cc e in ap (λ (z : Command). start_of z ∷ []) same)
starts_suc (d ∷ cs) (false ∷ ms) zero c e m = cc m
starts_suc (d ∷ cs) (true ∷ ms) (suc k) c e m = ap (λ (ss : List Start). start_of d ∷ ss) (starts_suc cs ms k c e m)
starts_suc (d ∷ cs) (false ∷ ms) (suc k) c e m = starts_suc cs ms k c e m

pub starts_more : (cs : List Command) (ms : List Bool) (k : ℕ) (c : Command) → slice_get cs k ≡ Some c → slice_get ms k ≡ Some true
    → starts_of (take (k + 1) cs) ms ≡ starts_of (take k cs) ms ++ start_of c ∷ []
starts_more cs ms k c e m = rw add-one (starts_suc cs ms k c e m)

unmarked_suc : (cs : List Command) (ms : List Bool) (k : ℕ) → slice_get ms k ≡ Some false → starts_of (take (suc k) cs) ms ≡ starts_of (take k cs) ms
unmarked_suc [] ms zero m = refl
unmarked_suc [] ms (suc k) m = refl
unmarked_suc (d ∷ cs) [] k m = cc m
unmarked_suc (d ∷ cs) (true ∷ ms) zero m = cc m
unmarked_suc (d ∷ cs) (false ∷ ms) zero m = none cs ms
  where
    none : (xs : List Command) (bs : List Bool) → starts_of (take zero xs) bs ≡ []
    none [] bs = refl
    none (x ∷ xs) bs = refl
unmarked_suc (d ∷ cs) (true ∷ ms) (suc k) m = ap (λ (ss : List Start). start_of d ∷ ss) (unmarked_suc cs ms k m)
unmarked_suc (d ∷ cs) (false ∷ ms) (suc k) m = unmarked_suc cs ms k m

pub starts_skip : (cs : List Command) (ms : List Bool) (k : ℕ) → slice_get ms k ≡ Some false → starts_of (take (k + 1) cs) ms ≡ starts_of (take k cs) ms
starts_skip cs ms k m = rw add-one (unmarked_suc cs ms k m)

In-names-take : (n : ℕ) (cs : List Command) (x : List ℕ) → In x (names_of (take n cs)) → In x (names_of cs)
In-names-take zero [] x i = i
In-names-take zero (c ∷ cs) x i = absurd i
In-names-take (suc n) [] x i = i
In-names-take (suc n) (c ∷ cs) x (inl e) = inl e
In-names-take (suc n) (c ∷ cs) x (inr i) = inr (In-names-take n cs x i)

distinct_take : (n : ℕ) (cs : List Command) → IsDistinct (names_of cs) → IsDistinct (names_of (take n cs))
distinct_take zero [] d = tt
distinct_take zero (c ∷ cs) d = tt
distinct_take (suc n) [] d = tt
distinct_take (suc n) (c ∷ cs) d = ((λ i. d.0 (In-names-take n cs c.name i)), distinct_take n cs d.1)

-- the starts of the first commands are distinct, and each is of a needed command
pub are_starts : (commands : List Command) (wanted : List Input) (marks : List Bool) (n : ℕ) → AreOrderly commands → AreMarks commands wanted marks
    → AreStarts commands wanted (starts_of (take n commands) marks)
are_starts commands wanted marks n orderly are = record {
  distinct = starts_distinct (take n commands) marks (distinct_take n commands orderly.names);
  needed = λ s i.
      (let at = start_at (take n commands) marks s i in
      let whole = get-take commands n at.place at.command at.at in
      (at.command, (In-get commands at.place at.command whole.0, ((are.each at.place at.command whole.0).0 at.marked, at.is))));
}

-- the command at a place is not among the starts before it
pub not_started : (commands : List Command) (marks : List Bool) (place : ℕ) (c : Command) → AreOrderly commands → slice_get commands place ≡ Some c
    → In (start_of c) (starts_of (take place commands) marks) → ⊥
not_started commands marks place c orderly at_place i =
    let at = start_at (take place commands) marks (start_of c) i in
    let whole = get-take commands place at.place at.command at.at in
    let name : c.name ≡ at.command.name = ap (λ (s : Start). s.command) at.is in
    let first : slice_get (names_of commands) place ≡ Some at.command.name = get-map (λ (d : Command). d.name) commands place c at_place ∙ ap Some name in
    let second = get-map (λ (d : Command). d.name) commands at.place at.command whole.0 in
    let places : place ≡ at.place = one_place (names_of commands) place at.place at.command.name orderly.names first second in
    let less = whole.1 in
    absurd (omega arith)

-- a needed command before a place is among the starts
pub was_started : (commands : List Command) (wanted : List Input) (marks : List Bool) (place : ℕ) (c : Command) → AreMarks commands wanted marks
    → In c (take place commands) → IsNeeded commands wanted c → In (start_of c) (starts_of (take place commands) marks)
was_started commands wanted marks place c are i needed =
    let (k, at_k) = In-index c (take place commands) i in
    let whole = get-take commands place k c at_k in
    started_in (take place commands) marks k c at_k ((are.each k c whole.0).1 needed)

needed_in : {commands : List Command} {wanted : List Input} {c : Command} → IsNeeded commands wanted c → In c commands
needed_in (wants i named wanted output) = named
needed_in (needs user i named by input output) = named
needed_in (follows user i named by input output) = named

pub all_started : (commands : List Command) (wanted : List Input) (marks : List Bool) → AreMarks commands wanted marks → AllStarted commands wanted (starts_of commands marks)
all_started commands wanted marks are c needed =
    let (k, at_k) = In-index c commands (needed_in needed) in
    started_in commands marks k c at_k ((are.each k c at_k).1 needed)
