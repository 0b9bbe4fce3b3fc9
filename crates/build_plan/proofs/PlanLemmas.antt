-- What is answered of a target.
use Rattle.std.proofs.Common.{◌≡◌, ◌⊎◌, ◌<◌, ◌+◌, ℕ, Bool, true, false, List, length, get_or, take, drop, refl, sym, ap, ◌∙◌, subst, inl, inr, arith}
use Rattle.std.specs.Prelude.{slice_get, Some}
use Rattle.std.specs.List.{list_all}
use Rattle.std.proofs.lemmas.Bool.{cases_lt}
use Rattle.std.proofs.lemmas.Option.{slice_get_within, slice_get-get_or}
use Rattle.file_info.proofs.Lists.{In-index, get-take, take-drop-get}
use Rattle.build_manifest.specs.declared.command.Command.{Command}
use Rattle.build_manifest.specs.declared.command.Input.{Input}
use Rattle.build_manifest.specs.declared.command.TargetEntry.{TargetEntry}
use Rattle.build_manifest.specs.Manifest.{ManifestLists}
use Rattle.build_meaning.specs.Need.{AreMarks}
use Rattle.build_plan.specs.Built.{AreEarlier, AreNeeded, IsAsker, IsBuilt, IsFirstLater, IsFirstOther, IsLaterMaker, IsPlain, target_asks, command_asks}
use Rattle.build_plan.specs.Plain.{is_file_input}
use Rattle.build_plan.specs.Reached.{IsMarked}
use Rattle.build_plan.specs.declared.plan.Unbuilt.{Unbuilt}
use Rattle.build_plan.specs.declared.plan.Unbuilt.TheVariants as unbuilts
use Rattle.build_plan.specs.Unbuilt.{AreBefore, AreNoneLate, IsFirstLate, IsFirstLaterAt, IsFirstMark, IsUnbuilt}
use Rattle.build_plan.proofs.PlainLemmas.{one_fails, is_input, inputs_are}

-- this place or an earlier one
here_or_before : (k place : ℕ) → k < place + 1 → (k < place) ⊎ (place ≡ k)
here_or_before k place h = elim (cases_lt k place) [ inl less ↦ inl less | inr more ↦ inr (omega arith) ]

-- one place more is passed
pub next_passed : (is : ℕ → Command → Type 0) (cs : List Command) (marks : List Bool) (place : ℕ) → AreBefore is cs marks place
    → ((c : Command) → slice_get cs place ≡ Some c → IsMarked marks place → is place c) → AreBefore is cs marks (place + 1)
next_passed is cs marks place before here k c h at e =
    elim (here_or_before k place h) [
      | inl less ↦ before k c less at e
      | inr same ↦ subst (λ n. is n c) same (here c (ap (slice_get cs) same ∙ at) (ap (slice_get marks) same ∙ e))
    ]

-- a mark that is read
pub is_marked : (marks : List Bool) (k : ℕ) (d : Bool) → k < length marks → get_or marks k d ≡ true → IsMarked marks k
is_marked marks k d h e = slice_get-get_or marks k d h ∙ ap Some e

pub not_marked : (marks : List Bool) (k : ℕ) (d : Bool) → k < length marks → get_or marks k d ≡ false → IsMarked marks k → ⊥
not_marked marks k d h e f = let is : Some (get_or marks k d) ≡ Some true = sym (slice_get-get_or marks k d h) ∙ f in cc (e, is)

-- a node of the target is no file
pub target_refused : (m : ManifestLists) (t : TargetEntry) → list_all is_file_input t.nodes ≡ false → IsAsker m t t.name
target_refused m t e =
    let (i, among, fails) = one_fails is_file_input t.nodes e in
    target_asks i among (λ f. let passes = is_input i f in cc (fails, passes))

-- a needed command that is the first of the marked ones is the first of all that are needed
first_of : (m : ManifestLists) (t : TargetEntry) (marks : List Bool) (is : ℕ → Command → Type 0) (place : ℕ) (c : Command)
    → AreMarks m.commands t.nodes marks → IsFirstMark is m.commands marks place → slice_get m.commands place ≡ Some c → IsFirstOther m t is c
first_of m t marks is place c are first at = record {
  place = place;
  at = at;
  needed = (are.each place c at).0 first.marked;
  other = first.other c at;
  before = λ k d h there need. first.before k d h there ((are.each k d there).1 need);
}

-- a needed command is the first that is not plain
pub command_refused : (m : ManifestLists) (t : TargetEntry) (marks : List Bool) (place : ℕ) (c : Command) → list_all is_file_input t.nodes ≡ true
    → AreMarks m.commands t.nodes marks → IsFirstMark (λ k. IsPlain) m.commands marks place → slice_get m.commands place ≡ Some c
    → IsAsker m t c.name
command_refused m t marks place c files are first at =
    command_asks (inputs_are t.nodes files) c (first_of m t marks (λ k. IsPlain) place c are first at)

-- all marked commands are such, and so are all that are needed
all_needed : (m : ManifestLists) (t : TargetEntry) (marks : List Bool) (is : ℕ → Command → Type 0) → AreMarks m.commands t.nodes marks
    → AreBefore is m.commands marks (length marks) → AreNeeded m t is
all_needed m t marks is are all k c at need =
    let within = slice_get_within m.commands k c at in
    let count = are.count in
    all k c (omega arith) at ((are.each k c at).1 need)

-- the first input that is made late, as the manifest writes it
first_written : (commands : List Command) (place : ℕ) (inputs : List Input) (at : ℕ) (i : Input) → IsFirstLaterAt commands place inputs at
    → slice_get inputs at ≡ Some i → IsFirstLater commands place inputs i.written
first_written commands place inputs at i first there = record {
  before = take at inputs;
  input = i;
  after = drop (at + 1) inputs;
  inputs_are = take-drop-get inputs at i there;
  earlier = λ j among. (let (k, is) = In-index j (take at inputs) among in
      let (same, less) = get-take inputs at k j is in first.earlier k j less same);
  later = first.later i there;
  written = refl;
}

-- a needed command is the first that reads what is made later
pub later_refused : (m : ManifestLists) (t : TargetEntry) (marks : List Bool) (found : ℕ × ℕ) (c : Command) (i : Input)
    → list_all is_file_input t.nodes ≡ true → AreMarks m.commands t.nodes marks
    → AreBefore (λ k. IsPlain) m.commands marks (length marks) → IsFirstLate m.commands marks found
    → slice_get m.commands found.0 ≡ Some c → slice_get c.inputs found.1 ≡ Some i → IsLaterMaker m t c.name i.written
unfolding first_of
later_refused m t marks found c i files are plain late at there = record {
  nodes = inputs_are t.nodes files;
  plain = all_needed m t marks (λ k. IsPlain) are plain;
  asker = c;
  first = first_of m t marks (λ k d. AreEarlier m.commands k d.inputs) found.0 c are late.first at;
  named = refl;
  input = first_written m.commands found.0 c.inputs found.1 i (late.input c at) there;
}

-- all that is needed is built
pub all_built : (m : ManifestLists) (t : TargetEntry) (marks : List Bool) → list_all is_file_input t.nodes ≡ true
    → AreMarks m.commands t.nodes marks → AreBefore (λ k. IsPlain) m.commands marks (length marks)
    → AreNoneLate m.commands marks (length marks) → IsBuilt m t
all_built m t marks files are plain none = record {
  nodes = inputs_are t.nodes files;
  commands = λ k c at need. record {
    plain = all_needed m t marks (λ j. IsPlain) are plain k c at need;
    earlier = all_needed m t marks (λ j d. AreEarlier m.commands j d.inputs) are none k c at need;
  };
}

-- the refusal that names who uses what is not built
pub asker_why : (m : ManifestLists) (t : TargetEntry) (why : Unbuilt) (name : List ℕ) → (why ≡ unbuilts.NoMemory) ⊎ (why ≡ unbuilts.Asker name)
    → IsAsker m t name → IsUnbuilt m t why
asker_why m t why name (inl none) who = subst (IsUnbuilt m t) (sym none) tt
asker_why m t why name (inr is) who = subst (IsUnbuilt m t) (sym is) who

-- the refusal that names who reads what is made later
pub later_why : (m : ManifestLists) (t : TargetEntry) (why : Unbuilt) (command node : List ℕ)
    → (why ≡ unbuilts.NoMemory) ⊎ (why ≡ unbuilts.Later command node) → IsLaterMaker m t command node → IsUnbuilt m t why
later_why m t why command node (inl none) which = subst (IsUnbuilt m t) (sym none) tt
later_why m t why command node (inr is) which = subst (IsUnbuilt m t) (sym is) which
