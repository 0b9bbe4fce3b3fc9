-- A finished command has what its tool allows and requires.
use Rattle.std.proofs.Common.{◌≡◌, ◌≢◌, ℕ, Bool, true, false, not, ◌||◌, List, [], cond, Option, None, Some, Ok, Err, refl, sym, subst}
use Rattle.std.specs.Prelude.{codes, ◌==◌}
use Rattle.std.proofs.lemmas.Bool.{eqb-true}
use Rattle.build_manifest.specs.Command.{IsProgram, RunsNothing, RunsProgram, RemovesNothing, RemovesStale, HasItsOwn, files_in}
use Rattle.build_manifest.specs.declared.command.Args.{Args}
use Rattle.build_manifest.specs.declared.command.Args.TheVariants.{Absent, Words, Line}
use Rattle.build_manifest.specs.declared.command.Command.{Command}
use Rattle.build_manifest.specs.declared.command.Tool.{Tool}
use Rattle.build_manifest.specs.declared.command.Tool.TheVariants.{Phony, Shell, Mkdir, Symlink, Archive, StaleFileRemoval}
use Rattle.build_manifest.specs.declared.draft.Draft.{Draft}
use Rattle.manifest_reader.specs.Commands.{asks_nothing, bad, missing, makes_one_file, finished}
use Rattle.manifest_values.specs.Refusal.{Given, given_if}
use Rattle.manifest_values.specs.Values.{has_item}
use Rattle.manifest_reader.proofs.GivenLemmas.{test_given}
use Rattle.manifest_reader.proofs.PutLemmas.{MayRun, IsSoFar}
use Rattle.manifest_reader.proofs.RowLemmas.{is_shell}
use Rattle.manifest_reader.proofs.ValueLemmas.{some_items}

-- a draft that is finished: nothing that its tool requires is missing, and nothing was changed
pub record IsFinished (d e : Draft) : Type 0 where
  pub whole : missing d.command d.command.tool ≡ None
  pub one_file : (not (makes_one_file d.command.tool) || files_in d.command.outputs == 1) ≡ true
  pub is : d ≡ e

abbrev finished_by : Draft → Option (List ℕ) → Given Draft
finished_by d o = elim o [
  | Some name ↦ Err (bad d.command name)
  | None ↦ given_if (not (makes_one_file d.command.tool) || files_in d.command.outputs == 1) (bad d.command (codes "outputs")) (Ok d)
]

-- what holds of a draft that is finished
pub finished_is : (d e : Draft) → finished d ≡ Ok e → IsFinished d e
unfolding finished
finished_is d e f = go (missing d.command d.command.tool) refl f
  where
    go : (o : Option (List ℕ)) → missing d.command d.command.tool ≡ o → finished_by d o ≡ Ok e → IsFinished d e
    go (Some name) h k = cc k
    go None h k =
        let (test, same) = test_given (not (makes_one_file d.command.tool) || files_in d.command.outputs == 1) _ (Ok d) e k in
        record { whole = h; one_file = test; is = cc same }

runs_nothing : (name : List ℕ) (t : Tool) (c : Command) → is_shell t ≡ false → IsSoFar name t c → RunsNothing c
runs_nothing name t c e h = record {
  args = h.no_args e;
  env = h.no_env e;
  inherit_env = h.inherits e;
  deps = h.no_deps e;
  signature = h.no_signature e;
}

removes_nothing : (name : List ℕ) (t : Tool) (c : Command) → asks_nothing t ≡ false → IsSoFar name t c → RemovesNothing c
removes_nothing name t c e h = record { expected = h.no_expected e; roots = h.no_roots e }

abbrev wanted : Args → Option (List ℕ)
wanted a = elim a [ Absent ↦ Some (codes "args") | Words words ↦ None | Line line ↦ None ]

program_there : (a : Args) → MayRun a → wanted a ≡ None → IsProgram a
program_there Absent h e = cc e
program_there (Words words) h e = h
program_there (Line line) h e = h

contents_there : (text : List ℕ) → cond (has_item text) None (Some (codes "contents")) ≡ None → text ≢ []
contents_there text e = some_items text (go (has_item text) e)
  where
    go : (b : Bool) → cond b None (Some (codes "contents")) ≡ None → b ≡ true
    go true h = refl
    go false h = cc h

one_file : (n : ℕ) → (n == 1) ≡ true → n ≡ 1
one_file n e = eqb-true n 1 e

-- what the attributes of its tool allow and require, and the defaults elsewhere
pub own_at : (name : List ℕ) (t : Tool) (c : Command) → IsSoFar name t c → missing c t ≡ None
    → (not (makes_one_file t) || files_in c.outputs == 1) ≡ true → HasItsOwn t c
own_at name Phony c h m o = (runs_nothing name Phony c refl h, h.no_contents refl, removes_nothing name Phony c refl h, h.no_file refl)
own_at name Shell c h m o =
    let runs : RunsProgram c = record { args = program_there c.args h.args m; env = h.env; deps = h.deps } in
    (runs, h.no_contents refl, removes_nothing name Shell c refl h)
own_at name Mkdir c h m o =
    (runs_nothing name Mkdir c refl h, h.no_contents refl, removes_nothing name Mkdir c refl h, one_file (files_in c.outputs) o)
own_at name Symlink c h m o =
    let one = one_file (files_in c.outputs) o in
    (runs_nothing name Symlink c refl h, (contents_there c.contents m, h.contents), removes_nothing name Symlink c refl h, one)
own_at name Archive c h m o =
    (runs_nothing name Archive c refl h, h.no_contents refl, removes_nothing name Archive c refl h, one_file (files_in c.outputs) o)
own_at name StaleFileRemoval c h m o =
    let removes : RemovesStale c = record {
      inputs = h.no_inputs refl;
      follow = h.no_follow refl;
      allow_missing = h.not_missing refl;
      always = h.not_always refl;
      expected = h.expected;
      roots = h.roots;
    } in
    (runs_nothing name StaleFileRemoval c refl h, h.no_contents refl, removes, h.no_file refl)

-- the same of a command that is finished
pub own_finished : (d e : Draft) (name : List ℕ) (t : Tool) → IsSoFar name t d.command → finished d ≡ Ok e → HasItsOwn d.command.tool d.command
own_finished d e name t h f =
    let done = finished_is d e f in
    let whole : missing d.command t ≡ None = subst (λ s. missing d.command s ≡ None) h.tool done.whole in
    let one : (not (makes_one_file t) || files_in d.command.outputs == 1) ≡ true =
    subst (λ s. (not (makes_one_file s) || files_in d.command.outputs == 1) ≡ true) h.tool done.one_file in
    subst (λ s. HasItsOwn s d.command) (sym h.tool) (own_at name t d.command h whole one)
