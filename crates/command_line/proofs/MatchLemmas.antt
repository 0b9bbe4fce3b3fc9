-- What a command accepts.
use Rattle.std.proofs.Common.{◌≡◌, inl, inr, Bool, true, false, ◌&&◌, List, [], ◌∷◌, cond, Result, Ok, Err, refl, sym, ap, subst, ◌∙◌}
use Rattle.clap.specs.Words.{App, HasMatchesOf, Text, first_of, first_value, fault_of, found_of, is_simple, is_simple_and_free}
use Rattle.clap.specs.Kinds.{HasKind, IsAmong, Kinds}
use Rattle.clap.specs.Values.{kind_of}
use Rattle.clap.specs.declared.error.Error.{Error}
use Rattle.clap.specs.declared.parser.matches.ArgMatches.{ArgMatches}
use Rattle.clap.specs.declared.error.kind.ErrorKind.{ErrorKind}
use Rattle.clap.proofs.WalkLemmas.{first_value-rows}
use Rattle.command_line.specs.declared.job.UsageFault.{UsageFault}
use Rattle.command_line.specs.declared.job.UsageFault.TheVariants.{NoCommand, Words, BadNumber, BadPath, Exclusive, NotBuilt, NoMemory}
use Rattle.command_line.specs.CommandLine.{accepts, is_nothing, value_in}
use Rattle.std.specs.Result.{IsErrAnd}
use Rattle.command_line.specs.Fault.{Answers, Fails, Read, is_memory, refused_kind}
use Rattle.command_line.specs.Matches.{AnswersMatches, AreMatches}
use Rattle.command_line.specs.Job.{accepted, when_accepted}

first_of_both : (a b : Bool) → (a && b) ≡ true → a ≡ true
first_of_both true b e = refl
first_of_both false b e = e

-- the values that were matched
pub matched_values : (app : App) (words : List Text) (m : ArgMatches) → is_simple_and_free app ≡ true → HasMatchesOf app words m
    → (id : Text) → first_value (found_of m) id ≡ value_in app words id
matched_values app words m simple matches id =
    first_value-rows (found_of m) id ∙ ap (first_of id) (matches (first_of_both (is_simple app) _ simple)).0

some_kind : (kinds : Kinds) (k : ErrorKind) → IsAmong k kinds → is_nothing kinds ≡ false
some_kind [] k h = absurd h
some_kind (x ∷ xs) k h = refl

-- words that are refused, or that no memory was left for
pub refused_fails : (app : App) (words : List Text) (error : Error) → HasKind (fault_of app words) error → Fails (refused_kind (kind_of error)) (when_accepted app words)
refused_fails app words error (inl memory) = subst (λ (k : ErrorKind). Fails (refused_kind k) (when_accepted app words)) (sym memory) tt
refused_fails app words error (inr among) =
    go (is_memory (kind_of error)) (ap (λ (b : Bool). accepted b (Ok tt)) (some_kind (fault_of app words) (kind_of error) among))
  where
    go : (b : Bool) → when_accepted app words ≡ Err Words → Fails (cond b NoMemory Words) (when_accepted app words)
    go true e = tt
    go false e = e

-- the same of the fault that stands for it
pub refused_fault : (app : App) (words : List Text) (error : Error) (kind : ErrorKind) (fault : UsageFault) → kind ≡ kind_of error → fault ≡ refused_kind kind
    → HasKind (fault_of app words) error → Fails fault (when_accepted app words)
refused_fault app words error kind fault same is has =
    subst (λ (f : UsageFault). Fails f (when_accepted app words)) (sym (is ∙ ap refused_kind same)) (refused_fails app words error has)

-- words that are accepted
pub are_matches : (app : App) (words : List Text) (m : ArgMatches) → is_simple_and_free app ≡ true → fault_of app words ≡ [] → HasMatchesOf app words m
    → AreMatches app words m
are_matches app words m simple none matches = record {
  accepted = ap is_nothing none;
  values = matched_values app words m simple matches;
}

-- the same of a command that is known
pub known_matches : (app known : App) (words : List Text) (r : Result ArgMatches UsageFault) → app ≡ known → AnswersMatches app words r → AnswersMatches known words r
known_matches app known words r same answers = subst (λ (a : App). AnswersMatches a words r) same answers

-- words that are not accepted
pub unaccepted : {A : Type 0} (app : App) (words : List Text) (job : Read A) (fault : UsageFault) → Fails fault (when_accepted app words) → Fails fault (accepted (accepts app words) job)
unaccepted app words job fault fails = go (accepts app words) fault fails
  where
    go : (b : Bool) (f : UsageFault) → Fails f (accepted {A = Unit {0}} b (Ok tt)) → Fails f (accepted b job)
    go true NoCommand h = absurd cc
    go true Words h = absurd cc
    go true (BadNumber option) h = absurd cc
    go true (BadPath option) h = absurd cc
    go true (Exclusive first second) h = absurd cc
    go true NotBuilt h = absurd cc
    go true NoMemory h = tt
    go false NoCommand h = absurd cc
    go false Words h = refl
    go false (BadNumber option) h = absurd cc
    go false (BadPath option) h = absurd cc
    go false (Exclusive first second) h = absurd cc
    go false NotBuilt h = absurd cc
    go false NoMemory h = tt

-- the same of a function that hands the fault on
pub unaccepted_answers : {A : Type 0} (app : App) (words : List Text) (job : Read A) (r : Result A UsageFault) (fault : UsageFault)
    → Fails fault (when_accepted app words) → IsErrAnd r (λ f. f ≡ fault) → Answers r (accepted (accepts app words) job)
unaccepted_answers app words job (Ok x) fault fails is = absurd is
unaccepted_answers app words job (Err f) fault fails is = subst (λ (g : UsageFault). Fails g (accepted (accepts app words) job)) (sym is) (unaccepted app words job fault fails)
