-- What a key was given in its run, and how the run ended.
use Rattle.std.specs.Prelude.{◌≡◌, ℕ, false, List, [], ◌∷◌, ◌++◌, Some}
use Rattle.build_keys.specs.declared.key.Key.{Key}
use Rattle.build_values.specs.declared.value.Value.{Value}
use Rattle.build_values.specs.declared.value.Value.TheVariants.{Failed}
use Rattle.outside.specs.declared.order.Order.{Order}
use Rattle.engine_rules.specs.declared.row.Dep.{Dep}
use Rattle.engine_rules.specs.declared.row.Row.{Row}
use Rattle.engine_rules.specs.declared.row.Settled.{Settled}
use Rattle.engine_rules.specs.declared.needs.Answer.{Answer}
use Rattle.engine_rules.specs.declared.needs.Outcome.{Outcome as End}
use Rattle.engine_rules.specs.declared.needs.Given.{Given}
use Rattle.engine_rules.specs.declared.needs.Given.TheVariants.{Answers, Info, Names, Outcome}
use Rattle.engine_rules.specs.declared.needs.Need.{Need}
use Rattle.engine_rules.specs.declared.needs.Need.TheVariants.{Ask, Stat, List as Names_of, Run, Done, Fail}
use Rattle.engine_rules.specs.declared.known.Known.{Known}
use Rattle.engine_rules.specs.Needs.{Meaning, IsEndOf, answer_keys, dep_keys, is_failed}
use Rattle.engine_rules.specs.Known.{row_in, info_in, names_in, order_in, outcome_in}

-- the key is settled with this value, and did not fail
pub record IsSettledWith (settled : List Settled) (key : Key) (value : Value) : Type 0 where
  pub row : Row
  pub is : row_in settled key ≡ Some row
  pub value_is : row.value ≡ value
  pub well : is_failed value ≡ false

-- each key is settled with the value of its answer
abbrev pub AreAnswers : List Settled → List Answer → Type 0
AreAnswers settled [] = Unit {0}
AreAnswers settled (a ∷ more) = IsSettledWith settled a.key a.value × AreAnswers settled more

-- the order with this ticket
abbrev pub numbered : ℕ → Order → Order
numbered n order = record order { ticket = n }

-- the order was started for the key under a ticket, and ended so
pub record HasEnded (known : Known) (key : Key) (order : Order) (outcome : End) : Type 0 where
  pub ticket : ℕ
  pub started : order_in known.starts key ≡ Some (numbered ticket order)
  pub ended : outcome_in known.ended ticket ≡ Some outcome
  pub fits : IsEndOf order outcome

-- what is given for a need is what is known: values of settled keys, what was told of a path, and how the order ended
abbrev pub IsAnswer : List Settled → Known → Key → Need → Given → Type 0
IsAnswer settled known key (Ask deps) (Answers answers) = (answer_keys answers ≡ dep_keys deps) × AreAnswers settled answers
IsAnswer settled known key (Stat path form) (Info info) = info_in known.told.infos path ≡ Some info
IsAnswer settled known key (Names_of path) (Names names) = names_in known.told.listings path ≡ Some names
IsAnswer settled known key (Run order) (Outcome outcome) = HasEnded known key order outcome
IsAnswer settled known key need given = ⊥

-- the trace of a key, the newest first: each thing was given for what was needed then
abbrev pub IsTrace : Meaning → Key → List Settled → Known → List Given → Type 0
IsTrace m k settled known [] = Unit {0}
IsTrace m k settled known (g ∷ gs) = IsAnswer settled known k (m.need k gs) g × IsTrace m k settled known gs

-- the dependencies that a need asks for
abbrev pub asked_deps : Need → List Dep
asked_deps (Ask deps) = deps
asked_deps need = []

-- all that was asked for, in order
abbrev pub trace_deps : Meaning → Key → List Given → List Dep
trace_deps m k [] = []
trace_deps m k (g ∷ gs) = trace_deps m k gs ++ asked_deps (m.need k gs)

-- the run ends with this value
abbrev pub IsEnd : Need → Value → Type 0
IsEnd (Done v) value = value ≡ v
IsEnd (Fail failure) value = value ≡ Failed
IsEnd need value = ⊥
