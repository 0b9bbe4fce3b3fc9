-- The justified settled list: each entry follows from the earlier ones.
use Rattle.std.specs.Prelude.{◌≡◌, ◌⊎◌, ℕ, false, List, [], ◌∷◌, Option, Some, None}
use Rattle.build_keys.specs.declared.key.Key.{Key}
use Rattle.build_values.specs.declared.value.Value.{Value}
use Rattle.engine_rules.specs.declared.row.Dep.{Dep}
use Rattle.engine_rules.specs.declared.row.How.{How}
use Rattle.engine_rules.specs.declared.row.How.TheVariants.{Ran, Kept}
use Rattle.engine_rules.specs.declared.row.Row.{Row}
use Rattle.engine_rules.specs.declared.row.Settled.{Settled}
use Rattle.engine_rules.specs.declared.needs.Given.{Given}
use Rattle.engine_rules.specs.declared.known.Known.{Known}
use Rattle.engine_rules.specs.Needs.{is_failed}
use Rattle.engine_rules.specs.Known.{row_in, row_of}
use Rattle.engine_rules.specs.Trace.{IsTrace, IsEnd, trace_deps}
use Rattle.engine_rules.specs.Scan.{Unchanged, scan}
use Rattle.engine_rules.specs.Reasons.{Plan, IsScanned, IsTrueReason}
use Rattle.engine_rules.specs.Requested.{IsRequested}

-- the stored result is kept: it is usable, the paths that it rests on stand, and no dependency changed
pub record IsKept (p : Plan) (known : Known) (settled : List Settled) (k : Key) (r : Row) : Type 0 where
  pub old : Row
  pub scanned : IsScanned p known k old
  pub unchanged : scan p.rules k settled old.built_at old.deps ≡ Unchanged
  pub same_value : r.value ≡ old.value
  pub same_deps : r.deps ≡ old.deps

-- the key ran: its value is the end of its run, and its dependencies are what it asked for
pub record HasRun (p : Plan) (known : Known) (settled : List Settled) (k : Key) (r : Row) : Type 0 where
  pub givens : List Given
  pub trace : IsTrace p.rules k settled known givens
  pub ends : IsEnd (p.rules.need k givens) r.value
  pub deps : r.deps ≡ trace_deps p.rules k givens

-- how the key came to its row
abbrev pub CameBy : Plan → Known → List Settled → Settled → How → Type 0
CameBy p known settled e Kept = IsKept p known settled e.key e.row
CameBy p known settled e (Ran reason) = IsTrueReason p known settled e.key reason × HasRun p known settled e.key e.row

-- when the value last changed: where the stored result has an equal one, as it says, and else now
abbrev pub IsComputedAt : ℕ → Option Row → Value → ℕ → Type 0
IsComputedAt i None value n = n ≡ i
IsComputedAt i (Some old) value n = ((old.value ≡ value) × (n ≡ old.computed_at)) ⊎ ((old.value ≡ value → ⊥) × (n ≡ i))

-- each dependency is settled, and none of them failed
abbrev pub AreSettled : List Settled → List Dep → Type 0
AreSettled settled [] = Unit {0}
AreSettled settled (d ∷ ds) = ((r : Row) × (row_in settled d.key ≡ Some r) × (is_failed r.value ≡ false)) × AreSettled settled ds

-- an entry follows from the earlier ones
pub record IsStep (p : Plan) (known : Known) (earlier : List Settled) (e : Settled) : Type 0 where
  pub new : row_in earlier e.key ≡ None
  pub requested : IsRequested p known earlier e.key
  pub signature : e.row.signature ≡ p.rules.signature e.key
  pub built : e.row.built_at ≡ p.iteration
  pub computed : IsComputedAt p.iteration (row_of p.table e.key) e.row.value e.row.computed_at
  pub settled : AreSettled earlier e.row.deps
  pub how : CameBy p known earlier e e.how

-- a settled list, the newest first, of which each entry follows from the earlier ones
abbrev pub IsJustified : Plan → Known → List Settled → Type 0
IsJustified p known [] = Unit {0}
IsJustified p known (e ∷ earlier) = IsStep p known earlier e × IsJustified p known earlier
