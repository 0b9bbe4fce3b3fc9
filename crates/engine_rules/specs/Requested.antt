-- The keys that a build asks for, and those that go on after starting was stopped.
use Rattle.std.specs.Prelude.{◌≡◌, List, ◌∷◌, ◌++◌, Some, None}
use Rattle.file_info.specs.Lists.{In}
use Rattle.build_keys.specs.declared.key.Key.{Key}
use Rattle.outside.specs.declared.order.Order.{Order}
use Rattle.engine_rules.specs.declared.row.Dep.{Dep}
use Rattle.engine_rules.specs.declared.row.Reason.{Reason}
use Rattle.engine_rules.specs.declared.row.Row.{Row}
use Rattle.engine_rules.specs.declared.row.Settled.{Settled}
use Rattle.engine_rules.specs.declared.needs.Given.{Given}
use Rattle.engine_rules.specs.declared.needs.Need.TheVariants.{Ask}
use Rattle.engine_rules.specs.declared.known.Known.{Known}
use Rattle.engine_rules.specs.Needs.{dep_keys}
use Rattle.engine_rules.specs.Known.{order_in}
use Rattle.engine_rules.specs.Trace.{IsTrace}
use Rattle.engine_rules.specs.Scan.{Unchanged, scan, moved_path}
use Rattle.engine_rules.specs.Reasons.{Plan, IsScanned, IsTrueReason}

-- a key requests another: the recorded one that its scan comes to, or one that it asks for in its run
pub data Requests (p : Plan) (known : Known) (settled : List Settled) : Key → Key → Type 0 where
  by_scan : {k : Key} (old : Row) (before : List Dep) (d : Dep) (after : List Dep) → IsScanned p known k old
      → old.deps ≡ before ++ d ∷ after → scan p.rules k settled old.built_at before ≡ Unchanged → moved_path p.rules k d ≡ None
      → Requests p known settled k d.key
  by_run : {k d : Key} (reason : Reason) (givens : List Given) (deps : List Dep) → IsTrueReason p known settled k reason
      → IsTrace p.rules k settled known givens → p.rules.need k givens ≡ Ask deps → In d (dep_keys deps) → Requests p known settled k d

-- the keys that are requested: the wanted ones, those that were settled before the engine began, and what these request
pub data IsRequested (p : Plan) (known : Known) (settled : List Settled) : Key → Type 0 where
  wants : {k : Key} → In k p.wanted → IsRequested p known settled k
  first : (e : Settled) → In e p.first → IsRequested p known settled e.key
  requested_by : {k d : Key} → IsRequested p known settled k → Requests p known settled k d → IsRequested p known settled d

-- the keys that go on after starting was stopped: those with an order, and what these request
pub data GoesOn (p : Plan) (known : Known) (settled : List Settled) : Key → Type 0 where
  started : {k : Key} (order : Order) → order_in known.starts k ≡ Some order → GoesOn p known settled k
  goes_by : {k d : Key} → GoesOn p known settled k → Requests p known settled k d → GoesOn p known settled d
