-- What a report shows of paths.
use Rattle.std.specs.Prelude.{◌≡◌, ◌⊎◌, ℕ, List, map, slice_get, Some}
use Rattle.file_info.specs.Lists.{In}
use Rattle.file_info.specs.declared.info.Info.{Info}
use Rattle.build_meaning.specs.Fresh.{Sights}
use Rattle.build_report.specs.declared.report.Heard.{Heard}
use Rattle.build_report.specs.declared.report.Outcome.{Outcome}
use Rattle.build_report.specs.declared.report.Outcome.TheVariants.{Failed, Done}
use Rattle.build_report.specs.declared.report.StatSeen.{StatSeen}

-- the source paths that were asked for, with what stood there
abbrev pub sights_of : List StatSeen → Sights
sights_of stats = map (λ (s : StatSeen). (s.path, s.info)) stats

-- the source paths that were asked for
abbrev pub sources_of : List StatSeen → List (List ℕ)
sources_of stats = map (λ (s : StatSeen). s.path) stats

-- the outcome has this file information of the path, which is one of the outputs
abbrev pub GivesInfo : List (List ℕ) → Outcome → List ℕ → Info → Type 0
GivesInfo paths (Failed exit) p i = ⊥
GivesInfo paths (Done found outputs) p i = (k : ℕ) × ((slice_get paths k ≡ Some p) × (slice_get outputs k ≡ Some i))

-- an order ended, and its outcome has this file information of the path
abbrev pub WasHeard : List Heard → List ℕ → Info → Type 0
WasHeard heard p i = (h : Heard) × (In h heard × GivesInfo h.order.outputs h.outcome p i)

-- the lists have this file information of the path, as of a source or of an output
abbrev pub Shows : List StatSeen → List Heard → List ℕ → Info → Type 0
Shows stats heard p i = In (p, i) (sights_of stats) ⊎ WasHeard heard p i

-- no path is seen with file information of two values
abbrev pub IsSingle : (List ℕ → Info → Type 0) → Type 0
IsSingle seen = (p : List ℕ) (i j : Info) → seen p i → seen p j → i ≡ j
