-- What a build has noted so far.
use Rattle.std.specs.Prelude.{◌≡◌, ℕ, List, [], Option, Some}
use Rattle.file_info.specs.Lists.{IsDistinct}
use Rattle.file_info.specs.declared.info.Info.{Info}
use Rattle.build_report.specs.declared.report.Heard.{Heard}
use Rattle.build_report.specs.declared.report.Start.{Start}
use Rattle.build_report.specs.declared.report.StatSeen.{StatSeen}
use Rattle.llbuild_cli.specs.Sight.{Shows, IsSingle, sources_of}

-- the lists of a report, as far as they have come: starts, sources and ended orders
pub record Journal : Type 0 where
  pub starts : List Start
  pub stats : List StatSeen
  pub heard : List Heard

-- nothing was noted
abbrev pub unused : Journal
unused = record { starts = []; stats = []; heard = [] }

-- this file information was noted of the path, as of a source or of an output
abbrev pub Knows : Journal → List ℕ → Info → Type 0
Knows j p i = Shows j.stats j.heard p i

-- nothing was noted of the path
abbrev pub IsUnknown : Journal → List ℕ → Type 0
IsUnknown j p = (i : Info) → Knows j p i → ⊥

-- each source stands there once, and no path has file information of two values
pub record IsOnce (j : Journal) : Type 0 where
  pub single : IsSingle (Knows j)
  pub sources : IsDistinct (sources_of j.stats)

-- the look-up gives just what the lists show, and each source stands there once
pub record IsIndex (stats : List StatSeen) (heard : List Heard) (look : List ℕ → Option Info) : Type 0 where
  pub shown : (p : List ℕ) (i : Info) → look p ≡ Some i → Shows stats heard p i
  pub all : (p : List ℕ) (i : Info) → Shows stats heard p i → look p ≡ Some i
  pub sources : IsDistinct (sources_of stats)
