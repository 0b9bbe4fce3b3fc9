-- What a build has written on standard output.
use Rattle.std.specs.Prelude.{◌+◌, ◌++◌, ℕ, List, [], length, take}
use Rattle.outside.specs.View.{Grew, SinkView}
use Rattle.build_report.specs.declared.report.Start.{Start}
use Rattle.llbuild_cli.specs.declared.stop.Stop.{Stop}
use Rattle.llbuild_cli.specs.declared.stop.Stop.TheVariants as stops
use Rattle.build_report.specs.Text.{line_of, lines_of, summary_text}

-- what may be written next: nothing, the line of a start that is next, or, after the last start, the summary
pub data IsNextText (is_next : Start → Type 0) (is_last : Type 0) (starts : List Start) : List ℕ → Type 0 where
  nothing : IsNextText is_next is_last starts []
  line : (next : Start) → is_next next → IsNextText is_next is_last starts (line_of (length starts + 1) next)
  summary : is_last → IsNextText is_next is_last starts (summary_text (length starts))

-- the lines of these starts were written, and a beginning of what may be written next
pub record WrotePart (is_next : Start → Type 0) (is_last : Type 0) (old new : SinkView) (starts : List Start) : Type 0 where
  pub text : List ℕ
  pub next : IsNextText is_next is_last starts text
  pub count : ℕ
  pub grew : Grew old new (lines_of starts ++ take count text)

-- what was written where a build stopped so
abbrev pub WroteStopped : (Start → Type 0) → Type 0 → SinkView → SinkView → List Start → Stop → Type 0
WroteStopped is_next is_last old new starts (stops.CommandFailed command exit) = Grew old new (lines_of starts)
WroteStopped is_next is_last old new starts (stops.MissingInput asker node) = Grew old new (lines_of starts)
WroteStopped is_next is_last old new starts stops.DiskFault = Grew old new (lines_of starts)
WroteStopped is_next is_last old new starts stops.SinkFault = WrotePart is_next is_last old new starts
WroteStopped is_next is_last old new starts stops.NoMemory = WrotePart is_next is_last old new starts
