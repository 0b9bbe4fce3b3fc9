-- What was written to a sink.
use Rattle.std.specs.Prelude.{◌⊎◌, ℕ, List, take}
use Rattle.outside.specs.View.{SinkView, SinkFailed, Grew}

-- told bytes grew by a beginning of the piece, maybe by nothing or by the whole
abbrev pub GrewByPart : SinkView → SinkView → List ℕ → Type 0
GrewByPart old new piece = (n : ℕ) × Grew old new (take n piece)

-- told bytes grew by the whole piece, or by a beginning of it where the sink failed
abbrev pub WroteUnlessFault : SinkView → SinkView → List ℕ → Type 0
WroteUnlessFault old new piece = Grew old new piece ⊎ (GrewByPart old new piece × SinkFailed old new)
