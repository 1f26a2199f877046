-- Sources and sinks in memory.
use Rattle.std.specs.Prelude.{ℕ, ◌+◌, ◌-◌, ◌^◌, min, List, [], ◌∷◌, Option, None, Some, unwrap_or, if◌then◌else◌}
use Rattle.std.specs.Str.{bytes_eq}
use Rattle.input_output.specs.declared.inputs.Input.{Input}
use Rattle.input_output.specs.Source.{InputContent, Lacking, Content}

-- the bytes given for a name: those given last stand first
abbrev pub given : List Input → List ℕ → Option (List ℕ)
given [] name = None
given (input ∷ inputs) name = if bytes_eq input.name name then Some input.bytes else given inputs name

-- the bytes of a name: none where it wasn't given
abbrev pub bytes_of : List Input → List ℕ → List ℕ
bytes_of inputs name = unwrap_or (given inputs name) []

-- a name that wasn't given is lacking
abbrev pub content_or_lacking : Option (List ℕ) → InputContent
content_or_lacking None = Lacking
content_or_lacking (Some bytes) = Content bytes

-- a name that wasn't given has no bytes
abbrev pub content_or_empty : Option (List ℕ) → InputContent
content_or_empty None = Content []
content_or_empty (Some bytes) = Content bytes

-- one more, up to the last value of a count
abbrev pub counted : ℕ → ℕ
counted n = min (n + 1) (2 ^ 64 - 1)

-- which calls fail, counted from 0; how many calls there were, and how many faults
pub record CallCounts : Type 0 where
  pub failing : List ℕ
  pub calls : ℕ
  pub faults : ℕ

-- the inputs of a source, and its calls
pub record SourceState : Type 0 where
  pub inputs : List Input
  pub counts : CallCounts

-- the content of a source that lacks the names that it wasn't given
abbrev pub content_in_memory : SourceState → List ℕ → InputContent
content_in_memory source name = content_or_lacking (given source.inputs name)

-- the content of a source that lacks no name
abbrev pub content_steadily : List Input → List ℕ → InputContent
content_steadily inputs name = content_or_empty (given inputs name)

-- what a sink holds, and its calls
pub record SinkState : Type 0 where
  pub bytes : List ℕ
  pub counts : CallCounts

-- what a sink holds, and how many bytes it can hold
pub record RoomState : Type 0 where
  pub bytes : List ℕ
  pub room : ℕ
