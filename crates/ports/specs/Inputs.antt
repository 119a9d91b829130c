-- The prepared bytes of connections.
use Rattle.std.specs.Prelude.{List, take, drop, map}
use Rattle.ports.specs.Terms.{Stream}
use Rattle.ports.specs.declared.input.Input.{Input}

-- the bytes of an input that were taken, and those that are left
abbrev pub input_stream : Input → Stream
input_stream input = record { taken = take input.at input.bytes.items; left = drop input.at input.bytes.items }

-- the streams of inputs
abbrev pub streams_of : List Input → List Stream
streams_of inputs = map input_stream inputs
