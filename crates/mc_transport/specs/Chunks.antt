-- Bytes that wait together for a line to take them.
use Rattle.std.specs.Prelude.{ℕ, List}
use Rattle.mc_transport.specs.declared.write_buffer.Chunk.{Chunk}
use Rattle.mc_transport.specs.declared.write_buffer.Chunk.TheVariants.{Shared, Text}

abbrev pub bytes_of : Chunk → List ℕ
bytes_of (Text text) = text.items
bytes_of (Shared block) = block
