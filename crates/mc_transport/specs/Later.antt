-- What waits for a line to take it.
use Rattle.std.specs.Prelude.{ℕ, zero, suc, ◌≡◌, ◌+◌, ◌<◌, vec_capacity, vec_len, List, [], ◌∷◌, ◌++◌, drop, length}
use Rattle.std.specs.List.{flat_map}
use Rattle.mc_transport.specs.declared.write_buffer.Chunk.{Chunk}
use Rattle.mc_transport.specs.declared.write_buffer.WriteBuffer.{WriteBuffer}
use Rattle.mc_transport.specs.Chunks.{bytes_of}

-- what is behind the front, and then the tail
abbrev pub behind : WriteBuffer → List ℕ
behind unwritten = flat_map bytes_of unwritten.later.items ++ unwritten.tail.items

-- what is left of the front, then what is behind it, and then the tail
abbrev pub text_in : WriteBuffer → List ℕ
text_in unwritten = drop unwritten.sent (bytes_of unwritten.front) ++ behind unwritten

-- Nothing waits before the tail.
abbrev pub IsAtTail : WriteBuffer → Type 0
IsAtTail unwritten = (drop unwritten.sent (bytes_of unwritten.front) ≡ []) × (unwritten.later.items ≡ [])

-- Nothing waits.
abbrev pub IsAllWritten : WriteBuffer → Type 0
IsAllWritten unwritten = IsAtTail unwritten × (unwritten.tail.items ≡ [])

-- the piece at this place among the chunks and the tail behind them; nothing behind that
abbrev pub piece_behind : List Chunk → List ℕ → ℕ → List ℕ
piece_behind [] tail zero = tail
piece_behind [] tail (suc place) = []
piece_behind (chunk ∷ chunks) tail zero = bytes_of chunk
piece_behind (chunk ∷ chunks) tail (suc place) = piece_behind chunks tail place

-- how much is behind the front: the chunks, each as one, and the bytes of the tail
abbrev pub ahead : WriteBuffer → ℕ
ahead unwritten = length unwritten.later.items + length unwritten.tail.items

-- There is no room for a text of this length, unless memory is got for it.
abbrev pub LacksRoom : ℕ → WriteBuffer → Type 0
LacksRoom count unwritten = vec_capacity unwritten.tail < vec_len unwritten.tail + count
