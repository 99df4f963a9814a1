-- A chunked body (RFC 9112, section 7.1), and which bytes are one within the limits.
use Rattle.std.specs.Prelude.{◌≡◌, ℕ, ◌<◌, ◌≤◌, List, [], ◌∷◌, ◌++◌, length, take}
use Rattle.httparse.specs.Ascii.{crlf_bytes}
use Rattle.httparse.specs.Grammar.{ChunkLine, IsChunkLine, print_chunk_line, chunk_size, LineEnd, Field, ReadsSection}

-- a line with a size above 0, so many bytes and CRLF, and what follows
pub record BeginsChunk (buf chunk after : List ℕ) : Type 0 where
  pub line : ChunkLine
  pub valid : IsChunkLine line
  pub sized : chunk_size line ≡ length chunk
  pub some : 0 < length chunk
  pub is : buf ≡ print_chunk_line line ++ (chunk ++ (crlf_bytes ++ after))

-- a line with the size 0, and what follows
pub record BeginsLast (buf after : List ℕ) : Type 0 where
  pub line : ChunkLine
  pub valid : IsChunkLine line
  pub ends : chunk_size line ≡ 0
  pub is : buf ≡ print_chunk_line line ++ after

-- a section of fields, which may be empty, and its empty line; and what follows
abbrev pub HasSection : List ℕ → List ℕ → Type 0
HasSection buf rest = (fields : List Field) × (end : LineEnd) × ReadsSection buf fields end rest

-- the chunks, in order, the line of the size 0 and the trailers; and what follows
abbrev pub ReadsChunks : List (List ℕ) → List ℕ → List ℕ → Type 0
ReadsChunks [] buf rest = (after : List ℕ) × BeginsLast buf after × HasSection after rest
ReadsChunks (chunk ∷ chunks) buf rest = (after : List ℕ) × BeginsChunk buf chunk after × ReadsChunks chunks after rest

abbrev pub joined : List (List ℕ) → List ℕ
joined [] = []
joined (chunk ∷ chunks) = chunk ++ joined chunks

-- the bytes begin with a chunked body of this content, and rest follows
pub record IsBodyAt (buf content rest : List ℕ) : Type 0 where
  pub chunks : List (List ℕ)
  pub reads : ReadsChunks chunks buf rest
  pub is : content ≡ joined chunks

-- the bytes are a chunked body of this content, within the limits
pub record IsBody (bytes content : List ℕ) : Type 0 where
  pub reads : IsBodyAt bytes content []
  pub short : length bytes ≤ 1048576
  pub small : length content ≤ 65536

-- further bytes, or none, make a chunked body of the bytes, however long
pub record BeginsBody (bytes : List ℕ) : Type 0 where
  pub more : List ℕ
  pub content : List ℕ
  pub reads : IsBodyAt (bytes ++ more) content []

-- the bytes are less than a chunked body within the limits
pub record IsLessBody (bytes : List ℕ) : Type 0 where
  pub more : List ℕ
  pub some : 0 < length more
  pub content : List ℕ
  pub is : IsBody (bytes ++ more) content

-- the shortest front that is not less than such a body
pub record IsBodyFront (front bytes : List ℕ) : Type 0 where
  pub rest : List ℕ
  pub is : bytes ≡ front ++ rest
  pub ends : ¬ (IsLessBody front)
  pub before : (k : ℕ) → k < length front → IsLessBody (take k front)
