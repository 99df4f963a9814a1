-- What bytes lack to be a chunked body. Our own.
use Rattle.std.specs.Prelude.{◌≡◌, ℕ, ◌+◌, ◌-◌, ◌<◌, ◌≤◌, Bool, true, false, ◌&&◌, List, [], ◌∷◌, ◌++◌, length, drop, bytes_eq, Option, Some, None, if◌then◌else◌, ◌==◌, nat_lt, nat_le}
use Rattle.httparse.specs.Ascii.{crlf_bytes}
use Rattle.httparse.specs.Grammar.{ChunkLine, IsChunkLine, print_chunk_line, chunk_size}
use Rattle.http_wire.specs.ChunkedBody.{HasSection, IsBodyAt}
use Rattle.http_wire.specs.declared.chunk_needs.Needs.{Needs}
use Rattle.http_wire.specs.declared.chunk_needs.Needs.TheVariants.{Never, TooMuch, Least}

-- the bytes are a section of fields, and nothing follows
abbrev pub IsSection : List ℕ → Type 0
IsSection bytes = HasSection bytes []

-- so many bytes make a section of these, and no fewer do
pub record LacksOfSection (bytes : List ℕ) (count : ℕ) : Type 0 where
  pub more : List ℕ
  pub is : IsSection (bytes ++ more)
  pub count_is : length more ≡ count
  pub least : (other : List ℕ) → IsSection (bytes ++ other) → count ≤ length other

abbrev pub NeedsOfSection : List ℕ → Option ℕ → Type 0
NeedsOfSection bytes None = (more : List ℕ) → ¬ (IsSection (bytes ++ more))
NeedsOfSection bytes (Some count) = LacksOfSection bytes count

-- so many bytes make a whole of these with so much content; no fewer make one, and none has less content
pub record Lacks (IsWhole : List ℕ → List ℕ → Type 0) (bytes : List ℕ) (count size : ℕ) : Type 0 where
  pub more : List ℕ
  pub content : List ℕ
  pub is : IsWhole (bytes ++ more) content
  pub count_is : length more ≡ count
  pub size_is : length content ≡ size
  pub least : (other body : List ℕ) → IsWhole (bytes ++ other) body → (count ≤ length other) × (size ≤ length body)

-- some bytes make a whole of these, each with more content than the limit
pub record Overflows (IsWhole : List ℕ → List ℕ → Type 0) (bytes : List ℕ) : Type 0 where
  pub more : List ℕ
  pub content : List ℕ
  pub is : IsWhole (bytes ++ more) content
  pub large : (other body : List ℕ) → IsWhole (bytes ++ other) body → 65536 < length body

abbrev pub NeedsOf : (List ℕ → List ℕ → Type 0) → List ℕ → Needs → Type 0
NeedsOf IsWhole bytes Never = (more body : List ℕ) → ¬ (IsWhole (bytes ++ more) body)
NeedsOf IsWhole bytes TooMuch = Overflows IsWhole bytes
NeedsOf IsWhole bytes (Least count size) = Lacks IsWhole bytes count size × (size ≤ 65536)

abbrev pub IsWholeBody : List ℕ → List ℕ → Type 0
IsWholeBody bytes content = IsBodyAt bytes content []

-- the bytes are those of a chunk of this size, CRLF, and a body behind it
pub record IsChunkRest (size : ℕ) (bytes content : List ℕ) : Type 0 where
  pub chunk : List ℕ
  pub after : List ℕ
  pub left : List ℕ
  pub sized : length chunk ≡ size
  pub is : bytes ≡ chunk ++ (crlf_bytes ++ after)
  pub content_is : content ≡ chunk ++ left
  pub reads : IsBodyAt after left []

-- what is lacking, where so many bytes are and the content has that size
abbrev pub needs_of : ℕ → ℕ → Needs
needs_of count size = if nat_lt 65536 size then TooMuch else Least count size

-- behind that much content
abbrev pub needs_behind : ℕ → Needs → Needs
needs_behind before Never = Never
needs_behind before TooMuch = TooMuch
needs_behind before (Least count size) = needs_of count (before + size)

-- in the trailers behind that much content
abbrev pub needs_ended : ℕ → Option ℕ → Needs
needs_ended before None = Never
needs_ended before (Some count) = needs_of count before

-- in a chunk line that lacks so many bytes and gives that size: CRLF, `0`, CRLF and LF follow the chunk
abbrev pub needs_of_line : ℕ → ℕ → Needs
needs_of_line lacking size = if size == 0 then Least (lacking + 1) 0 else needs_of (lacking + size + 6) size

-- in a chunk of that size, of which these bytes are there
abbrev pub needs_of_chunk : List ℕ → ℕ → Needs
needs_of_chunk bytes size =
    if nat_le (length bytes) size then needs_of (size - length bytes + 6) size
    else (if bytes_eq (drop size bytes) (13 ∷ []) then needs_of 5 size else Never)

-- the last byte is a CR
abbrev pub ends_in_cr : List ℕ → Bool
ends_in_cr [] = false
ends_in_cr (b ∷ []) = b == 13
ends_in_cr (b ∷ c ∷ bytes) = ends_in_cr (c ∷ bytes)

-- the shortest end of a chunk line that is cut, which gives the least size
abbrev pub line_ending : List ℕ → List ℕ
line_ending [] = 48 ∷ 13 ∷ 10 ∷ []
line_ending (b ∷ bytes) = if ends_in_cr (b ∷ bytes) then 10 ∷ [] else 13 ∷ 10 ∷ []

-- a chunk line that is cut becomes this line of that size, by so many bytes
pub record IsCutLine (bytes : List ℕ) (lacking size : ℕ) : Type 0 where
  pub line : ChunkLine
  pub valid : IsChunkLine line
  pub is : bytes ++ line_ending bytes ≡ print_chunk_line line
  pub size_is : size ≡ chunk_size line
  pub lacking_is : lacking ≡ length (line_ending bytes)

-- some bytes, and no more than the limit leaves behind so many
abbrev pub leaves_room : Needs → ℕ → Bool
leaves_room Never size = false
leaves_room TooMuch size = false
leaves_room (Least count content) size = nat_lt 0 count && nat_le count (1048576 - size)

abbrev pub may_begin : Needs → Bool
may_begin Never = false
may_begin TooMuch = true
may_begin (Least count content) = true
