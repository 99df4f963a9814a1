-- Where in a chunked body bytes may end, and what completes it from there. Our own.
use Rattle.std.specs.Prelude.{◌≡◌, ℕ, ◌+◌, ◌<◌, ◌≤◌, ◌⊎◌, List, [], ◌∷◌, ◌++◌, length, Option}
use Rattle.std.specs.Char.{is_ascii_hexdigit}
use Rattle.std.specs.Str.Parse.{digits_value_after}
use Rattle.httparse.specs.Grammar.{AllPass, is_ows, is_token_byte, is_value_byte, is_extension_byte, print_extension, IsExtension, LineEnd, print_end}
use Rattle.http_wire.specs.ChunkedBody.{HasSection, IsBodyAt}
use Rattle.http_wire.specs.ChunkContinuation.{IsChunkRest}
use Rattle.http_wire.specs.declared.chunk_place.Place.{Place}
use Rattle.http_wire.specs.declared.chunk_place.Place.TheVariants.{Digits, Blanks, Extension, LineFeed, Chunk, ChunkEnd, ChunkFeed, Trailer, Name, Value, ValueFeed, LastFeed, Unknown}
use Rattle.http_wire.specs.declared.chunk_place.Reached.{Reached}

-- what follows a chunk line of this size: its chunk and the rest of the body, or the trailers
abbrev pub Follows : ℕ → List ℕ → List ℕ → Type 0
Follows size more content = ((size ≡ 0) × (content ≡ []) × HasSection more []) ⊎ ((0 < size) × IsChunkRest size more content)

-- further digits, of which there are 1 to 16 in all, and then the rest of the line and what follows it
pub record InDigits (count number : ℕ) (more content : List ℕ) : Type 0 where
  pub digits : List ℕ
  pub hex : AllPass is_ascii_hexdigit digits
  pub some : 0 < count + length digits
  pub few : count + length digits ≤ 16
  pub pad : List ℕ
  pub blank : AllPass is_ows pad
  pub extension : Option (List ℕ)
  pub valid : IsExtension extension
  pub after : List ℕ
  pub is : more ≡ digits ++ (pad ++ (print_extension extension ++ 13 ∷ 10 ∷ after))
  pub follows : Follows (digits_value_after 16 number digits) after content

-- further blanks, perhaps an extension, and CRLF
pub record InBlanks (size : ℕ) (more content : List ℕ) : Type 0 where
  pub pad : List ℕ
  pub blank : AllPass is_ows pad
  pub extension : Option (List ℕ)
  pub valid : IsExtension extension
  pub after : List ℕ
  pub is : more ≡ pad ++ (print_extension extension ++ 13 ∷ 10 ∷ after)
  pub follows : Follows size after content

-- more of an extension, and CRLF
pub record InExtension (size : ℕ) (more content : List ℕ) : Type 0 where
  pub shown : List ℕ
  pub clear : AllPass is_extension_byte shown
  pub after : List ℕ
  pub is : more ≡ shown ++ 13 ∷ 10 ∷ after
  pub follows : Follows size after content

-- the LF of a chunk line
pub record InFeed (size : ℕ) (more content : List ℕ) : Type 0 where
  pub after : List ℕ
  pub is : more ≡ 10 ∷ after
  pub follows : Follows size after content

-- more of a trailer's name, its value and the trailers behind it
pub record InName (more : List ℕ) : Type 0 where
  pub name : List ℕ
  pub tokens : AllPass is_token_byte name
  pub raw : List ℕ
  pub clear : AllPass is_value_byte raw
  pub end : LineEnd
  pub after : List ℕ
  pub is : more ≡ name ++ 58 ∷ (raw ++ (print_end end ++ after))
  pub section : HasSection after []

-- more of a trailer's value, and the trailers behind it
pub record InValue (more : List ℕ) : Type 0 where
  pub raw : List ℕ
  pub clear : AllPass is_value_byte raw
  pub end : LineEnd
  pub after : List ℕ
  pub is : more ≡ raw ++ (print_end end ++ after)
  pub section : HasSection after []

-- from this place these bytes complete a body, with this further content; from an unknown place nothing is known to
abbrev pub Completes : Place → List ℕ → List ℕ → Type 0
Completes (Digits count number) more content = InDigits count number more content
Completes (Blanks size) more content = InBlanks size more content
Completes (Extension size) more content = InExtension size more content
Completes (LineFeed size) more content = InFeed size more content
Completes (Chunk left) more content = IsChunkRest left more content
Completes ChunkEnd more content = (after : List ℕ) × (more ≡ 13 ∷ 10 ∷ after) × IsBodyAt after content []
Completes ChunkFeed more content = (after : List ℕ) × (more ≡ 10 ∷ after) × IsBodyAt after content []
Completes Trailer more content = (content ≡ []) × HasSection more []
Completes Name more content = (content ≡ []) × InName more
Completes Value more content = (content ≡ []) × InValue more
Completes ValueFeed more content = (content ≡ []) × ((after : List ℕ) × (more ≡ 10 ∷ after) × HasSection after [])
Completes LastFeed more content = (content ≡ []) × (more ≡ 10 ∷ [])
Completes Unknown more content = ⊥

-- the content that the next byte is of
abbrev pub gained : Place → ℕ → List ℕ
gained (Digits count number) b = []
gained (Blanks size) b = []
gained (Extension size) b = []
gained (LineFeed size) b = []
gained (Chunk left) b = b ∷ []
gained ChunkEnd b = []
gained ChunkFeed b = []
gained Trailer b = []
gained Name b = []
gained Value b = []
gained ValueFeed b = []
gained LastFeed b = []
gained Unknown b = []

-- behind this byte what completes a body from the next place completes it from this one
pub record Steps (place : Place) (b : ℕ) (next : Place) : Type 0 where
  pub goes : (more left : List ℕ) → Completes next more left → Completes place (b ∷ more) (gained place b ++ left)

-- the bytes end at this place, behind so much content
pub record EndsAt (bytes : List ℕ) (reached : Reached) : Type 0 where
  pub content : List ℕ
  pub size_is : length content ≡ reached.size
  pub leads : (more left : List ℕ) → Completes reached.place more left → IsBodyAt (bytes ++ more) (content ++ left) []

-- so many bytes may follow a chunk line of this size, and complete the body
pub record IsFollowed (size count : ℕ) : Type 0 where
  pub more : List ℕ
  pub left : List ℕ
  pub some : 0 < count
  pub count_is : length more ≡ count
  pub size_is : length left ≡ size
  pub follows : Follows size more left

-- so many bytes, one at least, complete a body from this place, with so much further content
pub record LacksFrom (place : Place) (count size : ℕ) : Type 0 where
  pub more : List ℕ
  pub left : List ℕ
  pub some : 0 < count
  pub count_is : length more ≡ count
  pub size_is : length left ≡ size
  pub completes : Completes place more left
