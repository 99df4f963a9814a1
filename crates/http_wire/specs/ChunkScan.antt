-- How far the chunks at the front can be read. Our own.
use Rattle.std.specs.Prelude.{◌≡◌, ℕ, List, ◌++◌}
use Rattle.http_wire.specs.ChunkedBody.{BeginsChunk, BeginsLast, HasSection, IsBodyAt}
use Rattle.http_wire.specs.declared.chunk_scan.Found.{Found}
use Rattle.http_wire.specs.declared.chunk_scan.Found.TheVariants.{Full, Last}
use Rattle.http_wire.specs.declared.chunk_scan.Scan.{Scan}
use Rattle.http_wire.specs.declared.chunk_scan.Scan.TheVariants.{Ended, Stuck}

abbrev pub IsFound : List ℕ → Found → Type 0
IsFound buf (Full chunk after) = BeginsChunk buf chunk.now after.now
IsFound buf (Last after) = BeginsLast buf after.now

-- behind chunks of this content the rest stands: whatever follows, each reads a body exactly where the other does
pub record IsBehind (bytes content rest : List ℕ) : Type 0 where
  pub there : (more body after : List ℕ) → IsBodyAt (rest ++ more) body after → IsBodyAt (bytes ++ more) (content ++ body) after
  pub back : (more body after : List ℕ) → IsBodyAt (bytes ++ more) body after
      → (left : List ℕ) × (body ≡ content ++ left) × IsBodyAt (rest ++ more) left after

-- behind all chunks the trailers stand
pub record IsEnded (bytes content rest : List ℕ) : Type 0 where
  pub there : (more after : List ℕ) → HasSection (rest ++ more) after → IsBodyAt (bytes ++ more) content after
  pub back : (more body after : List ℕ) → IsBodyAt (bytes ++ more) body after → (body ≡ content) × HasSection (rest ++ more) after

-- neither a chunk nor the line of the size 0 stands there
pub record IsStuck (rest : List ℕ) : Type 0 where
  pub no_chunk : (chunk after : List ℕ) → ¬ (BeginsChunk rest chunk after)
  pub no_last : (after : List ℕ) → ¬ (BeginsLast rest after)

abbrev pub IsScan : List ℕ → Scan → Type 0
IsScan bytes (Ended content rest) = IsEnded bytes content.items rest.now
IsScan bytes (Stuck content rest) = IsBehind bytes content.items rest.now × IsStuck rest.now
