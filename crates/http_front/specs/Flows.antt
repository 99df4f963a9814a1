-- How the bytes of a connection flow between its reads and writes. Our own.
use Rattle.std.specs.Prelude.{◌≡◌, ℕ, ◌<◌, ◌≤◌, Bool, true, false, List, [], ◌++◌, drop, length, Some, None}
use Rattle.std.specs.declared.option.Option.{Option}
use Rattle.std.specs.Io.KnownBytes.{Appends, Consumes, IsAtEnd, Keeps}
use Rattle.http_front.specs.declared.connection.ConnectionEnd.{ConnectionEnd}
use Rattle.http_front.specs.declared.connection.ConnectionEnd.TheVariants.{EndOfInput, Closed, Truncated, ReadFault, WriteFault, NoMemory}
use Rattle.http_front.specs.declared.request_body.Coming.{Coming}
use Rattle.http_front.specs.declared.request_body.Coming.TheVariants.{NoMore, Cut, Asked, Refused}
use Rattle.http_front.specs.declared.wire.FillStep.{FillStep}
use Rattle.http_front.specs.declared.wire.FillStep.TheVariants.{Filled, AtEnd, ReadFailed, FillNoMemory}
use Rattle.http_front.specs.declared.wire.Wire.{Wire}

-- what the source has left and the sink was given, where they tell; what was read and not taken, and answered and not written
pub record Flow : Type 0 where
  pub left : Option (List ℕ)
  pub written : Option (List ℕ)
  pub pending : List ℕ
  pub texts : List ℕ

abbrev pub flow : Option (List ℕ) → Option (List ℕ) → Wire → Flow
flow left written wire = record { left = left; written = written; pending = wire.pending.items; texts = wire.texts.items }

-- what a read adds to the pending bytes
abbrev pub Fills : Option (List ℕ) → Option (List ℕ) → List ℕ → List ℕ → FillStep → Type 0
Fills left left' pending pending' Filled = (piece : List ℕ) × (0 < length piece) × Consumes left left' piece × (pending' ≡ pending ++ piece)
Fills left left' pending pending' AtEnd = IsAtEnd left × Keeps left left' × (pending' ≡ pending)
Fills left left' pending pending' ReadFailed = Keeps left left' × (pending' ≡ pending)
Fills left left' pending pending' FillNoMemory = (piece : List ℕ) × Consumes left left' piece

-- a piece was read behind the pending bytes
pub record HasRead (before after : Flow) : Type 0 where
  pub piece : List ℕ
  pub consumed : Consumes before.left after.left piece
  pub is : after.pending ≡ before.pending ++ piece

-- a front of the texts was written, and these are left
pub record HasSent (before after : Flow) (unsent : List ℕ) : Type 0 where
  pub sent : List ℕ
  pub appended : Appends before.written after.written sent
  pub is : before.texts ≡ sent ++ unsent

-- a front of the text was written
abbrev pub AppendsFront : Option (List ℕ) → Option (List ℕ) → List ℕ → Type 0
AppendsFront before after text = (sent : List ℕ) × (unsent : List ℕ) × Appends before after sent × (text ≡ sent ++ unsent)

-- nothing happened but that texts were written and a piece was read
pub record Waits (before after : Flow) : Type 0 where
  pub read : HasRead before after
  pub sent : HasSent before after after.texts

-- where the source tells what it has left, it is just these bytes
abbrev pub TellsAll : Option (List ℕ) → List ℕ → Type 0
TellsAll None bytes = Unit {0}
TellsAll (Some left) bytes = left ≡ bytes

-- all that was left was read, and all texts are written
pub record HasEnded (before after : Flow) : Type 0 where
  pub waits : Waits before after
  pub all : TellsAll before.left waits.read.piece
  pub none : after.texts ≡ []

-- there was a piece, or the input is at its end
abbrev pub IsMore : Bool → Flow → Flow → Type 0
IsMore true before after = Waits before after × (length before.pending < length after.pending)
IsMore false before after = HasEnded before after × (after.pending ≡ before.pending)

-- some bytes are pending, or the input is at its end
abbrev pub HasSome : Bool → Flow → Flow → Type 0
HasSome true before after = Waits before after × (0 < length after.pending)
HasSome false before after = HasEnded before after × (after.pending ≡ [])

-- so many bytes are behind this place, or the input is at its end
abbrev pub HasEnough : Bool → ℕ → ℕ → Flow → Flow → Type 0
HasEnough true at size before after = Waits before after × (size ≤ length (drop at after.pending))
HasEnough false at size before after = HasEnded before after × (length (drop at after.pending) < size)

-- why the connection ends while it waits: the source failed, when all texts were written and the pending bytes were such; the sink failed; memory was wanting
abbrev pub Stops : (List ℕ → Type 0) → ConnectionEnd → Flow → Flow → Type 0
Stops IsSuch ReadFault before after = Waits before after × (after.texts ≡ []) × IsSuch after.pending
Stops IsSuch WriteFault before after = HasRead before after × ((unsent : List ℕ) × HasSent before after unsent)
Stops IsSuch NoMemory before after = ((lost : List ℕ) × Consumes before.left after.left lost) × HasSent before after after.texts
Stops IsSuch EndOfInput before after = ⊥
Stops IsSuch Closed before after = ⊥
Stops IsSuch Truncated before after = ⊥

-- what only the end of the input can show comes there
abbrev pub EndsWith : Coming → Option (List ℕ) → List ℕ → List ℕ → Type 0
EndsWith NoMore left piece texts = TellsAll left piece × (texts ≡ [])
EndsWith Cut left piece texts = TellsAll left piece × (texts ≡ [])
EndsWith (Asked r) left piece texts = Unit {0}
EndsWith (Refused status) left piece texts = Unit {0}

-- the pending bytes and a piece behind them come to this, and what stands behind it is pending
pub record HasCome (IsSuch : List ℕ → Coming → List ℕ → Type 0) (coming : Coming) (before after : Flow) : Type 0 where
  pub piece : List ℕ
  pub consumed : Consumes before.left after.left piece
  pub comes : IsSuch (before.pending ++ piece) coming after.pending
  pub ended : EndsWith coming before.left piece after.texts
  pub sent : HasSent before after after.texts

-- the last texts were written, or the sink failed
abbrev pub Closes : Option (List ℕ) → Option (List ℕ) → List ℕ → ConnectionEnd → Type 0
Closes written written' text Closed = Appends written written' text
Closes written written' text WriteFault = AppendsFront written written' text
Closes written written' text _ = ⊥
