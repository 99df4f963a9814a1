-- How the bytes of an input go on.
use Rattle.std.specs.Prelude.{◌≡◌, ◌+◌, ◌<◌, ◌≤◌, ℕ, List, [], ◌∷◌, ◌++◌, length, take, drop, All, Bool, false, Option, Some, None, if◌then◌else◌}
use Rattle.std.specs.Io.KnownBytes.{Consumes, IsAtEnd, Keeps}
use Rattle.std.specs.Str.Lines.{strip_carriage_return}
use Rattle.fault_count.specs.Steps.{next_count}
use Rattle.script_shell.specs.declared.line_input.LineStep.{LineStep}
use Rattle.script_shell.specs.declared.line_input.LineStep.TheVariants.{Line as OfLine, TooLong, End, Failed, NoMemory}
use Rattle.script_shell.specs.declared.line_input.FillStep.{FillStep}
use Rattle.script_shell.specs.declared.line_input.FillStep.TheVariants.{Filled, AtEnd, ReadFailed, FillNoMemory}
use Rattle.script_shell.specs.Lines.{Line, is_line_feed, lines_of, longest_line}

-- just these bytes may be left, by what is told
abbrev pub Tells : Option (List ℕ) → List ℕ → Type 0
Tells None bytes = Unit {0}
Tells (Some left) bytes = left ≡ bytes

-- what is told to come: nothing once the end was seen
abbrev pub not_yet_read : Bool → Option (List ℕ) → Option (List ℕ)
not_yet_read ended left = if ended then Some [] else left

-- pending bytes and those behind them are the same bytes as before
abbrev pub SameBytes : Option (List ℕ) → Option (List ℕ) → List ℕ → List ℕ → Type 0
SameBytes left left' pending pending' = (more' : List ℕ) → Tells left' more' → (more : List ℕ) × Tells left more × (pending ++ more ≡ pending' ++ more')

-- a piece was read, and stands behind the pending bytes
abbrev pub HasRead : Option (List ℕ) → Option (List ℕ) → List ℕ → List ℕ → Type 0
HasRead left left' pending pending' = (piece : List ℕ) × Consumes left left' piece × (pending' ≡ pending ++ piece)

abbrev pub NoLineFeed : List ℕ → Type 0
NoLineFeed bytes = All (λ b. is_line_feed b ≡ false) bytes

-- the place of the first line feed, if there is one
abbrev pub FirstLineFeed : List ℕ → Option ℕ → Type 0
FirstLineFeed bytes None = NoLineFeed bytes
FirstLineFeed bytes (Some at) = (at < length bytes) × NoLineFeed (take at bytes) × (bytes ≡ take at bytes ++ 10 ∷ drop (at + 1) bytes)

-- what a read adds to the pending bytes
abbrev pub Fills : Option (List ℕ) → Option (List ℕ) → ℕ → ℕ → List ℕ → List ℕ → FillStep → Type 0
Fills left left' number number' pending pending' Filled = HasRead left left' pending pending' × (number' < number) × (number' + length pending' ≤ number + length pending)
Fills left left' number number' pending pending' AtEnd = IsAtEnd left × (pending' ≡ pending) × (number' ≤ number)
Fills left left' number number' pending pending' ReadFailed = Keeps left left' × (pending' ≡ pending)
Fills left left' number number' pending pending' FillNoMemory = Unit {0}

-- the count of the source's faults after it
abbrev pub faults_after_fill : ℕ → FillStep → ℕ
faults_after_fill count ReadFailed = next_count count
faults_after_fill count _ = count

-- the next line of the pending bytes and those behind them, where it isn't too long
abbrev pub NextLine : Option (List ℕ) → Option (List ℕ) → List ℕ → List ℕ → LineStep → Type 0
NextLine left left' pending pending' (OfLine text) =
    (size : ℕ) × (size ≤ longest_line) × ((more' : List ℕ) → Tells left' more' → (more : List ℕ) × Tells left more × (lines_of (pending ++ more) ≡ record { text = text; size = size } ∷ lines_of (pending' ++ more')))
NextLine left left' pending pending' TooLong =
    (more : List ℕ) × (line : Line) × (lines : List Line) × Tells left more × (longest_line < line.size) × (lines_of (pending ++ more) ≡ line ∷ lines)
NextLine left left' pending pending' End = (more : List ℕ) × Tells left more × (lines_of (pending ++ more) ≡ [])
NextLine left left' pending pending' Failed = Unit {0}
NextLine left left' pending pending' NoMemory = Unit {0}

-- What was read for the next line, where the end of the input wasn't seen: it is the first line whatever comes behind. At a failure the pending bytes are no
-- whole line, and aren't too long for one.
abbrev pub LineRead : Option (List ℕ) → Option (List ℕ) → List ℕ → List ℕ → LineStep → Type 0
LineRead left left' pending pending' (OfLine text) =
    (piece : List ℕ) × (size : ℕ) × Consumes left left' piece × (size ≤ longest_line) × ((more : List ℕ) → lines_of ((pending ++ piece) ++ more) ≡ record { text = text; size = size } ∷ lines_of (pending' ++ more))
LineRead left left' pending pending' Failed = HasRead left left' pending pending' × NoLineFeed pending' × (length pending' ≤ longest_line)
LineRead left left' pending pending' _ = Unit {0}

-- the count of the source's faults after it
abbrev pub faults_after_line : ℕ → LineStep → ℕ
faults_after_line count Failed = next_count count
faults_after_line count _ = count

-- a line took at least a byte away
abbrev pub IsShorter : LineStep → ℕ → ℕ → Type 0
IsShorter (OfLine text) before after = after < before
IsShorter TooLong before after = Unit {0}
IsShorter End before after = Unit {0}
IsShorter Failed before after = Unit {0}
IsShorter NoMemory before after = Unit {0}

-- what is pending at the end
abbrev pub IsLastLine : List ℕ → List ℕ → LineStep → Type 0
IsLastLine pending pending' (OfLine text) = (0 < length pending) × (text ≡ pending) × (pending' ≡ [])
IsLastLine pending pending' End = pending ≡ []
IsLastLine pending pending' TooLong = ⊥
IsLastLine pending pending' Failed = ⊥
IsLastLine pending pending' NoMemory = ⊥

-- what taking this line with these bytes behind it gives
abbrev pub TakesLine : List ℕ → List ℕ → List ℕ → LineStep → Type 0
TakesLine line rest pending' (OfLine text) = (length line ≤ longest_line) × (text ≡ strip_carriage_return line) × (pending' ≡ rest)
TakesLine line rest pending' TooLong = longest_line < length line
TakesLine line rest pending' End = ⊥
TakesLine line rest pending' Failed = ⊥
TakesLine line rest pending' NoMemory = Unit {0}
