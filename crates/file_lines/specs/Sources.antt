-- The source of lines that may name files. Our own.
use Rattle.std.specs.Prelude.{◌≡◌, ℕ, ◌-◌, ◌^◌, List, [], ◌∷◌, Bool, true, false, Option, Some, None, option_map}
use Rattle.std.specs.List.{slice_split}
use Rattle.std.specs.Io.KnownBytes.{prepend_known}
use Rattle.file_lines.specs.Ahead.{to_come}
use Rattle.file_lines.specs.Files.{Shelf}
use Rattle.file_lines.specs.HandedLines.{handed_behind, handed_on, is_line_feed, path_in}

-- A source over another one and files: the bytes that are ready to be given, those that were read ahead, whether a front
-- of their line was handed on already, whether the end of the other source was seen; how many bytes it can still give,
-- and how often it has failed.
pub record LineInput (In F : Type 0) : Type 0 where
  pub source : In
  pub files : F
  pub ready : List ℕ
  pub ahead : List ℕ
  pub is_within : Bool
  pub is_ended : Bool
  pub number : ℕ
  pub fault_count : ℕ

-- a source of lines over this one and these files, of which nothing was read
abbrev pub new_input : {In F : Type 0} → In → F → LineInput In F
new_input source files =
    record { source = source; files = files; ready = []; ahead = []; is_within = false; is_ended = false; number = 2 ^ 64 - 1; fault_count = 0 }

-- what a source hands on of bytes to come, where the files and those bytes are told
abbrev pub told_on : Option Shelf → Option (List ℕ) → Option (List ℕ)
told_on None left = None
told_on (Some shelf) left = option_map (handed_on shelf) left

-- what is left to hand on: what is ready, and then what is made of the bytes to come
abbrev pub left_to_hand : Option Shelf → List ℕ → Bool → Option (List ℕ) → Option (List ℕ)
left_to_hand None ready is_within coming = None
left_to_hand (Some shelf) ready is_within coming = prepend_known ready (option_map (handed_behind shelf is_within) coming)

-- the bytes to come of a source of lines, by what the other source has left
abbrev pub coming_in : {In F : Type 0} → (In → Option (List ℕ)) → LineInput In F → Option (List ℕ)
coming_in left input = to_come input.is_ended input.ahead (left input.source)

-- what a source of lines has left to hand on, by what the other source has left and the files tell
abbrev pub left_in : {In F : Type 0} → (In → Option (List ℕ)) → (F → Option Shelf) → LineInput In F → Option (List ℕ)
left_in left told input = left_to_hand (told input.files) input.ready input.is_within (coming_in left input)

-- the first of these lines names no file
abbrev pub FirstNamesNone : List (List ℕ) → Type 0
FirstNamesNone [] = Unit {0}
FirstNamesNone (part ∷ parts) = path_in part ≡ None

-- No file is to be read for the bytes that are given next: some are ready, or they go on with a line of which a front was
-- handed on, or the next line names none.
abbrev pub NeedsNoFile : List ℕ → Bool → Option (List ℕ) → Type 0
NeedsNoFile (b ∷ ready) is_within coming = Unit {0}
NeedsNoFile [] true coming = Unit {0}
NeedsNoFile [] false None = ⊥
NeedsNoFile [] false (Some bytes) = FirstNamesNone (slice_split is_line_feed bytes)
