-- The headers of a manifest (the JAR file specification, "JAR manifest"; OSGi Core 8, section 3.2.1).
use Rattle.std.specs.Prelude.{◌≡◌, ℕ, ◌+◌, ◌-◌, ◌==◌, ◌&&◌, ◌||◌, nat_le, nat_lt, Bool, true, false, not, List, [], ◌∷◌, ◌++◌, map, take, drop, Option, Some, None, option_map, find, Result, Ok, Err, if◌then◌else◌}
use Rattle.std.specs.Char.{is_ascii_alphanumeric, to_ascii_lowercase}
use Rattle.std.specs.List.{list_any}
use Rattle.std.specs.Str.{bytes_eq, is_utf8}
use Rattle.std.specs.Str.Lossy.{utf8_valid_len}
use Rattle.bundle_headers.specs.Blanks.{without_blanks}
use Rattle.bundle_headers.specs.Folding.{joined, unfold_lines}
use Rattle.bundle_headers.specs.Lines.{section}
use Rattle.bundle_headers.specs.declared.fault.HeaderFault.{HeaderFault}
use Rattle.bundle_headers.specs.declared.fault.HeaderFault.TheVariants.{BadHeader, NotUtf8, DuplicateHeader, OutOfMemory}
use Rattle.bundle_headers.specs.declared.folding.Folded.{Folded}
use Rattle.bundle_headers.specs.declared.line.Line.{Line}

-- a header's name and its value
abbrev pub Header : Type 0
Header = List ℕ × List ℕ

-- a letter, a digit, `-` or `_`
abbrev pub is_name_byte : ℕ → Bool
is_name_byte b = is_ascii_alphanumeric b || (b == 45) || (b == 95)

-- how many bytes the name takes with which these begin
abbrev pub name_length : List ℕ → ℕ
name_length [] = 0
name_length (b ∷ bs) = if is_name_byte b then name_length bs + 1 else 0

-- a colon and a blank
abbrev pub starts_value : List ℕ → Bool
starts_value [] = false
starts_value (a ∷ []) = false
starts_value (a ∷ b ∷ bs) = (a == 58) && (b == 32)

-- a name of 1 to 70 bytes, a colon and a blank
abbrev pub is_begun : List ℕ → Bool
is_begun text = nat_le 1 (name_length text) && nat_le (name_length text) 70 && starts_value (drop (name_length text) text)

abbrev pub name_of : List ℕ → List ℕ
name_of text = take (name_length text) text

abbrev pub value_of : List ℕ → List ℕ
value_of text = without_blanks (drop (name_length text + 2) text)

-- the same name, without ASCII case
abbrev pub same_name : List ℕ → List ℕ → Bool
same_name a b = bytes_eq (map to_ascii_lowercase a) (map to_ascii_lowercase b)

abbrev pub has_name : List Header → List ℕ → Bool
has_name headers name = list_any (λ h. same_name h.0 name) headers

-- the line and the place of a byte of joined lines
abbrev pub place_in : List Line → ℕ → ℕ × ℕ
place_in [] n = (0, 0)
place_in (line ∷ lines) n = if nat_lt n (line.end - line.start) then (line.number, line.start + n) else place_in lines (n - (line.end - line.start))

-- where the first byte stands that belongs to no character
abbrev pub bad_place : List ℕ → Folded → ℕ × ℕ
bad_place bytes folded = place_in (folded.first ∷ folded.more) (utf8_valid_len (joined bytes folded))

-- the fault of a header that begins rightly, the first by line: it is no text, or it is there already
abbrev pub later_fault : Bool → Bool → ℕ → ℕ × ℕ → Option HeaderFault
later_fault true true number place = Some (DuplicateHeader number)
later_fault true false number place = None
later_fault false true number place = if nat_lt number place.0 then Some (DuplicateHeader number) else Some (NotUtf8 place.1)
later_fault false false number place = Some (NotUtf8 place.1)

abbrev pub unless_fault : Option HeaderFault → Header → Result Header HeaderFault
unless_fault None header = Ok header
unless_fault (Some fault) header = Err fault

-- the header of these lines behind those headers, or its first fault
abbrev pub header_of : List ℕ → List Header → Folded → Result Header HeaderFault
header_of bytes headers folded =
    if folded.first.continues || not (is_begun (joined bytes folded)) then Err (BadHeader folded.first.number)
    else unless_fault (later_fault (is_utf8 (joined bytes folded)) (has_name headers (name_of (joined bytes folded))) folded.first.number (bad_place bytes folded))
    (name_of (joined bytes folded), value_of (joined bytes folded))

abbrev pub result_and_then : {A B : Type 0} → (A → Result B HeaderFault) → Result A HeaderFault → Result B HeaderFault
result_and_then f (Ok x) = f x
result_and_then f (Err fault) = Err fault

-- the headers of these lines behind those headers, or the first fault
abbrev pub headers_after : List ℕ → List Header → List Folded → Result (List Header) HeaderFault
headers_after bytes headers [] = Ok headers
headers_after bytes headers (folded ∷ rest) = result_and_then (λ header. headers_after bytes (headers ++ header ∷ []) rest) (header_of bytes headers folded)

-- the headers of a manifest in the order of the text, or the first fault by line
abbrev pub manifest_of : List ℕ → Result (List Header) HeaderFault
manifest_of bytes = headers_after bytes [] (unfold_lines (section bytes))

-- the value of the header with this name, without ASCII case
abbrev pub header_value : List Header → List ℕ → Option (List ℕ)
header_value headers name = option_map (λ h. h.1) (find (λ h. same_name h.0 name) headers)

-- Ok and each fault are what the text gives, and want of memory is free.
abbrev pub Gives : {X : Type 0} → Result X HeaderFault → Result X HeaderFault → Type 0
Gives (Ok x) meaning = meaning ≡ Ok x
Gives (Err OutOfMemory) meaning = Unit {0}
Gives (Err fault) meaning = meaning ≡ Err fault
