-- What the code keeps while it reads a filter, as a state of the machine, and what it is to do with a character.
use Rattle.std.specs.Prelude.{◌≡◌, ℕ, ◌<◌, ◌≤◌, ◌==◌, List, [], ◌∷◌, ◌++◌, map, reverse, length, Bool, true, false, Option, Some, None, is_some, option_map, Result, Ok, Err, string_bytes, nat_lt, encode_utf8, if◌then◌else◌}
use Rattle.std.specs.Bool.{OnTrue}
use Rattle.ldap_filter.specs.declared.mode.Frame.{Frame as Open}
use Rattle.ldap_filter.specs.declared.mode.Frame.TheVariants.{Every as OpenEvery, Any as OpenAny, Not as OpenNot}
use Rattle.ldap_filter.specs.declared.mode.Mode.{Mode as Kept}
use Rattle.ldap_filter.specs.declared.mode.Mode.TheVariants.{Wanted as KeptWanted, Opened as KeptOpened, Attribute as KeptAttribute, Operator as KeptOperator, Valued as KeptValued, Escaped as KeptEscaped, After as KeptAfter}
use Rattle.ldap_filter.specs.declared.mode.Stop.{Stop}
use Rattle.ldap_filter.specs.declared.mode.Stop.TheVariants.{Unexpected, TooDeep, OutOfMemory}
use Rattle.ldap_filter.specs.Nodes.{tree_of}
use Rattle.ldap_filter.specs.Machine.{Frame, In_every, In_any, In_not, Mode, Wanted, Opened, Attribute, Operator, Valued, Escaped, After, State, step}

abbrev pub frame_of : Open → Frame
frame_of (OpenEvery nodes) = In_every (map tree_of nodes.items)
frame_of (OpenAny nodes) = In_any (map tree_of nodes.items)
frame_of OpenNot = In_not

-- the open filters, innermost first; the code has the innermost last
abbrev pub stack_of : List Open → List Frame
stack_of frames = reverse (map frame_of frames)

abbrev pub mode_of : Kept → Mode
mode_of KeptWanted = Wanted
mode_of KeptOpened = Opened
mode_of (KeptAttribute name blanks) = Attribute (string_bytes name) (string_bytes blanks)
mode_of (KeptOperator comparison name) = Operator comparison (string_bytes name)
mode_of (KeptValued c) = Valued c.comparison (string_bytes c.name) c.parts.items (string_bytes c.part)
mode_of (KeptEscaped c) = Escaped c.comparison (string_bytes c.name) c.parts.items (string_bytes c.part)
mode_of (KeptAfter node) = After (tree_of node)

-- a bracket here opens a filter
abbrev pub opens : Mode → ℕ → Bool
opens Wanted c = c == 40
opens Opened c = false
opens (Attribute name blanks) c = false
opens (Operator comparison name) c = false
opens (Valued comparison name parts part) c = false
opens (Escaped comparison name parts part) c = false
opens (After tree) c = c == 40

-- what was done with a character, where the machine would go on to this state: a bracket that opens a filter is refused where 64 stand open
abbrev pub Took : Result Kept Stop → List Frame → Mode → ℕ → Option State → List Frame → Type 0
Took (Ok kept) old mode c next new = (next ≡ Some (new, mode_of kept)) × OnTrue (opens mode c) (length old < 64)
Took (Err Unexpected) old mode c next new = next ≡ None
Took (Err TooDeep) old mode c next new = (opens mode c ≡ true) × (64 ≤ length old) × (is_some next ≡ true)
Took (Err OutOfMemory) old mode c next new = Unit {0}

-- a character that is no ASCII goes into an attribute or a value
abbrev pub wide : Mode → List ℕ → Option Mode
wide Wanted text = None
wide Opened text = Some (Attribute text [])
wide (Attribute name blanks) text = Some (Attribute (name ++ (blanks ++ text)) [])
wide (Operator comparison name) text = None
wide (Valued comparison name parts part) text = Some (Valued comparison name parts (part ++ text))
wide (Escaped comparison name parts part) text = Some (Valued comparison name parts (part ++ text))
wide (After tree) text = None

-- a character is read
abbrev pub read_char : List Frame → Mode → ℕ → Option State
read_char frames mode c = if nat_lt c 128 then step frames mode c else option_map (λ m. (frames, m)) (wide mode (encode_utf8 c))

-- a star alone
abbrev pub is_star_alone : List (List ℕ) → List ℕ → Bool
is_star_alone ([] ∷ []) [] = true
is_star_alone _ _ = false
