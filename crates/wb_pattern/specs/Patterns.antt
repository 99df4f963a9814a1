-- The patterns of servlets and how texts spell them (OSGi Compendium 8, section 140.4; Java Servlet 3.1, section 12.2).
use Rattle.std.specs.Prelude.{ℕ, ◌-◌, ◌==◌, ◌||◌, List, [], ◌∷◌, Bool, true, false, codes, drop, take, length, Option, Some, None, if◌then◌else◌}
use Rattle.std.specs.Str.{bytes_eq}
use Rattle.std.specs.List.{list_any}
use Rattle.wb_pattern.specs.declared.pattern.Pattern.{Pattern}
use Rattle.wb_pattern.specs.declared.pattern.Pattern.TheVariants.{Root, Fallback, Exact, Below, Ending}

-- the byte is in the text
abbrev pub has : List ℕ → ℕ → Bool
has text byte = list_any (λ b. b == byte) text

abbrev pub is_empty : List ℕ → Bool
is_empty [] = true
is_empty (b ∷ bs) = false

-- a pattern: the root of a context alone, all paths, a path, a path and all below it, or the paths with an extension
pub data Form : Type 0 where
  OnlyRoot : Form
  Every : Form
  Path : List ℕ → Form
  AtOrBelow : List ℕ → Form
  WithExtension : List ℕ → Form

-- the form that a pattern of the program has
abbrev pub form_of : Pattern → Form
form_of Root = OnlyRoot
form_of Fallback = Every
form_of (Exact path) = Path path.now
form_of (Below path) = AtOrBelow path.now
form_of (Ending extension) = WithExtension extension.now

-- the text ends so
abbrev pub ends_in : List ℕ → List ℕ → Bool
ends_in text end = bytes_eq (drop (length text - length end) text) end

-- the text without an end
abbrev pub without_end : List ℕ → List ℕ → List ℕ
without_end text end = take (length text - length end) text

abbrev pub unless_has_star : List ℕ → Form → Option Form
unless_has_star text form = if has text 42 then None else Some form

-- a text that begins with a slash and isn't `/`: a star may stand in it only in `/*` at its end
abbrev pub path_form : List ℕ → Option Form
path_form text =
    if ends_in text (codes "/*") then unless_has_star (without_end text (codes "/*")) (AtOrBelow (without_end text (codes "/*")))
    else unless_has_star text (Path text)

-- behind `*.` come one byte or more, of which none is a slash or a star
abbrev pub extension_form : List ℕ → Option Form
extension_form extension = if is_empty extension || has extension 47 then None else unless_has_star extension (WithExtension extension)

-- the pattern that a text spells, if it spells one
abbrev pub pattern_of : List ℕ → Option Form
pattern_of text =
    if is_empty text then Some OnlyRoot
    else (if bytes_eq text (codes "/") then Some Every
    else (if bytes_eq (take 1 text) (codes "/") then path_form text
    else (if bytes_eq (take 2 text) (codes "*.") then extension_form (drop 2 text) else None)))
