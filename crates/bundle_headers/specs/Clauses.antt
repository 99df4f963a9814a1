-- The texts of lists of clauses (OSGi Core 8, section 1.3.2 "General Syntax Definitions", and 3.2.4).
use Rattle.std.specs.Prelude.{◌≡◌, ℕ, ◌<◌, ◌==◌, ◌||◌, ◌⊎◌, Bool, false, not, IsTrue, List, [], ◌∷◌, ◌++◌, length, map, flat_map, if◌then◌else◌, Result, Ok, Err}
use Rattle.std.specs.List.{join_with_byte, list_all}
use Rattle.bundle_headers.specs.Blanks.{is_blank, without_blanks}
use Rattle.osgi_version.specs.Readings.{IsBadAt, IsRead}
use Rattle.bundle_headers.specs.declared.clauses.Clause.{Clause}
use Rattle.bundle_headers.specs.declared.clauses.Clauses.{Clauses}
use Rattle.bundle_headers.specs.declared.fault.HeaderFault.{HeaderFault}
use Rattle.bundle_headers.specs.declared.fault.HeaderFault.TheVariants.{BadClause, OutOfMemory}

-- a comma or a semicolon
abbrev pub ends_part : ℕ → Bool
ends_part b = (b == 44) || (b == 59)

-- none of `,` `;` `=` `:` `"`
abbrev pub is_token_byte : ℕ → Bool
is_token_byte b = not (ends_part b || (b == 61) || (b == 58) || (b == 34))

-- none of `,` `;` `"`
abbrev pub is_value_byte : ℕ → Bool
is_value_byte b = not (ends_part b || (b == 34))

-- a path, a name or a type, with the blanks round it
abbrev pub IsTokenText : List ℕ → Type 0
IsTokenText text = IsTrue (list_all is_token_byte text) × (is_blank text ≡ false)

abbrev pub IsToken : List ℕ → List ℕ → Type 0
IsToken text token = IsTokenText text × (token ≡ without_blanks text)

-- a byte between quotes: behind a backslash any, else neither a quote nor a backslash
abbrev pub is_quoted_byte : Bool × ℕ → Bool
is_quoted_byte byte = byte.0 || not ((byte.1 == 34) || (byte.1 == 92))

abbrev pub quoted_byte : Bool × ℕ → List ℕ
quoted_byte byte = if byte.0 then 92 ∷ byte.1 ∷ [] else byte.1 ∷ []

-- what stands between quotes, and what it says
abbrev pub IsQuoted : List ℕ → List ℕ → Type 0
IsQuoted text value = (bytes : List (Bool × ℕ)) × IsTrue (list_all is_quoted_byte bytes) × (text ≡ flat_map quoted_byte bytes) × (value ≡ map (λ byte. byte.1) bytes)

-- a quoted value with blanks round it
abbrev pub IsQuotedValue : List ℕ → List ℕ → Type 0
IsQuotedValue text value = (before : List ℕ) × (quote : List ℕ) × (behind : List ℕ) × IsTrue (is_blank before) × IsTrue (is_blank behind) × IsQuoted quote value
    × (text ≡ before ++ (34 ∷ (quote ++ (34 ∷ behind))))

abbrev pub IsPlainValue : List ℕ → List ℕ → Type 0
IsPlainValue text value = IsTrue (list_all is_value_byte text) × (is_blank text ≡ false) × (value ≡ without_blanks text)

abbrev pub IsValue : List ℕ → List ℕ → Type 0
IsValue text value = IsPlainValue text value ⊎ IsQuotedValue text value

-- a name, perhaps with a type behind a colon
abbrev pub IsTypedName : List ℕ → List ℕ → Type 0
IsTypedName text name = IsToken text name ⊎ ((before : List ℕ) × (type : List ℕ) × IsToken before name × IsTokenText type × (text ≡ before ++ (58 ∷ type)))

abbrev pub IsAttribute : List ℕ → List ℕ → List ℕ → Type 0
IsAttribute text name value = (before : List ℕ) × (behind : List ℕ) × IsTypedName before name × IsValue behind value × (text ≡ before ++ (61 ∷ behind))

abbrev pub IsDirective : List ℕ → List ℕ → List ℕ → Type 0
IsDirective text name value = (before : List ℕ) × (behind : List ℕ) × IsToken before name × IsValue behind value × (text ≡ before ++ (58 ∷ 61 ∷ behind))

abbrev pub ArePaths : List (List ℕ) → List (List ℕ) → Type 0
ArePaths [] [] = Unit {0}
ArePaths [] (path ∷ paths) = ⊥
ArePaths (text ∷ texts) [] = ⊥
ArePaths (text ∷ texts) (path ∷ paths) = IsToken text path × ArePaths texts paths

-- attributes and directives, in any order; each kind keeps its own
abbrev pub AreArguments : List (List ℕ) → List (List ℕ × List ℕ) → List (List ℕ × List ℕ) → Type 0
AreArguments [] attributes directives = (attributes ≡ []) × (directives ≡ [])
AreArguments (text ∷ texts) attributes directives = (name : List ℕ) × (value : List ℕ) × (rest : List (List ℕ × List ℕ))
    × ((IsAttribute text name value × (attributes ≡ (name, value) ∷ rest) × AreArguments texts rest directives)
    ⊎ (IsDirective text name value × (directives ≡ (name, value) ∷ rest) × AreArguments texts attributes rest))

-- one or more paths, and then attributes and directives, with semicolons between them
abbrev pub IsClause : List ℕ → Clause → Type 0
IsClause text clause = (paths : List (List ℕ)) × (arguments : List (List ℕ)) × (0 < length paths) × ArePaths paths clause.paths
    × AreArguments arguments clause.attributes clause.directives × (text ≡ join_with_byte 59 (paths ++ arguments))

abbrev pub AreClauses : List (List ℕ) → List Clause → Type 0
AreClauses [] [] = Unit {0}
AreClauses [] (clause ∷ clauses) = ⊥
AreClauses (text ∷ texts) [] = ⊥
AreClauses (text ∷ texts) (clause ∷ clauses) = IsClause text clause × AreClauses texts clauses

-- one or more clauses, with commas between them
abbrev pub SpellsClauses : List ℕ → Clauses → Type 0
SpellsClauses text clauses = (texts : List (List ℕ)) × (0 < length texts) × AreClauses texts clauses.list × (text ≡ join_with_byte 44 texts)

-- Ok gives the one list that the text spells, BadClause comes exactly where it spells none, with its place, and want of memory is free.
abbrev pub ReadsClauses : List ℕ → Result Clauses HeaderFault → Type 0
ReadsClauses text (Ok clauses) = IsRead SpellsClauses text clauses
ReadsClauses text (Err (BadClause at)) = IsBadAt SpellsClauses text at
ReadsClauses text (Err OutOfMemory) = Unit {0}
ReadsClauses text (Err _) = ⊥
