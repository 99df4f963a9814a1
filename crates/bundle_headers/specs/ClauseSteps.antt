-- The steps that the bytes of a list of clauses make.
use Rattle.std.specs.Prelude.{ℕ, ◌==◌, ◌&&◌, Bool, not, List, [], ◌∷◌, ◌++◌, length, Option, Some, None, option_map, if◌then◌else◌}
use Rattle.bundle_headers.specs.Blanks.{is_blank, without_blanks}
use Rattle.bundle_headers.specs.Clauses.{ends_part, is_token_byte}
use Rattle.bundle_headers.specs.declared.clause_reading.ClausesReading.{ClausesReading}
use Rattle.bundle_headers.specs.declared.clause_reading.Front.{Front}
use Rattle.bundle_headers.specs.declared.clause_reading.Kind.{Kind}
use Rattle.bundle_headers.specs.declared.clause_reading.Kind.TheVariants.{Attribute, Directive}
use Rattle.bundle_headers.specs.declared.clause_reading.Part.{Part}
use Rattle.bundle_headers.specs.declared.clause_reading.Part.TheVariants.{Open, Colon, Typed, Value, Quoted, Escaped, Behind}
use Rattle.bundle_headers.specs.declared.clauses.Clause.{Clause}
use Rattle.bundle_headers.specs.declared.clauses.Clauses.{Clauses}

abbrev pub empty_clause : Clause
empty_clause = record { paths = []; attributes = []; directives = [] }

abbrev pub reading : Front → Part → ClausesReading
reading front part = record { front = front; part = part }

abbrev pub clauses_start : ClausesReading
clauses_start = reading (record { whole = []; clause = empty_clause }) (Open [])

-- the bytes of the piece that is being read
abbrev pub buffer_of : Part → List ℕ
buffer_of (Open bytes) = bytes
buffer_of (Colon name) = []
buffer_of (Typed name bytes) = bytes
buffer_of (Value kind name bytes) = bytes
buffer_of (Quoted kind name bytes) = bytes
buffer_of (Escaped kind name bytes) = bytes
buffer_of (Behind kind name value) = []

abbrev pub has_arguments : Clause → Bool
has_arguments clause = not ((length clause.attributes == 0) && (length clause.directives == 0))

abbrev pub token : List ℕ → Option (List ℕ)
token bytes = if is_blank bytes then None else Some (without_blanks bytes)

abbrev pub add_path : Front → List ℕ → Front
add_path front path = record front { clause = record front.clause { paths = front.clause.paths ++ path ∷ [] } }

abbrev pub with_path : Front → List ℕ → Option Front
with_path front bytes = if has_arguments front.clause then None else option_map (add_path front) (token bytes)

abbrev pub with_argument : Front → Kind → List ℕ → List ℕ → Front
with_argument front Attribute name value = record front { clause = record front.clause { attributes = front.clause.attributes ++ (name, value) ∷ [] } }
with_argument front Directive name value = record front { clause = record front.clause { directives = front.clause.directives ++ (name, value) ∷ [] } }

abbrev pub name_in : Front → List ℕ → Option (List ℕ)
name_in front bytes = if length front.clause.paths == 0 then None else token bytes

-- behind the comma or the semicolon that ends a part
abbrev pub after_part : Front → ℕ → ClausesReading
after_part front b = if b == 44 then reading (record { whole = front.whole ++ front.clause ∷ []; clause = empty_clause }) (Open []) else reading front (Open [])

-- a byte that ends no part
abbrev pub open_other : Front → List ℕ → ℕ → Option ClausesReading
open_other front bytes b =
    if b == 61 then option_map (λ name. reading front (Value Attribute name [])) (name_in front bytes)
    else (if b == 58 then option_map (λ name. reading front (Colon name)) (name_in front bytes)
    else (if b == 34 then None else Some (reading front (Open (bytes ++ b ∷ [])))))

abbrev pub open_step : Front → List ℕ → ℕ → Option ClausesReading
open_step front bytes b = if ends_part b then option_map (λ next. after_part next b) (with_path front bytes) else open_other front bytes b

abbrev pub colon_step : Front → List ℕ → ℕ → Option ClausesReading
colon_step front name b = if b == 61 then Some (reading front (Value Directive name [])) else (if is_token_byte b then Some (reading front (Typed name (b ∷ []))) else None)

abbrev pub typed_step : Front → List ℕ → List ℕ → ℕ → Option ClausesReading
typed_step front name bytes b =
    if b == 61 then (if is_blank bytes then None else Some (reading front (Value Attribute name [])))
    else (if is_token_byte b then Some (reading front (Typed name (bytes ++ b ∷ []))) else None)

abbrev pub value_step : Front → Kind → List ℕ → List ℕ → ℕ → Option ClausesReading
value_step front kind name bytes b =
    if ends_part b then option_map (λ value. after_part (with_argument front kind name value) b) (token bytes)
    else (if b == 34 then (if is_blank bytes then Some (reading front (Quoted kind name [])) else None) else Some (reading front (Value kind name (bytes ++ b ∷ []))))

abbrev pub quoted_step : Front → Kind → List ℕ → List ℕ → ℕ → Option ClausesReading
quoted_step front kind name bytes b =
    if b == 34 then Some (reading front (Behind kind name bytes))
    else (if b == 92 then Some (reading front (Escaped kind name bytes)) else Some (reading front (Quoted kind name (bytes ++ b ∷ []))))

abbrev pub behind_step : Front → Kind → List ℕ → List ℕ → ℕ → Option ClausesReading
behind_step front kind name value b =
    if ends_part b then Some (after_part (with_argument front kind name value) b)
    else (if b == 32 then Some (reading front (Behind kind name value)) else None)

abbrev pub part_step : Front → Part → ℕ → Option ClausesReading
part_step front (Open bytes) b = open_step front bytes b
part_step front (Colon name) b = colon_step front name b
part_step front (Typed name bytes) b = typed_step front name bytes b
part_step front (Value kind name bytes) b = value_step front kind name bytes b
part_step front (Quoted kind name bytes) b = quoted_step front kind name bytes b
part_step front (Escaped kind name bytes) b = Some (reading front (Quoted kind name (bytes ++ b ∷ [])))
part_step front (Behind kind name value) b = behind_step front kind name value b

abbrev pub clauses_step : ClausesReading → ℕ → Option ClausesReading
clauses_step r b = part_step r.front r.part b

abbrev pub clauses_of : Front → Clauses
clauses_of front = record { list = front.whole ++ front.clause ∷ [] }

abbrev pub part_at_end : Front → Part → Option Clauses
part_at_end front (Open bytes) = option_map clauses_of (with_path front bytes)
part_at_end front (Value kind name bytes) = option_map (λ value. clauses_of (with_argument front kind name value)) (token bytes)
part_at_end front (Behind kind name value) = Some (clauses_of (with_argument front kind name value))
part_at_end front _ = None

abbrev pub clauses_at_end : ClausesReading → Option Clauses
clauses_at_end r = part_at_end r.front r.part
