-- What is spelled as a list of clauses is read.
use Rattle.std.proofs.Common.{◌≡◌, ℕ, ◌<◌, ◌||◌, List, [], ◌∷◌, ◌++◌, length, map, flat_map, Bool, true, false, not, eqb, eqb-true, Some, option_map, option_and_then, refl, sym, ap, ◌∙◌, arith, subst, append_assoc, inl, inr}
use Rattle.std.specs.List.{join_with_byte, list_all}
use Rattle.std.proofs.lemmas.Bool.{and_parts, ne_eqb}
use Rattle.std.proofs.lemmas.List.{append-nil}
use Rattle.osgi_version.proofs.Readers.{reads, run_on}
use Rattle.osgi_version.specs.Readings.{run}
use Rattle.bundle_headers.specs.Blanks.{is_blank}
use Rattle.bundle_headers.specs.ClauseSteps.{add_path, after_part, clauses_at_end, clauses_of, clauses_start, clauses_step, empty_clause, has_arguments, name_in, reading, with_argument, with_path}
use Rattle.bundle_headers.specs.Clauses.{AreArguments, AreClauses, ArePaths, IsAttribute, IsClause, IsDirective, IsToken, IsTokenText, IsValue, SpellsClauses, ends_part, is_quoted_byte, is_token_byte, is_value_byte, quoted_byte}
use Rattle.bundle_headers.specs.declared.clause_reading.ClausesReading.{ClausesReading}
use Rattle.bundle_headers.specs.declared.clause_reading.Front.{Front}
use Rattle.bundle_headers.specs.declared.clause_reading.Kind.{Kind}
use Rattle.bundle_headers.specs.declared.clause_reading.Kind.TheVariants.{Attribute, Directive}
use Rattle.bundle_headers.specs.declared.clause_reading.Part.TheVariants.{Open, Colon, Typed, Value, Quoted, Behind}
use Rattle.bundle_headers.specs.declared.clauses.Clause.{Clause}
use Rattle.bundle_headers.specs.declared.clauses.Clauses.{Clauses}
use Rattle.bundle_headers.proofs.ClauseBytes.{plain_quoted_byte, token_byte, token_here, value_byte}

-- bytes that are put behind a piece
run_pushes : (at : List ℕ → ClausesReading) (p : ℕ → Bool) (pushes : (raw : List ℕ) (b : ℕ) → p b ≡ true → clauses_step (at raw) b ≡ Some (at (raw ++ b ∷ [])))
    (raw text : List ℕ) → list_all p text ≡ true → run clauses_step (at raw) text ≡ Some (at (raw ++ text))
run_pushes at p pushes raw [] all = rw append-nil refl
run_pushes at p pushes raw (b ∷ bs) all =
    let parts = and_parts (p b) (list_all p bs) all in
    rw (pushes raw b parts.0) (run_pushes at p pushes (raw ++ b ∷ []) bs parts.1 ∙ ap (λ xs. Some (at xs)) (append_assoc raw (b ∷ []) bs))

pub open_pushes : (s : Front) (raw : List ℕ) (b : ℕ) → is_token_byte b ≡ true → clauses_step (reading s (Open raw)) b ≡ Some (reading s (Open (raw ++ b ∷ [])))
open_pushes s raw b e = let is = token_byte b e in rw (is.0, is.1, is.2, is.3) refl

typed_pushes : (s : Front) (name raw : List ℕ) (b : ℕ) → is_token_byte b ≡ true → clauses_step (reading s (Typed name raw)) b ≡ Some (reading s (Typed name (raw ++ b ∷ [])))
typed_pushes s name raw b e = let is = token_byte b e in rw (e, is.1) refl

value_pushes : (s : Front) (kind : Kind) (name raw : List ℕ) (b : ℕ) → is_value_byte b ≡ true → clauses_step (reading s (Value kind name raw)) b ≡ Some (reading s (Value kind name (raw ++ b ∷ [])))
value_pushes s kind name raw b e = let is = value_byte b e in rw (is.0, is.1) refl

blank_pushes : (s : Front) (kind : Kind) (name raw : List ℕ) (b : ℕ) → eqb b 32 ≡ true → clauses_step (reading s (Value kind name raw)) b ≡ Some (reading s (Value kind name (raw ++ b ∷ [])))
blank_pushes s kind name raw b e = let same = eqb-true b 32 e in rw same refl

run_behind : (s : Front) (kind : Kind) (name value blanks : List ℕ) → is_blank blanks ≡ true → run clauses_step (reading s (Behind kind name value)) blanks ≡ Some (reading s (Behind kind name value))
run_behind s kind name value [] all = refl
run_behind s kind name value (b ∷ bs) all =
    let parts = and_parts (eqb b 32) (is_blank bs) all in
    let same = eqb-true b 32 parts.0 in
    rw same (run_behind s kind name value bs parts.1)

run_quoted : (s : Front) (kind : Kind) (name raw : List ℕ) (bytes : List (Bool × ℕ)) → list_all is_quoted_byte bytes ≡ true
    → run clauses_step (reading s (Quoted kind name raw)) (flat_map quoted_byte bytes) ≡ Some (reading s (Quoted kind name (raw ++ map (λ byte. byte.1) bytes)))
run_quoted s kind name raw [] all = rw append-nil refl
run_quoted s kind name raw ((true, b) ∷ bytes) all =
    run_quoted s kind name (raw ++ b ∷ []) bytes all ∙ ap (λ xs. Some (reading s (Quoted kind name xs))) (append_assoc raw (b ∷ []) (map (λ byte. byte.1) bytes))
run_quoted s kind name raw ((false, b) ∷ bytes) all =
    let parts = and_parts (not (eqb b 34 || eqb b 92)) (list_all is_quoted_byte bytes) all in
    let is = plain_quoted_byte b parts.0 in
    rw (is.0, is.1) (run_quoted s kind name (raw ++ b ∷ []) bytes parts.1 ∙ ap (λ xs. Some (reading s (Quoted kind name xs))) (append_assoc raw (b ∷ []) (map (λ byte. byte.1) bytes)))

-- a place where a part may end, with what it adds
abbrev Ends : ClausesReading → Front → Type 0
Ends p s = ((b : ℕ) → ends_part b ≡ true → clauses_step p b ≡ Some (after_part s b)) × (clauses_at_end p ≡ Some (clauses_of s))

abbrev LeadsTo : ClausesReading → List ℕ → Front → Type 0
LeadsTo from text s = (p : ClausesReading) × (run clauses_step from text ≡ Some p) × Ends p s

abbrev PartTo : Front → List ℕ → Front → Type 0
PartTo s text t = LeadsTo (reading s (Open [])) text t

-- the same from a place before
from_before : (from at : ClausesReading) (front text : List ℕ) (t : Front) → run clauses_step from (front ++ text) ≡ run clauses_step at text → LeadsTo at text t → LeadsTo from (front ++ text) t
from_before from at front text t same (p, e, ends) = (p, same ∙ e, ends)

path_part : (s : Front) (text path : List ℕ) → has_arguments s.clause ≡ false → IsToken text path → PartTo s text (add_path s path)
path_part s text path none ((all, filled), same) =
    let added : with_path s text ≡ Some (add_path s path) = rw none (ap (option_map (add_path s)) (token_here text path filled same)) in (
      reading s (Open text),
      run_pushes (λ raw. reading s (Open raw)) is_token_byte (open_pushes s) [] text all,
      (λ b e. rw e (ap (option_map (λ next. after_part next b)) added), ap (option_map clauses_of) added),
    )

value_part : (s : Front) (kind : Kind) (name text value : List ℕ) → IsValue text value → LeadsTo (reading s (Value kind name [])) text (with_argument s kind name value)
value_part s kind name text value (inl (all, filled, same)) =
    let is = token_here text value filled same in (
      reading s (Value kind name text),
      run_pushes (λ raw. reading s (Value kind name raw)) is_value_byte (value_pushes s kind name) [] text all,
      (λ b e. rw e (ap (option_map (λ v. after_part (with_argument s kind name v) b)) is), ap (option_map (λ v. clauses_of (with_argument s kind name v))) is),
    )
value_part s kind name text value (inr (before, quote, behind, blank, blank', (bytes, all, spelled, said), same)) =
    let front = run_pushes (λ raw. reading s (Value kind name raw)) (λ b. eqb b 32) (blank_pushes s kind name) [] before blank in
    let opened : run clauses_step (reading s (Value kind name before)) (34 ∷ (quote ++ (34 ∷ behind))) ≡ run clauses_step (reading s (Quoted kind name [])) (quote ++ (34 ∷ behind)) = rw blank refl in
    let inside : run clauses_step (reading s (Quoted kind name [])) quote ≡ Some (reading s (Quoted kind name value)) =
    ap (run clauses_step (reading s (Quoted kind name []))) spelled ∙ (run_quoted s kind name [] bytes all ∙ ap (λ xs. Some (reading s (Quoted kind name xs))) (sym said)) in
    let whole = run_on clauses_step (reading s (Value kind name [])) (reading s (Value kind name before)) before (34 ∷ (quote ++ (34 ∷ behind))) front
    ∙ (opened ∙ (run_on clauses_step (reading s (Quoted kind name [])) (reading s (Quoted kind name value)) quote (34 ∷ behind) inside ∙ run_behind s kind name value behind blank')) in
    (reading s (Behind kind name value), ap (run clauses_step (reading s (Value kind name []))) same ∙ whole, (λ b e. rw e refl, refl))

abbrev HasPath : Front → Type 0
HasPath s = eqb (length s.clause.paths) 0 ≡ false

name_read : (s : Front) (text name : List ℕ) → HasPath s → IsToken text name → name_in s text ≡ Some name
name_read s text name has ((all, filled), same) = rw has (token_here text name filled same)

run_name : (s : Front) (text : List ℕ) → list_all is_token_byte text ≡ true → run clauses_step (reading s (Open [])) text ≡ Some (reading s (Open text))
run_name s text all = run_pushes (λ raw. reading s (Open raw)) is_token_byte (open_pushes s) [] text all

-- a name and the byte behind it
after_name : (s : Front) (text name more : List ℕ) → HasPath s → IsToken text name → run clauses_step (reading s (Open [])) (text ++ (61 ∷ more)) ≡ run clauses_step (reading s (Value Attribute name [])) more
after_name s text name more has is =
    run_on clauses_step (reading s (Open [])) (reading s (Open text)) text (61 ∷ more) (run_name s text is.0.0)
    ∙ ap (λ o. option_and_then (λ t. run clauses_step t more) (option_map (λ n. reading s (Value Attribute n [])) o)) (name_read s text name has is)

after_colon : (s : Front) (text name more : List ℕ) → HasPath s → IsToken text name → run clauses_step (reading s (Open [])) (text ++ (58 ∷ more)) ≡ run clauses_step (reading s (Colon name)) more
after_colon s text name more has is =
    run_on clauses_step (reading s (Open [])) (reading s (Open text)) text (58 ∷ more) (run_name s text is.0.0)
    ∙ ap (λ o. option_and_then (λ t. run clauses_step t more) (option_map (λ n. reading s (Colon n)) o)) (name_read s text name has is)

run_type : (s : Front) (name type more : List ℕ) → IsTokenText type → run clauses_step (reading s (Colon name)) (type ++ (61 ∷ more)) ≡ run clauses_step (reading s (Value Attribute name [])) more
run_type s name [] more (all, filled) = absurd (cc)
run_type s name (b ∷ bs) more (all, filled) =
    let parts = and_parts (is_token_byte b) (list_all is_token_byte bs) all in
    let is = token_byte b parts.0 in
    let first : clauses_step (reading s (Colon name)) b ≡ Some (reading s (Typed name (b ∷ []))) = rw (parts.0, is.1) refl in
    let rest = run_pushes (λ raw. reading s (Typed name raw)) is_token_byte (typed_pushes s name) (b ∷ []) bs parts.1 in
    let last : clauses_step (reading s (Typed name (b ∷ bs))) 61 ≡ Some (reading s (Value Attribute name [])) = rw filled refl in
    ap (option_and_then (λ t. run clauses_step t (bs ++ (61 ∷ more)))) first
    ∙ (run_on clauses_step (reading s (Typed name (b ∷ []))) (reading s (Typed name (b ∷ bs))) bs (61 ∷ more) rest
    ∙ ap (option_and_then (λ t. run clauses_step t more)) last)

attribute_part : (s : Front) (text name value : List ℕ) → HasPath s → IsAttribute text name value → PartTo s text (with_argument s Attribute name value)
attribute_part s text name value has (before, behind, inl is, val, same) =
    subst (λ xs. PartTo s xs (with_argument s Attribute name value)) (sym same ∙ refl)
    (let v = value_part s Attribute name behind value val in (v.0, after_name s before name behind has is ∙ v.1, v.2))
attribute_part s text name value has (before, behind, inr (n, type, is, is_type, split), val, same) =
    let regrouped : n ++ (58 ∷ (type ++ (61 ∷ behind))) ≡ text = sym (append_assoc n (58 ∷ type) (61 ∷ behind)) ∙ (ap (λ xs. xs ++ (61 ∷ behind)) (sym split) ∙ sym same) in
    subst (λ xs. PartTo s xs (with_argument s Attribute name value)) regrouped
    (let v = value_part s Attribute name behind value val in (v.0, after_colon s n name (type ++ (61 ∷ behind)) has is ∙ (run_type s name type behind is_type ∙ v.1), v.2))

directive_part : (s : Front) (text name value : List ℕ) → HasPath s → IsDirective text name value → PartTo s text (with_argument s Directive name value)
directive_part s text name value has (before, behind, is, val, same) =
    subst (λ xs. PartTo s xs (with_argument s Directive name value)) (sym same)
    (let v = value_part s Directive name behind value val in (v.0, after_colon s before name (61 ∷ behind) has is ∙ v.1, v.2))

-- parts, one after the other
abbrev PartsLead : Front → List (List ℕ) → Front → Type 0
PartsLead s [] t = s ≡ t
PartsLead s (text ∷ texts) t = (u : Front) × PartTo s text u × PartsLead u texts t

leads_append : (s t u : Front) (xs ys : List (List ℕ)) → PartsLead s xs t → PartsLead t ys u → PartsLead s (xs ++ ys) u
leads_append s t u [] ys e more = subst (λ w. PartsLead w ys u) (sym e) more
leads_append s t u (x ∷ xs) ys (w, part, rest) more = (w, part, leads_append w t u xs ys rest more)

parts_run : (s t : Front) (text : List ℕ) (texts : List (List ℕ)) → PartsLead s (text ∷ texts) t → PartTo s (join_with_byte 59 (text ∷ texts)) t
parts_run s t text [] (u, part, e) = subst (λ w. PartTo s text w) e part
parts_run s t text (next ∷ texts) (u, (p, led, ends), more) =
    let rest = parts_run u t next texts more in
    let step : clauses_step p 59 ≡ Some (reading u (Open [])) = ends.0 59 refl in (
      rest.0,
      run_on clauses_step (reading s (Open [])) p text (59 ∷ join_with_byte 59 (next ∷ texts)) led
          ∙ (ap (option_and_then (λ q. run clauses_step q (join_with_byte 59 (next ∷ texts)))) step ∙ rest.1),
      rest.2,
    )

abbrev with_paths : Front → List (List ℕ) → Front
with_paths s paths = record s { clause = record s.clause { paths = paths } }

abbrev with_all : Front → List (List ℕ × List ℕ) → List (List ℕ × List ℕ) → Front
with_all s attributes directives = record s { clause = record s.clause { attributes = attributes; directives = directives } }

paths_lead : (s : Front) (texts paths : List (List ℕ)) → has_arguments s.clause ≡ false → ArePaths texts paths → PartsLead s texts (with_paths s (s.clause.paths ++ paths))
paths_lead s [] [] none are = ap (with_paths s) (sym (append-nil s.clause.paths))
paths_lead s [] (path ∷ paths) none are = absurd are
paths_lead s (text ∷ texts) [] none are = absurd are
paths_lead s (text ∷ texts) (path ∷ paths) none (is, are) = (
  add_path s path,
  path_part s text path none is,
  subst (λ ps. PartsLead (add_path s path) texts (with_paths s ps)) (append_assoc s.clause.paths (path ∷ []) paths) (paths_lead (add_path s path) texts paths none are),
)

arguments_lead : (s : Front) (texts : List (List ℕ)) (attributes directives : List (List ℕ × List ℕ)) → HasPath s → AreArguments texts attributes directives
    → PartsLead s texts (with_all s (s.clause.attributes ++ attributes) (s.clause.directives ++ directives))
arguments_lead s [] attributes directives has (ea, ed) =
    ap (λ xs. with_all s xs s.clause.directives) (sym (append-nil s.clause.attributes) ∙ ap (λ xs. s.clause.attributes ++ xs) (sym ea))
    ∙ ap (λ xs. with_all s (s.clause.attributes ++ attributes) xs) (sym (append-nil s.clause.directives) ∙ ap (λ xs. s.clause.directives ++ xs) (sym ed))
arguments_lead s (text ∷ texts) attributes directives has (name, value, rest, inl (is, e, are)) = (
  with_argument s Attribute name value,
  attribute_part s text name value has is,
  subst (λ xs. PartsLead (with_argument s Attribute name value) texts (with_all s xs (s.clause.directives ++ directives)))
      (append_assoc s.clause.attributes ((name, value) ∷ []) rest ∙ ap (λ xs. s.clause.attributes ++ xs) (sym e))
      (arguments_lead (with_argument s Attribute name value) texts rest directives has are),
)
arguments_lead s (text ∷ texts) attributes directives has (name, value, rest, inr (is, e, are)) = (
  with_argument s Directive name value,
  directive_part s text name value has is,
  subst (λ xs. PartsLead (with_argument s Directive name value) texts (with_all s (s.clause.attributes ++ attributes) xs))
      (append_assoc s.clause.directives ((name, value) ∷ []) rest ∙ ap (λ xs. s.clause.directives ++ xs) (sym e))
      (arguments_lead (with_argument s Directive name value) texts attributes rest has are),
)

pub some_paths : (texts paths : List (List ℕ)) → 0 < length texts → ArePaths texts paths → eqb (length paths) 0 ≡ false
some_paths [] paths some are = absurd (omega arith)
some_paths (text ∷ texts) [] some are = absurd are
some_paths (text ∷ texts) (path ∷ paths) some are = ne_eqb (length (path ∷ paths)) 0 (λ e. absurd (omega arith))

abbrev begun : List Clause → Front
begun whole = record { whole = whole; clause = empty_clause }

clause_run : (whole : List Clause) (text : List ℕ) (clause : Clause) → IsClause text clause → PartTo (begun whole) text (record { whole = whole; clause = clause })
clause_run whole text clause ([], arguments, some, are, are', same) = absurd (omega arith)
clause_run whole text clause (path ∷ paths, arguments, some, are, are', same) =
    let with_all_paths = with_paths (begun whole) clause.paths in
    let first = paths_lead (begun whole) (path ∷ paths) clause.paths refl are in
    let second = arguments_lead (with_paths (begun whole) clause.paths) arguments clause.attributes clause.directives (some_paths (path ∷ paths) clause.paths some are) are' in
    subst (λ xs. PartTo (begun whole) xs (record { whole = whole; clause = clause })) (sym same)
    (parts_run (begun whole) (record { whole = whole; clause = clause }) path (paths ++ arguments)
    (leads_append (begun whole) (with_paths (begun whole) clause.paths) (record { whole = whole; clause = clause }) (path ∷ paths) arguments first second))

clauses_run : (whole : List Clause) (text : List ℕ) (texts : List (List ℕ)) (clauses : List Clause) → AreClauses (text ∷ texts) clauses
    → reads clauses_step clauses_at_end (reading (begun whole) (Open [])) (join_with_byte 44 (text ∷ texts)) ≡ Some (record { list = whole ++ clauses })
clauses_run whole text texts [] are = absurd are
clauses_run whole text [] (clause ∷ []) (is, are) =
    let led = clause_run whole text clause is in ap (option_and_then clauses_at_end) led.1 ∙ led.2.1
clauses_run whole text [] (clause ∷ next ∷ clauses) (is, are) = absurd are
clauses_run whole text (next ∷ texts) (clause ∷ clauses) (is, are) =
    let led = clause_run whole text clause is in
    let step : clauses_step led.0 44 ≡ Some (reading (begun (whole ++ clause ∷ [])) (Open [])) = led.2.0 44 refl in
    let rest = clauses_run (whole ++ clause ∷ []) next texts clauses are in
    ap (option_and_then clauses_at_end)
    (run_on clauses_step (reading (begun whole) (Open [])) led.0 text (44 ∷ join_with_byte 44 (next ∷ texts)) led.1
    ∙ ap (option_and_then (λ q. run clauses_step q (join_with_byte 44 (next ∷ texts)))) step)
    ∙ (rest ∙ ap (λ (xs : List Clause). Some (record { list = xs })) (append_assoc whole (clause ∷ []) clauses))

pub clauses_complete : (text : List ℕ) (clauses : Clauses) → SpellsClauses text clauses → reads clauses_step clauses_at_end clauses_start text ≡ Some clauses
clauses_complete text clauses ([], some, are, same) = absurd (omega arith)
clauses_complete text clauses (first ∷ texts, some, are, same) = ap (reads clauses_step clauses_at_end clauses_start) same ∙ clauses_run [] first texts clauses.list are
