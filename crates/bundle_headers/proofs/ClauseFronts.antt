-- Where the steps of a list of clauses lead.
use Rattle.std.proofs.Common.{◌≡◌, ℕ, ◌<◌, ◌&&◌, ◌⊎◌, List, [], ◌∷◌, ◌++◌, length, true, false, eqb, eqb-true, refl, sym, ap, ◌∙◌, arith, subst, append_assoc, inl, inr}
use Rattle.std.specs.List.{join_with_byte, list_all}
use Rattle.std.proofs.lemmas.Bool.{and_parts}
use Rattle.std.proofs.lemmas.List.{append-nil, length-append, nil_from_length}
use Rattle.bundle_headers.specs.Blanks.{is_blank}
use Rattle.bundle_headers.specs.ClauseSteps.{add_path, after_part, clauses_of, empty_clause, has_arguments, with_argument}
use Rattle.bundle_headers.specs.Clauses.{AreArguments, AreClauses, ArePaths, IsAttribute, IsClause, IsDirective, IsQuoted, IsQuotedValue, IsToken, IsTypedName, IsValue, SpellsClauses, ends_part, is_token_byte, is_value_byte}
use Rattle.bundle_headers.specs.declared.clause_reading.ClausesReading.{ClausesReading}
use Rattle.bundle_headers.specs.declared.clause_reading.Front.{Front}
use Rattle.bundle_headers.specs.declared.clause_reading.Kind.{Kind}
use Rattle.bundle_headers.specs.declared.clause_reading.Kind.TheVariants.{Attribute, Directive}
use Rattle.bundle_headers.specs.declared.clause_reading.Part.{Part}
use Rattle.bundle_headers.specs.declared.clause_reading.Part.TheVariants.{Open, Colon, Typed, Value, Quoted, Escaped, Behind}
use Rattle.bundle_headers.specs.declared.clauses.Clause.{Clause}
use Rattle.bundle_headers.proofs.ClauseRuns.{some_paths}
use Rattle.bundle_headers.proofs.ClauseBytes.{ends_cases, not_gives}

-- texts, each with a byte behind it
abbrev pub ended : ℕ → List (List ℕ) → List ℕ
ended c [] = []
ended c (text ∷ texts) = text ++ (c ∷ ended c texts)

ended_push : (c : ℕ) (texts : List (List ℕ)) (text : List ℕ) → ended c (texts ++ text ∷ []) ≡ ended c texts ++ (text ++ c ∷ [])
ended_push c [] text = refl
ended_push c (x ∷ texts) text = ap (λ xs. x ++ (c ∷ xs)) (ended_push c texts text) ∙ sym (append_assoc x (c ∷ ended c texts) (text ++ c ∷ []))

join_push : (c : ℕ) (texts : List (List ℕ)) (text : List ℕ) → join_with_byte c (texts ++ text ∷ []) ≡ ended c texts ++ text
join_push c [] text = refl
join_push c (x ∷ []) text = sym (append_assoc x (c ∷ []) text)
join_push c (x ∷ y ∷ texts) text = ap (λ xs. x ++ (c ∷ xs)) (join_push c (y ∷ texts) text) ∙ sym (append_assoc x (c ∷ ended c (y ∷ texts)) text)

abbrev pub HasPath : Front → Type 0
HasPath s = eqb (length s.clause.paths) 0 ≡ false

-- the text before a part
pub record Lead (s : Front) (text : List ℕ) : Type 0 where
  pub texts : List (List ℕ)
  pub paths : List (List ℕ)
  pub arguments : List (List ℕ)
  pub whole : AreClauses texts s.whole
  pub are_paths : ArePaths paths s.clause.paths
  pub are_arguments : AreArguments arguments s.clause.attributes s.clause.directives
  pub in_order : (0 < length paths) ⊎ (arguments ≡ [])
  pub same : text ≡ ended 44 texts ++ ended 59 (paths ++ arguments)

-- a text that may end here
pub record Done (s : Front) (text : List ℕ) : Type 0 where
  pub texts : List (List ℕ)
  pub last : List ℕ
  pub whole : AreClauses texts s.whole
  pub is_clause : IsClause last s.clause
  pub same : text ≡ ended 44 texts ++ last

paths_push : (texts paths : List (List ℕ)) (text path : List ℕ) → ArePaths texts paths → IsToken text path → ArePaths (texts ++ text ∷ []) (paths ++ path ∷ [])
paths_push [] [] text path are is = (is, tt)
paths_push [] (p ∷ paths) text path are is = absurd are
paths_push (t ∷ texts) [] text path are is = absurd are
paths_push (t ∷ texts) (p ∷ paths) text path (here, are) is = (here, paths_push texts paths text path are is)

clauses_push : (texts : List (List ℕ)) (clauses : List Clause) (text : List ℕ) (clause : Clause) → AreClauses texts clauses → IsClause text clause → AreClauses (texts ++ text ∷ []) (clauses ++ clause ∷ [])
clauses_push [] [] text clause are is = (is, tt)
clauses_push [] (c ∷ clauses) text clause are is = absurd are
clauses_push (t ∷ texts) [] text clause are is = absurd are
clauses_push (t ∷ texts) (c ∷ clauses) text clause (here, are) is = (here, clauses_push texts clauses text clause are is)

attribute_push : (texts : List (List ℕ)) (attributes directives : List (List ℕ × List ℕ)) (text name value : List ℕ) → AreArguments texts attributes directives → IsAttribute text name value
    → AreArguments (texts ++ text ∷ []) (attributes ++ (name, value) ∷ []) directives
attribute_push [] attributes directives text name value (ea, ed) is = (name, value, [], inl (is, ap (λ xs. xs ++ (name, value) ∷ []) ea, (refl, ed)))
attribute_push (t ∷ texts) attributes directives text name value (n, v, rest, inl (here, e, are)) is =
    (n, v, rest ++ (name, value) ∷ [], inl (here, ap (λ xs. xs ++ (name, value) ∷ []) e, attribute_push texts rest directives text name value are is))
attribute_push (t ∷ texts) attributes directives text name value (n, v, rest, inr (here, e, are)) is =
    (n, v, rest, inr (here, e, attribute_push texts attributes rest text name value are is))

directive_push : (texts : List (List ℕ)) (attributes directives : List (List ℕ × List ℕ)) (text name value : List ℕ) → AreArguments texts attributes directives → IsDirective text name value
    → AreArguments (texts ++ text ∷ []) attributes (directives ++ (name, value) ∷ [])
directive_push [] attributes directives text name value (ea, ed) is = (name, value, [], inr (is, ap (λ xs. xs ++ (name, value) ∷ []) ed, (ea, refl)))
directive_push (t ∷ texts) attributes directives text name value (n, v, rest, inl (here, e, are)) is =
    (n, v, rest, inl (here, e, directive_push texts rest directives text name value are is))
directive_push (t ∷ texts) attributes directives text name value (n, v, rest, inr (here, e, are)) is =
    (n, v, rest ++ (name, value) ∷ [], inr (here, ap (λ xs. xs ++ (name, value) ∷ []) e, directive_push texts attributes rest text name value are is))

none_of_kind : (texts : List (List ℕ)) (attributes directives : List (List ℕ × List ℕ)) → AreArguments texts attributes directives → attributes ≡ [] → directives ≡ [] → texts ≡ []
none_of_kind [] attributes directives are ea ed = refl
none_of_kind (t ∷ texts) attributes directives (n, v, rest, inl (here, e, are)) ea ed = absurd (cc)
none_of_kind (t ∷ texts) attributes directives (n, v, rest, inr (here, e, are)) ea ed = absurd (cc)

no_arguments : (texts : List (List ℕ)) (clause : Clause) → AreArguments texts clause.attributes clause.directives → has_arguments clause ≡ false → texts ≡ []
no_arguments texts clause are none =
    let parts = and_parts (eqb (length clause.attributes) 0) (eqb (length clause.directives) 0) (not_gives (eqb (length clause.attributes) 0 && eqb (length clause.directives) 0) none) in
    none_of_kind texts clause.attributes clause.directives are
    (nil_from_length clause.attributes (eqb-true (length clause.attributes) 0 parts.0)) (nil_from_length clause.directives (eqb-true (length clause.directives) 0 parts.1))

arguments_none : (clause : Clause) → AreArguments [] clause.attributes clause.directives → has_arguments clause ≡ true → ⊥
arguments_none clause (ea, ed) has = let none = rw (ea, ed) at has in cc

pub has_path_where_arguments : (s : Front) (text : List ℕ) → Lead s text → has_arguments s.clause ≡ true → HasPath s
has_path_where_arguments s text lead has = elim lead.in_order [
  | inl some ↦ some_paths lead.paths s.clause.paths some lead.are_paths
  | inr none ↦ absurd (arguments_none s.clause (subst (λ xs. AreArguments xs s.clause.attributes s.clause.directives) none lead.are_arguments) has)
]

-- a part behind others
next_same : (text part : List ℕ) (texts parts : List (List ℕ)) → text ≡ ended 44 texts ++ ended 59 parts → text ++ (part ++ 59 ∷ []) ≡ ended 44 texts ++ ended 59 (parts ++ part ∷ [])
next_same text part texts parts e =
    ap (λ xs. xs ++ (part ++ 59 ∷ [])) e ∙ (append_assoc (ended 44 texts) (ended 59 parts) (part ++ 59 ∷ []) ∙ ap (λ xs. ended 44 texts ++ xs) (sym (ended_push 59 parts part)))

done_same : (text part : List ℕ) (texts parts : List (List ℕ)) → text ≡ ended 44 texts ++ ended 59 parts → text ++ part ≡ ended 44 texts ++ join_with_byte 59 (parts ++ part ∷ [])
done_same text part texts parts e =
    ap (λ xs. xs ++ part) e ∙ (append_assoc (ended 44 texts) (ended 59 parts) part ∙ ap (λ xs. ended 44 texts ++ xs) (sym (join_push 59 parts part)))

abbrev pub Adds : Front → List ℕ → List ℕ → Type 0
Adds s text part = Lead s (text ++ (part ++ 59 ∷ [])) × Done s (text ++ part)

pub adds_path : (s : Front) (text part path : List ℕ) → Lead s text → has_arguments s.clause ≡ false → IsToken part path → Adds (add_path s path) text part
adds_path s text part path lead none is =
    let no_args = no_arguments lead.arguments s.clause lead.are_arguments none in
    let empty = subst (λ xs. AreArguments xs s.clause.attributes s.clause.directives) no_args lead.are_arguments in
    let same : text ≡ ended 44 lead.texts ++ ended 59 lead.paths = lead.same ∙ ap (λ xs. ended 44 lead.texts ++ ended 59 xs) (ap (λ xs. lead.paths ++ xs) no_args ∙ append-nil lead.paths) in
    let paths = paths_push lead.paths s.clause.paths part path lead.are_paths is in
    let some : 0 < length (lead.paths ++ part ∷ []) = rw length-append (omega arith) in (
      record {
        texts = lead.texts;
        paths = lead.paths ++ part ∷ [];
        arguments = [];
        whole = lead.whole;
        are_paths = paths;
        are_arguments = empty;
        in_order = inr refl;
        same = next_same text part lead.texts lead.paths same ∙ ap (λ xs. ended 44 lead.texts ++ ended 59 xs) (sym (append-nil (lead.paths ++ part ∷ [])));
      },
      record {
        texts = lead.texts;
        last = join_with_byte 59 ((lead.paths ++ part ∷ []) ++ []);
        whole = lead.whole;
        is_clause = (lead.paths ++ part ∷ [], [], some, paths, empty, refl);
        same = done_same text part lead.texts lead.paths same ∙ ap (λ xs. ended 44 lead.texts ++ join_with_byte 59 xs) (sym (append-nil (lead.paths ++ part ∷ [])));
      },
    )

paths_some_back : (texts paths : List (List ℕ)) → ArePaths texts paths → eqb (length paths) 0 ≡ false → 0 < length texts
paths_some_back [] [] are has = absurd (cc)
paths_some_back [] (path ∷ paths) are has = absurd are
paths_some_back (text ∷ texts) paths are has = omega arith

abbrev pub IsArgument : Kind → List ℕ → List ℕ → List ℕ → Type 0
IsArgument Attribute text name value = IsAttribute text name value
IsArgument Directive text name value = IsDirective text name value

argument_push : (s : Front) (kind : Kind) (texts : List (List ℕ)) (text name value : List ℕ) → AreArguments texts s.clause.attributes s.clause.directives → IsArgument kind text name value
    → AreArguments (texts ++ text ∷ []) (with_argument s kind name value).clause.attributes (with_argument s kind name value).clause.directives
argument_push s Attribute texts text name value are is = attribute_push texts s.clause.attributes s.clause.directives text name value are is
argument_push s Directive texts text name value are is = directive_push texts s.clause.attributes s.clause.directives text name value are is

paths_stay : (s : Front) (kind : Kind) (name value : List ℕ) → (with_argument s kind name value).clause.paths ≡ s.clause.paths
paths_stay s Attribute name value = refl
paths_stay s Directive name value = refl

whole_stays : (s : Front) (kind : Kind) (name value : List ℕ) → (with_argument s kind name value).whole ≡ s.whole
whole_stays s Attribute name value = refl
whole_stays s Directive name value = refl

pub adds_argument : (s : Front) (kind : Kind) (text part name value : List ℕ) → Lead s text → HasPath s → IsArgument kind part name value → Adds (with_argument s kind name value) text part
adds_argument s kind text part name value lead has is =
    let some = paths_some_back lead.paths s.clause.paths lead.are_paths has in
    let are = argument_push s kind lead.arguments part name value lead.are_arguments is in
    let paths = subst (λ ps. ArePaths lead.paths ps) (sym (paths_stay s kind name value)) lead.are_paths in
    let whole = subst (λ cs. AreClauses lead.texts cs) (sym (whole_stays s kind name value)) lead.whole in
    let order = append_assoc lead.paths lead.arguments (part ∷ []) in (
      record {
        texts = lead.texts;
        paths = lead.paths;
        arguments = lead.arguments ++ part ∷ [];
        whole = whole;
        are_paths = paths;
        are_arguments = are;
        in_order = inl some;
        same = next_same text part lead.texts (lead.paths ++ lead.arguments) lead.same ∙ ap (λ xs. ended 44 lead.texts ++ ended 59 xs) order;
      },
      record {
        texts = lead.texts;
        last = join_with_byte 59 (lead.paths ++ (lead.arguments ++ part ∷ []));
        whole = whole;
        is_clause = (lead.paths, lead.arguments ++ part ∷ [], some, paths, are, refl);
        same = done_same text part lead.texts (lead.paths ++ lead.arguments) lead.same ∙ ap (λ xs. ended 44 lead.texts ++ join_with_byte 59 xs) order;
      },
    )

abbrev next_clause : Front → Front
next_clause s = record { whole = s.whole ++ s.clause ∷ []; clause = empty_clause }

comma : (s : Front) (text : List ℕ) → Done s text → Lead (next_clause s) (text ++ 44 ∷ [])
comma s text done = record {
  texts = done.texts ++ done.last ∷ [];
  paths = [];
  arguments = [];
  whole = clauses_push done.texts s.whole done.last s.clause done.whole done.is_clause;
  are_paths = tt;
  are_arguments = (refl, refl);
  in_order = inr refl;
  same = ap (λ xs. xs ++ 44 ∷ []) done.same ∙ (append_assoc (ended 44 done.texts) done.last (44 ∷ []) ∙ (sym (ended_push 44 done.texts done.last) ∙ sym (append-nil (ended 44 (done.texts ++ done.last ∷ [])))));
}

pub done_spelled : (s : Front) (text : List ℕ) → Done s text → SpellsClauses text (clauses_of s)
done_spelled s text done =
    (done.texts ++ done.last ∷ [], rw length-append (omega arith), clauses_push done.texts s.whole done.last s.clause done.whole done.is_clause, done.same ∙ sym (join_push 44 done.texts done.last))

abbrev pub Opens : Kind → List ℕ → List ℕ → Type 0
Opens Attribute head name = (before : List ℕ) × IsTypedName before name × (head ≡ before ++ (61 ∷ []))
Opens Directive head name = (before : List ℕ) × IsToken before name × (head ≡ before ++ (58 ∷ 61 ∷ []))

pub argument_of : (kind : Kind) (head name text value : List ℕ) → Opens kind head name → IsValue text value → IsArgument kind (head ++ text) name value
argument_of Attribute head name text value (before, is, same) val = (before, text, is, val, ap (λ xs. xs ++ text) same ∙ append_assoc before (61 ∷ []) text)
argument_of Directive head name text value (before, is, same) val = (before, text, is, val, ap (λ xs. xs ++ text) same ∙ append_assoc before (58 ∷ 61 ∷ []) text)

abbrev pub IsBegunQuote : List ℕ → List ℕ → Type 0
IsBegunQuote text value = (before : List ℕ) × (quote : List ℕ) × (is_blank before ≡ true) × IsQuoted quote value × (text ≡ before ++ (34 ∷ quote))

-- the text of a part behind its name
abbrev pub InValue : Front → Kind → List ℕ → List ℕ → (List ℕ → Type 0) → Type 0
InValue s kind name text Is = (front : List ℕ) × (head : List ℕ) × (behind : List ℕ) × Lead s front × HasPath s × Opens kind head name × Is behind × (text ≡ front ++ (head ++ behind))

abbrev pub ReachedPart : Front → Part → List ℕ → Type 0
ReachedPart s (Open raw) text = (front : List ℕ) × Lead s front × (list_all is_token_byte raw ≡ true) × (text ≡ front ++ raw)
ReachedPart s (Colon name) text = (front : List ℕ) × (before : List ℕ) × Lead s front × HasPath s × IsToken before name × (text ≡ front ++ (before ++ (58 ∷ [])))
ReachedPart s (Typed name raw) text = (front : List ℕ) × (before : List ℕ) × Lead s front × HasPath s × IsToken before name × (list_all is_token_byte raw ≡ true) × (text ≡ front ++ (before ++ (58 ∷ raw)))
ReachedPart s (Value kind name raw) text = InValue s kind name text (λ behind. (behind ≡ raw) × (list_all is_value_byte raw ≡ true))
ReachedPart s (Quoted kind name raw) text = InValue s kind name text (λ behind. IsBegunQuote behind raw)
ReachedPart s (Escaped kind name raw) text = InValue s kind name text (λ behind. (quote : List ℕ) × IsBegunQuote quote raw × (behind ≡ quote ++ (92 ∷ [])))
ReachedPart s (Behind kind name value) text = InValue s kind name text (λ behind. IsQuotedValue behind value)

-- the texts that lead to a place
abbrev pub Reached : ClausesReading → List ℕ → Type 0
Reached r text = ReachedPart r.front r.part text

abbrev pub Next : ClausesReading → List ℕ → ℕ → Type 0
Next t text b = Reached t (text ++ b ∷ [])

pub after : (s : Front) (text part whole : List ℕ) (b : ℕ) → Adds s text part → ends_part b ≡ true → whole ≡ text ++ part → Next (after_part s b) whole b
after s text part whole b (lead, done) e same =
    let P : ℕ → Type 0 = λ c. Next (after_part s c) whole c in
    elim (ends_cases b e) [
      | inl is_comma ↦ subst P (sym is_comma) (whole ++ 44 ∷ [], comma s whole (subst (λ xs. Done s xs) (sym same) done), refl, sym (append-nil (whole ++ 44 ∷ [])))
      | inr is_semicolon ↦ subst P (sym is_semicolon)
          (whole ++ 59 ∷ [], subst (λ xs. Lead s xs) (sym (append_assoc text part (59 ∷ [])) ∙ ap (λ xs. xs ++ 59 ∷ []) (sym same)) lead, refl, sym (append-nil (whole ++ 59 ∷ [])))
    ]

pub behind_more : (front head behind : List ℕ) (text : List ℕ) (b : ℕ) → text ≡ front ++ (head ++ behind) → text ++ b ∷ [] ≡ front ++ (head ++ (behind ++ b ∷ []))
behind_more front head behind text b e = ap (λ xs. xs ++ b ∷ []) e ∙ (append_assoc front (head ++ behind) (b ∷ []) ∙ ap (λ xs. front ++ xs) (append_assoc head behind (b ∷ [])))

pub ends_argument : (s : Front) (kind : Kind) (name value text front head behind : List ℕ) (b : ℕ) → Lead s front → HasPath s → Opens kind head name → IsValue behind value → text ≡ front ++ (head ++ behind) → ends_part b ≡ true
    → Next (after_part (with_argument s kind name value) b) text b
ends_argument s kind name value text front head behind b lead has opens val same e =
    after (with_argument s kind name value) front (head ++ behind) text b (adds_argument s kind front (head ++ behind) name value lead has (argument_of kind head name behind value opens val)) e same
