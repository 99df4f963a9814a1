-- The steps of a list of clauses read what is spelled, and nothing else.
use Rattle.std.proofs.Common.{◌≡◌, ℕ, List, [], ◌∷◌, ◌++◌, map, flat_map, Bool, true, false, if◌then◌else◌, eqb, Some, None, option_map, refl, sym, ap, ◌∙◌, subst, append_assoc, inl, inr}
use Rattle.std.specs.List.{list_all}
use Rattle.std.proofs.lemmas.List.{append-nil}
use Rattle.std.proofs.lemmas.List.Folds.{list_all-append}
use Rattle.osgi_version.proofs.Options.{bind_gives, chosen, chosen_eq, map_gives, same_some}
use Rattle.osgi_version.proofs.Readers.{IsReader, reads, run_keeps}
use Rattle.osgi_version.specs.Readings.{run}
use Rattle.bundle_headers.specs.Blanks.{is_blank, without_blanks}
use Rattle.bundle_headers.specs.ClauseSteps.{add_path, after_part, clauses_at_end, clauses_of, clauses_start, clauses_step, has_arguments, name_in, open_other, open_step, reading, token, typed_step, value_step, quoted_step, behind_step, colon_step, with_argument, with_path}
use Rattle.bundle_headers.specs.Clauses.{IsQuoted, IsQuotedValue, SpellsClauses, ends_part, is_quoted_byte, is_token_byte, is_value_byte, quoted_byte}
use Rattle.bundle_headers.specs.declared.clause_reading.ClausesReading.{ClausesReading}
use Rattle.bundle_headers.specs.declared.clause_reading.Front.{Front}
use Rattle.bundle_headers.specs.declared.clause_reading.Kind.{Kind}
use Rattle.bundle_headers.specs.declared.clause_reading.Kind.TheVariants.{Attribute, Directive}
use Rattle.bundle_headers.specs.declared.clause_reading.Part.{Part}
use Rattle.bundle_headers.specs.declared.clause_reading.Part.TheVariants.{Open, Colon, Typed, Value, Quoted, Escaped, Behind}
use Rattle.bundle_headers.specs.declared.clauses.Clauses.{Clauses}
use Rattle.bundle_headers.proofs.ClauseBytes.{all_more, name_gives, not_blank_more, path_gives, token_gives}
use Rattle.bundle_headers.proofs.ClauseFronts.{Lead, Next, Reached, ReachedPart, adds_argument, adds_path, after, argument_of, behind_more, done_spelled, ends_argument, has_path_where_arguments}
use Rattle.bundle_headers.proofs.ClauseRuns.{clauses_complete}

next_open_other : (s : Front) (raw : List ℕ) (t : ClausesReading) (text : List ℕ) (b : ℕ) (front : List ℕ) → Lead s front → list_all is_token_byte raw ≡ true → text ≡ front ++ raw
    → ends_part b ≡ false → open_other s raw b ≡ Some t → Next t text b
next_open_other s raw t text b front lead all same not_end e =
    elim (chosen_eq b 61 (option_map (λ name. reading s (Value Attribute name [])) (name_in s raw))
    (if eqb b 58 then option_map (λ name. reading s (Colon name)) (name_in s raw) else (if eqb b 34 then None else Some (reading s (Open (raw ++ b ∷ []))))) (Some t) e) [
      | inl equals ↦
          let some = map_gives (λ name. reading s (Value Attribute name [])) (name_in s raw) t equals.1 in
          let name = name_gives s raw some.0 some.1 in
          let whole : text ++ b ∷ [] ≡ front ++ ((raw ++ 61 ∷ []) ++ []) =
          ap (λ c. text ++ c ∷ []) equals.0 ∙ (ap (λ xs. xs ++ 61 ∷ []) same ∙ (append_assoc front raw (61 ∷ []) ∙ ap (λ xs. front ++ xs) (sym (append-nil (raw ++ 61 ∷ []))))) in
          subst (λ u. Next u text b) some.2 (front, raw ++ 61 ∷ [], [], lead, name.0, (raw, inl ((all, name.1), name.2), refl), (refl, refl), whole)
      | inr other ↦ elim (chosen_eq b 58 (option_map (λ name. reading s (Colon name)) (name_in s raw)) (if eqb b 34 then None else Some (reading s (Open (raw ++ b ∷ [])))) (Some t) other.1) [
        | inl colon ↦
            let some = map_gives (λ name. reading s (Colon name)) (name_in s raw) t colon.1 in
            let name = name_gives s raw some.0 some.1 in
            let whole : text ++ b ∷ [] ≡ front ++ (raw ++ 58 ∷ []) = ap (λ c. text ++ c ∷ []) colon.0 ∙ (ap (λ xs. xs ++ 58 ∷ []) same ∙ append_assoc front raw (58 ∷ [])) in
            subst (λ u. Next u text b) some.2 (front, raw, lead, name.0, ((all, name.1), name.2), whole)
        | inr third ↦ elim (chosen_eq b 34 None (Some (reading s (Open (raw ++ b ∷ [])))) (Some t) third.1) [
          | inl quote ↦ absurd (let none = quote.1 in cc)
          | inr last ↦
              let is : is_token_byte b ≡ true = rw (not_end, other.0, third.0, last.0) refl in
              subst (λ u. Next u text b) (same_some last.1)
              (front, lead, all_more is_token_byte raw b all is, ap (λ xs. xs ++ b ∷ []) same ∙ append_assoc front raw (b ∷ []))
        ]
      ]
    ]

next_open : (s : Front) (raw : List ℕ) (t : ClausesReading) (text : List ℕ) (b : ℕ) → ReachedPart s (Open raw) text → open_step s raw b ≡ Some t → Next t text b
next_open s raw t text b (front, lead, all, same) e =
    elim (chosen (ends_part b) (option_map (λ next. after_part next b) (with_path s raw)) (open_other s raw b) (Some t) e) [
      | inl is_end ↦
          let some = map_gives (λ next. after_part next b) (with_path s raw) t is_end.1 in
          let path = path_gives s some.0 raw some.1 in
          subst (λ u. Next u text b) some.2 (subst (λ u. Next (after_part u b) text b) path.4
          (after (add_path s path.0) front raw text b (adds_path s front raw path.0 lead path.1 ((all, path.2), path.3)) is_end.0 same))
      | inr other ↦ next_open_other s raw t text b front lead all same other.0 other.1
    ]

next_colon : (s : Front) (name : List ℕ) (t : ClausesReading) (text : List ℕ) (b : ℕ) → ReachedPart s (Colon name) text → colon_step s name b ≡ Some t → Next t text b
next_colon s name t text b (front, before, lead, has, is, same) e =
    let whole : text ++ b ∷ [] ≡ front ++ (before ++ (58 ∷ b ∷ [])) = ap (λ xs. xs ++ b ∷ []) same ∙ (append_assoc front (before ++ (58 ∷ [])) (b ∷ []) ∙ ap (λ xs. front ++ xs) (append_assoc before (58 ∷ []) (b ∷ []))) in
    elim (chosen_eq b 61 (Some (reading s (Value Directive name []))) (if is_token_byte b then Some (reading s (Typed name (b ∷ []))) else None) (Some t) e) [
      | inl equals ↦
          let here : text ++ b ∷ [] ≡ front ++ ((before ++ (58 ∷ 61 ∷ [])) ++ []) = whole ∙ (ap (λ c. front ++ (before ++ (58 ∷ c ∷ []))) equals.0 ∙ ap (λ xs. front ++ xs) (sym (append-nil (before ++ (58 ∷ 61 ∷ []))))) in
          subst (λ u. Next u text b) (same_some equals.1) (front, before ++ (58 ∷ 61 ∷ []), [], lead, has, (before, is, refl), (refl, refl), here)
      | inr other ↦ elim (chosen (is_token_byte b) (Some (reading s (Typed name (b ∷ [])))) None (Some t) other.1) [
        | inl byte ↦ subst (λ u. Next u text b) (same_some byte.1) (front, before, lead, has, is, rw byte.0 refl, whole)
        | inr refused ↦ absurd (let none = refused.1 in cc)
      ]
    ]

next_typed : (s : Front) (name raw : List ℕ) (t : ClausesReading) (text : List ℕ) (b : ℕ) → ReachedPart s (Typed name raw) text → typed_step s name raw b ≡ Some t → Next t text b
next_typed s name raw t text b (front, before, lead, has, is, all, same) e =
    let whole : text ++ b ∷ [] ≡ front ++ (before ++ (58 ∷ (raw ++ b ∷ []))) = ap (λ xs. xs ++ b ∷ []) same ∙ (append_assoc front (before ++ (58 ∷ raw)) (b ∷ []) ∙ ap (λ xs. front ++ xs) (append_assoc before (58 ∷ raw) (b ∷ []))) in
    elim (chosen_eq b 61 (if is_blank raw then None else Some (reading s (Value Attribute name []))) (if is_token_byte b then Some (reading s (Typed name (raw ++ b ∷ []))) else None) (Some t) e) [
      | inl equals ↦ elim (chosen (is_blank raw) None (Some (reading s (Value Attribute name []))) (Some t) equals.1) [
        | inl blank ↦ absurd (let none = blank.1 in cc)
        | inr filled ↦
            let here : text ++ b ∷ [] ≡ front ++ (((before ++ (58 ∷ raw)) ++ 61 ∷ []) ++ []) =
            whole ∙ (ap (λ c. front ++ (before ++ (58 ∷ (raw ++ c ∷ [])))) equals.0 ∙ ap (λ xs. front ++ xs) (sym (append_assoc before (58 ∷ raw) (61 ∷ [])) ∙ sym (append-nil ((before ++ (58 ∷ raw)) ++ 61 ∷ [])))) in
            subst (λ u. Next u text b) (same_some filled.1)
            (front, (before ++ (58 ∷ raw)) ++ 61 ∷ [], [], lead, has, (before ++ (58 ∷ raw), inr (before, raw, is, (all, filled.0), refl), refl), (refl, refl), here)
      ]
      | inr other ↦ elim (chosen (is_token_byte b) (Some (reading s (Typed name (raw ++ b ∷ [])))) None (Some t) other.1) [
        | inl byte ↦ subst (λ u. Next u text b) (same_some byte.1) (front, before, lead, has, is, all_more is_token_byte raw b all byte.0, whole)
        | inr refused ↦ absurd (let none = refused.1 in cc)
      ]
    ]

next_value : (s : Front) (kind : Kind) (name raw : List ℕ) (t : ClausesReading) (text : List ℕ) (b : ℕ) → ReachedPart s (Value kind name raw) text → value_step s kind name raw b ≡ Some t → Next t text b
next_value s kind name raw t text b (front, head, behind, lead, has, opens, (is_raw, all), same) e =
    let here : text ≡ front ++ (head ++ raw) = same ∙ ap (λ xs. front ++ (head ++ xs)) is_raw in
    elim (chosen (ends_part b) (option_map (λ value. after_part (with_argument s kind name value) b) (token raw))
    (if eqb b 34 then (if is_blank raw then Some (reading s (Quoted kind name [])) else None) else Some (reading s (Value kind name (raw ++ b ∷ [])))) (Some t) e) [
      | inl is_end ↦
          let some = map_gives (λ value. after_part (with_argument s kind name value) b) (token raw) t is_end.1 in
          let val = token_gives raw some.0 some.1 in
          subst (λ u. Next u text b) some.2 (ends_argument s kind name some.0 text front head raw b lead has opens (inl (all, val.0, val.1)) here is_end.0)
      | inr other ↦ elim (chosen_eq b 34 (if is_blank raw then Some (reading s (Quoted kind name [])) else None) (Some (reading s (Value kind name (raw ++ b ∷ [])))) (Some t) other.1) [
        | inl quote ↦ elim (chosen (is_blank raw) (Some (reading s (Quoted kind name []))) None (Some t) quote.1) [
          | inl blank ↦ subst (λ u. Next u text b) (same_some blank.1)
              (front, head, raw ++ b ∷ [], lead, has, opens, (raw, [], blank.0, ([], refl, refl, refl), ap (λ c. raw ++ c ∷ []) quote.0), behind_more front head raw text b here)
          | inr filled ↦ absurd (let none = filled.1 in cc)
        ]
        | inr last ↦
            let is : is_value_byte b ≡ true = rw (other.0, last.0) refl in
            subst (λ u. Next u text b) (same_some last.1)
            (front, head, raw ++ b ∷ [], lead, has, opens, (refl, all_more is_value_byte raw b all is), behind_more front head raw text b here)
      ]
    ]

flat_map_push : (f : Bool × ℕ → List ℕ) (xs : List (Bool × ℕ)) (x : Bool × ℕ) → flat_map f (xs ++ x ∷ []) ≡ flat_map f xs ++ f x
flat_map_push f [] x = append-nil (f x)
flat_map_push f (y ∷ xs) x = ap (λ zs. f y ++ zs) (flat_map_push f xs x) ∙ sym (append_assoc (f y) (flat_map f xs) (f x))

map_push : (f : Bool × ℕ → ℕ) (xs : List (Bool × ℕ)) (x : Bool × ℕ) → map f (xs ++ x ∷ []) ≡ map f xs ++ f x ∷ []
map_push f [] x = refl
map_push f (y ∷ xs) x = ap (λ zs. f y ∷ zs) (map_push f xs x)

quoted_more : (quote value : List ℕ) (escaped : Bool) (b : ℕ) → is_quoted_byte (escaped, b) ≡ true → IsQuoted quote value → IsQuoted (quote ++ quoted_byte (escaped, b)) (value ++ b ∷ [])
quoted_more quote value escaped b is (bytes, all, spelled, said) = (
  bytes ++ (escaped, b) ∷ [],
  rw (list_all-append is_quoted_byte bytes ((escaped, b) ∷ []), all, is) refl,
  ap (λ xs. xs ++ quoted_byte (escaped, b)) spelled ∙ sym (flat_map_push quoted_byte bytes (escaped, b)),
  ap (λ xs. xs ++ b ∷ []) said ∙ sym (map_push (λ byte. byte.1) bytes (escaped, b)),
)

next_quoted : (s : Front) (kind : Kind) (name raw : List ℕ) (t : ClausesReading) (text : List ℕ) (b : ℕ) → ReachedPart s (Quoted kind name raw) text → quoted_step s kind name raw b ≡ Some t → Next t text b
next_quoted s kind name raw t text b (front, head, behind, lead, has, opens, (before, quote, blank, is, split), same) e =
    let more : behind ++ b ∷ [] ≡ before ++ (34 ∷ (quote ++ b ∷ [])) = ap (λ xs. xs ++ b ∷ []) split ∙ append_assoc before (34 ∷ quote) (b ∷ []) in
    let here = behind_more front head behind text b same in
    elim (chosen_eq b 34 (Some (reading s (Behind kind name raw))) (if eqb b 92 then Some (reading s (Escaped kind name raw)) else Some (reading s (Quoted kind name (raw ++ b ∷ [])))) (Some t) e) [
      | inl end ↦ subst (λ u. Next u text b) (same_some end.1)
          (front, head, behind ++ b ∷ [], lead, has, opens, (before, quote, [], blank, refl, is, more ∙ ap (λ c. before ++ (34 ∷ (quote ++ c ∷ []))) end.0), here)
      | inr other ↦ elim (chosen_eq b 92 (Some (reading s (Escaped kind name raw))) (Some (reading s (Quoted kind name (raw ++ b ∷ [])))) (Some t) other.1) [
        | inl escape ↦ subst (λ u. Next u text b) (same_some escape.1)
            (front, head, behind ++ b ∷ [], lead, has, opens, (behind, (before, quote, blank, is, split), ap (λ c. behind ++ c ∷ []) escape.0), here)
        | inr last ↦
            let plain : is_quoted_byte (false, b) ≡ true = rw (other.0, last.0) refl in
            subst (λ u. Next u text b) (same_some last.1)
            (front, head, behind ++ b ∷ [], lead, has, opens, (before, quote ++ b ∷ [], blank, quoted_more quote raw false b plain is, more), here)
      ]
    ]

next_escaped : (s : Front) (kind : Kind) (name raw : List ℕ) (t : ClausesReading) (text : List ℕ) (b : ℕ) → ReachedPart s (Escaped kind name raw) text → Some (reading s (Quoted kind name (raw ++ b ∷ []))) ≡ Some t → Next t text b
next_escaped s kind name raw t text b (front, head, behind, lead, has, opens, (begun, (before, quote, blank, is, split), escape), same) e =
    let more : behind ++ b ∷ [] ≡ before ++ (34 ∷ (quote ++ (92 ∷ b ∷ []))) =
    ap (λ xs. xs ++ b ∷ []) (escape ∙ (ap (λ xs. xs ++ (92 ∷ [])) split ∙ append_assoc before (34 ∷ quote) (92 ∷ []))) ∙ (append_assoc before (34 ∷ (quote ++ (92 ∷ []))) (b ∷ []) ∙ ap (λ xs. before ++ (34 ∷ xs)) (append_assoc quote (92 ∷ []) (b ∷ []))) in
    subst (λ u. Next u text b) (same_some e)
    (front, head, behind ++ b ∷ [], lead, has, opens, (before, quote ++ (92 ∷ b ∷ []), blank, quoted_more quote raw true b refl is, more), behind_more front head behind text b same)

blank_behind : (text value : List ℕ) (b : ℕ) → IsQuotedValue text value → b ≡ 32 → IsQuotedValue (text ++ b ∷ []) value
blank_behind text value b (before, quote, behind, blank, blank', is, same) e =
    let P : ℕ → Type 0 = λ c. IsQuotedValue (text ++ c ∷ []) value in
    subst P (sym e) (
      before,
      quote,
      behind ++ 32 ∷ [],
      blank,
      all_more (λ c. eqb c 32) behind 32 blank' refl,
      is,
      ap (λ xs. xs ++ 32 ∷ []) same ∙ (append_assoc before (34 ∷ (quote ++ (34 ∷ behind))) (32 ∷ []) ∙ ap (λ xs. before ++ (34 ∷ xs)) (append_assoc quote (34 ∷ behind) (32 ∷ []))),
    )

next_behind : (s : Front) (kind : Kind) (name value : List ℕ) (t : ClausesReading) (text : List ℕ) (b : ℕ) → ReachedPart s (Behind kind name value) text → behind_step s kind name value b ≡ Some t → Next t text b
next_behind s kind name value t text b (front, head, behind, lead, has, opens, is, same) e =
    elim (chosen (ends_part b) (Some (after_part (with_argument s kind name value) b)) (if eqb b 32 then Some (reading s (Behind kind name value)) else None) (Some t) e) [
      | inl is_end ↦ subst (λ u. Next u text b) (same_some is_end.1) (ends_argument s kind name value text front head behind b lead has opens (inr is) same is_end.0)
      | inr other ↦ elim (chosen_eq b 32 (Some (reading s (Behind kind name value))) None (Some t) other.1) [
        | inl blank ↦ subst (λ u. Next u text b) (same_some blank.1) (front, head, behind ++ b ∷ [], lead, has, opens, blank_behind behind value b is blank.0, behind_more front head behind text b same)
        | inr refused ↦ absurd (let none = refused.1 in cc)
      ]
    ]

part_keeps : (s : Front) (part : Part) (t : ClausesReading) (text : List ℕ) (b : ℕ) → ReachedPart s part text → clauses_step (reading s part) b ≡ Some t → Next t text b
part_keeps s (Open raw) t text b h e = next_open s raw t text b h e
part_keeps s (Colon name) t text b h e = next_colon s name t text b h e
part_keeps s (Typed name raw) t text b h e = next_typed s name raw t text b h e
part_keeps s (Value kind name raw) t text b h e = next_value s kind name raw t text b h e
part_keeps s (Quoted kind name raw) t text b h e = next_quoted s kind name raw t text b h e
part_keeps s (Escaped kind name raw) t text b h e = next_escaped s kind name raw t text b h e
part_keeps s (Behind kind name value) t text b h e = next_behind s kind name value t text b h e

step_keeps : (r t : ClausesReading) (text : List ℕ) (b : ℕ) → Reached r text → clauses_step r b ≡ Some t → Reached t (text ++ b ∷ [])
step_keeps r t text b h e = part_keeps r.front r.part t text b h e

start_reached : Reached clauses_start []
start_reached = ([], record { texts = []; paths = []; arguments = []; whole = tt; are_paths = tt; are_arguments = (refl, refl); in_order = inr refl; same = refl }, refl, refl)

reached : (text : List ℕ) (r : ClausesReading) → run clauses_step clauses_start text ≡ Some r → Reached r text
reached text r e = run_keeps clauses_step Reached step_keeps clauses_start r [] text start_reached e

part_end : (s : Front) (part : Part) (clauses : Clauses) (text : List ℕ) → ReachedPart s part text → clauses_at_end (reading s part) ≡ Some clauses → SpellsClauses text clauses
part_end s (Open raw) clauses text (front, lead, all, same) e =
    let some = map_gives clauses_of (with_path s raw) clauses e in
    let path = path_gives s some.0 raw some.1 in
    let done = adds_path s front raw path.0 lead path.1 ((all, path.2), path.3) in
    subst (λ c. SpellsClauses text c) some.2 (subst (λ u. SpellsClauses text (clauses_of u)) path.4
    (subst (λ xs. SpellsClauses xs (clauses_of (add_path s path.0))) (sym same) (done_spelled (add_path s path.0) (front ++ raw) done.1)))
part_end s (Colon name) clauses text h e = absurd (cc)
part_end s (Typed name raw) clauses text h e = absurd (cc)
part_end s (Value kind name raw) clauses text (front, head, behind, lead, has, opens, (is_raw, all), same) e =
    let some = map_gives (λ value. clauses_of (with_argument s kind name value)) (token raw) clauses e in
    let val = token_gives raw some.0 some.1 in
    let here : text ≡ front ++ (head ++ raw) = same ∙ ap (λ xs. front ++ (head ++ xs)) is_raw in
    let done = adds_argument s kind front (head ++ raw) name some.0 lead has (argument_of kind head name raw some.0 opens (inl (all, val.0, val.1))) in
    subst (λ c. SpellsClauses text c) some.2 (subst (λ xs. SpellsClauses xs (clauses_of (with_argument s kind name some.0))) (sym here) (done_spelled (with_argument s kind name some.0) (front ++ (head ++ raw)) done.1))
part_end s (Quoted kind name raw) clauses text h e = absurd (cc)
part_end s (Escaped kind name raw) clauses text h e = absurd (cc)
part_end s (Behind kind name value) clauses text (front, head, behind, lead, has, opens, is, same) e =
    let done = adds_argument s kind front (head ++ behind) name value lead has (argument_of kind head name behind value opens (inr is)) in
    subst (λ c. SpellsClauses text c) (same_some e) (subst (λ xs. SpellsClauses xs (clauses_of (with_argument s kind name value))) (sym same) (done_spelled (with_argument s kind name value) (front ++ (head ++ behind)) done.1))

sound : (text : List ℕ) (clauses : Clauses) → reads clauses_step clauses_at_end clauses_start text ≡ Some clauses → SpellsClauses text clauses
sound text clauses e =
    let some = bind_gives clauses_at_end (run clauses_step clauses_start text) clauses e in
    part_end some.0.front some.0.part clauses text (reached text some.0 some.1) some.2

abbrev Lives : ClausesReading → Type 0
Lives r = (rest : List ℕ) × (clauses : Clauses) × (reads clauses_step clauses_at_end r rest ≡ Some clauses)

live_open : (s : Front) (raw text : List ℕ) → ReachedPart s (Open raw) text → Lives (reading s (Open raw))
live_open s raw text (front, lead, all, same) = elim (has_arguments s.clause) as (λ t. has_arguments s.clause ≡ t → Lives (reading s (Open raw))) [
  | true ↦ λ has.
      let path = has_path_where_arguments s front lead has in
      (97 ∷ 61 ∷ 97 ∷ [], clauses_of (with_argument s Attribute (without_blanks (raw ++ 97 ∷ [])) (97 ∷ [])), rw (path, not_blank_more raw) refl)
  | false ↦ λ none. (97 ∷ [], clauses_of (add_path s (without_blanks (raw ++ 97 ∷ []))), rw (none, not_blank_more raw) refl)
] refl

part_lives : (s : Front) (part : Part) (text : List ℕ) → ReachedPart s part text → Lives (reading s part)
part_lives s (Open raw) text h = live_open s raw text h
part_lives s (Colon name) text h = (61 ∷ 97 ∷ [], clauses_of (with_argument s Directive name (97 ∷ [])), refl)
part_lives s (Typed name raw) text h = (97 ∷ 61 ∷ 97 ∷ [], clauses_of (with_argument s Attribute name (97 ∷ [])), rw (not_blank_more raw) refl)
part_lives s (Value kind name raw) text h = (97 ∷ [], clauses_of (with_argument s kind name (without_blanks (raw ++ 97 ∷ []))), rw (not_blank_more raw) refl)
part_lives s (Quoted kind name raw) text h = (34 ∷ [], clauses_of (with_argument s kind name raw), refl)
part_lives s (Escaped kind name raw) text h = (97 ∷ 34 ∷ [], clauses_of (with_argument s kind name (raw ++ 97 ∷ [])), refl)
part_lives s (Behind kind name value) text h = ([], clauses_of (with_argument s kind name value), refl)

pub clauses_reader : IsReader clauses_step clauses_at_end clauses_start SpellsClauses
clauses_reader = record { sound = sound; complete = clauses_complete; live = λ front r e. part_lives r.front r.part front (reached front r e) }
