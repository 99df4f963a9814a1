-- A range of versions: its steps read what is spelled, and nothing else.
use Rattle.std.proofs.Common.{◌≡◌, ℕ, ◌⊎◌, List, [], ◌∷◌, ◌++◌, Bool, true, false, eqb, Option, Some, None, refl, sym, ap, ◌∙◌, subst, append_assoc, inl, inr, if◌then◌else◌}
use Rattle.std.specs.Option.{option_and_then, option_map}
use Rattle.std.proofs.lemmas.List.{append-nil}
use Rattle.std.proofs.lemmas.Bool.{ne_eqb}
use Rattle.osgi_version.specs.Readings.{AreBlanks, run}
use Rattle.osgi_version.specs.RangeSteps.{bound, at_least, between, first_step, floor_step, ceiling_step, range_step, range_at_end}
use Rattle.osgi_version.specs.Ranges.{opening, closing, IsFloorAlone, IsComma, IsInterval, SpellsRange}
use Rattle.osgi_version.specs.Steps.{plain_step, version_of}
use Rattle.osgi_version.specs.Versions.{IsPlain, empty_version}
use Rattle.osgi_version.specs.VersionSteps.{plain_start}
use Rattle.osgi_version.specs.declared.range.Bound.{Bound}
use Rattle.osgi_version.specs.declared.range.VersionRange.{VersionRange}
use Rattle.osgi_version.specs.declared.range_reading.RangeReading.{RangeReading}
use Rattle.osgi_version.specs.declared.range_reading.RangeReading.TheVariants.{Before, FloorAlone, Floor, CommaDue, CeilingDue, Ceiling, Behind}
use Rattle.osgi_version.specs.declared.reading.Reading.{Reading}
use Rattle.osgi_version.specs.declared.version.Version.{Version}
use Rattle.osgi_version.proofs.Blanks.{one_blank_more, padded_more, run_blanks, not_blank, not_comma, not_square, not_round}
use Rattle.osgi_version.proofs.Options.{bind_gives, map_gives, same_some, chosen_eq}
use Rattle.osgi_version.proofs.Plain.{plain_complete, plain_sound, plain_live}
use Rattle.osgi_version.proofs.Readers.{reads, IsReader, run_on, run_one, run_push, run_keeps, run_within, run_into}

-- how the steps of a version go on within those of a range

alone_follows : (r u : Reading) (b : ℕ) → plain_step r b ≡ Some u → range_step (FloorAlone r) b ≡ Some (FloorAlone u)
alone_follows r u b e = rw (not_blank r u b e, e) refl

floor_follows : (i : Bool) (r u : Reading) (b : ℕ) → plain_step r b ≡ Some u → range_step (Floor i r) b ≡ Some (Floor i u)
floor_follows i r u b e = rw (not_blank r u b e, not_comma r u b e, e) refl

ceiling_follows : (f : Bound) (r u : Reading) (b : ℕ) → plain_step r b ≡ Some u → range_step (Ceiling f r) b ≡ Some (Ceiling f u)
ceiling_follows f r u b e = rw (not_square r u b e, not_round r u b e, e) refl

ceiling_enters : (f : Bound) (u : Reading) (b : ℕ) → plain_step plain_start b ≡ Some u → range_step (CeilingDue f) b ≡ Some (Ceiling f u)
ceiling_enters f u b e = rw (not_blank plain_start u b e, e) refl

not_bracket : (u : Reading) (b c : ℕ) → plain_step plain_start c ≡ None → plain_step plain_start b ≡ Some u → eqb b c ≡ false
not_bracket u b c refused taken = ne_eqb b c (λ e. let same : plain_step plain_start b ≡ plain_step plain_start c = ap (plain_step plain_start) e in cc)

alone_enters : (u : Reading) (b : ℕ) → plain_step plain_start b ≡ Some u → range_step Before b ≡ Some (FloorAlone u)
alone_enters u b e = rw (not_blank plain_start u b e, not_bracket u b 91 refl e, not_bracket u b 40 refl e, e) refl

run_alone : (body : List ℕ) (s : Reading) (v : Version) → run plain_step plain_start body ≡ Some s → version_of s ≡ Some v → run range_step Before body ≡ Some (FloorAlone s)
run_alone [] s v e h = let start : version_of plain_start ≡ Some v = ap version_of (same_some e) ∙ h in absurd (cc)
run_alone (b ∷ bs) s v e h = run_into plain_step range_step FloorAlone Before plain_start alone_enters alone_follows s b bs e

run_ceiling : (f : Bound) (body : List ℕ) (s : Reading) (v : Version) → run plain_step plain_start body ≡ Some s → version_of s ≡ Some v → run range_step (CeilingDue f) body ≡ Some (Ceiling f s)
run_ceiling f [] s v e h = let start : version_of plain_start ≡ Some v = ap version_of (same_some e) ∙ h in absurd (cc)
run_ceiling f (b ∷ bs) s v e h = run_into plain_step range_step (Ceiling f) (CeilingDue f) plain_start (ceiling_enters f) (ceiling_follows f) s b bs e

-- what is spelled is read

alone_ends : (s : Reading) (v : Version) (blanks : List ℕ) → version_of s ≡ Some v → AreBlanks blanks → reads range_step range_at_end (FloorAlone s) blanks ≡ Some (at_least v)
alone_ends s v [] e h = rw e refl
alone_ends s v (b ∷ bs) e (blank, h) = rw (blank, e) (ap (λ o. option_and_then range_at_end o) (run_blanks range_step (Behind (at_least v)) refl bs h))

run_opening : (i : Bool) (text : List ℕ) → run range_step Before (opening i ∷ text) ≡ run range_step (Floor i plain_start) text
run_opening true text = refl
run_opening false text = refl

run_comma : (i : Bool) (s : Reading) (v : Version) (comma : List ℕ) → version_of s ≡ Some v → IsComma comma → run range_step (Floor i s) comma ≡ Some (CeilingDue (bound i v))
run_comma i s v comma e ([], behind, _, blank, same) = rw (same, e) (run_blanks range_step (CeilingDue (bound i v)) refl behind blank)
run_comma i s v comma e (b ∷ before, behind, (here, blank'), blank, same) =
    rw (same, here, e) (run_on range_step (CommaDue (bound i v)) (CommaDue (bound i v)) before (44 ∷ behind) (run_blanks range_step (CommaDue (bound i v)) refl before blank')
    ∙ run_blanks range_step (CeilingDue (bound i v)) refl behind blank)

run_closing : (f : Bound) (i : Bool) (s : Reading) (v : Version) (text : List ℕ) → version_of s ≡ Some v → run range_step (Ceiling f s) (closing i ∷ text) ≡ run range_step (Behind (between f i v)) text
run_closing f true s v text e = rw e refl
run_closing f false s v text e = rw e refl

run_interval : (i j : Bool) (low comma high rest : List ℕ) (v w : Version) → IsPlain low v → IsComma comma → IsPlain high w
    → run range_step Before (opening i ∷ (low ++ (comma ++ (high ++ (closing j ∷ rest))))) ≡ run range_step (Behind (between (bound i v) j w)) rest
run_interval i j low comma high rest v w plain is_comma plain' =
    let floor = bind_gives version_of (run plain_step plain_start low) v (plain_complete low v plain) in
    let ceiling = bind_gives version_of (run plain_step plain_start high) w (plain_complete high w plain') in
    run_opening i (low ++ (comma ++ (high ++ (closing j ∷ rest))))
    ∙ (run_on range_step (Floor i plain_start) (Floor i floor.0) low (comma ++ (high ++ (closing j ∷ rest)))
    (run_within plain_step range_step (Floor i) (floor_follows i) plain_start floor.0 low floor.1)
    ∙ (run_on range_step (Floor i floor.0) (CeilingDue (bound i v)) comma (high ++ (closing j ∷ rest)) (run_comma i floor.0 v comma floor.2 is_comma)
    ∙ (run_on range_step (CeilingDue (bound i v)) (Ceiling (bound i v) ceiling.0) high (closing j ∷ rest) (run_ceiling (bound i v) high ceiling.0 w ceiling.1 ceiling.2)
    ∙ run_closing (bound i v) j ceiling.0 w rest ceiling.2)))

same_alone : (r : VersionRange) → r.floor.inclusive ≡ true → r.ceiling ≡ None → at_least r.floor.version ≡ r
same_alone r e h = rw (← e, ← h) refl

same_interval : (r : VersionRange) (ceiling : Bound) → r.ceiling ≡ Some ceiling → between (bound r.floor.inclusive r.floor.version) ceiling.inclusive ceiling.version ≡ r
same_interval r ceiling e = ap (λ (c : Option Bound). record { floor = r.floor; ceiling = c }) (sym e)

complete_body : (body behind : List ℕ) (r : VersionRange) → IsFloorAlone body r ⊎ IsInterval body r → AreBlanks behind → reads range_step range_at_end Before (body ++ behind) ≡ Some r
complete_body body behind r (inl (plain, e, h)) blank =
    let inner = bind_gives version_of (run plain_step plain_start body) r.floor.version (plain_complete body r.floor.version plain) in
    ap (λ o. option_and_then range_at_end o) (run_on range_step Before (FloorAlone inner.0) body behind (run_alone body inner.0 r.floor.version inner.1 inner.2))
    ∙ (alone_ends inner.0 r.floor.version behind inner.2 blank ∙ ap Some (same_alone r e h))
complete_body body behind r (inr (low, comma, high, ceiling, plain, is_comma, plain', e, same)) blank =
    let regrouped : body ++ behind ≡ opening r.floor.inclusive ∷ (low ++ (comma ++ (high ++ (closing ceiling.inclusive ∷ behind)))) = rw same (simp append_assoc) in
    ap (reads range_step range_at_end Before) regrouped
    ∙ (ap (λ o. option_and_then range_at_end o)
    (run_interval r.floor.inclusive ceiling.inclusive low comma high behind r.floor.version ceiling.version plain is_comma plain'
    ∙ run_blanks range_step (Behind (between (bound r.floor.inclusive r.floor.version) ceiling.inclusive ceiling.version)) refl behind blank)
    ∙ ap Some (same_interval r ceiling e))

complete : (text : List ℕ) (r : VersionRange) → SpellsRange text r → reads range_step range_at_end Before text ≡ Some r
complete text r (body, (before, behind, blank, blank', same), is) =
    ap (reads range_step range_at_end Before) same
    ∙ (ap (λ o. option_and_then range_at_end o) (run_on range_step Before Before before (body ++ behind) (run_blanks range_step Before refl before blank))
    ∙ complete_body body behind r is blank')

-- the texts that lead to a place

abbrev IsBegun : Bool → List ℕ → List ℕ → Type 0
IsBegun i text more = (before : List ℕ) × AreBlanks before × (text ≡ before ++ (opening i ∷ more))

abbrev HasFloor : Bound → List ℕ → List ℕ → Type 0
HasFloor f text more = (low : List ℕ) × IsPlain low f.version × IsBegun f.inclusive text (low ++ more)

abbrev HasComma : Bound → List ℕ → List ℕ → Type 0
HasComma f text more = (comma : List ℕ) × IsComma comma × HasFloor f text (comma ++ more)

abbrev Reached : RangeReading → List ℕ → Type 0
Reached Before text = AreBlanks text
Reached (FloorAlone s) text = (before : List ℕ) × (body : List ℕ) × AreBlanks before × (run plain_step plain_start body ≡ Some s) × (text ≡ before ++ body)
Reached (Floor i s) text = (body : List ℕ) × (run plain_step plain_start body ≡ Some s) × IsBegun i text body
Reached (CommaDue f) text = (blanks : List ℕ) × AreBlanks blanks × HasFloor f text blanks
Reached (CeilingDue f) text = HasComma f text []
Reached (Ceiling f s) text = (body : List ℕ) × (run plain_step plain_start body ≡ Some s) × HasComma f text body
Reached (Behind r) text = SpellsRange text r

begun_more : (i : Bool) (text more : List ℕ) (b : ℕ) → IsBegun i text more → IsBegun i (text ++ b ∷ []) (more ++ b ∷ [])
begun_more i text more b (before, blank, same) = (before, blank, rw same (append_assoc before (opening i ∷ more) (b ∷ [])))

floor_more : (f : Bound) (text more : List ℕ) (b : ℕ) → HasFloor f text more → HasFloor f (text ++ b ∷ []) (more ++ b ∷ [])
floor_more f text more b (low, plain, begun) = (low, plain, subst (λ xs. IsBegun f.inclusive (text ++ b ∷ []) xs) (append_assoc low more (b ∷ [])) (begun_more f.inclusive text (low ++ more) b begun))

comma_more : (f : Bound) (text more : List ℕ) (b : ℕ) → HasComma f text more → HasComma f (text ++ b ∷ []) (more ++ b ∷ [])
comma_more f text more b (comma, is, floor) = (comma, is, subst (λ xs. HasFloor f (text ++ b ∷ []) xs) (append_assoc comma more (b ∷ [])) (floor_more f text (comma ++ more) b floor))

abbrev Next : RangeReading → List ℕ → ℕ → Type 0
Next t text b = Reached t (text ++ b ∷ [])

next_first : (t : RangeReading) (text : List ℕ) (b : ℕ) → AreBlanks text → first_step b ≡ Some t → Next t text b
next_first t text b blanks e =
    elim (chosen_eq b 91 (Some (Floor true plain_start)) (if eqb b 40 then Some (Floor false plain_start) else option_map FloorAlone (plain_step plain_start b)) (Some t) e) [
      | inl square ↦ subst (λ u. Next u text b) (same_some square.1) ([], refl, (text, blanks, ap (λ x. text ++ x ∷ []) square.0))
      | inr other ↦ elim (chosen_eq b 40 (Some (Floor false plain_start)) (option_map FloorAlone (plain_step plain_start b)) (Some t) other.1) [
        | inl round ↦ subst (λ u. Next u text b) (same_some round.1) ([], refl, (text, blanks, ap (λ x. text ++ x ∷ []) round.0))
        | inr third ↦
            let some = map_gives FloorAlone (plain_step plain_start b) t third.1 in
            subst (λ u. Next u text b) some.2 (text, b ∷ [], blanks, run_one plain_step plain_start b ∙ some.1, refl)
      ]
    ]

next_before : (t : RangeReading) (text : List ℕ) (b : ℕ) → AreBlanks text → range_step Before b ≡ Some t → Next t text b
next_before t text b blanks e =
    elim (chosen_eq b 32 (Some Before) (first_step b) (Some t) e) [
      | inl blank ↦ subst (λ u. Next u text b) (same_some blank.1) (one_blank_more text b blanks blank.0)
      | inr other ↦ next_first t text b blanks other.1
    ]

next_alone : (s : Reading) (t : RangeReading) (text : List ℕ) (b : ℕ) → Reached (FloorAlone s) text → range_step (FloorAlone s) b ≡ Some t → Next t text b
next_alone s t text b (before, body, blanks, e', same) e =
    elim (chosen_eq b 32 (option_map (λ v. Behind (at_least v)) (version_of s)) (option_map FloorAlone (plain_step s b)) (Some t) e) [
      | inl blank ↦
          let some = map_gives (λ v. Behind (at_least v)) (version_of s) t blank.1 in
          subst (λ u. Next u text b) some.2 (body, (before, b ∷ [], blanks, (blank.0, tt), rw same (append_assoc before body (b ∷ []))), inl (plain_sound body s some.0 e' some.1, refl, refl))
      | inr other ↦
          let some = map_gives FloorAlone (plain_step s b) t other.1 in
          subst (λ u. Next u text b) some.2 (before, body ++ b ∷ [], blanks, run_push plain_step plain_start s some.0 body b e' some.1, rw same (append_assoc before body (b ∷ [])))
    ]

next_floor : (i : Bool) (s : Reading) (t : RangeReading) (text : List ℕ) (b : ℕ) → Reached (Floor i s) text → floor_step i s b ≡ Some t → Next t text b
next_floor i s t text b (body, e', begun) e =
    elim (chosen_eq b 32 (option_map (λ v. CommaDue (bound i v)) (version_of s)) (if eqb b 44 then option_map (λ v. CeilingDue (bound i v)) (version_of s) else option_map (Floor i) (plain_step s b)) (Some t) e) [
      | inl blank ↦
          let some = map_gives (λ v. CommaDue (bound i v)) (version_of s) t blank.1 in
          subst (λ u. Next u text b) some.2 (b ∷ [], (blank.0, tt), (body, plain_sound body s some.0 e' some.1, begun_more i text body b begun))
      | inr other ↦ elim (chosen_eq b 44 (option_map (λ v. CeilingDue (bound i v)) (version_of s)) (option_map (Floor i) (plain_step s b)) (Some t) other.1) [
        | inl comma ↦
            let some = map_gives (λ v. CeilingDue (bound i v)) (version_of s) t comma.1 in
            subst (λ u. Next u text b) some.2 (b ∷ [], ([], [], tt, tt, ap (λ x. x ∷ []) comma.0), (body, plain_sound body s some.0 e' some.1, begun_more i text body b begun))
        | inr third ↦
            let some = map_gives (Floor i) (plain_step s b) t third.1 in
            subst (λ u. Next u text b) some.2 (body ++ b ∷ [], run_push plain_step plain_start s some.0 body b e' some.1, begun_more i text body b begun)
      ]
    ]

next_comma : (f : Bound) (t : RangeReading) (text : List ℕ) (b : ℕ) → Reached (CommaDue f) text → range_step (CommaDue f) b ≡ Some t → Next t text b
next_comma f t text b (blanks, are, floor) e =
    elim (chosen_eq b 32 (Some (CommaDue f)) (if eqb b 44 then Some (CeilingDue f) else None) (Some t) e) [
      | inl blank ↦ subst (λ u. Next u text b) (same_some blank.1) (blanks ++ b ∷ [], one_blank_more blanks b are blank.0, floor_more f text blanks b floor)
      | inr other ↦ elim (chosen_eq b 44 (Some (CeilingDue f)) None (Some t) other.1) [
        | inl comma ↦ subst (λ u. Next u text b) (same_some comma.1)
            (blanks ++ b ∷ [], (blanks, [], are, tt, ap (λ x. blanks ++ x ∷ []) comma.0), subst (λ xs. HasFloor f (text ++ b ∷ []) xs) (sym (append-nil (blanks ++ b ∷ []))) (floor_more f text blanks b floor))
        | inr third ↦ absurd (let none = third.1 in cc)
      ]
    ]

comma_padded : (f : Bound) (text : List ℕ) (b : ℕ) → HasComma f text [] → b ≡ 32 → HasComma f (text ++ b ∷ []) []
comma_padded f text b (comma, is, floor) e = (
  comma ++ b ∷ [],
  padded_more comma (44 ∷ []) b is e,
  subst (λ xs. HasFloor f (text ++ b ∷ []) xs) (ap (λ xs. xs ++ b ∷ []) (append-nil comma) ∙ sym (append-nil (comma ++ b ∷ []))) (floor_more f text (comma ++ []) b floor),
)

next_ceiling_due : (f : Bound) (t : RangeReading) (text : List ℕ) (b : ℕ) → Reached (CeilingDue f) text → range_step (CeilingDue f) b ≡ Some t → Next t text b
next_ceiling_due f t text b has e =
    elim (chosen_eq b 32 (Some (CeilingDue f)) (option_map (Ceiling f) (plain_step plain_start b)) (Some t) e) [
      | inl blank ↦ subst (λ u. Next u text b) (same_some blank.1) (comma_padded f text b has blank.0)
      | inr other ↦
          let some = map_gives (Ceiling f) (plain_step plain_start b) t other.1 in
          subst (λ u. Next u text b) some.2 (b ∷ [], run_one plain_step plain_start b ∙ some.1, comma_more f text [] b has)
    ]

interval_closed : (f : Bound) (i : Bool) (v : Version) (text body : List ℕ) (b : ℕ) → HasComma f text body → IsPlain body v → b ≡ closing i → SpellsRange (text ++ b ∷ []) (between f i v)
interval_closed f i v text body b (comma, is, (low, plain, (before, blank, same))) plain' e = (
  opening f.inclusive ∷ (low ++ (comma ++ (body ++ closing i ∷ []))),
  (before, [], blank, tt, rw (same, e) (simp (append_assoc, append-nil))),
  inr (low, comma, body, bound i v, plain, is, plain', refl, refl),
)

next_ceiling : (f : Bound) (s : Reading) (t : RangeReading) (text : List ℕ) (b : ℕ) → Reached (Ceiling f s) text → ceiling_step f s b ≡ Some t → Next t text b
next_ceiling f s t text b (body, e', has) e =
    elim (chosen_eq b 93 (option_map (λ v. Behind (between f true v)) (version_of s)) (if eqb b 41 then option_map (λ v. Behind (between f false v)) (version_of s) else option_map (Ceiling f) (plain_step s b)) (Some t) e) [
      | inl square ↦
          let some = map_gives (λ v. Behind (between f true v)) (version_of s) t square.1 in
          subst (λ u. Next u text b) some.2 (interval_closed f true some.0 text body b has (plain_sound body s some.0 e' some.1) square.0)
      | inr other ↦ elim (chosen_eq b 41 (option_map (λ v. Behind (between f false v)) (version_of s)) (option_map (Ceiling f) (plain_step s b)) (Some t) other.1) [
        | inl round ↦
            let some = map_gives (λ v. Behind (between f false v)) (version_of s) t round.1 in
            subst (λ u. Next u text b) some.2 (interval_closed f false some.0 text body b has (plain_sound body s some.0 e' some.1) round.0)
        | inr third ↦
            let some = map_gives (Ceiling f) (plain_step s b) t third.1 in
            subst (λ u. Next u text b) some.2 (body ++ b ∷ [], run_push plain_step plain_start s some.0 body b e' some.1, comma_more f text body b has)
      ]
    ]

next_behind : (r : VersionRange) (t : RangeReading) (text : List ℕ) (b : ℕ) → SpellsRange text r → range_step (Behind r) b ≡ Some t → Next t text b
next_behind r t text b (body, pads, is) e =
    elim (chosen_eq b 32 (Some (Behind r)) None (Some t) e) [
      | inl blank ↦ subst (λ u. Next u text b) (same_some blank.1) (body, padded_more text body b pads blank.0, is)
      | inr other ↦ absurd (let none = other.1 in cc)
    ]

step_keeps : (s t : RangeReading) (text : List ℕ) (b : ℕ) → Reached s text → range_step s b ≡ Some t → Reached t (text ++ b ∷ [])
step_keeps Before t text b h e = next_before t text b h e
step_keeps (FloorAlone s) t text b h e = next_alone s t text b h e
step_keeps (Floor i s) t text b h e = next_floor i s t text b h e
step_keeps (CommaDue f) t text b h e = next_comma f t text b h e
step_keeps (CeilingDue f) t text b h e = next_ceiling_due f t text b h e
step_keeps (Ceiling f s) t text b h e = next_ceiling f s t text b h e
step_keeps (Behind r) t text b h e = next_behind r t text b h e

reached_end : (s : RangeReading) (r : VersionRange) (text : List ℕ) → Reached s text → range_at_end s ≡ Some r → SpellsRange text r
reached_end Before r text h e = absurd (cc)
reached_end (FloorAlone s) r text (before, body, blanks, e', same) e =
    let some = map_gives at_least (version_of s) r e in
    subst (λ u. SpellsRange text u) some.2 (body, (before, [], blanks, tt, same ∙ ap (λ xs. before ++ xs) (sym (append-nil body))), inl (plain_sound body s some.0 e' some.1, refl, refl))
reached_end (Floor i s) r text h e = absurd (cc)
reached_end (CommaDue f) r text h e = absurd (cc)
reached_end (CeilingDue f) r text h e = absurd (cc)
reached_end (Ceiling f s) r text h e = absurd (cc)
reached_end (Behind w) r text h e = subst (λ u. SpellsRange text u) (same_some e) h

sound : (text : List ℕ) (r : VersionRange) → reads range_step range_at_end Before text ≡ Some r → SpellsRange text r
sound text r e =
    let some = bind_gives range_at_end (run range_step Before text) r e in
    reached_end some.0 r text (run_keeps range_step Reached step_keeps Before some.0 [] text tt some.1) some.2

-- each place can be gone on from

abbrev Lives : RangeReading → Type 0
Lives s = (rest : List ℕ) × (r : VersionRange) × (reads range_step range_at_end s rest ≡ Some r)

-- by more bytes, to a place that can be gone on from
on_to : (s t : RangeReading) (front : List ℕ) → run range_step s front ≡ Some t → Lives t → Lives s
on_to s t front e (rest, r, h) = (front ++ rest, r, ap (λ o. option_and_then range_at_end o) (run_on range_step s t front rest e) ∙ h)

live_ceiling : (f : Bound) (s : Reading) → Lives (Ceiling f s)
live_ceiling f s =
    let more = plain_live s in
    let some = bind_gives version_of (run plain_step s more.0) more.1 more.2 in
    on_to (Ceiling f s) (Ceiling f some.0) more.0 (run_within plain_step range_step (Ceiling f) (ceiling_follows f) s some.0 more.0 some.1)
    (93 ∷ [], between f true more.1, rw some.2 refl)

live_ceiling_due : (f : Bound) → Lives (CeilingDue f)
live_ceiling_due f = (48 ∷ 93 ∷ [], between f true empty_version, refl)

live_floor : (i : Bool) (s : Reading) → Lives (Floor i s)
live_floor i s =
    let more = plain_live s in
    let some = bind_gives version_of (run plain_step s more.0) more.1 more.2 in
    on_to (Floor i s) (Floor i some.0) more.0 (run_within plain_step range_step (Floor i) (floor_follows i) s some.0 more.0 some.1)
    (on_to (Floor i some.0) (CeilingDue (bound i more.1)) (44 ∷ []) (rw some.2 refl) (live_ceiling_due (bound i more.1)))

live_alone : (s : Reading) → Lives (FloorAlone s)
live_alone s =
    let more = plain_live s in
    let some = bind_gives version_of (run plain_step s more.0) more.1 more.2 in
    on_to (FloorAlone s) (FloorAlone some.0) more.0 (run_within plain_step range_step FloorAlone alone_follows s some.0 more.0 some.1) ([], at_least more.1, rw some.2 refl)

live : (s : RangeReading) → Lives s
live Before = (48 ∷ [], at_least empty_version, refl)
live (FloorAlone s) = live_alone s
live (Floor i s) = live_floor i s
live (CommaDue f) = (44 ∷ 48 ∷ 93 ∷ [], between f true empty_version, refl)
live (CeilingDue f) = live_ceiling_due f
live (Ceiling f s) = live_ceiling f s
live (Behind r) = ([], r, refl)

pub range_reader : IsReader range_step range_at_end Before SpellsRange
range_reader = record { sound = sound; complete = complete; live = λ _ s _. live s }
