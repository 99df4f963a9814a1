-- That heights stay right while more become known, and that they are the levels.
use Rattle.std.proofs.Common.{◌≡◌, ◌<◌, ◌≤◌, ℕ, zero, suc, ◌+◌, List, [], ◌∷◌, ◌++◌, length, get_or, drop, drop-cons, add-one, ap, sym, ◌∙◌, refl, Bool, true, false, not, arith, inl, inr, subst, Option, Some, None}
use Rattle.std.proofs.Math.ListN.{set, get_or-map}
use Rattle.std.proofs.Math.Seq.{get_or-append_seam}
use Rattle.std.specs.Prelude.{max, map, ◌==◌, nat_lt}
use Rattle.std.specs.List.{filter}
use Rattle.std.specs.Option.{is_some}
use Rattle.std.proofs.lemmas.Bool.{cases_lt, eqb-true, eq-eqb, or_cases, false≢true, lt-ltb, le-ltb}
use Rattle.std.proofs.lemmas.List.{length-map, length-set, get_or-set_same, get_or-set_other, get_or_append_left, get_or_default}
use Rattle.std.proofs.lemmas.Grind.{same_number_lists}
use Rattle.component_dto.specs.declared.description.Description.{Description}
use Rattle.level_order.specs.Heights.{AreHeights, AreKnown, AreSound, IsOpen, IsRaised, height_over, higher, rise_at}
use Rattle.level_order.specs.Levels.{AreLevels, IsAcyclic, level_from}
use Rattle.level_order.specs.Links.{AreLinks}
use Rattle.level_order.specs.Uses.{all_uses, uses_of, level_above, levels_above}
use Rattle.level_order.specs.Ways.{has, known_count}
use Rattle.level_order.proofs.LeastLemmas.{level_is, above_has, attained}
use Rattle.level_order.proofs.StepLemmas.{known_le, or_first, or_later}
use Rattle.level_order.proofs.SpreadLemmas.{apart_or_same}
use Rattle.level_order.proofs.UsesLemmas.{levels_above_uses}

none_some : {X : Type 0} {x : X} → None ≡ Some x → ⊥
none_some e = cc

some_same : {m n : ℕ} → Some m ≡ Some n → m ≡ n
some_same e = cc

-- ---- one place's height

-- each place has a height, and what is over the first is over the rest too
record Parts (rise : ℕ) (o r : Option ℕ) (h : ℕ) : Type 0 where
  first : ℕ
  rest : ℕ
  first_is : o ≡ Some first
  rest_is : r ≡ Some rest
  is : h ≡ max (first + rise) rest

parts : (rise : ℕ) (o r : Option ℕ) (h : ℕ) → higher rise o r ≡ Some h → Parts rise o r h
parts rise None r h e = absurd (none_some e)
parts rise (Some a) None h e = absurd (none_some e)
parts rise (Some a) (Some b) h e = record { first = a; rest = b; first_is = refl; rest_is = refl; is = sym (some_same e) }

over_stays : (rise : ℕ) (places : List ℕ) (old new : List (Option ℕ)) → ((p h : ℕ) → get_or old p None ≡ Some h → get_or new p None ≡ Some h) → (h : ℕ) → height_over rise places old ≡ Some h → height_over rise places new ≡ Some h
over_stays rise [] old new stays h e = e
over_stays rise (p ∷ places) old new stays h e =
    let two = parts rise (get_or old p None) (height_over rise places old) h e in
    ap (λ o. higher rise o (height_over rise places new)) (stays p two.first two.first_is)
    ∙ ap (higher rise (Some two.first)) (over_stays rise places old new stays two.rest two.rest_is) ∙ ap Some (sym two.is)

-- what lies over a place is no lower than it and its rise
over_has : (rise : ℕ) (places : List ℕ) (heights : List (Option ℕ)) (h p : ℕ) → height_over rise places heights ≡ Some h → has places p ≡ true → (g : ℕ) × (get_or heights p None ≡ Some g) × (g + rise ≤ h)
over_has rise [] heights h p e among = absurd (false≢true among)
over_has rise (x ∷ places) heights h p e among =
    let two = parts rise (get_or heights x None) (height_over rise places heights) h e in
    elim (or_cases (x == p) (has places p) among) [
      | inl here ↦ (two.first, ap (λ w. get_or heights w None) (sym (eqb-true x p here)) ∙ two.first_is, omega (arith, two.is))
      | inr later ↦ (let rest = over_has rise places heights two.rest p two.rest_is later in (rest.0, rest.1, omega (arith, rest.2, two.is)))
    ]

-- and no higher than it has to be
over_some : (rise : ℕ) (places : List ℕ) (heights : List (Option ℕ)) (h : ℕ) → height_over rise places heights ≡ Some h → 0 < h → (p : ℕ) × (has places p ≡ true) × (g : ℕ) × (get_or heights p None ≡ Some g) × (h ≡ g + rise)
over_some rise [] heights h e some = absurd (omega (arith, some_same e, some))
over_some rise (x ∷ places) heights h e some =
    let two = parts rise (get_or heights x None) (height_over rise places heights) h e in
    elim (cases_lt (two.first + rise) two.rest) [
      | inl above ↦ (let rest = over_some rise places heights two.rest two.rest_is (omega (arith, above)) in (rest.0, or_later (x == rest.0) (has places rest.0) rest.1, rest.2, rest.3, omega (arith, rest.4, two.is, above)))
      | inr below ↦ (x, or_first (x == x) (has places x) (eq-eqb x x refl), two.first, two.first_is, omega (arith, two.is, below))
    ]

-- where one of the places has no height, none lies over them
over_none : (rise : ℕ) (places : List ℕ) (heights : List (Option ℕ)) → height_over rise places heights ≡ None → (p : ℕ) × (has places p ≡ true) × (get_or heights p None ≡ None)
over_none rise [] heights e = absurd (none_some (sym e))
over_none rise (x ∷ places) heights e = cases (over_none rise places heights) (get_or heights x None) (height_over rise places heights) refl refl e where
  cases : (height_over rise places heights ≡ None → (p : ℕ) × (has places p ≡ true) × (get_or heights p None ≡ None)) → (o r : Option ℕ) → get_or heights x None ≡ o → height_over rise places heights ≡ r → higher rise o r ≡ None → (p : ℕ) × (has (x ∷ places) p ≡ true) × (get_or heights p None ≡ None)
  cases rec None r is rest e = (x, or_first (x == x) (has places x) (eq-eqb x x refl), is)
  cases rec (Some a) None is rest e = (let later = rec rest in (later.0, or_later (x == later.0) (has places later.0) later.1, later.2))
  cases rec (Some a) (Some b) is rest e = absurd (none_some (sym e))

-- the higher of a height and what lies over the rest
abbrev pub joined : ℕ → Option ℕ → Option ℕ
joined highest None = None
joined highest (Some h) = Some (max highest h)

pub joined_start : (o : Option ℕ) → o ≡ joined 0 o
joined_start None = refl
joined_start (Some h) = ap Some (omega arith)

joined_more : (highest rise : ℕ) (h : ℕ) (r : Option ℕ) → joined highest (higher rise (Some h) r) ≡ joined (max highest (h + rise)) r
joined_more highest rise h None = refl
joined_more highest rise h (Some r) = ap Some (omega arith)

joined_none : (highest rise : ℕ) (r : Option ℕ) → joined highest (higher rise None r) ≡ None
joined_none highest rise r = refl

over_drop : (rise : ℕ) (places : List ℕ) (heights : List (Option ℕ)) (i : ℕ) → i < length places → height_over rise (drop i places) heights ≡ higher rise (get_or heights (get_or places i 0) None) (height_over rise (drop (i + 1) places) heights)
over_drop rise places heights i within = ap (λ w. height_over rise w heights) (drop-cons places i 0 within) ∙ rw (add-one i) refl

-- one more place in the loop
pub joined_step : (rise : ℕ) (places : List ℕ) (heights : List (Option ℕ)) (i highest h : ℕ) → i < length places → get_or heights (get_or places i 0) None ≡ Some h → height_over rise places heights ≡ joined highest (height_over rise (drop i places) heights)
    → height_over rise places heights ≡ joined (max highest (h + rise)) (height_over rise (drop (i + 1) places) heights)
joined_step rise places heights i highest h within is so_far = so_far ∙ ap (joined highest) (over_drop rise places heights i within ∙ ap (λ o. higher rise o (height_over rise (drop (i + 1) places) heights)) is) ∙ joined_more highest rise h (height_over rise (drop (i + 1) places) heights)

pub joined_stop : (rise : ℕ) (places : List ℕ) (heights : List (Option ℕ)) (i highest : ℕ) → i < length places → get_or heights (get_or places i 0) None ≡ None → height_over rise places heights ≡ joined highest (height_over rise (drop i places) heights)
    → None ≡ height_over rise places heights
joined_stop rise places heights i highest within is so_far = sym (so_far ∙ ap (joined highest) (over_drop rise places heights i within ∙ ap (λ o. higher rise o (height_over rise (drop (i + 1) places) heights)) is) ∙ joined_none highest rise (height_over rise (drop (i + 1) places) heights))

-- ---- more heights

pub raised_none : (first : ℕ) (links : List (List ℕ)) (heights : List (Option ℕ)) → AreSound first links heights → IsRaised first links heights heights
raised_none first links heights sound = record { sound = sound; stays = λ place h e. e }

pub raised_more : (first : ℕ) (links : List (List ℕ)) (a b c : List (Option ℕ)) → IsRaised first links a b → IsRaised first links b c → IsRaised first links a c
raised_more first links a b c one two = record { sound = two.sound; stays = λ place h e. two.stays place h (one.stays place h e) }

-- what lies over a place, and the heights with that one
abbrev pub over_of : ℕ → List (List ℕ) → List (Option ℕ) → ℕ → Option ℕ
over_of first links heights place = height_over (rise_at first place) (get_or links place []) heights

abbrev pub with_over : ℕ → List (List ℕ) → List (Option ℕ) → ℕ → List (Option ℕ)
with_over first links heights place = set heights place (over_of first links heights place)

over_here : (first : ℕ) (links : List (List ℕ)) (heights : List (Option ℕ)) (place : ℕ) → AreSound first links heights → place < length links → get_or (with_over first links heights place) place None ≡ over_of first links heights place
over_here first links heights place sound within = get_or-set_same heights place (over_of first links heights place) None (omega (arith, within, sound.same))

over_there : (first : ℕ) (links : List (List ℕ)) (heights : List (Option ℕ)) (place p : ℕ) → (p ≡ place → ⊥) → get_or (with_over first links heights place) p None ≡ get_or heights p None
over_there first links heights place p other = get_or-set_other heights place p (over_of first links heights place) None other

over_keeps : (first : ℕ) (links : List (List ℕ)) (heights : List (Option ℕ)) (place : ℕ) → get_or heights place None ≡ None → (p h : ℕ) → get_or heights p None ≡ Some h → get_or (with_over first links heights place) p None ≡ Some h
over_keeps first links heights place none p h e = elim (apart_or_same p place) [
  | inl same ↦ absurd (none_some (sym none ∙ ap (λ w. get_or heights w None) (sym same) ∙ e))
  | inr other ↦ over_there first links heights place p other ∙ e
]

over_sound : (first : ℕ) (links : List (List ℕ)) (heights : List (Option ℕ)) (place : ℕ) → AreSound first links heights → place < length links → (p h : ℕ) → get_or (with_over first links heights place) p None ≡ Some h → over_of first links heights p ≡ Some h
over_sound first links heights place sound within p h e = elim (apart_or_same p place) [
  | inl same ↦ (ap (over_of first links heights) same ∙ sym (over_here first links heights place sound within) ∙ ap (λ w. get_or (with_over first links heights place) w None) (sym same) ∙ e)
  | inr other ↦ sound.sound p h (sym (over_there first links heights place p other) ∙ e)
]

-- a place without a height is given the one over those that it leads to
pub raised_one : (first : ℕ) (links : List (List ℕ)) (heights : List (Option ℕ)) (place : ℕ) → AreSound first links heights → place < length links → get_or heights place None ≡ None
    → IsRaised first links heights (set heights place (height_over (rise_at first place) (get_or links place []) heights))
raised_one first links heights place sound within none = record {
  sound = record {
    same = length-set heights place (over_of first links heights place) ∙ sound.same;
    sound = λ p h e. over_stays (rise_at first p) (get_or links p []) heights (with_over first links heights place) (over_keeps first links heights place none) h (over_sound first links heights place sound within p h e);
  };
  stays = over_keeps first links heights place none;
}

known_none : (steps : List (Option ℕ)) → known_count (None ∷ steps) ≡ known_count steps
known_none steps = omega arith

known_some : (m : ℕ) (steps : List (Option ℕ)) → known_count (Some m ∷ steps) ≡ 1 + known_count steps
known_some m steps = omega arith

-- more are known, or as many
pub count_stays : (old new : List (Option ℕ)) → length new ≡ length old → ((p h : ℕ) → get_or old p None ≡ Some h → get_or new p None ≡ Some h) → known_count old ≤ known_count new
count_stays [] [] same stays = omega arith
count_stays [] (n ∷ new) same stays = absurd (omega (arith, same))
count_stays (o ∷ old) [] same stays = absurd (omega (arith, same))
count_stays (None ∷ old) (None ∷ new) same stays = omega (arith, known_none old, known_none new, count_stays old new (omega (arith, same)) (λ p h. stays (suc p) h))
count_stays (None ∷ old) (Some n ∷ new) same stays = omega (arith, known_none old, known_some n new, count_stays old new (omega (arith, same)) (λ p h. stays (suc p) h))
count_stays (Some o ∷ old) (None ∷ new) same stays = absurd (none_some (stays 0 o refl))
count_stays (Some o ∷ old) (Some n ∷ new) same stays = omega (arith, known_some o old, known_some n new, count_stays old new (omega (arith, same)) (λ p h. stays (suc p) h))

pub count_grows : (old new : List (Option ℕ)) → length new ≡ length old → ((p h : ℕ) → get_or old p None ≡ Some h → get_or new p None ≡ Some h) → (place h : ℕ) → get_or old place None ≡ None → get_or new place None ≡ Some h → known_count old < known_count new
count_grows [] [] same stays place h none some = absurd (none_some some)
count_grows [] (n ∷ new) same stays place h none some = absurd (omega (arith, same))
count_grows (o ∷ old) [] same stays place h none some = absurd (none_some some)
count_grows (None ∷ old) (None ∷ new) same stays zero h none some = absurd (none_some some)
count_grows (None ∷ old) (Some n ∷ new) same stays zero h none some = omega (arith, known_none old, known_some n new, count_stays old new (omega (arith, same)) (λ p h. stays (suc p) h))
count_grows (Some o ∷ old) (n ∷ new) same stays zero h none some = absurd (none_some (sym none))
count_grows (None ∷ old) (None ∷ new) same stays (suc place) h none some = omega (arith, known_none old, known_none new, count_grows old new (omega (arith, same)) (λ p h. stays (suc p) h) place h none some)
count_grows (None ∷ old) (Some n ∷ new) same stays (suc place) h none some = omega (arith, known_none old, known_some n new, count_grows old new (omega (arith, same)) (λ p h. stays (suc p) h) place h none some)
count_grows (Some o ∷ old) (None ∷ new) same stays (suc place) h none some = absurd (none_some (stays 0 o refl))
count_grows (Some o ∷ old) (Some n ∷ new) same stays (suc place) h none some = omega (arith, known_some o old, known_some n new, count_grows old new (omega (arith, same)) (λ p h. stays (suc p) h) place h none some)

-- where all are known none is missing
all_known : (steps : List (Option ℕ)) → length steps ≤ known_count steps → (p : ℕ) → p < length steps → get_or steps p None ≡ None → ⊥
all_known [] all p within none = omega (arith, within)
all_known (None ∷ steps) all p within none = omega (arith, all, known_none steps, known_le steps)
all_known (Some m ∷ steps) all zero within none = none_some (sym none)
all_known (Some m ∷ steps) all (suc p) within none = all_known steps (omega (arith, all, known_some m steps)) p (omega (arith, within)) none

-- after so many rounds all are known
pub heights_end : (first : ℕ) (links : List (List ℕ)) (heights : List (Option ℕ)) → AreSound first links heights → length links ≤ known_count heights → AreHeights first links heights
heights_end first links heights sound all = record {
  sound = sound;
  all = λ place within open_there. all_known heights (omega (arith, all, sound.same)) place (omega (arith, within, sound.same)) open_there.none;
}

-- ---- heights of descriptions are their levels

low_rise : (first place : ℕ) → place < first → rise_at first place ≡ 0
low_rise first place below = rw (lt-ltb place first below) refl

high_rise : (first place : ℕ) → first ≤ place → rise_at first place ≡ 1
high_rise first place above = rw (le-ltb place first above) refl

-- what lies over a place, by its rise
over_at : (first : ℕ) (links : List (List ℕ)) (heights : List (Option ℕ)) → AreSound first links heights → (place rise h : ℕ) → rise_at first place ≡ rise → get_or heights place None ≡ Some h → height_over rise (get_or links place []) heights ≡ Some h
over_at first links heights sound place rise h is e = ap (λ r. height_over r (get_or links place []) heights) (sym is) ∙ sound.sound place h e

pub known_levels : (ds : List Description) (onward back : List (List ℕ)) (heights : List (Option ℕ)) (levels : List ℕ) → AreLinks ds onward back → AreHeights (length ds) onward heights → AreKnown (length ds) heights levels → AreLevels ds levels
known_levels ds onward back heights levels links all known =
    same_number_lists levels (levels_above (all_uses ds) levels) (known.same ∙ sym (length-map ds (λ d. uses_of d ds)) ∙ sym (length-map (all_uses ds) (λ places. level_above places levels)))
    (λ i within. level i (omega (arith, within, known.same)) ∙ sym (get_or-map (λ places. level_above places levels) (all_uses ds) i []))
    ∙ levels_above_uses ds ds levels (sym known.same) where
      level_of : (i h : ℕ) → i < length ds → get_or heights i None ≡ Some h → get_or levels i 0 ≡ h
      level_of i h below e = some_same (sym (known.at i below) ∙ e)

      over : (place rise h : ℕ) → rise_at (length ds) place ≡ rise → get_or heights place None ≡ Some h → height_over rise (get_or onward place []) heights ≡ Some h
      over = over_at (length ds) onward heights all.sound

      not_above : (i : ℕ) → i < length ds → get_or levels i 0 ≤ level_above (get_or (all_uses ds) i []) levels
      not_above i below = elim (cases_lt 0 (get_or levels i 0)) [
        | inl some ↦ (
            let top = over_some 0 (get_or onward i []) heights (get_or levels i 0) (over i 0 (get_or levels i 0) (low_rise (length ds) i below) (known.at i below)) some in
            let over_ds = (links.interfaces i top.0 below top.1).0 in
            let next = over_some 1 (get_or onward top.0 []) heights top.2 (over top.0 1 top.2 (high_rise (length ds) top.0 over_ds) top.3) (omega (arith, some, top.4)) in
            let within = links.descriptions top.0 next.0 over_ds next.1 in
            omega (arith, top.4, next.4, level_of next.0 next.2 within next.3, above_has (get_or (all_uses ds) i []) levels next.0 (links.consumed i top.0 next.0 below top.1 next.1)))
        | inr none ↦ omega (arith, none)
      ]

      not_below : (i : ℕ) → i < length ds → level_above (get_or (all_uses ds) i []) levels ≤ get_or levels i 0
      not_below i below = elim (cases_lt 0 (level_above (get_or (all_uses ds) i []) levels)) [
        | inl some ↦ (
            let best = attained (get_or (all_uses ds) i []) levels some in
            let way = links.between i best.0 best.1 in
            let over_ds = (links.interfaces i way.0 below way.1).0 in
            let top = over_has 0 (get_or onward i []) heights (get_or levels i 0) way.0 (over i 0 (get_or levels i 0) (low_rise (length ds) i below) (known.at i below)) way.1 in
            let next = over_has 1 (get_or onward way.0 []) heights top.0 best.0 (over way.0 1 top.0 (high_rise (length ds) way.0 over_ds) top.1) way.2 in
            let within = links.descriptions way.0 best.0 over_ds way.2 in
            omega (arith, best.2, top.2, next.2, level_of best.0 next.0 within next.1))
        | inr none ↦ omega (arith, none)
      ]

      level : (i : ℕ) → i < length ds → get_or levels i 0 ≡ level_above (get_or (all_uses ds) i []) levels
      level i below = omega (arith, not_above i below, not_below i below)

-- a description without a height stands above another one without, and so on, which levels don't allow
pub unknown_cyclic : (ds : List Description) (onward back : List (List ℕ)) (heights : List (Option ℕ)) → AreLinks ds onward back → AreHeights (length ds) onward heights → (i : ℕ) → i < length ds → get_or heights i None ≡ None → ¬ IsAcyclic ds
unknown_cyclic ds onward back heights links all i below none acyclic = descend (suc (get_or acyclic.0 i 0)) i (omega arith) below none where
  stuck : (place rise : ℕ) → rise_at (length ds) place ≡ rise → place < length onward → get_or heights place None ≡ None → (p : ℕ) × (has (get_or onward place []) p ≡ true) × (get_or heights p None ≡ None)
  stuck place rise is within none = over_none (rise_at (length ds) place) (get_or onward place []) heights (cases (height_over (rise_at (length ds) place) (get_or onward place []) heights) refl) where
    cases : (o : Option ℕ) → height_over (rise_at (length ds) place) (get_or onward place []) heights ≡ o → height_over (rise_at (length ds) place) (get_or onward place []) heights ≡ None
    cases None e = e
    cases (Some h) e = absurd (all.all place within (record { none = none; height = h; over = e }))

  descend : (n i : ℕ) → get_or acyclic.0 i 0 < n → i < length ds → get_or heights i None ≡ None → ⊥
  descend zero i low below none = omega (arith, low)
  descend (suc n) i low below none =
      let way = stuck i 0 (low_rise (length ds) i below) (omega (arith, below, links.some)) none in
      let facts = links.interfaces i way.0 below way.1 in
      let next = stuck way.0 1 (high_rise (length ds) way.0 facts.0) facts.1 way.2 in
      let within = links.descriptions way.0 next.0 facts.0 next.1 in
      descend n next.0 (omega (arith, low, level_is ds acyclic.0 acyclic.1 i, above_has (get_or (all_uses ds) i []) acyclic.0 next.0 (links.consumed i way.0 next.0 below way.1 next.1))) within next.2

-- one more height is known
pub known_more : (heights : List (Option ℕ)) (known : List ℕ) (place h : ℕ) → length known ≡ place → ((p : ℕ) → p < place → get_or heights p None ≡ Some (get_or known p 0)) → get_or heights place None ≡ Some h
    → (p : ℕ) → p < place + 1 → get_or heights p None ≡ Some (get_or (known ++ h ∷ []) p 0)
known_more heights known place h long so_far here p below = elim (cases_lt p place) [
  | inl before ↦ (so_far p before ∙ ap Some (sym (get_or_append_left known (h ∷ []) 0 p (omega (arith, before, long)))))
  | inr from ↦ (let same : p ≡ place = omega (arith, from, below) in
      ap (λ w. get_or heights w None) same ∙ here ∙ ap Some (sym (ap (λ w. get_or (known ++ h ∷ []) w 0) (omega (arith, same, long)) ∙ get_or-append_seam known h [] 0)))
]

-- ---- what the code sees

is_none_at : (o : Option ℕ) (b : Bool) → is_some o ≡ not b → b ≡ true → o ≡ None
is_none_at None b is sure = refl
is_none_at (Some h) b is sure = absurd (false≢true (sym (is ∙ ap not sure)))

is_some_at : (o : Option ℕ) (b : Bool) → b ≡ is_some o → b ≡ true → (h : ℕ) × (o ≡ Some h)
is_some_at None b is sure = absurd (false≢true (sym is ∙ sure))
is_some_at (Some h) b is sure = (h, refl)

pub over_is : (first place : ℕ) (links : List (List ℕ)) (heights : List (Option ℕ)) (rise : ℕ) (places item : List ℕ) (o : Option ℕ) → place < length links → o ≡ height_over rise places heights → rise ≡ rise_at first place → places ≡ item → item ≡ get_or links place item
    → o ≡ over_of first links heights place
over_is first place links heights rise places item o within is is_rise same at =
    is ∙ ap (λ r. height_over r places heights) is_rise ∙ ap (λ w. height_over (rise_at first place) w heights) (same ∙ at ∙ get_or_default links place item [] within)

pub is_open : (first : ℕ) (links : List (List ℕ)) (heights : List (Option ℕ)) (place : ℕ) (height over : Option ℕ) (n s : Bool) → height ≡ get_or heights place None → is_some height ≡ not n → n ≡ true → over ≡ over_of first links heights place → s ≡ is_some over → s ≡ true → IsOpen first links heights place
is_open first links heights place height over n s at none_is none over_at some_is some =
    let found = is_some_at over s some_is some in
    record { none = sym at ∙ is_none_at height n none_is none; height = found.0; over = sym over_at ∙ found.1 }

pub not_open_known : (first : ℕ) (links : List (List ℕ)) (heights : List (Option ℕ)) (place : ℕ) (height : Option ℕ) (n : Bool) → height ≡ get_or heights place None → is_some height ≡ not n → n ≡ false → IsOpen first links heights place → ⊥
not_open_known first links heights place height n at none_is known there = false≢true (sym (ap is_some (at ∙ there.none)) ∙ none_is ∙ ap not known)

pub not_open_over : (first : ℕ) (links : List (List ℕ)) (heights : List (Option ℕ)) (place : ℕ) (over : Option ℕ) (s : Bool) → over ≡ over_of first links heights place → s ≡ is_some over → s ≡ false → IsOpen first links heights place → ⊥
not_open_over first links heights place over s over_at some_is none there = false≢true (sym none ∙ some_is ∙ ap is_some (over_at ∙ there.over))

pub open_before : (first : ℕ) (links : List (List ℕ)) (heights : List (Option ℕ)) (place : ℕ) → ((p : ℕ) → p < place → ¬ IsOpen first links heights p) → ¬ IsOpen first links heights place → (p : ℕ) → p < place + 1 → ¬ IsOpen first links heights p
open_before first links heights place before here p below there = elim (cases_lt p place) [
  | inl earlier ↦ before p earlier there
  | inr from ↦ here (subst (λ w. IsOpen first links heights w) (omega (arith, from, below)) there)
]

pub raised_at : (first : ℕ) (links : List (List ℕ)) (heights : List (Option ℕ)) (place : ℕ) (height old : Option ℕ) (n : Bool) → AreSound first links heights → place < length links → height ≡ over_of first links heights place → old ≡ get_or heights place None → is_some old ≡ not n → n ≡ true
    → IsRaised first links heights (set heights place height)
raised_at first links heights place height old n sound within is at none_is none =
    subst (λ w. IsRaised first links heights (set heights place w)) (sym is) (raised_one first links heights place sound within (sym at ∙ is_none_at old n none_is none))

pub raised_grows : (first : ℕ) (links : List (List ℕ)) (heights : List (Option ℕ)) (place : ℕ) (height : Option ℕ) → AreSound first links heights → place < length links → height ≡ over_of first links heights place → IsRaised first links heights (set heights place height)
    → IsOpen first links heights place → known_count heights < known_count (set heights place height)
raised_grows first links heights place height sound within is raised there =
    count_grows heights (set heights place height) (length-set heights place height) raised.stays place there.height there.none
    (get_or-set_same heights place height None (omega (arith, within, sound.same)) ∙ is ∙ there.over)

pub raised_count : (first : ℕ) (links : List (List ℕ)) (old new : List (Option ℕ)) → AreSound first links old → IsRaised first links old new → known_count old ≤ known_count new
raised_count first links old new sound raised = count_stays old new (raised.sound.same ∙ sym sound.same) raised.stays
