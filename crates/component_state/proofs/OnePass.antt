-- There is just one pass: what is said of its result leaves no choice.
use Rattle.std.proofs.Common.{inl, inr, ◌⊎◌, ◌≡◌, ◌<◌, ◌≤◌, ℕ, zero, suc, List, [], ◌∷◌, ◌++◌, ap, sym, ◌∙◌, refl, Bool, true, false, cond, ◌&&◌, ◌||◌, append-nil, arith}
use Rattle.std.specs.Prelude.{filter, fold, map, not, ◌==◌, nat_lt}
use Rattle.std.specs.List.{Contains}
use Rattle.std.proofs.lemmas.Bool.{cases_Bool, cases_eq, and_parts, and_right, eqb-true, ltb-true, false_from_ne_true, false≢true}
use Rattle.std.proofs.lemmas.List.{map-append}
use Rattle.std.proofs.lemmas.List.Elements.{filter-append}
use Rattle.std.proofs.lemmas.List.Folds.{list_any-append}
use Rattle.reference_match.specs.declared.need.Need.{Need}
use Rattle.journal_core.specs.declared.entry.Opened.{Opened}
use Rattle.service_registry.specs.declared.row.ServiceRow.{ServiceRow}
use Rattle.level_order.specs.Levels.{consumes}
use Rattle.component_state.specs.declared.component.Component.{Component}
use Rattle.component_state.specs.declared.origin.Origin.{Origin}
use Rattle.component_state.specs.declared.open_period.OpenPeriod.{OpenPeriod}
use Rattle.component_state.specs.declared.pass.Passed.{Passed}
use Rattle.component_state.specs.Components.{needs_of, numbers_of, existing, of_level, pass_order_below, level_of, level_count}
use Rattle.component_state.specs.Marks.{with_leaving}
use Rattle.component_state.specs.Passes.{Stage, services_in, pass_order_of, held_back_in, satisfied_where, closing, opening, opened_one, opened_from, next_after, next_from, HasPassed}
use Rattle.component_state.specs.Periods.{is_open, is_current, opened_at, open_after}
use Rattle.component_state.specs.Reasons.{has_reason}
use Rattle.component_state.specs.Inside.Runs.{nothing_passed, passed_one, passed_all, has_life}
use Rattle.component_state.specs.Scratch.{is_satisfied, offered, offering, satisfied_below}
use Rattle.prop_map.specs.Words.{has}
use Rattle.component_state.proofs.AfterPass.{open_known, open_plain, opened_of}
use Rattle.component_state.proofs.Among.{Among, among_contains, contains_among, among_append, among_filter, among_map, any_witness, filter_same, filter_none, filter_twice}
use Rattle.component_state.proofs.Decisions.{OfferSame, stands, has_to_close, closes, opens, closes_same, opens_same, stands_same}
use Rattle.component_state.proofs.FinallyOpen.{leaving_if_ended, not_leaving_without, life_witness, open_from}
use Rattle.component_state.proofs.FromScratch.{stands_next}
use Rattle.component_state.proofs.Numbers.{same_component, has_filtered, number_witness, has_number}
use Rattle.component_state.proofs.OpenAfter.{IsOpenSoFar, step_so_far, begun_so_far}
use Rattle.component_state.proofs.Order.{Ordered, among_level, among_below, in_below, among_order, order_ordered}
use Rattle.component_state.proofs.Reading.{ReadsAs, step_closed, step_opened, step_next, step_satisfied, numbers_more, opened_more, next_more, not_consumed}
use Rattle.component_state.specs.Inside.ByNeeds.{serves}
use Rattle.component_state.specs.Inside.Ready.{IsPeriodOf, IsReady}
use Rattle.component_state.proofs.Needs.{not_serving, row_as_given}

numbers-append : (xs ys : List Component) (n : ℕ) → has (numbers_of (xs ++ ys)) n ≡ (has (numbers_of xs) n || has (numbers_of ys) n)
numbers-append xs ys n = ap (λ w. has w n) (map-append (λ (c : Component). c.number) xs ys) ∙ list_any-append (λ m. m == n) (numbers_of xs) (numbers_of ys)

or_none : (a b : Bool) → b ≡ false → (a || b) ≡ a
or_none true b e = refl
or_none false b e = e

-- what wasn't open opens where it stands, isn't failed and has no living instance
opens_once : (b s d w l : Bool) → (b ≡ false → w ≡ l) → (s && (not (d || w) && not b)) ≡ (not b && (s && (not d && not l)))
opens_once true true true w l same = refl
opens_once true true false true l same = refl
opens_once true true false false l same = refl
opens_once true false d w l same = refl
opens_once false false d w l same = refl
opens_once false true true w l same = refl
opens_once false true false true l same = ap not (same refl)
opens_once false true false false l same = ap not (same refl)

abbrev made : List ℕ → List Opened → List OpenPeriod → List ℕ → ℕ → Passed
made closed opened now satisfied next = record { closed = closed; opened = opened; open_now = now; satisfied = satisfied; next_service = next }

-- a state is known by its parts
same_state : (p q : Passed) → p.closed ≡ q.closed → p.opened ≡ q.opened → p.open_now ≡ q.open_now → p.satisfied ≡ q.satisfied → p.next_service ≡ q.next_service → p ≡ q
same_state p q a b c d e =
    ap (λ w. made w p.opened p.open_now p.satisfied p.next_service) a ∙ ap (λ w. made q.closed w p.open_now p.satisfied p.next_service) b
    ∙ ap (λ w. made q.closed q.opened w p.satisfied p.next_service) c ∙ ap (λ w. made q.closed q.opened q.open_now w p.next_service) d ∙ ap (made q.closed q.opened q.open_now q.satisfied) e

module _ (s : Stage) (ready : IsReady s) (p : Passed) (passed : HasPassed s p) where
  abbrev now : List OpenPeriod
  now = p.open_now

  abbrev lower : ℕ → List Component
  lower n = satisfied_below s.descriptions s.levels s.direct now (existing s.components) (held_back_in s now) n

  abbrev seen : ℕ → List ServiceRow
  seen n = s.direct ++ map (offered now) (offering (held_back_in s now) (lower n))

  abbrev level : Component → ℕ
  level c = level_of s.descriptions s.levels c

  abbrev below : ℕ → List Component
  below n = pass_order_below s.descriptions s.levels s.components n

  new_level : (n : ℕ) (c : Component) → Among (filter (is_satisfied (seen n)) (of_level s.descriptions s.levels (existing s.components) n)) c → Among s.components c × (level c ≡ n)
  new_level n c here =
      let kept = among_filter (is_satisfied (seen n)) (of_level s.descriptions s.levels (existing s.components) n) c here in
      let of_one = among_level s.descriptions s.levels (existing s.components) n c kept.0 in
      ((among_filter (λ (d : Component). d.exists) s.components c of_one.0).0, of_one.1)

  -- the levels above don't matter to whether one is satisfied
  has_lower : (k m : ℕ) (c : Component) → Among s.components c → level c < m → m ≤ k → has (numbers_of (lower k)) c.number ≡ has (numbers_of (lower m)) c.number
  has_lower zero m c here low within = absurd (omega (arith, low, within))
  has_lower (suc k) m c here low within = elim (cases_eq m (suc k)) [
    | inl same ↦ ap (λ j. has (numbers_of (lower j)) c.number) (sym same)
    | inr other ↦ numbers-append (lower k) (filter (is_satisfied (seen k)) (of_level s.descriptions s.levels (existing s.components) k)) c.number
        ∙ or_none (has (numbers_of (lower k)) c.number) (has (numbers_of (filter (is_satisfied (seen k)) (of_level s.descriptions s.levels (existing s.components) k))) c.number)
        (false_from_ne_true _ (λ e. (let found = number_witness (filter (is_satisfied (seen k)) (of_level s.descriptions s.levels (existing s.components) k)) c.number e in
        let of_one = new_level k found.0 found.1 in
        let same = ap level (same_component s.components ready.numbered found.0 c of_one.0 here found.2) in
        let rank_k = of_one.1 in
        absurd (omega (arith, same, rank_k, low, within, other)))))
        ∙ has_lower k m c here low (omega (arith, within, other))
  ]

  known : (o : OpenPeriod) → Among now o → IsPeriodOf s.components o
  known o here = open_known s p passed ready o (among_contains now o here)

  -- level by level, the satisfied ones stand, and just those are open that aren't held back
  record Settled (n : ℕ) : Type 0 where
    stand : lower n ≡ filter (stands s now) (below n)
    final : (c : Component) → Among s.components c → level c < n → is_open now c.number ≡ (stands s now c && not (has (held_back_in s now) c.number))

  satisfied_at : (n : ℕ) → n ≤ suc (level_count s.levels) → lower n ≡ filter (stands s now) (below n) → (c : Component) → Among s.components c → level c < n → has (satisfied_where s now) c.number ≡ stands s now c
  satisfied_at n within stand c here low =
      has_lower (suc (level_count s.levels)) n c here low within ∙ ap (λ w. has (numbers_of w) c.number) stand
      ∙ has_filtered s.components (below n) ready.numbered (λ x h. (among_below s.descriptions s.levels s.components n x h).0) (stands s now) c (in_below s.descriptions s.levels s.components n c here low)

  settled : (n : ℕ) → n ≤ suc (level_count s.levels) → Settled n
  settled zero within = record { stand = refl; final = λ c here low. absurd (omega (arith, low)) }
  settled (suc n) within =
      let ih = settled n (omega (arith, within)) in
      let stand = stands_next s.descriptions s.levels s.direct s.components ready.levels ready.numbered
      (λ c here. contains_among s.descriptions c.description (ready.described c (among_contains s.components c here))) now (held_back_in s now) known (open_plain s p passed ready) n ih.stand ih.final in
      record {
        stand = stand;
        final = λ c here low. passed.scratch c.number ∙ ap (λ w. has w c.number && not (has (held_back_in s now) c.number)) passed.satisfied
            ∙ ap (λ b. b && not (has (held_back_in s now) c.number)) (satisfied_at (suc n) within stand c here low);
      }

  stand_all : lower (suc (level_count s.levels)) ≡ filter (stands s now) (pass_order_of s)
  stand_all = (settled (suc (level_count s.levels)) (omega arith)).stand

  satisfied_each : (c : Component) → Among (pass_order_of s) c → has (satisfied_where s now) c.number ≡ stands s now c
  satisfied_each c here =
      let found = among_below s.descriptions s.levels s.components (suc (level_count s.levels)) c here in satisfied_at (suc (level_count s.levels)) (omega arith) stand_all c found.0 found.1

  closing_are : closing s now ≡ numbers_of (filter (closes s now) (pass_order_of s))
  closing_are =
      ap numbers_of (filter_same
      (λ (c : Component). is_open s.open_before c.number && has_reason s.place s.open_before (services_in s now) (satisfied_where s now) s.origins s.failing c) (closes s now) (pass_order_of s)
      (λ c here. ap (λ b. is_open s.open_before c.number && b) (sym (has_to_close s now (satisfied_where s now) c (satisfied_each c here)))))

  module _ (began : (l : Origin) → Contains s.origins l → l.created ≤ s.place) where
    -- no living instance is of a period that has just opened
    not_new : (l : Origin) → Among s.origins l → is_open s.open_before l.configuration ≡ false → is_current now l ≡ false
    not_new l here closed =
        false_from_ne_true (is_current now l)
        (λ current. (let of_one = any_witness (λ (o : OpenPeriod). (o.configuration == l.configuration) && nat_lt o.opened l.created) now current in
        let parts = and_parts (of_one.0.configuration == l.configuration) (nat_lt of_one.0.opened l.created) of_one.2 in
        either of_one.0 (eqb-true of_one.0.configuration l.configuration parts.0) (ltb-true of_one.0.opened l.created parts.1)
        (among_append (filter (λ (o : OpenPeriod). not (has p.closed o.configuration)) s.open_before) (map (opened_at s.place s.components) p.opened) of_one.0 (rw (← passed.open_now) of_one.1))))
      where
        either : (o : OpenPeriod) → o.configuration ≡ l.configuration → o.opened < l.created
            → Among (filter (λ (x : OpenPeriod). not (has p.closed x.configuration)) s.open_before) o ⊎ Among (map (opened_at s.place s.components) p.opened) o → ⊥
        either o same early (inl left) =
            let kept = among_filter (λ (x : OpenPeriod). not (has p.closed x.configuration)) s.open_before o left in false≢true (sym closed ∙ open_from s.open_before o l.configuration kept.0 same)
        either o same early (inr new) =
            let found = among_map (opened_at s.place s.components) p.opened o new in
            omega (arith, ap (λ (x : OpenPeriod). x.opened) found.2, early, began l (among_contains s.origins l here))

    leaving_lives : (n : ℕ) → is_open s.open_before n ≡ false → has (with_leaving now s.origins) n ≡ has_life s.origins n
    leaving_lives n closed = elim (cases_Bool (has_life s.origins n)) [
      | inl on ↦ (let found = life_witness now s.origins n on in
          leaving_if_ended now s.origins n found.0 found.1 found.2 (not_new found.0 found.1 (ap (is_open s.open_before) found.2 ∙ closed)) ∙ sym on)
      | inr off ↦ not_leaving_without now s.origins n off ∙ sym off
    ]

    opening_are : opening s now ≡ filter (opens s now) (pass_order_of s)
    opening_are =
        filter_same (λ (c : Component). has (satisfied_where s now) c.number && (not (has (held_back_in s now) c.number) && not (is_open s.open_before c.number))) (opens s now) (pass_order_of s)
        (λ c here. ap (λ b. b && (not (has (held_back_in s now) c.number) && not (is_open s.open_before c.number))) (satisfied_each c here)
        ∙ ap (λ b. stands s now c && (not b && not (is_open s.open_before c.number))) (list_any-append (λ n. n == c.number) s.failed (with_leaving now s.origins))
        ∙ opens_once (is_open s.open_before c.number) (stands s now c) (has s.failed c.number) (has (with_leaving now s.origins) c.number) (has_life s.origins c.number) (leaving_lives c.number))

    -- the state before some component configurations are judged offers the same as the end
    offer_same : (q : Passed) (c : Component) (cs : List Component) → ((d : Component) → Among (c ∷ cs) d → Among s.components d × (consumes c.description d.description ≡ false))
        → IsOpenSoFar s q → ReadsAs s q (c ∷ cs) p → OfferSame c q.open_now now
    offer_same q c cs each so_far ahead = record {
      each = λ n here. ap (filter (serves n)) so_far.are
          ∙ filter-append (serves n) (filter (λ (o : OpenPeriod). not (has q.closed o.configuration)) s.open_before) (map (opened_at s.place s.components) q.opened)
          ∙ ap (λ w. w ++ filter (serves n) (map (opened_at s.place s.components) q.opened)) (left_same n here)
          ∙ ap (λ w. filter (serves n) (filter (λ (o : OpenPeriod). not (has p.closed o.configuration)) s.open_before) ++ w) (new_same n here)
          ∙ sym (filter-append (serves n) (filter (λ (o : OpenPeriod). not (has p.closed o.configuration)) s.open_before) (map (opened_at s.place s.components) p.opened))
          ∙ ap (filter (serves n)) (sym passed.open_now);
    }
      where
        later : List ℕ
        later = numbers_of (filter (closes s now) (c ∷ cs))

        none_later : (n : Need) → Among (needs_of c) n → (o : OpenPeriod) → Among s.open_before o → serves n o ≡ true → has (numbers_of (filter (closes s now) (c ∷ cs))) o.configuration ≡ false
        none_later n here o in_before on =
            false_from_ne_true _
            (λ e. (let found = number_witness (filter (closes s now) (c ∷ cs)) o.configuration e in
            let one = each found.0 (among_filter (closes s now) (c ∷ cs) found.0 found.1).0 in
            false≢true (sym (not_serving s.components ready.numbered c found.0 one.0 one.1 n here o (ready.periods o (among_contains s.open_before o in_before)) (sym found.2)) ∙ on)))

        left_each : (n : Need) → Among (needs_of c) n → (o : OpenPeriod) → Among s.open_before o
            → (not (has q.closed o.configuration) && serves n o) ≡ (not (has p.closed o.configuration) && serves n o)
        left_each n here o in_before = elim (cases_Bool (serves n o)) [
          | inl on ↦ ap (λ b. not b && serves n o)
              (sym (ap (λ w. has w o.configuration) ahead.closed ∙ list_any-append (λ m. m == o.configuration) q.closed (numbers_of (filter (closes s now) (c ∷ cs)))
              ∙ or_none (has q.closed o.configuration) (has (numbers_of (filter (closes s now) (c ∷ cs))) o.configuration) (none_later n here o in_before on)))
          | inr off ↦ and_right (not (has q.closed o.configuration)) (serves n o) off ∙ sym (and_right (not (has p.closed o.configuration)) (serves n o) off)
        ]

        left_same : (n : Need) → Among (needs_of c) n → filter (serves n) (filter (λ (o : OpenPeriod). not (has q.closed o.configuration)) s.open_before)
            ≡ filter (serves n) (filter (λ (o : OpenPeriod). not (has p.closed o.configuration)) s.open_before)
        left_same n here =
            filter_twice (serves n) (λ (o : OpenPeriod). not (has q.closed o.configuration)) s.open_before
            ∙ filter_same (λ (o : OpenPeriod). not (has q.closed o.configuration) && serves n o) (λ (o : OpenPeriod). not (has p.closed o.configuration) && serves n o) s.open_before (left_each n here)
            ∙ sym (filter_twice (serves n) (λ (o : OpenPeriod). not (has p.closed o.configuration)) s.open_before)

        no_offer : (n : Need) → Among (needs_of c) n → (o : OpenPeriod) → Among (map (opened_at s.place s.components) (opened_from q.next_service (filter (opens s now) (c ∷ cs)))) o → serves n o ≡ false
        no_offer n here o in_new =
            let found = among_map (opened_at s.place s.components) (opened_from q.next_service (filter (opens s now) (c ∷ cs))) o in_new in
            let of_one = opened_of q.next_service (filter (opens s now) (c ∷ cs)) found.0 found.1 in
            let one = each of_one.0 (among_filter (opens s now) (c ∷ cs) of_one.0 of_one.1).0 in
            let number : has (numbers_of s.components) found.0.configuration ≡ true = ap (has (numbers_of s.components)) of_one.2 ∙ has_number s.components of_one.0 one.0 in
            ap (serves n) (sym found.2)
            ∙ not_serving s.components ready.numbered c of_one.0 one.0 one.1 n here (opened_at s.place s.components found.0) (record { known = number; row = row_as_given s.components found.0.configuration found.0.service 0 }) of_one.2

        new_same : (n : Need) → Among (needs_of c) n → filter (serves n) (map (opened_at s.place s.components) q.opened) ≡ filter (serves n) (map (opened_at s.place s.components) p.opened)
        new_same n here =
            sym (ap (λ w. filter (serves n) (map (opened_at s.place s.components) w)) ahead.opened
            ∙ ap (filter (serves n)) (map-append (opened_at s.place s.components) q.opened (opened_from q.next_service (filter (opens s now) (c ∷ cs))))
            ∙ filter-append (serves n) (map (opened_at s.place s.components) q.opened) (map (opened_at s.place s.components) (opened_from q.next_service (filter (opens s now) (c ∷ cs))))
            ∙ ap (λ w. filter (serves n) (map (opened_at s.place s.components) q.opened) ++ w)
            (filter_none (serves n) (map (opened_at s.place s.components) (opened_from q.next_service (filter (opens s now) (c ∷ cs)))) (no_offer n here))
            ∙ append-nil (filter (serves n) (map (opened_at s.place s.components) q.opened)))

    next_there : (q : Passed) (c : Component) → OfferSame c q.open_now now → (passed_one s q c).next_service ≡ cond (opens s now c) (next_after q.next_service c) q.next_service
    next_there q c same = step_next s q c ∙ ap (λ b. cond b (next_after q.next_service c) q.next_service) (opens_same s c q.open_now now same)

    opened_there : (q : Passed) (c : Component) (kept : List Component) → OfferSame c q.open_now now
        → (passed_one s q c).opened ++ opened_from (passed_one s q c).next_service kept
        ≡ cond (opens s now c) (q.opened ++ opened_one q.next_service c ∷ []) q.opened ++ opened_from (cond (opens s now c) (next_after q.next_service c) q.next_service) kept
    opened_there q c kept same =
        ap (λ w. w ++ opened_from (passed_one s q c).next_service kept) (step_opened s q c ∙ ap (λ b. cond b (q.opened ++ opened_one q.next_service c ∷ []) q.opened) (opens_same s c q.open_now now same))
        ∙ ap (λ n. cond (opens s now c) (q.opened ++ opened_one q.next_service c ∷ []) q.opened ++ opened_from n kept) (next_there q c same)

    -- a step on the way to the end
    reads_on : (q : Passed) (c : Component) (cs : List Component) → OfferSame c q.open_now now → ReadsAs s q (c ∷ cs) p → ReadsAs s (passed_one s q c) cs p
    reads_on q c cs same ahead = record {
      closed = ahead.closed ∙ sym (numbers_more (closes s now c) q.closed c (filter (closes s now) cs))
          ∙ ap (λ w. w ++ numbers_of (filter (closes s now) cs)) (sym (step_closed s q c ∙ ap (λ b. cond b (q.closed ++ c.number ∷ []) q.closed) (closes_same s c q.open_now now same)));
      opened = ahead.opened ∙ sym (opened_more (opens s now c) q.opened q.next_service c (filter (opens s now) cs)) ∙ sym (opened_there q c (filter (opens s now) cs) same);
      next = ahead.next ∙ sym (next_more (opens s now c) q.next_service c (filter (opens s now) cs)) ∙ ap (λ n. next_from n (filter (opens s now) cs)) (sym (next_there q c same));
      satisfied = ahead.satisfied ∙ sym (numbers_more (stands s now c) q.satisfied c (filter (stands s now) cs))
          ∙ ap (λ w. w ++ numbers_of (filter (stands s now) cs)) (sym (step_satisfied s q c ∙ ap (λ b. cond b (q.satisfied ++ c.number ∷ []) q.satisfied) (stands_same s c q.open_now now same)));
    }

    -- the steps lead to it
    leads : (cs : List Component) → ((c : Component) → Among cs c → Among s.components c) → Ordered (level_of s.descriptions s.levels) cs → (q : Passed) → IsOpenSoFar s q → ReadsAs s q cs p → p ≡ fold (passed_one s) q cs
    leads [] there sorted q so_far ahead =
        let closed = ahead.closed ∙ append-nil q.closed in
        let opened = ahead.opened ∙ append-nil q.opened in
        let left = passed.open_now ∙ ap (λ w. open_after s.place s.components w p.opened s.open_before) closed ∙ ap (λ w. open_after s.place s.components q.closed w s.open_before) opened ∙ sym so_far.are in
        same_state p q closed opened left (ahead.satisfied ∙ append-nil q.satisfied) ahead.next
    leads (c ∷ cs) there sorted q so_far ahead =
        let same = offer_same q c cs each so_far ahead in
        leads cs (λ d here. there d (inr here)) sorted.1 (passed_one s q c) (step_so_far s q c so_far) (reads_on q c cs same ahead)
      where
        each : (d : Component) → Among (c ∷ cs) d → Among s.components d × (consumes c.description d.description ≡ false)
        each d (inl same) =
            let low : level_of s.descriptions s.levels c ≤ level_of s.descriptions s.levels d = omega (arith, ap (level_of s.descriptions s.levels) same) in
            (there d (inl same), not_consumed s ready c d (there d (inl same)) low)
        each d (inr later) = (there d (inr later), not_consumed s ready c d (there d (inr later)) (sorted.0 d later))

    -- so it is what the steps lead to
    pub is_run : p ≡ passed_all s
    is_run =
        leads (pass_order_of s) (among_order s.descriptions s.levels s.components) (order_ordered s.descriptions s.levels s.components) (nothing_passed s.next s.open_before) (begun_so_far s)
        (record {
          closed = passed.closed ∙ closing_are;
          opened = passed.opened ∙ ap (opened_from s.next) opening_are;
          next = passed.next ∙ ap (next_from s.next) opening_are;
          satisfied = passed.satisfied ∙ ap numbers_of stand_all;
        })

-- there is just one pass
pub one_pass : (s : Stage) → IsReady s → ((l : Origin) → Contains s.origins l → l.created ≤ s.place) → (p q : Passed) → HasPassed s p → HasPassed s q → p ≡ q
one_pass s ready began p q passed other = is_run s ready p passed began ∙ sym (is_run s ready q other began)
