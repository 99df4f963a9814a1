-- What stands in the end of a pass is what is satisfied from scratch.
use Rattle.std.proofs.Common.{◌≡◌, ◌<◌, ℕ, zero, suc, ◌+◌, List, ◌++◌, length, ap, sym, ◌∙◌, refl, subst, Bool, true, false, inl, inr, ◌⊎◌, ◌&&◌, arith}
use Rattle.std.specs.Prelude.{filter, map, nat_le, not, ◌==◌}
use Rattle.std.specs.Option.{option_map_or}
use Rattle.std.proofs.lemmas.Bool.{and_parts, and_from, cases_Bool, eqb-true, eq-eqb, false≢true, not_from_false}
use Rattle.std.proofs.lemmas.List.{length-append}
use Rattle.std.proofs.lemmas.List.Elements.{filter-append}
use Rattle.component_dto.specs.declared.description.Description.{Description}
use Rattle.level_order.specs.Levels.{AreLevels, consumes}
use Rattle.prop_map.specs.Words.{has}
use Rattle.reference_match.specs.declared.need.Need.{Need}
use Rattle.reference_match.specs.Targets.{is_met, meets}
use Rattle.service_registry.specs.declared.row.ServiceRow.{ServiceRow}
use Rattle.component_state.specs.declared.component.Component.{Component}
use Rattle.component_state.specs.declared.open_period.OpenPeriod.{OpenPeriod}
use Rattle.component_state.specs.Components.{are_numbered, existing, lacks_configuration, level_of, needs_of, of_level, pass_order_below}
use Rattle.component_state.specs.Inside.Runs.{exists_satisfied}
use Rattle.component_state.specs.Periods.{is_open}
use Rattle.component_state.specs.Rows.{row_by, rows_of, service_in}
use Rattle.component_state.specs.Scratch.{is_satisfied, offered, offering, satisfied_below}
use Rattle.component_state.proofs.Among.{Among, all_same, among_contains, among_filter, among_kept, any_from, any_map, any_witness, filter_same, filter_twice}
use Rattle.component_state.proofs.Apart.{apart_kept, as_long, kept_mapped, mapped_long}
use Rattle.component_state.specs.Inside.ByNeeds.{serves}
use Rattle.component_state.specs.Inside.Ready.{ArePlain, IsPeriodOf, are_apart}
use Rattle.component_state.proofs.Needs.{meets_none, not_met, row_is, rows_met}
use Rattle.component_state.proofs.Numbers.{number_witness}
use Rattle.component_state.proofs.Order.{among_below, consumed_lower, in_below}
use Rattle.component_state.proofs.Plain.{order_apart}
use Rattle.component_state.proofs.Seen.{found_by, numbered_apart}

module _ {X : Type 0} (key : X → ℕ) where
  key_witness : (xs : List X) (k : ℕ) → has (map key xs) k ≡ true → (x : X) × Among xs x × (key x ≡ k)
  key_witness xs k e = let found = any_witness (λ x. key x == k) xs (sym (any_map (λ m. m == k) key xs) ∙ e) in (found.0, found.1, eqb-true (key found.0) k found.2)

  key_there : (xs : List X) (x : X) → Among xs x → (k : ℕ) → key x ≡ k → has (map key xs) k ≡ true
  key_there xs x here k is = any_map (λ m. m == k) key xs ∙ any_from (λ y. key y == k) xs x here (eq-eqb (key x) k is)

level_agrees : (l r s t : Bool) → (r ≡ true → s ≡ t) → ((l && r) && s) ≡ (r && (l && t))
level_agrees true true s t same = same refl
level_agrees true false s t same = refl
level_agrees false true s t same = refl
level_agrees false false s t same = refl

module _ (ds : List Description) (levels : List ℕ) (direct : List ServiceRow) (cs : List Component) (are : AreLevels ds levels) (numbered : are_numbered cs ≡ true) (described : (c : Component) → Among cs c → Among ds c.description)
    (now : List OpenPeriod) (out : List ℕ) (known : (o : OpenPeriod) → Among now o → IsPeriodOf cs o) (plain : ArePlain now) where
  abbrev rows : List ServiceRow
  rows = direct ++ rows_of now

  abbrev standing : ℕ → List Component
  standing n = filter (exists_satisfied rows) (pass_order_below ds levels cs n)

  -- the services that those of a level can see
  abbrev seen : ℕ → List ServiceRow
  seen n = direct ++ map (offered now) (offering out (standing n))

  -- below a level, just those are open that stand and aren't left out
  abbrev pub Final : ℕ → Type 0
  Final n = (c : Component) → Among cs c → level_of ds levels c < n → is_open now c.number ≡ (exists_satisfied rows c && not (has out c.number))

  -- the service that an open one offers from scratch is the one that it has registered, to each need
  offers_same : (n : Need) (d : Component) (p : OpenPeriod) → Among cs d → Among now p → p.configuration ≡ d.number → meets n (offered now d) ≡ meets n p.row
  offers_same n d p there here same = ap (λ s. meets n (row_by d s 0)) service_is ∙ ap (meets n) (sym (row_is cs numbered d there p (known p here) same))
    where
      service_is : service_in now d.number ≡ p.row.id
      service_is =
          ap (service_in now) (sym same)
          ∙ ap (λ o. option_map_or (λ (q : OpenPeriod). q.row.id) o 0) (found_by (λ (q : OpenPeriod). q.configuration) now plain.apart p (among_contains now p here))

  -- what meets a need has a service
  serving : (n : Need) (p : OpenPeriod) → Among now p → meets n p.row ≡ true → serves n p ≡ true
  serving n p here met = and_from (not (p.row.id == 0)) (meets n p.row) (some (cases_Bool (p.row.id == 0))) met
    where
      some : ((p.row.id == 0) ≡ true) ⊎ ((p.row.id == 0) ≡ false) → not (p.row.id == 0) ≡ true
      some (inl none) = absurd (false≢true (sym (meets_none n p.row (plain.silent p (among_contains now p here) (eqb-true p.row.id 0 none))) ∙ met))
      some (inr one) = not_from_false (p.row.id == 0) one

  -- those that offer what a need can take: from scratch below a level, and among what is open
  abbrev offering_to : Need → ℕ → List Component
  offering_to n level = filter (λ c. meets n (offered now c)) (offering out (standing level))

  abbrev open_to : Need → List OpenPeriod
  open_to n = filter (serves n) now

  -- who offers among those that stand below, is open and offers
  offer_open : (level : ℕ) → Final level → (n : Need) (k : ℕ) → has (map (λ (c : Component). c.number) (offering_to n level)) k ≡ true → has (map (λ (p : OpenPeriod). p.configuration) (open_to n)) k ≡ true
  offer_open level final n k e =
      let found = key_witness (λ (c : Component). c.number) (offering_to n level) k e in
      let meeting = among_filter (λ c. meets n (offered now c)) (offering out (standing level)) found.0 found.1 in
      let free = among_filter (λ (c : Component). not (has out c.number)) (standing level) found.0 meeting.0 in
      let stood = among_filter (exists_satisfied rows) (pass_order_below ds levels cs level) found.0 free.0 in
      let low = among_below ds levels cs level found.0 stood.0 in
      let open_now = final found.0 low.0 low.1 ∙ and_from (exists_satisfied rows found.0) (not (has out found.0.number)) stood.1 free.1 in
      let period = any_witness (λ (o : OpenPeriod). o.configuration == found.0.number) now open_now in
      let number = eqb-true period.0.configuration found.0.number period.2 in
      key_there (λ (p : OpenPeriod). p.configuration) (open_to n) period.0
      (among_kept (serves n) now period.0 period.1 (serving n period.0 period.1 (sym (offers_same n found.0 period.0 low.0 period.1 number) ∙ meeting.1))) k (number ∙ found.2)

  -- who is open and offers what a component configuration needs, stands below it
  open_offer : (c : Component) → Final (level_of ds levels c) → (n : Need) → Among (needs_of c) n → (k : ℕ) → has (map (λ (p : OpenPeriod). p.configuration) (open_to n)) k ≡ true
      → has (map (λ (d : Component). d.number) (offering_to n (level_of ds levels c))) k ≡ true
  open_offer c final n here k e =
      let period = key_witness (λ (p : OpenPeriod). p.configuration) (open_to n) k e in
      let kept = among_filter (serves n) now period.0 period.1 in
      let met = (and_parts (not (period.0.row.id == 0)) (meets n period.0.row) kept.1).1 in
      let of_one = known period.0 kept.0 in
      let found = number_witness cs period.0.configuration of_one.known in
      let low = lower found.0 found.1 period.0 (sym (ap (meets n) (row_is cs numbered found.0 found.1 period.0 of_one (sym found.2))) ∙ met) in
      let open_now = any_from (λ (o : OpenPeriod). o.configuration == found.0.number) now period.0 kept.0 (eq-eqb period.0.configuration found.0.number (sym found.2)) in
      let parts = and_parts (exists_satisfied rows found.0) (not (has out found.0.number)) (sym (final found.0 found.1 low) ∙ open_now) in
      key_there (λ (d : Component). d.number) (offering_to n (level_of ds levels c)) found.0
      (among_kept (λ d. meets n (offered now d)) (offering out (standing (level_of ds levels c))) found.0
      (among_kept (λ (d : Component). not (has out d.number)) (standing (level_of ds levels c)) found.0
      (among_kept (exists_satisfied rows) (pass_order_below ds levels cs (level_of ds levels c)) found.0 (in_below ds levels cs (level_of ds levels c) found.0 found.1 low) parts.0) parts.1)
      (offers_same n found.0 period.0 found.1 kept.0 (sym found.2) ∙ met)) k (found.2 ∙ period.2)
    where
      lower : (d : Component) → Among cs d → (p : OpenPeriod) → meets n (row_by d p.row.id p.row.revision) ≡ true → level_of ds levels d < level_of ds levels c
      lower d there p met = elim (cases_Bool (consumes c.description d.description)) [
        | inl uses ↦ consumed_lower ds levels are c.description d.description (described d there) uses
        | inr unused ↦ absurd (false≢true (sym (not_met c d unused n here p.row.id p.row.revision) ∙ met))
      ]

  -- so each need of a component configuration is met by as many of the one as of the other
  as_many_at : (level : ℕ) (n : Need) → ((k : ℕ) → has (map (λ (d : Component). d.number) (offering_to n level)) k ≡ true → has (map (λ (p : OpenPeriod). p.configuration) (open_to n)) k ≡ true)
      → ((k : ℕ) → has (map (λ (p : OpenPeriod). p.configuration) (open_to n)) k ≡ true → has (map (λ (d : Component). d.number) (offering_to n level)) k ≡ true)
      → length (filter (meets n) (map (offered now) (offering out (standing level)))) ≡ length (filter (meets n) (rows_of now))
  as_many_at level n to from =
      kept_mapped (offered now) (meets n) (offering out (standing level))
      ∙ sym (mapped_long (λ (d : Component). d.number) (offering_to n level))
      ∙ as_long (map (λ (d : Component). d.number) (offering_to n level)) (map (λ (p : OpenPeriod). p.configuration) (open_to n)) apart
      (apart_kept (λ (p : OpenPeriod). p.configuration) (serves n) now plain.apart) to from
      ∙ mapped_long (λ (p : OpenPeriod). p.configuration) (open_to n)
      ∙ sym (mapped_long (λ (p : OpenPeriod). p.row) (open_to n))
      ∙ sym (ap length (rows_met n now))
    where
      apart : are_apart (map (λ (d : Component). d.number) (offering_to n level)) ≡ true
      apart =
          apart_kept (λ (d : Component). d.number) (λ d. meets n (offered now d)) (offering out (standing level))
          (apart_kept (λ (d : Component). d.number) (λ (d : Component). not (has out d.number)) (standing level)
          (apart_kept (λ (d : Component). d.number) (exists_satisfied rows) (pass_order_below ds levels cs level) (order_apart ds levels cs (numbered_apart cs numbered) level)))

  as_many : (c : Component) → Final (level_of ds levels c) → (n : Need) → Among (needs_of c) n → length (filter (meets n) (seen (level_of ds levels c))) ≡ length (filter (meets n) rows)
  as_many c final n here =
      ap length (filter-append (meets n) direct (map (offered now) (offering out (standing (level_of ds levels c)))))
      ∙ length-append (filter (meets n) direct) (filter (meets n) (map (offered now) (offering out (standing (level_of ds levels c)))))
      ∙ ap (λ m. length (filter (meets n) direct) + m) (as_many_at (level_of ds levels c) n (offer_open (level_of ds levels c) final n) (open_offer c final n here))
      ∙ sym (length-append (filter (meets n) direct) (filter (meets n) (rows_of now)))
      ∙ sym (ap length (filter-append (meets n) direct (rows_of now)))

  satisfied_agrees : (c : Component) → Final (level_of ds levels c) → is_satisfied (seen (level_of ds levels c)) c ≡ is_satisfied rows c
  satisfied_agrees c final =
      ap (λ met. not (lacks_configuration c) && met) (all_same (is_met (seen (level_of ds levels c))) (is_met rows) (needs_of c) (λ n here. ap (nat_le n.minimum) (as_many c final n here)))

  level_stands : (n : ℕ) → Final n → filter (is_satisfied (seen n)) (of_level ds levels (existing cs) n) ≡ filter (exists_satisfied rows) (of_level ds levels cs n)
  level_stands n final =
      ap (filter (is_satisfied (seen n))) (filter_twice (λ c. level_of ds levels c == n) (λ (c : Component). c.exists) cs)
      ∙ filter_twice (is_satisfied (seen n)) (λ (c : Component). c.exists && (level_of ds levels c == n)) cs
      ∙ filter_same (λ (c : Component). (c.exists && (level_of ds levels c == n)) && is_satisfied (seen n) c) (λ (c : Component). (level_of ds levels c == n) && exists_satisfied rows c) cs
      (λ c here. level_agrees c.exists (level_of ds levels c == n) (is_satisfied (seen n) c) (is_satisfied rows c)
      (λ on. at_level c (eqb-true (level_of ds levels c) n on)))
      ∙ sym (filter_twice (exists_satisfied rows) (λ c. level_of ds levels c == n) cs)
    where
      at_level : (c : Component) → level_of ds levels c ≡ n → is_satisfied (seen n) c ≡ is_satisfied rows c
      at_level c same = ap (λ k. is_satisfied (seen k) c) (sym same) ∙ satisfied_agrees c (λ d here low. final d here (omega (arith, low, same)))

  -- one level more
  pub stands_next : (n : ℕ) → satisfied_below ds levels direct now (existing cs) out n ≡ standing n → Final n → satisfied_below ds levels direct now (existing cs) out (suc n) ≡ standing (suc n)
  stands_next n lower final =
      ap (λ w. w ++ filter (is_satisfied (direct ++ map (offered now) (offering out w))) (of_level ds levels (existing cs) n)) lower
      ∙ ap (λ w. standing n ++ w) (level_stands n final)
      ∙ sym (filter-append (exists_satisfied rows) (pass_order_below ds levels cs n) (of_level ds levels cs n))

  -- level by level, the satisfied ones are those that stand
  pub satisfied_stands : (n : ℕ) → Final n → satisfied_below ds levels direct now (existing cs) out n ≡ standing n
  satisfied_stands zero final = refl
  satisfied_stands (suc n) final = let below : Final n = λ c here low. final c here (omega (arith, low)) in stands_next n (satisfied_stands n below) below
