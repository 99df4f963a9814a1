-- Satisfied from scratch, level by level, and satisfied by what is registered are one where open is what is satisfied from scratch and not held back.
use Rattle.std.proofs.Common.{◌≡◌, ◌≤◌, ◌<◌, ℕ, zero, suc, ◌+◌, List, [], ◌∷◌, ◌++◌, ap, sym, ◌∙◌, refl, subst, arith, true, false, ◌&&◌, inl, inr, ◌⊎◌, length}
use Rattle.std.specs.Prelude.{filter, map, not, ◌==◌, nat_le}
use Rattle.std.specs.List.{Contains}
use Rattle.std.specs.Option.{option_map_or}
use Rattle.std.proofs.lemmas.Bool.{and_parts, and_from, eqb-true, eq-eqb, cases_lt, both_ways}
use Rattle.component_dto.specs.declared.description.Description.{Description}
use Rattle.component_dto.specs.declared.description.Reference.{Reference}
use Rattle.component_dto.specs.TextLists.{has_text}
use Rattle.component_state.specs.declared.component.Component.{Component}
use Rattle.component_state.specs.declared.open_period.OpenPeriod.{OpenPeriod}
use Rattle.component_state.specs.Components.{needs_of, are_numbered, lacks_configuration, existing, numbers_of, of_level, level_of, level_count}
use Rattle.component_state.specs.Inside.Ready.{IsPeriodOf}
use Rattle.component_state.specs.Periods.{is_open}
use Rattle.component_state.specs.Rows.{no_row, row_by, row_in, rows_of, service_in}
use Rattle.component_state.specs.Scratch.{is_satisfied, offered, offering, satisfied_below}
use Rattle.level_order.specs.Levels.{AreLevels}
use Rattle.prop_map.specs.Words.{has}
use Rattle.reference_match.specs.declared.need.Need.{Need}
use Rattle.reference_match.specs.Targets.{is_met, meets}
use Rattle.service_registry.specs.declared.row.ServiceRow.{ServiceRow}
use Rattle.component_state.specs.Inside.Ready.{ArePlain, are_apart, configurations_open}
use Rattle.component_state.proofs.Apart.{any_found, any_from, all_same, apart_both, apart_kept, as_long, in_either, in_left, in_none, in_right, kept_from, kept_mapped, kept_over, kept_was, key_in, keyed, length_over, mapped_long, not_true, one_of}
use Rattle.component_state.proofs.Ranks.{below_top, consumes_by, provider_lower}
use Rattle.component_state.proofs.Seen.{OfReferences, found_by, meets_direct, meets_interface, numbered_apart, of_references, rows_met}

abbrev pub number_of : Component → ℕ
number_of c = c.number

module _ (ds : List Description) (levels : List ℕ) (direct : List ServiceRow) (open_ones : List OpenPeriod) (all : List Component) (out : List ℕ) where
  -- the satisfied ones below a level, and the services that those of a level can see
  abbrev pub below : ℕ → List Component
  below n = satisfied_below ds levels direct open_ones (existing all) out n

  abbrev pub seen : ℕ → List ServiceRow
  seen n = direct ++ map (offered open_ones) (offering out (below n))

  abbrev pub registered : List ServiceRow
  registered = direct ++ rows_of open_ones

  -- those that offer what a need can take: from scratch below a level, and among what is open
  abbrev pub offering_to : Need → ℕ → List Component
  offering_to n level = filter (λ c. meets n (offered open_ones c)) (offering out (below level))

  abbrev pub open_to : Need → List OpenPeriod
  open_to n = filter (λ (p : OpenPeriod). meets n p.row) open_ones

  abbrev pub everyone : List Component
  everyone = below (suc (level_count levels))

  -- who is satisfied below a level lives, stands below it, and is satisfied by what it sees
  pub below_was : (n : ℕ) (c : Component) → Contains (below n) c → Contains (existing all) c × (level_of ds levels c < n) × (is_satisfied (seen (level_of ds levels c)) c ≡ true)
  below_was zero c h = absurd (in_none c h)
  below_was (suc n) c h = elim (in_either (below n) (filter (is_satisfied (seen n)) (of_level ds levels (existing all) n)) c h) [
    | inl l ↦ (let found = below_was n c l in (found.0, omega (arith, found.1), found.2))
    | inr r ↦ (let met = kept_was (is_satisfied (seen n)) (of_level ds levels (existing all) n) c r in
        let at = kept_was (λ d. level_of ds levels d == n) (existing all) c met.0 in
        let same = eqb-true (level_of ds levels c) n at.1 in
        (at.0, omega (arith, same), subst (λ k. is_satisfied (seen k) c ≡ true) (sym same) met.1))
  ]

  -- and the other way round
  pub below_from : (c : Component) → Contains (existing all) c → is_satisfied (seen (level_of ds levels c)) c ≡ true → Contains (below (suc (level_of ds levels c))) c
  below_from c h is = in_right (below (level_of ds levels c)) (filter (is_satisfied (seen (level_of ds levels c))) (of_level ds levels (existing all) (level_of ds levels c))) c
      (kept_from (is_satisfied (seen (level_of ds levels c))) (of_level ds levels (existing all) (level_of ds levels c)) c
      (kept_from (λ d. level_of ds levels d == level_of ds levels c) (existing all) c h (eq-eqb (level_of ds levels c) (level_of ds levels c) refl)) is)

  pub below_within : (most n : ℕ) (c : Component) → n ≤ most → Contains (below n) c → Contains (below most) c
  below_within zero n c low h = subst (λ k. Contains (below k) c) (let e : n ≡ 0 = omega (arith, low) in e) h
  below_within (suc most) n c low h = elim (cases_lt n (suc most)) [
    | inl less ↦ in_left (below most) (filter (is_satisfied (seen most)) (of_level ds levels (existing all) most)) c (below_within most n c (omega (arith, less)) h)
    | inr more ↦ subst (λ k. Contains (below k) c) (let e : n ≡ suc most = omega (arith, low, more) in e) h
  ]

  pub everyone_from : (c : Component) → Contains (existing all) c → is_satisfied (seen (level_of ds levels c)) c ≡ true → Contains everyone c
  everyone_from c h is = below_within (suc (level_count levels)) (suc (level_of ds levels c)) c (let low = below_top c.description ds levels in omega (arith, low)) (below_from c h is)

  module _ (numbered : are_numbered all ≡ true) where
    apart_all : are_apart (map number_of (existing all)) ≡ true
    apart_all = apart_kept number_of (λ (c : Component). c.exists) all (numbered_apart all numbered)

    -- no number stands twice among the satisfied ones
    pub below_apart : (n : ℕ) → are_apart (map number_of (below n)) ≡ true
    below_apart zero = refl
    below_apart (suc n) = subst (λ ns. are_apart ns ≡ true) (sym (map_over (below n) (filter (is_satisfied (seen n)) (of_level ds levels (existing all) n))))
        (apart_both (map number_of (below n)) (map number_of (filter (is_satisfied (seen n)) (of_level ds levels (existing all) n))) (below_apart n)
        (apart_kept number_of (is_satisfied (seen n)) (of_level ds levels (existing all) n) (apart_kept number_of (λ d. level_of ds levels d == n) (existing all) apart_all)) never)
      where
        map_over : (xs ys : List Component) → map number_of (xs ++ ys) ≡ map number_of xs ++ map number_of ys
        map_over [] ys = refl
        map_over (x ∷ xs) ys = ap (λ ns. number_of x ∷ ns) (map_over xs ys)

        never : (k : ℕ) → has (map number_of (below n)) k ≡ true → has (map number_of (filter (is_satisfied (seen n)) (of_level ds levels (existing all) n))) k ≡ true → ⊥
        never k l r =
            let a = keyed number_of (below n) k l in
            let b = keyed number_of (filter (is_satisfied (seen n)) (of_level ds levels (existing all) n)) k r in
            let was = below_was n a.0 a.1 in
            let at = kept_was (λ d. level_of ds levels d == n) (existing all) b.0 (kept_was (is_satisfied (seen n)) (of_level ds levels (existing all) n) b.0 b.1).0 in
            let same = one_of number_of (existing all) apart_all a.0 b.0 was.0 at.0 (a.2 ∙ sym b.2) in
            let level = ap (level_of ds levels) same ∙ eqb-true (level_of ds levels b.0) n at.1 in
            omega (arith, was.1, level)

    module _ (right : AreLevels ds levels) (described : (c : Component) → Contains (existing all) c → Contains ds c.description) (periods : (p : OpenPeriod) → Contains open_ones p → IsPeriodOf all p) (plain : ArePlain open_ones) where
      lives_among : (c : Component) → Contains (existing all) c → Contains all c
      lives_among c h = (kept_was (λ (d : Component). d.exists) all c h).0

      -- the service that an open one offers from scratch is the one that it has registered, to each need
      offers_same : (n : Need) (c : Component) (p : OpenPeriod) → Contains all c → Contains open_ones p → p.configuration ≡ c.number → meets n (offered open_ones c) ≡ meets n p.row
      offers_same n c p known here same = ap (λ s. meets n (row_by c s 0)) service_is ∙ ap (meets n) (sym row_is)
        where
          row_is : p.row ≡ row_by c p.row.id p.row.revision
          row_is = (periods p here).row ∙ ap (λ k. row_in all k p.row.id p.row.revision) same ∙ ap (λ o. option_map_or (λ d. row_by d p.row.id p.row.revision) o (no_row p.row.id p.row.revision)) (found_by number_of all (numbered_apart all numbered) c known)

          service_is : service_in open_ones c.number ≡ p.row.id
          service_is = ap (service_in open_ones) (sym same) ∙ ap (λ o. option_map_or (λ (q : OpenPeriod). q.row.id) o 0) (found_by (λ (q : OpenPeriod). q.configuration) open_ones plain.apart p here)

      -- what is open lives, isn't held back, and is what is satisfied from scratch and isn't held back, as far as it stands below a level
      abbrev pub AgreesBelow : ℕ → Type 0
      AgreesBelow level = ((c : Component) → Contains (below level) c → has out c.number ≡ false → is_open open_ones c.number ≡ true)
          × ((p : OpenPeriod) → Contains open_ones p → (c : Component) × Contains (existing all) c × (c.number ≡ p.configuration) × (has out p.configuration ≡ false) × (level_of ds levels c < level → Contains (below level) c))

      -- then who offers from scratch below the level and meets a need has an open period whose service meets it
      to_registered : (level : ℕ) → AgreesBelow level → (n : Need) (k : ℕ) → has (map number_of (offering_to n level)) k ≡ true
          → has (configurations_open (open_to n)) k ≡ true
      to_registered level agrees n k h = let found = keyed number_of (offering_to n level) k h in go found.0 found.1 found.2
        where
          go : (c : Component) → Contains (offering_to n level) c → c.number ≡ k → has (configurations_open (open_to n)) k ≡ true
          go c here is =
              let met = kept_was (λ d. meets n (offered open_ones d)) (offering out (below level)) c here in
              let off = kept_was (λ (d : Component). not (has out d.number)) (below level) c met.0 in
              let was = below_was level c off.0 in
              let open_is = agrees.0 c off.0 (not_true (has out c.number) off.1) in
              let p = any_found (λ (q : OpenPeriod). q.configuration == c.number) open_ones open_is in
              let same = eqb-true p.0.configuration c.number p.2 in
              subst (λ j. has (configurations_open (open_to n)) j ≡ true) (same ∙ is)
              (key_in (λ (q : OpenPeriod). q.configuration) (open_to n) p.0
              (kept_from (λ (q : OpenPeriod). meets n q.row) open_ones p.0 p.1 (sym (offers_same n c p.0 (lives_among c was.0) p.1 same) ∙ met.1)))

      -- and an open period whose service meets a need of a component configuration is that of one that offers from scratch below its level
      to_seen : (d : Component) → Contains (existing all) d → AgreesBelow (level_of ds levels d) → (n : Need) → OfReferences d.description n → (k : ℕ) → has (configurations_open (open_to n)) k ≡ true
          → has (map number_of (offering_to n (level_of ds levels d))) k ≡ true
      to_seen d there agrees n of k h = let found = keyed (λ (q : OpenPeriod). q.configuration) (open_to n) k h in go found.0 found.1 found.2
        where
          go : (p : OpenPeriod) → Contains (open_to n) p → p.configuration ≡ k → has (map number_of (offering_to n (level_of ds levels d))) k ≡ true
          go p kept is =
              let met = kept_was (λ (q : OpenPeriod). meets n q.row) open_ones p kept in
              let by = agrees.1 p met.0 in
              let c = by.0 in
              let meets_it = offers_same n c p (lives_among c by.1) met.0 (sym by.2) ∙ met.1 in
              let lower = below_reference c by.1 meets_it of in
              let in_below = by.4 (omega (arith, lower)) in
              subst (λ j. has (map number_of (offering_to n (level_of ds levels d))) j ≡ true) (by.2 ∙ is)
              (key_in number_of (offering_to n (level_of ds levels d)) c
              (kept_from (λ e. meets n (offered open_ones e)) (offering out (below (level_of ds levels d))) c
              (kept_from (λ (e : Component). not (has out e.number)) (below (level_of ds levels d)) c in_below (ap not (ap (has out) by.2 ∙ by.3))) meets_it))
            where
              below_reference : (c : Component) → Contains (existing all) c → meets n (offered open_ones c) ≡ true → ((n.direct_only ≡ true) ⊎ ((r : Reference) × Contains d.description.references r × (n.interface ≡ r.interface_name)))
                  → level_of ds levels c + 1 ≤ level_of ds levels d
              below_reference c h is (inl only) = absurd (both_ways n.direct_only (meets_direct n (offered open_ones c) refl is) only)
              below_reference c h is (inr r) = provider_lower ds levels right d.description c.description (described c h)
                  (consumes_by d.description c.description r.0 r.1 (ap (has_text c.description.service_interfaces) (sym r.2) ∙ meets_interface n (offered open_ones c) is))

      -- so each need of a component configuration is met by as many of the one as of the other
      as_many : (d : Component) → Contains (existing all) d → AgreesBelow (level_of ds levels d) → (n : Need) → OfReferences d.description n → length (filter (meets n) (seen (level_of ds levels d))) ≡ length (filter (meets n) registered)
      as_many d there agrees n of =
          ap length (kept_over (meets n) direct (map (offered open_ones) (offering out (below (level_of ds levels d)))))
          ∙ length_over (filter (meets n) direct) (filter (meets n) (map (offered open_ones) (offering out (below (level_of ds levels d)))))
          ∙ ap (λ m. length (filter (meets n) direct) + m) same
          ∙ sym (length_over (filter (meets n) direct) (filter (meets n) (rows_of open_ones)))
          ∙ sym (ap length (kept_over (meets n) direct (rows_of open_ones)))
        where
          same : length (filter (meets n) (map (offered open_ones) (offering out (below (level_of ds levels d))))) ≡ length (filter (meets n) (rows_of open_ones))
          same =
              kept_mapped (offered open_ones) (meets n) (offering out (below (level_of ds levels d)))
              ∙ sym (mapped_long number_of (offering_to n (level_of ds levels d)))
              ∙ as_long (map number_of (offering_to n (level_of ds levels d))) (configurations_open (open_to n))
              (apart_kept number_of (λ c. meets n (offered open_ones c)) (offering out (below (level_of ds levels d))) (apart_kept number_of (λ (c : Component). not (has out c.number)) (below (level_of ds levels d)) (below_apart (level_of ds levels d))))
              (apart_kept (λ (q : OpenPeriod). q.configuration) (λ (p : OpenPeriod). meets n p.row) open_ones plain.apart)
              (to_registered (level_of ds levels d) agrees n) (to_seen d there agrees n of)
              ∙ mapped_long (λ (q : OpenPeriod). q.configuration) (open_to n)
              ∙ sym (rows_met n open_ones plain.silent)

      -- and it is satisfied by the one where it is by the other
      same_where : (d : Component) → Contains (existing all) d → AgreesBelow (level_of ds levels d) → is_satisfied (seen (level_of ds levels d)) d ≡ is_satisfied registered d
      same_where d there agrees = ap (λ b. not (lacks_configuration d) && b)
          (all_same (is_met (seen (level_of ds levels d))) (is_met registered) (needs_of d)
          (λ n h. ap (nat_le n.minimum) (as_many d there agrees n (of_references d.description d.properties n h))))

      -- where open is what is satisfied from scratch and isn't held back
      module _ (scratch : (number : ℕ) → is_open open_ones number ≡ (has (numbers_of everyone) number && not (has out number))) where
        agrees_by_scratch : (level : ℕ) → AgreesBelow level
        agrees_by_scratch level = (to, from)
          where
            to : (c : Component) → Contains (below level) c → has out c.number ≡ false → is_open open_ones c.number ≡ true
            to c here off = let was = below_was level c here in
                scratch c.number ∙ and_from (has (numbers_of everyone) c.number) (not (has out c.number)) (key_in number_of everyone c (everyone_from c was.0 was.2)) (ap not off)

            from : (p : OpenPeriod) → Contains open_ones p → (c : Component) × Contains (existing all) c × (c.number ≡ p.configuration) × (has out p.configuration ≡ false) × (level_of ds levels c < level → Contains (below level) c)
            from p here =
                let both = and_parts (has (numbers_of everyone) p.configuration) (not (has out p.configuration))
                (sym (scratch p.configuration) ∙ any_from (λ (q : OpenPeriod). q.configuration == p.configuration) open_ones p here (eq-eqb p.configuration p.configuration refl)) in
                let found = keyed number_of everyone p.configuration both.0 in
                let was = below_was (suc (level_count levels)) found.0 found.1 in
                (found.0, was.0, found.2, not_true (has out p.configuration) both.1, λ lower. below_within level (suc (level_of ds levels found.0)) found.0 (omega (arith, lower)) (below_from found.0 was.0 was.2))

        pub satisfied_same : (d : Component) → Contains (existing all) d → is_satisfied (seen (level_of ds levels d)) d ≡ is_satisfied registered d
        satisfied_same d there = same_where d there (agrees_by_scratch (level_of ds levels d))

      -- and the other way round: where open is what lives, is satisfied by what is registered, and isn't held back
      module _ (to_open : (c : Component) → Contains (existing all) c → is_satisfied registered c ≡ true → has out c.number ≡ false → is_open open_ones c.number ≡ true)
          (opener : (p : OpenPeriod) → Contains open_ones p → (c : Component) × Contains (existing all) c × (c.number ≡ p.configuration) × (is_satisfied registered c ≡ true) × (has out p.configuration ≡ false)) where
        agrees_by_registered : (most level : ℕ) → level ≤ most → AgreesBelow level
        agrees_by_registered zero level low = (λ c here off. absurd (let was = below_was level c here in omega (arith, low, was.1)), λ p here. let by = opener p here in (by.0, by.1, by.2, by.4, λ lower. absurd (omega (arith, low, lower))))
        agrees_by_registered (suc most) level low = (
          λ c here off. let was = below_was level c here in
              to_open c was.0 (sym (same_where c was.0 (agrees_by_registered most (level_of ds levels c) (let lower = was.1 in omega (arith, low, lower)))) ∙ was.2) off,
          λ p here. let by = opener p here in (
            by.0,
            by.1,
            by.2,
            by.4,
            λ lower. below_within level (suc (level_of ds levels by.0)) by.0 (omega (arith, lower))
                (below_from by.0 by.1 (same_where by.0 by.1 (agrees_by_registered most (level_of ds levels by.0) (omega (arith, low, lower))) ∙ by.3)),
          ),
        )

        pub satisfied_same_back : (d : Component) → Contains (existing all) d → is_satisfied (seen (level_of ds levels d)) d ≡ is_satisfied registered d
        satisfied_same_back d there = same_where d there (agrees_by_registered (level_of ds levels d) (level_of ds levels d) (omega arith))
