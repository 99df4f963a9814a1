-- Open periods of legal journals are plain: no component configuration is open twice, and what has no service number offers nothing.
use Rattle.std.proofs.Common.{◌≡◌, ◌<◌, ℕ, zero, suc, ◌+◌, List, [], ◌∷◌, ◌++◌, ap, sym, ◌∙◌, refl, subst, cond, arith, Bool, true, false, inl, inr, ◌⊎◌, Some, None, Option}
use Rattle.std.specs.Prelude.{filter, map, not, ◌==◌}
use Rattle.std.specs.List.{Contains}
use Rattle.std.specs.Option.{option_map_or}
use Rattle.std.proofs.lemmas.Bool.{eqb-true, eq-eqb, both_ways}
use Rattle.component_dto.specs.declared.description.Description.{Description}
use Rattle.component_state.specs.declared.component.Component.{Component}
use Rattle.component_state.specs.declared.open_period.OpenPeriod.{OpenPeriod}
use Rattle.component_state.specs.Components.{component_of, pass_order_below, provides_no_service, numbers_of, of_level, pass_order, level_of, level_count}
use Rattle.component_state.specs.Passes.{next_after, opened_from, opened_one}
use Rattle.component_state.specs.Inside.Ready.{IsPeriodOf}
use Rattle.component_state.specs.Periods.{is_open, open_after, opened_at}
use Rattle.component_state.specs.Rows.{no_row, published_by, with_present_properties, period_with_properties, row_with_properties, row_by, row_in}
use Rattle.journal_core.specs.declared.entry.Opened.{Opened}
use Rattle.prop_map.specs.declared.properties.Property.{Property}
use Rattle.prop_map.specs.Sameness.{same_properties}
use Rattle.prop_map.specs.Words.{has, is_empty}
use Rattle.service_registry.specs.declared.row.ServiceRow.{ServiceRow}
use Rattle.component_state.specs.Inside.Ready.{ArePlain, are_apart, configurations_open}
use Rattle.component_state.proofs.Apart.{any_from, apart_both, apart_kept, in_cases, in_either, in_first, in_none, in_rest, kept_was, key_in, keyed, one_of}
use Rattle.component_state.proofs.Below.{number_of}
use Rattle.component_state.proofs.Numbering.{numbers_over}
use Rattle.component_state.proofs.Seen.{found_by}

pub in_mapped : {X Y : Type 0} (f : X → Y) (xs : List X) (y : Y) → Contains (map f xs) y → (x : X) × Contains xs x × (f x ≡ y)
in_mapped f [] y h = absurd (in_none y h)
in_mapped f (x ∷ xs) y h = elim (in_cases (f x) (map f xs) y h) [
  | inl same ↦ (x, in_first x xs, same)
  | inr later ↦ (let found = in_mapped f xs y later in (found.0, in_rest x xs found.0 found.1, found.2))
]

-- ---- the order of a pass has each once

module _ (ds : List Description) (levels : List ℕ) (cs : List Component) (apart : are_apart (numbers_of cs) ≡ true) where
  order_was : (n : ℕ) (c : Component) → Contains (pass_order_below ds levels cs n) c → Contains cs c × (level_of ds levels c < n)
  order_was zero c h = absurd (in_none c h)
  order_was (suc n) c h = elim (in_either (pass_order_below ds levels cs n) (of_level ds levels cs n) c h) [
    | inl l ↦ (let found = order_was n c l in (found.0, omega (arith, found.1)))
    | inr r ↦ (let at = kept_was (λ d. level_of ds levels d == n) cs c r in let same = eqb-true (level_of ds levels c) n at.1 in (at.0, omega (arith, same)))
  ]

  pub order_apart : (n : ℕ) → are_apart (numbers_of (pass_order_below ds levels cs n)) ≡ true
  order_apart zero = refl
  order_apart (suc n) = subst (λ ns. are_apart ns ≡ true) (sym (numbers_over (pass_order_below ds levels cs n) (of_level ds levels cs n)))
      (apart_both (numbers_of (pass_order_below ds levels cs n)) (numbers_of (of_level ds levels cs n)) (order_apart n) (apart_kept number_of (λ d. level_of ds levels d == n) cs apart) never)
    where
      never : (k : ℕ) → has (numbers_of (pass_order_below ds levels cs n)) k ≡ true → has (numbers_of (of_level ds levels cs n)) k ≡ true → ⊥
      never k l r =
          let a = keyed number_of (pass_order_below ds levels cs n) k l in
          let b = keyed number_of (of_level ds levels cs n) k r in
          let was = order_was n a.0 a.1 in
          let at = kept_was (λ d. level_of ds levels d == n) cs b.0 b.1 in
          let same = one_of number_of cs apart a.0 b.0 was.0 at.0 (a.2 ∙ sym b.2) in
          let level = ap (level_of ds levels) same ∙ eqb-true (level_of ds levels b.0) n at.1 in
          omega (arith, was.1, level)

  pub pass_was : (c : Component) → Contains (pass_order ds levels cs) c → Contains cs c
  pass_was c h = (order_was (suc (level_count levels)) c h).0

  pub pass_apart : are_apart (numbers_of (pass_order ds levels cs)) ≡ true
  pass_apart = order_apart (suc (level_count levels))

-- ---- what stays open

kept_plain : (t : OpenPeriod → Bool) (open_ones : List OpenPeriod) → ArePlain open_ones → ArePlain (filter t open_ones)
kept_plain t open_ones plain = record {
  apart = apart_kept (λ (p : OpenPeriod). p.configuration) t open_ones plain.apart;
  silent = λ p h. plain.silent p (kept_was t open_ones p h).0;
}

-- properties that changed leave a period's component configuration, and its service's number and interfaces
renewed_row_is : (r : ServiceRow) (properties : List Property) → ((row_with_properties r properties).id ≡ r.id) × ((row_with_properties r properties).interfaces ≡ r.interfaces)
renewed_row_is r properties = go (same_properties properties r.properties)
  where
    go : (b : Bool) → ((cond b r (record r { properties = properties; revision = r.revision + 1 })).id ≡ r.id) × ((cond b r (record r { properties = properties; revision = r.revision + 1 })).interfaces ≡ r.interfaces)
    go true = (refl, refl)
    go false = (refl, refl)

renewed_is : (cs : List Component) (p : OpenPeriod) → ((with_present_properties cs p).configuration ≡ p.configuration) × ((with_present_properties cs p).row.id ≡ p.row.id) × ((with_present_properties cs p).row.interfaces ≡ p.row.interfaces)
renewed_is cs p = go (component_of cs p.configuration)
  where
    go : (o : Option Component) → ((option_map_or (period_with_properties p) o p).configuration ≡ p.configuration) × ((option_map_or (period_with_properties p) o p).row.id ≡ p.row.id) × ((option_map_or (period_with_properties p) o p).row.interfaces ≡ p.row.interfaces)
    go None = (refl, refl, refl)
    go (Some c) = let is = renewed_row_is p.row (published_by c p.row.id) in (refl, is.0, is.1)

renewed_configurations : (cs : List Component) (open_ones : List OpenPeriod) → configurations_open (map (with_present_properties cs) open_ones) ≡ configurations_open open_ones
renewed_configurations cs [] = refl
renewed_configurations cs (p ∷ ps) = ap (λ n. n ∷ configurations_open (map (with_present_properties cs) ps)) (renewed_is cs p).0 ∙ ap (λ ns. p.configuration ∷ ns) (renewed_configurations cs ps)

pub renewed_plain : (cs : List Component) (open_ones : List OpenPeriod) → ArePlain open_ones → ArePlain (map (with_present_properties cs) open_ones)
renewed_plain cs open_ones plain = record {
  apart = ap are_apart (renewed_configurations cs open_ones) ∙ plain.apart;
  silent = λ p h none. let found = in_mapped (with_present_properties cs) open_ones p h in
      let is = renewed_is cs found.0 in
      ap (λ (q : OpenPeriod). q.row.interfaces) (sym found.2) ∙ is.2 ∙ plain.silent found.0 found.1 (sym is.1 ∙ ap (λ (q : OpenPeriod). q.row.id) found.2 ∙ none);
}

-- ---- what opens

opened_numbers : (place : ℕ) (cs : List Component) (next : ℕ) (ones : List Component) → configurations_open (map (opened_at place cs) (opened_from next ones)) ≡ numbers_of ones
opened_numbers place cs next [] = refl
opened_numbers place cs next (c ∷ rest) = ap (λ ns. c.number ∷ ns) (opened_numbers place cs (next_after next c) rest)

-- each opened one is that of a component configuration with a number that isn't 0, or of a silent one
opened_was : (next : ℕ) (ones : List Component) (o : Opened) → 0 < next → Contains (opened_from next ones) o → (c : Component) × Contains ones c × (o.configuration ≡ c.number) × ((provides_no_service c ≡ true) ⊎ (0 < o.service))
opened_was next [] o some h = absurd (in_none o h)
opened_was next (c ∷ rest) o some h = elim (in_cases (opened_one next c) (opened_from (next_after next c) rest) o h) [
  | inl same ↦ (c, in_first c rest, ap (λ (x : Opened). x.configuration) (sym same), subst (λ (x : Opened). (provides_no_service c ≡ true) ⊎ (0 < x.service)) same (served (provides_no_service c) refl))
  | inr later ↦ (let found = opened_was (next_after next c) rest o (more (provides_no_service c)) later in (found.0, in_rest c rest found.0 found.1, found.2, found.3))
]
  where
    served : (b : Bool) → provides_no_service c ≡ b → (provides_no_service c ≡ true) ⊎ (0 < cond b 0 next)
    served true is = inl is
    served false is = inr some

    more : (b : Bool) → 0 < cond b next (next + 1)
    more true = some
    more false = omega (arith, some)

none_in : {X : Type 0} (xs : List X) → is_empty xs ≡ true → xs ≡ []
none_in [] is = refl
none_in (x ∷ xs) is = cc

module _ (place next : ℕ) (cs ones : List Component) (some : 0 < next) (apart : are_apart (numbers_of cs) ≡ true) (among : (c : Component) → Contains ones c → Contains cs c) where
  -- what opens is the period of a component configuration, with its row
  pub opened_period : (p : OpenPeriod) → Contains (map (opened_at place cs) (opened_from next ones)) p → (c : Component) × Contains cs c × (p.configuration ≡ c.number) × (p.row ≡ row_by c p.row.id 0) × ((provides_no_service c ≡ true) ⊎ (0 < p.row.id))
  opened_period p h =
      let o = in_mapped (opened_at place cs) (opened_from next ones) p h in
      let was = opened_was next ones o.0 some o.1 in
      subst (λ (q : OpenPeriod). (c : Component) × Contains cs c × (q.configuration ≡ c.number) × (q.row ≡ row_by c q.row.id 0) × ((provides_no_service c ≡ true) ⊎ (0 < q.row.id))) o.2 (of_one o.0 was.0 (among was.0 was.1) was.2 was.3)
    where
      of_one : (o : Opened) (c : Component) → Contains cs c → o.configuration ≡ c.number → (provides_no_service c ≡ true) ⊎ (0 < o.service)
          → (d : Component) × Contains cs d × ((opened_at place cs o).configuration ≡ d.number) × ((opened_at place cs o).row ≡ row_by d (opened_at place cs o).row.id 0) × ((provides_no_service d ≡ true) ⊎ (0 < (opened_at place cs o).row.id))
      of_one o c here same either = (c, here, same, row_is ∙ ap (λ s. row_by c s 0) (ap (λ (r : ServiceRow). r.id) (sym row_is)), subst (λ (r : ServiceRow). (provides_no_service c ≡ true) ⊎ (0 < r.id)) (sym row_is) either)
        where
          row_is : (opened_at place cs o).row ≡ row_by c o.service 0
          row_is = ap (λ k. row_in cs k o.service 0) same ∙ ap (λ f. option_map_or (λ d. row_by d o.service 0) f (no_row o.service 0)) (found_by number_of cs apart c here)

  module _ (closed : List ℕ) (before : List OpenPeriod) where
    abbrev pub open_still : OpenPeriod → Bool
    open_still p = not (has closed p.configuration)

    abbrev pub stay : List OpenPeriod
    stay = filter open_still before

    abbrev pub new : List OpenPeriod
    new = map (opened_at place cs) (opened_from next ones)

    over : (xs ys : List OpenPeriod) → configurations_open (xs ++ ys) ≡ configurations_open xs ++ configurations_open ys
    over [] ys = refl
    over (x ∷ xs) ys = ap (λ ns. x.configuration ∷ ns) (over xs ys)

    never : ((c : Component) → Contains ones c → is_open before c.number ≡ false) → (k : ℕ) → has (configurations_open stay) k ≡ true → has (numbers_of ones) k ≡ true → ⊥
    never fresh k l r =
        let p = keyed (λ (q : OpenPeriod). q.configuration) stay k l in
        let c = keyed number_of ones k r in
        both_ways (is_open before c.0.number) (fresh c.0 c.1) (any_from (λ (q : OpenPeriod). q.configuration == c.0.number) before p.0 (kept_was open_still before p.0 p.1).0 (eq-eqb p.0.configuration c.0.number (p.2 ∙ sym c.2)))

    no_interfaces : (p : OpenPeriod) (c : Component) → p.row ≡ row_by c p.row.id 0 → (provides_no_service c ≡ true) ⊎ (0 < p.row.id) → p.row.id ≡ 0 → p.row.interfaces ≡ []
    no_interfaces p c row (inl quiet) none = ap (λ (r : ServiceRow). r.interfaces) row ∙ none_in c.description.service_interfaces quiet
    no_interfaces p c row (inr more) none = absurd (omega (arith, more, none))

    pub open_after_plain : ArePlain before → are_apart (numbers_of ones) ≡ true → ((c : Component) → Contains ones c → is_open before c.number ≡ false)
        → ArePlain (open_after place cs closed (opened_from next ones) before)
    open_after_plain plain ones_apart fresh = record {
      apart = subst (λ ns. are_apart ns ≡ true) (sym (over stay new ∙ ap (λ ns. configurations_open stay ++ ns) (opened_numbers place cs next ones)))
          (apart_both (configurations_open stay) (numbers_of ones) (kept_plain open_still before plain).apart ones_apart (never fresh));
      silent = λ p h none. elim (in_either stay new p h) [
        | inl old ↦ (kept_plain open_still before plain).silent p old none
        | inr now ↦ (let found = opened_period p now in no_interfaces p found.0 found.3 found.4 none)
      ];
    }

    -- each is that of a component configuration, with its row
    pub open_after_of : ((p : OpenPeriod) → Contains before p → IsPeriodOf cs p) → (p : OpenPeriod) → Contains (open_after place cs closed (opened_from next ones) before) p → IsPeriodOf cs p
    open_after_of each p h = elim (in_either stay new p h) [
      | inl old ↦ each p (kept_was open_still before p old).0
      | inr now ↦ (let found = opened_period p now in of_one p found.0 found.1 found.2 found.3)
    ]
      where
        of_one : (p : OpenPeriod) (c : Component) → Contains cs c → p.configuration ≡ c.number → p.row ≡ row_by c p.row.id 0 → IsPeriodOf cs p
        of_one p c here same row = record {
          known = ap (has (numbers_of cs)) same ∙ key_in number_of cs c here;
          row = row
              ∙ ap (row_by c p.row.id) (ap (λ (r : ServiceRow). r.revision) (sym row))
              ∙ ap (λ o. option_map_or (λ d. row_by d p.row.id p.row.revision) o (no_row p.row.id p.row.revision)) (sym (found_by number_of cs apart c here))
              ∙ ap (λ k. row_in cs k p.row.id p.row.revision) (sym same);
        }
