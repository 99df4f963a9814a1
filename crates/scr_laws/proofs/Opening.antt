-- What is open, without levels.
use Rattle.std.proofs.Common.{◌≡◌, ℕ, suc, List, [], ◌∷◌, ap, sym, ◌∙◌, refl, subst, cond, Bool, true, false, ◌&&◌, ◌||◌}
use Rattle.std.specs.Prelude.{filter, map, not, ◌==◌}
use Rattle.std.specs.List.{Contains, list_any}
use Rattle.std.proofs.lemmas.Bool.{and_parts, and_from, eqb-true, eq-eqb}
use Rattle.component_dto.specs.declared.description.Description.{Description}
use Rattle.component_state.specs.declared.component.Component.{Component}
use Rattle.component_state.specs.declared.origin.Origin.{Origin}
use Rattle.component_state.specs.declared.open_period.OpenPeriod.{OpenPeriod}
use Rattle.component_state.specs.Components.{existing, numbers_of, level_of, level_count}
use Rattle.component_state.specs.Marks.{held_back, with_leaving}
use Rattle.component_state.specs.Periods.{is_current, is_open}
use Rattle.component_state.specs.Scratch.{is_satisfied, satisfied}
use Rattle.prop_map.specs.Words.{has}
use Rattle.scr_world.specs.declared.world.World.{World}
use Rattle.scr_world.specs.Legal.{IsOpenFromScratch}
use Rattle.scr_world.specs.Levels.{levels_of}
use Rattle.scr_laws.specs.Sound.{IsSound}
use Rattle.scr_world.specs.Tables.{descriptions_of}
use Rattle.scr_world.specs.Worlds.{direct_services, origins_of, satisfied_in, registered_services}
use Rattle.scr_laws.specs.Opens.{IsInOrder, IsOpenByRegistered, has_leaving, is_leaving, is_to_be_open, meets_all, some_numbered}
use Rattle.component_state.specs.Inside.Ready.{ArePlain}
use Rattle.component_state.proofs.Apart.{any_found, any_from, either_way, has_both, not_true, kept_from, kept_was, key_in, keyed, one_of}
use Rattle.component_state.proofs.Seen.{numbered_apart}
use Rattle.component_state.proofs.Below.{below_was, everyone_from, number_of, satisfied_same, satisfied_same_back, seen}

-- a test of the number alone may be made once
some_with : (test : Component → Bool) (f : ℕ → Bool) (cs : List Component) (number : ℕ) → some_numbered (λ (c : Component). test c && f c.number) cs number ≡ (some_numbered test cs number && f number)
some_with test f [] number = refl
some_with test f (c ∷ cs) number = go (c.number == number) refl (test c) (some_with test f cs number)
  where
    go : (b : Bool) → (c.number == number) ≡ b → (t : Bool) → some_numbered (λ (d : Component). test d && f d.number) cs number ≡ (some_numbered test cs number && f number)
        → ((b && (t && f c.number)) || some_numbered (λ (d : Component). test d && f d.number) cs number) ≡ (((b && t) || some_numbered test cs number) && f number)
    go false off t rest = rest
    go true same false rest = rest
    go true same true rest = ap (λ b. f c.number || b) rest ∙ ap (λ k. f k || (some_numbered test cs number && f number)) (eqb-true c.number number same) ∙ absorbed (f number) (some_numbered test cs number)
      where
        absorbed : (a b : Bool) → (a || (b && a)) ≡ a
        absorbed true b = refl
        absorbed false true = refl
        absorbed false false = refl

-- who is held back
leaving_is : (open_ones : List OpenPeriod) (all : List Origin) (number : ℕ) → has (with_leaving open_ones all) number ≡ list_any (is_leaving open_ones number) all
leaving_is open_ones [] number = refl
leaving_is open_ones (l ∷ ls) number = go (is_current open_ones l) (leaving_is open_ones ls number)
  where
    go : (b : Bool) → has (with_leaving open_ones ls) number ≡ list_any (is_leaving open_ones number) ls
        → has (map (λ (k : Origin). k.configuration) (cond (not b) (l ∷ filter (λ k. not (is_current open_ones k)) ls) (filter (λ k. not (is_current open_ones k)) ls))) number ≡ (((l.configuration == number) && not b) || list_any (is_leaving open_ones number) ls)
    go true rest = rest ∙ ap (λ b. b || list_any (is_leaving open_ones number) ls) (sym (off (l.configuration == number)))
      where
        off : (b : Bool) → (b && false) ≡ false
        off true = refl
        off false = refl
    go false rest = ap (λ b. (l.configuration == number) || b) rest ∙ ap (λ b. b || list_any (is_leaving open_ones number) ls) (sym (on (l.configuration == number)))
      where
        on : (b : Bool) → (b && true) ≡ b
        on true = refl
        on false = refl

held_is : (w : World) (number : ℕ) → not (has (held_back w.failed w.open_periods (origins_of w.instances)) number) ≡ (not (has w.failed number) && not (has_leaving w number))
held_is w number = ap not (has_both w.failed (with_leaving w.open_periods (origins_of w.instances)) number ∙ ap (λ b. has w.failed number || b) (leaving_is w.open_periods (origins_of w.instances) number)) ∙ neither (has w.failed number) (has_leaving w number)
  where
    neither : (a b : Bool) → not (a || b) ≡ (not a && not b)
    neither true b = refl
    neither false b = refl

module _ (w : World) (fine : IsInOrder w) where
  abbrev described : List Description
  described = descriptions_of w.documents

  abbrev levels : List ℕ
  levels = levels_of described

  abbrev out : List ℕ
  out = held_back w.failed w.open_periods (origins_of w.instances)

  abbrev from_scratch : List Component
  from_scratch = satisfied described levels (direct_services w) w.open_periods w.components out

  scratch_is : satisfied_in w ≡ numbers_of from_scratch
  unfolding satisfied_in
  scratch_is = refl

  -- where each one sees as much from scratch as among what is registered
  module _ (same_met : (c : Component) → Contains (existing w.components) c → is_satisfied (seen described levels (direct_services w) w.open_periods w.components out (level_of described levels c)) c ≡ is_satisfied (registered_services w) c) where
    met_from : (number : ℕ) → has (numbers_of from_scratch) number ≡ true → some_numbered (meets_all w) w.components number ≡ true
    met_from number is = let found = keyed number_of from_scratch number is in go found.0 found.1 found.2
      where
        go : (c : Component) → Contains from_scratch c → c.number ≡ number → some_numbered (meets_all w) w.components number ≡ true
        go c here same =
            let was = below_was described levels (direct_services w) w.open_periods w.components out (suc (level_count levels)) c here in
            let lives = kept_was (λ (d : Component). d.exists) w.components c was.0 in
            any_from (λ (d : Component). (d.number == number) && meets_all w d) w.components c lives.0
            (and_from (c.number == number) (meets_all w c) (eq-eqb c.number number same) (and_from c.exists (is_satisfied (registered_services w) c) lives.1 (sym (same_met c was.0) ∙ was.2)))

    met_to : (number : ℕ) → some_numbered (meets_all w) w.components number ≡ true → has (numbers_of from_scratch) number ≡ true
    met_to number is = let found = any_found (λ (d : Component). (d.number == number) && meets_all w d) w.components is in go found.0 found.1 (and_parts (found.0.number == number) (meets_all w found.0) found.2)
      where
        go : (c : Component) → Contains w.components c → ((c.number == number) ≡ true) × (meets_all w c ≡ true) → has (numbers_of from_scratch) number ≡ true
        go c here both =
            let met = and_parts c.exists (is_satisfied (registered_services w) c) both.1 in
            let there = kept_from (λ (d : Component). d.exists) w.components c here met.0 in
            subst (λ k. has (numbers_of from_scratch) k ≡ true) (eqb-true c.number number both.0)
            (key_in number_of from_scratch c (everyone_from described levels (direct_services w) w.open_periods w.components out c there (same_met c there ∙ met.1)))

    satisfied_where : (number : ℕ) → has (satisfied_in w) number ≡ some_numbered (meets_all w) w.components number
    satisfied_where number = ap (λ ns. has ns number) scratch_is ∙ either_way (has (numbers_of from_scratch) number) (some_numbered (meets_all w) w.components number) (met_from number) (met_to number)

  -- what is to be open, by the two halves of its test
  to_be_open_is : (number : ℕ) → some_numbered (is_to_be_open w) w.components number ≡ (some_numbered (meets_all w) w.components number && not (has out number))
  to_be_open_is number = some_with (meets_all w) (λ k. not (has w.failed k) && not (has_leaving w k)) w.components number ∙ ap (λ b. some_numbered (meets_all w) w.components number && b) (sym (held_is w number))

  module _ (scratch : IsOpenFromScratch w) where
    open_is : (number : ℕ) → is_open w.open_periods number ≡ (has (numbers_of from_scratch) number && not (has out number))
    open_is number = scratch number ∙ ap (λ ns. has ns number && not (has out number)) scratch_is

    -- satisfied from scratch is satisfied by the registered services
    pub satisfied_is : (number : ℕ) → has (satisfied_in w) number ≡ some_numbered (meets_all w) w.components number
    satisfied_is = satisfied_where (satisfied_same described levels (direct_services w) w.open_periods w.components out fine.numbered fine.levels fine.described fine.periods fine.plain open_is)

    -- and open is what is to be open
    pub opens_by_registered : IsOpenByRegistered w
    opens_by_registered number = scratch number ∙ ap (λ b. b && not (has out number)) (satisfied_is number) ∙ sym (to_be_open_is number)

    -- said of each component configuration that there is
    pub opens_each : (c : Component) → Contains w.components c → is_open w.open_periods c.number ≡ is_to_be_open w c
    opens_each c here = opens_by_registered c.number ∙ either_way (some_numbered (is_to_be_open w) w.components c.number) (is_to_be_open w c) one to
      where
        one : some_numbered (is_to_be_open w) w.components c.number ≡ true → is_to_be_open w c ≡ true
        one is = let found = any_found (λ (d : Component). (d.number == c.number) && is_to_be_open w d) w.components is in
            let both = and_parts (found.0.number == c.number) (is_to_be_open w found.0) found.2 in
            subst (λ (d : Component). is_to_be_open w d ≡ true) (one_of number_of w.components (numbered_apart w.components fine.numbered) found.0 c found.1 here (eqb-true found.0.number c.number both.0)) both.1

        to : is_to_be_open w c ≡ true → some_numbered (is_to_be_open w) w.components c.number ≡ true
        to is = any_from (λ (d : Component). (d.number == c.number) && is_to_be_open w d) w.components c here (and_from (c.number == c.number) (is_to_be_open w c) (eq-eqb c.number c.number refl) is)

  -- and where open is what is to be open, it is what is satisfied from scratch: levels add nothing
  module _ (opens : IsOpenByRegistered w) where
    to_open : (c : Component) → Contains (existing w.components) c → is_satisfied (registered_services w) c ≡ true → has out c.number ≡ false → is_open w.open_periods c.number ≡ true
    to_open c h met off = let lives = kept_was (λ (d : Component). d.exists) w.components c h in
        opens c.number
        ∙ any_from (λ (d : Component). (d.number == c.number) && is_to_be_open w d) w.components c lives.0
        (and_from (c.number == c.number) (is_to_be_open w c) (eq-eqb c.number c.number refl)
        (and_from (meets_all w c) (not (has w.failed c.number) && not (has_leaving w c.number)) (and_from c.exists (is_satisfied (registered_services w) c) lives.1 met) (sym (held_is w c.number) ∙ ap not off)))

    opener : (p : OpenPeriod) → Contains w.open_periods p → (c : Component) × Contains (existing w.components) c × (c.number ≡ p.configuration) × (is_satisfied (registered_services w) c ≡ true) × (has out p.configuration ≡ false)
    opener p here =
        let found = any_found (λ (d : Component). (d.number == p.configuration) && is_to_be_open w d) w.components
        (sym (opens p.configuration) ∙ any_from (λ (q : OpenPeriod). q.configuration == p.configuration) w.open_periods p here (eq-eqb p.configuration p.configuration refl)) in
        let both = and_parts (found.0.number == p.configuration) (is_to_be_open w found.0) found.2 in
        let parts = and_parts (meets_all w found.0) (not (has w.failed found.0.number) && not (has_leaving w found.0.number)) both.1 in
        let met = and_parts found.0.exists (is_satisfied (registered_services w) found.0) parts.0 in
        let same = eqb-true found.0.number p.configuration both.0 in (
          found.0,
          kept_from (λ (d : Component). d.exists) w.components found.0 found.1 met.0,
          same,
          met.1,
          not_true (has out p.configuration) (ap (λ k. not (has out k)) (sym same) ∙ held_is w found.0.number ∙ parts.1),
        )

    pub scratch_by_registered : IsOpenFromScratch w
    scratch_by_registered number =
        opens number
        ∙ to_be_open_is number
        ∙ ap (λ b. b && not (has out number)) (sym (satisfied_where (satisfied_same_back described levels (direct_services w) w.open_periods w.components out fine.numbered fine.levels fine.described fine.periods fine.plain to_open opener) number))

-- the laws of worlds of legal journals give it
pub sound_in_order : (w : World) → IsSound w → IsInOrder w
sound_in_order w sound = record {
  levels = sound.acyclic;
  numbered = sound.numbered;
  described = λ c h. sound.described c (kept_was (λ (d : Component). d.exists) w.components c h).0;
  periods = sound.periods;
  plain = sound.plain;
}
