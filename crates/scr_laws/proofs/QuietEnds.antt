-- An end that ends lives of component configurations that aren't satisfied makes no pass.
use Rattle.std.proofs.Common.{◌≡◌, ℕ, List, [], ◌∷◌, ap, sym, ◌∙◌, refl, cond, Bool, true, false, ◌||◌, inl, inr}
use Rattle.std.specs.Prelude.{filter, map, not, ◌==◌}
use Rattle.std.specs.List.{list_all, list_any}
use Rattle.std.proofs.lemmas.Bool.{and_parts, both_ways, cases_Bool, eqb-true, not-true}
use Rattle.callback_orders.specs.declared.callback.Outcome.{Outcome}
use Rattle.component_state.specs.declared.origin.Origin.{Origin}
use Rattle.component_state.specs.declared.open_period.OpenPeriod.{OpenPeriod}
use Rattle.component_state.specs.Marks.{with_leaving}
use Rattle.component_state.specs.Periods.{is_current}
use Rattle.component_state.specs.Inside.Misled.{is_misled}
use Rattle.component_state.specs.Passes.{services_in}
use Rattle.prop_map.specs.Words.{has, is_empty}
use Rattle.scr_world.specs.declared.step.Step.TheVariants.{End}
use Rattle.scr_world.specs.declared.instance.Instance.{Instance}
use Rattle.scr_world.specs.declared.world.World.{World}
use Rattle.scr_world.specs.Consequences.{stage_in}
use Rattle.scr_world.specs.Instances.{ended_in, has_turn, lives_on, with_outcome}
use Rattle.scr_world.specs.Stepping.{failing, instances_told, world_after_step}
use Rattle.scr_world.specs.Worlds.{origins_of, satisfied_in as satisfied_at}
use Rattle.scr_laws.specs.Stills.{IsAtRest, LeavesPass, is_past, is_quiet_end}
use Rattle.scr_laws.proofs.QuietSteps.{life_of_either, none_in}

or_off : (a b : Bool) → (a || b) ≡ false → (a ≡ false) × (b ≡ false)
or_off false b is = (refl, is)
or_off true b is = cc

-- a test that no life passes is passed by none that stays
none_stays : (p : Origin → Bool) (f : Instance → Instance) (is : List Instance) → ((i : Instance) → (f i).origin ≡ i.origin) → list_any p (origins_of is) ≡ false → list_any p (origins_of (filter lives_on (map f is))) ≡ false
none_stays p f [] same none = refl
none_stays p f (i ∷ is) same none = let both = or_off (p i.origin) (list_any p (origins_of is)) none in go (none_stays p f is same both.1) both.0 (lives_on (f i))
  where
    go : list_any p (origins_of (filter lives_on (map f is))) ≡ false → p i.origin ≡ false → (b : Bool) → list_any p (origins_of (cond b (f i ∷ filter lives_on (map f is)) (filter lives_on (map f is)))) ≡ false
    go rest first true = rw (same i, first) rest
    go rest first false = rest

-- whether one leaves, where each that ended was of another number
leaving_stays : (open_ones : List OpenPeriod) (f : Instance → Instance) (met : ℕ → Bool) (n : ℕ) → met n ≡ true → (is : List Instance) → ((i : Instance) → (f i).origin ≡ i.origin)
    → list_all (λ (i : Instance). lives_on i || not (met i.origin.configuration)) (map f is) ≡ true → has (with_leaving open_ones (origins_of (filter lives_on (map f is)))) n ≡ has (with_leaving open_ones (origins_of is)) n
leaving_stays open_ones f met n is_met [] same past = refl
leaving_stays open_ones f met n is_met (i ∷ is) same past =
    let both = and_parts (lives_on (f i) || not (met (f i).origin.configuration)) (list_all (λ (i : Instance). lives_on i || not (met i.origin.configuration)) (map f is)) past in
    go (leaving_stays open_ones f met n is_met is same both.1) (lives_on (f i)) both.0
  where
    apart : not (met (f i).origin.configuration) ≡ true → (i.origin.configuration == n) ≡ false
    apart off = elim (cases_Bool (i.origin.configuration == n)) [
      | inl equal ↦ absurd (both_ways (met n) (ap met (sym (eqb-true i.origin.configuration n equal)) ∙ ap (λ (l : Origin). met l.configuration) (sym (same i)) ∙ not-true (met (f i).origin.configuration) off) is_met)
      | inr other ↦ other
    ]

    dropped : (b : Bool) → (i.origin.configuration == n) ≡ false → has (with_leaving open_ones (origins_of is)) n ≡ has (map (λ (l : Origin). l.configuration) (cond b (i.origin ∷ filter (λ l. not (is_current open_ones l)) (origins_of is)) (filter (λ l. not (is_current open_ones l)) (origins_of is)))) n
    dropped true other = rw (other) refl
    dropped false other = refl

    both_have : (b : Bool) → has (with_leaving open_ones (origins_of (filter lives_on (map f is)))) n ≡ has (with_leaving open_ones (origins_of is)) n
        → has (map (λ (l : Origin). l.configuration) (cond b (i.origin ∷ filter (λ l. not (is_current open_ones l)) (origins_of (filter lives_on (map f is)))) (filter (λ l. not (is_current open_ones l)) (origins_of (filter lives_on (map f is)))))) n
        ≡ has (map (λ (l : Origin). l.configuration) (cond b (i.origin ∷ filter (λ l. not (is_current open_ones l)) (origins_of is)) (filter (λ l. not (is_current open_ones l)) (origins_of is)))) n
    both_have true rest = ap (λ b. (i.origin.configuration == n) || b) rest
    both_have false rest = rest

    go : has (with_leaving open_ones (origins_of (filter lives_on (map f is)))) n ≡ has (with_leaving open_ones (origins_of is)) n → (b : Bool) → (b || not (met (f i).origin.configuration)) ≡ true
        → has (with_leaving open_ones (origins_of (cond b (f i ∷ filter lives_on (map f is)) (filter lives_on (map f is))))) n ≡ has (with_leaving open_ones (i.origin ∷ origins_of is)) n
    go rest true on = rw (same i) (both_have (not (is_current open_ones i.origin)) rest)
    go rest false off = rest ∙ dropped (not (is_current open_ones i.origin)) (apart off)

pub ends_quietly : (turn : ℕ) (outcome : Outcome) (w : World) → IsAtRest w → is_quiet_end turn outcome w ≡ true → LeavesPass (End turn outcome) w
unfolding world_after_step stage_in
ends_quietly turn outcome w rest is =
    let both = and_parts (list_all (is_past w) (instances_told (End turn outcome) w)) (is_empty (failing (End turn outcome) w)) is in
    let same : (i : Instance) → (ended_in turn outcome w.generations i).origin ≡ i.origin = λ i. life_of_either (has_turn turn i) (with_outcome outcome w.generations i) i i refl refl in record {
      place = refl;
      documents = refl;
      registry = refl;
      components = refl;
      open_periods = refl;
      failing = none_in (failing (End turn outcome) w) both.1;
      lives = record {
        leaving = λ c met. leaving_stays w.open_periods (ended_in turn outcome w.generations) (has (satisfied_at w)) c.number met w.instances same both.0;
        led = λ c was here. none_stays (is_misled w.entries w.open_periods (services_in (stage_in w []) w.open_periods) c) (ended_in turn outcome w.generations) w.instances same (rest.choices c was here);
      };
    }
