-- What open periods and numbers are in the world of every legal journal.
use Rattle.std.proofs.Common.{◌≡◌, ◌<◌, ℕ, suc, ◌+◌, List, [], ◌∷◌, ap, sym, ◌∙◌, refl, subst, arith, true, false, ◌&&◌, ◌||◌, inl, inr}
use Rattle.std.specs.Prelude.{map, not, ◌==◌}
use Rattle.std.specs.List.{Contains, list_any}
use Rattle.std.proofs.lemmas.Bool.{and_parts, eq-eqb}
use Rattle.component_state.specs.declared.component.Component.{Component}
use Rattle.component_state.specs.declared.open_period.OpenPeriod.{OpenPeriod}
use Rattle.component_state.specs.ComponentConfigurations.{component_after, new_components, with_numbers}
use Rattle.component_state.specs.Components.{numbers_of, level_count}
use Rattle.component_state.specs.Marks.{held_back}
use Rattle.component_state.specs.Passes.{pass_order_of, opened_from, opening, held_back_in, satisfied_where as satisfied_at}
use Rattle.component_state.specs.Inside.Ready.{IsPeriodOf}
use Rattle.component_state.specs.Periods.{is_open, open_after}
use Rattle.component_state.specs.Rows.{with_present_properties}
use Rattle.component_state.specs.Scratch.{satisfied}
use Rattle.journal_core.specs.declared.entry.Entry.{Entry}
use Rattle.prop_map.specs.Words.{has}
use Rattle.scr_world.specs.declared.command.Command.{Command}
use Rattle.scr_world.specs.declared.step.Step.{Step}
use Rattle.scr_world.specs.declared.step.Step.TheVariants.{Command as Commanded, Begin, End, Drained, Got, Released}
use Rattle.scr_world.specs.declared.world.World.{World}
use Rattle.scr_world.specs.Consequences.{stage_in, stage_of}
use Rattle.scr_world.specs.Legal.{Follows, IsLegal, IsOpenFromScratch}
use Rattle.scr_world.specs.Levels.{levels_of}
use Rattle.scr_world.specs.Lists.{world_after_entry, world_of}
use Rattle.scr_world.specs.Steps.{History}
use Rattle.scr_world.specs.Stepping.{component_configurations_by, components_added_by, components_by, is_counted, periods_with, counted_components, world_after_step}
use Rattle.scr_world.specs.Tables.{descriptions_of}
use Rattle.scr_world.specs.Worlds.{direct_services, origins_of, satisfied_in}
use Rattle.component_state.specs.Inside.Ready.{ArePlain, are_apart}
use Rattle.component_state.proofs.Apart.{any_from, apart_kept, in_cases, in_first, in_left, in_none, in_rest, kept_from, kept_was, key_in, keyed, not_true}
use Rattle.component_state.proofs.Below.{below_was, number_of}
use Rattle.component_state.proofs.Numbering.{AreUpTo, asking_apart, asking_up_to, kept_name}
use Rattle.component_state.proofs.Plain.{in_mapped, open_after_of, open_after_plain, pass_apart, pass_was, renewed_plain}
use Rattle.component_state.proofs.Renewed.{renewed_of}

-- numbers differ and are no higher than how many came, and open periods are plain and have their rows
pub record AreWell (cs : List Component) (came : ℕ) (open_ones : List OpenPeriod) : Type 0 where
  pub apart : are_apart (numbers_of cs) ≡ true
  pub up_to : AreUpTo came cs
  pub periods : (p : OpenPeriod) → Contains open_ones p → IsPeriodOf cs p
  pub plain : ArePlain open_ones

-- what is open lives
pub open_lives : (w : World) → IsOpenFromScratch w → (p : OpenPeriod) → Contains w.open_periods p → (c : Component) × Contains w.components c × (c.exists ≡ true) × (p.configuration ≡ c.number)
unfolding satisfied_in
open_lives w scratch p here =
    let both = and_parts (has (satisfied_in w) p.configuration) (not (has (held_back w.failed w.open_periods (origins_of w.instances)) p.configuration))
    (sym (scratch p.configuration) ∙ any_from (λ (q : OpenPeriod). q.configuration == p.configuration) w.open_periods p here (eq-eqb p.configuration p.configuration refl)) in
    let found = keyed number_of (satisfied (descriptions_of w.documents) (levels_of (descriptions_of w.documents)) (direct_services w) w.open_periods w.components (held_back w.failed w.open_periods (origins_of w.instances))) p.configuration both.0 in
    let was = below_was (descriptions_of w.documents) (levels_of (descriptions_of w.documents)) (direct_services w) w.open_periods w.components (held_back w.failed w.open_periods (origins_of w.instances))
    (suc (level_count (levels_of (descriptions_of w.documents)))) found.0 found.1 in
    let lives = kept_was (λ (d : Component). d.exists) w.components found.0 was.0 in
    (found.0, lives.0, lives.1, sym found.2)

pub in_map : {X Y : Type 0} (f : X → Y) (xs : List X) (x : X) → Contains xs x → Contains (map f xs) (f x)
in_map f [] x h = absurd (in_none x h)
in_map f (y ∷ ys) x h = elim (in_cases y ys x h) [
  | inl same ↦ subst (λ z. Contains (f y ∷ map f ys) (f z)) same (in_first (f y) (map f ys))
  | inr later ↦ in_rest (f y) (map f ys) (f x) (in_map f ys x later)
]

-- a command
commanded_well : (command : Command) (w : World) → IsOpenFromScratch w → AreWell w.components w.components_numbered w.open_periods
    → AreWell (components_by (Commanded command) w) (w.components_numbered + components_added_by (Commanded command) w) (periods_with (Commanded command) (components_by (Commanded command) w) w.open_periods)
commanded_well command w scratch well = record {
  apart = apart_now;
  up_to = asking_up_to w.entries w.components_numbered (component_configurations_by (Commanded command) w) (counted_components w) apart_kept_ones up_to_kept;
  periods = λ p h. let q = in_mapped (with_present_properties (components_by (Commanded command) w)) w.open_periods p h in
      subst (λ (x : OpenPeriod). IsPeriodOf (components_by (Commanded command) w) x) q.2 (of_one q.0 q.1);
  plain = renewed_plain (components_by (Commanded command) w) w.open_periods well.plain;
}
  where
    apart_kept_ones : are_apart (numbers_of (counted_components w)) ≡ true
    apart_kept_ones = apart_kept number_of (is_counted w.instances) w.components well.apart

    up_to_kept : AreUpTo w.components_numbered (counted_components w)
    up_to_kept k is = let found = keyed number_of (counted_components w) k is in
        well.up_to k (ap (has (numbers_of w.components)) (sym found.2) ∙ key_in number_of w.components found.0 (kept_was (is_counted w.instances) w.components found.0 found.1).0)

    apart_now : are_apart (numbers_of (components_by (Commanded command) w)) ≡ true
    apart_now = asking_apart w.entries w.components_numbered (component_configurations_by (Commanded command) w) (counted_components w) apart_kept_ones up_to_kept

    of_one : (p : OpenPeriod) → Contains w.open_periods p → IsPeriodOf (components_by (Commanded command) w) (with_present_properties (components_by (Commanded command) w) p)
    of_one p h = let c = open_lives w scratch p h in
        renewed_of w.components (components_by (Commanded command) w) well.apart apart_now p (well.periods p h) c.0 (component_after w.entries (component_configurations_by (Commanded command) w) c.0) c.1 c.3
        (in_left (map (component_after w.entries (component_configurations_by (Commanded command) w)) (counted_components w)) (with_numbers (w.components_numbered + 1) (new_components (counted_components w) (component_configurations_by (Commanded command) w))) (component_after w.entries (component_configurations_by (Commanded command) w) c.0)
        (in_map (component_after w.entries (component_configurations_by (Commanded command) w)) (counted_components w) c.0
        (kept_from (is_counted w.instances) w.components c.0 c.1 (ap (λ b. b || list_any (λ i. i.origin.configuration == c.0.number) w.instances) c.2))))
        (kept_name w.entries (component_configurations_by (Commanded command) w) c.0)

-- any other step leaves them
left_well : (w : World) → AreWell w.components w.components_numbered w.open_periods → AreWell w.components (w.components_numbered + 0) w.open_periods
left_well w well = record { apart = well.apart; up_to = λ k is. (let low = well.up_to k is in omega (arith, low)); periods = well.periods; plain = well.plain }

pub step_well : (step : Step) (w : World) → IsOpenFromScratch w → AreWell w.components w.components_numbered w.open_periods → AreWell (components_by step w) (w.components_numbered + components_added_by step w) (periods_with step (components_by step w) w.open_periods)
step_well (Commanded command) w scratch well = commanded_well command w scratch well
step_well (Begin turn instance configuration consumer callback chosen) w scratch well = left_well w well
step_well (End turn outcome) w scratch well = left_well w well
step_well (Drained instance) w scratch well = left_well w well
step_well (Got bundle service) w scratch well = left_well w well
step_well (Released place) w scratch well = left_well w well

pub stepped_well : (step : Step) (w : World) → IsOpenFromScratch w → AreWell w.components w.components_numbered w.open_periods → AreWell (world_after_step step w).components (world_after_step step w).components_numbered (world_after_step step w).open_periods
unfolding world_after_step
stepped_well step w scratch well = step_well step w scratch well

-- and a pass keeps them
module _ (step : Step) (w : World) (closed : List ℕ) (now : List OpenPeriod) (well : AreWell (world_after_step step w).components (world_after_step step w).components_numbered (world_after_step step w).open_periods) where
  abbrev ones : List Component
  ones = opening (stage_of step w) now

  among : (c : Component) → Contains ones c → Contains (world_after_step step w).components c
  unfolding stage_of stage_in
  among c h = pass_was (stage_of step w).descriptions (stage_of step w).levels (world_after_step step w).components well.apart c
      (kept_was (λ (d : Component). has (satisfied_at (stage_of step w) now) d.number && (not (has (held_back_in (stage_of step w) now) d.number) && not (is_open (stage_of step w).open_before d.number))) (pass_order_of (stage_of step w)) c h).0

  ones_apart : are_apart (numbers_of ones) ≡ true
  unfolding stage_of stage_in
  ones_apart = apart_kept number_of (λ (d : Component). has (satisfied_at (stage_of step w) now) d.number && (not (has (held_back_in (stage_of step w) now) d.number) && not (is_open (stage_of step w).open_before d.number))) (pass_order_of (stage_of step w))
      (pass_apart (stage_of step w).descriptions (stage_of step w).levels (world_after_step step w).components well.apart)

  fresh : (c : Component) → Contains ones c → is_open (world_after_step step w).open_periods c.number ≡ false
  unfolding stage_of stage_in
  fresh c h = let test = (kept_was (λ (d : Component). has (satisfied_at (stage_of step w) now) d.number && (not (has (held_back_in (stage_of step w) now) d.number) && not (is_open (stage_of step w).open_before d.number))) (pass_order_of (stage_of step w)) c h).1 in
      not_true (is_open (world_after_step step w).open_periods c.number)
      (and_parts (not (has (held_back_in (stage_of step w) now) c.number)) (not (is_open (stage_of step w).open_before c.number))
      (and_parts (has (satisfied_at (stage_of step w) now) c.number) (not (has (held_back_in (stage_of step w) now) c.number) && not (is_open (stage_of step w).open_before c.number)) test).1).1

  some_next : 0 < (stage_of step w).next
  unfolding stage_of stage_in
  some_next = omega arith

  pub passed_well : AreWell (world_after_step step w).components (world_after_step step w).components_numbered (open_after (world_after_step step w).entries (world_after_step step w).components closed (opened_from (stage_of step w).next ones) (world_after_step step w).open_periods)
  passed_well = record {
    apart = well.apart;
    up_to = well.up_to;
    periods = open_after_of (world_after_step step w).entries (stage_of step w).next (world_after_step step w).components ones some_next well.apart among closed (world_after_step step w).open_periods well.periods;
    plain = open_after_plain (world_after_step step w).entries (stage_of step w).next (world_after_step step w).components ones some_next well.apart among closed (world_after_step step w).open_periods well.plain ones_apart fresh;
  }

after_well : (limit : ℕ) (entry : Entry Step) (past : History) → Follows limit entry past → IsOpenFromScratch (world_of past) → AreWell (world_of past).components (world_of past).components_numbered (world_of past).open_periods
    → AreWell (world_after_entry entry (world_of past)).components (world_after_entry entry (world_of past)).components_numbered (world_after_entry entry (world_of past)).open_periods
unfolding world_after_entry
after_well limit entry past follows scratch well =
    subst (λ os. AreWell (world_after_step entry.step (world_of past)).components (world_after_step entry.step (world_of past)).components_numbered
    (open_after (world_after_step entry.step (world_of past)).entries (world_after_step entry.step (world_of past)).components entry.closed os (world_after_step entry.step (world_of past)).open_periods)) (sym follows.opened)
    (passed_well entry.step (world_of past) entry.closed (world_of (entry ∷ past)).open_periods (stepped_well entry.step (world_of past) scratch well))

pub legal_scratch : (limit : ℕ) (past : History) → IsLegal limit past → IsOpenFromScratch (world_of past)
unfolding world_of satisfied_in
legal_scratch limit [] legal number = refl
legal_scratch limit (entry ∷ past) legal number = legal.0.scratch number

pub legal_well : (limit : ℕ) (past : History) → IsLegal limit past → AreWell (world_of past).components (world_of past).components_numbered (world_of past).open_periods
unfolding world_of
legal_well limit [] legal = record { apart = refl; up_to = λ k is. cc; periods = λ p h. absurd (in_none p h); plain = record { apart = refl; silent = λ p h. absurd (in_none p h) } }
legal_well limit (entry ∷ past) legal = after_well limit entry past legal.0 (legal_scratch limit past legal.1) (legal_well limit past legal.1)
