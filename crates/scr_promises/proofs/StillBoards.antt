-- What the whiteboard's instance holds stays in each entry that isn't a command and doesn't tell it.
use Rattle.std.proofs.Common.{◌≡◌, ◌<◌, ◌≤◌, ℕ, ◌+◌, List, [], ◌∷◌, ◌++◌, ap, sym, ◌∙◌, refl, subst, cond, arith, Bool, true, false, Some, inl, inr}
use Rattle.std.specs.Prelude.{◌==◌}
use Rattle.std.specs.List.{Contains}
use Rattle.callback_orders.specs.Lives.{held_for}
use Rattle.component_dto.specs.declared.description.Reference.{Reference}
use Rattle.component_state.specs.declared.component.Component.{Component}
use Rattle.component_state.specs.declared.open_period.OpenPeriod.{OpenPeriod}
use Rattle.component_state.proofs.Apart.{in_first}
use Rattle.journal_core.specs.declared.entry.Entry.{Entry}
use Rattle.prop_map.specs.Words.{has}
use Rattle.scr_promises.specs.Board.{HasSameRows}
use Rattle.scr_promises.proofs.SameRows.{same_rows}
use Rattle.scr_promises.proofs.HeldSteps.{board_references}
use Rattle.scr_promises.proofs.KnownLaws.{IsHeldAs, hold_as, known_found}
use Rattle.scr_readers.specs.Board.{board_changes, changes_board}
use Rattle.scr_promises.specs.Services.{known_services}
use Rattle.scr_promises.proofs.PeriodSteps.{renewed}
use Rattle.scr_promises.proofs.RegistrySteps.{number_of}
use Rattle.scr_promises.proofs.ServiceLaws.{AreServices, IsKind, of_platform, of_command, of_component, of_those_left, are_services, component_in, direct_in, goes_up, known_given, known_kind, known_one, new_number, platform_in, registered_known, rows_then, then_was, was_known}
use Rattle.scr_world.specs.Instances.{has_turn}
use Rattle.scr_world.specs.Legal.{IsLegal}
use Rattle.scr_world.specs.Lists.{world_after_entry, world_of}
use Rattle.scr_world.specs.Steps.{History}
use Rattle.scr_world.specs.Stepping.{components_by, whiteboard_by, world_after_step}
use Rattle.scr_world.specs.Tables.{registry_by}
use Rattle.scr_world.specs.Whiteboard.{condition, whiteboard_references}
use Rattle.scr_world.specs.Worlds.{row_known}
use Rattle.scr_world.specs.declared.instance.Instance.{Instance}
use Rattle.scr_world.specs.declared.step.Step.{Step}
use Rattle.scr_world.specs.declared.step.Step.TheVariants.{Command as Commanded, Begin, End, Drained, Got, Released}
use Rattle.scr_world.specs.declared.world.World.{World}
use Rattle.service_registry.specs.declared.row.ServiceRow.{ServiceRow}
use Rattle.service_registry.specs.Registries.{Registered}

untold : (b : Bool) (i j : Instance) → b ≡ false → cond b j i ≡ i
untold b i j e = ap (λ c. cond c j i) e

never : true ≡ false → ⊥
never e = cc

-- its instance stays
board_by : (step : Step) (w : World) → changes_board step w ≡ false → whiteboard_by step w ≡ w.whiteboard
board_by (Commanded command) w e = absurd (never e)
board_by (Begin turn instance configuration consumer callback chosen) w e = untold (w.whiteboard.number == instance) w.whiteboard _ e
board_by (End turn outcome) w e = untold (has_turn turn w.whiteboard) w.whiteboard _ e
board_by (Drained instance) w e = refl
board_by (Got bundle service) w e = refl
board_by (Released place) w e = refl

registry_stays : (step : Step) (w : World) → changes_board step w ≡ false → (t : Registered) → registry_by step t ≡ t
registry_stays (Commanded command) w e t = absurd (never e)
registry_stays (Begin turn instance configuration consumer callback chosen) w e t = refl
registry_stays (End turn outcome) w e t = refl
registry_stays (Drained instance) w e t = refl
registry_stays (Got bundle service) w e t = refl
registry_stays (Released place) w e t = refl

period_stays : (step : Step) (w : World) → changes_board step w ≡ false → (cs : List Component) (p : OpenPeriod) → renewed step cs p ≡ p
period_stays (Commanded command) w e cs p = absurd (never e)
period_stays (Begin turn instance configuration consumer callback chosen) w e cs p = refl
period_stays (End turn outcome) w e cs p = refl
period_stays (Drained instance) w e cs p = refl
period_stays (Got bundle service) w e cs p = refl
period_stays (Released place) w e cs p = refl

module _ (limit : ℕ) (entry : Entry Step) (past : History) (legal : IsLegal limit (entry ∷ past)) (still : changes_board entry.step (world_of past) ≡ false) where
  abbrev w : World
  w = world_of past

  abbrev then : World
  then = world_of (entry ∷ past)

  abbrev are : AreServices w
  are = are_services limit past legal.1

  board_same : then.whiteboard ≡ w.whiteboard
  unfolding world_of world_after_entry world_after_step
  board_same = board_by entry.step w still

  -- a known service with the number of one that was known was known
  was_so : (row : ServiceRow) → IsKind then row → (old : ServiceRow) → Contains (known_services w) old → row.id ≡ old.id → Contains (known_services w) row
  was_so row (of_platform is) old h same = subst (λ (x : ServiceRow). Contains (known_services w) x) is (registered_known w are condition (platform_in w))
  was_so row (of_command k) old h same =
      registered_known w are row (direct_in w row (subst (λ (t : Registered). Contains t.rows row) (registry_stays entry.step w still w.registry) (rows_then limit entry past legal are row k)))
  was_so row (of_component p k is some) old h same = elim (then_was limit entry past legal are p k) [
    | inl was ↦ (
        let same_period : was.was ≡ p = sym (period_stays entry.step w still (components_by entry.step w) was.was) ∙ was.made in
        let there : Contains w.open_periods p = subst (λ (x : OpenPeriod). Contains w.open_periods x) same_period was.there in
        subst (λ (x : ServiceRow). Contains (known_services w) x) is (registered_known w are p.row (component_in w p there (subst (λ n. 0 < n) (ap number_of (sym is)) some))))
    | inr new ↦ (
        let high = new_number limit entry past legal are p new (subst (λ n. 0 < n) (ap number_of (sym is)) some) in
        let low = known_given w are old h in
        let more = goes_up limit entry past legal are in
        let number = ap number_of is in
        absurd (omega (arith, high, low, more, number, same)))
  ]
  was_so row (of_those_left k) old h same = was_known limit entry past legal are row k

  same_service : (row old : ServiceRow) → Contains (known_services then) row → Contains (known_services w) old → row.id ≡ old.id → row ≡ old
  same_service row old k h same = known_one w are row old (was_so row (known_kind then row k) old h same) h same

  same_known : (r : Reference) → Contains whiteboard_references r → (s : ℕ) → has (held_for r.name w.whiteboard.callbacks) s ≡ true → row_known then s ≡ row_known w s
  same_known r in_r s held =
      let before : IsHeldAs w w.whiteboard r.name s = hold_as limit past legal.1 w.whiteboard (in_first w.whiteboard w.instances) r (subst (λ (l : List Reference). Contains l r) (sym (board_references past)) in_r) s held in
      let now : IsHeldAs then then.whiteboard r.name s = hold_as limit (entry ∷ past) legal then.whiteboard (in_first then.whiteboard then.instances) r
      (subst (λ (l : List Reference). Contains l r) (sym (board_references (entry ∷ past))) in_r) s (ap (λ (i : Instance). has (held_for r.name i.callbacks) s) board_same ∙ held) in
      known_found limit (entry ∷ past) legal now.row now.known s now.number
      ∙ ap (λ (x : ServiceRow). Some x) (same_service now.row before.row now.known before.known (now.number ∙ sym before.number))
      ∙ sym (known_found limit past legal.1 before.row before.known s before.number)

  pub board_stays : HasSameRows w then
  board_stays r in_r = same_rows then w r.name w.whiteboard then.whiteboard board_same (same_known r in_r)

-- ---- over many entries

changed_by : (b : Bool) (n : ℕ) → cond b (n + 1) n ≡ n → b ≡ false
changed_by true n e = absurd (omega (arith, e))
changed_by false n e = refl

rises_by : (b : Bool) (n : ℕ) → n ≤ cond b (n + 1) n
rises_by true n = omega arith
rises_by false n = omega arith

never_falls : (more past : History) → board_changes past ≤ board_changes (more ++ past)
never_falls [] past = omega arith
never_falls (entry ∷ more) past =
    let before = never_falls more past in
    let now = rises_by (changes_board entry.step (world_of (more ++ past))) (board_changes (more ++ past)) in
    omega (arith, before, now)

pub board_rows : (limit : ℕ) (more past : History) → IsLegal limit (more ++ past) → board_changes (more ++ past) ≡ board_changes past → HasSameRows (world_of past) (world_of (more ++ past))
board_rows limit [] past legal same = λ r in_r. refl
board_rows limit (entry ∷ more) past legal same =
    let before = never_falls more past in
    let changes = changes_board entry.step (world_of (more ++ past)) in
    let now = rises_by changes (board_changes (more ++ past)) in
    let so_far : board_changes (more ++ past) ≡ board_changes past = omega (arith, before, now, same) in
    let still : changes ≡ false = changed_by changes (board_changes (more ++ past)) (same ∙ sym so_far) in
    λ r in_r. board_stays limit entry (more ++ past) legal still r in_r ∙ board_rows limit more past legal.1 so_far r in_r
