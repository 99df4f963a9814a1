-- An open period of a component without interfaces has no service: its number is 0.
use Rattle.std.proofs.Common.{◌≡◌, ℕ, List, [], ◌∷◌, ap, sym, ◌∙◌, refl, subst, cond, true, inl, inr}
use Rattle.std.specs.List.{Contains}
use Rattle.std.specs.Option.{option_map_or}
use Rattle.component_state.specs.declared.component.Component.{Component}
use Rattle.component_state.specs.declared.open_period.OpenPeriod.{OpenPeriod}
use Rattle.component_state.specs.Components.{provides_no_service}
use Rattle.component_state.specs.Passes.{next_after, opened_from, opened_one, opening, pass_order_of}
use Rattle.component_state.specs.Periods.{open_after}
use Rattle.component_state.specs.Rows.{no_row, row_by, row_in}
use Rattle.component_state.proofs.Apart.{in_cases, in_first, in_none, in_rest, kept_was}
use Rattle.component_state.proofs.Below.{number_of}
use Rattle.component_state.proofs.Plain.{pass_was}
use Rattle.component_state.proofs.Seen.{found_by, numbered_apart}
use Rattle.journal_core.specs.declared.entry.Entry.{Entry}
use Rattle.journal_core.specs.declared.entry.Opened.{Opened}
use Rattle.prop_map.specs.Words.{is_empty}
use Rattle.scr_laws.proofs.Sounding.{legal_sound}
use Rattle.scr_promises.proofs.PeriodSteps.{IsOpened, open_was}
use Rattle.scr_world.specs.Consequences.{stage_in, stage_of}
use Rattle.scr_world.specs.Legal.{IsLegal}
use Rattle.scr_world.specs.Lists.{world_after_entry, world_of}
use Rattle.scr_world.specs.Steps.{History}
use Rattle.scr_world.specs.Stepping.{components_by, periods_with, world_after_step}
use Rattle.scr_world.specs.declared.step.Step.{Step}
use Rattle.scr_world.specs.declared.world.World.{World}

-- how each one opens
pub opened_by : (next : ℕ) (ones : List Component) (o : Opened) → Contains (opened_from next ones) o → (n : ℕ) × (c : Component) × Contains ones c × (o ≡ opened_one n c)
opened_by next [] o h = absurd (in_none o h)
opened_by next (c ∷ cs) o h = elim (in_cases (opened_one next c) (opened_from (next_after next c) cs) o h) [
  | inl same ↦ (next, c, in_first c cs, sym same)
  | inr later ↦ (let found = opened_by (next_after next c) cs o later in (found.0, found.1, in_rest c cs found.1 found.2, found.3))
]

silent_one : (n : ℕ) (c : Component) → provides_no_service c ≡ true → (opened_one n c).service ≡ 0
silent_one n c on = ap (λ b. cond b 0 n) on

abbrev pub AreSilent : World → Type 0
AreSilent w = (p : OpenPeriod) → Contains w.open_periods p → p.row.interfaces ≡ [] → p.row.id ≡ 0

module _ (limit : ℕ) (entry : Entry Step) (past : History) (legal : IsLegal limit (entry ∷ past)) (before : AreSilent (world_of past)) where
  abbrev w : World
  w = world_of past

  abbrev then : World
  then = world_of (entry ∷ past)

  periods_are : then.open_periods ≡ open_after w.entries (components_by entry.step w) entry.closed entry.opened (periods_with entry.step (components_by entry.step w) w.open_periods)
  unfolding world_of world_after_entry world_after_step
  periods_are = refl

  components_are : then.components ≡ components_by entry.step w
  unfolding world_of world_after_entry world_after_step
  components_are = refl

  opening_was : (c : Component) → Contains (opening (stage_of entry.step w) then.open_periods) c → Contains then.components c
  unfolding world_of world_after_entry world_after_step stage_of stage_in
  opening_was c h = pass_was (stage_of entry.step w).descriptions (stage_of entry.step w).levels then.components (numbered_apart then.components (legal_sound limit (entry ∷ past) legal).numbered) c
      (kept_was _ (pass_order_of (stage_of entry.step w)) c h).0

  one_silent : (p : OpenPeriod) → IsOpened w.entries (components_by entry.step w) entry.opened p → p.row.interfaces ≡ [] → p.row.id ≡ 0
  one_silent p is none =
      let by = opened_by (stage_of entry.step w).next (opening (stage_of entry.step w) then.open_periods) is.one (subst (λ (os : List Opened). Contains os is.one) legal.0.opened is.there) in
      let c = by.1 in
      let there = opening_was c by.2 in
      let number : is.one.configuration ≡ c.number = ap (λ (o : Opened). o.configuration) by.3 in
      let row : p.row ≡ row_by c is.one.service 0 =
      ap (λ (q : OpenPeriod). q.row) (sym is.made) ∙ ap (λ (cs : List Component). row_in cs is.one.configuration is.one.service 0) (sym components_are)
      ∙ ap (λ k. row_in then.components k is.one.service 0) number
      ∙ ap (λ o. option_map_or (λ d. row_by d is.one.service 0) o (no_row is.one.service 0)) (found_by number_of then.components (numbered_apart then.components (legal_sound limit (entry ∷ past) legal).numbered) c there) in
      let silent : provides_no_service c ≡ true = ap is_empty (ap (λ r. r.interfaces) (sym row) ∙ none) in
      is.number ∙ ap (λ (o : Opened). o.service) by.3 ∙ silent_one by.0 c silent

  silent_then : AreSilent then
  silent_then p h none = elim (open_was entry.step w.entries (components_by entry.step w) entry.closed entry.opened w.open_periods p (subst (λ (ps : List OpenPeriod). Contains ps p) periods_are h)) [
    | inl was ↦ was.same.service.number ∙ before was.was was.there (sym was.same.service.interfaces ∙ none)
    | inr is ↦ one_silent p is none
  ]

pub are_silent : (limit : ℕ) (past : History) → IsLegal limit past → AreSilent (world_of past)
unfolding world_of
are_silent limit [] legal = λ p h none. absurd (in_none p h)
are_silent limit (entry ∷ past) legal = silent_then limit entry past legal (are_silent limit past legal.1)
