-- Room for a command, by what the journal counts.
use Rattle.std.proofs.Common.{◌≡◌, ◌≤◌, ◌+◌, ◌∙◌, ℕ, ap, arith, length, subst, sym}
use Rattle.std.specs.Prelude.{nat_lt}
use Rattle.std.proofs.lemmas.Bool.Decides.{nat_tests}
use Rattle.std.proofs.lemmas.List.{length-reverse}
use Rattle.journal_core.specs.Rooms.{JournalRows}
use Rattle.scr_laws.proofs.CreatedLaws.{entries_of}
use Rattle.scr_laws.proofs.FewNumbers.{few_numbers}
use Rattle.scr_laws.specs.Numbers.{HasFewNumbers}
use Rattle.scr_state.specs.Keeps.{Keeps}
use Rattle.scr_state.specs.declared.state.State.{State}
use Rattle.scr_world.specs.Room.{has_room}
use Rattle.scr_world.specs.Steps.{history_of}
use Rattle.scr_world.specs.declared.step.Step.{Step}
use Rattle.scr_world.specs.declared.world.World.{World}

-- the journal and the world count the same entries
pub entries_are : (j : JournalRows Step) (s : State) → Keeps j s → s.world.entries ≡ length j.entries
entries_are j s keeps = ap (λ (w : World). w.entries) keeps.world ∙ entries_of (history_of j.entries) ∙ length-reverse j.entries

-- no more bundles and listeners were numbered than it has
pub record HasFewBeside (j : JournalRows Step) (w : World) : Type 0 where
  pub bundles : w.bundles.numbered ≤ length j.entries
  pub listeners : w.listeners.numbered ≤ length j.entries

pub few_numbers_in : (j : JournalRows Step) (s : State) → Keeps j s → HasFewBeside j s.world
few_numbers_in j s keeps =
    let few : HasFewNumbers s.world = subst (λ (w : World). HasFewNumbers w) (sym keeps.world) (few_numbers j.limit (history_of j.entries) keeps.legal) in
    let counted = entries_are j s keeps in
    record { bundles = omega (arith, few.bundles, counted); listeners = omega (arith, few.listeners, counted) }

-- a command has room exactly where the journal has room for one entry more
pub room_is : (j : JournalRows Step) (s : State) (room : ℕ) → Keeps j s → length j.entries + j.reserved + room ≡ j.limit → nat_lt 0 room ≡ has_room j.limit s.world 1
unfolding has_room
room_is j s room keeps left =
    let counted = entries_are j s keeps in
    let kept = keeps.reserved in
    grind (arith, nat_tests)
