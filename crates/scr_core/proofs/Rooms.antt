-- Room in the journal, by what it counts itself.
use Rattle.std.proofs.Common.{◌≡◌, ◌≤◌, ◌+◌, ◌∙◌, ℕ, ap, arith, length, true}
use Rattle.std.specs.Prelude.{nat_le}
use Rattle.std.proofs.lemmas.Bool.Decides.{nat_tests}
use Rattle.std.proofs.lemmas.List.{length-reverse}
use Rattle.journal_core.specs.Rooms.{JournalRows}
use Rattle.scr_laws.proofs.CreatedLaws.{entries_of}
use Rattle.scr_state.specs.Keeps.{Keeps}
use Rattle.scr_state.specs.declared.state.State.{State}
use Rattle.scr_world.specs.Room.{has_room}
use Rattle.scr_world.specs.Steps.{history_of}
use Rattle.scr_world.specs.declared.step.Step.{Step}
use Rattle.scr_world.specs.declared.world.World.{World}

-- the journal and the world count the same entries
pub entries_are : (j : JournalRows Step) (s : State) → Keeps j s → s.world.entries ≡ length j.entries
entries_are j s keeps = ap (λ (w : World). w.entries) keeps.world ∙ entries_of (history_of j.entries) ∙ length-reverse j.entries

pub room_is : (j : JournalRows Step) (s : State) (room more : ℕ) → Keeps j s → length j.entries + j.reserved + room ≡ j.limit → nat_le more room ≡ has_room j.limit s.world more
unfolding has_room
room_is j s room more keeps left =
    let counted = entries_are j s keeps in
    let kept = keeps.reserved in
    grind (arith, nat_tests)

-- for what is reserved there is always room
pub room_for_none : (j : JournalRows Step) (s : State) → Keeps j s → length j.entries + j.reserved ≤ j.limit → has_room j.limit s.world 0 ≡ true
unfolding has_room
room_for_none j s keeps within =
    let counted = entries_are j s keeps in
    let kept = keeps.reserved in
    grind (arith, nat_tests)
