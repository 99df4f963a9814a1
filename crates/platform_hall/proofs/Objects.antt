-- Whoever a call reaches has its object, and all is decided in the world of the whole journal.
use Rattle.std.proofs.Common.{◌≡◌, ℕ, List, [], ◌∷◌, ap, sym, true}
use Rattle.std.specs.Prelude.{length, take, ◌==◌}
use Rattle.std.proofs.lemmas.Bool.{and_from, both_ways, eq-eqb}
use Rattle.std.proofs.Math.Seq.{take-length}
use Rattle.callback_orders.specs.declared.instance_view.Phase.TheVariants.{Making}
use Rattle.callback_orders.specs.declared.word.Called.{Called}
use Rattle.callback_orders.specs.Grammar.{is_create}
use Rattle.callback_orders.specs.Lives.{phase_by, phase_of}
use Rattle.callback_orders.specs.Sequences.{is_done, is_sequence}
use Rattle.component_state.proofs.Apart.{any_from}
use Rattle.journal_core.specs.declared.entry.Entry.{Entry}
use Rattle.scr_requests.specs.Cores.{IsActiveAt}
use Rattle.scr_requests.proofs.Reaches.{reach_active}
use Rattle.scr_calls.specs.Evaluates.{reaching, whom, world_up_to}
use Rattle.scr_requests.specs.Cores.{CoreView}
use Rattle.scr_readers.specs.Reaching.{inward, outer}
use Rattle.scr_readers.specs.declared.live.Inward.{Inward}
use Rattle.scr_readers.specs.declared.live.Inward.TheVariants.{NoService, NoObject, Gone, Live as ToInward}
use Rattle.scr_readers.specs.declared.live.Live.{Live}
use Rattle.scr_readers.specs.declared.live.Outer.{Outer}
use Rattle.scr_readers.specs.declared.live.Outer.TheVariants.{Gone as UseGone, NoObject as UseNoObject, Pending as UsePending, Live as ToOuter}
use Rattle.scr_world.specs.Calls.{world_at}
use Rattle.scr_world.specs.Instances.{is_active_phase}
use Rattle.scr_world.specs.Steps.{history_of}
use Rattle.scr_world.specs.declared.marks.Token.{Token}
use Rattle.scr_world.specs.declared.step.Step.{Step}
use Rattle.platform_hall.specs.Callees.{HasItsObject, HasOuterObject}
use Rattle.platform_hall.specs.Platforms.{has_object, is_made, world}
use Rattle.platform_hall.proofs.Settlings.{HasLegal}
use Rattle.platform_hall.proofs.Starts.{made_for}
use Rattle.platform_hall.proofs.Turns.{turns_legal}
use Rattle.platform_hall.proofs.Words.{first_creates, first_done}

-- who is active was made
active_made : (calls : List Called) → is_sequence calls ≡ true → is_active_phase (phase_of calls) ≡ true → is_made calls ≡ true
active_made [] order active = cc
active_made (c ∷ []) order active =
    absurd (both_ways (is_active_phase (phase_by c.callback c.outcome Making)) (ap (λ k. is_active_phase (phase_by k c.outcome Making)) (first_creates c [] order)) active)
active_made (c ∷ d ∷ rest) order active = and_from (is_create c.callback) (is_done c.outcome) (ap is_create (first_creates c (d ∷ rest) order)) (first_done c d rest order).0

pub active_has_object : (p : CoreView) → HasLegal p → (number : ℕ) → IsActiveAt (world p) number → has_object p number ≡ true
active_has_object p legal number at =
    let are = turns_legal p.limits.journal (history_of p.journal) legal in
    any_from (made_for number) (world p).instances at.one at.there
    (and_from (at.one.number == number) (is_made at.one.callbacks) (eq-eqb at.one.number number at.its_number) (active_made at.one.callbacks (are.ordered.each at.one at.there).order at.active))

-- whom a nested call reaches
pub reached_has : (p : CoreView) → HasLegal p → (caller : ℕ) (reference : List ℕ) (reached : Inward) → reached ≡ inward (world p) caller reference → HasItsObject p reached
reached_has p legal caller reference NoService is = tt
reached_has p legal caller reference (NoObject service) is = tt
reached_has p legal caller reference (Gone service) is = tt
reached_has p legal caller reference (ToInward service live) is =
    active_has_object p legal live.instance ((reach_active p.limits.journal (history_of p.journal) legal).nested caller reference service live (sym is))

-- whom a get reaches
outer_has : (p : CoreView) → HasLegal p → (note : Token) (live : Live) → ToOuter live ≡ outer (world p) note → has_object p live.instance ≡ true
outer_has p legal note live is = active_has_object p legal live.instance ((reach_active p.limits.journal (history_of p.journal) legal).by_get note live (sym is))

pub outer_object : (p : CoreView) → HasLegal p → (note : Token) (to : Outer) → to ≡ outer (world p) note → HasOuterObject p to
outer_object p legal note UseGone is = tt
outer_object p legal note UseNoObject is = tt
outer_object p legal note UsePending is = tt
outer_object p legal note (ToOuter live) is = outer_has p legal note live is

-- the world of all entries
pub whole : (journal : List (Entry Step)) → world_up_to journal (length journal) ≡ world_at journal
whole journal = ap world_at (take-length journal)

-- whom a nested call reaches in it
pub reaching_now : (journal : List (Entry Step)) (caller : ℕ) (reference : List ℕ) → reaching (world_up_to journal) (length journal) caller reference ≡ whom (inward (world_at journal) caller reference)
reaching_now journal caller reference = ap (λ w. whom (inward w caller reference)) (whole journal)
