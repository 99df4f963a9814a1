-- What settling an entry rests on, and what it comes to.
use Rattle.std.proofs.Common.{◌≡◌, ◌+◌, ◌<◌, ◌≤◌, ◌∙◌, ◌++◌, ◌∷◌, [], ℕ, List, Option, Some, None, ap, arith, length, refl, subst, sym}
use Rattle.std.specs.List.{All, AllPairs}
use Rattle.std.specs.Option.{unwrap_or}
use Rattle.std.specs.Prelude.{IsTrue}
use Rattle.std.proofs.lemmas.List.{length-reverse}
use Rattle.bundle_life.specs.declared.bundle.BundleLife.{BundleLife}
use Rattle.bundle_life.specs.Lives.{BundleTable, is_stopping, state_is}
use Rattle.component_state.specs.declared.open_period.OpenPeriod.{OpenPeriod}
use Rattle.journal_core.specs.Rooms.{JournalRows}
use Rattle.journal_core.specs.declared.entry.Entry.{Entry}
use Rattle.journal_core.specs.declared.entry.GateKey.{GateKey}
use Rattle.journal_core.specs.declared.entry.Opened.{Opened}
use Rattle.scr_consequences.specs.Ends.{draining_in}
use Rattle.scr_consequences.specs.Gets.{HaveStood}
use Rattle.scr_laws.specs.Following.{entry_of}
use Rattle.scr_growth.specs.Growths.{HasEntered, HasFewInstances, HasSettled, IsBefore, IsRest, IsSettling, entry_with, passed_world, services_among, settled_world, with_listeners_told}
use Rattle.scr_growth.specs.declared.settling.Lists.{Lists}
use Rattle.scr_growth.specs.declared.settling.Rest.{Rest}
use Rattle.scr_growth.proofs.GetsStood.{have_stood}
use Rattle.scr_growth.proofs.Growing.{room_then, stopped_is_in}
use Rattle.scr_growth.proofs.Settled.{reserved_is, settled_is, shut_is}
use Rattle.scr_laws.proofs.CreatedLaws.{entries_of}
use Rattle.scr_laws.proofs.FollowingEntries.{follows}
use Rattle.scr_laws.proofs.Histories.{legal_is_asked}
use Rattle.scr_laws.proofs.WithinLaws.{all_within}
use Rattle.scr_laws.specs.Askeds.{IsAsked}
use Rattle.scr_state.specs.declared.draft.Draft.{Draft}
use Rattle.scr_state.specs.declared.state.State.{State}
use Rattle.scr_world.specs.Calls.{world_at}
use Rattle.scr_world.specs.Consequences.{shut_between, stopped_by, stopped_in}
use Rattle.scr_world.specs.Lists.{world_after_entry, world_of}
use Rattle.scr_world.specs.Room.{reserved}
use Rattle.scr_world.specs.Stepping.{world_after_step}
use Rattle.scr_world.specs.Steps.{History, history_of}
use Rattle.scr_world.specs.Tables.{bundles_by}
use Rattle.scr_world.specs.declared.instance.Instance.{Instance}
use Rattle.scr_world.specs.declared.step.Step.{Step}
use Rattle.scr_world.specs.declared.world.World.{World}
use Rattle.service_listeners.specs.Listening.{ListenerTable}
use Rattle.service_listeners.specs.Numbers.{AreNumbered}
use Rattle.service_registry.specs.Registries.{Registered, with_numbers_given}

given_rows : (o : Option Registered) (r g : Registered) → g.rows ≡ r.rows → (unwrap_or o g).rows ≡ (unwrap_or o r).rows
given_rows None r g same = same
given_rows (Some t) r g same = refl

listeners_stay : (step : Step) (w : World) (now : List OpenPeriod) → (passed_world step w now).listeners ≡ w.listeners
unfolding world_after_step
listeners_stay step w now = refl

bundles_are : (step : Step) (w : World) (now : List OpenPeriod) → (passed_world step w now).bundles ≡ bundles_by step w.bundles
unfolding world_after_step
bundles_are step w now = refl

bundles_after : (step : Step) (w : World) → (world_after_step step w).bundles ≡ bundles_by step w.bundles
unfolding world_after_step
bundles_after step w = refl

entries_stay : (step : Step) (w : World) (now : List OpenPeriod) → (passed_world step w now).entries ≡ w.entries
unfolding world_after_step
entries_stay step w now = refl

instances_are : (entry : Entry Step) (past : History) (now : List OpenPeriod) → (world_of (entry ∷ past)).instances ≡ (passed_world entry.step (world_of past) now).instances
unfolding world_of world_after_entry
instances_are entry past now = refl

-- the numbers that settling counts are small
module _ (j : JournalRows Step) (step : Step) (s : State) (undo : Draft) (open_then : List OpenPeriod) (lists : Lists) (draining_ones : List ℕ) (so : IsSettling j step s undo open_then lists draining_ones) where
  pub counted_for : s.world.entries ≡ length j.entries
  counted_for = ap (λ (w : World). w.entries) so.world ∙ entries_stay step (world_at j.entries) so.pass.open_now ∙ entries_of (history_of j.entries) ∙ length-reverse j.entries

  pub few_for : HasFewInstances s.world
  few_for =
      let past = history_of j.entries in
      let entry = entry_of step so.pass (world_of past) in
      let it = follows j.limit past so.grows.legal step so.grows.may so.grows.room so.pass so.passed in
      let within = all_within j.limit (entry ∷ past) (it, so.grows.legal) in
      let same = ap (λ (is : List Instance). length is) (instances_are entry past so.pass.open_now ∙ ap (λ (w : World). w.instances) (sym so.world)) in
      omega (arith, within.instances, same)

module _ (j : JournalRows Step) (step : Step) (s : State) (undo : Draft) (open_then : List OpenPeriod) (lists : Lists) (draining_ones : List ℕ) (so : IsSettling j step s undo open_then lists draining_ones)
    (rest : Rest) (given : Step) (given_is : given ≡ step) (found : (was : World) → IsBefore was s.world undo open_then → HaveStood given was s.world → draining_ones ≡ draining_in was → IsRest was s.world rest) where
  asked : IsAsked (world_at j.entries)
  asked = legal_is_asked j.limit (history_of j.entries) so.grows.legal

  stood : HaveStood given (world_at j.entries) s.world
  stood =
      subst (λ (x : Step). HaveStood x (world_at j.entries) s.world) (sym given_is)
      (subst (λ (w : World). HaveStood step (world_at j.entries) w) (sym so.world) (have_stood (history_of j.entries) step so.grows.may so.pass.open_now))

  rest_is : IsRest (world_at j.entries) (passed_world step (world_at j.entries) so.pass.open_now) rest
  rest_is = subst (λ (w : World). IsRest (world_at j.entries) w rest) so.world (found (world_at j.entries) so.before stood so.draining)

  entry_is : entry_with step lists ≡ entry_of step so.pass (world_at j.entries)
  entry_is =
      ap (λ (ns : List ℕ). record { step = step; closed = ns; opened = lists.opened; stopped = lists.stopped }) so.closed
      ∙ ap (λ (os : List Opened). record { step = step; closed = so.pass.closed; opened = os; stopped = lists.stopped }) so.opened
      ∙ ap (λ (ns : List ℕ). record { step = step; closed = so.pass.closed; opened = so.pass.opened; stopped = ns }) so.stopped

  reserved_now : rest.reserved ≡ reserved (world_after_entry (entry_with step lists) (world_at j.entries))
  reserved_now = reserved_is (world_at j.entries) asked step so.pass so.passed rest rest_is ∙ ap (λ (e : Entry Step). reserved (world_after_entry e (world_at j.entries))) (sym entry_is)

  pub room_for : length j.entries + 1 + rest.reserved ≤ j.limit
  room_for =
      let room = room_then j step so.pass so.grows so.passed in
      let same = reserved_is (world_at j.entries) asked step so.pass so.passed rest rest_is in
      omega (arith, room, same)

  pub numbered_for : ((past : History) → AreNumbered (world_of past).listeners.numbered (world_of past).listeners.rows) → AreNumbered s.world.listeners.numbered s.world.listeners.rows
  numbered_for law =
      subst (λ (t : ListenerTable). AreNumbered t.numbered t.rows) (sym (ap (λ (w : World). w.listeners) so.world ∙ listeners_stay step (world_at j.entries) so.pass.open_now)) (law (history_of j.entries))

  module _ (k : ℕ) (k_is : k ≡ services_among lists.opened) (g : Registered) (g_is : g ≡ with_numbers_given k s.world.registry) where
    pub before_for : IsBefore (world_at j.entries) (record s.world { registry = g }) undo open_then
    before_for = record { registry = given_rows undo.registry s.world.registry g (ap (λ (t : Registered). t.rows) g_is) ∙ so.before.registry; periods = so.before.periods; held = so.before.held }

    module _ (s1 : State) (told : s1 ≡ record (record s { world = record s.world { registry = g } }) { world = with_listeners_told step (world_at j.entries) (record s.world { registry = g }) })
        (stopped : List ℕ) (stopped_are : stopped ≡ lists.stopped) where
      bundles_now : s1.world.bundles ≡ (world_after_step step (world_at j.entries)).bundles
      bundles_now = ap (λ (x : State). x.world.bundles) told ∙ ap (λ (w : World). w.bundles) so.world

      stops_are : stopped ≡ stopped_in (world_after_step step (world_at j.entries))
      stops_are = stopped_are ∙ so.stopped ∙ sym (stopped_is_in step (world_at j.entries))

      rows_rise : (t : BundleTable) → AllPairs (λ (a b : BundleLife). a.number < b.number) (bundles_by step (world_at j.entries).bundles).rows → AllPairs (λ (a b : BundleLife). a.number < b.number) (world_after_step step (world_at j.entries)).bundles.rows
      rows_rise t rise = subst (λ (t : BundleTable). AllPairs (λ (a b : BundleLife). a.number < b.number) t.rows) (sym (bundles_after step (world_at j.entries))) rise

      pub stopping_for : AllPairs (λ (a b : BundleLife). a.number < b.number) (bundles_by step (world_at j.entries).bundles).rows
          → ((w : World) → AllPairs (λ (a b : BundleLife). a.number < b.number) w.bundles.rows → All (λ n. IsTrue (state_is is_stopping w.bundles.rows n)) (stopped_in w))
          → All (λ n. IsTrue (state_is is_stopping s1.world.bundles.rows n)) stopped
      stopping_for rise law =
          subst (λ (ns : List ℕ). All (λ n. IsTrue (state_is is_stopping s1.world.bundles.rows n)) ns) (sym stops_are)
          (subst (λ (t : BundleTable). All (λ n. IsTrue (state_is is_stopping t.rows n)) (stopped_in (world_after_step step (world_at j.entries)))) (sym bundles_now)
          (law (world_after_step step (world_at j.entries)) (rows_rise s1.world.bundles rise)))

      pub rising_for : AllPairs (λ (a b : BundleLife). a.number < b.number) (bundles_by step (world_at j.entries).bundles).rows
          → ((w : World) → AllPairs (λ (a b : BundleLife). a.number < b.number) w.bundles.rows → AllPairs (λ (a b : ℕ). a < b) (stopped_in w))
          → AllPairs (λ (a b : ℕ). a < b) stopped
      rising_for rise law = subst (λ (ns : List ℕ). AllPairs (λ (a b : ℕ). a < b) ns) (sym stops_are) (law (world_after_step step (world_at j.entries)) (rows_rise s1.world.bundles rise))

      module _ (w : World) (w_is : w ≡ settled_world rest stopped s1.world) (new : JournalRows Step) (entered : HasEntered j step lists rest.reserved new) (gates : List GateKey) (gates_are : gates ≡ rest.shut) where
        abbrev told_world : World → ℕ → World
        told_world v n = with_listeners_told step (world_at j.entries) (record v { registry = with_numbers_given n v.registry })

        world_is : w ≡ world_after_entry (entry_with step lists) (world_at j.entries)
        world_is =
            w_is
            ∙ ap (λ (x : State). settled_world rest stopped x.world) told
            ∙ ap (λ (t : Registered). settled_world rest stopped (with_listeners_told step (world_at j.entries) (record s.world { registry = t }))) g_is
            ∙ ap (λ (ns : List ℕ). settled_world rest ns (told_world s.world k)) (stopped_are ∙ so.stopped)
            ∙ ap (λ (n : ℕ). settled_world rest (stopped_by step (world_at j.entries)) (told_world s.world n)) (k_is ∙ ap services_among so.opened)
            ∙ ap (λ (v : World). settled_world rest (stopped_by step (world_at j.entries)) (told_world v (services_among so.pass.opened))) so.world
            ∙ settled_is (world_at j.entries) asked step so.pass so.passed rest rest_is
            ∙ ap (λ (e : Entry Step). world_after_entry e (world_at j.entries)) (sym entry_is)

        pub settled_so : HasSettled j step lists s new (record s1 { world = w }) gates
        settled_so = record {
          journal = entered ∙ ap (λ (n : ℕ). record j { entries = j.entries ++ entry_with step lists ∷ []; reserved = n }) (reserved_now ∙ ap reserved (sym world_is));
          state = ap (λ (x : State). record x { world = w }) told ∙ ap (λ (v : World). record s { world = v }) world_is;
          shut = gates_are ∙ shut_is (world_at j.entries) asked step so.pass so.passed rest rest_is ∙ ap (shut_between (world_at j.entries)) (ap (λ (e : Entry Step). world_after_entry e (world_at j.entries)) (sym entry_is) ∙ sym world_is);
        }

pub state_back : (s s2 : State) (g r : Registered) → s2 ≡ record s { world = record s.world { registry = g } } → r ≡ s.world.registry → record s2 { world = record s2.world { registry = r } } ≡ s
state_back s s2 g r same back = ap (λ (x : State). record x { world = record x.world { registry = r } }) same ∙ ap (λ (t : Registered). record s { world = record s.world { registry = t } }) back
