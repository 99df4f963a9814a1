-- The numbers that a legal journal gives are 1, 2 and so on.
use Rattle.std.proofs.Common.{◌≡◌, ◌≤◌, ℕ, suc, ◌+◌, List, [], ◌∷◌, length, ap, sym, ◌∙◌, refl, cond, arith, Bool, true, false, Option, Some, None}
use Rattle.std.specs.Prelude.{filter, is_none, not, ◌==◌, option_map, option_and_then, count_by}
use Rattle.std.specs.List.{range_with_len}
use Rattle.std.specs.Option.{option_map_or}
use Rattle.std.proofs.lemmas.Bool.{both_ways, cond-true, ne_eqb, not_from_false}
use Rattle.std.proofs.lemmas.List.FromFn.{length-range_with_len}
use Rattle.std.proofs.lemmas.List.Sums.{sum_by-cons}
use Rattle.bundle_life.specs.declared.bundle.BundleLife.{BundleLife}
use Rattle.bundle_life.specs.Lives.{bundle_at}
use Rattle.callback_orders.specs.declared.callback.Callback.{Callback}
use Rattle.callback_orders.specs.declared.callback.Callback.TheVariants.{Create as CreateCalled}
use Rattle.callback_orders.specs.declared.due.DueRef.{DueRef}
use Rattle.callback_orders.specs.declared.due.DueRef.TheVariants.{Create as CreateDue, Bind, Updated, Unbind, Activate, Modified, Deactivate, Destroy}
use Rattle.callback_orders.specs.Grammar.{is_create}
use Rattle.callback_orders.specs.Lives.{callback_of}
use Rattle.component_state.specs.declared.component.Component.{Component}
use Rattle.component_state.specs.declared.origin.Choice.{Choice}
use Rattle.component_state.specs.Components.{provides_no_service}
use Rattle.component_state.specs.Passes.{opened_from, opening}
use Rattle.journal_core.specs.declared.entry.Entry.{Entry}
use Rattle.journal_core.specs.declared.entry.Opened.{Opened}
use Rattle.service_listeners.specs.Listening.{Change, after_changes}
use Rattle.scr_laws.specs.Numbers.{AreNumbersOn, bundles_in, commanded_services, given, listeners_in, made_by, opened_services, services_in, turns_by}
use Rattle.scr_laws.proofs.Counting.{GoOn, both_go_on, none_goes_on, numbered, one_goes_on, stays}
use Rattle.scr_world.specs.Consequences.{stage_in, stage_of}
use Rattle.scr_world.specs.Dues.{begin_for, begin_of, due_in, names_of, next_begin}
use Rattle.scr_world.specs.Legal.{Follows, IsLegal, MayCome}
use Rattle.scr_world.specs.Lists.{changes_between, with_lists_of, world_after_entry, world_of}
use Rattle.scr_world.specs.Steps.{History}
use Rattle.scr_world.specs.Stepping.{begins_by, makes_by, world_after_step}
use Rattle.scr_world.specs.Tables.{bundles_by, listeners_by, registry_by}
use Rattle.scr_world.specs.declared.command.Command.TheVariants.{Install, Update, Start, Stop, Uninstall, Enable, Disable, Register, Unregister, SetProperties, Get, Unget, Listen, Unlisten, Configure, ConfigureFactory, Unconfigure}
use Rattle.scr_world.specs.declared.instance.Instance.{Instance}
use Rattle.scr_world.specs.declared.step.Step.{Step}
use Rattle.scr_world.specs.declared.step.Step.TheVariants.{Command as Commanded, Begin, End, Drained, Got, Released}
use Rattle.scr_world.specs.declared.world.World.{World}

-- ---- bundles

known_at : (o : Option BundleLife) (next : ℕ) → is_none o ≡ true → option_map_or (λ (b : BundleLife). b.number) o next ≡ next
known_at None next is = refl
known_at (Some b) next is = cc

bundles_go_on : (step : Step) (w : World) → MayCome w step → GoOn (bundles_in step w) w.bundles.numbered (bundles_by step w.bundles).numbered
bundles_go_on (Commanded (Install doc)) w may = one_goes_on w.bundles.numbered (option_map_or (λ (b : BundleLife). b.number) (bundle_at w.bundles.rows doc.location) (w.bundles.numbered + 1)) (known_at (bundle_at w.bundles.rows doc.location) (w.bundles.numbered + 1) may.1)
bundles_go_on (Commanded (Update bundle doc)) w may = none_goes_on w.bundles.numbered
bundles_go_on (Commanded (Start bundle)) w may = none_goes_on w.bundles.numbered
bundles_go_on (Commanded (Stop bundle)) w may = none_goes_on w.bundles.numbered
bundles_go_on (Commanded (Uninstall bundle)) w may = none_goes_on w.bundles.numbered
bundles_go_on (Commanded (Enable bundle name)) w may = none_goes_on w.bundles.numbered
bundles_go_on (Commanded (Disable bundle name)) w may = none_goes_on w.bundles.numbered
bundles_go_on (Commanded (Register bundle interfaces properties)) w may = none_goes_on w.bundles.numbered
bundles_go_on (Commanded (Unregister bundle service)) w may = none_goes_on w.bundles.numbered
bundles_go_on (Commanded (SetProperties bundle service properties)) w may = none_goes_on w.bundles.numbered
bundles_go_on (Commanded (Get bundle service)) w may = none_goes_on w.bundles.numbered
bundles_go_on (Commanded (Unget bundle service)) w may = none_goes_on w.bundles.numbered
bundles_go_on (Commanded (Listen bundle filter)) w may = none_goes_on w.bundles.numbered
bundles_go_on (Commanded (Unlisten listener)) w may = none_goes_on w.bundles.numbered
bundles_go_on (Commanded (Configure pid properties)) w may = none_goes_on w.bundles.numbered
bundles_go_on (Commanded (ConfigureFactory factory name properties)) w may = none_goes_on w.bundles.numbered
bundles_go_on (Commanded (Unconfigure pid)) w may = none_goes_on w.bundles.numbered
bundles_go_on (Begin turn instance configuration consumer callback chosen) w may = none_goes_on w.bundles.numbered
bundles_go_on (End turn outcome) w may = none_goes_on w.bundles.numbered
bundles_go_on (Drained instance) w may = none_goes_on w.bundles.numbered
bundles_go_on (Got bundle service) w may = none_goes_on w.bundles.numbered
bundles_go_on (Released place) w may = none_goes_on w.bundles.numbered

bundles_each : (limit : ℕ) (entry : Entry Step) (past : History) → Follows limit entry past → IsLegal limit past → GoOn (bundles_in entry.step (world_of past)) (world_of past).bundles.numbered (world_of (entry ∷ past)).bundles.numbered
unfolding world_of world_after_entry world_after_step
bundles_each limit entry past follows legal = bundles_go_on entry.step (world_of past) follows.step

no_bundle_yet : (world_of []).bundles.numbered ≡ 0
unfolding world_of
no_bundle_yet = refl

pub bundles_numbered : (limit : ℕ) (journal : History) → IsLegal limit journal → AreNumbersOn (given (λ (entry : Entry Step). bundles_in entry.step) journal)
bundles_numbered limit = numbered limit (λ entry. bundles_in entry.step) (λ w. w.bundles.numbered) no_bundle_yet (bundles_each limit)

-- ---- listeners

listeners_go_on : (step : Step) (w : World) (changes : List Change) → GoOn (listeners_in step w) w.listeners.numbered (listeners_by step (after_changes changes w.listeners)).numbered
listeners_go_on (Commanded (Install doc)) w changes = none_goes_on w.listeners.numbered
listeners_go_on (Commanded (Update bundle doc)) w changes = none_goes_on w.listeners.numbered
listeners_go_on (Commanded (Start bundle)) w changes = none_goes_on w.listeners.numbered
listeners_go_on (Commanded (Stop bundle)) w changes = none_goes_on w.listeners.numbered
listeners_go_on (Commanded (Uninstall bundle)) w changes = none_goes_on w.listeners.numbered
listeners_go_on (Commanded (Enable bundle name)) w changes = none_goes_on w.listeners.numbered
listeners_go_on (Commanded (Disable bundle name)) w changes = none_goes_on w.listeners.numbered
listeners_go_on (Commanded (Register bundle interfaces properties)) w changes = none_goes_on w.listeners.numbered
listeners_go_on (Commanded (Unregister bundle service)) w changes = none_goes_on w.listeners.numbered
listeners_go_on (Commanded (SetProperties bundle service properties)) w changes = none_goes_on w.listeners.numbered
listeners_go_on (Commanded (Get bundle service)) w changes = none_goes_on w.listeners.numbered
listeners_go_on (Commanded (Unget bundle service)) w changes = none_goes_on w.listeners.numbered
listeners_go_on (Commanded (Listen bundle filter)) w changes = one_goes_on w.listeners.numbered (w.listeners.numbered + 1) refl
listeners_go_on (Commanded (Unlisten listener)) w changes = none_goes_on w.listeners.numbered
listeners_go_on (Commanded (Configure pid properties)) w changes = none_goes_on w.listeners.numbered
listeners_go_on (Commanded (ConfigureFactory factory name properties)) w changes = none_goes_on w.listeners.numbered
listeners_go_on (Commanded (Unconfigure pid)) w changes = none_goes_on w.listeners.numbered
listeners_go_on (Begin turn instance configuration consumer callback chosen) w changes = none_goes_on w.listeners.numbered
listeners_go_on (End turn outcome) w changes = none_goes_on w.listeners.numbered
listeners_go_on (Drained instance) w changes = none_goes_on w.listeners.numbered
listeners_go_on (Got bundle service) w changes = none_goes_on w.listeners.numbered
listeners_go_on (Released place) w changes = none_goes_on w.listeners.numbered

listeners_each : (limit : ℕ) (entry : Entry Step) (past : History) → Follows limit entry past → IsLegal limit past → GoOn (listeners_in entry.step (world_of past)) (world_of past).listeners.numbered (world_of (entry ∷ past)).listeners.numbered
unfolding world_of world_after_entry
listeners_each limit entry past follows legal = listeners_go_on entry.step (world_of past) (changes_between (world_of past) (with_lists_of entry (world_after_step entry.step (world_of past))))

no_listener_yet : (world_of []).listeners.numbered ≡ 0
unfolding world_of
no_listener_yet = refl

pub listeners_numbered : (limit : ℕ) (journal : History) → IsLegal limit journal → AreNumbersOn (given (λ (entry : Entry Step). listeners_in entry.step) journal)
listeners_numbered limit = numbered limit (λ entry. listeners_in entry.step) (λ w. w.listeners.numbered) no_listener_yet (listeners_each limit)

-- ---- services

abbrev registers : Opened → Bool
registers o = not (o.service == 0)

counted_more : (o : Opened) (os : List Opened) → count_by registers (o ∷ os) ≡ cond (registers o) 1 0 + count_by registers os
counted_more o os = sum_by-cons (λ (x : Opened). cond (registers x) 1 0) o os

abbrev with_service : Component → ℕ → Bool → Opened
with_service c next b = record { configuration = c.number; service = cond b 0 next }

opened_from_on : (next : ℕ) (cs : List Component) → 1 ≤ next → opened_services (opened_from next cs) ≡ range_with_len next (count_by registers (opened_from next cs))
opened_from_on next [] some = refl
opened_from_on next (c ∷ cs) some = go (provides_no_service c) (opened_from_on next cs some) (opened_from_on (next + 1) cs (omega arith))
  where
    some_given : not (next == 0) ≡ true
    some_given = not_from_false (next == 0) (ne_eqb next 0 (λ e. omega (arith, e, some)))

    go : (b : Bool) → opened_services (opened_from next cs) ≡ range_with_len next (count_by registers (opened_from next cs))
        → opened_services (opened_from (next + 1) cs) ≡ range_with_len (next + 1) (count_by registers (opened_from (next + 1) cs))
        → opened_services (with_service c next b ∷ opened_from (cond b next (next + 1)) cs) ≡ range_with_len next (count_by registers (with_service c next b ∷ opened_from (cond b next (next + 1)) cs))
    go true same later =
        let counted : count_by registers (with_service c next true ∷ opened_from next cs) ≡ count_by registers (opened_from next cs) = omega (arith, counted_more (with_service c next true) (opened_from next cs)) in
        same ∙ ap (range_with_len next) (sym counted)
    go false same later =
        let rest = opened_from (next + 1) cs in
        let counted : count_by registers (with_service c next false ∷ rest) ≡ suc (count_by registers rest) =
        counted_more (with_service c next false) rest ∙ ap (λ b. cond b 1 0 + count_by registers rest) some_given ∙ omega arith in
        cond-true (not (next == 0)) (next ∷ opened_services rest) (opened_services rest) some_given
        ∙ ap (λ ns. next ∷ ns) later
        ∙ sym (ap (range_with_len next) counted)

opened_go_on : (opened : List Opened) (cs : List Component) (n : ℕ) → opened ≡ opened_from (n + 1) cs → GoOn (opened_services opened) n (n + count_by registers opened)
opened_go_on opened cs n is = record { numbers = ranged ∙ ap (range_with_len (1 + n)) (sym long); count = ap (λ k. n + k) (sym long) }
  where
    ranged : opened_services opened ≡ range_with_len (1 + n) (count_by registers opened)
    ranged = ap opened_services is ∙ opened_from_on (n + 1) cs (omega arith) ∙ ap (λ os. range_with_len (n + 1) (count_by registers os)) (sym is) ∙ ap (λ k. range_with_len k (count_by registers opened)) (omega arith)

    long : length (opened_services opened) ≡ count_by registers opened
    long = ap length ranged ∙ length-range_with_len (1 + n) (count_by registers opened)

commanded_go_on : (step : Step) (w : World) → GoOn (commanded_services step w) w.registry.numbered (registry_by step w.registry).numbered
commanded_go_on (Commanded (Install doc)) w = none_goes_on w.registry.numbered
commanded_go_on (Commanded (Update bundle doc)) w = none_goes_on w.registry.numbered
commanded_go_on (Commanded (Start bundle)) w = none_goes_on w.registry.numbered
commanded_go_on (Commanded (Stop bundle)) w = none_goes_on w.registry.numbered
commanded_go_on (Commanded (Uninstall bundle)) w = none_goes_on w.registry.numbered
commanded_go_on (Commanded (Enable bundle name)) w = none_goes_on w.registry.numbered
commanded_go_on (Commanded (Disable bundle name)) w = none_goes_on w.registry.numbered
commanded_go_on (Commanded (Register bundle interfaces properties)) w = one_goes_on w.registry.numbered (w.registry.numbered + 1) refl
commanded_go_on (Commanded (Unregister bundle service)) w = none_goes_on w.registry.numbered
commanded_go_on (Commanded (SetProperties bundle service properties)) w = none_goes_on w.registry.numbered
commanded_go_on (Commanded (Get bundle service)) w = none_goes_on w.registry.numbered
commanded_go_on (Commanded (Unget bundle service)) w = none_goes_on w.registry.numbered
commanded_go_on (Commanded (Listen bundle filter)) w = none_goes_on w.registry.numbered
commanded_go_on (Commanded (Unlisten listener)) w = none_goes_on w.registry.numbered
commanded_go_on (Commanded (Configure pid properties)) w = none_goes_on w.registry.numbered
commanded_go_on (Commanded (ConfigureFactory factory name properties)) w = none_goes_on w.registry.numbered
commanded_go_on (Commanded (Unconfigure pid)) w = none_goes_on w.registry.numbered
commanded_go_on (Begin turn instance configuration consumer callback chosen) w = none_goes_on w.registry.numbered
commanded_go_on (End turn outcome) w = none_goes_on w.registry.numbered
commanded_go_on (Drained instance) w = none_goes_on w.registry.numbered
commanded_go_on (Got bundle service) w = none_goes_on w.registry.numbered
commanded_go_on (Released place) w = none_goes_on w.registry.numbered

services_each : (limit : ℕ) (entry : Entry Step) (past : History) → Follows limit entry past → IsLegal limit past → GoOn (services_in entry (world_of past)) (world_of past).registry.numbered (world_of (entry ∷ past)).registry.numbered
unfolding world_of world_after_entry world_after_step stage_of stage_in
services_each limit entry past follows legal = let w = world_of past in
    both_go_on (commanded_services entry.step w) (opened_services entry.opened) w.registry.numbered (registry_by entry.step w.registry).numbered ((registry_by entry.step w.registry).numbered + count_by registers entry.opened)
    (commanded_go_on entry.step w)
    (opened_go_on entry.opened (opening (stage_of entry.step w) (world_of (entry ∷ past)).open_periods) (registry_by entry.step w.registry).numbered follows.opened)

no_service_yet : (world_of []).registry.numbered ≡ 0
unfolding world_of
no_service_yet = refl

pub services_numbered : (limit : ℕ) (journal : History) → IsLegal limit journal → AreNumbersOn (given services_in journal)
services_numbered limit = numbered limit services_in (λ w. w.registry.numbered) no_service_yet (services_each limit)

-- ---- turns and instances

module _ (w : World) (turn instance configuration consumer : ℕ) (callback : Callback) (chosen : List Choice) where
  abbrev step : Step
  step = Begin turn instance configuration consumer callback chosen

  by_found : (d : DueRef) (found : Option Instance) → option_map (begin_for w d) found ≡ Some step → turn ≡ w.turns_begun + 1
  by_found d None is = cc
  by_found d (Some i) is = cc

  by_due : (d : DueRef) → begin_of w d ≡ Some step → turn ≡ w.turns_begun + 1
  by_due (CreateDue key) is = cc
  by_due (Bind i r s) is = by_found (Bind i r s) _ is
  by_due (Updated i r s) is = by_found (Updated i r s) _ is
  by_due (Unbind i r s) is = by_found (Unbind i r s) _ is
  by_due (Activate i) is = by_found (Activate i) _ is
  by_due (Modified i) is = by_found (Modified i) _ is
  by_due (Deactivate i) is = by_found (Deactivate i) _ is
  by_due (Destroy i) is = by_found (Destroy i) _ is

  pub next_turn : next_begin w ≡ Some step → turn ≡ w.turns_begun + 1
  next_turn is = go (due_in w) is
    where
      go : (o : Option DueRef) → option_and_then (begin_of w) o ≡ Some step → turn ≡ w.turns_begun + 1
      go None begins = cc
      go (Some d) begins = by_due d begins

  -- a Create is that of the next instance
  of_other : (d : DueRef) (found : Option Instance) → ((i : Instance) → is_create (callback_of (names_of w i) d) ≡ false) → option_map (begin_for w d) found ≡ Some step → is_create callback ≡ false
  of_other d None never is = cc
  of_other d (Some i) never is = let same : callback_of (names_of w i) d ≡ callback = cc in ap is_create (sym same) ∙ never i

  next_made : next_begin w ≡ Some step → is_create callback ≡ true → instance ≡ w.instances_numbered + 1
  next_made is creates = go (due_in w) is
    where
      other : is_create callback ≡ false → instance ≡ w.instances_numbered + 1
      other off = absurd (both_ways (is_create callback) off creates)

      go : (o : Option DueRef) → option_and_then (begin_of w) o ≡ Some step → instance ≡ w.instances_numbered + 1
      go None begins = cc
      go (Some (CreateDue key)) begins = cc
      go (Some (Bind i r s)) begins = other (of_other (Bind i r s) _ (λ j. refl) begins)
      go (Some (Updated i r s)) begins = other (of_other (Updated i r s) _ (λ j. refl) begins)
      go (Some (Unbind i r s)) begins = other (of_other (Unbind i r s) _ (λ j. refl) begins)
      go (Some (Activate i)) begins = other (of_other (Activate i) _ (λ j. refl) begins)
      go (Some (Modified i)) begins = other (of_other (Modified i) _ (λ j. refl) begins)
      go (Some (Deactivate i)) begins = other (of_other (Deactivate i) _ (λ j. refl) begins)
      go (Some (Destroy i)) begins = other (of_other (Destroy i) _ (λ j. refl) begins)

pub made_is_next : (w : World) (turn instance configuration consumer : ℕ) (chosen : List Choice) → MayCome w (Begin turn instance configuration consumer CreateCalled chosen) → instance ≡ w.instances_numbered + 1
made_is_next w turn instance configuration consumer chosen may = next_made w turn instance configuration consumer CreateCalled chosen may refl

turns_go_on : (step : Step) (w : World) → MayCome w step → GoOn (turns_by step) w.turns_begun (w.turns_begun + begins_by step)
turns_go_on (Commanded command) w may = stays w.turns_begun
turns_go_on (Begin turn instance configuration consumer callback chosen) w may = one_goes_on w.turns_begun turn (next_turn w turn instance configuration consumer callback chosen may)
turns_go_on (End turn outcome) w may = stays w.turns_begun
turns_go_on (Drained instance) w may = stays w.turns_begun
turns_go_on (Got bundle service) w may = stays w.turns_begun
turns_go_on (Released place) w may = stays w.turns_begun

turns_each : (limit : ℕ) (entry : Entry Step) (past : History) → Follows limit entry past → IsLegal limit past → GoOn (turns_by entry.step) (world_of past).turns_begun (world_of (entry ∷ past)).turns_begun
unfolding world_of world_after_entry world_after_step
turns_each limit entry past follows legal = turns_go_on entry.step (world_of past) follows.step

no_turn_yet : (world_of []).turns_begun ≡ 0
unfolding world_of
no_turn_yet = refl

pub turns_numbered : (limit : ℕ) (journal : History) → IsLegal limit journal → AreNumbersOn (given (λ (entry : Entry Step) (w : World). turns_by entry.step) journal)
turns_numbered limit = numbered limit (λ entry w. turns_by entry.step) (λ w. w.turns_begun) no_turn_yet (turns_each limit)

made_if : (made instance : ℕ) (b : Bool) → (b ≡ true → instance ≡ made + 1) → GoOn (cond b (instance ∷ []) []) made (made + cond b 1 0)
made_if made instance true next = one_goes_on made instance (next refl)
made_if made instance false next = stays made

instances_go_on : (step : Step) (w : World) → MayCome w step → GoOn (made_by step) w.instances_numbered (w.instances_numbered + makes_by step)
instances_go_on (Commanded command) w may = stays w.instances_numbered
instances_go_on (Begin turn instance configuration consumer callback chosen) w may =
    made_if w.instances_numbered instance (is_create callback) (next_made w turn instance configuration consumer callback chosen may)
instances_go_on (End turn outcome) w may = stays w.instances_numbered
instances_go_on (Drained instance) w may = stays w.instances_numbered
instances_go_on (Got bundle service) w may = stays w.instances_numbered
instances_go_on (Released place) w may = stays w.instances_numbered

instances_each : (limit : ℕ) (entry : Entry Step) (past : History) → Follows limit entry past → IsLegal limit past → GoOn (made_by entry.step) (world_of past).instances_numbered (world_of (entry ∷ past)).instances_numbered
unfolding world_of world_after_entry world_after_step
instances_each limit entry past follows legal = instances_go_on entry.step (world_of past) follows.step

no_instance_yet : (world_of []).instances_numbered ≡ 0
unfolding world_of
no_instance_yet = refl

pub instances_numbered : (limit : ℕ) (journal : History) → IsLegal limit journal → AreNumbersOn (given (λ (entry : Entry Step) (w : World). made_by entry.step) journal)
instances_numbered limit = numbered limit (λ entry w. made_by entry.step) (λ w. w.instances_numbered) no_instance_yet (instances_each limit)
