-- No more numbers are given than there are entries, and of component configurations and services no more than so many by each.
use Rattle.std.proofs.Common.{◌≡◌, ◌≤◌, ◌+◌, ◌-◌, ◌*◌, ℕ, [], ◌∷◌, Bool, true, false, cond, arith, refl}
use Rattle.bundle_life.specs.Lives.{BundleTable}
use Rattle.callback_orders.specs.Grammar.{is_create}
use Rattle.scr_laws.proofs.CreatedLaws.{entries_of}
use Rattle.scr_laws.proofs.FewByEntry.{components_more, services_more}
use Rattle.scr_laws.proofs.FewOpenings.{few_openings}
use Rattle.scr_laws.proofs.Reserved.{room_in}
use Rattle.scr_laws.specs.Numbers.{HasFewNumbers}
use Rattle.scr_world.specs.Legal.{IsLegal, MayCome}
use Rattle.scr_world.specs.Lists.{changes_between, with_lists_of, world_after_entry, world_of}
use Rattle.scr_world.specs.Steps.{History}
use Rattle.scr_world.specs.Stepping.{begins_by, makes_by, world_after_step}
use Rattle.scr_world.specs.Tables.{bundles_by, listeners_by}
use Rattle.scr_world.specs.declared.command.Command.TheVariants.{Install, Listen}
use Rattle.scr_world.specs.declared.step.Step.{Step}
use Rattle.scr_world.specs.declared.step.Step.TheVariants.{Begin, Command as Commanded}
use Rattle.scr_world.specs.declared.world.World.{World}
use Rattle.service_listeners.specs.Listening.{Change, ListenerTable, after_changes}
use Rattle.std.specs.Prelude.{List}

bundle_more : (step : Step) (t : BundleTable) → (bundles_by step t).numbered ≤ t.numbered + 1
bundle_more (Commanded (Install doc)) t = omega arith
bundle_more step t = omega arith

listener_more : (step : Step) (t : ListenerTable) → (listeners_by step t).numbered ≤ t.numbered + 1
listener_more (Commanded (Listen bundle filter)) t = omega arith
listener_more step t = omega arith

listener_told : (step : Step) (changes : List Change) (t : ListenerTable) → (listeners_by step (after_changes changes t)).numbered ≤ t.numbered + 1
listener_told step changes t = listener_more step (after_changes changes t)

begins_one : (step : Step) → begins_by step ≤ 1
begins_one (Begin turn instance configuration consumer callback chosen) = omega arith
begins_one step = omega arith

one_at_most : (b : Bool) → cond b 1 0 ≤ 1
one_at_most true = omega arith
one_at_most false = omega arith

-- an instance is made by the beginning of a turn
makes_begins : (step : Step) → makes_by step ≤ begins_by step
makes_begins (Begin turn instance configuration consumer callback chosen) = one_at_most (is_create callback)
makes_begins step = omega arith

-- no turn begins first
none_first : (step : Step) → MayCome (world_of []) step → begins_by step ≡ 0
unfolding world_of
none_first (Begin turn instance configuration consumer callback chosen) may = absurd cc
none_first step may = refl

few_turns : (limit : ℕ) (journal : History) → IsLegal limit journal → (world_of journal).turns_begun ≤ (world_of journal).entries - 1
unfolding world_of world_after_entry world_after_step
few_turns limit [] legal = omega arith
few_turns limit (entry ∷ []) legal = let none = none_first entry.step legal.0.step in omega (arith, none)
few_turns limit (entry ∷ (before ∷ past)) legal = let fewer = few_turns limit (before ∷ past) legal.1 in let one = begins_one entry.step in omega (arith, fewer, one)

few_others : (journal : History) → ((world_of journal).bundles.numbered ≤ (world_of journal).entries) × ((world_of journal).listeners.numbered ≤ (world_of journal).entries) × ((world_of journal).instances_numbered ≤ (world_of journal).turns_begun)
unfolding world_of world_after_entry world_after_step
few_others [] = (omega arith, omega arith, omega arith)
few_others (entry ∷ past) =
    let before = few_others past in
    let w : World = world_of past in
    let bundle = bundle_more entry.step w.bundles in
    let listener = listener_told entry.step (changes_between w (with_lists_of entry (world_after_step entry.step w))) w.listeners in
    let makes = makes_begins entry.step in
    (omega (arith, before.0, bundle), omega (arith, before.1, listener), omega (arith, before.2, makes))

-- and there are no more entries than its limit says
pub few_entries : (limit : ℕ) (journal : History) → IsLegal limit journal → (world_of journal).entries ≤ limit
few_entries limit journal legal = let room = room_in limit journal legal in let counted = entries_of journal in omega (arith, room, counted)

few_components : (limit : ℕ) (journal : History) → IsLegal limit journal → (world_of journal).components_numbered ≤ 512 * (world_of journal).entries
unfolding world_of world_after_entry world_after_step
few_components limit [] legal = omega arith
few_components limit (entry ∷ past) legal = let fewer = few_components limit past legal.1 in let more = components_more limit entry past legal in omega (arith, fewer, more)

few_services : (limit : ℕ) (journal : History) → IsLegal limit journal → (world_of journal).registry.numbered ≤ 513 * (world_of journal).entries
unfolding world_of world_after_entry world_after_step
few_services limit [] legal = omega arith
few_services limit (entry ∷ past) legal = let fewer = few_services limit past legal.1 in let more = services_more limit entry past legal in omega (arith, fewer, more)

pub few_numbers : (limit : ℕ) (journal : History) → IsLegal limit journal → HasFewNumbers (world_of journal)
few_numbers limit journal legal =
    let others = few_others journal in record {
      bundles = others.0;
      listeners = others.1;
      turns = few_turns limit journal legal;
      instances = others.2;
      components = few_components limit journal legal;
      services = few_services limit journal legal;
      generations = few_openings journal;
    }
