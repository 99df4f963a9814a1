-- The numbers of the bundles of a journal's world.
use Rattle.std.proofs.Common.{◌≡◌, ℕ, ◌+◌, ◌<◌, Bool, true, false, List, [], ◌∷◌, ◌++◌, refl, cond, get_or, arith}
use Rattle.std.specs.Prelude.{◌==◌, filter, map, not}
use Rattle.std.proofs.lemmas.List.Elements.{All-filter, All-map, All-push, All-weaker}
use Rattle.std.proofs.lemmas.List.Kept.{AllPairs-cons, AllPairs-filter}
use Rattle.std.proofs.lemmas.List.Quantifiers.{all_pairs_push}
use Rattle.bundle_life.specs.declared.bundle.BundleLife.{BundleLife}
use Rattle.bundle_life.specs.declared.bundle.BundleState.{BundleState}
use Rattle.bundle_life.specs.declared.bundle.BundleState.TheVariants.{Active, Installed, Resolved, Stopping}
use Rattle.bundle_life.specs.Lives.{BundleTable, in_state, new_row, renamed, resolved_among, stop_completed}
use Rattle.bundle_life.specs.Numbers.{AreNumbered, AreRising, IsGiven}
use Rattle.osgi_version.specs.declared.version.Version.{Version}
use Rattle.prop_map.specs.Words.{has}
use Rattle.scr_world.specs.declared.command.Command.{Command}
use Rattle.scr_world.specs.declared.command.Command.TheVariants.{Install, Update, Start, Stop, Uninstall, Enable, Disable, Register, Unregister, SetProperties, Get, Unget, Listen, Unlisten, Configure, ConfigureFactory, Unconfigure}
use Rattle.scr_world.specs.declared.step.Step.{Step}
use Rattle.scr_world.specs.declared.step.Step.TheVariants.{Command as Commanded, Begin, End, Drained, Got, Released}
use Rattle.scr_world.specs.Lists.{world_after_entry, world_of}
use Rattle.scr_world.specs.Steps.{History}
use Rattle.scr_world.specs.Stepping.{world_after_step}
use Rattle.scr_world.specs.Tables.{bundles_by, bundles_by_command}
use Rattle.scr_consequences.proofs.RisingLemmas.{above_first, rising_rest}

abbrev number_of : BundleLife → ℕ
number_of b = b.number

abbrev HasNumbers : BundleTable → Type 0
HasNumbers t = AreNumbered t.numbered t.rows

-- rows that keep their numbers
module _ (f : BundleLife → BundleLife) (kept : (b : BundleLife) → (f b).number ≡ b.number) where
  rising_map : (rows : List BundleLife) → AreRising rows → AreRising (map f rows)
  rising_map [] rising = λ i j d lt within. absurd (omega arith)
  rising_map (b ∷ bs) rising =
      AllPairs-cons (λ (b c : BundleLife). b.number < c.number) (f b) (map f bs)
      (All-map (λ (c : BundleLife). (f b).number < c.number) f bs (λ k d within. omega (arith, above_first number_of b bs rising k d within, kept b, kept (get_or bs k d))))
      (rising_map bs (rising_rest number_of b bs rising))

  numbered_map : (n : ℕ) (rows : List BundleLife) → AreNumbered n rows → AreNumbered n (map f rows)
  numbered_map n rows h = (
    rising_map rows h.0,
    All-map (IsGiven n) f rows (λ k d within. (omega (arith, (h.1 k d within).0, kept (get_or rows k d)), omega (arith, (h.1 k d within).1, kept (get_or rows k d)))),
  )

number_by_state : (b : BundleLife) (state : BundleState) (t : Bool) → (cond t (record b { state = state }) b).number ≡ b.number
number_by_state b state true = refl
number_by_state b state false = refl

number_by_name : (b : BundleLife) (name : List ℕ) (version : Version) (t : Bool) → (cond t (record b { name = name; version = version; state = Installed }) b).number ≡ b.number
number_by_name b name version true = refl
number_by_name b name version false = refl

in_state_numbers : (number : ℕ) (state : BundleState) (n : ℕ) (rows : List BundleLife) → AreNumbered n rows → AreNumbered n (map (in_state number state) rows)
in_state_numbers number state = numbered_map (in_state number state) (λ b. number_by_state b state (b.number == number))

one_more : (location name : List ℕ) (version : Version) (n : ℕ) (rows : List BundleLife) → AreNumbered n rows → AreNumbered (n + 1) (rows ++ new_row (n + 1) location name version ∷ [])
one_more location name version n rows h =
    let b = new_row (n + 1) location name version in (
      all_pairs_push (λ (b c : BundleLife). b.number < c.number) rows b h.0 (λ k d within. omega (arith, (h.1 k d within).1)),
      All-push (IsGiven (n + 1)) rows b (All-weaker (IsGiven n) (IsGiven (n + 1)) (λ c given. (given.0, omega (arith, given.1))) rows h.1) (omega arith, omega arith),
    )

by_command : (command : Command) (t : BundleTable) → HasNumbers t → HasNumbers (bundles_by_command command t)
by_command (Install doc) t h = one_more doc.location doc.name doc.version t.numbered t.rows h
by_command (Update bundle doc) t h = numbered_map (renamed bundle doc.name doc.version) (λ b. number_by_name b doc.name doc.version (b.number == bundle)) t.numbered t.rows h
by_command (Start bundle) t h = in_state_numbers bundle Active t.numbered t.rows h
by_command (Stop bundle) t h = in_state_numbers bundle Stopping t.numbered t.rows h
by_command (Uninstall bundle) t h =
    (AllPairs-filter (λ (b c : BundleLife). b.number < c.number) (λ (b : BundleLife). not (b.number == bundle)) t.rows h.0, All-filter (λ (b : BundleLife). not (b.number == bundle)) (IsGiven t.numbered) t.rows h.1)
by_command (Enable bundle name) t h = h
by_command (Disable bundle name) t h = h
by_command (Register bundle interfaces properties) t h = h
by_command (Unregister bundle service) t h = h
by_command (SetProperties bundle service properties) t h = h
by_command (Get bundle service) t h = h
by_command (Unget bundle service) t h = h
by_command (Listen bundle filter) t h = h
by_command (Unlisten listener) t h = h
by_command (Configure pid properties) t h = h
by_command (ConfigureFactory factory name properties) t h = h
by_command (Unconfigure pid) t h = h

-- after a step
pub by_step : (step : Step) (t : BundleTable) → HasNumbers t → HasNumbers (bundles_by step t)
by_step (Commanded command) t h = by_command command t h
by_step (Begin turn instance configuration consumer callback chosen) t h = h
by_step (End turn outcome) t h = h
by_step (Drained instance) t h = h
by_step (Got bundle service) t h = h
by_step (Released place) t h = h

-- after stops are completed
pub completed : (numbers : List ℕ) (t : BundleTable) → HasNumbers t → HasNumbers (stop_completed numbers t)
completed numbers t h = numbered_map (resolved_among numbers) (λ b. number_by_state b Resolved (has numbers b.number)) t.numbered t.rows h

none_numbered : HasNumbers (record { rows = []; numbered = 0; events = [] })
none_numbered = (λ i j d lt within. absurd (omega arith), λ k d within. absurd (omega arith))

-- rising, and given
pub numbered_bundles : (history : History) → AreNumbered (world_of history).bundles.numbered (world_of history).bundles.rows
unfolding world_of world_after_entry world_after_step
numbered_bundles [] = none_numbered
numbered_bundles (entry ∷ past) = completed entry.stopped (bundles_by entry.step (world_of past).bundles) (by_step entry.step (world_of past).bundles (numbered_bundles past))
