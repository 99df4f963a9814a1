-- The numbers that a journal gives to bundles, services, listeners, turns and instances: each once, none left out.
-- OSGi Core 8, chapter 4, "Bundle Identifiers", and chapter 5, "Service Properties" (`service.id`); that none is left
-- out is our own.
use Rattle.std.specs.Prelude.{◌≡◌, ◌≤◌, ℕ, ◌-◌, ◌*◌, ◌==◌, List, [], ◌∷◌, ◌++◌, map, not, filter, length, slice_index, if◌then◌else◌}
use Rattle.std.specs.List.{range_with_len}
use Rattle.callback_orders.specs.Grammar.{is_create}
use Rattle.journal_core.specs.declared.entry.Entry.{Entry}
use Rattle.journal_core.specs.declared.entry.Opened.{Opened}
use Rattle.scr_world.specs.Lists.{world_of}
use Rattle.scr_world.specs.Replies.{answer}
use Rattle.scr_world.specs.Steps.{History}
use Rattle.scr_world.specs.declared.reply.Reply.{Reply}
use Rattle.scr_world.specs.declared.reply.Reply.TheVariants.{Bundle as InBundle, Listener as AsListener, Service as AsService}
use Rattle.scr_world.specs.declared.step.Step.{Step}
use Rattle.scr_world.specs.declared.step.Step.TheVariants.{Command as Commanded, Begin}
use Rattle.scr_world.specs.declared.world.World.{World}

-- the numbers that the entries of a journal give, the oldest entry's first
abbrev pub given : (Entry Step → World → List ℕ) → History → List ℕ
given numbers [] = []
given numbers (entry ∷ past) = given numbers past ++ numbers entry (world_of past)

-- they are 1, 2 and so on, in order: each is given once, and none is left out
abbrev pub AreNumbersOn : List ℕ → Type 0
AreNumbersOn ns = ns ≡ range_with_len 1 (length ns)

-- the bundle that an answer tells
abbrev pub bundle_in : Reply → List ℕ
bundle_in (InBundle number) = number ∷ []
bundle_in _ = []

-- the service that an answer tells
abbrev pub service_in : Reply → List ℕ
service_in (AsService number) = number ∷ []
service_in _ = []

-- the listener that an answer tells
abbrev pub listener_in : Reply → List ℕ
listener_in (AsListener number) = number ∷ []
listener_in _ = []

-- the bundle that an entry installs
abbrev pub bundles_in : Step → World → List ℕ
bundles_in (Commanded command) w = bundle_in (answer w command)
bundles_in _ w = []

-- the listener that an entry adds
abbrev pub listeners_in : Step → World → List ℕ
listeners_in (Commanded command) w = listener_in (answer w command)
listeners_in _ w = []

-- the service that a command registers
abbrev pub commanded_services : Step → World → List ℕ
commanded_services (Commanded command) w = service_in (answer w command)
commanded_services _ w = []

-- the services of component configurations that open: one that registers none opens with the number 0
abbrev pub opened_services : List Opened → List ℕ
opened_services opened = filter (λ n. not (n == 0)) (map (λ (o : Opened). o.service) opened)

-- the services that an entry registers: that of its command first
abbrev pub services_in : Entry Step → World → List ℕ
services_in entry w = commanded_services entry.step w ++ opened_services entry.opened

-- the turn that a step begins
abbrev pub turns_by : Step → List ℕ
turns_by (Begin turn instance configuration consumer callback chosen) = turn ∷ []
turns_by _ = []

-- the instance that a step makes
abbrev pub made_by : Step → List ℕ
made_by (Begin turn instance configuration consumer callback chosen) = if is_create callback then instance ∷ [] else []
made_by _ = []

-- no more numbers than there are entries were given to bundles, to listeners, to turns and to instances; the first entry begins no turn, and opens no gate;
-- an entry gives at most 512 numbers to component configurations and 513 to services, and opens a gate once
pub record HasFewNumbers (w : World) : Type 0 where
  pub bundles : w.bundles.numbered ≤ w.entries
  pub listeners : w.listeners.numbered ≤ w.entries
  pub turns : w.turns_begun ≤ w.entries - 1
  pub instances : w.instances_numbered ≤ w.turns_begun
  pub components : w.components_numbered ≤ 512 * w.entries
  pub services : w.registry.numbered ≤ 513 * w.entries
  pub generations : (slot : ℕ) → slice_index w.generations slot ≤ w.entries - 1
