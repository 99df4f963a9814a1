-- A core with the owner of each entry, as contracts see it, and what its calls do. Our own; callbacks are OSGi
-- Compendium 8, chapter 112, component life cycle.
use Rattle.std.specs.Prelude.{◌≡◌, ℕ, ◌==◌, List, ◌++◌, length, map, count_by}
use Rattle.std.specs.List.{Contains}
use Rattle.journal_core.specs.declared.entry.Entry.{Entry}
use Rattle.journal_core.specs.declared.entry.GateKey.{GateKey}
use Rattle.prop_map.specs.Words.{one_if}
use Rattle.turn_work.specs.declared.site.Site.{Site}
use Rattle.hall_goings.specs.Went.{owned_by}
use Rattle.hall_locked.specs.Owned.{as_kept, owned, turn_numbers}
use Rattle.hall_locked.specs.declared.part.Part.{Part}
use Rattle.platform_hall.specs.Desks.{tokens_of}
use Rattle.platform_hall.specs.Platforms.{has_object, world}
use Rattle.scr_core.specs.Cores.{CoreView}
use Rattle.scr_world.specs.Calls.{Drains}
use Rattle.scr_world.specs.Consequences.{reopened_by, shut_between}
use Rattle.scr_world.specs.Legal.{is_under_way}
use Rattle.scr_world.specs.TurnSteps.{class_in}
use Rattle.scr_world.specs.declared.instance.Instance.{Instance}
use Rattle.scr_world.specs.declared.step.Step.{Step}
use Rattle.scr_world.specs.declared.turn.Ended.{Ended}
use Rattle.scr_world.specs.declared.world.World.{World}
use Rattle.callback_orders.specs.declared.callback.Outcome.{Outcome}

-- the core, the owner of each entry, the oldest first, the turns under way, each behind its owner, in the order in
-- which they began, and what is kept for the instances
pub record OwnedView (O : Type 0) : Type 0 where
  pub core : CoreView
  pub owners : List ℕ
  pub turns : List (ℕ × ℕ)
  pub parts : List (Part O)

-- ---- the one history

-- each entry with its owner
abbrev pub log_owned : {O : Type 0} → OwnedView O → List (ℕ × Entry Step)
log_owned l = owned l.owners l.core.journal

-- the history has grown by these entries, each under this owner
pub record AppendsOwned {O : Type 0} (owner : ℕ) (before after : OwnedView O) : Type 0 where
  pub entries : List (Entry Step)
  pub journal : after.core.journal ≡ before.core.journal ++ entries
  pub log : log_owned after ≡ log_owned before ++ owned_by owner entries

-- ---- what it keeps for passes

-- the turns under way, each with its owner
abbrev pub turns_owned : {O : Type 0} → OwnedView O → List (ℕ × ℕ)
turns_owned l = map as_kept l.turns

-- ---- what its type keeps

-- what an instance was told of itself at its Create or its last Modified
abbrev pub site_told : World → Instance → Site
site_told w i = record { class = class_in w i.origin.configuration; properties = i.properties }

-- how many parts are of this instance
abbrev pub parts_of : {O : Type 0} → List (Part O) → ℕ → ℕ
parts_of parts instance = count_by (λ part. part.instance == instance) parts

-- a part has the site of its instance
abbrev pub IsSiteOf : {O : Type 0} → World → Part O → Type 0
IsSiteOf w part = (i : Instance) → Contains w.instances i → i.number ≡ part.instance → part.site ≡ site_told w i

-- as many owners as entries; one token for each turn under way and none for any other; one part for each instance
-- that was made and none for any other, with its site
pub record IsOwned {O : Type 0} (l : OwnedView O) : Type 0 where
  pub owners : length l.owners ≡ length l.core.journal
  pub tokens : (turn : ℕ) → tokens_of (turn_numbers l.turns) turn ≡ one_if (is_under_way (world l.core) turn)
  pub parts : (instance : ℕ) → parts_of l.parts instance ≡ one_if (has_object l.core instance)
  pub sites : (part : Part O) → Contains l.parts part → IsSiteOf (world l.core) part

-- ---- what its calls do

-- the drain of a gate is posted
abbrev pub PostsKey : CoreView → GateKey → CoreView → Type 0
PostsKey before key after = (after.limits ≡ before.limits) × Drains before.limits.journal before.journal key after.journal

-- what the end of a turn does to gates: these are shut then, and before them this one is reopened, if one is
abbrev pub TellsGates : CoreView → ℕ → Outcome → Ended → CoreView → Type 0
TellsGates before turn outcome ended after = (ended.shut ≡ shut_between (world before) (world after)) × (ended.reopened ≡ reopened_by turn outcome (world before))
