-- What lies under the lock of a hall, as contracts see it, and what its calls do. Our own; callbacks are OSGi
-- Compendium 8, chapter 112, component life cycle.
use Rattle.std.specs.Prelude.{◌≡◌, ℕ, ◌%◌, ◌⊎◌, ◌&&◌, List, [], ◌∷◌, ◌++◌, Option, Some, None, length, map, not, slice_index, true, false}
use Rattle.std.specs.List.{Contains}
use Rattle.call_gate.specs.Calls.{KnownClaimed, KnownOpen, slots_in}
use Rattle.gate_keeper.specs.Keepers.{HasAll, IsKept, KeeperView, NoneShut, is_shelved}
use Rattle.journal_core.specs.declared.entry.Entry.{Entry}
use Rattle.journal_core.specs.declared.entry.GateKey.{GateKey}
use Rattle.prop_map.specs.Words.{one_if}
use Rattle.hall_locked.specs.Owned.{as_use, turn_numbers}
use Rattle.hall_locked.specs.OwnedCores.{AppendsOwned, IsSiteOf, OwnedView, PostsKey, log_owned, parts_of, turns_owned}
use Rattle.hall_locked.specs.Uses.{AreKeptGets}
use Rattle.hall_locked.specs.declared.part.Part.{Part}
use Rattle.platform_hall.specs.Desks.{tokens_of}
use Rattle.platform_hall.specs.Platforms.{has_object, world}
use Rattle.scr_core.specs.Cores.{CoreView}
use Rattle.scr_promises.specs.Levels.{slot_level}
use Rattle.scr_world.specs.Consequences.{gate_of}
use Rattle.scr_world.specs.Instances.{is_active_instance}
use Rattle.scr_world.specs.Legal.{is_under_way}
use Rattle.scr_world.specs.Views.{ends}
use Rattle.scr_world.specs.declared.command.Limits.{Limits}
use Rattle.scr_world.specs.declared.instance.Instance.{Instance}
use Rattle.scr_world.specs.declared.step.Step.{Step}
use Rattle.scr_world.specs.declared.world.World.{World}

-- the core, the owner of each entry, the oldest first, the turns under way, each behind its owner, in the order in
-- which they began, what is kept for the instances, the gets by token that weren't given back, each behind its owner, in
-- the order in which they were got, and the keeper of the gates
pub record LockedView (O : Type 0) : Type 0 where
  pub core : CoreView
  pub owners : List ℕ
  pub turns : List (ℕ × ℕ)
  pub parts : List (Part O)
  pub uses : List (ℕ × ℕ)
  pub keeper : KeeperView

-- without the gets and the keeper
abbrev pub owned_of : {O : Type 0} → LockedView O → OwnedView O
owned_of l = record { core = l.core; owners = l.owners; turns = l.turns; parts = l.parts }

-- ---- the one history

-- each entry with its owner
abbrev pub log_of : {O : Type 0} → LockedView O → List (ℕ × Entry Step)
log_of l = log_owned (owned_of l)

-- the history has grown by some entries, each under this owner
abbrev pub AppendsFor : {O : Type 0} → ℕ → LockedView O → LockedView O → Type 0
AppendsFor owner before after = AppendsOwned owner (owned_of before) (owned_of after)

-- ---- what it is tied to

-- limits as numbers
abbrev pub limits_code : Limits → List ℕ
limits_code limits = limits.journal ∷ limits.turns ∷ []

-- ---- what it keeps for passes

-- the turns under way, each with its owner
abbrev pub turns_kept : {O : Type 0} → LockedView O → List (ℕ × ℕ)
turns_kept l = turns_owned (owned_of l)

-- the gets by token that weren't given back, each with its owner: standing or not
abbrev pub uses_kept : {O : Type 0} → LockedView O → List (ℕ × ℕ)
uses_kept l = map as_use l.uses

-- all of these, beside each other
abbrev pub things_kept : {O : Type 0} → LockedView O → List (ℕ × ℕ)
things_kept l = turns_kept l ++ uses_kept l

-- ---- what its type keeps

-- the keeper's level of each slot is that of the world, or closed where its drain is on the shelf
abbrev pub AreGatesOf : World → KeeperView → Type 0
AreGatesOf w keeper = IsKept (slot_level w) keeper

-- there is a gate for each slot that an instance can have; the keeper has all of the places, so nobody is inside a gate, and none is shut for it:
-- each that isn't open is closed, and the drain of one that the world has as shut is on the shelf
pub record HasGates (w : World) (keeper : KeeperView) : Type 0 where
  pub slots : slots_in keeper.gate ≡ 70000
  pub levels : AreGatesOf w keeper
  pub places : HasAll keeper
  pub none_shut : NoneShut keeper

-- as many owners as entries; one token for each turn under way and none for any other; one part for each instance
-- that was made and none for any other, with its site; what is kept of gets was got by its owner and isn't released; and the
-- gates are as the world has them
pub record IsLocked {O : Type 0} (l : LockedView O) : Type 0 where
  pub owners : length l.owners ≡ length l.core.journal
  pub tokens : (turn : ℕ) → tokens_of (turn_numbers l.turns) turn ≡ one_if (is_under_way (world l.core) turn)
  pub parts : (instance : ℕ) → parts_of l.parts instance ≡ one_if (has_object l.core instance)
  pub sites : (part : Part O) → Contains l.parts part → IsSiteOf (world l.core) part
  pub uses : AreKeptGets (log_of l) l.uses
  pub gates : HasGates (world l.core) l.keeper

-- ---- drains

-- the drain of a gate is posted, if there is one
abbrev pub PostsAt : CoreView → Option GateKey → CoreView → Type 0
PostsAt before None after = after ≡ before
PostsAt before (Some key) after = PostsKey before key after

-- the drain that is first on the shelf, and those behind it
abbrev pub first_key : List GateKey → Option GateKey
first_key [] = None
first_key (key ∷ keys) = Some key

abbrev pub rest_of : List GateKey → List GateKey
rest_of [] = []
rest_of (key ∷ keys) = keys

-- the drain that is first on the shelf is posted, and leaves it; where the shelf is empty, nothing changes
abbrev pub PostsOne : {O : Type 0} → LockedView O → LockedView O → Type 0
PostsOne before after = PostsAt before.core (first_key before.keeper.shelf) after.core × (after.keeper ≡ record before.keeper { shelf = rest_of before.keeper.shelf })

-- ---- what the keeper knows of the gates

-- it knows the key of each active instance that has a Drained entry as claimed, the gate of each active one that isn't ending as open under its key,
-- and that of every other living one as shut or closed; and each active instance whose key it knows as claimed has its Drained entry, or its drain
-- is on the shelf
pub record KnowsGates (w : World) (keeper : KeeperView) : Type 0 where
  pub drained : (i : Instance) → Contains w.instances i → is_active_instance i ≡ true → i.drained ≡ true → KnownClaimed (gate_of i) keeper.levels
  pub opened : (i : Instance) → Contains w.instances i → is_active_instance i ≡ true → ends w i ≡ false → KnownOpen (gate_of i) keeper.levels
  pub others : (i : Instance) → Contains w.instances i → (is_active_instance i && not (ends w i)) ≡ false → (slice_index keeper.levels i.slot % 4 ≡ 1) ⊎ (slice_index keeper.levels i.slot % 4 ≡ 3)
  pub posted : (i : Instance) → Contains w.instances i → is_active_instance i ≡ true → KnownClaimed (gate_of i) keeper.levels → (i.drained ≡ true) ⊎ (is_shelved keeper.shelf i.slot ≡ true)
