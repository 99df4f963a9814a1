-- The keeper of gates, as contracts see it, and what its calls do. Our own.
use Rattle.std.specs.Prelude.{◌≡◌, ◌≢◌, ℕ, ◌+◌, ◌*◌, ◌/◌, ◌%◌, ◌<◌, ◌≤◌, ◌⊎◌, ◌==◌, ◌&&◌, List, [], ◌∷◌, ◌++◌, Bool, true, false, if◌then◌else◌, length, map, slice_index, Option, Some, None}
use Rattle.std.specs.List.{list_any}
use Rattle.atomic_table.specs.Seated.{TableId}
use Rattle.call_gate.specs.Calls.{KnownClaimed, KnownClosed, KnownOpen, KnownShut, claimed_in, opened_in, shut_in, slots_in}
use Rattle.call_gate.specs.Gates.{SeatView}
use Rattle.call_gate.specs.Holders.{HeldKey, held}
use Rattle.journal_core.specs.declared.entry.GateKey.{GateKey}

-- the gates, the level that the keeper knows of each slot, the places of its seat, the keys whose drains are on the shelf, in the order in
-- which they came there, and the keys that were visited: the slot and the generation of each that the keeper found a caller of as it shut
-- its gate or tried to claim its drain
pub record KeeperView : Type 0 where
  pub gate : TableId
  pub levels : List ℕ
  pub places : ℕ
  pub shelf : List GateKey
  pub visited : List (ℕ × ℕ)

-- the keys of what is held
abbrev pub keys_held : List HeldKey → List GateKey
keys_held held = map (λ (h : HeldKey). h.key) held

-- the drain of a slot is on the shelf
abbrev pub is_shelved : List GateKey → ℕ → Bool
is_shelved shelf slot = list_any (λ (key : GateKey). key.slot == slot) shelf

-- the key of this slot and this generation was visited
abbrev pub is_visited : List (ℕ × ℕ) → ℕ → ℕ → Bool
is_visited visited slot generation = list_any (λ (k : ℕ × ℕ). (k.0 == slot) && (k.1 == generation)) visited

abbrev pub IsVisited : KeeperView → GateKey → Type 0
IsVisited k key = is_visited k.visited key.slot key.generation ≡ true

-- ---- the one equation

-- where a slot's drain is on the shelf it is closed for the keeper, and shut for others; else it is for the keeper as it should be
abbrev pub level_kept : Bool → ℕ → ℕ
level_kept shelved level = if shelved then level + 2 else level

-- the keeper's level of each slot is the one that it should be, or closed where its drain is on the shelf
abbrev pub IsKept : (ℕ → ℕ) → KeeperView → Type 0
IsKept level k = (slot : ℕ) → slot < slots_in k.gate → slice_index k.levels slot ≡ level_kept (is_shelved k.shelf slot) (level slot)

-- what a keeper always knows: the level of each word of the gates; and a slot whose drain is on the shelf is one of the gates', and is closed
pub record IsOrderly (k : KeeperView) : Type 0 where
  pub wide : length k.levels ≡ k.gate.words
  pub closed : (slot : ℕ) → is_shelved k.shelf slot ≡ true → KnownClosed slot k.levels
  pub within : (slot : ℕ) → is_shelved k.shelf slot ≡ true → slot < slots_in k.gate

-- each gate that is shut under such levels is under a key that was visited
abbrev pub AreMet : List ℕ → List (ℕ × ℕ) → Type 0
AreMet levels visited = (slot : ℕ) → slice_index levels slot % 4 ≡ 1 → is_visited visited slot (slice_index levels slot / 4) ≡ true

-- a gate that the keeper knows as shut was visited: so the drain of one that was not is on the shelf, or was taken from there
abbrev pub ShutAreVisited : KeeperView → Type 0
ShutAreVisited k = AreMet k.levels k.visited

-- ---- levels as they should be, and a change of them

-- that of one slot is another
abbrev pub with_level : (ℕ → ℕ) → ℕ → ℕ → ℕ → ℕ
with_level level at new slot = if at == slot then new else level slot

-- that of one slot is higher
abbrev pub with_more : (ℕ → ℕ) → ℕ → ℕ → ℕ → ℕ
with_more level at more slot = if at == slot then level slot + more else level slot

-- those of the slots of these keys are shut, which were open
abbrev pub with_shut_all : (ℕ → ℕ) → List GateKey → ℕ → ℕ
with_shut_all level keys slot = if is_shelved keys slot then level slot + 1 else level slot

-- ---- what the keeper knows by the equation

-- these slots should be open under these keys, and are to be shut; no two are the same
abbrev pub AreToShut : (ℕ → ℕ) → ℕ → List GateKey → Type 0
AreToShut level slots [] = Unit {0}
AreToShut level slots (key ∷ keys) = (key.slot < slots) × (level key.slot ≡ 4 * key.generation) × (is_shelved keys key.slot ≡ false) × AreToShut level slots keys

-- the keeper knows a key as open where its slot should be open under it; as shut where it should be shut, or as claimed with the drain on the shelf;
-- as claimed where it should be closed; and a key that it knows as claimed should be closed, or should be shut and its drain is on the shelf
pub record KnowsKey (level : ℕ → ℕ) (k : KeeperView) (key : GateKey) : Type 0 where
  pub opened : level key.slot ≡ 4 * key.generation → KnownOpen key k.levels
  pub shut : level key.slot ≡ 4 * key.generation + 1 → KnownShut key k.levels ⊎ (KnownClaimed key k.levels × (is_shelved k.shelf key.slot ≡ true))
  pub closed : level key.slot ≡ 4 * key.generation + 3 → KnownClaimed key k.levels
  pub posted : KnownClaimed key k.levels → (4 * key.generation + 3 ≤ level key.slot) ⊎ ((level key.slot ≡ 4 * key.generation + 1) × (is_shelved k.shelf key.slot ≡ true))

-- ---- what the calls do

-- a key is one of the gates, and its gate is open under it for the keeper
abbrev pub IsOpen : KeeperView → GateKey → Type 0
IsOpen k key = (key.slot < slots_in k.gate) × KnownOpen key k.levels

-- each of them is, and no two are of one slot
abbrev pub AreOpen : KeeperView → List GateKey → Type 0
AreOpen k [] = Unit {0}
AreOpen k (key ∷ keys) = IsOpen k key × (is_shelved keys key.slot ≡ false) × AreOpen k keys

-- a slot is closed for the keeper under the generation before this key's, and its drain isn't on the shelf
pub record CanReopen (k : KeeperView) (key : GateKey) : Type 0 where
  pub slot : key.slot < slots_in k.gate
  pub closed : slice_index k.levels key.slot + 1 ≡ 4 * key.generation
  pub posted : is_shelved k.shelf key.slot ≡ false
  pub low : key.generation < 274877906944

-- the gate is open under this key
abbrev pub reopened : GateKey → KeeperView → KeeperView
reopened key k = record k { levels = opened_in key k.levels }

-- a shut gate is closed, and its drain is on the shelf
abbrev pub shelved : GateKey → KeeperView → KeeperView
shelved key k = record k { levels = claimed_in key k.levels; shelf = k.shelf ++ key ∷ [] }

-- the keeper found a caller of this key
abbrev pub met : GateKey → KeeperView → KeeperView
met key k = record k { visited = (key.slot, key.generation) ∷ k.visited }

-- a caller is at the shut gate, so its drain isn't claimed yet
abbrev pub Meets : GateKey → KeeperView → KeeperView → Type 0
Meets key before after = KnownShut key before.levels × (after ≡ met key before)

-- the gate isn't shut under this key any more, and all is as it was; or its drain was claimed, and is on the shelf; or a caller is there
abbrev pub Claims : GateKey → KeeperView → KeeperView → Type 0
Claims key before after = (¬ KnownShut key before.levels × (after ≡ before)) ⊎ ((KnownShut key before.levels × (after ≡ shelved key before)) ⊎ Meets key before after)

-- a drain of these gates, whose slot is closed under its key, and isn't on the shelf
pub record CanComeBack (k : KeeperView) (drain : HeldKey) : Type 0 where
  pub gate : drain.gate ≡ k.gate
  pub slot : drain.key.slot < slots_in k.gate
  pub closed : slice_index k.levels drain.key.slot ≡ 4 * drain.key.generation + 3
  pub away : is_shelved k.shelf drain.key.slot ≡ false

-- an open gate is shut, and its drain is on the shelf at once
abbrev pub shut_and_shelved : GateKey → KeeperView → KeeperView
shut_and_shelved key k = shelved key (record k { levels = shut_in key k.levels })

-- an open gate is shut, and a caller is there
abbrev pub met_shut : GateKey → KeeperView → KeeperView
met_shut key k = met key (record k { levels = shut_in key k.levels })

-- an open gate was shut: nobody was inside, and its drain is on the shelf, or a caller was there
abbrev pub Shuts : GateKey → KeeperView → KeeperView → Type 0
Shuts key before after = (after ≡ shut_and_shelved key before) ⊎ (after ≡ met_shut key before)

-- these gates were shut, one after the other
abbrev pub ShutsAll : List GateKey → KeeperView → KeeperView → Type 0
ShutsAll [] before after = after ≡ before
ShutsAll (key ∷ keys) before after = (between : KeeperView) × Shuts key before between × ShutsAll keys between after

-- ---- a keeper that has all places

-- its seat has all of the 2^24 - 1 places: so nobody else can be inside a gate
abbrev pub HasAll : KeeperView → Type 0
HasAll k = k.places ≡ 16777215

-- these gates are shut, one after the other, and the drain of each is on the shelf at once
abbrev pub all_shelved : List GateKey → KeeperView → KeeperView
all_shelved [] k = k
all_shelved (key ∷ keys) k = all_shelved keys (shut_and_shelved key k)

-- no gate is shut for the keeper: each is open or closed
abbrev pub NoneShut : KeeperView → Type 0
NoneShut k = (slot : ℕ) → slice_index k.levels slot % 4 ≢ 1

-- ---- drains that are taken

-- something is on the shelf
abbrev pub is_some_key : List GateKey → Bool
is_some_key [] = false
is_some_key (key ∷ keys) = true

-- the drain that was first on the shelf was taken
pub record Takes (drain : HeldKey) (before after : KeeperView) : Type 0 where
  pub gate : drain.gate ≡ before.gate
  pub shelf : before.shelf ≡ drain.key ∷ after.shelf
  pub rest : after ≡ record before { shelf = after.shelf }
  pub can : CanComeBack after drain

-- or none was, since the shelf was empty
abbrev pub TakesFirst : Option HeldKey → KeeperView → KeeperView → Type 0
TakesFirst (Some drain) before after = Takes drain before after
TakesFirst None before after = (before.shelf ≡ []) × (after ≡ before)

-- ---- what its type keeps

-- the drain of a key of these gates, which is closed under it
pub record IsShelved (gate : TableId) (levels : List ℕ) (drain : HeldKey) : Type 0 where
  pub gate_is : drain.gate ≡ gate
  pub slot : drain.key.slot < slots_in gate
  pub closed : slice_index levels drain.key.slot ≡ 4 * drain.key.generation + 3

-- drains of different slots
abbrev pub AreShelved : TableId → List ℕ → List HeldKey → Type 0
AreShelved gate levels [] = Unit {0}
AreShelved gate levels (d ∷ ds) = IsShelved gate levels d × (is_shelved (keys_held ds) d.key.slot ≡ false) × AreShelved gate levels ds

-- the keeper's seat, from which nobody entered, knows the level of each word; each drain on the shelf is of a closed slot, each of another one, and
-- there is room for the drains of all words
pub record IsKeeper (seat : SeatView) (shelf : List HeldKey) (room : ℕ) : Type 0 where
  pub keeps : seat.knows.keeps ≡ true
  pub nobody : seat.knows.inside ≡ []
  pub wide : length seat.knows.levels ≡ seat.gate.words
  pub drains : AreShelved seat.gate seat.knows.levels shelf
  pub places : seat.gate.words ≤ room

abbrev pub keeper_of : SeatView → List HeldKey → KeeperView
keeper_of seat shelf = record { gate = seat.gate; levels = seat.knows.levels; places = seat.knows.places; shelf = keys_held shelf; visited = seat.knows.visited }
