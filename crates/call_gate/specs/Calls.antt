-- What the calls of the gates answer, by the word that their step found. Our own.
use Rattle.std.specs.Prelude.{◌≡◌, ◌≢◌, ℕ, ◌+◌, ◌-◌, ◌*◌, ◌/◌, ◌%◌, ◌<◌, slice_index, slice_set, ◌⊎◌, List, ◌∷◌, Bool, Option, Some, None, IsTrue, ◌↔◌}
use Rattle.atomic_table.specs.Seated.{TableId}
use Rattle.call_gate.specs.Gates.{lasts_left, generation_in, stage_in, callers_in, LeavesLast, HasKey, with_caller, with_levels, with_vain}
use Rattle.call_gate.specs.Holders.{HeldKey, held}
use Rattle.call_gate.specs.declared.rule.GateView.{GateView}
use Rattle.journal_core.specs.declared.entry.GateKey.{GateKey}
use Rattle.call_gate.specs.declared.tokens.Entered.{Entered}
use Rattle.call_gate.specs.declared.tokens.Entered.TheVariants.{Inside, Gone}

-- how many slots the gates have: the table has one word more, at which nobody enters
abbrev pub slots_in : TableId → ℕ
slots_in gate = gate.words - 1

-- what the keeper knows of a slot: its last generation is this key's, and is open
abbrev pub KnownOpen : GateKey → List ℕ → Type 0
KnownOpen key levels = slice_index levels key.slot ≡ 4 * key.generation

-- its last generation is this key's, and is shut and unclaimed
abbrev pub KnownShut : GateKey → List ℕ → Type 0
KnownShut key levels = slice_index levels key.slot ≡ 4 * key.generation + 1

-- its last generation is shut and claimed
abbrev pub KnownClosed : ℕ → List ℕ → Type 0
KnownClosed slot levels = slice_index levels slot % 4 ≡ 3

-- the key is claimed: the slot has a later generation, or this one and is closed
abbrev pub KnownClaimed : GateKey → List ℕ → Type 0
KnownClaimed key levels = (key.generation < slice_index levels key.slot / 4) ⊎ ((key.generation ≡ slice_index levels key.slot / 4) × KnownClosed key.slot levels)

-- no key with a caller inside is claimed
abbrev pub NoneClaimed : List (ℕ × ℕ) → List ℕ → Type 0
NoneClaimed inside levels = (key : GateKey) → HasKey key.slot key.generation inside → ¬ KnownClaimed key levels

-- the levels when the key was opened, shut or claimed
abbrev pub opened_in : GateKey → List ℕ → List ℕ
opened_in key levels = slice_set levels key.slot (4 * key.generation)

abbrev pub shut_in : GateKey → List ℕ → List ℕ
shut_in key levels = slice_set levels key.slot (4 * key.generation + 1)

abbrev pub claimed_in : GateKey → List ℕ → List ℕ
claimed_in key levels = slice_set levels key.slot (4 * key.generation + 3)

-- the word of a gate that is shut, unclaimed and empty
abbrev pub left_word : ℕ → ℕ
left_word generation = (4 * generation + 1) * 16777216

-- the key is told as last exactly where the step out of this word leaves it shut, unclaimed and empty
abbrev pub LastIs : TableId → ℕ → ℕ → Option HeldKey → Type 0
LastIs gate slot n (Some last) = LeavesLast n × (last ≡ held gate (record { slot = slot; generation = generation_in n }))
LastIs gate slot n None = ¬ LeavesLast n

-- how many keys are told as last here
abbrev pub told : Option HeldKey → ℕ
told (Some last) = 1
told None = 0

-- the counts of an answer: how often it says that the gate is gone, and how many keys it tells as last
abbrev pub gone_in : Entered → ℕ
gone_in (Inside i) = 0
gone_in (Gone generation shut last) = 1

abbrev pub told_in : Entered → ℕ
told_in (Inside i) = 0
told_in (Gone generation shut last) = told last

-- a caller came to this key's open word
abbrev pub InsideAt : GateKey → GateView → GateView → Type 0
InsideAt key v w = (stage_in w.met ≡ 0) × (generation_in w.met ≡ key.generation) × (w ≡ with_caller v key.slot ((key.slot, key.generation) ∷ v.inside) v.passing w.met)

-- a caller came to a word that is shut or of another generation, and stepped out again
abbrev pub GoneAt : TableId → GateKey → ℕ → Bool → Option HeldKey → GateView → GateView → Type 0
GoneAt gate key generation shut last v w =
    (stage_in w.met ≢ 0 ⊎ generation_in w.met ≢ key.generation) × (generation ≡ generation_in w.met) × (IsTrue shut ↔ (stage_in w.met ≢ 0))
    × (w ≡ record v { saw = w.saw; at = key.slot; met = w.met; came = key.slot; gone = v.gone + 1; lasts = v.lasts + lasts_left w.saw }) × LastIs gate key.slot w.saw last

abbrev pub EntersAs : TableId → GateKey → GateView → GateView → Entered → Type 0
EntersAs gate key v w (Inside i) = (i ≡ held gate key) × InsideAt key v w
EntersAs gate key v w (Gone generation shut last) = GoneAt gate key generation shut last v w

-- the key is claimed exactly where its word is shut, unclaimed and empty; where it isn't, and is of the key's shut level, a caller is there
abbrev pub ClaimsAs : HeldKey → GateView → GateView → Option HeldKey → Type 0
ClaimsAs last v w (Some drain) =
    (drain ≡ last) × (w.saw ≡ left_word last.key.generation) × KnownShut last.key v.levels × (w ≡ with_levels v last.key.slot (claimed_in last.key v.levels) w.saw)
ClaimsAs last v w None = (w.saw ≢ left_word last.key.generation) × (w ≡ with_vain v last.key.slot (left_word last.key.generation) w.saw)

-- the shutting leaves nobody inside
abbrev pub ShutIs : TableId → GateKey → ℕ → Option HeldKey → Type 0
ShutIs gate key n (Some last) = (callers_in n ≡ 0) × (last ≡ held gate key)
ShutIs gate key n None = callers_in n ≢ 0
