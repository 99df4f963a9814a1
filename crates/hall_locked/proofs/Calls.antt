-- What each call of the value under the lock asks of the keeper, and leaves of the gates.
use Rattle.std.proofs.Common.{◌≡◌, ℕ, List, [], ◌∷◌, ap, sym, ◌∙◌, refl, subst, Ok, true, ◌&&◌, Bool, Option, Some, None, length}
use Rattle.std.specs.Prelude.{IfSome, nat_lt}
use Rattle.std.specs.List.{list_any}
use Rattle.atomic_table.specs.Seated.{TableId}
use Rattle.call_gate.specs.Holders.{HeldKey}
use Rattle.callback_orders.specs.declared.callback.Outcome.{Outcome}
use Rattle.gate_keeper.specs.Keepers.{AreOpen, CanComeBack, CanReopen, HasAll, IsOrderly, KeeperView, ShutsAll, Takes, all_shelved, is_some_key}
use Rattle.gate_keeper.proofs.Alone.{all_gate}
use Rattle.journal_core.specs.declared.entry.GateKey.{GateKey}
use Rattle.hall_locked.specs.Locks.{HasGates, IsLocked, KnowsGates, LockedView, PostsAt, PostsOne, first_key, log_of, owned_of, rest_of}
use Rattle.hall_locked.specs.Moving.{reopened_if}
use Rattle.hall_locked.specs.OwnedCores.{IsOwned, PostsKey, TellsGates}
use Rattle.hall_locked.specs.Uses.{AreKeptGets}
use Rattle.hall_locked.proofs.Awaiting.{drain_awaits, has_slots, knows_gates, owed_is}
use Rattle.hall_locked.proofs.Gates.{command_gates, command_opens, drain_gates, end_gates, end_opens, end_reopens, put_back}
use Rattle.platform_hall.specs.Platforms.{CoreTakes, Ends, has_drain, world}
use Rattle.platform_hall.proofs.Settlings.{HasLegal}
use Rattle.scr_core.specs.Cores.{AreWithinGreatest, CoreView}
use Rattle.scr_world.specs.Calls.{awaits_drain_at}
use Rattle.scr_world.specs.Steps.{history_of}
use Rattle.scr_world.specs.declared.command.Command.{Command}
use Rattle.scr_world.specs.declared.reply.Accepted.{Accepted}
use Rattle.scr_world.specs.declared.turn.Ended.{Ended}

-- ---- what is so of the gates at any time

module _ (core : CoreView) (legal : HasLegal core) (k : KeeperView) (orderly : IsOrderly k) (gates : HasGates (world core) k) where
  -- something is owed exactly where a drain is awaited
  pub owed_now : is_some_key k.shelf ≡ has_drain core
  owed_now = owed_is (world core) (has_slots core.limits.journal (history_of core.journal) legal) k orderly gates

  pub knows_now : KnowsGates (world core) k
  knows_now = knows_gates (world core) (has_slots core.limits.journal (history_of core.journal) legal) k orderly gates

  -- the drain that is taken from the shelf is awaited
  pub awaited_now : (drain : HeldKey) (after : KeeperView) → Takes drain k after → list_any (awaits_drain_at (world core) drain.key) (world core).instances ≡ true
  awaited_now drain after takes = drain_awaits (world core) (has_slots core.limits.journal (history_of core.journal) legal) k orderly gates drain after takes

-- something is owed behind an entry exactly where there is one more and a drain is awaited
pub owed_behind : (before after seen : CoreView) → HasLegal after → (k : KeeperView) → IsOrderly k → HasGates (world after) k → (entries : ℕ) (owes : Bool) → entries ≡ length before.journal → seen ≡ after
    → owes ≡ (nat_lt entries (length seen.journal) && is_some_key k.shelf) → owes ≡ (nat_lt (length before.journal) (length after.journal) && has_drain after)
owed_behind before after seen legal k orderly gates entries owes many same is =
    is
    ∙ ap (λ n. nat_lt n (length seen.journal) && is_some_key k.shelf) many
    ∙ ap (λ (c : CoreView). nat_lt (length before.journal) (length c.journal) && is_some_key k.shelf) same
    ∙ ap (λ b. nat_lt (length before.journal) (length after.journal) && b) (owed_now after legal k orderly gates)

-- and so all is kept that its type keeps
pub all_locked : {O : Type 0} (l : LockedView O) → IsOwned (owned_of l) → AreKeptGets (log_of l) l.uses → HasGates (world l.core) l.keeper → IsLocked l
all_locked l own uses gates = record { owners = own.owners; tokens = own.tokens; parts = own.parts; sites = own.sites; uses = uses; gates = gates }

-- ---- a command that is taken

module _ (before after : CoreView) (command : Command) (accepted : Accepted) (legal : HasLegal before) (takes : CoreTakes before command (Ok accepted) after) (k : KeeperView) (orderly : IsOrderly k) (gates : HasGates (world before) k) where
  pub opens_by : AreOpen k accepted.shut
  opens_by = command_opens before.limits.journal before.journal after.journal command accepted legal takes.1 k orderly gates

  pub gates_by : (now : KeeperView) → ShutsAll accepted.shut k now → (HasAll k → now ≡ all_shelved accepted.shut k) → HasGates (world after) now
  gates_by now shuts alone = command_gates before.limits.journal before.journal after.journal command accepted legal takes.1 k orderly gates now shuts alone

  pub opens_keys : (keys : List GateKey) → keys ≡ accepted.shut → AreOpen k keys
  opens_keys keys are = subst (λ ks. AreOpen k ks) (sym are) opens_by

  -- once these are shut, of the same gates
  pub keeps_by : (now : KeeperView) (keys : List GateKey) (gate : TableId) → k.gate ≡ gate → keys ≡ accepted.shut → ShutsAll keys k now → (HasAll k → now ≡ all_shelved keys k) → HasGates (world after) now × (now.gate ≡ gate)
  keeps_by now keys gate own are shuts alone = (
    gates_by now (subst (λ ks. ShutsAll ks k now) are shuts) (λ all. subst (λ ks. now ≡ all_shelved ks k) are (alone all)),
    ap (λ (x : KeeperView). x.gate) (alone gates.places) ∙ all_gate keys k ∙ own,
  )

-- ---- the end of a turn

reopened_gate : (o : Option GateKey) (k : KeeperView) → (reopened_if o k).gate ≡ k.gate
reopened_gate None k = refl
reopened_gate (Some key) k = refl

module _ (before after : CoreView) (turn : ℕ) (outcome : Outcome) (ended : Ended) (legal : HasLegal before) (within : AreWithinGreatest before.limits) (ends : Ends before turn outcome after) (tells : TellsGates before turn outcome ended after)
    (k : KeeperView) (orderly : IsOrderly k) (gates : HasGates (world before) k) where
  pub ends_reopen : IfSome ended.reopened (λ key. CanReopen k key)
  ends_reopen = end_reopens before.limits.journal before.journal after.journal turn outcome legal ends.1 within.journal k orderly gates ended.reopened tells.1

  pub ends_open : AreOpen (reopened_if ended.reopened k) ended.shut
  ends_open = end_opens before.limits.journal before.journal after.journal turn outcome legal ends.1 within.journal k orderly gates ended.reopened ended.shut tells.1 tells.0

  pub ends_gates : (now : KeeperView) → ShutsAll ended.shut (reopened_if ended.reopened k) now → (HasAll k → now ≡ all_shelved ended.shut (reopened_if ended.reopened k)) → HasGates (world after) now
  ends_gates now shuts alone = end_gates before.limits.journal before.journal after.journal turn outcome legal ends.1 within.journal k orderly gates ended.reopened ended.shut tells.1 tells.0 now shuts alone

  pub ends_open_keys : (keys : List GateKey) → keys ≡ ended.shut → AreOpen (reopened_if ended.reopened k) keys
  ends_open_keys keys are = subst (λ ks. AreOpen (reopened_if ended.reopened k) ks) (sym are) ends_open

  -- once these are shut, of the same gates
  pub ends_keep : (now : KeeperView) (keys : List GateKey) (gate : TableId) → k.gate ≡ gate → keys ≡ ended.shut → ShutsAll keys (reopened_if ended.reopened k) now
      → (HasAll k → now ≡ all_shelved keys (reopened_if ended.reopened k)) → HasGates (world after) now × (now.gate ≡ gate)
  ends_keep now keys gate own are shuts alone = (
    ends_gates now (subst (λ ks. ShutsAll ks (reopened_if ended.reopened k) now) are shuts) (λ all. subst (λ ks. now ≡ all_shelved ks (reopened_if ended.reopened k)) are (alone all)),
    ap (λ (x : KeeperView). x.gate) (alone gates.places) ∙ all_gate keys (reopened_if ended.reopened k) ∙ reopened_gate ended.reopened k ∙ own,
  )

-- ---- a drain that is posted

pub posts_gates : (before after : CoreView) (drain : HeldKey) → HasLegal before → (k now : KeeperView) → HasGates (world before) k → Takes drain k now → PostsKey before drain.key after → HasGates (world after) now
posts_gates before after drain legal k now gates takes posts = drain_gates before.limits.journal before.journal after.journal legal k now gates drain takes posts.1

-- of the same gates
pub posts_keep : (before after : CoreView) (drain : HeldKey) → HasLegal before → (k now : KeeperView) (gate : TableId) → k.gate ≡ gate → HasGates (world before) k → Takes drain k now → PostsKey before drain.key after
    → HasGates (world after) now × (now.gate ≡ gate)
posts_keep before after drain legal k now gate own gates takes posts = (posts_gates before after drain legal k now gates takes posts, ap (λ (x : KeeperView). x.gate) takes.rest ∙ own)

-- where it wasn't posted it is put back, and all is as it was
pub back_can : (drain back : HeldKey) (k after : KeeperView) → Takes drain k after → back ≡ drain → CanComeBack after back
back_can drain back k after takes same = subst (λ (d : HeldKey). CanComeBack after d) (sym same) takes.can

pub back_is : (drain back : HeldKey) (k after last : KeeperView) → Takes drain k after → back ≡ drain → last ≡ record after { shelf = back.key ∷ after.shelf } → last ≡ k
back_is drain back k after last takes same is = is ∙ ap (λ (d : HeldKey). record after { shelf = d.key ∷ after.shelf }) same ∙ put_back drain k after takes

module _ {O : Type 0} (before after : LockedView O) where
  pub posted_one : (drain : HeldKey) → Takes drain before.keeper after.keeper → PostsKey before.core drain.key after.core → PostsOne before after
  posted_one drain takes posts = (
    subst (λ (ks : List GateKey). PostsAt before.core (first_key ks) after.core) (sym takes.shelf) posts,
    takes.rest ∙ ap (λ (ks : List GateKey). record before.keeper { shelf = ks }) (sym (ap rest_of takes.shelf)),
  )

  pub posted_none : before.keeper.shelf ≡ [] → after ≡ before → PostsOne before after
  posted_none empty same = (
    subst (λ (ks : List GateKey). PostsAt before.core (first_key ks) after.core) (sym empty) (ap (λ (l : LockedView O). l.core) same),
    ap (λ (l : LockedView O). l.keeper) same ∙ ap (λ (ks : List GateKey). record before.keeper { shelf = ks }) (empty ∙ sym (ap rest_of empty)),
  )
