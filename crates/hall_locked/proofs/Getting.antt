-- A get by a token and its release: what they leave of turns, parts and gates.
use Rattle.std.proofs.Common.{◌≡◌, ℕ, List, length, refl, sym, subst, Bool, true, false, inl, Ok, Err}
use Rattle.std.specs.List.{Contains}
use Rattle.journal_core.specs.declared.entry.Entry.{Entry}
use Rattle.gate_keeper.specs.Keepers.{KeeperView}
use Rattle.hall_locked.specs.Locks.{HasGates}
use Rattle.hall_locked.specs.Owned.{owners_up_to}
use Rattle.hall_locked.specs.OwnedCores.{IsOwned, OwnedView}
use Rattle.hall_locked.specs.Uses.{GivesBack}
use Rattle.hall_locked.proofs.Appends.{GrowsByOne, grown_by_one}
use Rattle.hall_locked.proofs.Changes.{same_sites}
use Rattle.hall_locked.proofs.Gates.{gates_still}
use Rattle.hall_locked.proofs.Sites.{SitesStay, site_stays}
use Rattle.hall_locked.proofs.Stretches.{IsRight, by_one, changed_to}
use Rattle.platform_hall.specs.Calls.{GetsUse}
use Rattle.platform_hall.specs.Platforms.{world}
use Rattle.platform_hall.proofs.Settlings.{HasLegal}
use Rattle.platform_hall.proofs.Steps.{grown_after}
use Rattle.platform_hall.proofs.Using.{ends_use_alike, gets_alike}
use Rattle.scr_core.specs.Cores.{CoreView}
use Rattle.scr_world.specs.Calls.{EndsUse, Gets, Grown, world_at}
use Rattle.scr_world.specs.Legal.{IsLegal}
use Rattle.scr_world.specs.Steps.{history_of}
use Rattle.scr_world.specs.declared.instance.Instance.{Instance}
use Rattle.scr_world.specs.declared.marks.Token.{Token}
use Rattle.scr_world.specs.declared.reply.CoreFault.{CoreFault}
use Rattle.scr_world.specs.declared.reply.CoreFault.TheVariants.{NoBundle, NoComponent, WrongState, Stopping, SameName, Cycle, BundlesFull, ComponentsFull, ServicesFull, ConfigurationsFull, ListenersFull, NoService, NotOwner, NotUsing, NoListener, NoConfiguration, BadPid, FactoryClash, ActivationFailed, ActivationNoMemory, JournalFull, OutOfMemory}
use Rattle.scr_world.specs.declared.step.Step.{Step}
use Rattle.scr_world.specs.declared.step.Step.TheVariants.{Got, Released}

-- a refused get leaves the journal as it was
pub ungot_same : (limit : ℕ) (old new : List (Entry Step)) (bundle service : ℕ) (fault : CoreFault) → Gets limit old bundle service (Err fault) new → new ≡ old
ungot_same limit old new bundle service (NoBundle b) gets = gets.1
ungot_same limit old new bundle service (NoComponent n) gets = gets.1
ungot_same limit old new bundle service (WrongState s) gets = gets.1
ungot_same limit old new bundle service (Stopping i) gets = gets.1
ungot_same limit old new bundle service (SameName b) gets = gets.1
ungot_same limit old new bundle service (Cycle path) gets = gets.1
ungot_same limit old new bundle service BundlesFull gets = gets.1
ungot_same limit old new bundle service ComponentsFull gets = gets.1
ungot_same limit old new bundle service ServicesFull gets = gets.1
ungot_same limit old new bundle service ConfigurationsFull gets = gets.1
ungot_same limit old new bundle service ListenersFull gets = gets.1
ungot_same limit old new bundle service (NoService s) gets = gets.1
ungot_same limit old new bundle service (NotOwner b) gets = gets.1
ungot_same limit old new bundle service NotUsing gets = gets.1
ungot_same limit old new bundle service (NoListener l) gets = gets.1
ungot_same limit old new bundle service NoConfiguration gets = gets.1
ungot_same limit old new bundle service BadPid gets = gets.1
ungot_same limit old new bundle service FactoryClash gets = gets.1
ungot_same limit old new bundle service (ActivationFailed i) gets = gets.1
ungot_same limit old new bundle service (ActivationNoMemory i) gets = gets.1
ungot_same limit old new bundle service JournalFull gets = gets.2
ungot_same limit old new bundle service OutOfMemory gets = gets.2

-- ---- what instances were told of themselves

module _ (limit : ℕ) (old new : List (Entry Step)) (legal : IsLegal limit (history_of old)) where
  got_sites : (bundle service : ℕ) → Grown limit old (Got bundle service) new → SitesStay (world_at old) (world_at new)
  got_sites bundle service grown i h =
      let there = subst (λ (is : List Instance). Contains is i) (grown_after limit old new (Got bundle service) grown).instances h in
      record { one = i; there = there; number = refl; site = site_stays limit old new (Got bundle service) legal grown i i there refl refl }

  released_sites : (place : ℕ) → Grown limit old (Released place) new → SitesStay (world_at old) (world_at new)
  released_sites place grown i h =
      let there = subst (λ (is : List Instance). Contains is i) (grown_after limit old new (Released place) grown).instances h in
      record { one = i; there = there; number = refl; site = site_stays limit old new (Released place) legal grown i i there refl refl }

  ended_grows : (note : Token) (stood : Bool) → EndsUse limit old note stood new → GrowsByOne old new
  ended_grows note true ends = grown_by_one limit old new (Released note.place) ends.1
  ended_grows note false ends = inl ends.1

  ended_sites : (note : Token) (stood : Bool) → EndsUse limit old note stood new → SitesStay (world_at old) (world_at new)
  ended_sites note true ends = released_sites note.place ends.1
  ended_sites note false ends = same_sites limit old new ends.1

-- ---- the value

module _ {O : Type 0} (owner : ℕ) (before : OwnedView O) (core : CoreView) (owners : List ℕ) (legal : HasLegal before.core) (locked : IsOwned before) (named : owners ≡ owners_up_to (length core.journal) owner before.owners) where
  pub got : (bundle service : ℕ) (note : Token) → Gets before.core.limits.journal before.core.journal bundle service (Ok note) core.journal → IsRight owner before (changed_to before core owners)
  got bundle service note gets = by_one owner before core owners legal locked named
      (grown_by_one before.core.limits.journal before.core.journal core.journal (Got bundle service) gets.1)
      (gets_alike before.core.limits.journal before.core.journal core.journal bundle service (Ok note) gets)
      (got_sites before.core.limits.journal before.core.journal core.journal legal bundle service gets.1)

  pub released : (note : Token) (stood : Bool) → EndsUse before.core.limits.journal before.core.journal note stood core.journal → IsRight owner before (changed_to before core owners)
  released note stood ends = by_one owner before core owners legal locked named
      (ended_grows before.core.limits.journal before.core.journal core.journal legal note stood ends)
      (ends_use_alike before.core.limits.journal before.core.journal core.journal note stood ends)
      (ended_sites before.core.limits.journal before.core.journal core.journal legal note stood ends)

-- ---- gates

module _ (before after : CoreView) (legal : HasLegal before) (k : KeeperView) (gates : HasGates (world before) k) where
  pub got_gates : (bundle service : ℕ) (note : Token) → GetsUse before bundle service (Ok note) after → HasGates (world after) k
  got_gates bundle service note gets = gates_still before.limits.journal before.journal after.journal (Got bundle service) legal gets.1.1 refl refl (λ slot. refl) k gates

  pub released_gates : (note : Token) (stood : Bool) → GivesBack before note stood after → HasGates (world after) k
  released_gates note true gives = gates_still before.limits.journal before.journal after.journal (Released note.place) legal gives.1.1 refl refl (λ slot. refl) k gates
  released_gates note false gives = subst (λ (j : List (Entry Step)). HasGates (world_at j) k) (sym gives.1.1) gates
