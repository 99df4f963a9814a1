-- A change of the value under the lock: it keeps what its type keeps, and its entries are the owner's.
use Rattle.std.proofs.Common.{◌≡◌, ℕ, List, ap, sym, ◌∙◌, subst, Ok}
use Rattle.std.specs.Prelude.{length}
use Rattle.journal_core.specs.declared.entry.GateKey.{GateKey}
use Rattle.hall_locked.specs.OwnedCores.{AppendsOwned, IsOwned, OwnedView}
use Rattle.hall_locked.specs.Owned.{owners_up_to}
use Rattle.hall_locked.proofs.Appends.{GrowsByOne, appends_for, appends_none, as_many}
use Rattle.hall_locked.proofs.Changes.{drain_alike, drain_grows, drain_sites, taken_grows, taken_sites}
use Rattle.hall_locked.proofs.Kept.{owned_alike}
use Rattle.hall_locked.proofs.Sites.{SitesStay}
use Rattle.platform_hall.specs.Platforms.{world}
use Rattle.platform_hall.proofs.Commanding.{commands_alike}
use Rattle.platform_hall.proofs.Desks.{same_view}
use Rattle.platform_hall.proofs.Settlings.{HasLegal}
use Rattle.platform_hall.proofs.Stops.{IsAlike}
use Rattle.scr_core.specs.Cores.{CoreView}
use Rattle.scr_world.specs.Calls.{Commands, Drains}
use Rattle.scr_world.specs.declared.command.Command.{Command}
use Rattle.scr_world.specs.declared.reply.Accepted.{Accepted}

module _ {O : Type 0} where
  -- with another core and other owners
  abbrev pub changed_to : OwnedView O → CoreView → List ℕ → OwnedView O
  changed_to before core owners = record { core = core; owners = owners; turns = before.turns; parts = before.parts }

  -- what a change leaves that is right
  pub record IsRight (owner : ℕ) (before after : OwnedView O) : Type 0 where
    pub locked : IsOwned after
    pub appends : AppendsOwned owner before after

  -- nothing has changed
  pub same_owned : (before : OwnedView O) (core : CoreView) (owners : List ℕ) → core.limits ≡ before.core.limits → core.journal ≡ before.core.journal → owners ≡ before.owners → changed_to before core owners ≡ before
  same_owned before core owners limits journal same =
      ap (λ c. changed_to before c owners) (same_view core before.core limits journal) ∙ ap (λ os. changed_to before before.core os) same

  pub nothing_changed : (owner : ℕ) (before : OwnedView O) (core : CoreView) (owners : List ℕ) → IsOwned before → core.limits ≡ before.core.limits → core.journal ≡ before.core.journal → owners ≡ before.owners
      → IsRight owner before (changed_to before core owners)
  nothing_changed owner before core owners locked limits journal same = record {
    locked = subst (λ (l : OwnedView O). IsOwned l) (sym (same_owned before core owners limits journal same)) locked;
    appends = appends_none owner before (changed_to before core owners) journal same;
  }

  module _ (owner : ℕ) (before : OwnedView O) (core : CoreView) (owners : List ℕ) (legal : HasLegal before.core) (locked : IsOwned before) (named : owners ≡ owners_up_to (length core.journal) owner before.owners) where
    pub by_one : GrowsByOne before.core.journal core.journal → IsAlike (world before.core) (world core) → SitesStay (world before.core) (world core) → IsRight owner before (changed_to before core owners)
    by_one grows alike stay = record {
      locked = owned_alike before core owners (ap length named ∙ as_many owner before.core.journal core.journal before.owners locked.owners grows) alike stay locked;
      appends = appends_for owner before (changed_to before core owners) locked.owners named grows;
    }

    pub commanded : (command : Command) (accepted : Accepted) → Commands before.core.limits.journal before.core.journal command (Ok accepted) core.journal → IsRight owner before (changed_to before core owners)
    commanded command accepted takes = by_one
        (taken_grows before.core.limits.journal before.core.journal core.journal command accepted takes)
        (commands_alike before.core.limits.journal before.core.journal core.journal command (Ok accepted) takes)
        (taken_sites before.core.limits.journal before.core.journal core.journal command accepted legal takes)

    pub posted : (key : GateKey) → Drains before.core.limits.journal before.core.journal key core.journal → IsRight owner before (changed_to before core owners)
    posted key drains = by_one
        (drain_grows before.core.limits.journal before.core.journal core.journal key drains)
        (drain_alike before.core.limits.journal before.core.journal core.journal key drains)
        (drain_sites before.core.limits.journal before.core.journal core.journal key legal drains)
