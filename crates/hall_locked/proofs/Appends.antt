-- Changes that append one entry for an owner, or none.
use Rattle.std.proofs.Common.{◌≡◌, ◌⊎◌, ℕ, ◌+◌, List, [], ◌∷◌, ◌++◌, length, ap, sym, ◌∙◌, inl, inr, Bool, true, false, Err, arith}
use Rattle.std.proofs.lemmas.List.{append-nil, length-append}
use Rattle.journal_core.specs.declared.entry.Entry.{Entry}
use Rattle.hall_locked.specs.OwnedCores.{AppendsOwned, OwnedView}
use Rattle.hall_locked.specs.Owned.{owned, owners_up_to}
use Rattle.hall_locked.proofs.Logs.{owned_more, up_to_more, up_to_same}
use Rattle.scr_world.specs.Calls.{Commands, Grown, GrownIf}
use Rattle.scr_world.specs.declared.command.Command.{Command}
use Rattle.scr_world.specs.declared.reply.CoreFault.{CoreFault}
use Rattle.scr_world.specs.declared.reply.CoreFault.TheVariants.{NoBundle, NoComponent, WrongState, Stopping, SameName, Cycle, BundlesFull, ComponentsFull, ServicesFull, ConfigurationsFull, ListenersFull, NoService, NotOwner, NotUsing, NoListener, NoConfiguration, BadPid, FactoryClash, ActivationFailed, ActivationNoMemory, JournalFull, OutOfMemory}
use Rattle.scr_world.specs.declared.step.Step.{Step}

-- one list with one more at its end, or the same
abbrev pub GrowsByOne : List (Entry Step) → List (Entry Step) → Type 0
GrowsByOne old new = (new ≡ old) ⊎ ((entry : Entry Step) × (new ≡ old ++ entry ∷ []))

pub grown_by_one : (limit : ℕ) (old new : List (Entry Step)) (step : Step) → Grown limit old step new → GrowsByOne old new
grown_by_one limit old new step (entry, is, may, grew) = inr (entry, grew)

pub grown_if_by_one : (changed : Bool) (limit : ℕ) (old new : List (Entry Step)) (step : Step) → GrownIf changed limit old step new → GrowsByOne old new
grown_if_by_one true limit old new step grown = grown_by_one limit old new step grown
grown_if_by_one false limit old new step same = inl same

-- a refused command leaves the journal as it was
pub refused_same : (limit : ℕ) (old new : List (Entry Step)) (command : Command) (fault : CoreFault) → Commands limit old command (Err fault) new → new ≡ old
refused_same limit old new command (NoBundle b) takes = takes.1
refused_same limit old new command (NoComponent n) takes = takes.1
refused_same limit old new command (WrongState s) takes = takes.1
refused_same limit old new command (Stopping i) takes = takes.1
refused_same limit old new command (SameName b) takes = takes.1
refused_same limit old new command (Cycle path) takes = takes.1
refused_same limit old new command BundlesFull takes = takes.1
refused_same limit old new command ComponentsFull takes = takes.1
refused_same limit old new command ServicesFull takes = takes.1
refused_same limit old new command ConfigurationsFull takes = takes.1
refused_same limit old new command ListenersFull takes = takes.1
refused_same limit old new command (NoService s) takes = takes.1
refused_same limit old new command (NotOwner b) takes = takes.1
refused_same limit old new command NotUsing takes = takes.1
refused_same limit old new command (NoListener l) takes = takes.1
refused_same limit old new command NoConfiguration takes = takes.1
refused_same limit old new command BadPid takes = takes.1
refused_same limit old new command FactoryClash takes = takes.1
refused_same limit old new command (ActivationFailed i) takes = takes.1
refused_same limit old new command (ActivationNoMemory i) takes = takes.1
refused_same limit old new command JournalFull takes = takes.1
refused_same limit old new command OutOfMemory takes = takes.1

-- ---- the owners beside it

module _ (owner : ℕ) (old new : List (Entry Step)) (owners : List ℕ) (same : length owners ≡ length old) where
  owners_same : new ≡ old → owners_up_to (length new) owner owners ≡ owners
  owners_same stays = up_to_same (length new) owner owners (ap length stays ∙ sym same)

  longer : (entry : Entry Step) → new ≡ old ++ entry ∷ [] → length new ≡ length owners + 1
  longer entry grew = let long : length new ≡ length old + 1 = ap length grew ∙ length-append old (entry ∷ []) in omega (arith, long, same)

  owners_more : (entry : Entry Step) → new ≡ old ++ entry ∷ [] → owners_up_to (length new) owner owners ≡ owners ++ owner ∷ []
  owners_more entry grew = up_to_more (length new) owner owners (longer entry grew)

  -- as many owners as entries
  pub as_many : GrowsByOne old new → length (owners_up_to (length new) owner owners) ≡ length new
  as_many (inl stays) = ap length (owners_same stays) ∙ same ∙ sym (ap length stays)
  as_many (inr (entry, grew)) = ap length (owners_more entry grew) ∙ length-append owners (owner ∷ []) ∙ sym (longer entry grew)

-- ---- what is appended

module _ {O : Type 0} (owner : ℕ) (before after : OwnedView O) where
  pub appends_none : after.core.journal ≡ before.core.journal → after.owners ≡ before.owners → AppendsOwned owner before after
  appends_none journal owners = record {
    entries = [];
    journal = journal ∙ sym (append-nil before.core.journal);
    log = ap (λ os. owned os after.core.journal) owners ∙ ap (λ es. owned before.owners es) journal ∙ sym (append-nil (owned before.owners before.core.journal));
  }

  appends_one : length before.owners ≡ length before.core.journal → (entry : Entry Step) → after.core.journal ≡ before.core.journal ++ entry ∷ [] → after.owners ≡ before.owners ++ owner ∷ [] → AppendsOwned owner before after
  appends_one same entry journal owners = record {
    entries = entry ∷ [];
    journal = journal;
    log = ap (λ os. owned os after.core.journal) owners ∙ ap (λ es. owned (before.owners ++ owner ∷ []) es) journal ∙ owned_more before.owners before.core.journal owner entry same;
  }

  pub appends_for : length before.owners ≡ length before.core.journal → after.owners ≡ owners_up_to (length after.core.journal) owner before.owners → GrowsByOne before.core.journal after.core.journal → AppendsOwned owner before after
  appends_for same owners (inl stays) = appends_none stays (owners ∙ owners_same owner before.core.journal after.core.journal before.owners same stays)
  appends_for same owners (inr (entry, grew)) = appends_one same entry grew (owners ∙ owners_more owner before.core.journal after.core.journal before.owners same entry grew)
