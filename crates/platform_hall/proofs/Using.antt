-- Gets by a token and their releases leave turns and objects alone, and keep a journal legal.
use Rattle.std.proofs.Common.{◌≡◌, ◌⊎◌, ◌||◌, ℕ, List, ap, sym, ◌∙◌, subst, true, false, inl, inr, Ok, Err}
use Rattle.std.specs.Prelude.{Bool, IfOk, OnErr, Result}
use Rattle.std.specs.List.{list_any}
use Rattle.journal_core.specs.declared.entry.Entry.{Entry}
use Rattle.scr_world.specs.Calls.{EndsUse, Gets, Grown, world_at}
use Rattle.scr_world.specs.Instances.{has_turn}
use Rattle.scr_world.specs.declared.instance.Instance.{Instance}
use Rattle.scr_world.specs.declared.marks.Token.{Token}
use Rattle.scr_world.specs.declared.reply.CoreFault.{CoreFault}
use Rattle.scr_world.specs.declared.reply.CoreFault.TheVariants.{NoBundle, NoComponent, WrongState, Stopping, SameName, Cycle, BundlesFull, ComponentsFull, ServicesFull, ConfigurationsFull, ListenersFull, NoService, NotOwner, NotUsing, NoListener, NoConfiguration, BadPid, FactoryClash, ActivationFailed, ActivationNoMemory, JournalFull, OutOfMemory}
use Rattle.scr_world.specs.declared.step.Step.{Step}
use Rattle.scr_world.specs.declared.step.Step.TheVariants.{Got, Released}
use Rattle.scr_world.specs.declared.world.World.{World}
use Rattle.platform_hall.proofs.Growing.{Grows, grown_grows, grows_none}
use Rattle.platform_hall.proofs.Starts.{made_for}
use Rattle.platform_hall.proofs.Steps.{IsAfter, grown_after}
use Rattle.platform_hall.proofs.Stops.{IsAlike, alike_itself}

got_alike : (w now : World) (bundle service : ℕ) → IsAfter w (Got bundle service) now → IsAlike w now
got_alike w now bundle service grew = record {
  under_way = λ n. ap (λ (i : Instance). has_turn n i || list_any (has_turn n) now.instances) grew.whiteboard
      ∙ ap (λ (is : List Instance). has_turn n w.whiteboard || list_any (has_turn n) is) grew.instances;
  objects = λ n. ap (list_any (made_for n)) grew.instances;
}

released_alike : (w now : World) (place : ℕ) → IsAfter w (Released place) now → IsAlike w now
released_alike w now place grew = record {
  under_way = λ n. ap (λ (i : Instance). has_turn n i || list_any (has_turn n) now.instances) grew.whiteboard
      ∙ ap (λ (is : List Instance). has_turn n w.whiteboard || list_any (has_turn n) is) grew.instances;
  objects = λ n. ap (list_any (made_for n)) grew.instances;
}

module _ (limit : ℕ) (old new : List (Entry Step)) where
  same_alike : new ≡ old → IsAlike (world_at old) (world_at new)
  same_alike same = subst (λ (j : List (Entry Step)). IsAlike (world_at old) (world_at j)) (sym same) (alike_itself (world_at old))

  -- the journal is as it was, or has grown by the get
  gets_step : (bundle service : ℕ) (answer : Result Token CoreFault) → Gets limit old bundle service answer new → (new ≡ old) ⊎ Grown limit old (Got bundle service) new
  gets_step bundle service (Ok note) gets = inr gets.1
  gets_step bundle service (Err (NoBundle b)) gets = inl gets.1
  gets_step bundle service (Err (NoComponent n)) gets = inl gets.1
  gets_step bundle service (Err (WrongState s)) gets = inl gets.1
  gets_step bundle service (Err (Stopping i)) gets = inl gets.1
  gets_step bundle service (Err (SameName b)) gets = inl gets.1
  gets_step bundle service (Err (Cycle path)) gets = inl gets.1
  gets_step bundle service (Err BundlesFull) gets = inl gets.1
  gets_step bundle service (Err ComponentsFull) gets = inl gets.1
  gets_step bundle service (Err ServicesFull) gets = inl gets.1
  gets_step bundle service (Err ConfigurationsFull) gets = inl gets.1
  gets_step bundle service (Err ListenersFull) gets = inl gets.1
  gets_step bundle service (Err (NoService s)) gets = inl gets.1
  gets_step bundle service (Err (NotOwner b)) gets = inl gets.1
  gets_step bundle service (Err NotUsing) gets = inl gets.1
  gets_step bundle service (Err (NoListener l)) gets = inl gets.1
  gets_step bundle service (Err NoConfiguration) gets = inl gets.1
  gets_step bundle service (Err BadPid) gets = inl gets.1
  gets_step bundle service (Err FactoryClash) gets = inl gets.1
  gets_step bundle service (Err (ActivationFailed i)) gets = inl gets.1
  gets_step bundle service (Err (ActivationNoMemory i)) gets = inl gets.1
  gets_step bundle service (Err JournalFull) gets = inl gets.2
  gets_step bundle service (Err OutOfMemory) gets = inl gets.2

  got_step_alike : (bundle service : ℕ) → (new ≡ old) ⊎ Grown limit old (Got bundle service) new → IsAlike (world_at old) (world_at new)
  got_step_alike bundle service (inl same) = same_alike same
  got_step_alike bundle service (inr grown) = got_alike (world_at old) (world_at new) bundle service (grown_after limit old new (Got bundle service) grown)

  got_step_grows : (bundle service : ℕ) → (new ≡ old) ⊎ Grown limit old (Got bundle service) new → Grows old new
  got_step_grows bundle service (inl same) = grows_none old new same
  got_step_grows bundle service (inr grown) = grown_grows limit old (Got bundle service) new grown

  pub gets_alike : (bundle service : ℕ) (answer : Result Token CoreFault) → Gets limit old bundle service answer new → IsAlike (world_at old) (world_at new)
  gets_alike bundle service answer gets = got_step_alike bundle service (gets_step bundle service answer gets)

  pub gets_grow : (bundle service : ℕ) (answer : Result Token CoreFault) → Gets limit old bundle service answer new → Grows old new
  gets_grow bundle service answer gets = got_step_grows bundle service (gets_step bundle service answer gets)

  pub ends_use_alike : (note : Token) (stood : Bool) → EndsUse limit old note stood new → IsAlike (world_at old) (world_at new)
  ends_use_alike note true ends = released_alike (world_at old) (world_at new) note.place (grown_after limit old new (Released note.place) ends.1)
  ends_use_alike note false ends = same_alike ends.1

  -- released, or not for want of memory
  pub released_or_not : {E : Type 0} (note : Token) (result : Result Bool E) → IfOk result (λ stood. EndsUse limit old note stood new) → OnErr result (new ≡ old) → IsAlike (world_at old) (world_at new)
  released_or_not note (Ok stood) ended same = ends_use_alike note stood ended
  released_or_not note (Err e) ended same = same_alike same

  ends_use_grows : (note : Token) (stood : Bool) → EndsUse limit old note stood new → Grows old new
  ends_use_grows note true ends = grown_grows limit old (Released note.place) new ends.1
  ends_use_grows note false ends = grows_none old new ends.1

  pub released_grows : {E : Type 0} (note : Token) (result : Result Bool E) → IfOk result (λ stood. EndsUse limit old note stood new) → OnErr result (new ≡ old) → Grows old new
  released_grows note (Ok stood) ended same = ends_use_grows note stood ended
  released_grows note (Err e) ended same = grows_none old new same
