-- The state of an empty journal.
use Rattle.std.proofs.Common.{◌≡◌, ◌≤◌, ◌∙◌, ℕ, [], ap, refl, sym}
use Rattle.journal_core.specs.Rooms.{empty_journal}
use Rattle.prop_map.specs.Words.{has}
use Rattle.scr_laws.proofs.Reserved.{first_reserved}
use Rattle.scr_state.specs.Keeps.{Keeps}
use Rattle.scr_state.specs.declared.state.State.{State}
use Rattle.scr_world.specs.Levels.{levels_of}
use Rattle.scr_world.specs.Lists.{world_of}
use Rattle.scr_world.specs.Room.{reserved}
use Rattle.scr_world.specs.Tables.{descriptions_of}
use Rattle.scr_world.specs.Worlds.{empty_world, satisfied_in}
use Rattle.scr_world.specs.declared.world.World.{World}

pub first_world : world_of [] ≡ empty_world
unfolding world_of
first_world = refl

none_satisfied : satisfied_in empty_world ≡ []
unfolding satisfied_in
none_satisfied = refl

pub empty_kept : (s : State) → s.world ≡ empty_world → s.descriptions ≡ [] → s.levels ≡ [] → s.satisfied ≡ [] → (limit : ℕ) → limit ≤ 4194304 → Keeps (empty_journal limit) s
empty_kept s world descriptions levels satisfied limit small = record {
  world = world ∙ sym first_world;
  descriptions = descriptions ∙ sym (ap (λ (w : World). descriptions_of w.documents) world);
  levels = levels ∙ sym (ap levels_of descriptions);
  satisfied = λ number. ap (λ ns. has ns number) (satisfied ∙ sym none_satisfied) ∙ ap (λ (w : World). has (satisfied_in w) number) (sym world);
  reserved = sym first_reserved ∙ ap reserved (first_world ∙ sym world);
  legal = tt;
  small = small;
}
