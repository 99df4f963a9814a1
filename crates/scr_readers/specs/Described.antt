-- The component configurations of a description. OSGi Compendium 8, chapter 112, "Component Configuration"; numbers and
-- the order are our own.
use Rattle.std.specs.Prelude.{ℕ, ◌==◌, ◌&&◌, List, Bool, filter}
use Rattle.component_state.specs.declared.component.Component.{Component}
use Rattle.component_state.specs.Components.{existing, numbers_of}
use Rattle.scr_world.specs.declared.world.World.{World}

-- it is one of the description at an index of a bundle's document
abbrev pub is_described : ℕ → ℕ → Component → Bool
is_described bundle index c = (c.bundle == bundle) && (c.index == index)

-- the numbers of those that haven't ceased, in order
abbrev pub described_numbers : World → ℕ → ℕ → List ℕ
described_numbers w bundle index = numbers_of (filter (is_described bundle index) (existing w.components))
