-- Events (OSGi Compendium 8, section 113.2).
use Rattle.std.specs.Prelude.{ℕ, List}
use Rattle.prop_map.specs.declared.properties.Property.{Property}

-- what contracts see of an event: its topic, and its properties
pub record EventView : Type 0 where
  pub topic : List ℕ
  pub properties : List Property
