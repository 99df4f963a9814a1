-- What the gateway's components refuse. OSGi Compendium 8, section 112.5 (component life cycle) names the callbacks; the rest is our own.
use Rattle.std.specs.Prelude.{ℕ, List, [], codes, Bool, true, false, ◌==◌, length, Option, Some, None}
use Rattle.std.specs.Option.{option_map_or}
use Rattle.prop_map.specs.declared.properties.Property.{Property}
use Rattle.prop_map.specs.declared.value.Value.{Value}
use Rattle.prop_map.specs.declared.value.Value.TheVariants.{Text}
use Rattle.prop_map.specs.Maps.{get}
use Rattle.kind_trait.specs.Meanings.{Told, Create, Activate, Modified}
use Rattle.gateway.specs.declared.classes.Class.{Class}
use Rattle.gateway.specs.declared.classes.Class.TheVariants.{Thermometer, Hygrometer, Aggregator, Store, Page}
use Rattle.gateway.specs.Classes.{class_of}

-- a property's text, empty where it has none
abbrev pub text_in : Option Value → List ℕ
text_in (Some (Text text)) = text
text_in _ = []

-- the text of a property, empty where it has none
abbrev pub text_at : List Property → List ℕ → List ℕ
text_at properties key = text_in (get properties key)

-- the text property without which a class doesn't work
abbrev pub needed_key : Class → Option (List ℕ)
needed_key Thermometer = Some (codes "reading")
needed_key Hygrometer = Some (codes "reading")
needed_key Aggregator = None
needed_key Store = Some (codes "folder")
needed_key Page = None

-- the text that the class needs is missing or empty
abbrev pub lacks_text : Class → List Property → Bool
lacks_text class properties = option_map_or (λ key. length (text_at properties key) == 0) (needed_key class) false

-- A Create is refused where the class isn't one of the gateway's. An Activate and a Modified are refused where the text
-- that the class needs is missing. Nothing else is refused.
abbrev pub refuses_told : List ℕ → List Property → Told → Bool
refuses_told name properties Create = option_map_or (λ class. false) (class_of name) true
refuses_told name properties Activate = option_map_or (λ class. lacks_text class properties) (class_of name) false
refuses_told name properties Modified = option_map_or (λ class. lacks_text class properties) (class_of name) false
refuses_told name properties _ = false
