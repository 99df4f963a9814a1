-- The report of a component configuration, as JSON. Its members are those of OSGi Compendium 8, chapter 112, "ComponentConfigurationDTO",
-- "SatisfiedReferenceDTO" and "UnsatisfiedReferenceDTO"; that services and failures are told by their numbers is our own.
use Rattle.std.specs.Prelude.{ℕ, List, Option, Some, None, codes, filter, fold, map, not}
use Rattle.serde_json.specs.Data.{Data, null, boolean, number, string, array, object, unsigned, Members, no_members, member, put}
use Rattle.serde_json.specs.Find.{of_integer}
use Rattle.serde_json.specs.View.{items_of}
use Rattle.prop_map.specs.declared.properties.Property.{Property}
use Rattle.prop_map.specs.declared.value.Value.{Value}
use Rattle.prop_map.specs.declared.value.Value.TheVariants.{Text, Whole, Flag, Texts, Wholes, Flags}
use Rattle.scr_readers.specs.declared.view.ComponentView.{ComponentView}
use Rattle.scr_readers.specs.declared.view.ReferenceState.{ReferenceState}

abbrev pub whole_number : ℕ → Data
whole_number n = number (unsigned n)

abbrev pub list_of : List Data → Data
list_of ds = array (items_of ds)

abbrev pub numbers : List ℕ → Data
numbers ns = list_of (map whole_number ns)

abbrev pub number_or_null : Option ℕ → Data
number_or_null None = null
number_or_null (Some n) = whole_number n

abbrev pub text_or_null : Option (List ℕ) → Data
text_or_null None = null
text_or_null (Some t) = string t

-- the value of a property
abbrev pub value_data : Value → Data
value_data (Text t) = string t
value_data (Whole n) = number (of_integer n)
value_data (Flag b) = boolean b
value_data (Texts ts) = list_of (map string ts)
value_data (Wholes ns) = list_of (map (λ n. number (of_integer n)) ns)
value_data (Flags bs) = list_of (map boolean bs)

-- properties under their spellings: each is put where its key belongs in byte order
abbrev pub property_members : List Property → Members
property_members properties = fold (λ ms (p : Property). put p.key (value_data p.value) ms) no_members properties

abbrev pub satisfied_reference : ReferenceState → Data
satisfied_reference r = object (member (codes "boundServices") (numbers r.bound) (member (codes "name") (string r.name) (member (codes "target") (text_or_null r.target) no_members)))

abbrev pub unsatisfied_reference : ReferenceState → Data
unsatisfied_reference r = object (member (codes "name") (string r.name) (member (codes "target") (text_or_null r.target) (member (codes "targetServices") (numbers r.targets) no_members)))

abbrev pub satisfied_ones : List ReferenceState → Data
satisfied_ones rs = list_of (map satisfied_reference (filter (λ (r : ReferenceState). r.satisfied) rs))

abbrev pub unsatisfied_ones : List ReferenceState → Data
unsatisfied_ones rs = list_of (map unsatisfied_reference (filter (λ (r : ReferenceState). not r.satisfied) rs))

-- the report of the component configuration of a number
abbrev pub report_data : ℕ → ComponentView → Data
report_data id v = object (
    member (codes "bundle") (whole_number v.bundle) (
    member (codes "failure") (number_or_null v.failure) (
    member (codes "id") (whole_number id) (
    member (codes "name") (string v.name) (
    member (codes "properties") (object (property_members v.properties)) (
    member (codes "satisfiedReferences") (satisfied_ones v.references) (
    member (codes "state") (whole_number v.state) (
    member (codes "unsatisfiedReferences") (unsatisfied_ones v.references) no_members))))))))
