-- What the references of a component configuration need, by its properties.
use Rattle.std.specs.Prelude.{ℕ, ◌==◌, ◌&&◌, ◌++◌, List, [], ◌∷◌, map, Bool, true, false, Option, Some, None, is_none, is_some, codes, ℤ, pos, negsuc, nat_lt, option_and_then, if◌then◌else◌}
use Rattle.prop_map.specs.declared.properties.Property.{Property}
use Rattle.prop_map.specs.declared.reference_words.Cardinality.{Cardinality}
use Rattle.prop_map.specs.declared.reference_words.Cardinality.TheVariants.{ZeroOrOne, One, ZeroOrMore, OneOrMore}
use Rattle.prop_map.specs.declared.reference_words.Policy.TheVariants.{Dynamic}
use Rattle.prop_map.specs.declared.reference_words.PolicyOption.TheVariants.{Reluctant}
use Rattle.prop_map.specs.declared.value.Value.{Value}
use Rattle.prop_map.specs.declared.value.Value.TheVariants.{Text, Whole}
use Rattle.prop_map.specs.Maps.{get}
use Rattle.ldap_filter.specs.Texts.{filter_of}
use Rattle.ldap_filter.specs.Trees.{Tree}
use Rattle.component_dto.specs.declared.description.Description.{Description}
use Rattle.component_dto.specs.declared.description.Reference.{Reference}
use Rattle.reference_match.specs.declared.need.Need.{Need}

-- Targets: OSGi Compendium 8, chapter 112, target properties (`<reference>.target`).

abbrev pub target_key : List ℕ → List ℕ
target_key name = name ++ codes ".target"

-- the filter that a target is: none without a target
abbrev pub filter_in : Option Value → Option Tree
filter_in (Some (Text t)) = filter_of t
filter_in _ = None

-- it is a target that is no filter
abbrev pub is_no_filter : Option Value → Bool
is_no_filter None = false
is_no_filter (Some (Text t)) = is_none (filter_of t)
is_no_filter (Some _) = true

-- Minimum: OSGi Compendium 8, chapter 112, minimum cardinality properties (`<reference>.cardinality.minimum`). That it counts as a whole
-- number alone is our own.

abbrev pub minimum_key : List ℕ → List ℕ
minimum_key name = name ++ codes ".cardinality.minimum"

-- how many services a cardinality asks for at least
abbrev pub least : Cardinality → ℕ
least ZeroOrOne = 0
least One = 1
least ZeroOrMore = 0
least OneOrMore = 1

-- how many it is where the property asks for this many: no fewer than the cardinality asks for, and no more than it takes
abbrev pub raised : Cardinality → ℕ → ℕ
raised ZeroOrOne n = if n == 1 then 1 else 0
raised One n = 1
raised ZeroOrMore n = n
raised OneOrMore n = if nat_lt 1 n then n else 1

-- the minimum of a reference: a value that is no whole number from 0 on is ignored
abbrev pub minimum_in : Cardinality → Option Value → ℕ
minimum_in cardinality (Some (Whole (pos n))) = raised cardinality n
minimum_in cardinality _ = least cardinality

-- what a reference needs
abbrev pub need_of : List Property → Reference → Need
need_of properties r = let target = get properties (target_key r.name) in record {
  interface = r.interface_name;
  filter = filter_in target;
  none = is_no_filter target;
  cardinality = r.cardinality;
  policy = r.policy;
  option = r.policy_option;
  minimum = minimum_in r.cardinality (get properties (minimum_key r.name));
  direct_only = false;
}

-- The implicit reference on the satisfying condition: OSGi Compendium 8, chapter 112, satisfying condition. That just a service without a
-- component behind it meets it is our own.

abbrev pub condition_name : List ℕ
condition_name = codes "osgi.ds.satisfying.condition"

abbrev pub condition_interface : List ℕ
condition_interface = codes "org.osgi.service.condition.Condition"

abbrev pub condition_target : List ℕ
condition_target = codes "(osgi.condition.id=true)"

abbrev pub implicit_need : List Property → Need
implicit_need properties = let target = get properties (target_key condition_name) in record {
  interface = condition_interface;
  filter = filter_in target;
  none = is_no_filter target;
  cardinality = One;
  policy = Dynamic;
  option = Reluctant;
  minimum = minimum_in One (get properties (minimum_key condition_name));
  direct_only = true;
}

-- what these references need, the implicit one last where it is there
abbrev pub needs_with : Bool → List Reference → List Property → List Need
needs_with implicit references properties = map (need_of properties) references ++ (if implicit then implicit_need properties ∷ [] else [])

-- what the references of a description need
abbrev pub needs_of : Description → List Property → List Need
needs_of d properties = needs_with d.implicit d.references properties
