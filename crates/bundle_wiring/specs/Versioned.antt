-- When a filter matches the attributes and the versions of an offer. OSGi Core 8, chapter 3 "Module Layer", "Filter Syntax" (3.2.7) and "Version" (3.2.5):
-- an attribute of the type Version is compared as a version, and of several values one has to pass.
use Rattle.std.specs.Prelude.{ℕ, ◌==◌, List, codes, length, ◌&&◌, ◌||◌, Bool, true, false, not, is_some, Option, Some, None, if◌then◌else◌}
use Rattle.std.specs.List.{list_any}
use Rattle.std.specs.Ordering.{is_eq, is_gt, is_lt}
use Rattle.std.specs.declared.cmp.Ordering.{Ordering}
use Rattle.ldap_filter.specs.Matching.{passes, value_compares, value_has_parts}
use Rattle.ldap_filter.specs.Trees.{Tree, Every, Any, Not, Present, Compare, Parts, Trees, No_more, And_then}
use Rattle.ldap_filter.specs.declared.comparison.Comparison.{Comparison}
use Rattle.ldap_filter.specs.declared.comparison.Comparison.TheVariants.{Equal, Like, AtLeast, AtMost}
use Rattle.osgi_version.specs.Versions.{version_cmp}
use Rattle.osgi_version.specs.declared.version.Version.{Version}
use Rattle.prop_map.specs.Keys.{same_key}
use Rattle.prop_map.specs.Maps.{get}
use Rattle.prop_map.specs.declared.properties.Property.{Property}
use Rattle.bundle_wiring.specs.Texts.{version_of}

-- how a version of the offer compares with the filter's
abbrev pub order_passes : Comparison → Ordering → Bool
order_passes Equal order = is_eq order
order_passes Like order = is_eq order
order_passes AtLeast order = not (is_lt order)
order_passes AtMost order = not (is_gt order)

-- no version compares with a text that is none
abbrev pub version_passes : Comparison → Version → Option Version → Bool
version_passes comparison version None = false
version_passes comparison version (Some value) = order_passes comparison (version_cmp version value)

-- one of the versions compares so
abbrev pub some_passes : Comparison → List Version → Option Version → Bool
some_passes comparison versions value = list_any (λ version. version_passes comparison version value) versions

abbrev pub is_like : Comparison → Bool
is_like Equal = false
is_like Like = true
is_like AtLeast = false
is_like AtMost = false

-- the attribute `version` under `=`, `>=` and `<=`; where it says no versions it is a text like any other
abbrev pub asks_version : Comparison → List ℕ → List Version → Bool
asks_version comparison attribute versions = (same_key (codes "version") attribute && not (is_like comparison)) && not (length versions == 0)

abbrev mutual
  -- the filter matches the attributes, with the versions for the attribute `version`
  pub matches_versioned : Tree → List Property → List Version → Bool
  matches_versioned (Every filters) properties versions = every_versioned filters properties versions
  matches_versioned (Any filters) properties versions = some_versioned filters properties versions
  matches_versioned (Not filter) properties versions = not (matches_versioned filter properties versions)
  matches_versioned (Present attribute) properties versions = is_some (get properties attribute)
  matches_versioned (Compare comparison attribute value) properties versions =
      if asks_version comparison attribute versions then some_passes comparison versions (version_of value) else passes (value_compares comparison value) (get properties attribute)
  matches_versioned (Parts attribute parts) properties versions = passes (value_has_parts parts) (get properties attribute)

  pub every_versioned : Trees → List Property → List Version → Bool
  every_versioned No_more properties versions = true
  every_versioned (And_then first others) properties versions = matches_versioned first properties versions && every_versioned others properties versions

  pub some_versioned : Trees → List Property → List Version → Bool
  some_versioned No_more properties versions = false
  some_versioned (And_then first others) properties versions = matches_versioned first properties versions || some_versioned others properties versions
