use Rattle.std.proofs.Common.{◌≡◌, map, drop}
use Rattle.bundle_wiring.specs.Versioned.{every_versioned, some_versioned}
use Rattle.ldap_filter.specs.Nodes.{tree_of}
use Rattle.ldap_filter.specs.Trees.{trees_of}
use Rattle.bundle_wiring.proofs.matching.+versioned_nodes.Given as goal

abbrev pub invariant-every_matches-loop-node : goal.invariant-every_matches-loop-node
invariant-every_matches-loop-node l = every_versioned (trees_of (map tree_of (drop l.node-index l.nodes))) l.properties l.versions ≡ every_versioned (trees_of (map tree_of l.nodes)) l.properties l.versions

abbrev pub invariant-some_matches-loop-node : goal.invariant-some_matches-loop-node
invariant-some_matches-loop-node l = some_versioned (trees_of (map tree_of (drop l.node-index l.nodes))) l.properties l.versions ≡ some_versioned (trees_of (map tree_of l.nodes)) l.properties l.versions
