use Rattle.std.proofs.Common.{◌≡◌, map, drop}
use Rattle.ldap_filter.specs.Matching.{match_all, match_one}
use Rattle.ldap_filter.specs.Nodes.{tree_of}
use Rattle.ldap_filter.specs.Trees.{trees_of}
use Rattle.ldap_filter.proofs.filter.+matching_nodes.Given as goal

abbrev pub invariant-all_match-loop-node : goal.invariant-all_match-loop-node
invariant-all_match-loop-node l = match_all (trees_of (map tree_of (drop l.node-index l.nodes))) l.properties ≡ match_all (trees_of (map tree_of l.nodes)) l.properties

abbrev pub invariant-one_matches-loop-node : goal.invariant-one_matches-loop-node
invariant-one_matches-loop-node l = match_one (trees_of (map tree_of (drop l.node-index l.nodes))) l.properties ≡ match_one (trees_of (map tree_of l.nodes)) l.properties
