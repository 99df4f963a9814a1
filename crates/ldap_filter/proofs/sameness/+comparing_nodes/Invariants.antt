use Rattle.std.proofs.Common.{◌≡◌, ◌≤◌, map, drop, length}
use Rattle.ldap_filter.specs.Nodes.{tree_of}
use Rattle.ldap_filter.specs.Sameness.{same_trees}
use Rattle.ldap_filter.specs.Trees.{trees_of}
use Rattle.ldap_filter.proofs.sameness.+comparing_nodes.Given as goal

abbrev pub invariant-same_nodes-loop-place : goal.invariant-same_nodes-loop-place
invariant-same_nodes-loop-place l = (l.place ≤ length l.b) × (same_trees (trees_of (map tree_of (drop l.place l.a))) (trees_of (map tree_of (drop l.place l.b))) ≡ same_trees (trees_of (map tree_of l.a)) (trees_of (map tree_of l.b)))
