use Rattle.std.proofs.Common.{◌≡◌, map, take}
use Rattle.ldap_filter.specs.Nodes.{tree_of}
use Rattle.ldap_filter.proofs.filter.+copying_nodes.Given as goal

abbrev pub invariant-nodes_copy-loop-node : goal.invariant-nodes_copy-loop-node
invariant-nodes_copy-loop-node l = map tree_of l.copied.items ≡ map tree_of (take l.node-index l.nodes)
