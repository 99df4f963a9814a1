-- The tree that a node in memory is.
use Rattle.ldap_filter.specs.declared.node.Node.{Node, fold-Node}
use Rattle.ldap_filter.specs.declared.node.Node.TheOpen.{Node-F}
use Rattle.ldap_filter.specs.Trees.{Tree, Every, Any, Not, Present, Compare, Parts, trees_of}

-- one level, with each node inside already seen as its tree
abbrev pub view_step : Node-F Tree → Tree
view_step (Node-F.Every nodes) = Every (trees_of nodes.items)
view_step (Node-F.Any nodes) = Any (trees_of nodes.items)
view_step (Node-F.Not node) = Not node.value
view_step (Node-F.Present attribute) = Present attribute
view_step (Node-F.Compare comparison attribute value) = Compare comparison attribute value
view_step (Node-F.Parts attribute parts) = Parts attribute parts

abbrev pub tree_of : Node → Tree
tree_of = fold-Node Tree view_step
