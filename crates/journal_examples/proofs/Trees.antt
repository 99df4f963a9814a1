-- The filters of examples by their texts.
use Rattle.std.specs.Prelude.{ℕ, List, unwrap_or}
use Rattle.ldap_filter.specs.Texts.{filter_of}
use Rattle.ldap_filter.specs.Trees.{Any, No_more, Tree}

-- the filter that a text is, or one that no service matches
abbrev pub tree_or_none : List ℕ → Tree
tree_or_none text = unwrap_or (filter_of text) (Any No_more)
