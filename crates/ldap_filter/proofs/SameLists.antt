-- Lists of filters that are alike up to the end of one.
use Rattle.std.proofs.Common.{◌≡◌, sym, ap, ◌∙◌, ℕ, ◌-◌, ◌≤◌, List, [], ◌∷◌, length, drop, arith, length-drop}
use Rattle.std.specs.Prelude.{map, nat_eq}
use Rattle.std.proofs.lemmas.Bool.{eq-eqb, ne_eqb}
use Rattle.std.proofs.lemmas.List.{drop_all}
use Rattle.ldap_filter.specs.declared.node.Node.{Node}
use Rattle.ldap_filter.specs.Nodes.{tree_of}
use Rattle.ldap_filter.specs.Sameness.{same_trees}
use Rattle.ldap_filter.specs.Trees.{trees_of, No_more}

pub alike_at_end : (as_ bs : List Node) (place : ℕ) → length as_ ≤ place → place ≤ length as_ → place ≤ length bs
    → nat_eq (length as_) (length bs) ≡ same_trees (trees_of (map tree_of (drop place as_))) (trees_of (map tree_of (drop place bs)))
alike_at_end as_ bs place done within inside =
    tail (drop place bs) (length-drop place bs) ∙ sym (ap (λ ns. same_trees (trees_of (map tree_of ns)) (trees_of (map tree_of (drop place bs)))) (drop_all place as_ done)) where
      tail : (rest : List Node) → length rest ≡ length bs - place → nat_eq (length as_) (length bs) ≡ same_trees No_more (trees_of (map tree_of rest))
      tail [] e = eq-eqb (length as_) (length bs) (omega (arith, e))
      tail (y ∷ ys) e = ne_eqb (length as_) (length bs) (λ same. omega (arith, e, same))
