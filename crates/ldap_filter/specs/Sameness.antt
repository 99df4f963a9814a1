-- When two filters are equal, as a test.
use Rattle.std.specs.Prelude.{◌≡◌, refl, Bool, true, false, ◌&&◌}
use mathlib.Core.Path.{sym, ap, ◌∙◌}
use Rattle.std.specs.Bool.{Decides}
use Rattle.std.specs.Cmp.{IsEquivalence, both_ways}
use Rattle.std.specs.Cmp.Lexicographic.{pointwise}
use Rattle.std.specs.Str.{bytes_eq}
use Rattle.std.proofs.lemmas.Bool.{false≢true}
use Rattle.std.proofs.lemmas.Bool.Decides.{Decides-and}
use Rattle.std.proofs.lemmas.Slice.Eq.{slice_eq-Decides, bytes_eq-Decides}
use Rattle.ldap_filter.specs.declared.comparison.Comparison.{Comparison}
use Rattle.ldap_filter.specs.declared.comparison.Comparison.TheVariants.{Equal, Like, AtLeast, AtMost}
use Rattle.ldap_filter.specs.Trees.{Tree, Every, Any, Not, Present, Compare, Parts, Trees, No_more, And_then}

abbrev pub same_comparison : Comparison → Comparison → Bool
same_comparison Equal Equal = true
same_comparison Like Like = true
same_comparison AtLeast AtLeast = true
same_comparison AtMost AtMost = true
same_comparison _ _ = false

abbrev mutual
  -- the filters are of one kind, and alike
  pub same_tree : Tree → Tree → Bool
  same_tree (Every a) (Every b) = same_trees a b
  same_tree (Any a) (Any b) = same_trees a b
  same_tree (Not a) (Not b) = same_tree a b
  same_tree (Present a) (Present b) = bytes_eq a b
  same_tree (Compare c a v) (Compare d b w) = same_comparison c d && (bytes_eq a b && bytes_eq v w)
  same_tree (Parts a ps) (Parts b qs) = bytes_eq a b && pointwise bytes_eq ps qs
  same_tree _ _ = false

  pub same_trees : Trees → Trees → Bool
  same_trees No_more No_more = true
  same_trees (And_then a as_) (And_then b bs) = same_tree a b && same_trees as_ bs
  same_trees _ _ = false

comparison_decides : (c d : Comparison) → Decides (same_comparison c d) (c ≡ d)
comparison_decides Equal Equal = (λ e. refl, λ e. refl)
comparison_decides Like Like = (λ e. refl, λ e. refl)
comparison_decides AtLeast AtLeast = (λ e. refl, λ e. refl)
comparison_decides AtMost AtMost = (λ e. refl, λ e. refl)
comparison_decides _ _ = (λ e. absurd (false≢true e), λ e. cc)

on : {A B : Type 0} (f : A → B) (a b : A) (r : Bool) → ((f a ≡ f b) → a ≡ b) → Decides r (a ≡ b) → Decides r (f a ≡ f b)
on f a b r back d = (λ e. ap f (d.0 e), λ e. d.1 (back e))

-- both parts are alike
pairs : {A B C : Type 0} (f : A → B → C) (a b : A) (v w : B) (r : Bool) → (f a v ≡ f b w → (a ≡ b) × (v ≡ w)) → Decides r ((a ≡ b) × (v ≡ w)) → Decides r (f a v ≡ f b w)
pairs f a b v w r back d = (λ e. let h : (a ≡ b) × (v ≡ w) = d.0 e in ap (λ x. f x v) h.0 ∙ ap (λ y. f b y) h.1, λ e. d.1 (back e))

mutual
  -- the test of filters tells equality
  pub tree_decides : (a b : Tree) → Decides (same_tree a b) (a ≡ b)
  tree_decides (Every a) (Every b) = on (λ x. Every x) a b (same_trees a b) (λ e. cc) (trees_decide a b)
  tree_decides (Any a) (Any b) = on (λ x. Any x) a b (same_trees a b) (λ e. cc) (trees_decide a b)
  tree_decides (Not a) (Not b) = on (λ x. Not x) a b (same_tree a b) (λ e. cc) (tree_decides a b)
  tree_decides (Present a) (Present b) = on (λ x. Present x) a b (bytes_eq a b) (λ e. cc) (bytes_eq-Decides a b)
  tree_decides (Compare c a v) (Compare d b w) =
      let inner : Decides (bytes_eq a b && bytes_eq v w) ((a ≡ b) × (v ≡ w)) = Decides-and (bytes_eq a b) (bytes_eq v w) (bytes_eq-Decides a b) (bytes_eq-Decides v w) in
      let all : Decides (same_comparison c d && (bytes_eq a b && bytes_eq v w)) ((c ≡ d) × ((a ≡ b) × (v ≡ w))) = Decides-and (same_comparison c d) (bytes_eq a b && bytes_eq v w) (comparison_decides c d) inner in
      (λ e. let h : (c ≡ d) × ((a ≡ b) × (v ≡ w)) = all.0 e in ap (λ x. Compare x a v) h.0 ∙ ap (λ x. Compare d x v) h.1.0 ∙ ap (λ x. Compare d b x) h.1.1, λ e. all.1 (cc, (cc, cc)))
  tree_decides (Parts a ps) (Parts b qs) = pairs (λ x y. Parts x y) a b ps qs (bytes_eq a b && pointwise bytes_eq ps qs) (λ e. (cc, cc))
      (Decides-and (bytes_eq a b) (pointwise bytes_eq ps qs) (bytes_eq-Decides a b) (slice_eq-Decides bytes_eq-Decides ps qs (pointwise bytes_eq ps qs) refl))
  tree_decides _ _ = (λ e. absurd (false≢true e), λ e. cc)

  pub trees_decide : (a b : Trees) → Decides (same_trees a b) (a ≡ b)
  trees_decide No_more No_more = (λ e. refl, λ e. refl)
  trees_decide (And_then a as_) (And_then b bs) = pairs (λ x y. And_then x y) a b as_ bs (same_tree a b && same_trees as_ bs) (λ e. (cc, cc))
      (Decides-and (same_tree a b) (same_trees as_ bs) (tree_decides a b) (trees_decide as_ bs))
  trees_decide _ _ = (λ e. absurd (false≢true e), λ e. cc)

pub tree_equiv : IsEquivalence same_tree
tree_equiv = record {
  refl = λ x. (tree_decides x x).1 refl;
  symm = λ x y. both_ways (same_tree x y) (same_tree y x) (λ e. (tree_decides y x).1 (sym ((tree_decides x y).0 e))) (λ e. (tree_decides x y).1 (sym ((tree_decides y x).0 e)));
  congr = λ x y z e. ap (λ w. same_tree w z) ((tree_decides x y).0 e);
}
