-- Numbers that are sorted and then kept once each.
use Rattle.std.proofs.Common.{◌≡◌, ℕ, List, ap, sym, ◌∙◌, refl, arith, Bool, true, false, cond}
use Rattle.std.specs.Prelude.{◌==◌, [], nat_lt}
use Rattle.std.specs.Cmp.{nat_cmp_total}
use Rattle.std.specs.List.{dedup}
use Rattle.std.specs.List.Retain.{IsFiltered, DiffersFromLast}
use Rattle.std.specs.List.Sorted.{IsPermutation, IsSorted}
use Rattle.std.specs.Ordering.{is_lt, nat_cmp}
use Rattle.std.specs.declared.cmp.Ordering.TheVariants.{Less, Equal, Greater}
use Rattle.std.proofs.lemmas.Bool.{ltb-false}
use Rattle.std.proofs.lemmas.List.Filters.{dedup_is}
use Rattle.std.proofs.lemmas.List.Sorted.{ranks_by}
use Rattle.prop_map.specs.Words.{in_order}
use Rattle.service_registry.proofs.Sorting.{TellsApart, sorted_is_in_order}
use Rattle.scr_readers.proofs.StableOrder.{in_order_by_test}
use Rattle.script_shell.specs.Graphs.{each_by_number}

lower_by : (b c : Bool) → is_lt (cond b Less (cond c Equal Greater)) ≡ b
lower_by true c = refl
lower_by false true = refl
lower_by false false = refl

is_lower : (x y : ℕ) → is_lt (nat_cmp x y) ≡ nat_lt x y
is_lower x y = lower_by (nat_lt x y) (x == y)

lowest_first : TellsApart (λ (x y : ℕ). is_lt (nat_cmp x y))
lowest_first = record {
  order = ranks_by nat_cmp_total (λ n. n);
  apart = λ x y p q. omega (arith, ltb-false x y (sym (is_lower x y) ∙ p), ltb-false y x (sym (is_lower y x) ∙ q));
}

pub once_each : (given sorted kept : List ℕ) → IsPermutation given sorted → IsSorted nat_cmp sorted → IsFiltered (DiffersFromLast (λ (a b : ℕ). a == b)) [] sorted kept → kept ≡ each_by_number given
once_each given sorted kept moved rises filtered =
    dedup_is (λ (a b : ℕ). a == b) sorted kept filtered
    ∙ ap (dedup (λ (a b : ℕ). a == b)) (sorted_is_in_order (λ x y. is_lt (nat_cmp x y)) lowest_first given sorted moved rises
    ∙ in_order_by_test (λ x y. is_lt (nat_cmp x y)) nat_lt is_lower given)
