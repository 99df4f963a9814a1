-- The best of several offers is one of them, and none of them is better.
use Rattle.std.proofs.Common.{◌≡◌, refl, sym, ap, ◌∙◌, subst, ◌&&◌, Bool, true, false, List, [], ◌∷◌, Option, Some, None, inl, inr}
use Rattle.std.specs.Prelude.{not, if◌then◌else◌, IsTrue}
use Rattle.std.specs.List.{list_all}
use Rattle.std.specs.Cmp.{IsTotalOrder}
use Rattle.std.specs.Ordering.{is_lt, ordering_reverse}
use Rattle.std.specs.declared.cmp.Ordering.{Ordering}
use Rattle.std.specs.declared.cmp.Ordering.TheVariants.{Less, Equal, Greater}
use Rattle.std.proofs.lemmas.Cmp.{back_total, nat_cmp_total, nat_list_cmp_total, on_total, then_total}
use Rattle.osgi_version.specs.Versions.{version_cmp}
use Rattle.osgi_version.specs.declared.version.Version.{Version}
use Rattle.bundle_wiring.specs.Best.{IsBest}
use Rattle.bundle_wiring.specs.Resolution.{Placed, best, better_of, is_better, placed_cmp}

version_total : IsTotalOrder version_cmp
version_total =
    then_total (on_total (λ (v : Version). v.major) nat_cmp_total) (then_total (on_total (λ (v : Version). v.minor) nat_cmp_total)
    (then_total (on_total (λ (v : Version). v.micro) nat_cmp_total) (on_total (λ (v : Version). v.qualifier) nat_list_cmp_total)))

pub placed_total : IsTotalOrder placed_cmp
placed_total =
    then_total (on_total (λ (p : Placed). p.offer.version) (back_total version_total))
    (then_total (on_total (λ (p : Placed). p.to) nat_cmp_total) (on_total (λ (p : Placed). p.place) nat_cmp_total))

-- who isn't better than one that isn't better than a third, isn't better than the third
chain_at : (a b c : Placed) (p q r : Ordering) → placed_cmp a b ≡ p → placed_cmp b c ≡ q → placed_cmp a c ≡ r → is_lt p ≡ false → is_lt q ≡ false → is_lt r ≡ false
chain_at a b c p q Equal ep eq er hp hq = refl
chain_at a b c p q Greater ep eq er hp hq = refl
chain_at a b c Less q Less ep eq er hp hq = hp
chain_at a b c Equal q Less ep eq er hp hq =
    let less : q ≡ Less = sym eq ∙ (sym (placed_total.congr a b c ep) ∙ er) in
    sym (ap is_lt less) ∙ hq
chain_at a b c Greater q Less ep eq er hp hq =
    let back : placed_cmp b a ≡ Less = placed_total.antisymm b a ∙ ap ordering_reverse ep in
    let less : q ≡ Less = sym eq ∙ placed_total.trans b a c back er in
    sym (ap is_lt less) ∙ hq

chained : (a b c : Placed) → is_better a b ≡ false → is_better b c ≡ false → is_better a c ≡ false
chained a b c h k = chain_at a b c (placed_cmp a b) (placed_cmp b c) (placed_cmp a c) refl refl refl h k

other_way : (a b : Placed) (p q : Ordering) → placed_cmp a b ≡ p → placed_cmp b a ≡ q → is_lt p ≡ true → is_lt q ≡ false
other_way a b p Equal ep eq h = refl
other_way a b p Greater ep eq h = refl
other_way a b Less Less ep eq h = let no : Less ≡ Greater = sym eq ∙ (placed_total.antisymm b a ∙ ap ordering_reverse ep) in absurd (cc)
other_way a b Equal Less ep eq h = absurd (cc)
other_way a b Greater Less ep eq h = absurd (cc)

one_way : (a b : Placed) → is_better a b ≡ true → is_better b a ≡ false
one_way a b h = other_way a b (placed_cmp a b) (placed_cmp b a) refl refl h

not_itself : (a : Placed) → is_better a a ≡ false
not_itself a = by_answer (is_better a a) refl where
  by_answer : (t : Bool) → is_better a a ≡ t → t ≡ false
  by_answer true e = sym e ∙ one_way a a e
  by_answer false e = refl

and_both : (a b : Bool) → a ≡ false → b ≡ true → not a && b ≡ true
and_both true b h k = absurd (cc)
and_both false b h k = k

first_holds : (a b : Bool) → not a && b ≡ true → (a ≡ false) × (b ≡ true)
first_holds true b h = absurd (cc)
first_holds false b h = (refl, h)

none_of : (os : List Placed) (a b : Placed) → is_better a b ≡ false → IsTrue (list_all (λ o. not (is_better o a)) os) → IsTrue (list_all (λ o. not (is_better o b)) os)
none_of [] a b h k = refl
none_of (o ∷ os) a b h k =
    let parts = first_holds (is_better o a) (list_all (λ x. not (is_better x a)) os) k in
    and_both (is_better o b) (list_all (λ x. not (is_better x b)) os) (chained o a b parts.0 h) (none_of os a b h parts.1)

abbrev IsBestOf : List Placed → Option Placed → Type 0
IsBestOf offers None = offers ≡ []
IsBestOf offers (Some offer) = IsBest offers offer

chosen : (o q : Placed) (os : List Placed) (t : Bool) → is_better q o ≡ t → IsBest os q → IsBest (o ∷ os) (if t then q else o)
chosen o q os true e h = record { is_one = inr h.is_one; none_better = and_both (is_better o q) (list_all (λ x. not (is_better x q)) os) (one_way q o e) h.none_better }
chosen o q os false e h =
    record {
      is_one = inl refl;
      none_better = and_both (is_better o o) (list_all (λ x. not (is_better x o)) os) (not_itself o) (none_of os q o e h.none_better);
    }

step : (o : Placed) (os : List Placed) (b : Option Placed) → IsBestOf os b → IsBest (o ∷ os) (better_of o b)
step o os None h = record { is_one = inl refl; none_better = and_both (is_better o o) (list_all (λ x. not (is_better x o)) os) (not_itself o) (ap (λ xs. list_all (λ x. not (is_better x o)) xs) h) }
step o os (Some q) h = chosen o q os (is_better q o) refl h

best_is : (offers : List Placed) → IsBestOf offers (best offers)
best_is [] = refl
best_is (o ∷ os) = step o os (best os) (best_is os)

pub some_best : (offers : List Placed) (offer : Placed) → best offers ≡ Some offer → IsBest offers offer
some_best offers offer e = subst (IsBestOf offers) e (best_is offers)

pub no_best : (offers : List Placed) → best offers ≡ None → offers ≡ []
no_best offers e = subst (IsBestOf offers) e (best_is offers)
