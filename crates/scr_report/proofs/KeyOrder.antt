-- The keys of a report stand in byte order at every level.
use Rattle.std.proofs.Common.{◌≡◌, ◌∙◌, ap, refl, ℕ, List, [], ◌∷◌, map, fold, Option, Some, None, Ordering, Less, Equal, Greater, nat_cmp}
use Rattle.std.proofs.lemmas.Cmp.{nat_list_cmp_total}
use Rattle.std.specs.Cmp.Lexicographic.{slice_cmp}
use Rattle.std.specs.Ordering.{match_ordering, ordering_reverse}
use Rattle.std.specs.Prelude.{filter, not}
use Rattle.prop_map.specs.declared.properties.Property.{Property}
use Rattle.prop_map.specs.declared.value.Value.{Value}
use Rattle.prop_map.specs.declared.value.Value.TheVariants.{Text, Whole, Flag, Texts, Wholes, Flags}
use Rattle.scr_readers.specs.declared.view.ComponentView.{ComponentView}
use Rattle.scr_readers.specs.declared.view.ReferenceState.{ReferenceState}
use Rattle.serde_json.specs.Data.{Data, boolean, number, string, Members, no_members, member, put}
use Rattle.serde_json.specs.Find.{of_integer}
use Rattle.serde_json.specs.View.{items_of}
use Rattle.scr_report.specs.KeyOrder.{AreInKeyOrder, ComesFirst, HasKeysInOrder, HaveKeysInOrder}
use Rattle.scr_report.specs.ReportData.{number_or_null, property_members, report_data, satisfied_reference, text_or_null, unsatisfied_reference, value_data, whole_number}

-- ---- a member that is put

behind : (key other : List ℕ) → slice_cmp nat_cmp key other ≡ Greater → slice_cmp nat_cmp other key ≡ Less
behind key other is = nat_list_cmp_total.antisymm other key ∙ ap ordering_reverse is

-- what comes before all keys, the new one too, still does
first_by : (o : Ordering) (before key : List ℕ) (d : Data) (other : List ℕ) (e : Data) (ms : Members) → slice_cmp nat_cmp before key ≡ Less → slice_cmp nat_cmp before other ≡ Less
    → ComesFirst before (match_ordering o (member key d (member other e ms)) (member other d ms) (member other e (put key d ms)))
first_by Less before key d other e ms new old = new
first_by Equal before key d other e ms new old = old
first_by Greater before key d other e ms new old = old

still_first : (before key : List ℕ) (d : Data) (ms : Members) → slice_cmp nat_cmp before key ≡ Less → ComesFirst before ms → ComesFirst before (put key d ms)
still_first before key d no_members new old = new
still_first before key d (member other e ms) new old = first_by (slice_cmp nat_cmp key other) before key d other e ms new old

put_by : (o : Ordering) (key : List ℕ) (d : Data) (other : List ℕ) (e : Data) (ms : Members) → slice_cmp nat_cmp key other ≡ o → HasKeysInOrder d → AreInKeyOrder (member other e ms) → AreInKeyOrder (put key d ms)
    → AreInKeyOrder (match_ordering o (member key d (member other e ms)) (member other d ms) (member other e (put key d ms)))
put_by Less key d other e ms is value order rest = (is, (value, order))
put_by Equal key d other e ms is value order rest = (order.0, (value, order.1.1))
put_by Greater key d other e ms is value order rest = (still_first other key d ms (behind key other is) order.0, (order.1.0, rest))

put_in_order : (key : List ℕ) (d : Data) (ms : Members) → HasKeysInOrder d → AreInKeyOrder ms → AreInKeyOrder (put key d ms)
put_in_order key d no_members value order = (tt, (value, tt))
put_in_order key d (member other e ms) value order = put_by (slice_cmp nat_cmp key other) key d other e ms refl value order (put_in_order key d ms value order.1.1)

-- ---- lists and properties

module _ {X : Type 0} (data_of : X → Data) (each : (x : X) → HasKeysInOrder (data_of x)) where
  list_in_order : (xs : List X) → HaveKeysInOrder (items_of (map data_of xs))
  list_in_order [] = tt
  list_in_order (x ∷ xs) = (each x, list_in_order xs)

value_in_order : (v : Value) → HasKeysInOrder (value_data v)
value_in_order (Text t) = tt
value_in_order (Whole n) = tt
value_in_order (Flag b) = tt
value_in_order (Texts ts) = list_in_order string (λ t. tt) ts
value_in_order (Wholes ns) = list_in_order (λ n. number (of_integer n)) (λ n. tt) ns
value_in_order (Flags bs) = list_in_order boolean (λ b. tt) bs

properties_from : (ms : Members) (ps : List Property) → AreInKeyOrder ms → AreInKeyOrder (fold (λ ns (p : Property). put p.key (value_data p.value) ns) ms ps)
properties_from ms [] order = order
properties_from ms (p ∷ ps) order = properties_from (put p.key (value_data p.value) ms) ps (put_in_order p.key (value_data p.value) ms (value_in_order p.value) order)

properties_in_order : (ps : List Property) → AreInKeyOrder (property_members ps)
properties_in_order ps = properties_from no_members ps tt

-- ---- the report

number_in_order : (n : Option ℕ) → HasKeysInOrder (number_or_null n)
number_in_order None = tt
number_in_order (Some n) = tt

text_in_order : (t : Option (List ℕ)) → HasKeysInOrder (text_or_null t)
text_in_order None = tt
text_in_order (Some t) = tt

numbers_in_order : (ns : List ℕ) → HaveKeysInOrder (items_of (map whole_number ns))
numbers_in_order ns = list_in_order whole_number (λ n. tt) ns

satisfied_in_order : (r : ReferenceState) → HasKeysInOrder (satisfied_reference r)
satisfied_in_order r = (refl, (numbers_in_order r.bound, (refl, (tt, (tt, (text_in_order r.target, tt))))))

unsatisfied_in_order : (r : ReferenceState) → HasKeysInOrder (unsatisfied_reference r)
unsatisfied_in_order r = (refl, (tt, (refl, (text_in_order r.target, (tt, (numbers_in_order r.targets, tt))))))

pub report_in_order : (id : ℕ) (v : ComponentView) → HasKeysInOrder (report_data id v)
report_in_order id v =
    let failure = number_in_order v.failure in
    let properties = properties_in_order v.properties in
    let satisfied = list_in_order satisfied_reference satisfied_in_order (filter (λ (r : ReferenceState). r.satisfied) v.references) in
    let unsatisfied = list_in_order unsatisfied_reference unsatisfied_in_order (filter (λ (r : ReferenceState). not r.satisfied) v.references) in
    (refl, (tt, (refl, (failure, (refl, (tt, (refl, (tt, (refl, (properties, (refl, (satisfied, (refl, (tt, (tt, (unsatisfied, tt))))))))))))))))
