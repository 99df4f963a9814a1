-- A report has no float, so that its text is determined.
use Rattle.std.proofs.Common.{◌≡◌, ◌∙◌, ap, refl, ℕ, ℤ, pos, negsuc, List, [], ◌∷◌, map, fold, Option, Some, None, Ordering, Less, Equal, Greater, nat_cmp, Bool, true, false}
use Rattle.std.specs.Cmp.Lexicographic.{slice_cmp}
use Rattle.std.specs.Ordering.{match_ordering}
use Rattle.std.specs.Prelude.{◌||◌, filter, not}
use Rattle.prop_map.specs.declared.properties.Property.{Property}
use Rattle.prop_map.specs.declared.value.Value.{Value}
use Rattle.prop_map.specs.declared.value.Value.TheVariants.{Text, Whole, Flag, Texts, Wholes, Flags}
use Rattle.scr_readers.specs.declared.view.ComponentView.{ComponentView}
use Rattle.scr_readers.specs.declared.view.ReferenceState.{ReferenceState}
use Rattle.serde_json.specs.Data.{Data, boolean, number, object, string, Members, no_members, member, put}
use Rattle.serde_json.specs.Find.{of_integer}
use Rattle.serde_json.specs.View.{items_of}
use Rattle.serde_json.specs.Written.{has_float, items_have_float, members_have_float}
use Rattle.scr_report.specs.ReportData.{number_or_null, numbers, property_members, report_data, satisfied_ones, satisfied_reference, text_or_null, unsatisfied_ones, unsatisfied_reference, value_data, whole_number}

pub neither : (a b : Bool) → a ≡ false → b ≡ false → (a || b) ≡ false
neither a b first second = ap (λ x. x || b) first ∙ second

second_is : (a b : Bool) → (a || b) ≡ false → b ≡ false
second_is false b none = none
second_is true b none = cc

first_is : (a b : Bool) → (a || b) ≡ false → a ≡ false
first_is false b none = refl
first_is true b none = cc

-- ---- a member that is put

put_by : (o : Ordering) (key : List ℕ) (d : Data) (other : List ℕ) (e : Data) (ms : Members) → has_float d ≡ false → members_have_float (member other e ms) ≡ false → members_have_float (put key d ms) ≡ false
    → members_have_float (match_ordering o (member key d (member other e ms)) (member other d ms) (member other e (put key d ms))) ≡ false
put_by Less key d other e ms value none rest = neither (has_float d) (members_have_float (member other e ms)) value none
put_by Equal key d other e ms value none rest = neither (has_float d) (members_have_float ms) value (second_is (has_float e) (members_have_float ms) none)
put_by Greater key d other e ms value none rest = neither (has_float e) (members_have_float (put key d ms)) (first_is (has_float e) (members_have_float ms) none) rest

put_without : (key : List ℕ) (d : Data) (ms : Members) → has_float d ≡ false → members_have_float ms ≡ false → members_have_float (put key d ms) ≡ false
put_without key d no_members value none = neither (has_float d) false value refl
put_without key d (member other e ms) value none =
    put_by (slice_cmp nat_cmp key other) key d other e ms value none (put_without key d ms value (second_is (has_float e) (members_have_float ms) none))

-- ---- lists and properties

module _ {X : Type 0} (data_of : X → Data) (each : (x : X) → has_float (data_of x) ≡ false) where
  pub list_without : (xs : List X) → items_have_float (items_of (map data_of xs)) ≡ false
  list_without [] = refl
  list_without (x ∷ xs) = neither (has_float (data_of x)) (items_have_float (items_of (map data_of xs))) (each x) (list_without xs)

integer_without : (n : ℤ) → has_float (number (of_integer n)) ≡ false
integer_without (pos n) = refl
integer_without (negsuc n) = refl

value_without : (v : Value) → has_float (value_data v) ≡ false
value_without (Text t) = refl
value_without (Whole n) = integer_without n
value_without (Flag b) = refl
value_without (Texts ts) = list_without string (λ t. refl) ts
value_without (Wholes ns) = list_without (λ n. number (of_integer n)) integer_without ns
value_without (Flags bs) = list_without boolean (λ b. refl) bs

properties_from : (ms : Members) (ps : List Property) → members_have_float ms ≡ false → members_have_float (fold (λ ns (p : Property). put p.key (value_data p.value) ns) ms ps) ≡ false
properties_from ms [] none = none
properties_from ms (p ∷ ps) none = properties_from (put p.key (value_data p.value) ms) ps (put_without p.key (value_data p.value) ms (value_without p.value) none)

pub properties_without : (ps : List Property) → has_float (object (property_members ps)) ≡ false
properties_without ps = properties_from no_members ps refl

-- ---- the report

pub number_without : (n : Option ℕ) → has_float (number_or_null n) ≡ false
number_without None = refl
number_without (Some n) = refl

pub text_without : (t : Option (List ℕ)) → has_float (text_or_null t) ≡ false
text_without None = refl
text_without (Some t) = refl

pub numbers_without : (ns : List ℕ) → has_float (numbers ns) ≡ false
numbers_without ns = list_without whole_number (λ n. refl) ns

satisfied_without : (r : ReferenceState) → has_float (satisfied_reference r) ≡ false
satisfied_without r = neither (has_float (numbers r.bound)) _ (numbers_without r.bound) (neither (has_float (text_or_null r.target)) false (text_without r.target) refl)

unsatisfied_without : (r : ReferenceState) → has_float (unsatisfied_reference r) ≡ false
unsatisfied_without r = neither (has_float (text_or_null r.target)) _ (text_without r.target) (neither (has_float (numbers r.targets)) false (numbers_without r.targets) refl)

pub report_without : (id : ℕ) (v : ComponentView) → has_float (report_data id v) ≡ false
report_without id v =
    neither (has_float (number_or_null v.failure)) _ (number_without v.failure)
    (neither (members_have_float (property_members v.properties)) _ (properties_from no_members v.properties refl)
    (neither (has_float (satisfied_ones v.references)) _ (list_without satisfied_reference satisfied_without (filter (λ (r : ReferenceState). r.satisfied) v.references))
    (neither (has_float (unsatisfied_ones v.references)) false (list_without unsatisfied_reference unsatisfied_without (filter (λ (r : ReferenceState). not r.satisfied) v.references)) refl)))
