-- What a component configuration sees from scratch, below its level, is as many services as it sees among the registered ones, for each of its needs.
use Rattle.std.proofs.Common.{◌≡◌, ℕ, suc, List, [], ◌∷◌, ap, sym, refl, cond, Bool, true, false, ◌&&◌, ◌||◌, inl, inr, ◌⊎◌, length, Some}
use Rattle.std.specs.Prelude.{filter, map, not, ◌==◌, find}
use Rattle.std.specs.List.{Contains}
use Rattle.std.specs.Option.{option_map_or}
use Rattle.std.proofs.lemmas.Bool.{and_parts, and_from, eqb-true, eq-eqb, both_ways}
use Rattle.component_dto.specs.declared.description.Description.{Description}
use Rattle.component_dto.specs.declared.description.Reference.{Reference}
use Rattle.component_dto.specs.TextLists.{has_text}
use Rattle.component_state.specs.declared.component.Component.{Component}
use Rattle.component_state.specs.declared.open_period.OpenPeriod.{OpenPeriod}
use Rattle.component_state.specs.Components.{are_numbered, numbers_of}
use Rattle.component_state.specs.Rows.{rows_of}
use Rattle.prop_map.specs.declared.properties.Property.{Property}
use Rattle.prop_map.specs.Words.{has}
use Rattle.reference_match.specs.declared.need.Need.{Need}
use Rattle.reference_match.specs.Needs.{implicit_need, need_of, needs_with}
use Rattle.reference_match.specs.Targets.{meets}
use Rattle.ldap_filter.specs.Matching.{matches}
use Rattle.service_registry.specs.declared.row.ServiceRow.{ServiceRow}
use Rattle.component_state.specs.Inside.Ready.{are_apart}
use Rattle.component_state.proofs.Apart.{in_cases, in_either, in_first, in_none, in_rest, one_of}

-- ---- tables by number

pub numbered_apart : (cs : List Component) → are_numbered cs ≡ true → are_apart (numbers_of cs) ≡ true
numbered_apart [] is = refl
numbered_apart (c ∷ cs) is = let parts = and_parts (not (has (numbers_of cs) c.number)) (are_numbered cs) is in
    and_from (not (has (numbers_of cs) c.number)) (are_apart (numbers_of cs)) parts.0 (numbered_apart cs parts.1)

module _ {X : Type 0} (key : X → ℕ) where
  -- the item of a number is found by it
  pub found_by : (xs : List X) → are_apart (map key xs) ≡ true → (x : X) → Contains xs x → find (λ y. key y == key x) xs ≡ Some x
  found_by [] apart x h = absurd (in_none x h)
  found_by (y ∷ ys) apart x h = go (key y == key x) refl (found_by ys parts.1 x)
    where
      parts : (not (has (map key ys) (key y)) ≡ true) × (are_apart (map key ys) ≡ true)
      parts = and_parts (not (has (map key ys) (key y))) (are_apart (map key ys)) apart

      go : (b : Bool) → (key y == key x) ≡ b → (Contains ys x → find (λ z. key z == key x) ys ≡ Some x) → cond b (Some y) (find (λ z. key z == key x) ys) ≡ Some x
      go true same later = ap Some (one_of key (y ∷ ys) apart y x (in_first y ys) h (eqb-true (key y) (key x) same))
      go false off later = elim (in_cases y ys x h) [
        | inl is ↦ absurd (both_ways (key y == key x) off (eq-eqb (key y) (key x) (ap key is)))
        | inr rest ↦ later rest
      ]

-- ---- needs

-- a need of a component configuration is that of the implicit reference, which takes direct services alone, or asks for an interface that it references
abbrev pub OfReferences : Description → Need → Type 0
OfReferences d n = (n.direct_only ≡ true) ⊎ ((r : Reference) × Contains d.references r × (n.interface ≡ r.interface_name))

of_map : (d : Description) (properties : List Property) (refs : List Reference) → ((r : Reference) → Contains refs r → Contains d.references r) → (n : Need) → Contains (map (need_of properties) refs) n → OfReferences d n
of_map d properties [] among n h = absurd (in_none n h)
of_map d properties (r ∷ rs) among n h = elim (in_cases (need_of properties r) (map (need_of properties) rs) n h) [
  | inl same ↦ inr (r, among r (in_first r rs), ap (λ (x : Need). x.interface) (sym same))
  | inr later ↦ of_map d properties rs (λ x k. among x (in_rest r rs x k)) n later
]

pub of_references : (d : Description) (properties : List Property) (n : Need) → Contains (needs_with d.implicit d.references properties) n → OfReferences d n
of_references d properties n h = elim (in_either (map (need_of properties) d.references) (cond d.implicit (implicit_need properties ∷ []) []) n h) [
  | inl own ↦ of_map d properties d.references (λ r k. k) n own
  | inr more ↦ go d.implicit more
]
  where
    go : (b : Bool) → Contains (cond b (implicit_need properties ∷ []) []) n → OfReferences d n
    go true k = elim (in_cases (implicit_need properties) [] n k) [
      | inl same ↦ inl (ap (λ (x : Need). x.direct_only) (sym same))
      | inr none ↦ absurd (in_none n none)
    ]
    go false k = absurd (in_none n k)

-- what meets a need has its interface; and is direct where the need asks for that
pub meets_interface : (n : Need) (r : ServiceRow) → meets n r ≡ true → has_text r.interfaces n.interface ≡ true
meets_interface n r is = (and_parts (has_text r.interfaces n.interface) ((not n.direct_only || r.direct) && (not n.none && option_map_or (λ tree. matches tree r.properties) n.filter true)) is).0

pub meets_direct : (n : Need) (r : ServiceRow) → r.direct ≡ false → meets n r ≡ true → n.direct_only ≡ false
meets_direct n r off is = go n.direct_only (and_parts (not n.direct_only || r.direct) (not n.none && option_map_or (λ tree. matches tree r.properties) n.filter true)
    (and_parts (has_text r.interfaces n.interface) ((not n.direct_only || r.direct) && (not n.none && option_map_or (λ tree. matches tree r.properties) n.filter true)) is).1).0
  where
    go : (b : Bool) → (not b || r.direct) ≡ true → b ≡ false
    go false h = refl
    go true h = absurd (both_ways r.direct off h)

-- what has no interfaces meets none
pub meets_none : (n : Need) (r : ServiceRow) → r.interfaces ≡ [] → meets n r ≡ false
meets_none n r is = rw (is) refl

-- ---- rows of open periods: those without a service don't count

pub rows_met : (n : Need) (open_ones : List OpenPeriod) → ((p : OpenPeriod) → Contains open_ones p → p.row.id ≡ 0 → p.row.interfaces ≡ []) → length (filter (meets n) (rows_of open_ones)) ≡ length (filter (λ (p : OpenPeriod). meets n p.row) open_ones)
rows_met n [] silent = refl
rows_met n (p ∷ ps) silent = go (p.row.id == 0) refl (meets n p.row) refl (rows_met n ps (λ q h. silent q (in_rest p ps q h)))
  where
    go : (z : Bool) → (p.row.id == 0) ≡ z → (m : Bool) → meets n p.row ≡ m → length (filter (meets n) (rows_of ps)) ≡ length (filter (λ (q : OpenPeriod). meets n q.row) ps)
        → length (filter (meets n) (cond (not z) (p.row ∷ rows_of ps) (rows_of ps))) ≡ length (cond m (p ∷ filter (λ (q : OpenPeriod). meets n q.row) ps) (filter (λ (q : OpenPeriod). meets n q.row) ps))
    go true none true is rest = absurd (both_ways (meets n p.row) (meets_none n p.row (silent p (in_first p ps) (eqb-true p.row.id 0 none))) is)
    go true none false is rest = rest
    go false some true is rest = rw (is) (ap suc rest)
    go false some false is rest = rw (is) rest
