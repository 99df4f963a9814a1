-- Where services are added, each need is met by those that met it and by some of the new ones.
use Rattle.std.proofs.Common.{◌≡◌, ℕ, ◌+◌, List, [], ◌∷◌, ◌++◌, ap, sym, ◌∙◌, refl, subst, cond, arith, length, Bool, true, false, ◌&&◌, inl, inr, ◌⊎◌}
use Rattle.std.specs.Prelude.{filter, map, not, ◌==◌}
use Rattle.std.specs.List.{Contains}
use Rattle.std.proofs.lemmas.Bool.{both_ways, cases_Bool, le-leb, leb-true}
use Rattle.std.proofs.lemmas.List.{map-append}
use Rattle.std.proofs.lemmas.List.Elements.{filter-append}
use Rattle.component_state.specs.declared.open_period.OpenPeriod.{OpenPeriod}
use Rattle.component_state.specs.Rows.{rows_of}
use Rattle.component_state.proofs.Apart.{in_cases, in_first, in_left, in_none, in_rest, kept_was, key_in, keyed, length_over}
use Rattle.prop_map.specs.Words.{has, in_order, insert_by}
use Rattle.reference_match.specs.declared.need.Need.{Need}
use Rattle.reference_match.specs.Targets.{is_met, meets, targets}
use Rattle.scr_promises.proofs.TargetRows.{ordered_was}
use Rattle.scr_laws.proofs.Listed.{mapped_was, none_kept}
use Rattle.service_registry.specs.declared.row.ServiceRow.{ServiceRow}
use Rattle.service_registry.specs.Services.{best_first, better}

-- ---- an order leaves out nothing

module _ {X : Type 0} (before : X → X → Bool) where
  inserted_in : (x : X) (ys : List X) (z : X) → (x ≡ z) ⊎ Contains ys z → Contains (insert_by before x ys) z
  inserted_in x [] z (inl same) = subst (λ (v : X). Contains (x ∷ []) v) same (in_first x [])
  inserted_in x [] z (inr h) = absurd (in_none z h)
  inserted_in x (y ∷ ys) z either = go (before x y) (inserted_in x ys z) either
    where
      first : (either : (x ≡ z) ⊎ Contains (y ∷ ys) z) → Contains (x ∷ y ∷ ys) z
      first (inl same) = subst (λ (v : X). Contains (x ∷ y ∷ ys) v) same (in_first x (y ∷ ys))
      first (inr h) = in_rest x (y ∷ ys) z h

      later : ((x ≡ z) ⊎ Contains ys z → Contains (insert_by before x ys) z) → (x ≡ z) ⊎ Contains (y ∷ ys) z → Contains (y ∷ insert_by before x ys) z
      later rest (inl same) = in_rest y (insert_by before x ys) z (rest (inl same))
      later rest (inr h) = elim (in_cases y ys z h) [
        | inl same ↦ subst (λ (v : X). Contains (y ∷ insert_by before x ys) v) same (in_first y (insert_by before x ys))
        | inr there ↦ in_rest y (insert_by before x ys) z (rest (inr there))
      ]

      go : (b : Bool) → ((x ≡ z) ⊎ Contains ys z → Contains (insert_by before x ys) z) → (x ≡ z) ⊎ Contains (y ∷ ys) z → Contains (cond b (x ∷ y ∷ ys) (y ∷ insert_by before x ys)) z
      go true rest one = first one
      go false rest one = later rest one

  pub ordered_in : (xs : List X) (z : X) → Contains xs z → Contains (in_order before xs) z
  ordered_in [] z h = absurd (in_none z h)
  ordered_in (x ∷ xs) z h = elim (in_cases x xs z h) [
    | inl same ↦ inserted_in x (in_order before xs) z (inl same)
    | inr later ↦ inserted_in x (in_order before xs) z (inr (ordered_in xs z later))
  ]

-- ---- targets are the services that meet a need

abbrev number : ServiceRow → ℕ
number r = r.id

pub target_in : (n : Need) (rows : List ServiceRow) (r : ServiceRow) → Contains (filter (meets n) rows) r → has (targets n rows) r.id ≡ true
target_in n rows r h = key_in number (best_first (filter (meets n) rows)) r (ordered_in better (filter (meets n) rows) r h)

pub target_was : (n : Need) (rows : List ServiceRow) (s : ℕ) → has (targets n rows) s ≡ true → (r : ServiceRow) × Contains (filter (meets n) rows) r × (r.id ≡ s)
target_was n rows s on = let found = keyed number (best_first (filter (meets n) rows)) s on in (found.0, ordered_was better (filter (meets n) rows) found.0 found.1, found.2)

-- ---- more services

-- a need is met by those services that met it, and by more of them
pub record SeesMore (n : Need) (rows later : List ServiceRow) : Type 0 where
  pub more : List ServiceRow
  pub kept : filter (meets n) later ≡ filter (meets n) rows ++ more

module _ (n : Need) (rows later : List ServiceRow) (sees : SeesMore n rows later) where
  pub met_later : is_met rows n ≡ true → is_met later n ≡ true
  met_later met =
      let low = leb-true n.minimum (length (filter (meets n) rows)) met in
      let long : length (filter (meets n) later) ≡ length (filter (meets n) rows) + length sees.more = ap length sees.kept ∙ length_over (filter (meets n) rows) sees.more in
      le-leb n.minimum (length (filter (meets n) later)) (omega (arith, low, long))

  pub target_later : (s : ℕ) → has (targets n rows) s ≡ true → has (targets n later) s ≡ true
  target_later s on =
      let was = target_was n rows s on in
      subst (λ k. has (targets n later) k ≡ true) was.2
      (target_in n later was.0 (subst (λ (rs : List ServiceRow). Contains rs was.0) (sym sees.kept) (in_left (filter (meets n) rows) sees.more was.0 was.1)))

-- ---- the services of open periods

and_false : (b : Bool) → (b && false) ≡ false
and_false true = refl
and_false false = refl

pub rows_over : (xs ys : List OpenPeriod) → rows_of (xs ++ ys) ≡ rows_of xs ++ rows_of ys
rows_over xs ys =
    ap (filter (λ (r : ServiceRow). not (r.id == 0))) (map-append (λ (p : OpenPeriod). p.row) xs ys)
    ∙ filter-append (λ (r : ServiceRow). not (r.id == 0)) (map (λ (p : OpenPeriod). p.row) xs) (map (λ (p : OpenPeriod). p.row) ys)

module _ (n : Need) where
  row_first : (p : OpenPeriod) (ps : List OpenPeriod) → filter (meets n) (rows_of (p ∷ ps)) ≡ cond (not (p.row.id == 0) && meets n p.row) (p.row ∷ filter (meets n) (rows_of ps)) (filter (meets n) (rows_of ps))
  row_first p ps = go (not (p.row.id == 0))
    where
      go : (z : Bool) → filter (meets n) (cond z (p.row ∷ rows_of ps) (rows_of ps)) ≡ cond (z && meets n p.row) (p.row ∷ filter (meets n) (rows_of ps)) (filter (meets n) (rows_of ps))
      go true = refl
      go false = refl

  -- periods whose services don't meet a need may go
  pub seen_kept : (t : OpenPeriod → Bool) (ps : List OpenPeriod) → ((p : OpenPeriod) → Contains ps p → meets n p.row ≡ true → t p ≡ true) → filter (meets n) (rows_of (filter t ps)) ≡ filter (meets n) (rows_of ps)
  seen_kept t [] each = refl
  seen_kept t (p ∷ ps) each = go (t p) refl (seen_kept t ps (λ q h. each q (in_rest p ps q h)))
    where
      off : t p ≡ false → meets n p.row ≡ false
      off is = elim (cases_Bool (meets n p.row)) [
        | inl on ↦ absurd (both_ways (t p) is (each p (in_first p ps) on))
        | inr none ↦ none
      ]

      dropped : meets n p.row ≡ false → filter (meets n) (rows_of (p ∷ ps)) ≡ filter (meets n) (rows_of ps)
      dropped none = row_first p ps ∙ ap (λ b. cond b (p.row ∷ filter (meets n) (rows_of ps)) (filter (meets n) (rows_of ps))) (ap (λ b. not (p.row.id == 0) && b) none ∙ and_false (not (p.row.id == 0)))

      go : (b : Bool) → t p ≡ b → filter (meets n) (rows_of (filter t ps)) ≡ filter (meets n) (rows_of ps) → filter (meets n) (rows_of (cond b (p ∷ filter t ps) (filter t ps))) ≡ filter (meets n) (rows_of (p ∷ ps))
      go true is rest = row_first p (filter t ps) ∙ ap (λ rs. cond (not (p.row.id == 0) && meets n p.row) (p.row ∷ rs) rs) rest ∙ sym (row_first p ps)
      go false is rest = rest ∙ sym (dropped (off is))

  pub none_seen : (ps : List OpenPeriod) → ((p : OpenPeriod) → Contains ps p → meets n p.row ≡ false) → filter (meets n) (rows_of ps) ≡ []
  none_seen ps each = none_kept (meets n) (rows_of ps) (λ r h.
      let kept = kept_was (λ (x : ServiceRow). not (x.id == 0)) (map (λ (p : OpenPeriod). p.row) ps) r h in
      let was = mapped_was (λ (p : OpenPeriod). p.row) ps r kept.0 in
      ap (meets n) (sym was.1.1) ∙ each was.0 was.1.0)

  append_again : (xs ys zs : List ServiceRow) → xs ++ (ys ++ zs) ≡ (xs ++ ys) ++ zs
  append_again [] ys zs = refl
  append_again (x ∷ xs) ys zs = ap (λ ws. x ∷ ws) (append_again xs ys zs)

  -- where periods are kept whose services meet a need, and others are opened
  pub sees_more : (direct : List ServiceRow) (t : OpenPeriod → Bool) (ps opened : List OpenPeriod) → ((p : OpenPeriod) → Contains ps p → meets n p.row ≡ true → t p ≡ true)
      → SeesMore n (direct ++ rows_of ps) (direct ++ rows_of (filter t ps ++ opened))
  sees_more direct t ps opened each = record {
    more = filter (meets n) (rows_of opened);
    kept =
        filter-append (meets n) direct (rows_of (filter t ps ++ opened))
        ∙ ap (λ rs. filter (meets n) direct ++ filter (meets n) rs) (rows_over (filter t ps) opened)
        ∙ ap (λ rs. filter (meets n) direct ++ rs) (filter-append (meets n) (rows_of (filter t ps)) (rows_of opened))
        ∙ ap (λ rs. filter (meets n) direct ++ (rs ++ filter (meets n) (rows_of opened))) (seen_kept t ps each)
        ∙ append_again (filter (meets n) direct) (filter (meets n) (rows_of ps)) (filter (meets n) (rows_of opened))
        ∙ ap (λ rs. rs ++ filter (meets n) (rows_of opened)) (sym (filter-append (meets n) direct (rows_of ps)));
  }

  -- where no period's service meets it
  pub sees_direct : (direct : List ServiceRow) (ps : List OpenPeriod) → ((p : OpenPeriod) → Contains ps p → meets n p.row ≡ false) → filter (meets n) (direct ++ rows_of ps) ≡ filter (meets n) direct ++ []
  sees_direct direct ps each = filter-append (meets n) direct (rows_of ps) ∙ ap (λ rs. filter (meets n) direct ++ rs) (none_seen ps each)
