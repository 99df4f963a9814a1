-- Services that have left, and those of them that are held, list by list.
use Rattle.std.proofs.Common.{◌≡◌, ℕ, ◌+◌, ◌<◌, Bool, true, false, List, [], ◌∷◌, ◌++◌, ◌∙◌, Result, ap, sym, subst, refl, cond, append_assoc, get_or, length, take}
use Rattle.std.specs.Prelude.{◌==◌, ◌&&◌, ◌||◌, OnOk, filter, codes, map, not}
use Rattle.std.specs.List.{All, list_any}
use Rattle.std.proofs.lemmas.Bool.{and_parts, eqb-true}
use Rattle.std.proofs.Math.Bool.{or-false}
use Rattle.std.proofs.lemmas.List.{append-nil, map-append, take_more}
use Rattle.std.proofs.lemmas.List.Elements.{All-head, All-tail, filter-append}
use Rattle.callback_orders.specs.Lives.{held_for}
use Rattle.callback_orders.specs.declared.word.Called.{Called}
use Rattle.component_dto.specs.declared.description.Reference.{Reference}
use Rattle.component_state.specs.Rows.{rows_of}
use Rattle.component_state.specs.declared.open_period.OpenPeriod.{OpenPeriod}
use Rattle.prop_map.specs.Words.{has}
use Rattle.scr_consequences.specs.Lefts.{has_left, is_left_held, left_between}
use Rattle.scr_consequences.proofs.FilterLemmas.{filter_twice}
use Rattle.scr_consequences.specs.Moves.{HasRowThere, IsThere, period_stays, periods_behind, row_stays}
use Rattle.scr_world.specs.Lists.{is_service_held, unregistered_held_between}
use Rattle.scr_world.specs.Whiteboard.{condition, platform_rows, whiteboard_references}
use Rattle.scr_world.specs.Worlds.{is_registered, registered_services}
use Rattle.scr_world.specs.declared.world.World.{World}
use Rattle.service_registry.specs.declared.row.ServiceRow.{ServiceRow}

-- the platform's own never leaves
stays : (now : World) → has_left now condition ≡ false
stays now = refl

none_of_platform : (now : World) (rows : List ServiceRow) → filter (has_left now) (platform_rows ++ rows) ≡ filter (has_left now) rows
none_of_platform now rows = ap (λ b. cond b (condition ∷ filter (has_left now) rows) (filter (has_left now) rows)) (stays now)

pub left_are : (was now : World) (rows : List ServiceRow) (periods : List OpenPeriod) → was.registry.rows ≡ rows → was.open_periods ≡ periods
    → filter (has_left now) rows ++ filter (has_left now) (rows_of periods) ≡ left_between was now
left_are was now rows periods e f =
    let p = has_left now in
    let direct = was.registry.rows in
    let opened = rows_of was.open_periods in
    ap (λ (l : List ServiceRow). filter p l ++ filter p (rows_of periods)) (sym e)
    ∙ ap (λ (l : List OpenPeriod). filter p direct ++ filter p (rows_of l)) (sym f)
    ∙ sym (filter-append p (platform_rows ++ direct) opened ∙ ap (λ (l : List ServiceRow). l ++ filter p opened) (none_of_platform now direct))

-- of those that left are held that are held of all that were registered
pub held_are : (was now : World) (left : List ServiceRow) → left ≡ left_between was now → was.unregistered_held ≡ now.unregistered_held
    → filter (is_left_held now) now.unregistered_held ++ filter (is_left_held now) left ≡ unregistered_held_between was now
held_are was now left e f =
    let p = is_left_held now in
    ap (λ (l : List ServiceRow). filter p l ++ filter p left) (sym f)
    ∙ ap (λ (l : List ServiceRow). filter p was.unregistered_held ++ filter p l) e
    ∙ ap (λ (l : List ServiceRow). filter p was.unregistered_held ++ l)
    (filter_twice p (has_left now) (λ r there. ap (λ b. b && is_service_held now r.id) there) (registered_services was))
    ∙ sym (filter-append p was.unregistered_held (registered_services was))

-- the references of the whiteboard by their names
pub both_names : (contexts servlets : List ℕ) (calls : List Called) (service : ℕ) → contexts ≡ codes "contexts" → servlets ≡ codes "servlets"
    → (has (held_for contexts calls) service || has (held_for servlets calls) service) ≡ list_any (λ (r : Reference). has (held_for r.name calls) service) whiteboard_references
both_names contexts servlets calls service e f =
    ap (λ (name : List ℕ). has (held_for name calls) service || has (held_for servlets calls) service) e
    ∙ ap (λ (name : List ℕ). has (held_for (codes "contexts") calls) service || has (held_for name calls) service) f
    ∙ ap (λ b. has (held_for (codes "contexts") calls) service || b) (sym (or-false (has (held_for (codes "servlets") calls) service)))

-- ---- a service that is registered hasn't left

pub row_there : (w : World) (r : ServiceRow) (rest : List ServiceRow) → All (IsThere w) rest → row_stays r rest ≡ true → has_left w r ≡ false
row_there w r [] all e = cc
row_there w r (s ∷ rest) all e =
    let parts = and_parts (r.id == s.id) (r.revision == s.revision) e in
    ap not (ap (is_registered w) (eqb-true r.id s.id parts.0) ∙ All-head (IsThere w) s rest all)

pub period_there : (w : World) (p : OpenPeriod) (rest : List OpenPeriod) → All (HasRowThere w) rest → period_stays p rest ≡ true → has_left w p.row ≡ false
period_there w p [] all e = cc
period_there w p (q ∷ rest) all e =
    let row = (and_parts (p.configuration == q.configuration) ((p.row.id == q.row.id) && (p.row.revision == q.row.revision)) e).1 in
    let same = (and_parts (p.row.id == q.row.id) (p.row.revision == q.row.revision) row).0 in
    ap not (ap (is_registered w) (eqb-true p.row.id q.row.id same) ∙ All-head (HasRowThere w) q rest all)

pub periods_behind_there : (w : World) (n : ℕ) (rest : List OpenPeriod) → All (HasRowThere w) rest → All (HasRowThere w) (periods_behind n rest)
periods_behind_there w n [] all = all
periods_behind_there w n (q ∷ rest) all = by_test (q.configuration == n)
  where
    by_test : (b : Bool) → All (HasRowThere w) (cond b rest (q ∷ rest))
    by_test true = All-tail (HasRowThere w) q rest all
    by_test false = all

-- ---- one service more

rows_of-append : (xs ys : List OpenPeriod) → rows_of (xs ++ ys) ≡ rows_of xs ++ rows_of ys
rows_of-append xs ys =
    let row = λ (p : OpenPeriod). p.row in
    let real = λ (r : ServiceRow). not (r.id == 0) in
    ap (filter real) (map-append row xs ys) ∙ filter-append real (map row xs) (map row ys)

module _ (w : World) where
  -- a period without a service gives none, and the platform's number never leaves
  one_period : (p : OpenPeriod) → filter (has_left w) (rows_of (p ∷ [])) ≡ cond (has_left w p.row) (p.row ∷ []) []
  one_period p = by_real (p.row.id == 0) refl
    where
      by_real : (b : Bool) → (p.row.id == 0) ≡ b → filter (has_left w) (cond (not b) (p.row ∷ []) []) ≡ cond (has_left w p.row) (p.row ∷ []) []
      by_real true none =
          ap (λ b. cond b (p.row ∷ []) []) (sym (ap (λ (n : ℕ). not (is_registered w n)) (eqb-true p.row.id 0 none)))
      by_real false real = refl

  pub adds_row : {X E : Type 0} (result : Result X E) (r : ServiceRow) (a b : List ServiceRow) → has_left w r ≡ true → OnOk result (b ≡ a ++ r ∷ []) → OnOk result (b ≡ a ++ filter (has_left w) (r ∷ []))
  adds_row result r a b has added = subst (λ (t : Bool). OnOk result (b ≡ a ++ cond t (r ∷ []) [])) (sym has) added

  pub leaves_row : (r : ServiceRow) (a : List ServiceRow) → has_left w r ≡ false → a ≡ a ++ filter (has_left w) (r ∷ [])
  leaves_row r a hasnt = sym (ap (λ (t : Bool). a ++ cond t (r ∷ []) []) hasnt ∙ append-nil a)

  pub adds_period : {X E : Type 0} (result : Result X E) (p : OpenPeriod) (a b : List ServiceRow) → has_left w p.row ≡ true → OnOk result (b ≡ a ++ p.row ∷ [])
      → OnOk result (b ≡ a ++ filter (has_left w) (rows_of (p ∷ [])))
  adds_period result p a b has added = subst (λ (l : List ServiceRow). OnOk result (b ≡ a ++ l)) (sym (one_period p)) (adds_row result p.row a b has added)

  pub leaves_period : (p : OpenPeriod) (a : List ServiceRow) → has_left w p.row ≡ false → a ≡ a ++ filter (has_left w) (rows_of (p ∷ []))
  leaves_period p a hasnt = leaves_row p.row a hasnt ∙ ap (λ (l : List ServiceRow). a ++ l) (sym (one_period p))

  pub next_row : (rows : List ServiceRow) (i : ℕ) (r : ServiceRow) (a b c : List ServiceRow) → i < length rows → r ≡ get_or rows i r → b ≡ a ++ filter (has_left w) (take i rows)
      → c ≡ b ++ filter (has_left w) (r ∷ []) → c ≡ a ++ filter (has_left w) (take (i + 1) rows)
  next_row rows i r a b c within is e g =
      let p = has_left w in
      let next : take (i + 1) rows ≡ take i rows ++ r ∷ [] = take_more rows i r within ∙ ap (λ (x : ServiceRow). take i rows ++ x ∷ []) (sym is) in
      g ∙ ap (λ (l : List ServiceRow). l ++ filter p (r ∷ [])) e
      ∙ append_assoc a (filter p (take i rows)) (filter p (r ∷ []))
      ∙ ap (λ (l : List ServiceRow). a ++ l) (sym (ap (filter p) next ∙ filter-append p (take i rows) (r ∷ [])))

  pub next_period : (ps : List OpenPeriod) (i : ℕ) (q : OpenPeriod) (a b c : List ServiceRow) → i < length ps → q ≡ get_or ps i q → b ≡ a ++ filter (has_left w) (rows_of (take i ps))
      → c ≡ b ++ filter (has_left w) (rows_of (q ∷ [])) → c ≡ a ++ filter (has_left w) (rows_of (take (i + 1) ps))
  next_period ps i q a b c within is e g =
      let p = has_left w in
      let next : take (i + 1) ps ≡ take i ps ++ q ∷ [] = take_more ps i q within ∙ ap (λ (x : OpenPeriod). take i ps ++ x ∷ []) (sym is) in
      g ∙ ap (λ (l : List ServiceRow). l ++ filter p (rows_of (q ∷ []))) e
      ∙ append_assoc a (filter p (rows_of (take i ps))) (filter p (rows_of (q ∷ [])))
      ∙ ap (λ (l : List ServiceRow). a ++ l) (sym (ap (λ (l : List OpenPeriod). filter p (rows_of l)) next ∙ ap (filter p) (rows_of-append (take i ps) (q ∷ [])) ∙ filter-append p (rows_of (take i ps)) (rows_of (q ∷ []))))
