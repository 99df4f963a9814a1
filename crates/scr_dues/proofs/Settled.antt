-- A reference that holds what it desires wants nothing, where nobody is told of changes.
use Rattle.std.proofs.Common.{◌≡◌, ◌∙◌, ap, refl, cond, ℕ, List, [], ◌∷◌, Bool, true, false, ◌&&◌, ◌||◌, Option, Some, None, if◌then◌else◌, map, filter}
use Rattle.std.specs.Prelude.{not, find, option_map, ◌==◌}
use Rattle.std.specs.List.{list_any, list_all, last_or}
use Rattle.std.proofs.lemmas.Bool.{and_parts, eq-eqb, or_right}
use Rattle.callback_orders.specs.declared.instance_view.HeldService.{HeldService}
use Rattle.callback_orders.specs.declared.instance_view.ReferenceView.{ReferenceView}
use Rattle.callback_orders.specs.declared.instance_view.Wish.{Wish}
use Rattle.callback_orders.specs.References.{differs, holds_all, is_desired, is_held, to_bind, to_tell, to_unbind}
use Rattle.prop_map.specs.Words.{has}

-- a reference of an instance that goes on wants nothing
pub record WantsNothing (r : ReferenceView) : Type 0 where
  pub bind : to_bind r ≡ None
  pub unbind : to_unbind r ≡ None
  pub tell : to_tell r ≡ None
  pub same : differs r ≡ false

-- ---- lists of services

more : (x : ℕ) (all xs : List ℕ) → list_all (has all) xs ≡ true → list_all (has (x ∷ all)) xs ≡ true
more x all [] h = refl
more x all (y ∷ xs) h =
    let parts : (has all y ≡ true) × (list_all (has all) xs ≡ true) = and_parts (has all y) (list_all (has all) xs) h in
    (λ j. or_right (x == y) (has all y) parts.0 j && more x all xs parts.1 j)

itself : (xs : List ℕ) → list_all (has xs) xs ≡ true
itself [] = refl
itself (x ∷ xs) = (λ j. (eq-eqb x x refl j || has xs x) && more x xs xs (itself xs) j)

module _ (told : Bool) (all : List ℕ) (ready changed : ℕ → Bool) where
  abbrev wish : ℕ → Wish
  wish s = record { service = s; ready = ready s }

  abbrev hold : ℕ → HeldService
  hold s = record { service = s; changed = changed s }

  -- it desires these services and holds them
  abbrev pub settled : ReferenceView
  settled = record { told = told; desired = map wish all; held = map hold all }

  held_among : (xs : List ℕ) (s : ℕ) → list_any (λ (h : HeldService). h.service == s) (map hold xs) ≡ has xs s
  held_among [] s = refl
  held_among (x ∷ xs) s = ap (λ b. (x == s) || b) (held_among xs s)

  desired_among : (xs : List ℕ) (s : ℕ) → list_any (λ (x : Wish). x.service == s) (map wish xs) ≡ has xs s
  desired_among [] s = refl
  desired_among (x ∷ xs) s = ap (λ b. (x == s) || b) (desired_among xs s)

  holds_these : (xs : List ℕ) → list_all (has all) xs ≡ true → list_all (λ (x : Wish). is_held settled x.service) (map wish xs) ≡ true
  holds_these [] h = refl
  holds_these (x ∷ xs) h =
      let parts : (has all x ≡ true) × (list_all (has all) xs ≡ true) = and_parts (has all x) (list_all (has all) xs) h in
      (λ j. (held_among all x ∙ parts.0) j && holds_these xs parts.1 j)

  desires_these : (xs : List ℕ) → list_all (has all) xs ≡ true → list_all (λ (h : HeldService). is_desired settled h.service) (map hold xs) ≡ true
  desires_these [] h = refl
  desires_these (x ∷ xs) h =
      let parts : (has all x ≡ true) × (list_all (has all) xs ≡ true) = and_parts (has all x) (list_all (has all) xs) h in
      (λ j. (desired_among all x ∙ parts.0) j && desires_these xs parts.1 j)

  none_by : (r b c : Bool) (rest : Option Wish) (x : Wish) → c ≡ true → rest ≡ None → cond (r && not c) (Some x) rest ≡ None
  none_by true b true rest x e f = f
  none_by false b c rest x e f = f
  none_by true b false rest x e f = cc

  binds_none : (xs : List ℕ) → list_all (has all) xs ≡ true → find (λ (x : Wish). x.ready && not (is_held settled x.service)) (map wish xs) ≡ None
  binds_none [] h = refl
  binds_none (x ∷ xs) h =
      let parts : (has all x ≡ true) × (list_all (has all) xs ≡ true) = and_parts (has all x) (list_all (has all) xs) h in
      none_by (ready x) true (is_held settled x) (find (λ (x : Wish). x.ready && not (is_held settled x.service)) (map wish xs)) (wish x) (held_among all x ∙ parts.0) (binds_none xs parts.1)

  dropped_by : (c : Bool) (x : HeldService) (rest : List HeldService) → c ≡ true → rest ≡ [] → cond (not c) (x ∷ rest) rest ≡ []
  dropped_by true x rest e f = f
  dropped_by false x rest e f = cc

  unbinds_none : (xs : List ℕ) → list_all (has all) xs ≡ true → filter (λ (h : HeldService). not (is_desired settled h.service)) (map hold xs) ≡ []
  unbinds_none [] h = refl
  unbinds_none (x ∷ xs) h =
      let parts : (has all x ≡ true) × (list_all (has all) xs ≡ true) = and_parts (has all x) (list_all (has all) xs) h in
      dropped_by (is_desired settled x) (hold x) (filter (λ (h : HeldService). not (is_desired settled h.service)) (map hold xs)) (desired_among all x ∙ parts.0) (unbinds_none xs parts.1)

  unbind_by : (b : Bool) (left : List HeldService) → left ≡ [] → (if b then last_or None (map (λ (h : HeldService). h.service) left) else None) ≡ None
  unbind_by true left e = ap (λ (l : List HeldService). last_or None (map (λ (h : HeldService). h.service) l)) e
  unbind_by false left e = refl

  pub binds_nothing : to_bind settled ≡ None
  binds_nothing = ap (option_map (λ (x : Wish). x.service)) (binds_none all (itself all))

  pub differs_not : differs settled ≡ false
  differs_not = (λ j. not (holds_these all (itself all) j) || not (desires_these all (itself all) j))

  pub nothing : told ≡ false → WantsNothing settled
  nothing untold = record {
    bind = binds_nothing;
    unbind = unbind_by (holds_all settled) (filter (λ (h : HeldService). not (is_desired settled h.service)) (map hold all)) (unbinds_none all (itself all));
    tell = ap (λ b. cond b (option_map (λ (h : HeldService). h.service) (find (λ (h : HeldService). h.changed) (map hold all))) None) untold;
    same = differs_not;
  }
