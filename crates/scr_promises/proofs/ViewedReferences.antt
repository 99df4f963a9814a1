-- What the view of an instance shows of its references: the view at a place is that of the reference there, and it holds and desires what the instance does.
use Rattle.std.proofs.Common.{◌≡◌, ℕ, suc, ◌+◌, List, [], ◌∷◌, ap, sym, ◌∙◌, refl, subst, cond, arith, Bool, true, false, ◌||◌, inl, inr}
use Rattle.std.specs.Prelude.{map, ◌==◌}
use Rattle.std.specs.List.{Contains, enumerate_from, list_any, slice_index_or}
use Rattle.callback_orders.specs.declared.instance_view.HeldService.{HeldService}
use Rattle.callback_orders.specs.declared.instance_view.Wish.{Wish}
use Rattle.callback_orders.specs.Lives.{held_for}
use Rattle.callback_orders.specs.References.{is_desired, is_held}
use Rattle.component_dto.specs.declared.description.Reference.{Reference}
use Rattle.component_state.proofs.Apart.{in_cases, in_first, in_none, in_rest}
use Rattle.prop_map.specs.Words.{has, in_order, insert_by, with_places}
use Rattle.scr_world.specs.Views.{bundle_of_instance, desired_unless_ending, is_changed, is_ready, reference_view}
use Rattle.scr_world.specs.Worlds.{ranking_of, sorted}
use Rattle.scr_world.specs.declared.instance.Instance.{Instance}
use Rattle.scr_world.specs.declared.world.World.{World}
use Rattle.service_registry.specs.Services.{ranks_before}

-- ---- places

module _ {X Y : Type 0} (f : ℕ × X → Y) where
  -- the view at a place is that of the item there
  pub viewed : (k : ℕ) (xs : List X) (n : ℕ) (y : Y) → Contains (enumerate_from k (map f (with_places k xs))) (n, y) → (x : X) × Contains (with_places k xs) (n, x) × (y ≡ f (n, x))
  viewed k [] n y h = absurd (in_none (n, y) h)
  viewed k (x ∷ xs) n y h = elim (in_cases (k, f (k, x)) (enumerate_from (k + 1) (map f (with_places (k + 1) xs))) (n, y) h) [
    | inl same ↦ (let place : k ≡ n = ap (λ (p : ℕ × Y). p.0) same in (
      x,
      subst (λ m. Contains ((k, x) ∷ with_places (k + 1) xs) (m, x)) place (in_first (k, x) (with_places (k + 1) xs)),
      sym (ap (λ (p : ℕ × Y). p.1) same) ∙ ap (λ m. f (m, x)) place,
    ))
    | inr later ↦ (let found = viewed (k + 1) xs n y later in (found.0, in_rest (k, x) (with_places (k + 1) xs) (n, found.0) found.1, found.2))
  ]

  -- and each has its view
  pub viewed_at : (k : ℕ) (xs : List X) (n : ℕ) (x : X) → Contains (with_places k xs) (n, x) → Contains (enumerate_from k (map f (with_places k xs))) (n, f (n, x))
  viewed_at k [] n x h = absurd (in_none (n, x) h)
  viewed_at k (z ∷ zs) n x h = elim (in_cases (k, z) (with_places (k + 1) zs) (n, x) h) [
    | inl same ↦ subst (λ (p : ℕ × X). Contains ((k, f (k, z)) ∷ enumerate_from (k + 1) (map f (with_places (k + 1) zs))) (p.0, f p)) same (in_first (k, f (k, z)) (enumerate_from (k + 1) (map f (with_places (k + 1) zs))))
    | inr later ↦ in_rest (k, f (k, z)) (enumerate_from (k + 1) (map f (with_places (k + 1) zs))) (n, f (n, x)) (viewed_at (k + 1) zs n x later)
  ]

-- an item with its place is one of the list
pub placed_was : {X : Type 0} (k : ℕ) (xs : List X) (n : ℕ) (x : X) → Contains (with_places k xs) (n, x) → Contains xs x
placed_was k [] n x h = absurd (in_none (n, x) h)
placed_was {X = X} k (z ∷ zs) n x h = elim (in_cases (k, z) (with_places (k + 1) zs) (n, x) h) [
  | inl same ↦ subst (λ (y : X). Contains (z ∷ zs) y) (ap (λ (p : ℕ × X). p.1) same) (in_first z zs)
  | inr later ↦ in_rest z zs x (placed_was (k + 1) zs n x later)
]

pub placed_in : {X : Type 0} (k : ℕ) (xs : List X) (x : X) → Contains xs x → (n : ℕ) × Contains (with_places k xs) (n, x)
placed_in k [] x h = absurd (in_none x h)
placed_in {X = X} k (z ∷ zs) x h = elim (in_cases z zs x h) [
  | inl same ↦ (k, subst (λ (y : X). Contains ((k, z) ∷ with_places (k + 1) zs) (k, y)) same (in_first (k, z) (with_places (k + 1) zs)))
  | inr later ↦ (let found = placed_in (k + 1) zs x later in (found.0, in_rest (k, z) (with_places (k + 1) zs) (found.0, x) found.1))
]

name_at : (k : ℕ) (rs : List Reference) (n : ℕ) (r : Reference) → Contains (with_places k rs) (n, r) → (j : ℕ) × (n ≡ k + j) × (slice_index_or (map (λ (x : Reference). x.name) rs) j [] ≡ r.name)
name_at k [] n r h = absurd (in_none (n, r) h)
name_at k (q ∷ qs) n r h = elim (in_cases (k, q) (with_places (k + 1) qs) (n, r) h) [
  | inl same ↦ (let place : k ≡ n = ap (λ (p : ℕ × Reference). p.0) same in (0, omega (arith, place), ap (λ (p : ℕ × Reference). p.1.name) same))
  | inr later ↦ (let found = name_at (k + 1) qs n r later in (suc found.0, omega (arith, found.1), found.2))
]

-- the name at a reference's place is its name
pub name_there : (rs : List Reference) (n : ℕ) (r : Reference) → Contains (with_places 0 rs) (n, r) → slice_index_or (map (λ (x : Reference). x.name) rs) n [] ≡ r.name
name_there rs n r h =
    let found = name_at 0 rs n r h in
    let place : n ≡ found.0 = omega (arith, found.1) in
    ap (λ m. slice_index_or (map (λ (x : Reference). x.name) rs) m []) place ∙ found.2

-- ---- orders

or_both : (a b c : Bool) → (a || (b || c)) ≡ (b || (a || c))
or_both true true c = refl
or_both true false c = refl
or_both false b c = refl

has_inserted : (before : ℕ → ℕ → Bool) (x : ℕ) (ys : List ℕ) (s : ℕ) → has (insert_by before x ys) s ≡ ((x == s) || has ys s)
has_inserted before x [] s = refl
has_inserted before x (y ∷ ys) s = go (before x y) (has_inserted before x ys s)
  where
    go : (b : Bool) → has (insert_by before x ys) s ≡ ((x == s) || has ys s) → has (cond b (x ∷ y ∷ ys) (y ∷ insert_by before x ys)) s ≡ ((x == s) || ((y == s) || has ys s))
    go true later = refl
    go false later = ap (λ b. (y == s) || b) later ∙ or_both (y == s) (x == s) (has ys s)

pub has_ordered : (before : ℕ → ℕ → Bool) (xs : List ℕ) (s : ℕ) → has (in_order before xs) s ≡ has xs s
has_ordered before [] s = refl
has_ordered before (x ∷ xs) s = has_inserted before x (in_order before xs) s ∙ ap (λ b. (x == s) || b) (has_ordered before xs s)

pub has_sorted : (w : World) (xs : List ℕ) (s : ℕ) → has (sorted w xs) s ≡ has xs s
has_sorted w xs s = has_ordered (λ a b. ranks_before (ranking_of w a) a (ranking_of w b) b) xs s

any_mapped : {X Y : Type 0} (t : Y → Bool) (f : X → Y) (xs : List X) → list_any t (map f xs) ≡ list_any (λ x. t (f x)) xs
any_mapped t f [] = refl
any_mapped t f (x ∷ xs) = ap (λ b. t (f x) || b) (any_mapped t f xs)

-- ---- what a view holds and desires

module _ (w : World) (i : Instance) (e : Bool) (r : ℕ × Reference) where
  pub holds_seen : (s : ℕ) → is_held (reference_view e w i r) s ≡ has (held_for r.1.name i.callbacks) s
  holds_seen s = any_mapped (λ (h : HeldService). h.service == s) (λ n. record { service = n; changed = is_changed w i r.1.name n }) (sorted w (held_for r.1.name i.callbacks)) ∙ has_sorted w (held_for r.1.name i.callbacks) s

  pub desires_seen : (s : ℕ) → is_desired (reference_view e w i r) s ≡ has (desired_unless_ending e w i r.0 r.1) s
  desires_seen s = any_mapped (λ (x : Wish). x.service == s) (λ n. record { service = n; ready = is_ready w (bundle_of_instance w i) n }) (desired_unless_ending e w i r.0 r.1)
