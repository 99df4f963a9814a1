-- The rows of services that are held: such a service has no object exactly where a row of it says so.
use Rattle.std.proofs.Common.{◌≡◌, ℕ, List, [], ◌∷◌, ◌++◌, ap, sym, ◌∙◌, refl, subst, Bool, true, false, ◌&&◌, Option, Some, None, inl, inr}
use Rattle.std.specs.Prelude.{codes, find, flat_map, if◌then◌else◌, ◌==◌}
use Rattle.std.specs.List.{Contains, list_any}
use Rattle.std.specs.Option.{option_map_or}
use Rattle.std.proofs.lemmas.Bool.{and_from, and_parts, eq-eqb, eqb-true}
use Rattle.callback_orders.specs.Lives.{held_for}
use Rattle.component_state.proofs.Apart.{any_found, any_from, either_way, in_cases, in_first, in_none}
use Rattle.prop_map.specs.Words.{has}
use Rattle.scr_laws.proofs.Described.{into_flat}
use Rattle.scr_laws.proofs.LegalOrder.{legal_ordered}
use Rattle.scr_laws.proofs.Listed.{found_was, joined_was}
use Rattle.scr_promises.proofs.ViewedReferences.{has_sorted}
use Rattle.scr_readers.specs.Reaching.{held_best_first, held_rows, held_services, instance_at, is_direct, some_row}
use Rattle.scr_world.specs.Legal.{IsLegal}
use Rattle.scr_world.specs.Lists.{world_of}
use Rattle.scr_world.specs.Steps.{History}
use Rattle.scr_world.specs.Worlds.{registered_services, row_known, sorted}
use Rattle.scr_world.specs.declared.instance.Instance.{Instance}
use Rattle.scr_world.specs.declared.world.World.{World}
use Rattle.service_registry.specs.declared.row.ServiceRow.{ServiceRow}
use Rattle.service_registry.specs.Registries.{has_number}

some_was : (o : Option ServiceRow) (r : ServiceRow) → Contains (some_row o) r → o ≡ Some r
some_was None r h = absurd (in_none r h)
some_was (Some q) r h = elim (in_cases q [] r h) [
  | inl same ↦ ap (λ (x : ServiceRow). Some x) same
  | inr none ↦ absurd (in_none r none)
]

number_of : (w : World) (n : ℕ) (r : ServiceRow) → row_known w n ≡ Some r → r.id ≡ n
number_of w n r known = eqb-true r.id n (found_was (has_number n) (registered_services w ++ w.unregistered_held) r known).1

in_of : (ns : List ℕ) (s : ℕ) → has ns s ≡ true → Contains ns s
in_of ns s held = let found = any_found (λ n. n == s) ns held in subst (λ (m : ℕ). Contains ns m) (eqb-true found.0 s found.2) found.1

module _ (w : World) (ns : List ℕ) (s : ℕ) (held : has ns s ≡ true) where
  abbrev rows : List ServiceRow
  rows = flat_map (λ n. some_row (row_known w n)) ns

  abbrev without_object : ServiceRow → Bool
  without_object r = (r.id == s) && r.direct

  told_direct : list_any without_object rows ≡ true → is_direct w s ≡ true
  told_direct is =
      let found = any_found without_object rows is in
      let both = and_parts (found.0.id == s) found.0.direct found.2 in
      let was = joined_was (λ n. some_row (row_known w n)) ns found.0 found.1 in
      let known : row_known w was.0 ≡ Some found.0 = some_was (row_known w was.0) found.0 was.1.1 in
      let same : was.0 ≡ s = sym (number_of w was.0 found.0 known) ∙ eqb-true found.0.id s both.0 in
      ap (λ o. option_map_or (λ (r : ServiceRow). r.direct) o false) (subst (λ m. row_known w m ≡ Some found.0) same known) ∙ both.1

  is_told : is_direct w s ≡ true → list_any without_object rows ≡ true
  is_told is = go (row_known w s) refl is
    where
      go : (o : Option ServiceRow) → row_known w s ≡ o → option_map_or (λ (r : ServiceRow). r.direct) o false ≡ true → list_any (λ (r : ServiceRow). (r.id == s) && r.direct) (flat_map (λ n. some_row (row_known w n)) ns) ≡ true
      go None known direct = cc
      go (Some r) known direct =
          any_from (λ (q : ServiceRow). (q.id == s) && q.direct) (flat_map (λ n. some_row (row_known w n)) ns) r
          (into_flat (λ n. some_row (row_known w n)) ns s r (in_of ns s held) (subst (λ o. Contains (some_row o) r) (sym known) (in_first r [])))
          (and_from (r.id == s) r.direct (eq-eqb r.id s (number_of w s r known)) direct)

  direct_row : list_any without_object rows ≡ is_direct w s
  direct_row = either_way (list_any without_object rows) (is_direct w s) told_direct is_told

-- of a servlet that the whiteboard's instance holds
pub objectless : (w : World) (rows : List ServiceRow) (s : ℕ) (b : Bool) → has (held_for (codes "servlets") w.whiteboard.callbacks) s ≡ true → rows ≡ held_rows w (codes "servlets") w.whiteboard
    → b ≡ list_any (λ (r : ServiceRow). (r.id == s) && r.direct) rows → is_direct w s ≡ b
objectless w rows s b held are told =
    let ns = held_best_first w (codes "servlets") w.whiteboard in
    let among : has ns s ≡ true = has_sorted w (held_for (codes "servlets") w.whiteboard.callbacks) s ∙ held in
    sym (direct_row w ns s among) ∙ ap (list_any (λ (r : ServiceRow). (r.id == s) && r.direct)) (sym are) ∙ sym told

-- what instance 0 holds is what the whiteboard's does
pub board_rows : (limit : ℕ) (past : History) → IsLegal limit past → (reference : List ℕ) → held_services (world_of past) 0 reference ≡ held_rows (world_of past) reference (world_of past).whiteboard
board_rows limit past legal reference =
    let w = world_of past in
    let zero : (w.whiteboard.number == 0) ≡ true = eq-eqb w.whiteboard.number 0 (legal_ordered limit past legal).board.number in
    let found : instance_at w 0 ≡ Some w.whiteboard = ap (λ (b : Bool). if b then Some w.whiteboard else find (λ (x : Instance). x.number == 0) w.instances) zero in
    ap (λ o. option_map_or (held_rows w reference) o []) found
