-- What an instance holds is the same in two worlds that know the same of each service that it holds.
use Rattle.std.proofs.Common.{◌≡◌, ℕ, List, [], ◌∷◌, ◌++◌, ap, sym, ◌∙◌, refl, Bool, true, Option}
use Rattle.std.specs.Prelude.{◌||◌, ◌==◌, flat_map, map, pos}
use Rattle.std.specs.Option.{option_map_or}
use Rattle.std.proofs.lemmas.Bool.{eq-eqb}
use Rattle.std.proofs.Math.Bool.{or-true}
use Rattle.callback_orders.specs.Lives.{held_for}
use Rattle.prop_map.specs.Words.{has, in_order}
use Rattle.service_registry.specs.declared.row.ServiceRow.{ServiceRow}
use Rattle.service_registry.specs.Services.{ranking, ranks_before}
use Rattle.service_registry.proofs.Sorting.{in_order_made}
use Rattle.scr_readers.specs.Reaching.{held_rows, some_row}
use Rattle.scr_world.specs.declared.instance.Instance.{Instance}
use Rattle.scr_world.specs.declared.world.World.{World}
use Rattle.scr_world.specs.Worlds.{row_known}

-- a service and what is known of it
abbrev Known : Type 0
Known = ℕ × Option ServiceRow

abbrev known_in : World → ℕ → Known
known_in w s = (s, row_known w s)

abbrev better_known : Known → Known → Bool
better_known a b = ranks_before (option_map_or (λ (r : ServiceRow). ranking r.properties) a.1 (pos 0)) a.0 (option_map_or (λ (r : ServiceRow). ranking r.properties) b.1 (pos 0)) b.0

abbrev rows_known : List Known → List ServiceRow
rows_known ks = flat_map (λ (k : Known). some_row k.1) ks

rows_made : (w : World) (xs : List ℕ) → flat_map (λ s. some_row (row_known w s)) xs ≡ rows_known (map (known_in w) xs)
rows_made w [] = refl
rows_made w (x ∷ xs) = ap (λ l. some_row (row_known w x) ++ l) (rows_made w xs)

held_by_known : (w : World) (name : List ℕ) (i : Instance) → held_rows w name i ≡ rows_known (in_order better_known (map (known_in w) (held_for name i.callbacks)))
held_by_known w name i =
    rows_made w (in_order (λ a b. better_known (known_in w a) (known_in w b)) (held_for name i.callbacks))
    ∙ ap rows_known (in_order_made (known_in w) better_known (held_for name i.callbacks))

in_rest : (x s : ℕ) (xs : List ℕ) → has xs s ≡ true → has (x ∷ xs) s ≡ true
in_rest x s xs h = ap (λ b. (x == s) || b) h ∙ or-true (x == s)

is_first : (x : ℕ) (xs : List ℕ) → has (x ∷ xs) x ≡ true
is_first x xs = ap (λ b. b || has xs x) (eq-eqb x x refl)

same_known : (v w : World) (xs : List ℕ) → ((s : ℕ) → has xs s ≡ true → row_known v s ≡ row_known w s) → map (known_in v) xs ≡ map (known_in w) xs
same_known v w [] h = refl
same_known v w (x ∷ xs) h =
    ap (λ (o : Option ServiceRow). let k : Known = (x, o) in k ∷ map (known_in v) xs) (h x (is_first x xs))
    ∙ ap (λ l. known_in w x ∷ l) (same_known v w xs (λ s on. h s (in_rest x s xs on)))

pub same_rows : (v w : World) (name : List ℕ) (i j : Instance) → j ≡ i → ((s : ℕ) → has (held_for name i.callbacks) s ≡ true → row_known v s ≡ row_known w s) → held_rows v name j ≡ held_rows w name i
same_rows v w name i j is h =
    ap (held_rows v name) is ∙ held_by_known v name i ∙ ap (λ (ks : List Known). rows_known (in_order better_known ks)) (same_known v w (held_for name i.callbacks) h) ∙ sym (held_by_known w name i)
