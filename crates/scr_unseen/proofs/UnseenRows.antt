-- A service that meets no need comes, goes or changes: each need is met by the same direct services.
use Rattle.std.proofs.Common.{◌≡◌, ℕ, ◌+◌, List, [], ◌∷◌, ◌++◌, ap, sym, ◌∙◌, refl, subst, cond, Bool, true, false, ◌||◌, inl, inr}
use Rattle.std.specs.Prelude.{filter, map, not}
use Rattle.std.specs.List.{Contains, list_all}
use Rattle.std.proofs.lemmas.Bool.{and_parts, eq-eqb}
use Rattle.component_state.specs.declared.component.Component.{Component}
use Rattle.component_state.specs.Components.{needs_of}
use Rattle.component_state.proofs.Apart.{in_cases, in_first, in_none, in_rest, in_right, kept_over, not_true}
use Rattle.prop_map.specs.declared.properties.Property.{Property}
use Rattle.reference_match.specs.declared.need.Need.{Need}
use Rattle.reference_match.specs.Targets.{meets}
use Rattle.scr_laws.specs.Stills.{SeeSame}
use Rattle.scr_laws.proofs.Legal.{in_map}
use Rattle.scr_unseen.specs.Unseen.{is_unmet, is_unseen, meets_none}
use Rattle.scr_world.specs.Tables.{direct_scope, registry_by}
use Rattle.scr_world.specs.Whiteboard.{platform_rows}
use Rattle.scr_world.specs.Worlds.{direct_services}
use Rattle.scr_world.specs.declared.command.Command.TheVariants.{Get, Listen, Register, SetProperties, Unget, Unlisten, Unregister}
use Rattle.scr_world.specs.declared.step.Step.{Step}
use Rattle.scr_world.specs.declared.step.Step.TheVariants.{Command as Commanded}
use Rattle.scr_world.specs.declared.world.World.{World}
use Rattle.service_registry.specs.Registries.{has_number, new_row, set_row}
use Rattle.service_registry.specs.declared.row.ServiceRow.{ServiceRow}

-- ---- lists

all_have : {X : Type 0} (p : X → Bool) (xs : List X) → list_all p xs ≡ true → (x : X) → Contains xs x → p x ≡ true
all_have p [] is x h = absurd (in_none x h)
all_have p (y ∷ ys) is x h = let both = and_parts (p y) (list_all p ys) is in
    elim (in_cases y ys x h) [
      | inl same ↦ subst (λ z. p z ≡ true) same both.0
      | inr later ↦ all_have p ys both.1 x later
    ]

module _ {X : Type 0} (t p : X → Bool) where
  -- what doesn't pass goes
  kept_without : (xs : List X) → ((x : X) → Contains xs x → p x ≡ true → t x ≡ false) → filter t (filter (λ x. not (p x)) xs) ≡ filter t xs
  kept_without [] each = refl
  kept_without (x ∷ xs) each = go (p x) refl (kept_without xs (λ y h. each y (in_rest x xs y h)))
    where
      go : (b : Bool) → p x ≡ b → filter t (filter (λ y. not (p y)) xs) ≡ filter t xs → filter t (cond (not b) (x ∷ filter (λ y. not (p y)) xs) (filter (λ y. not (p y)) xs)) ≡ cond (t x) (x ∷ filter t xs) (filter t xs)
      go true here rest = rest ∙ ap (λ b. cond b (x ∷ filter t xs) (filter t xs)) (sym (each x (in_first x xs) here))
      go false other rest = ap (λ ys. cond (t x) (x ∷ ys) ys) rest

  -- what doesn't pass changes, and doesn't pass then
  kept_changed : (f : X → X) (xs : List X) → ((x : X) → Contains xs x → p x ≡ true → t x ≡ false) → ((x : X) → Contains xs x → p x ≡ true → t (f x) ≡ false)
      → filter t (map (λ x. cond (p x) (f x) x) xs) ≡ filter t xs
  kept_changed f [] was now = refl
  kept_changed f (x ∷ xs) was now = go (p x) refl (kept_changed f xs (λ y h. was y (in_rest x xs y h)) (λ y h. now y (in_rest x xs y h)))
    where
      go : (b : Bool) → p x ≡ b → filter t (map (λ y. cond (p y) (f y) y) xs) ≡ filter t xs → filter t (cond b (f x) x ∷ (map (λ y. cond (p y) (f y) y) xs)) ≡ cond (t x) (x ∷ filter t xs) (filter t xs)
      go true here rest = ap (λ b. cond b (f x ∷ filter t (map (λ y. cond (p y) (f y) y) xs)) (filter t (map (λ y. cond (p y) (f y) y) xs))) (now x (in_first x xs) here) ∙ rest ∙ ap (λ b. cond b (x ∷ filter t xs) (filter t xs)) (sym (was x (in_first x xs) here))
      go false other rest = ap (λ ys. cond (t x) (x ∷ ys) ys) rest

-- what doesn't pass comes
kept_more : {X : Type 0} (t : X → Bool) (xs : List X) (x : X) → t x ≡ false → filter t (xs ++ x ∷ []) ≡ filter t xs
kept_more t [] x off = ap (λ b. cond b (x ∷ []) []) off
kept_more t (y ∷ ys) x off = ap (λ zs. cond (t y) (y ∷ zs) zs) (kept_more t ys x off)

-- ---- rows

module _ (cs : List Component) (c : Component) (here : Contains cs c) (n : Need) (needed : Contains (needs_of c) n) where
  unmet : (service : ℕ) (rows : List ServiceRow) → is_unmet cs service rows ≡ true → (r : ServiceRow) → Contains rows r → has_number service r ≡ true → meets n r ≡ false
  unmet service rows is r h number =
      let either = all_have (λ (x : ServiceRow). not (has_number service x) || meets_none cs x) rows is r h in
      let none : meets_none cs r ≡ true = sym (ap (λ b. not b || meets_none cs r) number) ∙ either in
      not_true (meets n r) (all_have (λ (m : Need). not (meets m r)) (needs_of c) (all_have (λ (d : Component). list_all (λ (m : Need). not (meets m r)) (needs_of d)) cs none c here) n needed)

  rows_registered : (bundle : ℕ) (interfaces : List (List ℕ)) (properties : List Property) (rows : List ServiceRow) (numbered : ℕ)
      → is_unmet cs (numbered + 1) (rows ++ new_row (numbered + 1) bundle interfaces direct_scope properties true ∷ []) ≡ true
      → filter (meets n) (rows ++ new_row (numbered + 1) bundle interfaces direct_scope properties true ∷ []) ≡ filter (meets n) rows
  rows_registered bundle interfaces properties rows numbered is =
      let new = new_row (numbered + 1) bundle interfaces direct_scope properties true in
      kept_more (meets n) rows new (unmet (numbered + 1) (rows ++ new ∷ []) is new (in_right rows (new ∷ []) new (in_first new [])) (eq-eqb (numbered + 1) (numbered + 1) refl))

  rows_unregistered : (service : ℕ) (rows : List ServiceRow) → is_unmet cs service rows ≡ true → filter (meets n) (filter (λ (r : ServiceRow). not (has_number service r)) rows) ≡ filter (meets n) rows
  rows_unregistered service rows is = kept_without (meets n) (has_number service) rows (unmet service rows is)

  rows_set : (service : ℕ) (properties : List Property) (rows : List ServiceRow) → is_unmet cs service rows ≡ true
      → is_unmet cs service (map (λ (r : ServiceRow). cond (has_number service r) (set_row properties r) r) rows) ≡ true
      → filter (meets n) (map (λ (r : ServiceRow). cond (has_number service r) (set_row properties r) r) rows) ≡ filter (meets n) rows
  rows_set service properties rows was now =
      let f : ServiceRow → ServiceRow = λ r. cond (has_number service r) (set_row properties r) r in
      kept_changed (meets n) (has_number service) (set_row properties) rows (unmet service rows was)
      (λ r h number. let set : f r ≡ set_row properties r = ap (λ b. cond b (set_row properties r) r) number in
      ap (meets n) (sym set) ∙ unmet service (map f rows) now (f r) (in_map f rows r h) (ap (has_number service) set ∙ number))

rows_same : (step : Step) (w : World) → is_unseen step w ≡ true → (c : Component) → Contains w.components c → (n : Need) → Contains (needs_of c) n
    → filter (meets n) (registry_by step w.registry).rows ≡ filter (meets n) w.registry.rows
rows_same (Commanded (Register bundle interfaces properties)) w is c here n needed =
    rows_registered w.components c here n needed bundle interfaces properties w.registry.rows w.registry.numbered (and_parts (is_unmet w.components (w.registry.numbered + 1) w.registry.rows) _ is).1
rows_same (Commanded (Unregister bundle service)) w is c here n needed =
    rows_unregistered w.components c here n needed service w.registry.rows (and_parts (is_unmet w.components service w.registry.rows) _ is).0
rows_same (Commanded (SetProperties bundle service properties)) w is c here n needed =
    let both = and_parts (is_unmet w.components service w.registry.rows) _ is in
    rows_set w.components c here n needed service properties w.registry.rows both.0 both.1
rows_same (Commanded (Get bundle service)) w is c here n needed = refl
rows_same (Commanded (Unget bundle service)) w is c here n needed = refl
rows_same (Commanded (Listen bundle filter)) w is c here n needed = refl
rows_same (Commanded (Unlisten listener)) w is c here n needed = refl
rows_same step w is c here n needed = absurd cc

-- so no need tells the direct services apart
pub see_same : (step : Step) (w : World) → is_unseen step w ≡ true → SeeSame (direct_services w) (platform_rows ++ (registry_by step w.registry).rows) w.components
see_same step w is c here n needed =
    kept_over (meets n) platform_rows w.registry.rows
    ∙ ap (λ rows. filter (meets n) platform_rows ++ rows) (sym (rows_same step w is c here n needed))
    ∙ sym (kept_over (meets n) platform_rows (registry_by step w.registry).rows)
