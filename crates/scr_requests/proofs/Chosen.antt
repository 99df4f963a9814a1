-- The servlet that is chosen for a path is one of those whose services are held.
use Rattle.std.proofs.Common.{◌≡◌, ℕ, List, [], ◌∷◌, ◌++◌, ap, sym, ◌∙◌, refl, subst, Bool, true, false, ◌||◌, Option, Some, None, inl, inr}
use Rattle.std.specs.Prelude.{codes, find, flat_map, map, option_map, if◌then◌else◌, ◌==◌}
use Rattle.std.specs.List.{Contains}
use Rattle.std.specs.Option.{option_or}
use Rattle.std.proofs.lemmas.Bool.{eq-eqb, eqb-true, or_right}
use Rattle.component_state.proofs.Apart.{in_cases, in_either, in_none}
use Rattle.prop_map.specs.Words.{first_some, has, in_order}
use Rattle.scr_calls.specs.Servlets.{choice}
use Rattle.scr_laws.proofs.Listed.{found_was, mapped_was}
use Rattle.scr_promises.proofs.TargetRows.{ordered_was}
use Rattle.scr_readers.specs.Reaching.{held_best_first, held_rows, some_row}
use Rattle.scr_world.specs.Worlds.{registered_services, row_known}
use Rattle.scr_world.specs.declared.world.World.{World}
use Rattle.service_registry.specs.declared.row.ServiceRow.{ServiceRow}
use Rattle.service_registry.specs.Registries.{has_number}
use Rattle.wb_context.specs.declared.context.Context.{Context}
use Rattle.wb_context.specs.ContextOrder.{contexts_in_order, covers, rest_in}
use Rattle.wb_routes.specs.Candidates.{equal_text, extension_of, texts_above, with_star}
use Rattle.wb_routes.specs.Choices.{choice_among, first_owner, has_pattern, owner_among, owner_if, taker, taker_behind, taker_by_end, taker_in}
use Rattle.wb_routes.specs.Listing.{read_contexts}
use Rattle.wb_routes.specs.Servlets.{servlet_of, servlets_of}
use Rattle.wb_routes.proofs.OwnerLemmas.{same_choice}

-- ---- what is told of each owner is told of who takes a path

module _ (P : ℕ → Type 0) where
  abbrev Gives : Option ℕ → Type 0
  Gives o = (s : ℕ) → o ≡ Some s → P s

  or_gives : (a b : Option ℕ) → Gives a → Gives b → Gives (option_or a b)
  or_gives None b one other s is = other s is
  or_gives (Some x) b one other s is = one s is

  module _ (owner : List ℕ → Option ℕ) (each : (text : List ℕ) → Gives (owner text)) where
    if_gives : (o : Option (List ℕ)) → Gives (owner_if owner o)
    if_gives None s is = cc
    if_gives (Some text) s is = each text s is

    first_gives : (texts : List (List ℕ)) → Gives (first_owner owner texts)
    first_gives [] s is = cc
    first_gives (t ∷ ts) s is = go (first_gives ts) (owner t) refl is
      where
        go : Gives (first_owner owner ts) → (o : Option ℕ) → owner t ≡ o → first_some (o ∷ map owner ts) ≡ Some s → P s
        go others None told later = others s later
        go others (Some x) told here = each t s (told ∙ here)

    taker_gives : (rest : List ℕ) → Gives (taker owner rest)
    taker_gives rest =
        or_gives (owner_if owner (equal_text rest)) (taker_behind owner rest) (if_gives (equal_text rest))
        (or_gives (first_owner owner (texts_above rest)) (taker_by_end owner rest) (first_gives (texts_above rest))
        (or_gives (owner_if owner (with_star (extension_of rest))) (owner (codes "/")) (if_gives (with_star (extension_of rest))) (each (codes "/"))))

    in_gives : (c : Context) (path : List ℕ) → Gives (taker_in c owner path)
    in_gives c path s is = go (covers c.path path) is
      where
        go : (b : Bool) → (if b then taker owner (rest_in c.path path) else None) ≡ Some s → P s
        go true taken = taker_gives (rest_in c.path path) s taken
        go false taken = cc

-- what is found among some is told of it
found_gives : {X : Type 0} (P : ℕ → Type 0) (service : X → ℕ) (t : X → Bool) (xs : List X) → ((x : X) → Contains xs x → P (service x)) → Gives P (option_map service (find t xs))
found_gives {X} P service t xs each s is = go (find t xs) refl is
  where
    go : (o : Option X) → find t xs ≡ o → option_map service o ≡ Some s → P s
    go None found told = cc
    go (Some x) found told = (let it : P (service x) = each x (found_was t xs x found).0 in let same : service x ≡ s = cc in subst P same it)

-- ---- servlets

-- one of these rows is of this service
abbrev IsRowOf : List ServiceRow → ℕ → Type 0
IsRowOf rows s = (r : ServiceRow) × Contains rows r × (r.id ≡ s)

-- what is made of each row, in an order, is of a row
each_row : {X : Type 0} (f : ServiceRow → X) (before : X → X → Bool) (service : X → ℕ) (rows : List ServiceRow) → ((r : ServiceRow) → service (f r) ≡ r.id) → (x : X)
    → Contains (in_order before (map f rows)) x → IsRowOf rows (service x)
each_row f before service rows same x h =
    let was = mapped_was f rows x (ordered_was before (map f rows) x h) in
    (was.0, was.1.0, sym (same was.0) ∙ ap service was.1.1)

among_gives : (rows : List ServiceRow) (c : Context) (text : List ℕ) → Gives (IsRowOf rows) (owner_among (servlets_of rows) c text)
among_gives rows c text = found_gives (IsRowOf rows) _ _ (servlets_of rows) (each_row servlet_of _ _ rows (λ r. refl))

choice_gives : (rows : List ServiceRow) (contexts : List Context) (path : List ℕ) → Gives (IsRowOf rows) (choice_among contexts (servlets_of rows) path)
choice_gives rows [] path s is = cc
choice_gives rows (c ∷ cs) path s is = go (choice_gives rows cs path) (taker_in c (owner_among (servlets_of rows) c) path) refl is
  where
    go : Gives (IsRowOf rows) (choice_among cs (servlets_of rows) path) → (o : Option ℕ) → taker_in c (owner_among (servlets_of rows) c) path ≡ o
        → first_some (o ∷ map (λ d. taker_in d (owner_among (servlets_of rows) d) path) cs) ≡ Some s → IsRowOf rows s
    go others None told later = others s later
    go others (Some x) told here = in_gives (IsRowOf rows) (owner_among (servlets_of rows) c) (among_gives rows c) c path s (told ∙ here)

or_left_true : (a b : Bool) → a ≡ true → (a || b) ≡ true
or_left_true true b is = refl
or_left_true false b is = cc

rows_was : (w : World) (ns : List ℕ) (row : ServiceRow) → Contains (flat_map (λ s. some_row (row_known w s)) ns) row → has ns row.id ≡ true
rows_was w [] row h = absurd (in_none row h)
rows_was w (n ∷ ns) row h = elim (in_either (some_row (row_known w n)) (flat_map (λ s. some_row (row_known w s)) ns) row h) [
  | inl here ↦ at_once (row_known w n) refl here
  | inr later ↦ or_right (n == row.id) (has ns row.id) (rows_was w ns row later)
]
  where
    at_once : (o : Option ServiceRow) → row_known w n ≡ o → Contains (some_row o) row → has (n ∷ ns) row.id ≡ true
    at_once None known here = absurd (in_none row here)
    at_once (Some r) known here = elim (in_cases r [] row here) [
      | inl same ↦ (
          let found = found_was (has_number n) (registered_services w ++ w.unregistered_held) r known in
          let number : r.id ≡ n = eqb-true r.id n found.1 in
          let its : n ≡ row.id = sym number ∙ ap (λ (y : ServiceRow). y.id) same in
          or_left_true (n == row.id) (has ns row.id) (eq-eqb n row.id its))
      | inr none ↦ absurd (in_none row none)
    ]

-- who is chosen is held as a servlet
pub chosen_held : (w : World) (path : List ℕ) (s : ℕ) → choice w path ≡ Some s → has (held_best_first w (codes "servlets") w.whiteboard) s ≡ true
chosen_held w path s is =
    let rows = held_rows w (codes "servlets") w.whiteboard in
    let contexts = contexts_in_order (read_contexts (held_rows w (codes "contexts") w.whiteboard)) in
    let row : IsRowOf rows s = choice_gives rows contexts path s (sym (same_choice (servlets_of rows) contexts path) ∙ is) in
    ap (has (held_best_first w (codes "servlets") w.whiteboard)) (sym row.2) ∙ rows_was w (held_best_first w (codes "servlets") w.whiteboard) row.0 row.1
