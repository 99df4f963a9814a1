-- The context in which a path is taken.
use Rattle.std.proofs.Common.{◌≡◌, ℕ, zero, suc, ◌+◌, ◌<◌, List, [], ◌∷◌, ap, sym, ◌∙◌, refl, cond, arith, Bool, true, false, length, get_or, drop, Option, Some, None, add-one, drop-cons}
use Rattle.std.specs.Prelude.{find, is_some, map, option_map}
use Rattle.prop_map.specs.Words.{first_some}
use Rattle.wb_context.specs.declared.context.Context.{Context}
use Rattle.wb_routes.proofs.OwnerLemmas.{same_taker}
use Rattle.wb_routes.specs.Choices.{choice_among, choice_in, home_among, home_in, owner_among, owner_in, taker_at, taker_in, takes, takes_in}
use Rattle.wb_routes.specs.Listing.{table_of}
use Rattle.wb_routes.specs.declared.servlet.Servlet.{Servlet}
use Rattle.wb_routes.specs.declared.table.Table.{Table}

abbrev context_of : Option Table → Option Context
context_of o = option_map (λ (t : Table). t.context) o

-- the context that is found in the tables is the one among contexts and servlets
pub same_home : (servlets : List Servlet) (contexts : List Context) (path : List ℕ) → home_in (map (table_of servlets) contexts) path ≡ home_among contexts servlets path
same_home servlets [] path = refl
same_home servlets (c ∷ contexts) path =
    ap (λ o. context_of (cond (is_some o) (Some (table_of servlets c)) (find (takes_in path) (map (table_of servlets) contexts)))) (same_taker servlets c path)
    ∙ by (takes servlets path c) (same_home servlets contexts path) where
      by : (b : Bool) → home_in (map (table_of servlets) contexts) path ≡ home_among contexts servlets path
          → context_of (cond b (Some (table_of servlets c)) (find (takes_in path) (map (table_of servlets) contexts))) ≡ cond b (Some c) (find (takes servlets path) contexts)
      by true further = refl
      by false further = further

-- the choice is who takes the path there
pub chosen_at_home : (servlets : List Servlet) (contexts : List Context) (path : List ℕ) → choice_among contexts servlets path ≡ taker_at servlets path (home_among contexts servlets path)
chosen_at_home servlets [] path = refl
chosen_at_home servlets (c ∷ contexts) path = by (taker_in c (owner_among servlets c) path) refl (chosen_at_home servlets contexts path) where
  by : (o : Option ℕ) → taker_in c (owner_among servlets c) path ≡ o → choice_among contexts servlets path ≡ taker_at servlets path (home_among contexts servlets path)
      → choice_among (c ∷ contexts) servlets path ≡ taker_at servlets path (home_among (c ∷ contexts) servlets path)
  by (Some x) e further =
      ap (λ p. first_some (p ∷ map (λ d. taker_in d (owner_among servlets d) path) contexts)) e ∙ sym e
      ∙ sym (ap (λ p. taker_at servlets path (cond (is_some p) (Some c) (home_among contexts servlets path))) e)
  by None e further =
      ap (λ p. first_some (p ∷ map (λ d. taker_in d (owner_among servlets d) path) contexts)) e ∙ further
      ∙ sym (ap (λ p. taker_at servlets path (cond (is_some p) (Some c) (home_among contexts servlets path))) e)

-- ---- the tables are looked through in order

-- the table at a place takes the path, or those behind it do
pub home_here : (tables : List Table) (k : ℕ) (d : Table) (path : List ℕ) → k < length tables → takes_in path (get_or tables k d) ≡ true → Some (get_or tables k d).context ≡ home_in (drop k tables) path
home_here tables k d path h e =
    sym (ap (λ b. context_of (cond b (Some (get_or tables k d)) (find (takes_in path) (drop (suc k) tables)))) e) ∙ sym (ap (λ ts. home_in ts path) (drop-cons tables k d h))

pub home_later : (tables : List Table) (k : ℕ) (d : Table) (path : List ℕ) → k < length tables → takes_in path (get_or tables k d) ≡ false → home_in (drop k tables) path ≡ home_in (drop (k + 1) tables) path
home_later tables k d path h e =
    ap (λ ts. home_in ts path) (drop-cons tables k d h) ∙ ap (λ b. context_of (cond b (Some (get_or tables k d)) (find (takes_in path) (drop (suc k) tables)))) e
    ∙ ap (λ n. home_in (drop n tables) path) (sym (add-one k))

-- where there is no choice there is no such context
pub no_home : (tables : List Table) (path : List ℕ) → choice_in tables path ≡ None → home_in tables path ≡ None
no_home [] path e = refl
no_home (t ∷ tables) path e = by (taker_in t.context (owner_in t.rows) path) refl (no_home tables path) where
  by : (o : Option ℕ) → taker_in t.context (owner_in t.rows) path ≡ o → (choice_in tables path ≡ None → home_in tables path ≡ None) → home_in (t ∷ tables) path ≡ None
  by (Some x) f further = let g : Some x ≡ None = sym (ap (λ o. first_some (o ∷ map (λ (s : Table). taker_in s.context (owner_in s.rows) path) tables)) f) ∙ e in cc
  by None f further =
      ap (λ o. context_of (cond (is_some o) (Some t) (find (takes_in path) tables))) f
      ∙ further (sym (ap (λ o. first_some (o ∷ map (λ (s : Table). taker_in s.context (owner_in s.rows) path) tables)) f) ∙ e)
