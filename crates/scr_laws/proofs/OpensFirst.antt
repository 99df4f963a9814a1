-- A Create is due for an open period alone: it is due for a missing key, and the callbacks due of instances are no Creates.
use Rattle.std.proofs.Common.{◌≡◌, ℕ, List, [], ◌∷◌, ◌++◌, ap, sym, ◌∙◌, subst, refl, cond, Bool, true, false, ◌&&◌, inl, inr, ◌⊎◌, Option, Some, None}
use Rattle.std.specs.Prelude.{filter, find, filter_map, map, not, option_map, ◌==◌}
use Rattle.std.specs.List.{Contains, cons_option, last_or}
use Rattle.std.specs.Option.{option_map_or, option_or}
use Rattle.callback_orders.specs.declared.due.DueRef.{DueRef}
use Rattle.callback_orders.specs.declared.due.DueRef.TheVariants.{Create as CreateDue, Bind, Updated, Unbind, Activate, Modified, Deactivate, Destroy}
use Rattle.callback_orders.specs.declared.instance_view.InstanceView.{InstanceView}
use Rattle.callback_orders.specs.declared.instance_view.Key.{Key}
use Rattle.callback_orders.specs.declared.instance_view.Phase.{Phase}
use Rattle.callback_orders.specs.declared.instance_view.Phase.TheVariants.{Making, Active, Left}
use Rattle.callback_orders.specs.declared.instance_view.ReferenceView.{ReferenceView}
use Rattle.callback_orders.specs.Due.{bind_at, bind_or_unbind, due_in_phase, due_of, due_while_active, due_while_ending, first_due, let_go_at, modified_if_stale, tell_at, unbind_at}
use Rattle.callback_orders.specs.References.{differs, to_bind, to_let_go, to_tell, to_unbind}
use Rattle.prop_map.specs.Words.{first_some, with_places}
use Rattle.component_state.specs.declared.open_period.OpenPeriod.{OpenPeriod}
use Rattle.component_state.specs.Periods.{is_open}
use Rattle.scr_world.specs.declared.world.World.{World}
use Rattle.scr_world.specs.Views.{views_of}
use Rattle.scr_world.specs.Wanted.{consumers_of, has_instance, is_wanted, keys_for, keys_of, missing, consumer_views, wanted}
use Rattle.component_state.proofs.Apart.{any_from, in_either, in_first, in_none, in_rest, kept_was}
use Rattle.scr_laws.specs.Calms.{OpensFirst}
use Rattle.scr_laws.proofs.Listed.{joined_was, mapped_was, single}

abbrev NoCreate : Option DueRef → Type 0
NoCreate o = (key : Key) → o ≡ Some (CreateDue key) → ⊥

none_due : NoCreate None
none_due key e = cc

mapped_due : (f : ℕ → DueRef) → ((s : ℕ) → NoCreate (Some (f s))) → (o : Option ℕ) → NoCreate (option_map f o)
mapped_due f each None = none_due
mapped_due f each (Some s) = each s

either_due : (o p : Option DueRef) → NoCreate o → NoCreate p → NoCreate (option_or o p)
either_due None p a b = b
either_due (Some d) p a b = a

first_is_due : (os : List (Option DueRef)) → ((o : Option DueRef) → Contains os o → NoCreate o) → NoCreate (first_some os)
first_is_due [] each = none_due
first_is_due (None ∷ os) each = first_is_due os (λ p h. each p (in_rest None os p h))
first_is_due (Some d ∷ os) each = each (Some d) (in_first (Some d) os)

module _ (i : ℕ) where
  bind_due : (r : ℕ × ReferenceView) → NoCreate (bind_at i r)
  bind_due r = mapped_due (λ s. Bind i r.0 s) (λ s key e. cc) (to_bind r.1)

  unbind_due : (r : ℕ × ReferenceView) → NoCreate (unbind_at i r)
  unbind_due r = mapped_due (λ s. Unbind i r.0 s) (λ s key e. cc) (to_unbind r.1)

  tell_due : (r : ℕ × ReferenceView) → NoCreate (tell_at i r)
  tell_due r = mapped_due (λ s. Updated i r.0 s) (λ s key e. cc) (to_tell r.1)

  making_due : (o : Option (ℕ × ReferenceView)) → NoCreate (option_map_or (bind_or_unbind i) o (Some (Activate i)))
  making_due None = λ key e. cc
  making_due (Some r) = either_due (bind_at i r) (unbind_at i r) (bind_due r) (unbind_due r)

  leaving_due : (o : Option DueRef) (rs : List (ℕ × ReferenceView)) → NoCreate o → NoCreate (last_or o (filter_map (let_go_at i) rs))
  leaving_due o [] no_create = no_create
  leaving_due o (r ∷ rs) no_create = go (to_let_go r.1) (λ p none. leaving_due p rs none)
    where
      go : (q : Option ℕ) → ((p : Option DueRef) → NoCreate p → NoCreate (last_or p (filter_map (let_go_at i) rs))) → NoCreate (last_or o (cons_option (option_map (λ s. Unbind i r.0 s) q) (filter_map (let_go_at i) rs)))
      go None later = later o no_create
      go (Some s) later = later (Some (Unbind i r.0 s)) (λ key e. cc)

module _ (v : InstanceView) where
  modified_due : (b : Bool) → NoCreate (cond b (Some (Modified v.instance)) None)
  modified_due true = λ key e. cc
  modified_due false = none_due

  in_map_due : (f : ℕ × ReferenceView → Option DueRef) → ((r : ℕ × ReferenceView) → NoCreate (f r)) → (rs : List (ℕ × ReferenceView)) (o : Option DueRef) → Contains (map f rs) o → NoCreate o
  in_map_due f each rs o h = let was = mapped_was f rs o h in subst NoCreate was.1.1 (each was.0)

  active_due : NoCreate (due_while_active v)
  active_due = first_is_due
      (map (bind_at v.instance) (with_places 0 v.references) ++ map (unbind_at v.instance) (with_places 0 v.references) ++ map (tell_at v.instance) (with_places 0 v.references) ++ modified_if_stale v ∷ [])
      (λ o h. go o (in_either (binds ++ unbinds ++ tells) (modified_if_stale v ∷ []) o h))
    where
      binds : List (Option DueRef)
      binds = map (bind_at v.instance) (with_places 0 v.references)

      unbinds : List (Option DueRef)
      unbinds = map (unbind_at v.instance) (with_places 0 v.references)

      tells : List (Option DueRef)
      tells = map (tell_at v.instance) (with_places 0 v.references)

      one : (o : Option DueRef) → Contains binds o ⊎ Contains unbinds o → NoCreate o
      one o (inl a) = in_map_due (bind_at v.instance) (bind_due v.instance) (with_places 0 v.references) o a
      one o (inr a) = in_map_due (unbind_at v.instance) (unbind_due v.instance) (with_places 0 v.references) o a

      two : (o : Option DueRef) → Contains (binds ++ unbinds) o ⊎ Contains tells o → NoCreate o
      two o (inl a) = one o (in_either binds unbinds o a)
      two o (inr a) = in_map_due (tell_at v.instance) (tell_due v.instance) (with_places 0 v.references) o a

      go : (o : Option DueRef) → Contains (binds ++ unbinds ++ tells) o ⊎ Contains (modified_if_stale v ∷ []) o → NoCreate o
      go o (inl a) = two o (in_either (binds ++ unbinds) tells o a)
      go o (inr a) = subst NoCreate (single (modified_if_stale v) o a) (modified_due v.stale)

  deactivate_due : (b : Bool) → NoCreate (cond b (Some (Deactivate v.instance)) None)
  deactivate_due true = λ key e. cc
  deactivate_due false = none_due

  ending_due : (phase : Phase) → NoCreate (due_while_ending v phase)
  ending_due Active = deactivate_due (v.unheld && v.drained)
  ending_due Making = leaving_due v.instance (Some (Destroy v.instance)) (with_places 0 v.references) (λ key e. cc)
  ending_due Left = leaving_due v.instance (Some (Destroy v.instance)) (with_places 0 v.references) (λ key e. cc)

  phase_due : (phase : Phase) → NoCreate (due_in_phase v phase)
  phase_due Making = making_due v.instance (find (λ (r : ℕ × ReferenceView). differs r.1) (with_places 0 v.references))
  phase_due Active = active_due
  phase_due Left = none_due

  view_due : NoCreate (due_of v)
  view_due = go v.outstanding v.ending
    where
      go : (a b : Bool) → NoCreate (cond a None (cond b (due_while_ending v v.phase) (due_in_phase v v.phase)))
      go true b = none_due
      go false true = ending_due v.phase
      go false false = phase_due v.phase

-- a Create that is due is that of a wanted key
pub create_is_wanted : (views : List InstanceView) (keys : List Key) (key : Key) → first_due views keys ≡ Some (CreateDue key) → Contains keys key
create_is_wanted [] [] key e = absurd cc
create_is_wanted [] (k ∷ ks) key e = let same : k ≡ key = cc in subst (λ (x : Key). Contains (k ∷ ks) x) same (in_first k ks)
create_is_wanted (v ∷ views) keys key e = go (due_of v) (view_due v) e (create_is_wanted views keys key)
  where
    go : (o : Option DueRef) → NoCreate o → first_some (o ∷ map due_of views ++ map (λ (k : Key). Some (CreateDue k)) keys) ≡ Some (CreateDue key) → (first_due views keys ≡ Some (CreateDue key) → Contains keys key) → Contains keys key
    go None none is later = later is
    go (Some d) none is later = absurd (none key is)

-- an item of what is made of the first that a test finds
pub of_found : {X Y : Type 0} (f : X → List Y) (test : X → Bool) (xs : List X) (y : Y) → Contains (option_map_or f (find test xs) []) y → (x : X) × (Contains xs x × ((test x ≡ true) × Contains (f x) y))
of_found f test [] y h = absurd (in_none y h)
of_found {X = X} f test (x ∷ xs) y h = go (test x) refl h (of_found f test xs y)
  where
    go : (b : Bool) → test x ≡ b → Contains (option_map_or f (cond b (Some x) (find test xs)) []) y → (Contains (option_map_or f (find test xs) []) y → (z : X) × (Contains xs z × ((test z ≡ true) × Contains (f z) y))) → (z : X) × (Contains (x ∷ xs) z × ((test z ≡ true) × Contains (f z) y))
    go true on k rest = (x, (in_first x xs, (on, k)))
    go false off k rest = let found = rest k in (found.0, (in_rest x xs found.0 found.1.0, found.1.1))

pub wanted_is_open : (w : World) (key : Key) → Contains (wanted w) key → is_open w.open_periods key.configuration ≡ true
wanted_is_open w key h =
    let c = joined_was (keys_for w (consumer_views w)) w.components key h in
    let p = of_found (keys_of w (consumer_views w) c.0) (λ (q : OpenPeriod). q.configuration == c.0.number) w.open_periods key c.1.1 in
    let k = mapped_was (λ consumer. record { configuration = c.0.number; consumer = consumer }) (filter (is_wanted w (consumer_views w) c.0 p.0) (consumers_of w c.0)) key p.1.1.1 in
    any_from (λ (q : OpenPeriod). q.configuration == key.configuration) w.open_periods p.0 p.1.0 (ap (λ n. p.0.configuration == n) (ap (λ (x : Key). x.configuration) (sym k.1.1)) ∙ p.1.1.0)

pub opens_first : (w : World) → OpensFirst w
opens_first w key e = wanted_is_open w key (kept_was (λ (k : Key). not (has_instance w.instances k)) (wanted w) key (create_is_wanted (views_of w) (missing w) key e)).0
