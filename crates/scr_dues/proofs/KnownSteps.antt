-- What is known of an instance in the making stays so as it is told of a due callback, and as a callback ends that isn't an Unbind.
use Rattle.std.proofs.Common.{◌≡◌, ◌<◌, ◌∙◌, ap, sym, refl, arith, subst, cond, ℕ, zero, suc, ◌+◌, List, [], ◌∷◌, ◌++◌, Bool, true, false, ◌&&◌, inl, inr, Option, Some, None, drop, map}
use Rattle.std.specs.List.{Contains, enumerate_from, slice_index_or}
use Rattle.std.specs.Str.{bytes_eq}
use Rattle.callback_orders.specs.declared.callback.Callback.{Callback}
use Rattle.callback_orders.specs.declared.callback.Callback.TheVariants.{Create, Bind, Updated, Unbind, Activate, Modified, Deactivate, Destroy}
use Rattle.callback_orders.specs.declared.callback.Outcome.{Outcome}
use Rattle.callback_orders.specs.declared.due.DueRef.{DueRef}
use Rattle.callback_orders.specs.declared.due.DueRef.TheVariants.{Create as CreateDue, Bind as BindDue, Updated as UpdatedDue, Unbind as UnbindDue, Activate as ActivateDue, Modified as ModifiedDue, Deactivate as DeactivateDue, Destroy as DestroyDue}
use Rattle.callback_orders.specs.declared.word.Called.{Called}
use Rattle.callback_orders.specs.Due.{due_of}
use Rattle.callback_orders.specs.Grammar.{is_unbind}
use Rattle.callback_orders.specs.Lives.{callback_of, held_after, held_by, held_for}
use Rattle.callback_orders.specs.References.{to_bind}
use Rattle.callback_orders.specs.Sequences.{begun, ended}
use Rattle.callback_orders.proofs.HeldLemmas.{text_is}
use Rattle.component_dto.specs.declared.description.Reference.{Reference}
use Rattle.component_state.specs.Reasons.{choice_at}
use Rattle.component_state.proofs.Apart.{in_cases, in_none}
use Rattle.prop_map.specs.Words.{with_places}
use Rattle.reference_match.specs.Targets.{is_static}
use Rattle.scr_world.specs.declared.instance.Instance.{Instance}
use Rattle.scr_world.specs.declared.world.World.{World}
use Rattle.scr_world.specs.Dues.{names_of}
use Rattle.scr_world.specs.Instances.{last_is}
use Rattle.scr_world.specs.Views.{ends, reference_view, references_in, view_of}
use Rattle.scr_dues.specs.declared.making.Making.{Making}
use Rattle.scr_dues.specs.Makings.{HoldsUpTo, IsKnown, holds_choice}
use Rattle.scr_dues.proofs.DueBinds.{due_binds, viewed}
use Rattle.scr_dues.proofs.InMaking.{none_to_bind}
use Rattle.scr_dues.proofs.KnownPlaces.{not_before}
use Rattle.scr_dues.proofs.OwnNames.{own_names}

-- ---- what is held

-- it's the Bind of a service for the reference of a name
abbrev pub binds_for : List ℕ → Callback → Bool
binds_for name (Bind reference service) = bytes_eq reference name
binds_for name _ = false

held_over : (name held : List ℕ) (calls : List Called) (c : Called) → held_after name held (calls ++ c ∷ []) ≡ held_by name c.callback c.outcome (held_after name held calls)
held_over name held [] c = refl
held_over name held (d ∷ calls) c = held_over name (held_by name d.callback d.outcome held) calls c

begins : (name held : List ℕ) (callback : Callback) → binds_for name callback ≡ false → held_by name callback None held ≡ held
begins name held Create off = refl
begins name held (Bind r s) off = ap (λ b. cond b (held ++ s ∷ []) held) off
begins name held (Updated r s) off = refl
begins name held (Unbind r s) off = refl
begins name held Activate off = refl
begins name held Modified off = refl
begins name held Deactivate off = refl
begins name held Destroy off = refl

pub begun_held : (name : List ℕ) (calls : List Called) (callback : Callback) → binds_for name callback ≡ false → held_for name (calls ++ begun callback ∷ []) ≡ held_for name calls
begun_held name calls callback off = held_over name [] calls (begun callback) ∙ begins name (held_for name calls) callback off

ends_so : (name held : List ℕ) (callback : Callback) (o : Option Outcome) (outcome : Outcome) → is_unbind callback ≡ false → held_by name callback (Some outcome) held ≡ held_by name callback o held
ends_so name held Create o outcome off = refl
ends_so name held (Bind r s) o outcome off = refl
ends_so name held (Updated r s) o outcome off = refl
ends_so name held (Unbind r s) o outcome off = cc
ends_so name held Activate o outcome off = refl
ends_so name held Modified o outcome off = refl
ends_so name held Deactivate o outcome off = refl
ends_so name held Destroy o outcome off = refl

ended_after : (name held : List ℕ) (calls : List Called) (outcome : Outcome) → last_is is_unbind calls ≡ false → held_after name held (ended outcome calls) ≡ held_after name held calls
ended_after name held [] outcome off = refl
ended_after name held (c ∷ []) outcome off = ends_so name held c.callback c.outcome outcome off
ended_after name held (c ∷ d ∷ calls) outcome off = ended_after name (held_by name c.callback c.outcome held) (d ∷ calls) outcome off

pub ended_held : (name : List ℕ) (calls : List Called) (outcome : Outcome) → last_is is_unbind calls ≡ false → held_for name (ended outcome calls) ≡ held_for name calls
ended_held name calls outcome off = ended_after name [] calls outcome off

-- ---- an instance that holds the same for the references before the place

pub held_same : (i j : Instance) (rs : List Reference) (m : Making) → j.origin ≡ i.origin → ((q : ℕ × Reference) → Contains (with_places 0 rs) q → q.0 < m.place → held_for q.1.name j.callbacks ≡ held_for q.1.name i.callbacks)
    → HoldsUpTo i rs m → HoldsUpTo j rs m
held_same i j rs m origin same known = record {
  before = λ q h low. (λ k. is_static q.1.policy && bytes_eq (same q h low k) (choice_at (origin k).chosen q.0)) ∙ known.before q h low;
  behind = λ later from. (λ k. choice_at (drop m.choices (origin k).chosen) later) ∙ known.behind later from ∙ (λ k. choice_at (sym origin k).chosen later);
}

-- ---- a due callback

name_at : (k place : ℕ) (rs : List Reference) (r : Reference) → Contains (enumerate_from k rs) (k + place, r) → slice_index_or (map (λ (x : Reference). x.name) rs) place [] ≡ r.name
name_at k place [] r h = absurd (in_none (k + place, r) h)
name_at k zero (x ∷ xs) r h = elim (in_cases (k, x) (enumerate_from (k + 1) xs) (k + 0, r) h) [
  | inl same ↦ ap (λ (p : ℕ × Reference). p.1.name) same
  | inr later ↦ absurd (let more = not_before (k + 1) xs (k + 0, r) later in omega (arith, more))
]
name_at k (suc place) (x ∷ xs) r h = elim (in_cases (k, x) (enumerate_from (k + 1) xs) (k + suc place, r) h) [
  | inl same ↦ absurd (let at : k ≡ k + suc place = ap (λ (p : ℕ × Reference). p.0) same in omega (arith, at))
  | inr later ↦ (let at : k + suc place ≡ k + 1 + place = omega arith in name_at (k + 1) place xs r (subst (λ n. Contains (enumerate_from (k + 1) xs) (n, r)) at later))
]

module _ (w : World) (i : Instance) (m : Making) (known : IsKnown w i m) where
  -- a Bind that is due isn't for a reference before the place
  bind_spares : (n place service : ℕ) → due_of (view_of w i) ≡ Some (BindDue n place service) → (q : ℕ × Reference) → Contains (with_places 0 (references_in w i)) q → q.0 < m.place → bytes_eq (slice_index_or (names_of w i) place []) q.1.name ≡ false
  bind_spares n place service is q h low = go (bytes_eq (slice_index_or (names_of w i) place []) q.1.name) refl
    where
      go : (b : Bool) → bytes_eq (slice_index_or (names_of w i) place []) q.1.name ≡ b → bytes_eq (slice_index_or (names_of w i) place []) q.1.name ≡ false
      go false off = off
      go true on =
          let rs = references_in w i in
          let there = due_binds (view_of w i) n place service is in
          let found = viewed (reference_view (ends w i) w i) 0 rs place there.0 there.1.0 in
          let at : place ≡ 0 + place = omega arith in
          let name = name_at 0 place rs found.0 (subst (λ k. Contains (with_places 0 rs) (k, found.0)) at found.1.0) in
          let some : 0 < m.place = omega (arith, low) in
          let one = own_names rs (known.names some) (place, found.0) q found.1.0 h (sym name ∙ text_is (slice_index_or (names_of w i) place []) q.1.name on) in
          let none = none_to_bind w i (place, found.0) (ap (holds_choice i) one ∙ known.holds.before q h low) (ends w i) in
          let both : None ≡ Some service = sym none ∙ ap to_bind found.1.1 ∙ there.1.1 in
          cc

  pub due_spares : (d : DueRef) → due_of (view_of w i) ≡ Some d → (q : ℕ × Reference) → Contains (with_places 0 (references_in w i)) q → q.0 < m.place → binds_for q.1.name (callback_of (names_of w i) d) ≡ false
  due_spares (CreateDue key) is q h low = refl
  due_spares (BindDue n place service) is q h low = bind_spares n place service is q h low
  due_spares (UpdatedDue n place service) is q h low = refl
  due_spares (UnbindDue n place service) is q h low = refl
  due_spares (ActivateDue n) is q h low = refl
  due_spares (ModifiedDue n) is q h low = refl
  due_spares (DeactivateDue n) is q h low = refl
  due_spares (DestroyDue n) is q h low = refl

  -- as it is told of its due callback
  pub told_known : (d : DueRef) → due_of (view_of w i) ≡ Some d → (j : Instance) → j.origin ≡ i.origin → j.callbacks ≡ i.callbacks ++ begun (callback_of (names_of w i) d) ∷ [] → HoldsUpTo j (references_in w i) m
  told_known d is j origin told = held_same i j (references_in w i) m origin
      (λ q h low. ap (held_for q.1.name) told ∙ begun_held q.1.name i.callbacks (callback_of (names_of w i) d) (due_spares d is q h low)) known.holds

  -- as a callback ends that isn't an Unbind
  pub ended_known : (outcome : Outcome) → last_is is_unbind i.callbacks ≡ false → (j : Instance) → j.origin ≡ i.origin → j.callbacks ≡ ended outcome i.callbacks → HoldsUpTo j (references_in w i) m
  ended_known outcome off j origin told = held_same i j (references_in w i) m origin (λ q h low. ap (held_for q.1.name) told ∙ ended_held q.1.name i.callbacks outcome off) known.holds
