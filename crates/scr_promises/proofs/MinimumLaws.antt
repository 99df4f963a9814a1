-- From the beginning of its Activate to the end of its Deactivate an instance holds as many services for each reference as the least minimum that this has had since its Create, also
-- when the callback that is under way has ended.
use Rattle.std.proofs.Common.{◌≡◌, ◌≤◌, ℕ, List, [], ◌∷◌, ◌++◌, ap, sym, ◌∙◌, subst, Bool, true, false, inl, inr, Some}
use Rattle.std.specs.Prelude.{◌==◌}
use Rattle.std.specs.List.{Contains, slice_index_or}
use Rattle.std.specs.Str.{bytes_eq}
use Rattle.std.proofs.lemmas.Bool.{and_parts, both_ways, cases_Bool, eqb-true}
use Rattle.callback_orders.specs.declared.callback.Callback.{Callback}
use Rattle.callback_orders.specs.declared.callback.Callback.TheVariants.{Activate, Create, Unbind}
use Rattle.callback_orders.specs.declared.callback.Outcome.TheVariants.{Done}
use Rattle.callback_orders.specs.declared.due.DueRef.{DueRef}
use Rattle.callback_orders.specs.declared.due.DueRef.TheVariants.{Activate as ActivateDue, Unbind as UnbindDue}
use Rattle.callback_orders.specs.declared.instance_view.InstanceView.{InstanceView}
use Rattle.callback_orders.specs.declared.instance_view.ReferenceView.{ReferenceView}
use Rattle.callback_orders.specs.declared.word.Called.{Called}
use Rattle.callback_orders.specs.Due.{due_of}
use Rattle.callback_orders.specs.Lives.{callback_of, held_for, phase_of}
use Rattle.callback_orders.specs.References.{holds_all, is_desired}
use Rattle.callback_orders.specs.Sequences.{begun, is_outstanding}
use Rattle.callback_orders.proofs.HeldLemmas.{text_is}
use Rattle.component_dto.specs.declared.description.Reference.{Reference}
use Rattle.component_state.specs.declared.origin.Origin.{Origin}
use Rattle.journal_core.specs.declared.entry.Entry.{Entry}
use Rattle.prop_map.specs.Words.{has}
use Rattle.scr_promises.proofs.Comings.{IsNext, closes, gains, keeps, not_board, one_made, whiteboard}
use Rattle.scr_promises.proofs.DueCallbacks.{due_stands}
use Rattle.scr_promises.proofs.EndingLaws.{board_number, comes, none_at_first}
use Rattle.scr_promises.proofs.InstanceComponents.{references_kept}
use Rattle.scr_promises.proofs.ViewedReferences.{desires_seen, holds_seen, name_there, placed_in, placed_was, viewed, viewed_at}
use Rattle.scr_laws.proofs.TurnCallbacks.{are_told_apart}
use Rattle.scr_promises.proofs.HeldLists.{held_ended}
use Rattle.scr_laws.specs.Askeds.{HasOneOfEach}
use Rattle.scr_promises.specs.Minimums.{KeepMinimum, least_minimum}
use Rattle.scr_promises.proofs.CallbackSteps.{IsClaimed, claimed_before_begin, claimed_before_end, due_activate, due_unbind, ended_twice, firm, firm_begun, step_held, unbinds_for}
use Rattle.scr_promises.proofs.DesiredMinimums.{desires_enough}
use Rattle.scr_promises.proofs.DueUnbinds.{same_holds, unbind_goes_on, unbinds_other}
use Rattle.scr_promises.proofs.LeastMinimums.{least_falls}
use Rattle.scr_promises.proofs.TargetLists.{AreEnough, fewer}
use Rattle.scr_laws.proofs.CreatedLaws.{created_before}
use Rattle.scr_laws.proofs.InstanceLemmas.{IsMade}
use Rattle.scr_promises.proofs.Waits.{holds_desired}
use Rattle.scr_world.specs.Dues.{names_of}
use Rattle.scr_world.specs.Instances.{is_active_phase}
use Rattle.scr_world.specs.Legal.{IsLegal}
use Rattle.scr_world.specs.Lists.{world_of}
use Rattle.scr_world.specs.Steps.{History}
use Rattle.scr_world.specs.Views.{desired_services, desired_unless_ending, ends, reference_view, references_in, view_of}
use Rattle.scr_world.specs.declared.instance.Instance.{Instance}
use Rattle.scr_world.specs.declared.step.Step.{Step}
use Rattle.scr_world.specs.declared.world.World.{World}

-- so many different services are held under a name, also when the callback that is under way has ended
record HoldsFirmly (calls : List Called) (name : List ℕ) (count : ℕ) : Type 0 where
  services : List ℕ
  are : AreEnough count services
  held : (s : ℕ) → has services s ≡ true → has (firm name calls) s ≡ true

no_fewer : {more less : ℕ} {calls : List Called} {name : List ℕ} → HoldsFirmly calls name more → less ≤ more → HoldsFirmly calls name less
no_fewer is low = record { services = is.services; are = fewer is.are low; held = is.held }

abbrev HoldFirmly : History → Type 0
HoldFirmly history =
    (i : Instance) → Contains (world_of history).instances i → IsClaimed i.callbacks → HasOneOfEach (λ (r : Reference). r.name) (references_in (world_of history) i) → (r : Reference) → Contains (references_in (world_of history) i) r
    → HoldsFirmly i.callbacks r.name (least_minimum i.origin.created i.origin.configuration r history)

module _ (limit : ℕ) (past : History) (legal : IsLegal limit past) (before : HoldFirmly past) (i : Instance) (h : Contains (world_of past).instances i)
    (one : HasOneOfEach (λ (r : Reference). r.name) (references_in (world_of past) i)) (r : Reference) (in_r : Contains (references_in (world_of past) i) r) where
  abbrev w : World
  w = world_of past

  abbrev refs : List Reference
  refs = references_in w i

  abbrev least : ℕ
  least = least_minimum i.origin.created i.origin.configuration r past

  abbrev Holds : List Called → Type 0
  Holds calls = HoldsFirmly calls r.name least

  -- ---- a callback begins

  module _ (due : DueRef) (is_due : due_of (view_of w i) ≡ Some due) where
    abbrev v : InstanceView
    v = view_of w i

    abbrev e : Bool
    e = ends w i

    abbrev callback : Callback
    callback = callback_of (names_of w i) due

    abbrev calls : List Called
    calls = i.callbacks ++ begun callback ∷ []

    -- what is held before and isn't unbound
    stays : (s : ℕ) → has (held_for r.name i.callbacks) s ≡ true → ((reference : List ℕ) (t : ℕ) → callback ≡ Unbind reference t → bytes_eq reference r.name ≡ true → (s == t) ≡ false) → has (firm r.name calls) s ≡ true
    stays s on other = ap (λ (ns : List ℕ). has ns s) (firm_begun r.name i.callbacks callback) ∙ step_held r.name callback (held_for r.name i.callbacks) s on other

    -- what a reference desires that holds all of it
    shown_held : e ≡ false → (k : ℕ) (q : Reference) → holds_all (reference_view e w i (k, q)) ≡ true → (s : ℕ) → has (desired_services w i k q) s ≡ true → (is_desired (reference_view e w i (k, q)) s ≡ true) × (has (held_for q.name i.callbacks) s ≡ true)
    shown_held off k q all s on =
        let desired = desires_seen w i e (k, q) s ∙ ap (λ d. has (desired_unless_ending d w i k q) s) off ∙ on in
        (desired, sym (holds_seen w i e (k, q) s) ∙ holds_desired (reference_view e w i (k, q)) all s desired)

    -- at Activate
    at_activate : callback ≡ Activate → Holds calls
    at_activate is =
        let found = due_activate (names_of w i) due is in
        let stands = (due_stands v (ActivateDue found.0) (is_due ∙ ap Some found.1)).1 in
        let place = placed_in 0 refs r in_r in
        let all = same_holds (reference_view e w i (place.0, r)) (stands.same place.0 (reference_view e w i (place.0, r)) (viewed_at (reference_view e w i) 0 refs place.0 r place.1)) in
        let enough = desires_enough limit past legal i h stands.going_on place.0 r place.1 in
        record {
          services = enough.services;
          are = enough.are;
          held = λ s on. stays s (shown_held stands.going_on place.0 r all s (enough.desired s on)).1 (λ reference t clash same. (let wrong : Activate ≡ Unbind reference t = sym is ∙ clash in cc));
        }

    module _ (active : is_active_phase (phase_of i.callbacks) ≡ true) where
      was : Holds i.callbacks
      was = before i h (inl active) one r in_r

      was_held : (s : ℕ) → has was.services s ≡ true → has (held_for r.name i.callbacks) s ≡ true
      was_held s on = held_ended Done r.name i.callbacks [] s (was.held s on)

      -- an Unbind for the reference
      at_unbind : (n k t : ℕ) → due ≡ UnbindDue n k t → bytes_eq (slice_index_or (names_of w i) k []) r.name ≡ true → Holds calls
      at_unbind n k t is named =
          let its_due = is_due ∙ ap Some is in
          let off = unbind_goes_on v n k t its_due active in
          let goes = unbinds_other v n k t its_due active in
          let seen = viewed (reference_view e w i) 0 refs k goes.0 goes.1 in
          let q = seen.0 in
          let name : q.name ≡ r.name = sym (name_there refs k q seen.1) ∙ text_is (slice_index_or (names_of w i) k []) r.name named in
          let same : q ≡ r = one q r (placed_was 0 refs k q seen.1) in_r name in
          let all = ap holds_all (sym seen.2) ∙ goes.2.holds in
          let other = ap (λ (x : ReferenceView). is_desired x t) (sym seen.2) ∙ goes.2.other in
          let enough = desires_enough limit past legal i h off k q seen.1 in
          record {
            services = enough.services;
            are = subst (λ (x : Reference). AreEnough (least_minimum i.origin.created i.origin.configuration x past) enough.services) same enough.are;
            held = λ s on.
                let shown = shown_held off k q all s (enough.desired s on) in
                stays s (ap (λ (x : List ℕ). has (held_for x i.callbacks) s) (sym name) ∙ shown.1) (λ reference u clash for_it. elim (cases_Bool (s == u)) [
                  | inr differs ↦ differs
                  | inl equal ↦ absurd (
                      let unbind = due_unbind (names_of w i) due reference u clash in
                      let service : t ≡ u = unbound_same n k t unbind.0 unbind.1 u (sym is ∙ unbind.2) in
                      both_ways (is_desired (reference_view e w i (k, q)) t) other (ap (is_desired (reference_view e w i (k, q))) (service ∙ sym (eqb-true s u equal)) ∙ shown.0))
                ]);
          }
        where
          unbound_same : (n k t m l u : ℕ) → UnbindDue n k t ≡ UnbindDue m l u → t ≡ u
          unbound_same n k t m l u equal = cc

      -- any other callback
      at_other : ((reference : List ℕ) (t : ℕ) → callback ≡ Unbind reference t → bytes_eq reference r.name ≡ true → ⊥) → Holds calls
      at_other none = record { services = was.services; are = was.are; held = λ s on. stays s (was_held s on) (λ reference t is named. absurd (none reference t is named)) }

      while_active : Holds calls
      while_active = elim (unbinds_for (names_of w i) due r.name) [
        | inl found ↦ at_unbind found.0 found.1 found.2 found.3 found.4
        | inr none ↦ at_other none
      ]

    begins : IsClaimed calls → Holds calls
    begins claimed = elim (claimed_before_begin i.callbacks callback claimed) [
      | inl active ↦ while_active active
      | inr activate ↦ at_activate activate
    ]

  -- ---- over an entry

  holds_next : (step : Step) (next : List Called) → IsNext w step i next → IsClaimed next → Holds next
  holds_next step next (keeps is) claimed = subst (λ (cs : List Called). Holds cs) (sym is) (before i h (subst (λ (cs : List Called). IsClaimed cs) is claimed) one r in_r)
  holds_next step next (closes turn outcome is_end its is) claimed =
      let out = (and_parts (i.turn == turn) (is_outstanding i.callbacks) its).1 in
      let was = before i h (claimed_before_end outcome i.callbacks out (subst (λ (cs : List Called). IsClaimed cs) is claimed)) one r in_r in
      subst (λ (cs : List Called). Holds cs) (sym is) (record {
        services = was.services;
        are = was.are;
        held = λ s on. ap (λ (cs : List Called). has (held_for r.name cs) s) (ended_twice Done outcome i.callbacks) ∙ was.held s on;
      })
  holds_next step next (gains view (one_made there is_view) due is_due begun_so is) claimed =
      subst (λ (cs : List Called). Holds cs) (sym is) (begins due (ap due_of (sym is_view) ∙ is_due) (subst (λ (cs : List Called). IsClaimed cs) is claimed))
  holds_next step next (gains view (whiteboard same is_view) due is_due begun_so is) claimed = absurd (not_board w (are_told_apart limit past legal).numbers (board_number past) i h same)

module _ (limit : ℕ) (entry : Entry Step) (past : History) (legal : IsLegal limit (entry ∷ past)) (before : HoldFirmly past) where
  abbrev then : World
  then = world_of (entry ∷ past)

  made_unclaimed : (i : Instance) → IsMade entry.step (world_of past) i → IsClaimed i.callbacks → ⊥
  made_unclaimed i made claimed = go (subst (λ (cs : List Called). IsClaimed cs) (ap (λ (x : Instance). x.callbacks) (sym made.4.1.1)) claimed)
    where
      go : IsClaimed (begun Create ∷ []) → ⊥
      go (inl on) = cc
      go (inr under_way) = (let none : false ≡ true = under_way.1 in cc)

  firm_then : HoldFirmly (entry ∷ past)
  firm_then i h claimed one r in_r = elim (comes limit entry past legal i h) [
    | inr made ↦ absurd (made_unclaimed i made claimed)
    | inl was ↦ (
        let j = was.was in
        let refs = references_kept limit entry past legal j i was.there was.same.origin in
        let holds = holds_next limit past legal.1 before j was.there (subst (λ (rs : List Reference). HasOneOfEach (λ (q : Reference). q.name) rs) refs one) r (subst (λ (rs : List Reference). Contains rs r) refs in_r) entry.step i.callbacks was.calls claimed in
        subst (λ (o : Origin). HoldsFirmly i.callbacks r.name (least_minimum o.created o.configuration r (entry ∷ past))) (sym was.same.origin)
        (no_fewer holds (least_falls j.origin.created j.origin.configuration r entry past (created_before past j was.there))))
  ]

-- ---- over a journal

hold_firmly : (limit : ℕ) (past : History) → IsLegal limit past → HoldFirmly past
hold_firmly limit [] legal = λ i h. absurd (none_at_first i h)
hold_firmly limit (entry ∷ past) legal = firm_then limit entry past legal (hold_firmly limit past legal.1)

pub keep_minimum : (limit : ℕ) (past : History) → IsLegal limit past → KeepMinimum past
keep_minimum limit past legal i h active one r in_r =
    let holds = hold_firmly limit past legal i h (inl active) one r in_r in record {
      services = holds.services;
      different = holds.are.different;
      held = λ s on. held_ended Done r.name i.callbacks [] s (holds.held s on);
      enough = holds.are.enough;
    }
