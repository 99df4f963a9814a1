-- Activate, Deactivate, Destroy and Modified: over an entry of a settling an instance never has more of them to come, and fewer with each.
use Rattle.std.proofs.Common.{◌≡◌, ◌≤◌, ℕ, ◌+◌, List, [], ◌∷◌, ◌++◌, ap, sym, ◌∙◌, refl, subst, arith, Bool, true, false, ◌&&◌, ◌||◌, inl, inr, ◌⊎◌, Option, Some, None}
use Rattle.std.specs.Prelude.{nat_lt, not, ◌==◌}
use Rattle.std.specs.List.{Contains, list_all}
use Rattle.std.specs.Option.{option_map_or}
use Rattle.std.proofs.lemmas.Bool.{and_parts, false≢true, le-ltb}
use Rattle.callback_orders.specs.declared.callback.Callback.{Callback}
use Rattle.callback_orders.specs.declared.callback.Callback.TheVariants.{Create, Bind, Updated, Unbind, Activate, Modified, Deactivate, Destroy}
use Rattle.callback_orders.specs.declared.due.DueRef.{DueRef}
use Rattle.callback_orders.specs.declared.due.DueRef.TheVariants.{Activate as ActivateDue, Modified as ModifiedDue, Deactivate as DeactivateDue, Destroy as DestroyDue}
use Rattle.callback_orders.specs.declared.instance_view.Phase.{Phase}
use Rattle.callback_orders.specs.declared.word.Called.{Called}
use Rattle.callback_orders.specs.Due.{due_of}
use Rattle.callback_orders.specs.Grammar.{is_activate, is_deactivate, is_destroy}
use Rattle.callback_orders.specs.Lives.{callback_of}
use Rattle.callback_orders.specs.Sequences.{alternate, begun, created, is_bind_or_unbind, is_sequence, is_whiteboard_sequence, one_at_a_time}
use Rattle.component_state.specs.declared.component.Component.{Component}
use Rattle.component_state.specs.declared.origin.Origin.{Origin}
use Rattle.component_state.specs.Components.{component_of}
use Rattle.component_state.proofs.Apart.{in_first, in_right}
use Rattle.journal_core.specs.declared.entry.Entry.{Entry}
use Rattle.scr_laws.proofs.NothingShut.{taken_calls}
use Rattle.scr_laws.proofs.Calm.{legal_is_behind}
use Rattle.scr_laws.proofs.Listed.{found_was}
use Rattle.scr_promises.proofs.Waits.{all_to}
use Rattle.scr_promises.specs.Settlings.{is_settling}
use Rattle.scr_promises.proofs.CallbackKinds.{one_activate, one_deactivate, one_destroy, told_begun, told_ended, was_told}
use Rattle.scr_promises.proofs.DueReasons.{due_says}
use Rattle.scr_promises.proofs.EntryGrowth.{components_stay}
use Rattle.scr_promises.proofs.PairMoves.{Moves, begins, ends_turn, rests, told_of}
use Rattle.scr_promises.proofs.Potentials.{life_left}
use Rattle.scr_world.specs.Dues.{names_of}
use Rattle.scr_world.specs.Instances.{BeforeTurn, with_effect_of_begin}
use Rattle.scr_world.specs.Legal.{IsLegal}
use Rattle.scr_world.specs.Lists.{world_of}
use Rattle.scr_world.specs.Steps.{History}
use Rattle.scr_world.specs.Stepping.{before_turn}
use Rattle.scr_world.specs.Views.{awaits_modified, view_as}
use Rattle.scr_world.specs.declared.instance.Instance.{Instance}
use Rattle.scr_world.specs.declared.step.Step.{Step}
use Rattle.scr_world.specs.declared.world.World.{World}
use Rattle.prop_map.specs.Words.{one_if}

-- ---- truth

one_low : (a b : Bool) → (b ≡ true → a ≡ true) → one_if b ≤ one_if a
one_low true true to = omega arith
one_low true false to = omega arith
one_low false false to = omega arith
one_low false true to = absurd (false≢true (to refl))

one_less : (a b : Bool) → a ≡ true → b ≡ false → one_if b + 1 ≤ one_if a
one_less true false on off = omega arith
one_less false b on off = cc
one_less true true on off = cc

not_or : (a b : Bool) → not (a || b) ≡ true → not a ≡ true
not_or false b on = refl
not_or true b on = cc

or_on : (b : Bool) → (b || true) ≡ true
or_on true = refl
or_on false = refl

-- ---- what a callback that begins takes

pub taken_same : (m : BeforeTurn) (callback : Callback) (i : Instance) → (callback ≡ Modified) ⊎ ((with_effect_of_begin m callback i).properties_taken_at ≡ i.properties_taken_at)
taken_same m Create i = inr refl
taken_same m (Bind q t) i = inr refl
taken_same m (Updated q t) i = inr refl
taken_same m (Unbind q t) i = inr refl
taken_same m Activate i = inr refl
taken_same m Modified i = inl refl
taken_same m Deactivate i = inr refl
taken_same m Destroy i = inr refl

-- the callbacks of an instance, that of the whiteboard too, are in order
abbrev pub InOrder : List Called → Type 0
InOrder calls = (is_sequence calls ≡ true) ⊎ (is_whiteboard_sequence calls ≡ true)

created_from : (calls : List Called) (callback : Callback) → is_bind_or_unbind callback ≡ false → InOrder (calls ++ begun callback ∷ []) → created (calls ++ begun callback ∷ []) ≡ true
created_from calls callback other (inl order) =
    let all = calls ++ begun callback ∷ [] in
    (and_parts (created all) (one_at_a_time all) (and_parts (created all && one_at_a_time all) (alternate [] all) order).0).0
created_from calls callback other (inr order) =
    let all = calls ++ begun callback ∷ [] in
    let binds = (and_parts (list_all (λ (c : Called). is_bind_or_unbind c.callback) all) (one_at_a_time all) (and_parts (list_all (λ (c : Called). is_bind_or_unbind c.callback) all && one_at_a_time all) (alternate [] all) order).0).0 in
    absurd (wrong (is_bind_or_unbind callback) other (all_to (λ (c : Called). is_bind_or_unbind c.callback) all binds (begun callback) (in_right calls (begun callback ∷ []) (begun callback) (in_first (begun callback) []))))
  where
    wrong : (b : Bool) → b ≡ false → b ≡ true → ⊥
    wrong true off on = cc
    wrong false off on = cc

module _ (limit : ℕ) (entry : Entry Step) (past : History) (legal : IsLegal limit (entry ∷ past)) (settles : is_settling entry.step (world_of past) ≡ true) (closed : entry.closed ≡ [])
    (e : Bool) (i j : Instance) (origin : j.origin ≡ i.origin) where
  abbrev w : World
  w = world_of past

  abbrev then : World
  then = world_of (entry ∷ past)

  abbrev told : (Callback → Bool) → Instance → Bool
  told kind x = was_told kind x.callbacks

  -- ---- changed properties

  awaits_then : (taken : ℕ) → j.properties_taken_at ≡ taken → awaits_modified then j ≡ option_map_or (λ (c : Component). option_map_or (λ place. nat_lt taken place) c.changed false) (component_of w.components i.origin.configuration) false
  awaits_then taken same =
      ap (λ n. option_map_or (λ (c : Component). option_map_or (λ place. nat_lt n place) c.changed false) (component_of then.components j.origin.configuration) false) same
      ∙ ap (λ (o : Origin). option_map_or (λ (c : Component). option_map_or (λ place. nat_lt taken place) c.changed false) (component_of then.components o.configuration) false) origin
      ∙ ap (λ (cs : List Component). option_map_or (λ (c : Component). option_map_or (λ place. nat_lt taken place) c.changed false) (component_of cs i.origin.configuration) false) (components_stay limit entry past legal settles closed)

  awaits_same : j.properties_taken_at ≡ i.properties_taken_at → awaits_modified then j ≡ awaits_modified w i
  awaits_same same = awaits_then i.properties_taken_at same

  -- those that it takes now are the last ones
  awaits_none : j.properties_taken_at ≡ w.entries → awaits_modified then j ≡ false
  awaits_none same = awaits_then w.entries same ∙ go (component_of w.components i.origin.configuration) refl
    where
      by_place : (c : Component) → Contains (world_of past).components c → (o : Option ℕ) → c.changed ≡ o → option_map_or (λ place. nat_lt (world_of past).entries place) o false ≡ false
      by_place c h None is = refl
      by_place c h (Some place) is = (let early = legal_is_behind limit past legal.1 c h place is in le-ltb (world_of past).entries place (omega (arith, early)))

      go : (o : Option Component) → component_of (world_of past).components i.origin.configuration ≡ o → option_map_or (λ (c : Component). option_map_or (λ place. nat_lt (world_of past).entries place) c.changed false) o false ≡ false
      go None is = refl
      go (Some c) is = by_place c (found_was (λ (x : Component). x.number == i.origin.configuration) (world_of past).components c is).0 c.changed refl

  -- ---- all four

  abbrev Low : Type 0
  Low = life_left then j ≤ life_left w i

  same_life : ((kind : Callback → Bool) → told kind j ≡ told kind i) → j.properties_taken_at ≡ i.properties_taken_at → Low
  same_life tolds taken =
      let a = ap (λ b. one_if (not b)) (tolds is_activate) in
      let b = ap (λ b. one_if (not b)) (tolds is_deactivate) in
      let c = ap (λ b. one_if (not b)) (tolds is_destroy) in
      let d = ap one_if (awaits_same taken) in
      omega (arith, a, b, c, d)

  module _ (turn : ℕ) (phase : Phase) (due : DueRef) (is_due : due_of (view_as phase e w i) ≡ Some due) (is : j ≡ told_of w turn (callback_of (names_of w i) due) i) where
    abbrev callback : Callback
    callback = callback_of (names_of w i) due

    calls : j.callbacks ≡ i.callbacks ++ begun callback ∷ []
    calls = ap (λ (x : Instance). x.callbacks) is ∙ taken_calls (before_turn w) callback (record i { turn = turn; callbacks = i.callbacks ++ begun callback ∷ [] })

    told_more : (kind : Callback → Bool) → told kind j ≡ (told kind i || kind callback)
    told_more kind = ap (was_told kind) calls ∙ told_begun kind i.callbacks callback

    kind_low : (kind : Callback → Bool) → one_if (not (told kind j)) ≤ one_if (not (told kind i))
    kind_low kind = one_low (not (told kind i)) (not (told kind j)) (λ on. not_or (told kind i) (kind callback) (ap not (sym (told_more kind)) ∙ on))

    kind_less : (kind : Callback → Bool) → told kind i ≡ false → kind callback ≡ true → one_if (not (told kind j)) + 1 ≤ one_if (not (told kind i))
    kind_less kind off on = one_less (not (told kind i)) (not (told kind j)) (ap not off) (ap not (told_more kind ∙ ap (λ b. told kind i || b) on ∙ or_on (told kind i)))

    awaits_low : one_if (awaits_modified then j) ≤ one_if (awaits_modified w i)
    awaits_low = elim (taken_same (before_turn w) callback (record i { turn = turn; callbacks = i.callbacks ++ begun callback ∷ [] })) [
      | inl modified ↦ (let none = ap one_if (awaits_none (taken_at modified)) in omega (arith, none))
      | inr same ↦ (let equal = ap one_if (awaits_same (ap (λ (x : Instance). x.properties_taken_at) is ∙ same)) in omega (arith, equal))
    ]
      where
        taken_at : callback ≡ Modified → j.properties_taken_at ≡ (world_of past).entries
        taken_at modified = ap (λ (x : Instance). x.properties_taken_at) is ∙ ap (λ (c : Callback). (with_effect_of_begin (before_turn (world_of past)) c (record i { turn = turn; callbacks = i.callbacks ++ begun callback ∷ [] })).properties_taken_at) modified

    pub life_begins : Low
    life_begins =
        let a = kind_low is_activate in
        let b = kind_low is_deactivate in
        let c = kind_low is_destroy in
        let d = awaits_low in
        omega (arith, a, b, c, d)

    abbrev Less : Type 0
    Less = life_left then j + 1 ≤ life_left w i

    module _ (ordered : InOrder j.callbacks) where
      ordered_calls : InOrder (i.callbacks ++ begun callback ∷ [])
      ordered_calls = subst (λ (cs : List Called). InOrder cs) calls ordered

      pub activates_fewer : (m : ℕ) → due ≡ ActivateDue m → Less
      activates_fewer m is_it =
          let call : callback ≡ Activate = ap (callback_of (names_of w i)) is_it in
          let order = subst (λ (c : Callback). InOrder (i.callbacks ++ begun c ∷ [])) call ordered_calls in
          let a = kind_less is_activate (one_activate i.callbacks (created_from i.callbacks Activate refl order)) (ap is_activate call) in
          let b = kind_low is_deactivate in
          let c = kind_low is_destroy in
          let d = awaits_low in
          omega (arith, a, b, c, d)

      pub deactivates_fewer : (m : ℕ) → due ≡ DeactivateDue m → Less
      deactivates_fewer m is_it =
          let call : callback ≡ Deactivate = ap (callback_of (names_of w i)) is_it in
          let order = subst (λ (c : Callback). InOrder (i.callbacks ++ begun c ∷ [])) call ordered_calls in
          let a = kind_low is_activate in
          let b = kind_less is_deactivate (one_deactivate i.callbacks (created_from i.callbacks Deactivate refl order)) (ap is_deactivate call) in
          let c = kind_low is_destroy in
          let d = awaits_low in
          omega (arith, a, b, c, d)

      pub destroys_fewer : (m : ℕ) → due ≡ DestroyDue m → Less
      destroys_fewer m is_it =
          let call : callback ≡ Destroy = ap (callback_of (names_of w i)) is_it in
          let order = subst (λ (c : Callback). InOrder (i.callbacks ++ begun c ∷ [])) call ordered_calls in
          let a = kind_low is_activate in
          let b = kind_low is_deactivate in
          let c = kind_less is_destroy (one_destroy i.callbacks (created_from i.callbacks Destroy refl order)) (ap is_destroy call) in
          let d = awaits_low in
          omega (arith, a, b, c, d)

    pub modifies_fewer : (m : ℕ) → due ≡ ModifiedDue m → Less
    modifies_fewer m is_it =
        let call : callback ≡ Modified = ap (callback_of (names_of w i)) is_it in
        let stale : awaits_modified w i ≡ true = due_says (view_as phase e w i) (ModifiedDue m) (is_due ∙ ap Some is_it) in
        let taken : j.properties_taken_at ≡ w.entries = ap (λ (x : Instance). x.properties_taken_at) is ∙ ap (λ (c : Callback). (with_effect_of_begin (before_turn w) c (record i { turn = turn; callbacks = i.callbacks ++ begun callback ∷ [] })).properties_taken_at) call in
        let a = kind_low is_activate in
        let b = kind_low is_deactivate in
        let c = kind_low is_destroy in
        let d = one_less (awaits_modified w i) (awaits_modified then j) stale (awaits_none taken) in
        omega (arith, a, b, c, d)

  pub life_low : Moves e w i j → Low
  life_low (rests calls told taken) = same_life (λ kind. ap (was_told kind) calls) taken
  life_low (ends_turn o calls told taken) = same_life (λ kind. ap (was_told kind) calls ∙ told_ended kind o i.callbacks) taken
  life_low (begins turn phase due is_due is) = life_begins turn phase due is_due is
