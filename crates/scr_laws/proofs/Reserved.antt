-- What an entry that follows reserves and gives back.
use Rattle.std.proofs.Common.{◌≡◌, ◌≤◌, ℕ, ◌+◌, List, [], ◌∷◌, ◌++◌, length, ap, sym, ◌∙◌, refl, subst, cond, arith, Bool, true, false, ◌&&◌, ◌||◌, inl, inr, ◌⊎◌, Some}
use Rattle.std.specs.Prelude.{map, filter, not, ◌==◌}
use Rattle.std.specs.List.{Contains, list_all, list_any}
use Rattle.std.proofs.lemmas.Bool.{and_from, and_parts, both_ways, cases_Bool, cond-true, cond-false, eqb-true, false≢true, leb-true, ne_eqb}
use Rattle.std.proofs.lemmas.List.{length-append}
use Rattle.std.proofs.lemmas.List.Folds.{list_any-append}
use Rattle.callback_orders.specs.declared.callback.Callback.{Callback}
use Rattle.callback_orders.specs.declared.callback.Callback.TheVariants.{Create, Bind, Updated, Unbind, Activate, Modified, Deactivate, Destroy}
use Rattle.callback_orders.specs.declared.callback.Outcome.{Outcome}
use Rattle.callback_orders.specs.declared.instance_view.Phase.{Phase}
use Rattle.callback_orders.specs.declared.instance_view.Phase.TheVariants.{Making, Active, Left}
use Rattle.callback_orders.specs.declared.word.Called.{Called}
use Rattle.callback_orders.specs.Grammar.{is_activate, is_create}
use Rattle.callback_orders.specs.Lives.{goes_on, is_living, phase_of}
use Rattle.callback_orders.specs.Sequences.{alternate, begun, done_with, ended, have_ended, is_bind_or_unbind, is_failed, is_outstanding, is_sequence, is_whiteboard_sequence, one_at_a_time}
use Rattle.callback_orders.proofs.FollowLemmas.{may_follow}
use Rattle.component_state.specs.declared.origin.Choice.{Choice}
use Rattle.component_state.specs.Inside.Ready.{are_apart}
use Rattle.component_state.proofs.Apart.{any_found, any_from, in_cases, in_first, in_rest, one_of}
use Rattle.journal_core.specs.declared.entry.Entry.{Entry}
use Rattle.prop_map.specs.Words.{has, one_if}
use Rattle.scr_laws.proofs.CreatedLaws.{entries_of}
use Rattle.scr_laws.proofs.InstanceLemmas.{begun_cases, mapped_was}
use Rattle.scr_world.specs.Consequences.{is_draining}
use Rattle.scr_world.specs.Instances.{begun_by, created_at, drained_in, ended_in, has_turn, is_activated, is_active_instance, last_is, lives_on, with_callback_begun, with_outcome}
use Rattle.scr_world.specs.Legal.{IsLegal, MayCome, awaits_drain, is_under_way}
use Rattle.scr_world.specs.Lists.{world_after_entry, world_of}
use Rattle.scr_world.specs.Room.{has_room, reserved, reserved_for}
use Rattle.scr_world.specs.Steps.{History}
use Rattle.scr_world.specs.Stepping.{before_turn, instances_by, whiteboard_by, world_after_step}
use Rattle.scr_world.specs.Tables.{tokens_by}
use Rattle.scr_world.specs.Views.{ends}
use Rattle.scr_world.specs.Worlds.{all_instances}
use Rattle.scr_world.specs.declared.instance.Instance.{Instance}
use Rattle.scr_world.specs.declared.step.Step.{Step}
use Rattle.scr_world.specs.declared.step.Step.TheVariants.{Command as Commanded, Begin, End, Drained, Got, Released}
use Rattle.scr_world.specs.declared.world.World.{World}
use Rattle.scr_laws.specs.Reserving.{given_back_by, reserved_with, stands_in, tokens_dropped}
use Rattle.scr_laws.proofs.Activated.{activated_begun, active_activated, none_outstanding, outstanding_begun}
use Rattle.scr_laws.proofs.Begins.{Makes, Tells, TellsBoard, begin_is}
use Rattle.scr_laws.proofs.CallbackFronts.{IsFront, ended_front, front_of, is_making, none_out, sequence_may, unactivated}
use Rattle.scr_laws.proofs.DrainOrder.{DrainsInTurn, activate_after, is_left, last_more, legal_drains, one_at_a_time_of, outstanding_may, phase_before}
use Rattle.scr_laws.proofs.LegalOrder.{legal_ordered}
use Rattle.scr_laws.proofs.Ordered.{AreOrdered}
use Rattle.scr_laws.proofs.RoomAfter.{reserved_as, reserved_is, told_reserved}
use Rattle.scr_laws.proofs.Sequences.{told_other}
use Rattle.scr_laws.proofs.Sums.{total, total-cons, total_all_kept, total_changed, total_push}
use Rattle.scr_laws.proofs.TokenOrder.{kept_and_dropped, one_released, tokens_spread}
use Rattle.scr_laws.proofs.TurnOrder.{legal_turns_apart}

-- ---- a turn that begins

is_one : (c : Callback) → is_activate c ≡ true → c ≡ Activate
is_one Activate is = refl
is_one Create is = cc
is_one (Bind r s) is = cc
is_one (Updated r s) is = cc
is_one (Unbind r s) is = cc
is_one Modified is = cc
is_one Deactivate is = cc
is_one Destroy is = cc

count_begins : (act a d : Bool) → (act ≡ true → (a ≡ false) × (d ≡ false)) → 1 + one_if ((a || act) && not d) ≡ one_if (a && not d) + cond act 2 1
count_begins true a d none = let both = none refl in rw (both.0, both.1) refl
count_begins false true true none = refl
count_begins false true false none = refl
count_begins false false d none = refl

-- ---- a turn that ends

count_ends : (act a failed d : Bool) → (act ≡ true → (a ≡ false) × (d ≡ false)) → one_if ((a || ((act && not failed) || false)) && not d) + (1 + one_if (failed && act)) ≡ 1 + one_if ((a || act) && not d)
count_ends true a true d none = let both = none refl in rw (both.0, both.1) refl
count_ends true a false d none = let both = none refl in rw (both.0, both.1) refl
count_ends false true true true none = refl
count_ends false true true false none = refl
count_ends false true false true none = refl
count_ends false true false false none = refl
count_ends false false true d none = refl
count_ends false false false d none = refl

-- of callbacks of which the last one is outstanding
ends_front : (before : List Called) (last : Callback) (o : Outcome) (drained : Bool) → (is_activate last ≡ true → (is_activated before ≡ false) × (drained ≡ false))
    → reserved_as (ended o (before ++ begun last ∷ [])) drained + (1 + one_if (is_failed (Some o) && last_is is_activate (before ++ begun last ∷ []))) ≡ reserved_as (before ++ begun last ∷ []) drained
ends_front before last o drained none =
    let over : one_if (is_outstanding (ended o (before ++ begun last ∷ []))) ≡ 0 = ap one_if (none_outstanding o (before ++ begun last ∷ [])) in
    let out : one_if (is_outstanding (before ++ begun last ∷ [])) ≡ 1 = ap one_if (outstanding_begun before last) in
    let was : one_if (is_activated (before ++ begun last ∷ []) && not drained) ≡ one_if ((is_activated before || is_activate last) && not drained) = ap (λ b. one_if (b && not drained)) (activated_begun before last) in
    let now : one_if (is_activated (ended o (before ++ begun last ∷ [])) && not drained) ≡ one_if ((is_activated before || ((is_activate last && not (is_failed (Some o))) || false)) && not drained) =
    ap (λ (cs : List Called). one_if (is_activated cs && not drained)) (ended_front o before last)
    ∙ ap (λ b. one_if (b && not drained)) (list_any-append (λ (c : Called). is_activate c.callback && not (is_failed c.outcome)) before (done_with last o ∷ [])) in
    let last_one : one_if (is_failed (Some o) && last_is is_activate (before ++ begun last ∷ [])) ≡ one_if (is_failed (Some o) && is_activate last) = ap (λ b. one_if (is_failed (Some o) && b)) (last_more is_activate before (begun last)) in
    let count = count_ends (is_activate last) (is_activated before) (is_failed (Some o)) drained none in
    omega (arith, over, out, was, now, last_one, count)

ends_exactly : (calls : List Called) (o : Outcome) (drained : Bool) (f : IsFront calls) → (is_activate f.last ≡ true → (is_activated f.before ≡ false) × (drained ≡ false))
    → reserved_as (ended o calls) drained + (1 + one_if (is_failed (Some o) && last_is is_activate calls)) ≡ reserved_as calls drained
ends_exactly calls o drained f none =
    subst (λ (cs : List Called). reserved_as (ended o cs) drained + (1 + one_if (is_failed (Some o) && last_is is_activate cs)) ≡ reserved_as cs drained) (sym f.whole) (ends_front f.before f.last o drained none)

-- an instance whose Activate is outstanding wasn't activated before, and isn't drained
activates_once : (calls : List Called) (drained : Bool) (f : IsFront calls) → is_sequence calls ≡ true → DrainsInTurn calls drained → is_activate f.last ≡ true → (is_activated f.before ≡ false) × (drained ≡ false)
activates_once calls drained f order drains act =
    let whole : is_sequence (f.before ++ begun f.last ∷ []) ≡ true = subst (λ (cs : List Called). is_sequence cs ≡ true) f.whole order in
    let making = activate_after f.before f.over (subst (λ (c : Callback). is_sequence (f.before ++ begun c ∷ []) ≡ true) (is_one f.last act) whole) in
    (unactivated f.before f.over making, drains.making (ap (λ (cs : List Called). is_making (phase_of cs)) f.whole ∙ ap is_making (phase_before f.before f.last) ∙ making))

-- ---- an instance that ceases has nothing reserved

living_over : (before : List Called) (c : Called) → is_living (before ++ c ∷ []) ≡ (is_living before && goes_on c.callback c.outcome)
living_over [] c = and_true (goes_on c.callback c.outcome)
  where
    and_true : (b : Bool) → (b && true) ≡ b
    and_true true = refl
    and_true false = refl
living_over (d ∷ rest) c = ap (λ b. goes_on d.callback d.outcome && b) (living_over rest c) ∙ assoc (goes_on d.callback d.outcome) (is_living rest) (goes_on c.callback c.outcome)
  where
    assoc : (a b d : Bool) → (a && (b && d)) ≡ ((a && b) && d)
    assoc true b d = refl
    assoc false b d = refl

lives_before : (before : List Called) (c : Called) → is_living (before ++ c ∷ []) ≡ true → is_living before ≡ true
lives_before before c lives = (and_parts (is_living before) (goes_on c.callback c.outcome) (sym (living_over before c) ∙ lives)).0

pub never_ceases : {A : Type 0} (before : List Called) (last : Callback) (o : Outcome) → goes_on last (Some o) ≡ true → is_living (before ++ begun last ∷ []) ≡ true → is_living (before ++ done_with last o ∷ []) ≡ false → A
never_ceases before last o on lives ceases =
    absurd (both_ways (is_living (before ++ done_with last o ∷ [])) ceases (living_over before (done_with last o) ∙ and_from (is_living before) (goes_on last (Some o)) (lives_before before (begun last) lives) on))

-- its end activates nothing
activated_as_before : (before : List Called) (last : Callback) (o : Outcome) → is_activate last ≡ false → is_activated (before ++ done_with last o ∷ []) ≡ is_activated before
activated_as_before before last o other =
    list_any-append (λ (c : Called). is_activate c.callback && not (is_failed c.outcome)) before (done_with last o ∷ [])
    ∙ ap (λ b. is_activated before || ((b && not (is_failed (Some o))) || false)) other ∙ or_none (is_activated before)
  where
    or_none : (a : Bool) → (a || false) ≡ a
    or_none true = refl
    or_none false = refl

nothing : (a d : Bool) → a ≡ false → one_if (a && not d) ≡ 0
nothing a d off = ap (λ b. one_if (b && not d)) off

nothing_left : (a d : Bool) → (a ≡ true → d ≡ true) → one_if (a && not d) ≡ 0
nothing_left true d on = ap (λ b. one_if (not b)) (on refl)
nothing_left false d on = refl

pub never_created : (phase : Phase) → may_follow phase Create ≡ true → ⊥
never_created Making e = false≢true e
never_created Active e = false≢true e
never_created Left e = false≢true e

unreserved_by : (before : List Called) (last : Callback) (o : Outcome) (drained : Bool) → have_ended before ≡ true → is_sequence (before ++ begun last ∷ []) ≡ true → DrainsInTurn (before ++ begun last ∷ []) drained
    → is_living (before ++ begun last ∷ []) ≡ true → is_living (before ++ done_with last o ∷ []) ≡ false → one_if (is_activated (before ++ done_with last o ∷ []) && not drained) ≡ 0
unreserved_by [] Create o drained over order drains lives ceases = refl
unreserved_by (c ∷ rest) Create o drained over order drains lives ceases = absurd (never_created (phase_of (c ∷ rest)) (sequence_may (c ∷ rest) Create (omega arith) over order))
unreserved_by before Destroy o drained over order drains lives ceases = go (phase_of before) refl (outstanding_may before Destroy over order refl)
  where
    go : (phase : Phase) → phase_of before ≡ phase → may_follow phase Destroy ≡ true → one_if (is_activated (before ++ done_with Destroy o ∷ []) && not drained) ≡ 0
    go Making is may = nothing (is_activated (before ++ done_with Destroy o ∷ [])) drained (activated_as_before before Destroy o refl ∙ unactivated before over (ap is_making is))
    go Active is may = absurd (false≢true may)
    go Left is may = nothing_left (is_activated (before ++ done_with Destroy o ∷ [])) drained
        (λ on. drains.left (ap is_left (phase_before before Destroy ∙ is)) (activated_begun before Destroy ∙ ap (λ b. b || false) (sym (activated_as_before before Destroy o refl) ∙ on)))
unreserved_by before Activate o drained over order drains lives ceases = never_ceases before Activate o refl lives ceases
unreserved_by before (Bind r s) o drained over order drains lives ceases = never_ceases before (Bind r s) o refl lives ceases
unreserved_by before (Updated r s) o drained over order drains lives ceases = never_ceases before (Updated r s) o refl lives ceases
unreserved_by before (Unbind r s) o drained over order drains lives ceases = never_ceases before (Unbind r s) o refl lives ceases
unreserved_by before Modified o drained over order drains lives ceases = never_ceases before Modified o refl lives ceases
unreserved_by before Deactivate o drained over order drains lives ceases = never_ceases before Deactivate o refl lives ceases

unreserved : (calls : List Called) (o : Outcome) (drained : Bool) → is_outstanding calls ≡ true → is_sequence calls ≡ true → DrainsInTurn calls drained → is_living calls ≡ true → is_living (ended o calls) ≡ false → reserved_as (ended o calls) drained ≡ 0
unreserved calls o drained out order drains lives ceases =
    let f = front_of calls (one_at_a_time_of calls order) out in
    let none = unreserved_by f.before f.last o drained f.over (subst (λ (cs : List Called). is_sequence cs ≡ true) f.whole order) (subst (λ (cs : List Called). DrainsInTurn cs drained) f.whole drains) (ap is_living (sym f.whole) ∙ lives)
    (ap is_living (sym (ended_front o f.before f.last) ∙ ap (ended o) (sym f.whole)) ∙ ceases) in
    let over : one_if (is_outstanding (ended o calls)) ≡ 0 = ap one_if (none_outstanding o calls) in
    let now : one_if (is_activated (ended o calls) && not drained) ≡ one_if (is_activated (f.before ++ done_with f.last o ∷ []) && not drained) =
    ap (λ (cs : List Called). one_if (is_activated cs && not drained)) (ap (ended o) f.whole ∙ ended_front o f.before f.last) in
    omega (arith, none, over, now)

-- ---- that of the whiteboard

binds_last : (before : List Called) (last : Callback) → list_all (λ (c : Called). is_bind_or_unbind c.callback) (before ++ begun last ∷ []) ≡ true → is_bind_or_unbind last ≡ true
binds_last [] last is = (and_parts (is_bind_or_unbind last) true is).0
binds_last (c ∷ rest) last is = binds_last rest last (and_parts (is_bind_or_unbind c.callback) (list_all (λ (d : Called). is_bind_or_unbind d.callback) (rest ++ begun last ∷ [])) is).1

no_activate : (c : Callback) → is_bind_or_unbind c ≡ true → is_activate c ≡ false
no_activate (Bind r s) is = refl
no_activate (Unbind r s) is = refl
no_activate Create is = cc
no_activate (Updated r s) is = cc
no_activate Activate is = cc
no_activate Modified is = cc
no_activate Deactivate is = cc
no_activate Destroy is = cc

board_parts : (calls : List Called) → is_whiteboard_sequence calls ≡ true → (list_all (λ (c : Called). is_bind_or_unbind c.callback) calls ≡ true) × (one_at_a_time calls ≡ true)
board_parts calls is =
    and_parts (list_all (λ (c : Called). is_bind_or_unbind c.callback) calls) (one_at_a_time calls)
    (and_parts (list_all (λ (c : Called). is_bind_or_unbind c.callback) calls && one_at_a_time calls) (alternate [] calls) is).0

-- the only one that passes a test passes another where any does
pub any_of_one : {X : Type 0} (p q : X → Bool) (xs : List X) (x : X) → Contains xs x → p x ≡ true → ((y : X) → Contains xs y → p y ≡ true → y ≡ x) → list_any (λ y. p y && q y) xs ≡ q x
any_of_one p q xs x h on one = go (cases_Bool (q x))
  where
    go : (q x ≡ true) ⊎ (q x ≡ false) → list_any (λ y. p y && q y) xs ≡ q x
    go (inl holds) = any_from (λ y. p y && q y) xs x h (and_from (p x) (q x) on holds) ∙ sym holds
    go (inr fails) = elim (cases_Bool (list_any (λ y. p y && q y) xs)) [
      | inl some ↦ absurd (let found = any_found (λ y. p y && q y) xs some in let both = and_parts (p found.0) (q found.0) found.2 in both_ways (q x) fails (ap q (sym (one found.0 found.1 both.0)) ∙ both.1))
      | inr none ↦ none ∙ sym fails
    ]

-- ---- after an entry

module _ (limit : ℕ) (past : History) (legal : IsLegal limit past) where
  abbrev w : World
  w = world_of past

  abbrev in_use : ℕ
  in_use = total reserved_for (all_instances (world_of past))

  ordered : AreOrdered (world_of past)
  ordered = legal_ordered limit past legal

  drains_of : (i : Instance) → Contains (world_of past).instances i → DrainsInTurn i.callbacks i.drained
  drains_of = legal_drains limit past legal

  module _ (turn instance configuration consumer : ℕ) (callback : Callback) (chosen : List Choice) where
    abbrev begins : Step
    begins = Begin turn instance configuration consumer callback chosen

    abbrev f : Instance → Instance
    f i = with_callback_begun (before_turn w) turn instance callback i

    told_exactly : (i : Instance) → i.number ≡ instance → have_ended i.callbacks ≡ true → (is_activate callback ≡ true → (is_activated i.callbacks ≡ false) × (i.drained ≡ false)) → reserved_for (f i) ≡ reserved_for i + cond (is_activate callback) 2 1
    told_exactly i number over none =
        let now = told_reserved (before_turn w) turn instance callback i number in
        let out : one_if (is_outstanding i.callbacks) ≡ 0 = ap one_if (none_out i.callbacks over) in
        omega (arith, now, out, count_begins (is_activate callback) (is_activated i.callbacks) i.drained none)

    told_total : (one : Instance) → Contains (all_instances w) one → one.number ≡ instance → is_create callback ≡ false → reserved_for (f one) ≡ reserved_for one + cond (is_activate callback) 2 1
        → total reserved_for (whiteboard_by begins w ∷ instances_by begins w) ≡ in_use + cond (is_activate callback) 2 1
    told_total one h number no_create more = elim (begun_cases callback) [
      | inl create ↦ absurd (both_ways (is_create callback) no_create (ap is_create create))
      | inr same ↦ (
          let same_total = ap (λ (is : List Instance). total reserved_for (f w.whiteboard ∷ is)) (same (before_turn w) turn instance configuration consumer chosen) in
          let changed = total_changed reserved_for (λ (i : Instance). i.number) f instance (λ i other. ap reserved_for (told_other (before_turn w) turn instance callback i other)) (all_instances w) ordered.apart one h number in
          omega (arith, same_total, changed, more))
    ]

    begun_total : Makes w instance callback ⊎ (Tells w instance callback ⊎ TellsBoard w instance callback) → total reserved_for (whiteboard_by begins w ∷ instances_by begins w) ≡ in_use + cond (is_activate callback) 2 1
    begun_total (inl makes) = subst (λ (c : Callback). total reserved_for (with_callback_begun (before_turn w) turn instance c w.whiteboard ∷ begun_by (before_turn w) turn instance configuration consumer c chosen) ≡ in_use + cond (is_activate c) 2 1) (sym makes.creates) made
      where
        other : w.whiteboard.number ≡ instance → ⊥
        other e = let zero = ordered.board.number in let next = makes.next in omega (arith, zero, next, e)

        made : total reserved_for (with_callback_begun (before_turn w) turn instance Create w.whiteboard ∷ begun_by (before_turn w) turn instance configuration consumer Create chosen) ≡ in_use + 1
        made =
            let new = created_at (before_turn w) turn instance configuration consumer chosen in
            let board = ap reserved_for (told_other (before_turn w) turn instance Create w.whiteboard other) in
            let first = total-cons reserved_for (with_callback_begun (before_turn w) turn instance Create w.whiteboard) (w.instances ++ new ∷ []) in
            let push = total_push reserved_for w.instances new in
            let was = total-cons reserved_for w.whiteboard w.instances in
            let one : reserved_for new ≡ 1 = refl in
            omega (arith, board, first, push, was, one)
    begun_total (inr (inl tells)) =
        told_total tells.one (in_rest w.whiteboard w.instances tells.one tells.there) (sym tells.number) tells.no_create
        (told_exactly tells.one (sym tells.number) tells.may.ended (λ act.
        let making = activate_after tells.one.callbacks tells.may.ended (subst (λ (c : Callback). is_sequence (tells.one.callbacks ++ begun c ∷ []) ≡ true) (is_one callback act) tells.may.order) in
        (unactivated tells.one.callbacks tells.may.ended making, (drains_of tells.one tells.there).making making)))
    begun_total (inr (inr board)) =
        told_total w.whiteboard (in_first w.whiteboard w.instances) (sym board.number) board.no_create
        (told_exactly w.whiteboard (sym board.number) board.may.ended (λ act. absurd (both_ways (is_activate callback) (no_activate callback board.binds) act)))

  module _ (turn : ℕ) (outcome : Outcome) where
    abbrev g : Instance → Instance
    g i = ended_in turn outcome w.generations i

    abbrev failed_activate : Instance → ℕ
    failed_activate i = 1 + one_if (is_failed (Some outcome) && last_is is_activate i.callbacks)

    by_front : (i : Instance) → has_turn turn i ≡ true → (front : IsFront i.callbacks) → (is_activate front.last ≡ true → (is_activated front.before ≡ false) × (i.drained ≡ false)) → reserved_for (g i) + failed_activate i ≡ reserved_for i
    by_front i its front none =
        let now : g i ≡ with_outcome outcome w.generations i = cond-true (has_turn turn i) (with_outcome outcome w.generations i) i its in
        let exact = ends_exactly i.callbacks outcome i.drained front none in
        omega (arith, ap reserved_for now, reserved_is (with_outcome outcome w.generations i), reserved_is i, exact)

    out_of : (i : Instance) → has_turn turn i ≡ true → is_outstanding i.callbacks ≡ true
    out_of i its = (and_parts (i.turn == turn) (is_outstanding i.callbacks) its).1

    ended_one : (i : Instance) → Contains (all_instances w) i → has_turn turn i ≡ true → reserved_for (g i) + failed_activate i ≡ reserved_for i
    ended_one i h its = elim (in_cases w.whiteboard w.instances i h) [
      | inl board ↦ (
          let calls : is_whiteboard_sequence i.callbacks ≡ true = subst (λ (x : Instance). is_whiteboard_sequence x.callbacks ≡ true) board ordered.board.order in
          let parts = board_parts i.callbacks calls in
          let front = front_of i.callbacks parts.1 (out_of i its) in
          by_front i its front (λ act. absurd (both_ways (is_activate front.last)
          (no_activate front.last (binds_last front.before front.last (subst (λ (cs : List Called). list_all (λ (c : Called). is_bind_or_unbind c.callback) cs ≡ true) front.whole parts.0))) act)))
      | inr there ↦ (
          let order = (ordered.each i there).order in
          let front = front_of i.callbacks (one_at_a_time_of i.callbacks order) (out_of i its) in
          by_front i its front (activates_once i.callbacks i.drained front order (drains_of i there)))
    ]

    -- the others keep what is reserved for them
    ended_other : (i : Instance) → (i.turn ≡ turn → ⊥) → reserved_for (g i) ≡ reserved_for i
    ended_other i other =
        ap reserved_for (cond-false (has_turn turn i) (with_outcome outcome w.generations i) i (ap (λ b. b && is_outstanding i.callbacks) (ne_eqb i.turn turn other)))

    ceased : (y : Instance) → Contains (map g w.instances) y → lives_on y ≡ false → reserved_for y ≡ 0
    ceased y h ceases = let found = mapped_was g w.instances y h in subst (λ (x : Instance). lives_on x ≡ false → reserved_for x ≡ 0) found.2 (one found.0 found.1) ceases
      where
        one : (i : Instance) → Contains w.instances i → lives_on (g i) ≡ false → reserved_for (g i) ≡ 0
        one i there off = go (has_turn turn i) refl off
          where
            go : (b : Bool) → has_turn turn i ≡ b → lives_on (cond b (with_outcome outcome w.generations i) i) ≡ false → reserved_for (cond b (with_outcome outcome w.generations i) i) ≡ 0
            go true its ends_it = reserved_is (with_outcome outcome w.generations i) ∙ unreserved i.callbacks outcome i.drained (out_of i its) (ordered.each i there).order (drains_of i there) (ordered.living i there) ends_it
            go false other ends_it = absurd (both_ways (lives_on i) ends_it (ordered.living i there))

    ended_total : is_under_way w turn ≡ true → total reserved_for (whiteboard_by (End turn outcome) w ∷ instances_by (End turn outcome) w) + given_back_by (End turn outcome) w ≡ in_use
    ended_total some =
        let found = any_found (has_turn turn) (all_instances w) some in
        let its : found.0.turn ≡ turn = eqb-true found.0.turn turn (and_parts (found.0.turn == turn) (is_outstanding found.0.callbacks) found.2).0 in
        let apart = legal_turns_apart limit past legal in
        let changed = total_changed reserved_for (λ (i : Instance). i.turn) g turn ended_other (all_instances w) apart found.0 found.1 its in
        let exact = ended_one found.0 found.1 found.2 in
        let first = total-cons reserved_for (g w.whiteboard) (filter lives_on (map g w.instances)) in
        let all = total-cons reserved_for (g w.whiteboard) (map g w.instances) in
        let kept = total_all_kept reserved_for lives_on (map g w.instances) ceased in
        let only = any_of_one (has_turn turn) (λ (i : Instance). last_is is_activate i.callbacks) (all_instances w) found.0 found.1 found.2
        (λ i h on. one_of (λ (x : Instance). x.turn) (all_instances w) apart i found.0 h found.1 (eqb-true i.turn turn (and_parts (i.turn == turn) (is_outstanding i.callbacks) on).0 ∙ sym its)) in
        let back : given_back_by (End turn outcome) w ≡ failed_activate found.0 = ap (λ b. 1 + one_if (is_failed (Some outcome) && b)) only in
        omega (arith, changed, exact, first, all, kept, back)

  module _ (instance : ℕ) where
    drained_one : (i : Instance) → (i.number == instance) ≡ true → awaits_drain w i ≡ true → reserved_for (drained_in instance i) + 1 ≡ reserved_for i
    drained_one i its waits =
        let parts = and_parts (is_draining w i) (not i.drained) waits in
        let active : is_active_instance i ≡ true = (and_parts (is_active_instance i) (ends w i) parts.0).0 in
        let now : drained_in instance i ≡ record i { drained = true } = cond-true (i.number == instance) (record i { drained = true }) i its in
        let was : one_if (is_activated i.callbacks && not i.drained) ≡ 1 = ap (λ b. one_if (b && not i.drained)) (active_activated i active) ∙ ap one_if parts.1 in
        let is : one_if (is_activated i.callbacks && false) ≡ 0 = ap (λ b. one_if (b && false)) (active_activated i active) in
        omega (arith, ap reserved_for now, was, is)

    drained_other : (i : Instance) → (i.number ≡ instance → ⊥) → reserved_for (drained_in instance i) ≡ reserved_for i
    drained_other i other = ap reserved_for (cond-false (i.number == instance) (record i { drained = true }) i (ne_eqb i.number instance other))

    drained_total : list_any (λ (i : Instance). (i.number == instance) && awaits_drain w i) w.instances ≡ true → total reserved_for (whiteboard_by (Drained instance) w ∷ instances_by (Drained instance) w) + 1 ≡ in_use
    drained_total some =
        let found = any_found (λ (i : Instance). (i.number == instance) && awaits_drain w i) w.instances some in
        let both = and_parts (found.0.number == instance) (awaits_drain w found.0) found.2 in
        let apart = (and_parts (not (has (map (λ (i : Instance). i.number) w.instances) w.whiteboard.number)) (are_apart (map (λ (i : Instance). i.number) w.instances)) ordered.apart).1 in
        let changed = total_changed reserved_for (λ (i : Instance). i.number) (drained_in instance) instance drained_other w.instances apart found.0 found.1 (eqb-true found.0.number instance both.0) in
        let exact = drained_one found.0 both.0 both.1 in
        omega (arith, changed, exact, total-cons reserved_for w.whiteboard (map (drained_in instance) w.instances), total-cons reserved_for w.whiteboard w.instances)

  by_step : (step : Step) → MayCome w step → total reserved_for (whiteboard_by step w ∷ instances_by step w) + length (tokens_by step w.entries w.tokens) + given_back_by step w ≡ reserved w + reserved_with step
  by_step (Commanded command) may = omega arith
  by_step (Begin turn instance configuration consumer callback chosen) may =
      let exact = begun_total turn instance configuration consumer callback chosen (begin_is w ordered turn instance configuration consumer callback chosen may) in omega (arith, exact)
  by_step (End turn outcome) may = let exact = ended_total turn outcome may in omega (arith, exact)
  by_step (Drained instance) may = let exact = drained_total instance may in omega (arith, exact)
  by_step (Got bundle service) may = omega (arith, length-append w.tokens (record { place = w.entries; bundle = bundle; service = service } ∷ []))
  by_step (Released place) may = let exact = one_released place w.tokens (tokens_spread past).apart may in omega (arith, exact)

  pub reserved_then : (entry : Entry Step) → MayCome (world_of past) entry.step
      → reserved (world_after_entry entry (world_of past)) + (given_back_by entry.step (world_of past) + length (tokens_dropped entry (world_of past))) ≡ reserved (world_of past) + reserved_with entry.step
  unfolding world_after_entry world_after_step
  reserved_then entry may =
      let exact = by_step entry.step may in
      let dropped = kept_and_dropped (stands_in (world_after_entry entry w)) (tokens_by entry.step w.entries w.tokens) in
      omega (arith, exact, dropped)

pub first_reserved : reserved (world_of []) ≡ 0
unfolding world_of
first_reserved = refl

room_at : (limit : ℕ) (past : History) → IsLegal limit past → (world_of past).entries + reserved (world_of past) ≤ limit
unfolding has_room
room_at limit [] legal = let none = first_reserved in let zero = entries_of [] in omega (arith, none, zero)
room_at limit (entry ∷ past) legal = let fits = leb-true ((world_of (entry ∷ past)).entries + reserved (world_of (entry ∷ past)) + 0) limit legal.0.room_after in omega (arith, fits)

-- in a legal journal the entries and what is reserved have room
pub room_in : (limit : ℕ) (past : History) → IsLegal limit past → length past + reserved (world_of past) ≤ limit
room_in limit past legal = let fits = room_at limit past legal in let so_many = entries_of past in omega (arith, fits, so_many)
