-- The test of a sequence says what the grammar says.
use Rattle.std.proofs.Common.{◌≡◌, List, [], ◌∷◌, ◌++◌, true, false, refl, ap, ◌∙◌, sym, subst}
use Rattle.std.specs.Prelude.{◌&&◌, ◌↔◌, IsTrue}
use Rattle.std.specs.List.{list_all}
use Rattle.std.proofs.lemmas.Bool.{and_parts, and_from}
use Rattle.callback_orders.specs.declared.callback.Callback.{Callback}
use Rattle.callback_orders.specs.declared.callback.Outcome.TheVariants.{Refused}
use Rattle.callback_orders.specs.declared.word.Called.{Called}
use Rattle.callback_orders.specs.Sequences.{Bound, alternate, have_ended, one_at_a_time, is_bind_or_unbind, created, is_sequence, is_whiteboard_sequence}
use Rattle.callback_orders.specs.Grammar.{about, in_rounds, of, settled, IsSequence, IsWhiteboardSequence}
use Rattle.callback_orders.proofs.RoundLemmas.{unbinds, bound_end, rounds-closed, alternate-from}
use Rattle.callback_orders.proofs.CycleLemmas.{created-completes}
use Rattle.callback_orders.proofs.CycleTests.{created-from, created-ends, binds-end}
use Rattle.callback_orders.proofs.Fronts.{created-front, one_at_a_time-front, alternate-front, binds-front, settled-ended, settled-binds, about-settled}

-- whole rounds, where a continuation unbinds what is bound
whole_rounds : (calls more : List Called) → alternate [] calls ≡ true → ((x : Bound) → about x more ≡ about x (unbinds (bound_end [] calls)))
    → (b : Bound) → in_rounds false (about b (settled Refused calls ++ more)) ≡ true
whole_rounds calls more a closes b =
    subst (λ (l : List Callback). in_rounds false l ≡ true)
    (sym (about-settled b Refused calls more ∙ ap (λ (l : List Callback). about b calls ++ l) (closes b)))
    (rounds-closed b [] calls refl a)

sequence-from : (calls : List Called) → is_sequence calls ≡ true → IsSequence calls
sequence-from calls h =
    let p = and_parts (created calls && one_at_a_time calls) (alternate [] calls) h in
    let q = and_parts (created calls) (one_at_a_time calls) p.0 in
    let k = created-completes calls q.0 q.1 p.1 in (
      Refused,
      k.more,
      record {
        ended = settled-ended Refused calls k.more q.1 k.over;
        cycle = k.form;
        rounds = whole_rounds calls k.more p.1 k.closes;
      },
    )

sequence-tested : (calls : List Called) → IsSequence calls → is_sequence calls ≡ true
sequence-tested calls w =
    let whole = settled w.0 calls ++ w.1 in
    let c : created whole ≡ true = created-from whole w.2.cycle in
    let a : alternate [] whole ≡ true = alternate-from whole [] (created-ends whole c) w.2.rounds in
    and_from _ _ (and_from _ _ (created-front w.0 calls w.1 c) (one_at_a_time-front w.0 calls w.1 w.2.ended)) (alternate-front w.0 [] calls w.1 a)

unbinds-over : (bound : List Bound) → have_ended (unbinds bound) ≡ true
unbinds-over [] = refl
unbinds-over (b ∷ bound) = unbinds-over bound

unbinds-are : (bound : List Bound) → list_all (of is_bind_or_unbind) (unbinds bound) ≡ true
unbinds-are [] = refl
unbinds-are (b ∷ bound) = unbinds-are bound

whiteboard-from : (calls : List Called) → is_whiteboard_sequence calls ≡ true → IsWhiteboardSequence calls
whiteboard-from calls h =
    let p = and_parts (list_all (of is_bind_or_unbind) calls && one_at_a_time calls) (alternate [] calls) h in
    let q = and_parts (list_all (of is_bind_or_unbind) calls) (one_at_a_time calls) p.0 in
    let more = unbinds (bound_end [] calls) in (
      Refused,
      more,
      record {
        ended = settled-ended Refused calls more q.1 (unbinds-over (bound_end [] calls));
        cycle = settled-binds Refused calls more q.0 (unbinds-are (bound_end [] calls));
        rounds = whole_rounds calls more p.1 (λ x. refl);
      },
    )

whiteboard-tested : (calls : List Called) → IsWhiteboardSequence calls → is_whiteboard_sequence calls ≡ true
whiteboard-tested calls w =
    let whole = settled w.0 calls ++ w.1 in
    let a : alternate [] whole ≡ true = alternate-from whole [] (binds-end whole w.2.cycle) w.2.rounds in
    and_from _ _ (and_from _ _ (binds-front w.0 calls w.1 w.2.cycle) (one_at_a_time-front w.0 calls w.1 w.2.ended)) (alternate-front w.0 [] calls w.1 a)

pub is_sequence-means : (calls : List Called) → IsTrue (is_sequence calls) ↔ IsSequence calls
is_sequence-means calls = (sequence-from calls, sequence-tested calls)

pub is_whiteboard_sequence-means : (calls : List Called) → IsTrue (is_whiteboard_sequence calls) ↔ IsWhiteboardSequence calls
is_whiteboard_sequence-means calls = (whiteboard-from calls, whiteboard-tested calls)
