-- Each part of a move takes a call one step further.
use Rattle.std.proofs.Common.{◌≡◌, ℕ, ◌+◌, ◌||◌, List, [], ◌∷◌, ◌++◌, length, true, false, Some, None, refl, sym, ap, ◌∙◌, subst}
use Rattle.std.specs.Prelude.{◌==◌}
use Rattle.std.proofs.lemmas.List.{length-append}
use Rattle.kind_trait.specs.Meanings.{Asking, Calls as CallsMove}
use Rattle.kind_trait.specs.Stacks.{Stack, too_long}
use Rattle.kind_trait.specs.declared.call_stack.Waiting.{Waiting}
use Rattle.kind_trait.specs.declared.nested_reply.NestedReply.{NestedReply}
use Rattle.call_moves.specs.declared.nested_call.NestedCall.{NestedCall}
use Rattle.call_moves.specs.Evaluations.{Frame, Instance, Meaning, Nobody, Reaching, going_on, is_too_long, nested_call, reply_by, taken_up, with_reply_at}
use Rattle.call_moves.specs.Progress.{EndsBy, HasCome, next_move}
use Rattle.call_moves.proofs.Steps.{goes_back, is_done, is_taken_up, is_too_much, reaches_nobody}
use Rattle.call_runner.specs.declared.advance.Step.{Step}
use Rattle.call_runner.specs.declared.advance.Step.TheVariants.{Goes, Ends}
use Rattle.call_runner.specs.declared.callees.Party.{Party}
use Rattle.call_runner.specs.declared.calls.Calls.{Calls}
use Rattle.call_runner.specs.declared.calls.Paused.{Paused}
use Rattle.call_runner.specs.declared.calls.Running.{Running}
use Rattle.call_runner.specs.declared.run.End.{End}
use Rattle.call_runner.specs.declared.run.End.TheVariants.{TooLong as EndTooLong}
use Rattle.call_runner.specs.Runs.{AreAt, ComesToEnd, HasStepped, IsAt, Outer, ended_of, frame_of, frame_of_paused, frames_of}
use Rattle.call_runner.specs.Steps.{HasEnded, HasResumed, HasWaited, taken_up_by}
use Rattle.call_runner.proofs.Stacked.{are_at_last, are_at_replied, frames_last, frames_length, length_replied, same_end}

abbrev Come : Reaching → Meaning → Outer → List Frame → Frame → List NestedCall → Type 0
Come reaches next outer waiting f nested = HasCome reaches next outer.instance outer.site outer.request waiting f nested

module _ (reaches : Reaching) (next : Meaning) (front : ℕ) {W : Type 0} (stands_for : W → Asking) (outer : Outer) where
  -- ---- a call that ends

  pub ended_step : {O : Type 0} (before after : Calls W) (f : Frame) (place : ℕ) (end : End) (step : Step O W) → f.place ≡ place → IsAt reaches next front stands_for outer before f → EndsBy (next_move next f) (ended_of end) → HasEnded before place end after step
      → HasStepped reaches next front stands_for outer after step
  ended_step before after f place end (Goes running) here at ends ((paused, popped, is), noted) =
      let reply = reply_by (ended_of end) in
      let waits : frames_of stands_for before.waiting.calls ≡ frame_of_paused stands_for paused ∷ frames_of stands_for after.waiting.calls =
      ap (frames_of stands_for) popped.1 ∙ frames_last stands_for after.waiting.calls (record { service = popped.0; work = paused }) in
      let come = subst (λ ws. Come reaches next outer ws f before.nested.items) waits at.come in
      let back = goes_back reaches next outer.instance outer.site outer.request (frame_of_paused stands_for paused) (frames_of stands_for after.waiting.calls) f before.nested.items (ended_of end) come ends in
      let told : with_reply_at f.place reply before.nested.items ≡ after.nested.items = ap (λ k. with_reply_at k reply before.nested.items) here ∙ sym noted in
      let goes : going_on (frame_of_paused stands_for paused) reply ≡ frame_of stands_for running = ap (frame_of stands_for) (sym is) in
      record {
        come = subst (λ g. Come reaches next outer (frames_of stands_for after.waiting.calls) g after.nested.items) goes (subst (λ ns. Come reaches next outer (frames_of stands_for after.waiting.calls) (going_on (frame_of_paused stands_for paused) reply) ns) told back);
        counted = popped.2 ∙ at.counted ∙ sym (ap length noted ∙ length_replied place reply before.nested.items);
        at_front = subst (AreAt front) (sym noted) (are_at_replied front place reply before.nested.items at.at_front);
      }
  ended_step before after f place end (Ends last) here at ends (same, none, waits, nested) =
      let come = subst (λ ws. Come reaches next outer ws f before.nested.items) (ap (frames_of stands_for) none) at.come in
      let done = is_done reaches next outer.instance outer.site outer.request f before.nested.items (ended_of end) come ends in
      let over = subst (λ (e : End). ComesToEnd reaches next front outer before.nested.items e) (sym same) (done, at.at_front) in
      subst (λ ns. ComesToEnd reaches next front outer ns last) (sym nested) over

  -- ---- a nested call that begins

  module _ (before between : Calls W) (paused : Paused W) (reference text : List ℕ) (at : IsAt reaches next front stands_for outer before (frame_of_paused stands_for paused)) (calls : next_move next (frame_of_paused stands_for paused) ≡ CallsMove reference text)
      (same : between.nested.items ≡ before.nested.items) where
    long_alike : is_too_long (length (frames_of stands_for before.waiting.calls)) before.nested.items ≡ too_long before.waiting
    long_alike =
        ap (λ n. (n == 16) || (length before.nested.items == 64)) (frames_length stands_for before.waiting.calls)
        ∙ ap (λ n. (length before.waiting.calls == 16) || (n == 64)) (sym at.counted)

    pub too_much_step : HasWaited before.waiting paused false between.waiting → ComesToEnd reaches next front outer between.nested.items EndTooLong
    too_much_step (long, same_calls, same_count) =
        subst (λ ns. ComesToEnd reaches next front outer ns EndTooLong) (sym same)
        (is_too_much reaches next outer.instance outer.site outer.request (frames_of stands_for before.waiting.calls) (frame_of_paused stands_for paused) before.nested.items reference text at.come calls (long_alike ∙ long), at.at_front)

    module _ (waited : HasWaited before.waiting paused true between.waiting) (after : Calls W) where
      short : is_too_long (length (frames_of stands_for before.waiting.calls)) before.nested.items ≡ false
      short = long_alike ∙ waited.0

      count : (n : NestedCall) → after.nested.items ≡ between.nested.items ++ n ∷ [] → length after.nested.items ≡ before.waiting.nested + 1
      count n noted = ap length noted ∙ length-append between.nested.items (n ∷ []) ∙ ap (λ k. k + 1) (ap length same ∙ sym at.counted)

      are_at : (n : NestedCall) → n.front ≡ front → after.nested.items ≡ between.nested.items ++ n ∷ [] → AreAt front after.nested.items
      are_at n its noted = subst (AreAt front) (sym noted) (are_at_last front between.nested.items n (subst (AreAt front) (sym same) at.at_front) its)

      nested_now : (n : NestedCall) → after.nested.items ≡ between.nested.items ++ n ∷ [] → before.nested.items ++ n ∷ [] ≡ after.nested.items
      nested_now n noted = ap (λ ns. ns ++ n ∷ []) (sym same) ∙ sym noted

      pub nobody_step : {O : Type 0} (running : Running O W) (service : ℕ) (reply : NestedReply) → reaches front paused.instance reference ≡ Nobody service reply → HasResumed between.waiting reply running after.waiting
          → after.nested.items ≡ between.nested.items ++ nested_call front service text (Some reply) ∷ [] → IsAt reaches next front stands_for outer after (frame_of stands_for running)
      nobody_step running service reply reached (popped_one, popped, is) noted =
          let n = nested_call front service text (Some reply) in
          let ends = same_end before.waiting.calls after.waiting.calls (record { service = paused.service; work = paused }) (record { service = popped.0; work = popped_one }) (sym waited.1 ∙ popped.1) in
          let its : paused ≡ popped_one = ap (λ (w : Waiting (Paused W)). w.work) ends.1 in
          let goes : going_on (frame_of_paused stands_for paused) reply ≡ frame_of stands_for running =
          ap (λ (p : Paused W). going_on (frame_of_paused stands_for p) reply) its ∙ ap (frame_of stands_for) (sym is) in
          let come = reaches_nobody reaches next outer.instance outer.site outer.request (frames_of stands_for before.waiting.calls) (frame_of_paused stands_for paused) before.nested.items reference text front service reply at.come calls short reached in
          record {
            come = subst (λ ws. Come reaches next outer (frames_of stands_for ws) (frame_of stands_for running) after.nested.items) ends.0
                (subst (λ g. Come reaches next outer (frames_of stands_for before.waiting.calls) g after.nested.items) goes
                (subst (λ ns. Come reaches next outer (frames_of stands_for before.waiting.calls) (going_on (frame_of_paused stands_for paused) reply) ns) (nested_now n noted) come));
            counted = popped.2 ∙ waited.2 ∙ sym (count n noted);
            at_front = are_at n refl noted;
          }

      pub taken_step : {O : Type 0} (running : Running O W) (service : ℕ) (party : Party O) → reaches front paused.instance reference ≡ Instance service party.instance party.site → after.waiting ≡ between.waiting
          → running ≡ taken_up_by service party text (length between.nested.items) → after.nested.items ≡ between.nested.items ++ nested_call front service text None ∷ [] → IsAt reaches next front stands_for outer after (frame_of stands_for running)
      taken_step running service party reached waits is noted =
          let n = nested_call front service text None in
          let come = is_taken_up reaches next outer.instance outer.site outer.request (frames_of stands_for before.waiting.calls) (frame_of_paused stands_for paused) before.nested.items reference text front service party.instance party.site at.come calls short reached in
          let frames : frame_of_paused stands_for paused ∷ frames_of stands_for before.waiting.calls ≡ frames_of stands_for after.waiting.calls =
          sym (frames_last stands_for before.waiting.calls (record { service = paused.service; work = paused })) ∙ ap (frames_of stands_for) (sym waited.1) ∙ ap (λ (s : Stack (Paused W)). frames_of stands_for s.calls) (sym waits) in
          let goes : taken_up party.instance party.site text (length before.nested.items) ≡ frame_of stands_for running =
          ap (λ k. taken_up party.instance party.site text k) (ap length (sym same)) ∙ ap (frame_of stands_for) (sym is) in
          record {
            come = subst (λ ws. Come reaches next outer ws (frame_of stands_for running) after.nested.items) frames
                (subst (λ g. Come reaches next outer (frame_of_paused stands_for paused ∷ frames_of stands_for before.waiting.calls) g after.nested.items) goes
                (subst (λ ns. Come reaches next outer (frame_of_paused stands_for paused ∷ frames_of stands_for before.waiting.calls) (taken_up party.instance party.site text (length before.nested.items)) ns) (nested_now n noted) come));
            counted = ap (λ (s : Stack (Paused W)). s.nested) waits ∙ waited.2 ∙ sym (count n noted);
            at_front = are_at n refl noted;
          }
