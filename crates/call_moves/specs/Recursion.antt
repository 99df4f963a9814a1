-- The plain recursion: an instance answers what it is asked, or it asks a nested call and goes on with its reply. Our own.
use Rattle.std.specs.Prelude.{ℕ, zero, suc, List, [], ◌∷◌, ◌++◌, length, Some, None, if◌then◌else◌}
use Rattle.kind_trait.specs.Meanings.{Asking, Move, Refuses, Answers, Calls}
use Rattle.call_moves.specs.declared.nested_call.NestedCall.{NestedCall}
use Rattle.call_moves.specs.Evaluations.{Meaning, Whom, Nobody, Instance, Reaching, Ended, Said, Declined, TooLong, Calling, Over, Starved, asked_of, with_reply, nested_call, with_reply_at, is_too_long, reply_by}

-- what an instance's answer comes to: the nested calls so far, how it ended, and the fronts to come; or it wants a further front
pub data Outcome : Type 0 where
  Ends : List NestedCall → Ended → List ℕ → Outcome
  Lacks : Outcome

-- what an instance's answer comes to, while so many calls wait, by the number of the instance, what it is asked with the replies so far, the nested calls
-- so far, and the fronts to come
abbrev pub Evaluating : Type 0
Evaluating = ℕ → ℕ → Asking → List NestedCall → List ℕ → Outcome

-- Behind a nested call at a place: the instance goes on with its reply. Where it was too long, so is the whole.
abbrev pub resumed : Evaluating → ℕ → ℕ → Asking → ℕ → Outcome → Outcome
resumed evaluate waiting instance asking place Lacks = Lacks
resumed evaluate waiting instance asking place (Ends nested TooLong fronts) = Ends nested TooLong fronts
resumed evaluate waiting instance asking place (Ends nested (Said text) fronts) =
    evaluate waiting instance (with_reply asking (reply_by (Said text))) (with_reply_at place (reply_by (Said text)) nested) fronts
resumed evaluate waiting instance asking place (Ends nested Declined fronts) =
    evaluate waiting instance (with_reply asking (reply_by Declined)) (with_reply_at place (reply_by Declined) nested) fronts

-- a nested call: a reply at once, or what the answer of the instance that it reaches comes to, one deeper
abbrev pub called : Evaluating → Whom → ℕ → List ℕ → ℕ → ℕ → Asking → List NestedCall → List ℕ → Outcome
called evaluate (Nobody service reply) front request waiting instance asking nested fronts =
    evaluate waiting instance (with_reply asking reply) (nested ++ nested_call front service request (Some reply) ∷ []) fronts
called evaluate (Instance service number site) front request waiting instance asking nested fronts =
    resumed evaluate waiting instance asking (length nested) (evaluate (suc waiting) number (asked_of site request) (nested ++ nested_call front service request None ∷ []) fronts)

module _ (reaches : Reaching) (next : Meaning) where
  -- a nested call takes the next front
  abbrev pub calls : Evaluating → List ℕ → List ℕ → List ℕ → ℕ → ℕ → Asking → List NestedCall → Outcome
  calls evaluate [] reference request waiting instance asking nested = Lacks
  calls evaluate (front ∷ fronts) reference request waiting instance asking nested = called evaluate (reaches front instance reference) front request waiting instance asking nested fronts

  -- an answer is the end, and so is a refusal; a nested call is made unless it would be one too many
  abbrev pub answered : Evaluating → Move → ℕ → ℕ → Asking → List NestedCall → List ℕ → Outcome
  answered evaluate (Answers text) waiting instance asking nested fronts = Ends nested (Said text) fronts
  answered evaluate Refuses waiting instance asking nested fronts = Ends nested Declined fronts
  answered evaluate (Calls reference request) waiting instance asking nested fronts =
      if is_too_long waiting nested then Ends nested TooLong fronts else calls evaluate fronts reference request waiting instance asking nested

  -- the recursion, cut off at a depth
  unfoldable pub evaluate : ℕ → Evaluating
  evaluate zero waiting instance asking nested fronts = Lacks
  evaluate (suc k) waiting instance asking nested fronts =
      answered (evaluate k) (next asking.class asking.properties asking.request asking.replies) waiting instance asking nested fronts

-- a call that is over, or that wants a further front
abbrev pub as_over : Outcome → Calling
as_over (Ends nested end fronts) = Over nested end fronts
as_over Lacks = Starved
