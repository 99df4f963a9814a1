-- The moves of a call are the plain recursion.
use Rattle.std.proofs.Common.{◌≡◌, ℕ, zero, suc, ◌+◌, ◌≤◌, Bool, true, false, if◌then◌else◌, List, [], ◌∷◌, ◌++◌, length, Some, None, refl, sym, ap, ◌∙◌, subst, arith}
use Rattle.kind_trait.specs.Meanings.{Move, Refuses, Answers, Calls}
use Rattle.kind_trait.specs.declared.nested_reply.NestedReply.{NestedReply}
use Rattle.turn_work.specs.declared.site.Site.{Site}
use Rattle.call_moves.specs.declared.nested_call.NestedCall.{NestedCall}
use Rattle.call_moves.specs.Evaluations.{Meaning, Whom, Nobody, Instance, Reaching, Ended, Said, Declined, TooLong, Frame, Calling, Runs, Over, Starved, asked_of, taken_up, going_on, nested_call, with_reply_at, is_too_long, reply_by, ended_by, nested_by, begun_at, moved_by, moved, after_moves, begun}
use Rattle.call_moves.specs.Fronts.{Rests}
use Rattle.call_moves.specs.Recursion.{Outcome, Ends, Lacks, resumed, called, calls, answered, evaluate, as_over}
use Rattle.call_moves.proofs.Moves.{moves_join, rest_once}
use Rattle.call_moves.proofs.Lengths.{replied_length, one_longer, not_too_long, rests_at}

-- the call behind the end of the one that ran
abbrev after_outcome : List Frame → Frame → Outcome → Calling
after_outcome waiting f Lacks = Starved
after_outcome waiting f (Ends nested (Said text) fronts) = ended_by (Said text) waiting f nested fronts
after_outcome waiting f (Ends nested Declined fronts) = ended_by Declined waiting f nested fronts
after_outcome waiting f (Ends nested TooLong fronts) = Over nested TooLong fronts

-- the nested calls are at least so many, and 64 at most
abbrev Holds : ℕ → Outcome → Type 0
Holds n Lacks = Unit {0}
Holds n (Ends nested end fronts) = (n ≤ length nested) × (length nested ≤ 64)

fewer_hold : (n m : ℕ) (o : Outcome) → n ≤ m → Holds m o → Holds n o
fewer_hold n m Lacks less holds = tt
fewer_hold n m (Ends nested end fronts) less holds = let a = holds.0 in (omega arith, holds.1)

-- replies change nothing in where the end of a call is noted
same_ended : (end : Ended) (waiting : List Frame) (f : Frame) (reply : NestedReply) (nested : List NestedCall) (fronts : List ℕ) → ended_by end waiting (going_on f reply) nested fronts ≡ ended_by end waiting f nested fronts
same_ended end [] f reply nested fronts = refl
same_ended end (before ∷ waiting) f reply nested fronts = refl

same_after : (waiting : List Frame) (f : Frame) (reply : NestedReply) (o : Outcome) → after_outcome waiting (going_on f reply) o ≡ after_outcome waiting f o
same_after waiting f reply Lacks = refl
same_after waiting f reply (Ends nested (Said text) fronts) = same_ended (Said text) waiting f reply nested fronts
same_after waiting f reply (Ends nested Declined fronts) = same_ended Declined waiting f reply nested fronts
same_after waiting f reply (Ends nested TooLong fronts) = refl

module _ (reaches : Reaching) (next : Meaning) where
  -- some moves lead to an outcome
  record Leads (c : Calling) (waiting : List Frame) (f : Frame) (n : ℕ) (o : Outcome) : Type 0 where
    pub moves : ℕ
    pub is : after_moves reaches next moves c ≡ after_outcome waiting f o
    pub holds : Holds n o

  at_once : (c : Calling) (waiting : List Frame) (f : Frame) (n : ℕ) (o : Outcome) → c ≡ after_outcome waiting f o → Holds n o → Leads c waiting f n o
  unfolding after_moves
  at_once c waiting f n o is holds = record { moves = 0; is = is; holds = holds }

  -- where the next move leads to it
  one_more : (c : Calling) (waiting : List Frame) (f : Frame) (n : ℕ) (o : Outcome) → Leads (moved reaches next c) waiting f n o → Leads c waiting f n o
  unfolding after_moves
  one_more c waiting f n o leads = record { moves = suc leads.moves; is = leads.is; holds = leads.holds }

  -- some moves lead to a call that leads to it
  joined : (k : ℕ) (c d : Calling) (waiting : List Frame) (f : Frame) (n : ℕ) (o : Outcome) → after_moves reaches next k c ≡ d → Leads d waiting f n o → Leads c waiting f n o
  joined k c d waiting f n o to leads =
      record { moves = k + leads.moves; is = moves_join reaches next k leads.moves c ∙ ap (after_moves reaches next leads.moves) to ∙ leads.is; holds = leads.holds }

  -- the instance goes on with a reply, with at least as many nested calls
  gone_on : (c : Calling) (waiting : List Frame) (f : Frame) (reply : NestedReply) (n m : ℕ) (o : Outcome) → n ≤ m → Leads c waiting (going_on f reply) m o → Leads c waiting f n o
  gone_on c waiting f reply n m o less leads = record { moves = leads.moves; is = leads.is ∙ same_after waiting f reply o; holds = fewer_hold n m o less leads.holds }

  -- evaluating cut off at so much leads to its outcome, wherever it is enough
  abbrev LeadsAt : ℕ → Type 0
  LeadsAt k = (waiting : List Frame) (f : Frame) (nested : List NestedCall) (fronts : List ℕ) → length nested ≤ 64 → 65 ≤ k + length nested
      → Leads (Runs waiting f nested fronts) waiting f (length nested) (evaluate reaches next k (length waiting) f.instance f.asking nested fronts)

  -- behind a nested call
  behind : (k j : ℕ) (c : Calling) (callee : Frame) (waiting : List Frame) (f : Frame) (n : ℕ) (o : Outcome) → LeadsAt k → 65 ≤ k + suc n
      → after_moves reaches next j c ≡ after_outcome (f ∷ waiting) callee o → Holds (suc n) o
      → Leads c waiting f n (resumed (evaluate reaches next k) (length waiting) f.instance f.asking callee.place o)
  behind k j c callee waiting f n Lacks leads enough to holds = record { moves = j; is = to; holds = tt }
  behind k j c callee waiting f n (Ends nested TooLong fronts) leads enough to holds = let a = holds.0 in record { moves = j; is = to; holds = (omega arith, holds.1) }
  behind k j c callee waiting f n (Ends nested (Said text) fronts) leads enough to holds =
      let same = replied_length callee.place (reply_by (Said text)) nested in let a = holds.0 in let b = holds.1 in
      joined j c _ waiting f n _ to (gone_on _ waiting f (reply_by (Said text)) n (length (with_reply_at callee.place (reply_by (Said text)) nested)) _ (omega (arith, same))
      (leads waiting (going_on f (reply_by (Said text))) (with_reply_at callee.place (reply_by (Said text)) nested) fronts (omega (arith, same)) (omega (arith, same))))
  behind k j c callee waiting f n (Ends nested Declined fronts) leads enough to holds =
      let same = replied_length callee.place (reply_by Declined) nested in let a = holds.0 in let b = holds.1 in
      joined j c _ waiting f n _ to (gone_on _ waiting f (reply_by Declined) n (length (with_reply_at callee.place (reply_by Declined) nested)) _ (omega (arith, same))
      (leads waiting (going_on f (reply_by Declined)) (with_reply_at callee.place (reply_by Declined) nested) fronts (omega (arith, same)) (omega (arith, same))))

  by_whom : (k : ℕ) (to : Whom) (front : ℕ) (request : List ℕ) (waiting : List Frame) (f : Frame) (nested : List NestedCall) (fronts : List ℕ) → LeadsAt k
      → length nested ≤ 64 → (length nested ≡ 64 → ⊥) → 65 ≤ k + suc (length nested)
      → Leads (nested_by to front request waiting f nested fronts) waiting f (length nested) (called (evaluate reaches next k) to front request (length waiting) f.instance f.asking nested fronts)
  by_whom k (Nobody service reply) front request waiting f nested fronts leads small less enough =
      let more = nested ++ nested_call front service request (Some reply) ∷ [] in let longer = one_longer nested (nested_call front service request (Some reply)) in
      gone_on _ waiting f reply (length nested) (length more) _ (omega (arith, longer)) (leads waiting (going_on f reply) more fronts (omega (arith, longer, less)) (omega (arith, longer)))
  by_whom k (Instance service number site) front request waiting f nested fronts leads small less enough =
      let more = nested ++ nested_call front service request None ∷ [] in let longer = one_longer nested (nested_call front service request None) in
      let callee = taken_up number site request (length nested) in
      let inner = leads (f ∷ waiting) callee more fronts (omega (arith, longer, less)) (omega (arith, longer)) in
      behind k inner.moves (Runs (f ∷ waiting) callee more fronts) callee waiting f (length nested) _ leads enough inner.is (fewer_hold (suc (length nested)) (length more) _ (omega (arith, longer)) inner.holds)

  by_fronts : (k : ℕ) (fronts reference request : List ℕ) (waiting : List Frame) (f : Frame) (nested : List NestedCall) → LeadsAt k
      → length nested ≤ 64 → (length nested ≡ 64 → ⊥) → 65 ≤ k + suc (length nested)
      → Leads (begun_at reaches next fronts reference request waiting f nested) waiting f (length nested) (calls reaches next (evaluate reaches next k) fronts reference request (length waiting) f.instance f.asking nested)
  by_fronts k [] reference request waiting f nested leads small less enough = at_once Starved waiting f (length nested) Lacks refl tt
  by_fronts k (front ∷ fronts) reference request waiting f nested leads small less enough = by_whom k (reaches front f.instance reference) front request waiting f nested fronts leads small less enough

  by_test : (k : ℕ) (b : Bool) (fronts reference request : List ℕ) (waiting : List Frame) (f : Frame) (nested : List NestedCall) → is_too_long (length waiting) nested ≡ b → LeadsAt k
      → length nested ≤ 64 → 65 ≤ k + suc (length nested)
      → Leads (if b then Over nested TooLong fronts else begun_at reaches next fronts reference request waiting f nested) waiting f (length nested)
      (if b then Ends nested TooLong fronts else calls reaches next (evaluate reaches next k) fronts reference request (length waiting) f.instance f.asking nested)
  by_test k true fronts reference request waiting f nested is leads small enough = at_once _ waiting f (length nested) (Ends nested TooLong fronts) refl (omega arith, small)
  by_test k false fronts reference request waiting f nested is leads small enough = by_fronts k fronts reference request waiting f nested leads small (not_too_long (length waiting) nested is) enough

  by_move : (k : ℕ) (m : Move) (fronts : List ℕ) (waiting : List Frame) (f : Frame) (nested : List NestedCall) → LeadsAt k → length nested ≤ 64 → 65 ≤ k + suc (length nested)
      → Leads (moved_by reaches next m waiting f nested fronts) waiting f (length nested) (answered reaches next (evaluate reaches next k) m (length waiting) f.instance f.asking nested fronts)
  by_move k (Answers text) fronts waiting f nested leads small enough = at_once _ waiting f (length nested) (Ends nested (Said text) fronts) refl (omega arith, small)
  by_move k Refuses fronts waiting f nested leads small enough = at_once _ waiting f (length nested) (Ends nested Declined fronts) refl (omega arith, small)
  by_move k (Calls reference request) fronts waiting f nested leads small enough = by_test k (is_too_long (length waiting) nested) fronts reference request waiting f nested refl leads small enough

  all_lead : (k : ℕ) → LeadsAt k
  unfolding evaluate
  all_lead zero waiting f nested fronts small enough = absurd (omega arith)
  all_lead (suc k) waiting f nested fronts small enough =
      one_more (Runs waiting f nested fronts) waiting f (length nested) _
      (by_move k (next f.asking.class f.asking.properties f.asking.request f.asking.replies) fronts waiting f nested (all_lead k) small (omega arith))

  over_rests : (f : Frame) (o : Outcome) → (after_outcome [] f o ≡ as_over o) × Rests (as_over o)
  over_rests f Lacks = (refl, tt)
  over_rests f (Ends nested (Said text) fronts) = (refl, tt)
  over_rests f (Ends nested Declined fronts) = (refl, tt)
  over_rests f (Ends nested TooLong fronts) = (refl, tt)

  -- a request to an instance comes to what the recursion comes to
  pub is_recursion : (k j : ℕ) (instance : ℕ) (site : Site) (request fronts : List ℕ) → 65 ≤ k → 129 ≤ j
      → after_moves reaches next j (begun instance site request fronts) ≡ as_over (evaluate reaches next k 0 instance (asked_of site request) [] fronts)
  is_recursion k j instance site request fronts enough many =
      let leads = all_lead k [] (taken_up instance site request 0) [] fronts (omega arith) (omega arith) in
      let ends = leads.is ∙ (over_rests (taken_up instance site request 0) (evaluate reaches next k 0 instance (asked_of site request) [] fronts)).0 in
      rest_once reaches next j leads.moves (begun instance site request fronts) (rests_at reaches next j instance site request fronts many)
      (subst Rests (sym ends) (over_rests (taken_up instance site request 0) (evaluate reaches next k 0 instance (asked_of site request) [] fronts)).1) ∙ ends
