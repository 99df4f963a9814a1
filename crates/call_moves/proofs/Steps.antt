-- A call under way makes one move.
use Rattle.std.proofs.Common.{◌≡◌, ℕ, zero, suc, ◌+◌, true, false, if◌then◌else◌, List, [], ◌∷◌, ◌++◌, length, Some, None, refl, sym, ap, ◌∙◌, subst, arith}
use Rattle.kind_trait.specs.Meanings.{Move, Refuses, Answers, Calls}
use Rattle.kind_trait.specs.declared.nested_reply.NestedReply.{NestedReply}
use Rattle.turn_work.specs.declared.site.Site.{Site}
use Rattle.call_moves.specs.declared.nested_call.NestedCall.{NestedCall}
use Rattle.call_moves.specs.Evaluations.{Meaning, Whom, Nobody, Instance, Reaching, Ended, Said, Declined, TooLong, Frame, Calling, Runs, Over, nested_call, is_too_long, with_reply_at, taken_up, going_on, reply_by, ended_by, nested_by, begun_at, moved_by, moved, after_moves, begun, fronts_of, ComesTo}
use Rattle.call_moves.specs.Fronts.{Rests}
use Rattle.call_moves.specs.Progress.{EndsBy, HasCome, next_move}
use Rattle.call_moves.proofs.Moves.{moves_join, rest_once}
use Rattle.call_moves.proofs.Lengths.{rests_at}

fronts_added : (nested : List NestedCall) (call : NestedCall) (later : List ℕ) → fronts_of (nested ++ call ∷ []) ++ later ≡ fronts_of nested ++ call.front ∷ later
fronts_added [] call later = refl
fronts_added (n ∷ ns) call later = ap (λ t. n.front ∷ t) (fronts_added ns call later)

fronts_replied : (k : ℕ) (reply : NestedReply) (nested : List NestedCall) → fronts_of (with_reply_at k reply nested) ≡ fronts_of nested
fronts_replied zero reply [] = refl
fronts_replied zero reply (n ∷ ns) = refl
fronts_replied (suc k) reply [] = refl
fronts_replied (suc k) reply (n ∷ ns) = ap (λ t. n.front ∷ t) (fronts_replied k reply ns)

fronts_alone : (nested : List NestedCall) → fronts_of nested ≡ fronts_of nested ++ []
fronts_alone [] = refl
fronts_alone (n ∷ ns) = ap (λ t. n.front ∷ t) (fronts_alone ns)

module _ (reaches : Reaching) (next : Meaning) where
  one_more : (k : ℕ) (c d : Calling) → after_moves reaches next k c ≡ d → after_moves reaches next (k + 1) c ≡ moved reaches next d
  unfolding after_moves
  one_more k c d is = moves_join reaches next k 1 c ∙ ap (moved reaches next) is

  ends_so : (move : Move) (end : Ended) → EndsBy move end → (waiting : List Frame) (f : Frame) (nested : List NestedCall) (fronts : List ℕ)
      → moved_by reaches next move waiting f nested fronts ≡ ended_by end waiting f nested fronts
  ends_so (Answers text) end is waiting f nested fronts = ap (λ e. ended_by e waiting f nested fronts) (sym is)
  ends_so Refuses end is waiting f nested fronts = ap (λ e. ended_by e waiting f nested fronts) (sym is)
  ends_so (Calls reference request) end is waiting f nested fronts = absurd is

  module _ (instance : ℕ) (site : Site) (request : List ℕ) where
    pub starts : HasCome reaches next instance site request [] (taken_up instance site request 0) []
    unfolding after_moves
    starts = (0, λ later. refl)

    advanced : (waiting : List Frame) (f : Frame) (nested : List NestedCall) (come : HasCome reaches next instance site request waiting f nested) (move : Move)
        → next_move next f ≡ move → (fronts : List ℕ)
        → after_moves reaches next (come.0 + 1) (begun instance site request (fronts_of nested ++ fronts)) ≡ moved_by reaches next move waiting f nested fronts
    advanced waiting f nested come move is fronts =
        one_more come.0 (begun instance site request (fronts_of nested ++ fronts)) (Runs waiting f nested fronts) (come.1 fronts)
        ∙ ap (λ m. moved_by reaches next m waiting f nested fronts) is

    -- a nested call that is allowed is decided at its front
    called : (waiting : List Frame) (f : Frame) (nested : List NestedCall) (come : HasCome reaches next instance site request waiting f nested)
        (reference text : List ℕ) (front : ℕ) (to : Whom) (call : NestedCall)
        → next_move next f ≡ Calls reference text → is_too_long (length waiting) nested ≡ false → reaches front f.instance reference ≡ to → call.front ≡ front
        → (later : List ℕ)
        → after_moves reaches next (come.0 + 1) (begun instance site request (fronts_of (nested ++ call ∷ []) ++ later))
        ≡ nested_by to front text waiting f nested later
    called waiting f nested come reference text front to call is allowed reached at later =
        ap (λ fronts. after_moves reaches next (come.0 + 1) (begun instance site request fronts)) (fronts_added nested call later ∙ ap (λ n. fronts_of nested ++ n ∷ later) at)
        ∙ advanced waiting f nested come (Calls reference text) is (front ∷ later)
        ∙ ap (λ b. if b then Over nested TooLong (front ∷ later) else begun_at reaches next (front ∷ later) reference text waiting f nested) allowed
        ∙ ap (λ t. nested_by t front text waiting f nested later) reached

    pub reaches_nobody : (waiting : List Frame) (f : Frame) (nested : List NestedCall) (reference text : List ℕ) (front service : ℕ) (reply : NestedReply)
        → HasCome reaches next instance site request waiting f nested → next_move next f ≡ Calls reference text
        → is_too_long (length waiting) nested ≡ false → reaches front f.instance reference ≡ Nobody service reply
        → HasCome reaches next instance site request waiting (going_on f reply) (nested ++ nested_call front service text (Some reply) ∷ [])
    reaches_nobody waiting f nested reference text front service reply come is allowed reached =
        (come.0 + 1, called waiting f nested come reference text front (Nobody service reply) (nested_call front service text (Some reply)) is allowed reached refl)

    pub is_taken_up : (waiting : List Frame) (f : Frame) (nested : List NestedCall) (reference text : List ℕ) (front service number : ℕ) (other : Site)
        → HasCome reaches next instance site request waiting f nested → next_move next f ≡ Calls reference text
        → is_too_long (length waiting) nested ≡ false → reaches front f.instance reference ≡ Instance service number other
        → HasCome reaches next instance site request (f ∷ waiting) (taken_up number other text (length nested)) (nested ++ nested_call front service text None ∷ [])
    is_taken_up waiting f nested reference text front service number other come is allowed reached =
        (come.0 + 1, called waiting f nested come reference text front (Instance service number other) (nested_call front service text None) is allowed reached refl)

    pub goes_back : (before : Frame) (waiting : List Frame) (f : Frame) (nested : List NestedCall) (end : Ended)
        → HasCome reaches next instance site request (before ∷ waiting) f nested → EndsBy (next_move next f) end
        → HasCome reaches next instance site request waiting (going_on before (reply_by end)) (with_reply_at f.place (reply_by end) nested)
    goes_back before waiting f nested end come ends = (
      come.0 + 1,
      λ later.
          ap (λ fronts. after_moves reaches next (come.0 + 1) (begun instance site request (fronts ++ later))) (fronts_replied f.place (reply_by end) nested)
          ∙ advanced (before ∷ waiting) f nested come (next_move next f) refl later
          ∙ ends_so (next_move next f) end ends (before ∷ waiting) f nested later,
    )

    -- what is over behind some moves is what the call comes to
    comes_to : (k : ℕ) (nested : List NestedCall) (end : Ended) → after_moves reaches next k (begun instance site request (fronts_of nested ++ [])) ≡ Over nested end []
        → ComesTo reaches next instance site request nested end
    comes_to k nested end over =
        let alone : after_moves reaches next k (begun instance site request (fronts_of nested)) ≡ Over nested end [] =
        ap (λ fronts. after_moves reaches next k (begun instance site request fronts)) (fronts_alone nested) ∙ over in
        sym (rest_once reaches next k 130 (begun instance site request (fronts_of nested)) (subst Rests (sym alone) tt)
        (rests_at reaches next 130 instance site request (fronts_of nested) (omega arith)))
        ∙ alone

    pub is_done : (f : Frame) (nested : List NestedCall) (end : Ended)
        → HasCome reaches next instance site request [] f nested → EndsBy (next_move next f) end → ComesTo reaches next instance site request nested end
    is_done f nested end come ends =
        comes_to (come.0 + 1) nested end (advanced [] f nested come (next_move next f) refl [] ∙ ends_so (next_move next f) end ends [] f nested [])

    pub is_too_much : (waiting : List Frame) (f : Frame) (nested : List NestedCall) (reference text : List ℕ)
        → HasCome reaches next instance site request waiting f nested → next_move next f ≡ Calls reference text
        → is_too_long (length waiting) nested ≡ true → ComesTo reaches next instance site request nested TooLong
    is_too_much waiting f nested reference text come is refused =
        comes_to (come.0 + 1) nested TooLong (advanced waiting f nested come (Calls reference text) is []
        ∙ ap (λ b. if b then Over nested TooLong [] else begun_at reaches next [] reference text waiting f nested) refused)
