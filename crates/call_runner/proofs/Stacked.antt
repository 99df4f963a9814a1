-- Calls that wait as frames, and nested calls that were decided at a front.
use Rattle.std.proofs.Common.{◌≡◌, ◌≤◌, ◌<◌, ℕ, zero, suc, ◌+◌, List, [], ◌∷◌, ◌++◌, Some, length, map, get_or, refl, sym, ap, ◌∙◌, arith}
use Rattle.std.specs.Prelude.{reverse, set}
use Rattle.std.proofs.lemmas.List.{length-map, length-reverse, reverse-append, reverse-reverse}
use Rattle.kind_trait.specs.Meanings.{Asking}
use Rattle.kind_trait.specs.declared.call_stack.Waiting.{Waiting}
use Rattle.kind_trait.specs.declared.nested_reply.NestedReply.{NestedReply}
use Rattle.call_moves.specs.declared.nested_call.NestedCall.{NestedCall}
use Rattle.call_moves.specs.Evaluations.{with_reply_at}
use Rattle.call_runner.specs.declared.calls.Paused.{Paused}
use Rattle.call_runner.specs.Runs.{AreAt, frame_of_paused, frames_of}

-- lists that end alike
pub same_end : {A : Type 0} (xs ys : List A) (x y : A) → xs ++ x ∷ [] ≡ ys ++ y ∷ [] → (xs ≡ ys) × (x ≡ y)
same_end xs ys x y same =
    let turned : x ∷ reverse xs ≡ y ∷ reverse ys = sym (reverse-append xs (x ∷ [])) ∙ ap reverse same ∙ reverse-append ys (y ∷ []) in
    let front : reverse xs ≡ reverse ys = cc in
    let last : x ≡ y = cc in
    (sym (reverse-reverse xs) ∙ ap reverse front ∙ reverse-reverse ys, last)

module _ {W : Type 0} (stands_for : W → Asking) where
  pub frames_last : (ws : List (Waiting (Paused W))) (w : Waiting (Paused W)) → frames_of stands_for (ws ++ w ∷ []) ≡ frame_of_paused stands_for w.work ∷ frames_of stands_for ws
  frames_last ws w = ap (map (λ (v : Waiting (Paused W)). frame_of_paused stands_for v.work)) (reverse-append ws (w ∷ []))

  pub frames_length : (ws : List (Waiting (Paused W))) → length (frames_of stands_for ws) ≡ length ws
  frames_length ws = length-map (reverse ws) (λ (v : Waiting (Paused W)). frame_of_paused stands_for v.work) ∙ length-reverse ws

pub are_at_last : (front : ℕ) (ns : List NestedCall) (n : NestedCall) → AreAt front ns → n.front ≡ front → AreAt front (ns ++ n ∷ [])
are_at_last front [] n are is = (is, tt)
are_at_last front (m ∷ ns) n are is = (are.0, are_at_last front ns n are.1 is)

pub are_at_replied : (front k : ℕ) (reply : NestedReply) (ns : List NestedCall) → AreAt front ns → AreAt front (with_reply_at k reply ns)
are_at_replied front zero reply [] are = tt
are_at_replied front zero reply (n ∷ ns) are = are
are_at_replied front (suc k) reply [] are = tt
are_at_replied front (suc k) reply (n ∷ ns) are = (are.0, are_at_replied front k reply ns are.1)

pub length_replied : (k : ℕ) (reply : NestedReply) (ns : List NestedCall) → length (with_reply_at k reply ns) ≡ length ns
length_replied zero reply [] = refl
length_replied zero reply (n ∷ ns) = refl
length_replied (suc k) reply [] = refl
length_replied (suc k) reply (n ∷ ns) = ap suc (length_replied k reply ns)

-- the reply is put where the call stands
pub set_replied : (k : ℕ) (reply : NestedReply) (ns : List NestedCall) (d n : NestedCall) → k < length ns → n ≡ get_or ns k d → set ns k (record n { reply = Some reply }) ≡ with_reply_at k reply ns
set_replied k reply [] d n low is = absurd (omega (arith, low))
set_replied zero reply (m ∷ ns) d n low is = ap (λ (x : NestedCall). record x { reply = Some reply } ∷ ns) is
set_replied (suc k) reply (m ∷ ns) d n low is = ap (λ t. m ∷ t) (set_replied k reply ns d n (omega (arith, low)) is)

pub none_replied : (k : ℕ) (reply : NestedReply) (ns : List NestedCall) → length ns ≤ k → ns ≡ with_reply_at k reply ns
none_replied zero reply [] long = refl
none_replied zero reply (n ∷ ns) long = absurd (omega (arith, long))
none_replied (suc k) reply [] long = refl
none_replied (suc k) reply (n ∷ ns) long = ap (λ t. n ∷ t) (none_replied k reply ns (omega (arith, long)))
