-- A journal that has grown by an entry.
use Rattle.std.proofs.Common.{◌≡◌, ℕ, ◌+◌, ◌≤◌, List, [], ◌∷◌, ◌++◌, ap, sym, ◌∙◌, refl, subst, true, arith}
use Rattle.std.proofs.lemmas.Bool.{leb-true}
use Rattle.std.proofs.lemmas.List.{reverse-append}
use Rattle.journal_core.specs.declared.entry.Entry.{Entry}
use Rattle.scr_world.specs.Calls.{Grown, world_at}
use Rattle.scr_world.specs.Legal.{IsLegal, MayCome}
use Rattle.scr_world.specs.Lists.{world_after_entry, world_of}
use Rattle.scr_world.specs.Room.{has_room, needed_by, reserved}
use Rattle.scr_world.specs.Stepping.{instances_by, whiteboard_by, world_after_step}
use Rattle.scr_world.specs.Steps.{History, history_of}
use Rattle.scr_world.specs.declared.step.Step.{Step}
use Rattle.scr_world.specs.declared.world.World.{World}

-- the world after a step
pub record IsAfter (w : World) (step : Step) (now : World) : Type 0 where
  pub entries : now.entries ≡ w.entries + 1
  pub instances : now.instances ≡ instances_by step w
  pub whiteboard : now.whiteboard ≡ whiteboard_by step w

after_entry : (entry : Entry Step) (past : History) → IsAfter (world_of past) entry.step (world_of (entry ∷ past))
unfolding world_of world_after_entry world_after_step
after_entry entry past = record { entries = refl; instances = refl; whiteboard = refl }

-- a history grows at its front
pub history_append : (entries : List (Entry Step)) (entry : Entry Step) → history_of (entries ++ entry ∷ []) ≡ entry ∷ history_of entries
history_append entries entry = reverse-append entries (entry ∷ [])

module _ (limit : ℕ) (old new : List (Entry Step)) (step : Step) where
  pub grown_after : Grown limit old step new → IsAfter (world_at old) step (world_at new)
  grown_after (entry, its_step, may_follow, grew) =
      subst (λ (s : Step). IsAfter (world_at old) s (world_at new)) its_step
      (subst (λ (h : History). IsAfter (world_at old) entry.step (world_of h)) (sym (ap history_of grew ∙ history_append old entry)) (after_entry entry (history_of old)))

  pub grown_legal : IsLegal limit (history_of old) → Grown limit old step new → IsLegal limit (history_of new)
  grown_legal legal (entry, its_step, may_follow, grew) =
      subst (λ (h : History). IsLegal limit h) (sym (ap history_of grew ∙ history_append old entry)) (may_follow, legal)

  pub grown_may : Grown limit old step new → MayCome (world_at old) step
  grown_may (entry, its_step, may_follow, grew) = subst (λ (s : Step). MayCome (world_at old) s) its_step may_follow.step

  pub grown_room : Grown limit old step new → has_room limit (world_at old) (needed_by step) ≡ true
  grown_room (entry, its_step, may_follow, grew) = subst (λ (s : Step). has_room limit (world_at old) (needed_by s) ≡ true) its_step may_follow.room

  left_after : Grown limit old step new → has_room limit (world_at new) 0 ≡ true
  left_after (entry, its_step, may_follow, grew) =
      subst (λ (h : History). has_room limit (world_of h) 0 ≡ true) (sym (ap history_of grew ∙ history_append old entry)) may_follow.room_after

  -- it was shorter than its limit
  pub grown_shorter : Grown limit old step new → (world_at old).entries + 1 ≤ limit
  unfolding has_room
  grown_shorter grown =
      let fits : (world_at new).entries + reserved (world_at new) + 0 ≤ limit = leb-true _ _ (left_after grown) in
      let more = (grown_after grown).entries in omega (arith, fits, more)
