-- A settling that is seen with less: what a desk's states and relations say is passed on to others that follow from them.
use Rattle.std.proofs.Common.{◌≡◌, ℕ, zero, suc, ap, sym, ◌∙◌, Bool, true, false, inl, inr, Result, Ok, Err}
use Rattle.prop_map.specs.declared.properties.Property.{Property}
use Rattle.std.specs.Prelude.{List}
use Rattle.callback_orders.specs.declared.callback.Outcome.{Outcome}
use Rattle.kind_trait.specs.Meanings.{Told}
use Rattle.turn_work.specs.declared.work.TurnWork.{TurnWork}
use Rattle.turn_runner.specs.declared.settle_fault.SettleFault.{SettleFault}
use Rattle.turn_runner.specs.declared.settle_fault.SettleFault.TheVariants.{Unsettled, JournalFull, OutOfMemory}
use Rattle.turn_runner.specs.Turns.{Ends, IsCutOff, IsSettled, Settles, Turn, Turns}

-- what is known of a desk, and what is kept of it
pub record Known (S : Type 0) : Type 1 where
  pub has_due : S → Bool
  pub has_room : S → Bool
  pub has_drain : S → Bool
  pub begins : S → TurnWork → S → Type 0
  pub starts : S → TurnWork → S → Type 0
  pub ends : S → ℕ → Outcome → S → Type 0
  pub posts : S → S → Type 0

-- by this view of its states the one follows from the other
pub record Follows {S V : Type 0} (view : S → V) (known : Known S) (kept : Known V) : Type 0 where
  pub due : (s : S) → known.has_due s ≡ kept.has_due (view s)
  pub room : (s : S) → known.has_room s ≡ kept.has_room (view s)
  pub drain : (s : S) → known.has_drain s ≡ kept.has_drain (view s)
  pub begins : (before : S) (work : TurnWork) (after : S) → known.begins before work after → kept.begins (view before) work (view after)
  pub starts : (before : S) (work : TurnWork) (after : S) → known.starts before work after → kept.starts (view before) work (view after)
  pub ends : (before : S) (number : ℕ) (outcome : Outcome) (after : S) → known.ends before number outcome after → kept.ends (view before) number outcome (view after)
  pub posts : (before after : S) → known.posts before after → kept.posts (view before) (view after)

module _ {S V : Type 0} (view : S → V) (k : Known S) (p : Known V) (f : Follows view k p) (refuses : List ℕ → List Property → Told → Bool) where
  ends_seen : (work : TurnWork) (outcome : Outcome) (before after : S) → Ends k.begins k.ends k.posts work outcome before after → Ends p.begins p.ends p.posts work outcome (view before) (view after)
  ends_seen work outcome before after (begun, ended, begins, ends, posts) =
      (view begun, view ended, f.begins before work begun begins, f.ends begun work.number outcome ended ends, f.posts ended after posts)

  turn_seen : (before after : S) → Turn k.has_drain k.begins k.ends k.posts refuses before after → Turn p.has_drain p.begins p.ends p.posts refuses (view before) (view after)
  turn_seen before after (work, ends, clear) = (work, ends_seen work _ before after ends, sym (f.drain after) ∙ clear)

  turns_seen : (count : ℕ) (before after : S) → Turns k.has_drain k.begins k.ends k.posts refuses count before after → Turns p.has_drain p.begins p.ends p.posts refuses count (view before) (view after)
  turns_seen zero before after same = ap view same
  turns_seen (suc count) before after (between, rest, turn) = (view between, turns_seen count before between rest, turn_seen between after turn)

  settles_seen : (count : ℕ) (before after : S) → Settles k.has_drain k.begins k.ends k.posts refuses count before after → Settles p.has_drain p.begins p.ends p.posts refuses count (view before) (view after)
  settles_seen count before after (start, posts, clear, turns) =
      (view start, f.posts before start posts, sym (f.drain start) ∙ clear, turns_seen count start after turns)

  cut_seen : (before after : S) → IsCutOff k.begins k.starts k.ends k.posts refuses before after → IsCutOff p.begins p.starts p.ends p.posts refuses (view before) (view after)
  cut_seen before after (inl (work, starts)) = inl (work, f.starts before work after starts)
  cut_seen before after (inr (work, outcome, is, ends)) = inr (work, outcome, is, ends_seen work outcome before after ends)

  -- a settling of which less is kept
  pub settled_seen : (budget : ℕ) (before : S) (answer : Result ℕ SettleFault) (after : S) → IsSettled k.has_due k.has_room k.has_drain k.begins k.starts k.ends k.posts refuses budget before answer after → IsSettled p.has_due p.has_room p.has_drain p.begins p.starts p.ends p.posts refuses budget (view before) answer (view after)
  settled_seen budget before (Ok count) after (low, settles, due, clear) =
      (low, settles_seen count before after settles, sym (f.due after) ∙ due, sym (f.drain after) ∙ clear)
  settled_seen budget before (Err Unsettled) after (settles, due, clear) =
      (settles_seen budget before after settles, sym (f.due after) ∙ due, sym (f.drain after) ∙ clear)
  settled_seen budget before (Err JournalFull) after (count, low, settles, due, room, clear) =
      (count, low, settles_seen count before after settles, sym (f.due after) ∙ due, sym (f.room after) ∙ room, sym (f.drain after) ∙ clear)
  settled_seen budget before (Err OutOfMemory) after (inl posts) = inl (f.posts before after posts)
  settled_seen budget before (Err OutOfMemory) after (inr (inl (count, low, settles))) = inr (inl (count, low, settles_seen count before after settles))
  settled_seen budget before (Err OutOfMemory) after (inr (inr (count, between, low, settles, cut))) =
      inr (inr (count, view between, low, settles_seen count before between settles, cut_seen between after cut))
