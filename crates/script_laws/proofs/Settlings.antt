-- A settling comes to one end: the same turns run, and it is answered the same, but where memory is wanting.
use Rattle.std.proofs.Common.{◌≡◌, ◌<◌, ◌≤◌, ◌⊎◌, ℕ, zero, suc, List, Bool, true, false, ap, sym, ◌∙◌, refl, subst, Ok, Err, inl, inr, arith}
use Rattle.std.specs.Prelude.{Result}
use Rattle.std.proofs.lemmas.Bool.{both_ways, cases_order}
use Rattle.std.proofs.Math.Nat.{eq-or-lt_of_le}
use Rattle.kind_trait.specs.Meanings.{Told}
use Rattle.platform_hall.proofs.Settlings.{HasLegal, begins_legal, ends_legal, posts_legal}
use Rattle.platform_hall.specs.Cores.{CoreView}
use Rattle.platform_hall.specs.Platforms.{Begins, Ends, Posts, SettlesAs, has_drain, has_due, has_room}
use Rattle.prop_map.specs.declared.properties.Property.{Property}
use Rattle.turn_runner.specs.Outcomes.{is_refused, outcome_where}
use Rattle.turn_runner.specs.Turns.{Settles, Turn, Turns}
use Rattle.turn_runner.specs.declared.settle_fault.SettleFault.{SettleFault}
use Rattle.turn_runner.specs.declared.settle_fault.SettleFault.TheVariants.{Unsettled, JournalFull, OutOfMemory}
use Rattle.script_laws.proofs.Drains.{posts_once}
use Rattle.script_laws.proofs.Turns.{turn_due, turn_once}

module _ (refuses : List ℕ → List Property → Told → Bool) where
  abbrev RunsTurns : ℕ → CoreView → CoreView → Type 0
  RunsTurns count before after = Turns has_drain Begins Ends Posts refuses count before after

  abbrev SettlesBy : ℕ → CoreView → CoreView → Type 0
  SettlesBy count before after = Settles has_drain Begins Ends Posts refuses count before after

  turn_legal : (before after : CoreView) → HasLegal before → Turn has_drain Begins Ends Posts refuses before after → HasLegal after
  turn_legal before after legal (work, (begun, over, begins, ends, posts), clear) =
      posts_legal over after (ends_legal begun over work.number (outcome_where (is_refused refuses work)) (begins_legal before begun work legal begins) ends) posts

  turns_legal : (count : ℕ) (before after : CoreView) → HasLegal before → RunsTurns count before after → HasLegal after
  turns_legal zero before after legal same = subst HasLegal same legal
  turns_legal (suc count) before after legal (between, rest, turn) = turn_legal between after (turns_legal count before between legal rest) turn

  -- so many turns
  turns_once : (count : ℕ) (before one other : CoreView) → HasLegal before → RunsTurns count before one → RunsTurns count before other → one ≡ other
  turns_once zero before one other legal same same' = sym same ∙ same'
  turns_once (suc count) before one other legal (between, rest, turn) (between', rest', turn') =
      let same = turns_once count before between between' legal rest rest' in
      turn_once refuses between' one other (turns_legal count before between' legal rest')
      (subst (λ (p : CoreView). Turn has_drain Begins Ends Posts refuses p one) same turn) turn'

  -- behind fewer turns than ran one more is due and has room
  turns_front : (few count : ℕ) (before after : CoreView) → few < count → RunsTurns count before after
      → (between : CoreView) × RunsTurns few before between × (has_due between ≡ true) × (has_room between ≡ true)
  turns_front few zero before after fewer ran = absurd (omega arith)
  turns_front few (suc count) before after fewer (between, rest, turn) =
      let low = eq-or-lt_of_le {n = few} {m = count} (omega (arith, fewer)) in elim low [
        | inl same ↦ (let due = turn_due refuses between after turn in (between, subst (λ n. RunsTurns n before between) (sym same) rest, due.0, due.1))
        | inr below ↦ turns_front few count before between below rest
      ]

  -- ---- with the drains before them

  start_once : (before start start' : CoreView) → HasLegal before → Posts before start → Posts before start' → has_drain start ≡ false → has_drain start' ≡ false → (start ≡ start') × HasLegal start'
  start_once before start start' legal posts posts' clear clear' = (posts_once before start start' legal posts posts' clear clear', posts_legal before start' legal posts')

  settles_once : (count : ℕ) (before one other : CoreView) → HasLegal before → SettlesBy count before one → SettlesBy count before other → one ≡ other
  settles_once count before one other legal (start, posts, clear, ran) (start', posts', clear', ran') =
      let first = start_once before start start' legal posts posts' clear clear' in
      turns_once count start' one other first.1 (subst (λ (p : CoreView). RunsTurns count p one) first.0 ran) ran'

  settles_alike : (count same : ℕ) (before one other : CoreView) → HasLegal before → count ≡ same → SettlesBy count before one → SettlesBy same before other → one ≡ other
  settles_alike count same before one other legal is settles settles' = settles_once same before one other legal (subst (λ n. SettlesBy n before one) is settles) settles'

  pub settled_legal : (turns : ℕ) (before after : CoreView) (count : ℕ) → HasLegal before → SettlesAs refuses turns before (Ok count) after → HasLegal after
  settled_legal turns before after count legal (low, (start, posts, clear, ran), due, none) = turns_legal count start after (posts_legal before start legal posts) ran

  -- where one settling ran fewer turns, one more was due behind it and had room
  pub goes_on : (few count : ℕ) (before one other : CoreView) → HasLegal before → few < count → SettlesBy few before one → SettlesBy count before other → (has_due one ≡ true) × (has_room one ≡ true)
  goes_on few count before one other legal fewer (start, posts, clear, ran) (start', posts', clear', ran') =
      let first = start_once before start start' legal posts posts' clear clear' in
      let front = turns_front few count start' other fewer ran' in
      let same = turns_once few start' one front.0 first.1 (subst (λ (p : CoreView). RunsTurns few p one) first.0 ran) front.1 in
      (ap has_due same ∙ front.2, ap has_room same ∙ front.3)

  -- a settling that can't go on: no turn is due, or the one that is has no room
  abbrev IsStuck : CoreView → Type 0
  IsStuck p = (has_due p ≡ false) ⊎ (has_room p ≡ false)

  stuck_stays : (few count : ℕ) (before one other : CoreView) → HasLegal before → few < count → SettlesBy few before one → SettlesBy count before other → IsStuck one → ⊥
  stuck_stays few count before one other legal fewer settles settles' (inl due) = both_ways (has_due one) due (goes_on few count before one other legal fewer settles settles').0
  stuck_stays few count before one other legal fewer settles settles' (inr room) = both_ways (has_room one) room (goes_on few count before one other legal fewer settles settles').1

  -- two settlings that can't go on ran as many turns
  stuck_once : (count more : ℕ) (before one other : CoreView) → HasLegal before → SettlesBy count before one → SettlesBy more before other → IsStuck one → IsStuck other → (count ≡ more) × (one ≡ other)
  stuck_once count more before one other legal settles settles' stuck stuck' = elim (cases_order count more) [
    | inl same ↦ (same, settles_alike count more before one other legal same settles settles')
    | inr (inl fewer) ↦ absurd (stuck_stays count more before one other legal fewer settles settles' stuck)
    | inr (inr above) ↦ absurd (stuck_stays more count before other one legal above settles' settles stuck')
  ]

  -- one that can't go on, and one that ran all that its limit allows and goes on
  stuck_or_not : (count most : ℕ) (before one other : CoreView) → HasLegal before → count ≤ most → SettlesBy count before one → SettlesBy most before other → IsStuck one → has_due one ≡ false ⊎ (count < most) → has_due other ≡ true → ⊥
  stuck_or_not count most before one other legal low settles settles' stuck less due = elim (eq-or-lt_of_le {n = count} {m = most} low) [
    | inr below ↦ stuck_stays count most before one other legal below settles settles' stuck
    | inl same ↦ elim less [
      | inl none ↦ both_ways (has_due one) none (ap has_due (settles_alike count most before one other legal same settles settles') ∙ due)
      | inr below ↦ stuck_stays count most before one other legal below settles settles' stuck
    ]
  ]

  -- what a settling answers and leaves, but for want of memory
  pub settled_once : (turns : ℕ) (before one other : CoreView) (a b : Result ℕ SettleFault) → HasLegal before → (a ≡ Err OutOfMemory → ⊥) → (b ≡ Err OutOfMemory → ⊥)
      → SettlesAs refuses turns before a one → SettlesAs refuses turns before b other → (a ≡ b) × (one ≡ other)
  settled_once turns before one other (Err OutOfMemory) b legal some some' ends ends' = absurd (some refl)
  settled_once turns before one other a (Err OutOfMemory) legal some some' ends ends' = absurd (some' refl)
  settled_once turns before one other (Ok count) (Ok more) legal some some' (low, settles, due, clear) (low', settles', due', clear') =
      let all = stuck_once count more before one other legal settles settles' (inl due) (inl due') in (ap (λ n. Ok n) all.0, all.1)
  settled_once turns before one other (Ok count) (Err Unsettled) legal some some' (low, settles, due, clear) (settles', due', clear') =
      absurd (stuck_or_not count turns before one other legal low settles settles' (inl due) (inl due) due')
  settled_once turns before one other (Ok count) (Err JournalFull) legal some some' (low, settles, due, clear) (more, fewer, settles', due', room', clear') =
      let all = stuck_once count more before one other legal settles settles' (inl due) (inr room') in absurd (both_ways (has_due one) due (ap has_due all.1 ∙ due'))
  settled_once turns before one other (Err Unsettled) (Ok more) legal some some' (settles, due, clear) (low', settles', due', clear') =
      absurd (stuck_or_not more turns before other one legal low' settles' settles (inl due') (inl due') due)
  settled_once turns before one other (Err Unsettled) (Err Unsettled) legal some some' (settles, due, clear) (settles', due', clear') =
      (refl, settles_once turns before one other legal settles settles')
  settled_once turns before one other (Err Unsettled) (Err JournalFull) legal some some' (settles, due, clear) (more, fewer, settles', due', room', clear') =
      absurd (stuck_or_not more turns before other one legal (omega (arith, fewer)) settles' settles (inr room') (inr fewer) due)
  settled_once turns before one other (Err JournalFull) (Ok more) legal some some' (count, fewer, settles, due, room, clear) (low', settles', due', clear') =
      let all = stuck_once count more before one other legal settles settles' (inr room) (inl due') in absurd (both_ways (has_due one) (ap has_due all.1 ∙ due') due)
  settled_once turns before one other (Err JournalFull) (Err Unsettled) legal some some' (count, fewer, settles, due, room, clear) (settles', due', clear') =
      absurd (stuck_or_not count turns before one other legal (omega (arith, fewer)) settles settles' (inr room) (inr fewer) due')
  settled_once turns before one other (Err JournalFull) (Err JournalFull) legal some some' (count, fewer, settles, due, room, clear) (more, fewer', settles', due', room', clear') =
      (refl, (stuck_once count more before one other legal settles settles' (inr room) (inr room')).1)
