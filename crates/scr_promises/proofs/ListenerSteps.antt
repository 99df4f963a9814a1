-- A listener behind a step: it was there, and was told of the changes, or it is new.
use Rattle.std.proofs.Common.{◌≡◌, ◌≤◌, ◌⊎◌, ℕ, ◌+◌, List, [], ◌∷◌, ◌++◌, ap, sym, ◌∙◌, refl, subst, arith, inl, inr}
use Rattle.std.specs.Prelude.{map, not, ◌==◌}
use Rattle.std.specs.List.{Contains}
use Rattle.component_state.proofs.Apart.{in_either, in_none, in_right, in_first, kept_was}
use Rattle.journal_core.specs.declared.entry.Entry.{Entry}
use Rattle.ldap_filter.specs.Trees.{Tree}
use Rattle.scr_laws.proofs.Listed.{mapped_was, single}
use Rattle.scr_world.specs.Lists.{changes_between, world_after_entry, world_of}
use Rattle.scr_world.specs.Steps.{History}
use Rattle.scr_world.specs.Stepping.{world_after_step}
use Rattle.scr_world.specs.Tables.{listeners_by}
use Rattle.scr_world.specs.declared.command.Command.TheVariants.{Install, Update, Start, Stop, Uninstall, Enable, Disable, Register, Unregister, SetProperties, Get, Unget, Listen, Unlisten, Configure, ConfigureFactory, Unconfigure}
use Rattle.scr_world.specs.declared.step.Step.{Step}
use Rattle.scr_world.specs.declared.step.Step.TheVariants.{Command as Commanded, Begin, End, Drained, Got, Released}
use Rattle.service_listeners.specs.declared.listener.Listener.{Listener}
use Rattle.service_listeners.specs.Listening.{Change, ListenerTable, after_changes, with_changes}

-- one that a step adds
record IsAdded (step : Step) (t : ListenerTable) (m : Listener) : Type 0 where
  number : m.number ≡ t.numbered + 1
  counted : (listeners_by step t).numbered ≡ t.numbered + 1

left_or_new : (step : Step) (t : ListenerTable) (m : Listener) → Contains (listeners_by step t).rows m → Contains t.rows m ⊎ IsAdded step t m
left_or_new (Commanded (Install doc)) t m h = inl h
left_or_new (Commanded (Update bundle doc)) t m h = inl h
left_or_new (Commanded (Start bundle)) t m h = inl h
left_or_new (Commanded (Stop bundle)) t m h = inl (kept_was (λ (l : Listener). not (l.bundle == bundle)) t.rows m h).0
left_or_new (Commanded (Uninstall bundle)) t m h = inl h
left_or_new (Commanded (Enable bundle name)) t m h = inl h
left_or_new (Commanded (Disable bundle name)) t m h = inl h
left_or_new (Commanded (Register bundle interfaces properties)) t m h = inl h
left_or_new (Commanded (Unregister bundle service)) t m h = inl h
left_or_new (Commanded (SetProperties bundle service properties)) t m h = inl h
left_or_new (Commanded (Get bundle service)) t m h = inl h
left_or_new (Commanded (Unget bundle service)) t m h = inl h
left_or_new (Commanded (Listen bundle tree)) t m h = elim (in_either t.rows (record { number = t.numbered + 1; bundle = bundle; filter = tree; events = [] } ∷ []) m h) [
  | inl old ↦ inl old
  | inr new ↦ inr (record { number = ap (λ (l : Listener). l.number) (sym (single (record { number = t.numbered + 1; bundle = bundle; filter = tree; events = [] }) m new)); counted = refl })
]
left_or_new (Commanded (Unlisten listener)) t m h = inl (kept_was (λ (l : Listener). not (l.number == listener)) t.rows m h).0
left_or_new (Commanded (Configure pid properties)) t m h = inl h
left_or_new (Commanded (ConfigureFactory factory name properties)) t m h = inl h
left_or_new (Commanded (Unconfigure pid)) t m h = inl h
left_or_new (Begin turn instance configuration consumer callback chosen) t m h = inl h
left_or_new (End turn outcome) t m h = inl h
left_or_new (Drained instance) t m h = inl h
left_or_new (Got bundle service) t m h = inl h
left_or_new (Released place) t m h = inl h

-- how many were numbered doesn't fall
goes_up : (step : Step) (t : ListenerTable) → t.numbered ≤ (listeners_by step t).numbered
goes_up (Commanded (Install doc)) t = omega arith
goes_up (Commanded (Update bundle doc)) t = omega arith
goes_up (Commanded (Start bundle)) t = omega arith
goes_up (Commanded (Stop bundle)) t = omega arith
goes_up (Commanded (Uninstall bundle)) t = omega arith
goes_up (Commanded (Enable bundle name)) t = omega arith
goes_up (Commanded (Disable bundle name)) t = omega arith
goes_up (Commanded (Register bundle interfaces properties)) t = omega arith
goes_up (Commanded (Unregister bundle service)) t = omega arith
goes_up (Commanded (SetProperties bundle service properties)) t = omega arith
goes_up (Commanded (Get bundle service)) t = omega arith
goes_up (Commanded (Unget bundle service)) t = omega arith
goes_up (Commanded (Listen bundle tree)) t = omega arith
goes_up (Commanded (Unlisten listener)) t = omega arith
goes_up (Commanded (Configure pid properties)) t = omega arith
goes_up (Commanded (ConfigureFactory factory name properties)) t = omega arith
goes_up (Commanded (Unconfigure pid)) t = omega arith
goes_up (Begin turn instance configuration consumer callback chosen) t = omega arith
goes_up (End turn outcome) t = omega arith
goes_up (Drained instance) t = omega arith
goes_up (Got bundle service) t = omega arith
goes_up (Released place) t = omega arith

abbrev AreCounted : ListenerTable → Type 0
AreCounted t = (l : Listener) → Contains t.rows l → l.number ≤ t.numbered

counted_by : (step : Step) (t : ListenerTable) → AreCounted t → AreCounted (listeners_by step t)
counted_by step t each m h = elim (left_or_new step t m h) [
  | inl old ↦ (let low = each m old in let more = goes_up step t in omega (arith, low, more))
  | inr new ↦ (let number = new.number in let all = new.counted in omega (arith, number, all))
]

counted_told : (changes : List Change) (t : ListenerTable) → AreCounted t → AreCounted (after_changes changes t)
counted_told changes t each m h = let was = mapped_was (with_changes changes) t.rows m h in
    (let low = each was.0 was.1.0 in let same = ap (λ (l : Listener). l.number) was.1.1 in omega (arith, low, same))

-- ---- over a journal

pub listeners_counted : (past : History) (l : Listener) → Contains (world_of past).listeners.rows l → l.number ≤ (world_of past).listeners.numbered
unfolding world_of world_after_entry world_after_step
listeners_counted [] l h = absurd (in_none l h)
listeners_counted (entry ∷ past) l h =
    counted_by entry.step (after_changes (changes_between (world_of past) (world_of (entry ∷ past))) (world_of past).listeners) (counted_told (changes_between (world_of past) (world_of (entry ∷ past))) (world_of past).listeners (listeners_counted past)) l h

-- the count only rises
pub count_rises : (later past : History) → (world_of past).listeners.numbered ≤ (world_of (later ++ past)).listeners.numbered
unfolding world_of world_after_entry world_after_step
count_rises [] past = omega arith
count_rises (entry ∷ later) past =
    let before = count_rises later past in
    let now = goes_up entry.step (after_changes (changes_between (world_of (later ++ past)) (world_of (entry ∷ later ++ past))) (world_of (later ++ past)).listeners) in
    omega (arith, before, now)

-- a listener that was there is the same, and was told of the entry's changes
pub told_was : (entry : Entry Step) (past : History) (m : Listener) → Contains (world_of (entry ∷ past)).listeners.rows m → m.number ≤ (world_of past).listeners.numbered
    → (k : Listener) × Contains (world_of past).listeners.rows k × (m ≡ with_changes (changes_between (world_of past) (world_of (entry ∷ past))) k)
unfolding world_of world_after_entry world_after_step
told_was entry past m h low =
    let changes = changes_between (world_of past) (world_of (entry ∷ past)) in
    elim (left_or_new entry.step (after_changes changes (world_of past).listeners) m h) [
      | inl old ↦ (let was = mapped_was (with_changes changes) (world_of past).listeners.rows m old in (was.0, was.1.0, sym was.1.1))
      | inr new ↦ (let number = new.number in absurd (omega (arith, number, low)))
    ]

-- the listener that an entry adds
pub added_there : (entry : Entry Step) (past : History) (bundle : ℕ) (tree : Tree) → entry.step ≡ Commanded (Listen bundle tree)
    → Contains (world_of (entry ∷ past)).listeners.rows (record { number = (world_of past).listeners.numbered + 1; bundle = bundle; filter = tree; events = [] })
unfolding world_of world_after_entry world_after_step
added_there entry past bundle tree is =
    let changes = changes_between (world_of past) (world_of (entry ∷ past)) in
    subst (λ (s : Step). Contains (listeners_by s (after_changes changes (world_of past).listeners)).rows (record { number = (world_of past).listeners.numbered + 1; bundle = bundle; filter = tree; events = [] })) (sym is)
    (in_right (after_changes changes (world_of past).listeners).rows (record { number = (world_of past).listeners.numbered + 1; bundle = bundle; filter = tree; events = [] } ∷ [])
    (record { number = (world_of past).listeners.numbered + 1; bundle = bundle; filter = tree; events = [] })
    (in_first (record { number = (world_of past).listeners.numbered + 1; bundle = bundle; filter = tree; events = [] }) []))

-- ---- numbers of listeners

abbrev pub AreOneEach : List Listener → Type 0
AreOneEach ls = (a b : Listener) → Contains ls a → Contains ls b → a.number ≡ b.number → a ≡ b

added_one : (t : ListenerTable) → AreCounted t → AreOneEach t.rows → (added : Listener) → added.number ≡ t.numbered + 1 → AreOneEach (t.rows ++ added ∷ [])
added_one t each one added number a b h k same = go (in_either t.rows (added ∷ []) a h) (in_either t.rows (added ∷ []) b k)
  where
    wrong : (l m : Listener) → Contains t.rows l → Contains (added ∷ []) m → l.number ≡ m.number → ⊥
    wrong l m here there e = (let low = each l here in let is = ap (λ (x : Listener). x.number) (single added m there) in omega (arith, low, is, number, e))

    go : Contains t.rows a ⊎ Contains (added ∷ []) a → Contains t.rows b ⊎ Contains (added ∷ []) b → a ≡ b
    go (inl p) (inl q) = one a b p q same
    go (inl p) (inr q) = absurd (wrong a b p q same)
    go (inr p) (inl q) = absurd (wrong b a q p (sym same))
    go (inr p) (inr q) = sym (single added a p) ∙ single added b q

one_by : (step : Step) (t : ListenerTable) → AreCounted t → AreOneEach t.rows → AreOneEach (listeners_by step t).rows
one_by (Commanded (Listen bundle tree)) t each one = added_one t each one (record { number = t.numbered + 1; bundle = bundle; filter = tree; events = [] }) refl
one_by (Commanded (Install doc)) t each one = one
one_by (Commanded (Update bundle doc)) t each one = one
one_by (Commanded (Start bundle)) t each one = one
one_by (Commanded (Stop bundle)) t each one = λ a b h k same. one a b (kept_was (λ (l : Listener). not (l.bundle == bundle)) t.rows a h).0 (kept_was (λ (l : Listener). not (l.bundle == bundle)) t.rows b k).0 same
one_by (Commanded (Uninstall bundle)) t each one = one
one_by (Commanded (Enable bundle name)) t each one = one
one_by (Commanded (Disable bundle name)) t each one = one
one_by (Commanded (Register bundle interfaces properties)) t each one = one
one_by (Commanded (Unregister bundle service)) t each one = one
one_by (Commanded (SetProperties bundle service properties)) t each one = one
one_by (Commanded (Get bundle service)) t each one = one
one_by (Commanded (Unget bundle service)) t each one = one
one_by (Commanded (Unlisten listener)) t each one = λ a b h k same. one a b (kept_was (λ (l : Listener). not (l.number == listener)) t.rows a h).0 (kept_was (λ (l : Listener). not (l.number == listener)) t.rows b k).0 same
one_by (Commanded (Configure pid properties)) t each one = one
one_by (Commanded (ConfigureFactory factory name properties)) t each one = one
one_by (Commanded (Unconfigure pid)) t each one = one
one_by (Begin turn instance configuration consumer callback chosen) t each one = one
one_by (End turn outcome) t each one = one
one_by (Drained instance) t each one = one
one_by (Got bundle service) t each one = one
one_by (Released place) t each one = one

one_told : (changes : List Change) (rows : List Listener) → AreOneEach rows → AreOneEach (map (with_changes changes) rows)
one_told changes rows one a b h k same =
    let p = mapped_was (with_changes changes) rows a h in let q = mapped_was (with_changes changes) rows b k in
    sym p.1.1 ∙ ap (with_changes changes) (one p.0 q.0 p.1.0 q.1.0 (ap (λ (l : Listener). l.number) p.1.1 ∙ same ∙ ap (λ (l : Listener). l.number) (sym q.1.1))) ∙ q.1.1

pub listeners_one : (past : History) → AreOneEach (world_of past).listeners.rows
unfolding world_of world_after_entry world_after_step
listeners_one [] a b h k same = absurd (in_none a h)
listeners_one (entry ∷ past) a b h k same =
    let changes = changes_between (world_of past) (world_of (entry ∷ past)) in
    one_by entry.step (after_changes changes (world_of past).listeners) (counted_told changes (world_of past).listeners (listeners_counted past)) (one_told changes (world_of past).listeners.rows (listeners_one past)) a b h k same
