-- The test `follows` says what `Follows` says: a journal that passes it is legal, and one that fails it isn't.
use Rattle.std.proofs.Common.{◌≡◌, ℕ, ◌==◌, ◌<◌, List, [], ◌∷◌, refl, sym, ◌∙◌, ap, subst, Bool, true, false, ◌&&◌, ◌||◌, inl, inr, ◌⊎◌, zero, suc, arith, length, get_or}
use Rattle.std.specs.Prelude.{map, filter, not, Option, Some, None, is_none, ⊤}
use Rattle.std.specs.Bool.{Decides}
use Rattle.std.specs.List.{Contains, list_any, list_all}
use Rattle.std.specs.Str.{bytes_eq}
use Rattle.std.proofs.lemmas.Bool.{and_parts, and_from, cases_Bool, eqb-true, eq-eqb, false_from_ne_true}
use Rattle.std.proofs.lemmas.Bool.Decides.{Decides-eqb}
use Rattle.std.proofs.lemmas.Map.Views.{any-filter_same}
use Rattle.std.proofs.lemmas.Slice.Eq.{bytes_eq-Decides, slice_eq-Decides}
use Rattle.callback_orders.specs.declared.callback.Callback.{Callback}
use Rattle.callback_orders.specs.declared.callback.Callback.TheVariants.{Create, Bind, Updated, Unbind, Activate, Modified, Deactivate, Destroy}
use Rattle.callback_orders.specs.Grammar.{IsSequence, IsWhiteboardSequence}
use Rattle.callback_orders.specs.Sequences.{is_sequence, is_whiteboard_sequence}
use Rattle.callback_orders.proofs.SequenceLaws.{is_sequence-means, is_whiteboard_sequence-means}
use Rattle.component_state.specs.declared.origin.Choice.{Choice}
use Rattle.component_state.specs.declared.open_period.OpenPeriod.{OpenPeriod}
use Rattle.component_state.specs.Marks.{held_back}
use Rattle.component_state.specs.Periods.{is_open}
use Rattle.journal_core.specs.declared.entry.Entry.{Entry}
use Rattle.journal_core.specs.declared.entry.Opened.{Opened}
use Rattle.prop_map.specs.Words.{has, same_set}
use Rattle.scr_world.specs.declared.command.Command.{Command}
use Rattle.scr_world.specs.declared.command.Command.TheVariants.{Get}
use Rattle.scr_world.specs.declared.step.Step.{Step}
use Rattle.scr_world.specs.declared.step.Step.TheVariants.{Command as Commanded, Begin, End, Drained, Got, Released}
use Rattle.scr_world.specs.declared.instance.Instance.{Instance}
use Rattle.scr_world.specs.declared.world.World.{World}
use Rattle.component_state.specs.Passes.{closing, opened_from, opening}
use Rattle.scr_world.specs.Consequences.{stage_of, stopped_by}
use Rattle.scr_world.specs.Dues.{next_begin}
use Rattle.scr_world.specs.Replies.{has_effect}
use Rattle.scr_world.specs.Room.{has_room, needed_by}
use Rattle.scr_world.specs.Stepping.{instances_told, whiteboard_by}
use Rattle.scr_world.specs.declared.marks.Token.{Token}
use Rattle.std.specs.Cmp.Lexicographic.{pointwise}
use Rattle.scr_world.specs.Legal.{awaits_drain, is_under_way, MayCome, IsOpenFromScratch, Follows, IsLegal}
use Rattle.scr_world.specs.Lists.{world_after_entry, world_of}
use Rattle.scr_world.specs.Refusals.{refusal}
use Rattle.scr_world.specs.Steps.{History}
use Rattle.scr_world.specs.Worlds.{empty_world, origins_of, satisfied_in}
use Rattle.journal_examples.proofs.Tests.{may_come, same_begin, same_callback, same_choice, same_opened, open_numbers, scratch_numbers, follows, legal, worlds, newest}

-- ---- tests in general

module _ {P Q : Type 0} where
  both : (a b : Bool) → Decides a P → Decides b Q → Decides (a && b) (P × Q)
  both a b p q = (λ h. let parts = and_parts a b h in (p.0 parts.0, q.0 parts.1), λ h. and_from a b (p.1 h.0) (q.1 h.1))

itself : (b : Bool) → Decides b (b ≡ true)
itself b = (λ h. h, λ h. h)

module _ {X : Type 0} where
  none : (o : Option X) → Decides (is_none o) (o ≡ None)
  none None = (λ h. refl, λ h. refl)
  none (Some x) = (λ h. cc, λ h. cc)

  -- what each item of a list is, by a test
  each : (p : X → Bool) (P : X → Type 0) → ((x : X) → Decides (p x) (P x)) → (xs : List X) → Decides (list_all p xs) ((x : X) → Contains xs x → P x)
  each p P means xs = (forth xs, back xs)
    where
      at : (xs : List X) (k : ℕ) (x : X) → list_all p xs ≡ true → k < length xs → p (get_or xs k x) ≡ true
      at [] k x h within = absurd (omega (arith, within))
      at (y ∷ ys) zero x h within = (and_parts (p y) (list_all p ys) h).0
      at (y ∷ ys) (suc k) x h within = at ys k x (and_parts (p y) (list_all p ys) h).1 (omega (arith, within))

      forth : (xs : List X) → list_all p xs ≡ true → (x : X) → Contains xs x → P x
      forth xs h x here = let test : X → Type 0 = P in subst test here.2 ((means (get_or xs here.0 x)).0 (at xs here.0 x h here.1))

      back : (xs : List X) → ((x : X) → Contains xs x → P x) → list_all p xs ≡ true
      back [] h = refl
      back (y ∷ ys) h = and_from (p y) (list_all p ys) ((means y).1 (h y (0, omega arith, refl))) (back ys (λ x here. h x (suc here.0, omega (arith, here.1), here.2)))

same_tests : (a b : Bool) → (a ≡ true → b ≡ true) → (b ≡ true → a ≡ true) → a ≡ b
same_tests true b to back = sym (to refl)
same_tests false true to back = back refl
same_tests false false to back = refl

-- ---- lists of numbers as sets

has_first : (x : ℕ) (xs : List ℕ) → has (x ∷ xs) x ≡ true
has_first x xs = ap (λ b. b || has xs x) (eq-eqb x x refl)

has_later : (x n : ℕ) (xs : List ℕ) → has xs n ≡ true → has (x ∷ xs) n ≡ true
has_later x n xs h = elim (cases_Bool (x == n)) [ inl on ↦ ap (λ b. b || has xs n) on | inr off ↦ (ap (λ b. b || has xs n) off ∙ h) ]

all_have : (ys xs : List ℕ) → Decides (list_all (has ys) xs) ((n : ℕ) → has xs n ≡ true → has ys n ≡ true)
all_have ys xs = (forth xs, back xs)
  where
    forth : (xs : List ℕ) → list_all (has ys) xs ≡ true → (n : ℕ) → has xs n ≡ true → has ys n ≡ true
    forth [] h n here = cc
    forth (x ∷ xs) h n here = let parts = and_parts (has ys x) (list_all (has ys) xs) h in elim (cases_Bool (x == n)) [
      | inl on ↦ (ap (has ys) (sym (eqb-true x n on)) ∙ parts.0)
      | inr off ↦ forth xs parts.1 n (sym (ap (λ b. b || has xs n) off) ∙ here)
    ]

    back : (xs : List ℕ) → ((n : ℕ) → has xs n ≡ true → has ys n ≡ true) → list_all (has ys) xs ≡ true
    back [] h = refl
    back (x ∷ xs) h = and_from (has ys x) (list_all (has ys) xs) (h x (has_first x xs)) (back xs (λ n here. h n (has_later x n xs here)))

sets : (xs ys : List ℕ) → Decides (same_set xs ys) ((n : ℕ) → has xs n ≡ has ys n)
sets xs ys = (
  λ h. (let parts = and_parts (list_all (has ys) xs) (list_all (has xs) ys) h in λ n. same_tests (has xs n) (has ys n) ((all_have ys xs).0 parts.0 n) ((all_have xs ys).0 parts.1 n)),
  λ h. and_from (list_all (has ys) xs) (list_all (has xs) ys) ((all_have ys xs).1 (λ n here. sym (h n) ∙ here)) ((all_have xs ys).1 (λ n here. h n ∙ here)),
)

open_has : (ps : List OpenPeriod) (n : ℕ) → has (open_numbers ps) n ≡ is_open ps n
open_has [] n = refl
open_has (p ∷ ps) n = ap (λ b. (p.configuration == n) || b) (open_has ps n)

kept_has : (out met : List ℕ) (n : ℕ) → has (scratch_numbers out met) n ≡ (has met n && not (has out n))
kept_has out met n = any-filter_same (λ m. m == n) (λ m. not (has out m)) (not (has out n)) (λ m e. ap (λ k. not (has out k)) (eqb-true m n e)) met ∙ turned (not (has out n)) (has met n)
  where
    turned : (a b : Bool) → (a && b) ≡ (b && a)
    turned true true = refl
    turned true false = refl
    turned false true = refl
    turned false false = refl

from_scratch : (w : World) → Decides (same_set (open_numbers w.open_periods) (scratch_numbers (held_back w.failed w.open_periods (origins_of w.instances)) (satisfied_in w))) (IsOpenFromScratch w)
from_scratch w = let out = held_back w.failed w.open_periods (origins_of w.instances) in let met = satisfied_in w in (
  λ h n. sym (open_has w.open_periods n) ∙ (sets (open_numbers w.open_periods) (scratch_numbers out met)).0 h n ∙ kept_has out met n,
  λ h. (sets (open_numbers w.open_periods) (scratch_numbers out met)).1 (λ n. open_has w.open_periods n ∙ h n ∙ sym (kept_has out met n)),
)

-- ---- steps

numbers : (a b : ℕ) → Decides (a == b) (a ≡ b)
numbers a b = Decides-eqb a b

opened : (a b : Opened) → Decides (same_opened a b) (a ≡ b)
opened a b = let t = both (a.configuration == b.configuration) (a.service == b.service) (numbers a.configuration b.configuration) (numbers a.service b.service) in
    (λ h. from (t.0 h), λ h. t.1 (ap (λ (o : Opened). o.configuration) h, ap (λ (o : Opened). o.service) h))
  where
    made : ℕ → ℕ → Opened
    made n s = record { configuration = n; service = s }

    from : (a.configuration ≡ b.configuration) × (a.service ≡ b.service) → a ≡ b
    from h = ap (λ n. made n a.service) h.0 ∙ ap (made b.configuration) h.1

choice : (a b : Choice) → Decides (same_choice a b) (a ≡ b)
choice a b = let t = both (a.reference == b.reference) (bytes_eq a.services b.services) (numbers a.reference b.reference) (bytes_eq-Decides a.services b.services) in
    (λ h. from (t.0 h), λ h. t.1 (ap (λ (c : Choice). c.reference) h, ap (λ (c : Choice). c.services) h))
  where
    made : ℕ → List ℕ → Choice
    made n s = record { reference = n; services = s }

    from : (a.reference ≡ b.reference) × (a.services ≡ b.services) → a ≡ b
    from h = ap (λ n. made n a.services) h.0 ∙ ap (made b.reference) h.1

-- two texts and two numbers
pair : (r q : List ℕ) (s t : ℕ) → Decides (bytes_eq r q && (s == t)) ((r ≡ q) × (s ≡ t))
pair r q s t = both (bytes_eq r q) (s == t) (bytes_eq-Decides r q) (numbers s t)

callback-from : (a b : Callback) → same_callback a b ≡ true → a ≡ b
callback-from Create Create h = refl
callback-from (Bind r s) (Bind q t) h = let p = (pair r q s t).0 h in cc
callback-from (Updated r s) (Updated q t) h = let p = (pair r q s t).0 h in cc
callback-from (Unbind r s) (Unbind q t) h = let p = (pair r q s t).0 h in cc
callback-from Activate Activate h = refl
callback-from Modified Modified h = refl
callback-from Deactivate Deactivate h = refl
callback-from Destroy Destroy h = refl
callback-from _ _ h = cc

callback-itself : (a : Callback) → same_callback a a ≡ true
callback-itself Create = refl
callback-itself (Bind r s) = (pair r r s s).1 (refl, refl)
callback-itself (Updated r s) = (pair r r s s).1 (refl, refl)
callback-itself (Unbind r s) = (pair r r s s).1 (refl, refl)
callback-itself Activate = refl
callback-itself Modified = refl
callback-itself Deactivate = refl
callback-itself Destroy = refl

callback : (a b : Callback) → Decides (same_callback a b) (a ≡ b)
callback a b = (callback-from a b, λ h. subst (λ (c : Callback). same_callback a c ≡ true) h (callback-itself a))

-- the beginning of a turn is the one that is due
begin : (t i c b : ℕ) (k : Callback) (s : List Choice) (due : Option Step) → Decides (same_begin (Begin t i c b k s) due) (due ≡ Some (Begin t i c b k s))
begin t i c b k s (Some (Begin u j d e l v)) =
    let test = both (t == u) ((i == j) && ((c == d) && ((b == e) && (same_callback k l && pointwise same_choice s v)))) (numbers t u)
    (both (i == j) ((c == d) && ((b == e) && (same_callback k l && pointwise same_choice s v))) (numbers i j)
    (both (c == d) ((b == e) && (same_callback k l && pointwise same_choice s v)) (numbers c d)
    (both (b == e) (same_callback k l && pointwise same_choice s v) (numbers b e)
    (both (same_callback k l) (pointwise same_choice s v) (callback k l) (slice_eq-Decides choice s v (pointwise same_choice s v) refl))))) in
    (λ h. same t u i j c d b e k l s v (test.0 h), λ h. test.1 (parts h))
  where
    same : (t u i j c d b e : ℕ) (k l : Callback) (s v : List Choice) → (t ≡ u) × ((i ≡ j) × ((c ≡ d) × ((b ≡ e) × ((k ≡ l) × (s ≡ v))))) → Some (Begin u j d e l v) ≡ Some (Begin t i c b k s)
    same t u i j c d b e k l s v p =
        let p0 : t ≡ u = p.0 in let p1 : i ≡ j = p.1.0 in let p2 : c ≡ d = p.1.1.0 in let p3 : b ≡ e = p.1.1.1.0 in let p4 : k ≡ l = p.1.1.1.1.0 in let p5 : s ≡ v = p.1.1.1.1.1 in cc

    parts : Some (Begin u j d e l v) ≡ Some (Begin t i c b k s) → (t ≡ u) × ((i ≡ j) × ((c ≡ d) × ((b ≡ e) × ((k ≡ l) × (s ≡ v)))))
    parts h = let e0 : t ≡ u = cc in let e1 : i ≡ j = cc in let e2 : c ≡ d = cc in let e3 : b ≡ e = cc in let e4 : k ≡ l = cc in let e5 : s ≡ v = cc in (e0, (e1, (e2, (e3, (e4, e5)))))
begin t i c b k s (Some _) = (λ h. cc, λ h. cc)
begin t i c b k s None = (λ h. cc, λ h. cc)

step : (w : World) (s : Step) → Decides (may_come w s) (MayCome w s)
step w (Commanded command) = both (is_none (refusal w command)) (has_effect w command) (none (refusal w command)) (itself (has_effect w command))
step w (Begin turn instance configuration consumer k chosen) = begin turn instance configuration consumer k chosen (next_begin w)
step w (End turn outcome) = itself (is_under_way w turn)
step w (Drained instance) = itself (list_any (λ (i : Instance). (i.number == instance) && awaits_drain w i) w.instances)
step w (Got bundle service) = none (refusal w (Get bundle service))
step w (Released place) = itself (list_any (λ (t : Token). t.place == place) w.tokens)

-- ---- entries and journals

in_order : (is : List Instance) → Decides (list_all (λ (i : Instance). is_sequence i.callbacks) is) ((i : Instance) → Contains is i → IsSequence i.callbacks)
in_order is = each (λ (i : Instance). is_sequence i.callbacks) (λ (i : Instance). IsSequence i.callbacks) (λ (i : Instance). (λ h. (is_sequence-means i.callbacks).0 h, λ h. (is_sequence-means i.callbacks).1 h)) is

pub follows_means : (limit : ℕ) (entry : Entry Step) (past : History) → Decides (follows limit entry (world_of past) (world_of (entry ∷ past))) (Follows limit entry past)
follows_means limit entry past =
    let was = world_of past in let now = world_of (entry ∷ past) in
    let s = stage_of entry.step was in
    let out = held_back now.failed now.open_periods (origins_of now.instances) in
    let b1 = may_come was entry.step in
    let b2 = has_room limit was (needed_by entry.step) in
    let b3 = bytes_eq entry.closed (closing s now.open_periods) in
    let b4 = pointwise same_opened entry.opened (opened_from s.next (opening s now.open_periods)) in
    let b5 = bytes_eq entry.stopped (stopped_by entry.step was) in
    let b6 = same_set (open_numbers now.open_periods) (scratch_numbers out (satisfied_in now)) in
    let b7 = list_all (λ (i : Instance). is_sequence i.callbacks) (instances_told entry.step was) in
    let b8 = is_whiteboard_sequence (whiteboard_by entry.step was).callbacks in
    let b9 = has_room limit now 0 in
    let w = is_whiteboard_sequence-means (whiteboard_by entry.step was).callbacks in
    let test = both b1 (b2 && (b3 && (b4 && (b5 && (b6 && (b7 && (b8 && b9))))))) (step was entry.step)
    (both b2 (b3 && (b4 && (b5 && (b6 && (b7 && (b8 && b9)))))) (itself b2)
    (both b3 (b4 && (b5 && (b6 && (b7 && (b8 && b9))))) (bytes_eq-Decides entry.closed (closing s now.open_periods))
    (both b4 (b5 && (b6 && (b7 && (b8 && b9)))) (slice_eq-Decides opened entry.opened (opened_from s.next (opening s now.open_periods)) b4 refl)
    (both b5 (b6 && (b7 && (b8 && b9))) (bytes_eq-Decides entry.stopped (stopped_by entry.step was))
    (both b6 (b7 && (b8 && b9)) (from_scratch now)
    (both b7 (b8 && b9) (in_order (instances_told entry.step was))
    (both b8 b9 (λ h. w.0 h, λ h. w.1 h) (itself b9)))))))) in (
      λ h. (let p = test.0 h in record {
        step = p.0;
        room = p.1.0;
        closed = p.1.1.0;
        opened = p.1.1.1.0;
        stopped = p.1.1.1.1.0;
        scratch = p.1.1.1.1.1.0;
        order = p.1.1.1.1.1.1.0;
        whiteboard = p.1.1.1.1.1.1.1.0;
        room_after = p.1.1.1.1.1.1.1.1;
      }),
      λ h. test.1 (h.step, (h.room, (h.closed, (h.opened, (h.stopped, (h.scratch, (h.order, (h.whiteboard, h.room_after)))))))),
    )

-- the worlds of a journal are what it says
pub newest_is : (past : History) → newest (worlds past) ≡ world_of past
unfolding world_of
newest_is [] = refl
newest_is (entry ∷ past) = ap (λ w. world_after_entry entry w) (newest_is past)

-- a journal that passes the test is legal
pub legal_means : (limit : ℕ) (past : History) → legal limit past (worlds past) ≡ true → IsLegal limit past
unfolding world_of
legal_means limit [] h = tt
legal_means limit (entry ∷ past) h =
    let parts = and_parts (follows limit entry (newest (worlds past)) (world_after_entry entry (newest (worlds past)))) (legal limit past (worlds past)) h in
    ((follows_means limit entry past).0 (here parts.0), legal_means limit past parts.1)
  where
    here : follows limit entry (newest (worlds past)) (world_after_entry entry (newest (worlds past))) ≡ true → follows limit entry (world_of past) (world_of (entry ∷ past)) ≡ true
    here e = subst (λ (w : World). follows limit entry w (world_after_entry entry w) ≡ true) (newest_is past) e

-- an entry that fails it may not follow
pub refused_means : (limit : ℕ) (entry : Entry Step) (past : History) → follows limit entry (world_of past) (world_of (entry ∷ past)) ≡ false → Follows limit entry past → ⊥
refused_means limit entry past off h = wrong ((follows_means limit entry past).1 h)
  where
    wrong : follows limit entry (world_of past) (world_of (entry ∷ past)) ≡ true → ⊥
    wrong on = cc

-- the same over the worlds of the journal
pub wrong_means : (limit : ℕ) (entry : Entry Step) (past : History) → follows limit entry (newest (worlds past)) (world_after_entry entry (newest (worlds past))) ≡ false → Follows limit entry past → ⊥
unfolding world_of
wrong_means limit entry past off h = refused_means limit entry past (subst (λ (w : World). follows limit entry w (world_after_entry entry w) ≡ false) (newest_is past) off) h
