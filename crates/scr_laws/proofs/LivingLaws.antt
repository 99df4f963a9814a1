-- Living instances have numbers and turns of their own.
use Rattle.std.proofs.Common.{◌≡◌, ◌≤◌, ◌⊎◌, ℕ, ◌+◌, List, [], ◌∷◌, ◌++◌, ap, sym, ◌∙◌, refl, subst, cond, arith, Bool, true, false, ◌||◌, inl, inr}
use Rattle.std.specs.Prelude.{filter, map, not, ◌==◌}
use Rattle.std.specs.List.{Contains}
use Rattle.std.proofs.lemmas.Bool.{and_from, and_parts, both_ways, cases_Bool, eqb-true}
use Rattle.callback_orders.specs.declared.callback.Callback.{Callback}
use Rattle.callback_orders.specs.declared.callback.Callback.TheVariants.{Create, Bind, Updated, Unbind, Activate, Modified, Deactivate, Destroy}
use Rattle.callback_orders.specs.declared.callback.Outcome.{Outcome}
use Rattle.callback_orders.specs.Sequences.{begun}
use Rattle.component_state.specs.declared.origin.Choice.{Choice}
use Rattle.component_state.specs.Inside.Ready.{are_apart}
use Rattle.component_state.proofs.Apart.{apart_both, apart_kept, in_either, in_first, in_none, in_rest, key_in, keyed, kept_was, not_true, one_of}
use Rattle.prop_map.specs.Words.{has}
use Rattle.scr_laws.proofs.Listed.{mapped_was, single}
use Rattle.scr_laws.proofs.InstanceLemmas.{drained_same, ended_same, mapped_alike, mapped_over, told_same}
use Rattle.scr_laws.proofs.Numbering.{made_is_next, next_turn}
use Rattle.scr_world.specs.Instances.{BeforeTurn, begun_by, created_at, drained_in, ended_in, has_turn, lives_on, with_callback_begun, with_effect_of_begin, with_outcome}
use Rattle.scr_world.specs.Legal.{IsLegal, MayCome}
use Rattle.scr_world.specs.Lists.{world_after_entry, world_of}
use Rattle.scr_world.specs.Steps.{History}
use Rattle.scr_world.specs.Stepping.{before_turn, begins_by, instances_by, instances_told, makes_by, world_after_step}
use Rattle.scr_world.specs.declared.instance.Instance.{Instance}
use Rattle.scr_world.specs.declared.step.Step.{Step}
use Rattle.scr_world.specs.declared.step.Step.TheVariants.{Command as Commanded, Begin, End, Drained, Got, Released}
use Rattle.scr_world.specs.declared.world.World.{World}

-- what tells items apart that are apart by another number
apart_by : {X : Type 0} (slot key : X → ℕ) (xs : List X) → are_apart (map slot xs) ≡ true → ((x y : X) → Contains xs x → Contains xs y → key x ≡ key y → x ≡ y) → are_apart (map key xs) ≡ true
apart_by slot key [] apart one = refl
apart_by slot key (x ∷ xs) apart one =
    let parts = and_parts (not (has (map slot xs) (slot x))) (are_apart (map slot xs)) apart in
    and_from (not (has (map key xs) (key x))) (are_apart (map key xs)) (ap not (off (not_true (has (map slot xs) (slot x)) parts.0) (cases_Bool (has (map key xs) (key x)))))
    (apart_by slot key xs parts.1 (λ y z h k same. one y z (in_rest x xs y h) (in_rest x xs z k) same))
  where
    off : has (map slot xs) (slot x) ≡ false → (has (map key xs) (key x) ≡ true) ⊎ (has (map key xs) (key x) ≡ false) → has (map key xs) (key x) ≡ false
    off none (inr is) = is
    off none (inl is) =
        let found = keyed key xs (key x) is in
        let same = one found.0 x (in_rest x xs found.0 found.1) (in_first x xs) found.2 in
        absurd (both_ways (has (map slot xs) (slot x)) none (ap (has (map slot xs)) (ap slot (sym same)) ∙ key_in slot xs found.0 found.1))

-- each has a number and a turn of its own, and these were given
pub record AreTold (is : List Instance) (made begun_turns : ℕ) : Type 0 where
  pub numbers : are_apart (map (λ (i : Instance). i.number) is) ≡ true
  pub numbered : (i : Instance) → Contains is i → i.number ≤ made
  pub turns : are_apart (map (λ (i : Instance). i.turn) is) ≡ true
  pub told : (i : Instance) → Contains is i → i.turn ≤ begun_turns

left : (is : List Instance) (made turns : ℕ) → AreTold is made turns → AreTold is (made + 0) (turns + 0)
left is made turns told = record {
  numbers = told.numbers;
  numbered = λ i h. (let low = told.numbered i h in omega (arith, low));
  turns = told.turns;
  told = λ i h. (let low = told.told i h in omega (arith, low));
}

same_told : (is : List Instance) (made turns : ℕ) (f : Instance → Instance) → ((i : Instance) → (f i).number ≡ i.number) → ((i : Instance) → (f i).turn ≡ i.turn) → AreTold is made turns → AreTold (map f is) (made + 0) (turns + 0)
same_told is made turns f number turn told = record {
  numbers = ap are_apart (mapped_alike (λ (i : Instance). i.number) f number is) ∙ told.numbers;
  numbered = λ i h. let was = mapped_was f is i h in
      (let low = told.numbered was.0 was.1.0 in let same = sym (number was.0) ∙ ap (λ (x : Instance). x.number) was.1.1 in omega (arith, low, same));
  turns = ap are_apart (mapped_alike (λ (i : Instance). i.turn) f turn is) ∙ told.turns;
  told = λ i h. let was = mapped_was f is i h in
      (let low = told.told was.0 was.1.0 in let same = sym (turn was.0) ∙ ap (λ (x : Instance). x.turn) was.1.1 in omega (arith, low, same));
}

fewer_told : (is : List Instance) (made turns : ℕ) (t : Instance → Bool) → AreTold is made turns → AreTold (filter t is) made turns
fewer_told is made turns t told = record {
  numbers = apart_kept (λ (i : Instance). i.number) t is told.numbers;
  numbered = λ i h. told.numbered i (kept_was t is i h).0;
  turns = apart_kept (λ (i : Instance). i.turn) t is told.turns;
  told = λ i h. told.told i (kept_was t is i h).0;
}

-- one more, with the next number and the next turn
added_apart : (key : Instance → ℕ) (is : List Instance) (new : Instance) (most : ℕ) → ((i : Instance) → Contains is i → key i ≤ most) → key new ≡ most + 1 → are_apart (map key is) ≡ true → are_apart (map key (is ++ new ∷ [])) ≡ true
added_apart key is new most low next apart = ap are_apart (mapped_over key is (new ∷ [])) ∙ apart_both (map key is) (key new ∷ []) apart refl other
  where
    other : (n : ℕ) → has (map key is) n ≡ true → has (key new ∷ []) n ≡ true → ⊥
    other n old here = go (key new == n) refl here
      where
        go : (b : Bool) → (key new == n) ≡ b → (b || false) ≡ true → ⊥
        go false off h = cc
        go true same h =
            let found = keyed key is n old in
            let high = low found.0 found.1 in
            let e = eqb-true (key new) n same in
            let f = found.2 in
            omega (arith, high, e, f, next)

module _ (w : World) (told : AreTold w.instances w.instances_numbered w.turns_begun) where
  made_told : (turn instance configuration consumer : ℕ) (chosen : List Choice) → MayCome w (Begin turn instance configuration consumer Create chosen)
      → AreTold (begun_by (before_turn w) turn instance configuration consumer Create chosen) (w.instances_numbered + 1) (w.turns_begun + 1)
  made_told turn instance configuration consumer chosen may =
      let new = created_at (before_turn w) turn instance configuration consumer chosen in
      let number = made_is_next w turn instance configuration consumer chosen may in
      let next = next_turn w turn instance configuration consumer Create chosen may in record {
        numbers = added_apart (λ (i : Instance). i.number) w.instances new w.instances_numbered told.numbered number told.numbers;
        numbered = λ i h. elim (in_either w.instances (new ∷ []) i h) [
          | inl old ↦ (let low = told.numbered i old in omega (arith, low))
          | inr added ↦ (let same = ap (λ (x : Instance). x.number) (single new i added) in omega (arith, same, number))
        ];
        turns = added_apart (λ (i : Instance). i.turn) w.instances new w.turns_begun told.told next told.turns;
        told = λ i h. elim (in_either w.instances (new ∷ []) i h) [
          | inl old ↦ (let low = told.told i old in omega (arith, low))
          | inr added ↦ (let same = ap (λ (x : Instance). x.turn) (single new i added) in omega (arith, same, next))
        ];
      }

  taken_turn : (m : BeforeTurn) (callback : Callback) (i : Instance) → (with_effect_of_begin m callback i).turn ≡ i.turn
  taken_turn m Create i = refl
  taken_turn m (Bind reference service) i = refl
  taken_turn m (Updated reference service) i = refl
  taken_turn m (Unbind reference service) i = refl
  taken_turn m Activate i = refl
  taken_turn m Modified i = refl
  taken_turn m Deactivate i = refl
  taken_turn m Destroy i = refl

  module _ (turn instance : ℕ) (callback : Callback) (next : turn ≡ w.turns_begun + 1) where
    abbrev f : Instance → Instance
    f i = with_callback_begun (before_turn w) turn instance callback i

    turn_by : (i : Instance) (b : Bool) → (cond b (with_effect_of_begin (before_turn w) callback (record i { turn = turn; callbacks = i.callbacks ++ begun callback ∷ [] })) i).turn ≡ cond b turn i.turn
    turn_by i true = taken_turn (before_turn w) callback (record i { turn = turn; callbacks = i.callbacks ++ begun callback ∷ [] })
    turn_by i false = refl

    turn_of : (i : Instance) → (f i).turn ≡ cond (i.number == instance) turn i.turn
    turn_of i = turn_by i (i.number == instance)

    told_turn : (i : Instance) → Contains w.instances i → (f i).turn ≤ w.turns_begun + 1
    told_turn i h = go (i.number == instance) (turn_of i)
      where
        go : (b : Bool) → (f i).turn ≡ cond b turn i.turn → (f i).turn ≤ w.turns_begun + 1
        go true is = omega (arith, is, next)
        go false is = (let low = told.told i h in omega (arith, is, low))

    one_turn : (a b : Instance) → Contains w.instances a → Contains w.instances b → (f a).turn ≡ (f b).turn → f a ≡ f b
    one_turn a b h k same = go (a.number == instance) (b.number == instance) refl refl (sym (turn_of a) ∙ same ∙ turn_of b)
      where
        go : (p q : Bool) → (a.number == instance) ≡ p → (b.number == instance) ≡ q → cond p turn a.turn ≡ cond q turn b.turn → f a ≡ f b
        go true true on also e = ap f (one_of (λ (i : Instance). i.number) w.instances told.numbers a b h k (eqb-true a.number instance on ∙ sym (eqb-true b.number instance also)))
        go true false on off e = absurd (let low = told.told b k in omega (arith, low, e, next))
        go false true off on e = absurd (let low = told.told a h in omega (arith, low, e, next))
        go false false off also e = ap f (one_of (λ (i : Instance). i.turn) w.instances told.turns a b h k e)

    others_told : AreTold (map (with_callback_begun (before_turn w) turn instance callback) w.instances) (w.instances_numbered + 0) (w.turns_begun + 1)
    others_told = record {
      numbers = numbers_now;
      numbered = λ i h. let was = mapped_was f w.instances i h in
          (let low = told.numbered was.0 was.1.0 in let same = sym (number was.0) ∙ ap (λ (x : Instance). x.number) was.1.1 in omega (arith, low, same));
      turns = apart_by (λ (i : Instance). i.number) (λ (i : Instance). i.turn) (map f w.instances) numbers_now
          (λ x y h k same. let a = mapped_was f w.instances x h in let b = mapped_was f w.instances y k in
          sym a.1.1 ∙ one_turn a.0 b.0 a.1.0 b.1.0 (ap (λ (i : Instance). i.turn) a.1.1 ∙ same ∙ ap (λ (i : Instance). i.turn) (sym b.1.1)) ∙ b.1.1);
      told = λ i h. let was = mapped_was f w.instances i h in subst (λ (x : Instance). x.turn ≤ w.turns_begun + 1) was.1.1 (told_turn was.0 was.1.0);
    }
      where
        number : (i : Instance) → (f i).number ≡ i.number
        number i = (told_same (before_turn w) turn instance callback i).number

        numbers_now : are_apart (map (λ (i : Instance). i.number) (map f w.instances)) ≡ true
        numbers_now = ap are_apart (mapped_alike (λ (i : Instance). i.number) f number w.instances) ∙ told.numbers

  begun_told : (turn instance configuration consumer : ℕ) (callback : Callback) (chosen : List Choice) → MayCome w (Begin turn instance configuration consumer callback chosen)
      → AreTold (begun_by (before_turn w) turn instance configuration consumer callback chosen) (w.instances_numbered + makes_by (Begin turn instance configuration consumer callback chosen)) (w.turns_begun + 1)
  begun_told turn instance configuration consumer Create chosen may = made_told turn instance configuration consumer chosen may
  begun_told turn instance configuration consumer (Bind reference service) chosen may = others_told turn instance (Bind reference service) (next_turn w turn instance configuration consumer (Bind reference service) chosen may)
  begun_told turn instance configuration consumer (Updated reference service) chosen may = others_told turn instance (Updated reference service) (next_turn w turn instance configuration consumer (Updated reference service) chosen may)
  begun_told turn instance configuration consumer (Unbind reference service) chosen may = others_told turn instance (Unbind reference service) (next_turn w turn instance configuration consumer (Unbind reference service) chosen may)
  begun_told turn instance configuration consumer Activate chosen may = others_told turn instance Activate (next_turn w turn instance configuration consumer Activate chosen may)
  begun_told turn instance configuration consumer Modified chosen may = others_told turn instance Modified (next_turn w turn instance configuration consumer Modified chosen may)
  begun_told turn instance configuration consumer Deactivate chosen may = others_told turn instance Deactivate (next_turn w turn instance configuration consumer Deactivate chosen may)
  begun_told turn instance configuration consumer Destroy chosen may = others_told turn instance Destroy (next_turn w turn instance configuration consumer Destroy chosen may)

  ended_turn : (turn : ℕ) (outcome : Outcome) (i : Instance) → (ended_in turn outcome w.generations i).turn ≡ i.turn
  ended_turn turn outcome i = go (has_turn turn i)
    where
      go : (b : Bool) → (cond b (with_outcome outcome w.generations i) i).turn ≡ i.turn
      go true = refl
      go false = refl

  drained_turn : (instance : ℕ) (i : Instance) → (drained_in instance i).turn ≡ i.turn
  drained_turn instance i = go (i.number == instance)
    where
      go : (b : Bool) → (cond b (record i { drained = true }) i).turn ≡ i.turn
      go true = refl
      go false = refl

  step_told : (step : Step) → MayCome w step → AreTold (instances_by step w) (w.instances_numbered + makes_by step) (w.turns_begun + begins_by step)
  step_told (Commanded command) may = left w.instances w.instances_numbered w.turns_begun told
  step_told (Begin turn instance configuration consumer callback chosen) may = begun_told turn instance configuration consumer callback chosen may
  step_told (End turn outcome) may = fewer_told (instances_told (End turn outcome) w) (w.instances_numbered + 0) (w.turns_begun + 0) lives_on
      (same_told w.instances w.instances_numbered w.turns_begun (ended_in turn outcome w.generations) (λ i. (ended_same turn outcome w.generations i).number) (ended_turn turn outcome) told)
  step_told (Drained instance) may = same_told w.instances w.instances_numbered w.turns_begun (drained_in instance) (λ i. (drained_same instance i).number) (drained_turn instance) told
  step_told (Got bundle service) may = left w.instances w.instances_numbered w.turns_begun told
  step_told (Released place) may = left w.instances w.instances_numbered w.turns_begun told

pub legal_told : (limit : ℕ) (past : History) → IsLegal limit past → AreTold (world_of past).instances (world_of past).instances_numbered (world_of past).turns_begun
unfolding world_of world_after_entry world_after_step
legal_told limit [] legal = record { numbers = refl; numbered = λ i h. absurd (in_none i h); turns = refl; told = λ i h. absurd (in_none i h) }
legal_told limit (entry ∷ past) legal = step_told (world_of past) (legal_told limit past legal.1) entry.step legal.0.step
