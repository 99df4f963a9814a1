-- The ends of turns that leave each instance as it is, and what a callback leaves of an instance.
use Rattle.std.proofs.Common.{◌≡◌, ℕ, List, [], ◌∷◌, ap, sym, ◌∙◌, refl, cond, Bool, true, false, ◌&&◌, ◌||◌, Some, inl, inr}
use Rattle.std.specs.Prelude.{filter, map, not}
use Rattle.std.specs.List.{Contains, list_all}
use Rattle.std.proofs.lemmas.Bool.{and_from, and_parts}
use Rattle.callback_orders.specs.declared.callback.Callback.{Callback}
use Rattle.callback_orders.specs.declared.callback.Callback.TheVariants.{Create, Bind, Updated, Unbind, Activate, Modified, Deactivate, Destroy}
use Rattle.callback_orders.specs.declared.callback.Outcome.{Outcome}
use Rattle.callback_orders.specs.declared.callback.Outcome.TheVariants.{Done, Refused, NoMemory}
use Rattle.callback_orders.specs.declared.word.Called.{Called}
use Rattle.callback_orders.specs.Grammar.{is_activate, is_create, is_destroy}
use Rattle.callback_orders.specs.Lives.{goes_on, is_living}
use Rattle.callback_orders.specs.Sequences.{ended, is_done}
use Rattle.component_state.specs.Periods.{is_current}
use Rattle.prop_map.specs.Words.{is_empty}
use Rattle.scr_world.specs.declared.step.Step.TheVariants.{End}
use Rattle.scr_world.specs.declared.instance.Instance.{Instance}
use Rattle.scr_world.specs.declared.world.World.{World}
use Rattle.scr_world.specs.Instances.{BeforeTurn, ended_in, has_turn, last_is, lives_on, with_effect_of_begin, with_outcome}
use Rattle.scr_world.specs.Stepping.{failing, instances_told}
use Rattle.component_state.proofs.Apart.{in_cases, in_first, in_none, in_rest}
use Rattle.scr_laws.specs.Stills.{is_quiet_step}
use Rattle.scr_laws.specs.Entries.{leaves_instance}
use Rattle.scr_laws.proofs.Listed.{none_kept}

callback_goes_on : (outcome : Outcome) (k : Callback) → not (is_destroy k) ≡ true → (is_done (Some outcome) || not (is_create k)) ≡ true → goes_on k (Some outcome) ≡ true
callback_goes_on Done Create d e = refl
callback_goes_on Refused Create d e = absurd cc
callback_goes_on NoMemory Create d e = absurd cc
callback_goes_on outcome (Bind r s) d e = refl
callback_goes_on outcome (Updated r s) d e = refl
callback_goes_on outcome (Unbind r s) d e = refl
callback_goes_on outcome Activate d e = refl
callback_goes_on outcome Modified d e = refl
callback_goes_on outcome Deactivate d e = refl
callback_goes_on outcome Destroy d e = absurd cc

word_lives : (outcome : Outcome) (calls : List Called) → is_living calls ≡ true → not (last_is is_destroy calls) ≡ true → (is_done (Some outcome) || not (last_is is_create calls)) ≡ true → is_living (ended outcome calls) ≡ true
word_lives outcome [] live d e = refl
word_lives outcome (c ∷ []) live d e = and_from (goes_on c.callback (Some outcome)) true (callback_goes_on outcome c.callback d e) refl
word_lives outcome (c ∷ k ∷ rest) live d e = let both = and_parts (goes_on c.callback c.outcome) (is_living (k ∷ rest)) live in and_from (goes_on c.callback c.outcome) (is_living (ended outcome (k ∷ rest))) both.0 (word_lives outcome (k ∷ rest) both.1 d e)

or_first : (o c a : Bool) → (o || (c && a)) ≡ true → (o || c) ≡ true
or_first true c a e = refl
or_first false true a e = refl
or_first false false a e = absurd cc

not_off : (d b : Bool) → (false || (d && b)) ≡ true → (d ≡ true) × (b ≡ true)
not_off true true e = (refl, refl)
not_off true false e = absurd cc
not_off false b e = absurd cc

instance_lives : (turn : ℕ) (outcome : Outcome) (generations : List ℕ) (i : Instance) → lives_on i ≡ true → leaves_instance turn outcome i ≡ true → lives_on (ended_in turn outcome generations i) ≡ true
instance_lives turn outcome generations i live leaves = go (has_turn turn i) leaves
  where
    go : (h : Bool) → (not h || (not (last_is is_destroy i.callbacks) && (is_done (Some outcome) || (not (last_is is_create i.callbacks) && not (last_is is_activate i.callbacks))))) ≡ true → lives_on (cond h (with_outcome outcome generations i) i) ≡ true
    go false e = live
    go true e =
        let both = not_off (not (last_is is_destroy i.callbacks)) (is_done (Some outcome) || (not (last_is is_create i.callbacks) && not (last_is is_activate i.callbacks))) e in
        word_lives outcome i.callbacks live both.0 (or_first (is_done (Some outcome)) (not (last_is is_create i.callbacks)) (not (last_is is_activate i.callbacks)) both.1)

pub instances_live : (turn : ℕ) (outcome : Outcome) (generations : List ℕ) (is : List Instance) → ((i : Instance) → Contains is i → lives_on i ≡ true) → list_all (leaves_instance turn outcome) is ≡ true → list_all lives_on (map (ended_in turn outcome generations) is) ≡ true
instances_live turn outcome generations [] live leaves = refl
instances_live turn outcome generations (i ∷ is) live leaves =
    let both = and_parts (leaves_instance turn outcome i) (list_all (leaves_instance turn outcome) is) leaves in
    and_from (lives_on (ended_in turn outcome generations i)) (list_all lives_on (map (ended_in turn outcome generations) is))
    (instance_lives turn outcome generations i (live i (in_first i is)) both.0) (instances_live turn outcome generations is (λ j h. live j (in_rest i is j h)) both.1)

all_at : {X : Type 0} (p : X → Bool) (xs : List X) → list_all p xs ≡ true → (x : X) → Contains xs x → p x ≡ true
all_at p [] e x h = absurd (in_none x h)
all_at p (y ∷ ys) e x h = let both = and_parts (p y) (list_all p ys) e in elim (in_cases y ys x h) [
  | inl same ↦ ap p (sym same) ∙ both.0
  | inr later ↦ all_at p ys both.1 x later
]

test_off : (h d c a k o : Bool) → (not h || (not d && (o || (not c && not a)))) ≡ true → o ≡ false → (h && ((c || a) && k)) ≡ false
test_off false d c a k o e off = refl
test_off true true c a k o e off = absurd cc
test_off true false c a k true e off = absurd cc
test_off true false true a k false e off = absurd cc
test_off true false false true k false e off = absurd cc
test_off true false false false k false e off = refl

none_ends : (turn : ℕ) (outcome : Outcome) (w : World) → list_all (leaves_instance turn outcome) w.instances ≡ true → is_done (Some outcome) ≡ false → filter (λ (i : Instance). has_turn turn i && ((last_is is_create i.callbacks || last_is is_activate i.callbacks) && is_current w.open_periods i.origin)) w.instances ≡ []
none_ends turn outcome w leaves off = none_kept (λ (i : Instance). has_turn turn i && ((last_is is_create i.callbacks || last_is is_activate i.callbacks) && is_current w.open_periods i.origin)) w.instances
    (λ i h. test_off (has_turn turn i) (last_is is_destroy i.callbacks) (last_is is_create i.callbacks) (last_is is_activate i.callbacks) (is_current w.open_periods i.origin) (is_done (Some outcome)) (all_at (leaves_instance turn outcome) w.instances leaves i h) off)

none_failing : (turn : ℕ) (outcome : Outcome) (w : World) → list_all (leaves_instance turn outcome) w.instances ≡ true → failing (End turn outcome) w ≡ []
none_failing turn Done w leaves = refl
none_failing turn Refused w leaves = ap (λ is. map (λ (i : Instance). i.origin.configuration) is) (none_ends turn Refused w leaves refl)
none_failing turn NoMemory w leaves = ap (λ is. map (λ (i : Instance). i.origin.configuration) is) (none_ends turn NoMemory w leaves refl)

-- such an end is a quiet step
pub end_is_quiet : (turn : ℕ) (outcome : Outcome) (w : World) → ((i : Instance) → Contains w.instances i → lives_on i ≡ true) → list_all (leaves_instance turn outcome) w.instances ≡ true → is_quiet_step (End turn outcome) w ≡ true
end_is_quiet turn outcome w live leaves = and_from (list_all lives_on (instances_told (End turn outcome) w)) (is_empty (failing (End turn outcome) w)) (instances_live turn outcome w.generations w.instances live leaves) (ap (λ ns. is_empty ns) (none_failing turn outcome w leaves))

pub all_stay : (is : List Instance) → list_all lives_on is ≡ true → filter lives_on is ≡ is
all_stay [] each = refl
all_stay (i ∷ is) each = let both = and_parts (lives_on i) (list_all lives_on is) each in ap (λ b. cond b (i ∷ filter lives_on is) (filter lives_on is)) both.0 ∙ ap (λ js. i ∷ js) (all_stay is both.1)

-- ---- life and consumer stay

pub either_of : {K : Type 0} (key : Instance → K) (b : Bool) (i j : Instance) → key i ≡ key j → key (cond b i j) ≡ key j
either_of key true i j e = e
either_of key false i j e = refl

pub taken_life : (m : BeforeTurn) (callback : Callback) (i : Instance) → (with_effect_of_begin m callback i).origin ≡ i.origin
taken_life m Create i = refl
taken_life m (Bind reference service) i = refl
taken_life m (Updated reference service) i = refl
taken_life m (Unbind reference service) i = refl
taken_life m Activate i = refl
taken_life m Modified i = refl
taken_life m Deactivate i = refl
taken_life m Destroy i = refl

pub taken_consumer : (m : BeforeTurn) (callback : Callback) (i : Instance) → (with_effect_of_begin m callback i).consumer ≡ i.consumer
taken_consumer m Create i = refl
taken_consumer m (Bind reference service) i = refl
taken_consumer m (Updated reference service) i = refl
taken_consumer m (Unbind reference service) i = refl
taken_consumer m Activate i = refl
taken_consumer m Modified i = refl
taken_consumer m Deactivate i = refl
taken_consumer m Destroy i = refl
