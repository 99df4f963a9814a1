-- What a step of a turn changes makes its draft.
use Rattle.std.proofs.Common.{◌≡◌, ◌+◌, ◌∙◌, ℕ, List, [], ◌∷◌, ◌++◌, ap, arith, refl, subst, sym, true, false, ◌&&◌, ◌||◌, ◌≤◌, Bool, Some, cond, length}
use Rattle.std.specs.Prelude.{◌==◌, filter, map, not}
use Rattle.std.specs.Option.{unwrap_or}
use Rattle.std.proofs.lemmas.Bool.{and_parts, eqb-true}
use Rattle.scr_turns.proofs.Places.{one_left}
use Rattle.scr_world.specs.Instances.{has_turn, last_is}
use Rattle.callback_orders.specs.Sequences.{is_failed, is_outstanding}
use Rattle.callback_orders.specs.Grammar.{is_activate, is_create}
use Rattle.component_state.specs.Periods.{is_current}
use Rattle.component_state.specs.Inside.Ready.{are_apart}
use Rattle.component_state.specs.declared.component.Component.{Component}
use Rattle.component_state.specs.Components.{exists}
use Rattle.component_state.specs.Marks.{exists_unchanged, failed_after}
use Rattle.prop_map.specs.Words.{has}
use Rattle.scr_laws.proofs.FewNumbers.{few_numbers}
use Rattle.scr_laws.proofs.NextNumbers.{next_generations}
use Rattle.scr_laws.proofs.TurnCallbacks.{are_told_apart}
use Rattle.scr_laws.proofs.Sounding.{legal_sound}
use Rattle.scr_laws.proofs.SlotLimits.{instances_within}
use Rattle.scr_laws.proofs.TokenOrder.{tokens_spread}
use Rattle.scr_state.specs.Drafts.{HasRoom, with_draft}
use Rattle.scr_state.specs.Keeps.{IsDraft, IsKept, with_bundles_by}
use Rattle.scr_state.specs.declared.state.State.{State}
use Rattle.scr_laws.proofs.TokenCounts.{token_counted}
use Rattle.scr_turns.specs.TurnDrafts.{AreKnown, IsTurnChange, draft_with}
use Rattle.scr_turns.specs.declared.drafts.TurnChanges.{TurnChanges}
use Rattle.scr_world.specs.Legal.{IsLegal}
use Rattle.scr_world.specs.Levels.{levels_of}
use Rattle.scr_world.specs.Lists.{world_of}
use Rattle.scr_world.specs.Stepping.{ending_in, failed_by, failing, failure_of, failures_by, world_after_step}
use Rattle.scr_world.specs.Steps.{History, history_of}
use Rattle.scr_world.specs.Tables.{descriptions_of}
use Rattle.scr_world.specs.TurnSteps.{is_turn_step}
use Rattle.scr_world.specs.Worlds.{satisfied_in}
use Rattle.scr_world.specs.declared.instance.Instance.{Instance}
use Rattle.scr_world.specs.declared.step.Step.{Step}
use Rattle.scr_world.specs.declared.step.Step.TheVariants.{Command as Commanded, Begin, End, Drained, Got, Released}
use Rattle.scr_world.specs.declared.world.World.{World}

plus_none : (n : ℕ) → n + 0 ≡ n
plus_none n = grind (arith)

-- which of them are failed says just what is satisfied
same_kept : (p q r : ℕ → Bool) → ((n : ℕ) → p n ≡ q n) → (ns : List ℕ) → filter (λ n. p n && r n) ns ≡ filter (λ n. q n && r n) ns
same_kept p q r same [] = refl
same_kept p q r same (n ∷ ns) = ap (λ b. cond (b && r n) (n ∷ filter (λ m. p m && r m) ns) (filter (λ m. p m && r m) ns)) (same n) ∙ ap (λ ms. cond (q n && r n) (n ∷ ms) ms) (same_kept p q r same ns)

pub failed_alike : (place : ℕ) (these those : List ℕ) (cs : List Component) (failing failed : List ℕ) → ((n : ℕ) → has these n ≡ has those n) → failed_after place these cs failing failed ≡ failed_after place those cs failing failed
failed_alike place these those cs failing failed same = ap (λ ns. ns ++ filter (exists cs) failing) (same_kept (has these) (has those) (exists_unchanged place cs) same failed)

pub failed_in : (step : Step) (w : World) (satisfied : List ℕ) → is_turn_step step ≡ true → ((n : ℕ) → has satisfied n ≡ has (satisfied_in w) n) → failed_after w.entries satisfied w.components (failing step w) w.failed ≡ failed_by step w
failed_in (Commanded command) w satisfied turn same = absurd cc
failed_in (Begin turn instance configuration consumer callback chosen) w satisfied is same = failed_alike w.entries satisfied (satisfied_in w) w.components [] w.failed same
failed_in (End turn outcome) w satisfied is same = failed_alike w.entries satisfied (satisfied_in w) w.components (failing (End turn outcome) w) w.failed same
failed_in (Drained instance) w satisfied is same = failed_alike w.entries satisfied (satisfied_in w) w.components [] w.failed same
failed_in (Got bundle service) w satisfied is same = failed_alike w.entries satisfied (satisfied_in w) w.components [] w.failed same
failed_in (Released place) w satisfied is same = failed_alike w.entries satisfied (satisfied_in w) w.components [] w.failed same

-- a state of a legal journal
known_of : (limit : ℕ) (past : History) → IsLegal limit past → limit ≤ 4194304 → AreKnown (world_of past)
known_of limit past legal small =
    let w = world_of past in
    let apart = are_told_apart limit past legal in
    let sound = legal_sound limit past legal in record {
      numbers = (and_parts (not (has (map (λ (i : Instance). i.number) w.instances) w.whiteboard.number)) (are_apart (map (λ (i : Instance). i.number) w.instances)) apart.numbers).1;
      turns = apart.turns;
      living = sound.living;
      places = (tokens_spread past).apart;
      counted = token_counted past;
      few = few_numbers limit past legal;
      next = next_generations limit past legal small;
      instances = instances_within limit past legal;
    }

pub known : (s : State) → IsKept s → AreKnown s.world
known s kept = subst (λ (w : World). AreKnown w) (sym kept.keeps.world) (known_of kept.journal.limit (history_of kept.journal.entries) kept.keeps.legal kept.keeps.small)

world_drafted : (step : Step) (w : World) (c : TurnChanges) → is_turn_step step ≡ true → IsTurnChange step w c → with_draft (draft_with c w) w ≡ world_after_step step w
unfolding with_draft draft_with world_after_step
world_drafted (Commanded command) w c turn is = absurd cc
world_drafted (Begin turn instance configuration consumer callback chosen) w c is changes =
    rw (changes.failing.failed, changes.failing.failures, changes.living.instances, changes.living.whiteboard, changes.numbers.instances_numbered, changes.numbers.turns_begun, changes.numbers.generations, changes.gets.uses, changes.gets.tokens, plus_none w.components_numbered) refl
world_drafted (End turn outcome) w c is changes =
    rw (changes.failing.failed, changes.failing.failures, changes.living.instances, changes.living.whiteboard, changes.numbers.instances_numbered, changes.numbers.turns_begun, changes.numbers.generations, changes.gets.uses, changes.gets.tokens, plus_none w.components_numbered) refl
world_drafted (Drained instance) w c is changes =
    rw (changes.failing.failed, changes.failing.failures, changes.living.instances, changes.living.whiteboard, changes.numbers.instances_numbered, changes.numbers.turns_begun, changes.numbers.generations, changes.gets.uses, changes.gets.tokens, plus_none w.components_numbered) refl
world_drafted (Got bundle service) w c is changes =
    rw (changes.failing.failed, changes.failing.failures, changes.living.instances, changes.living.whiteboard, changes.numbers.instances_numbered, changes.numbers.turns_begun, changes.numbers.generations, changes.gets.uses, changes.gets.tokens, plus_none w.components_numbered) refl
world_drafted (Released place) w c is changes =
    rw (changes.failing.failed, changes.failing.failures, changes.living.instances, changes.living.whiteboard, changes.numbers.instances_numbered, changes.numbers.turns_begun, changes.numbers.generations, changes.gets.uses, changes.gets.tokens, plus_none w.components_numbered) refl

documents_stay : (step : Step) (w : World) → is_turn_step step ≡ true → (world_after_step step w).documents ≡ w.documents
unfolding world_after_step
documents_stay (Commanded command) w turn = absurd cc
documents_stay (Begin turn instance configuration consumer callback chosen) w is = refl
documents_stay (End turn outcome) w is = refl
documents_stay (Drained instance) w is = refl
documents_stay (Got bundle service) w is = refl
documents_stay (Released place) w is = refl

bundles_stay : (step : Step) (w : World) → is_turn_step step ≡ true → with_bundles_by step w ≡ w
bundles_stay (Commanded command) w turn = absurd cc
bundles_stay (Begin turn instance configuration consumer callback chosen) w is = refl
bundles_stay (End turn outcome) w is = refl
bundles_stay (Drained instance) w is = refl
bundles_stay (Got bundle service) w is = refl
bundles_stay (Released place) w is = refl

no_descriptions : (c : TurnChanges) (w : World) (s : State) → unwrap_or (draft_with c w).descriptions s.descriptions ≡ s.descriptions
unfolding draft_with
no_descriptions c w s = refl

no_levels : (c : TurnChanges) (w : World) (s : State) → unwrap_or (draft_with c w).levels s.levels ≡ s.levels
unfolding draft_with
no_levels c w s = refl

roomy : (step : Step) (w : World) (c : TurnChanges) → IsTurnChange step w c → HasRoom (draft_with c w) w
unfolding draft_with
roomy step w c changes = (changes.failing.room, (changes.living.room, (changes.numbers.room, changes.gets.room)))

pub drafted : (s : State) (step : Step) (c : TurnChanges) → IsKept s → is_turn_step step ≡ true → IsTurnChange step s.world c → IsDraft s step (draft_with c s.world)
drafted s step c kept turn changes = record {
  world = ap (with_draft (draft_with c s.world)) (bundles_stay step s.world turn) ∙ world_drafted step s.world c turn changes;
  descriptions = no_descriptions c s.world s ∙ kept.keeps.descriptions ∙ ap descriptions_of (sym (documents_stay step s.world turn));
  levels = no_levels c s.world s ∙ kept.keeps.levels ∙ ap levels_of (kept.keeps.descriptions ∙ ap descriptions_of (sym (documents_stay step s.world turn)));
  room = roomy step s.world c changes;
}

-- ---- a step adds one failure at most

one_mapped : {X Y : Type 0} (f : X → Y) (xs : List X) → length xs ≤ 1 → length (map f xs) ≤ 1
one_mapped f [] low = omega arith
one_mapped f (x ∷ []) low = omega arith
one_mapped f (x ∷ y ∷ xs) low = absurd (omega (arith, low))

one_ending : (w : World) → AreKnown w → (turn : ℕ) → length (ending_in turn w) ≤ 1
one_ending w are turn =
    one_left (λ (i : Instance). has_turn turn i && ((last_is is_create i.callbacks || last_is is_activate i.callbacks) && is_current w.open_periods i.origin)) (λ (i : Instance). i.turn) turn
    (λ i ends. eqb-true i.turn turn (and_parts (i.turn == turn) (is_outstanding i.callbacks) (and_parts (has_turn turn i) ((last_is is_create i.callbacks || last_is is_activate i.callbacks) && is_current w.open_periods i.origin) ends).0).0)
    w.instances are.turns

one_where : {X : Type 0} (b : Bool) (xs : List X) → length xs ≤ 1 → length (cond b xs []) ≤ 1
one_where true xs low = low
one_where false xs low = omega arith

pub one_failure : (step : Step) (w : World) → AreKnown w → length (failures_by step w) ≤ 1
one_failure (Commanded command) w are = omega arith
one_failure (Begin turn instance configuration consumer callback chosen) w are = omega arith
one_failure (End turn outcome) w are = one_where (is_failed (Some outcome)) (map (failure_of outcome) (ending_in turn w)) (one_mapped (failure_of outcome) (ending_in turn w) (one_ending w are turn))
one_failure (Drained instance) w are = omega arith
one_failure (Got bundle service) w are = omega arith
one_failure (Released place) w are = omega arith
