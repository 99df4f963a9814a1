-- What is reserved, by the turns and drains of the journal.
use Rattle.std.proofs.Common.{◌≡◌, ℕ, ◌+◌, List, [], ◌∷◌, ap, ◌∙◌, refl, subst, inl, inr}
use Rattle.std.specs.Prelude.{length, map, not, sum, ◌&&◌}
use Rattle.std.specs.List.{Contains}
use Rattle.callback_orders.specs.declared.word.Called.{Called}
use Rattle.callback_orders.specs.Sequences.{is_outstanding}
use Rattle.component_state.proofs.Apart.{in_cases, in_first, in_rest}
use Rattle.scr_laws.specs.Callbacks.{callbacks_told}
use Rattle.scr_laws.proofs.TurnCallbacks.{have_their_turns}
use Rattle.scr_promises.specs.Reserves.{IsReservedBy, has_drain, reserved_by}
use Rattle.scr_promises.proofs.DrainLaws.{board_drained, drained_is}
use Rattle.scr_promises.proofs.TurnsUnderWay.{turns_under_way}
use Rattle.scr_world.specs.Instances.{is_activated}
use Rattle.scr_world.specs.Legal.{IsLegal}
use Rattle.scr_world.specs.Lists.{world_of}
use Rattle.scr_world.specs.Room.{reserved_for}
use Rattle.scr_world.specs.Steps.{History}
use Rattle.scr_world.specs.TurnLines.{turn_lines}
use Rattle.scr_world.specs.Worlds.{all_instances}
use Rattle.scr_world.specs.declared.instance.Instance.{Instance}
use Rattle.prop_map.specs.Words.{one_if}

mapped_so : {X : Type 0} (f g : X → ℕ) (xs : List X) → ((x : X) → Contains xs x → f x ≡ g x) → map f xs ≡ map g xs
mapped_so f g [] each = refl
mapped_so f g (x ∷ xs) each = ap (λ n. n ∷ map f xs) (each x (in_first x xs)) ∙ ap (λ ns. g x ∷ ns) (mapped_so f g xs (λ y h. each y (in_rest x xs y h)))

module _ (limit : ℕ) (journal : History) (legal : IsLegal limit journal) where
  drained_so : (i : Instance) → Contains (all_instances (world_of journal)) i → i.drained ≡ has_drain journal i.number
  drained_so i h = elim (in_cases (world_of journal).whiteboard (world_of journal).instances i h) [
    | inl board ↦ subst (λ (x : Instance). x.drained ≡ has_drain journal x.number) board (board_drained limit journal legal)
    | inr one ↦ drained_is limit journal legal i one
  ]

  reserved_so : (i : Instance) → Contains (all_instances (world_of journal)) i → reserved_for i ≡ reserved_by journal i.number
  reserved_so i h =
      ap (λ (cs : List Called). one_if (is_outstanding cs) + one_if (is_activated cs && not i.drained)) (have_their_turns limit journal legal i h)
      ∙ ap (λ d. one_if (is_outstanding (callbacks_told i.number (turn_lines journal))) + one_if (is_activated (callbacks_told i.number (turn_lines journal)) && not d)) (drained_so i h)

  pub is_reserved_by : IsReservedBy journal
  is_reserved_by = record {
    count = ap (λ ns. sum ns + length (world_of journal).tokens) (mapped_so reserved_for (λ (i : Instance). reserved_by journal i.number) (all_instances (world_of journal)) reserved_so);
    turns = turns_under_way limit journal legal;
  }
