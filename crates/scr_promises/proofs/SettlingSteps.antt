-- Each entry of a settling leaves no more turns to come, and each beginning of a turn fewer.
use Rattle.std.proofs.Common.{◌≡◌, ◌≤◌, ◌<◌, ℕ, List, [], ◌∷◌, ap, sym, ◌∙◌, refl, subst, cond, arith, Bool, true, false}
use Rattle.std.specs.Prelude.{filter, map, nat_lt, ◌&&◌, ◌==◌}
use Rattle.std.specs.List.{Contains}
use Rattle.std.proofs.lemmas.Bool.{and_from, and_parts, false≢true, ltb-true}
use Rattle.component_state.specs.declared.component.Component.{Component}
use Rattle.component_state.specs.Components.{existing}
use Rattle.component_state.proofs.Apart.{any_found, any_from, in_first, in_rest, kept_from}
use Rattle.journal_core.specs.declared.entry.Entry.{Entry}
use Rattle.scr_promises.proofs.EndingLaws.{go_on_ending}
use Rattle.scr_laws.proofs.Legal.{in_map}
use Rattle.scr_laws.proofs.InstanceLemmas.{IsSame}
use Rattle.scr_promises.specs.Names.{HaveOwnNames}
use Rattle.scr_promises.specs.Settlings.{is_settling}
use Rattle.scr_promises.proofs.InstanceSteps.{instance_low}
use Rattle.scr_promises.proofs.OwnNames.{instance_names}
use Rattle.scr_promises.proofs.PairMoves.{Moves}
use Rattle.scr_promises.proofs.Potentials.{consumers_for, has_new, instance_left, is_new_of, key_full, key_left, keys_left}
use Rattle.scr_promises.proofs.SettlingWorlds.{IsSettled}
use Rattle.scr_promises.proofs.Sums.{total, total_kept, total_low, total_mapped}
use Rattle.scr_world.specs.Instances.{lives_on}
use Rattle.scr_world.specs.Legal.{IsLegal}
use Rattle.scr_world.specs.Lists.{world_of}
use Rattle.scr_world.specs.Steps.{History}
use Rattle.scr_world.specs.Views.{ends}
use Rattle.scr_world.specs.declared.instance.Instance.{Instance}
use Rattle.scr_world.specs.declared.step.Step.{Step}
use Rattle.scr_world.specs.declared.world.World.{World}

module _ (start : World) (limit : ℕ) (entry : Entry Step) (past : History) (legal : IsLegal limit (entry ∷ past)) (settles : is_settling entry.step (world_of past) ≡ true) (closed : entry.closed ≡ [])
    (names : HaveOwnNames (world_of past)) (is : IsSettled start (world_of past)) where
  abbrev w : World
  w = world_of past

  abbrev then : World
  then = world_of (entry ∷ past)

  abbrev pub left_was : Instance → ℕ
  left_was i = instance_left start (ends w i) w i

  abbrev pub left_then : Instance → ℕ
  left_then j = instance_left start (ends then j) then j

  abbrev pub board_was : ℕ
  board_was = instance_left start false w w.whiteboard

  abbrev pub board_now : ℕ
  board_now = instance_left start false then then.whiteboard

  -- ---- one instance

  pub ends_on : (i j : Instance) → Contains w.instances i → Contains then.instances j → j.number ≡ i.number → ends w i ≡ true → ends then j ≡ true
  ends_on i j h k number = (go_on_ending limit entry past legal).ending i j h k (sym number)

  pub made_low : (i j : Instance) → Contains w.instances i → Contains then.instances j → IsSame j i → Moves (ends w i) w i j → left_then j ≤ left_was i
  made_low i j h k same moves = instance_low start limit entry past legal settles closed is.reaches (ends w i) (ends then j) (ends_on i j h k same.number) i j same.number same.origin
      (instance_names limit past legal.1 names i (in_rest w.whiteboard w.instances i h)) moves

  pub board_low : IsSame then.whiteboard w.whiteboard → Moves false w w.whiteboard then.whiteboard → board_now ≤ board_was
  board_low same moves = instance_low start limit entry past legal settles closed is.reaches false false (λ on. on) w.whiteboard then.whiteboard same.number same.origin
      (instance_names limit past legal.1 names w.whiteboard (in_first w.whiteboard w.instances)) moves

  -- ---- keys

  -- each instance that was made in the settling is there still
  abbrev pub StayNew : Type 0
  StayNew = (i : Instance) → Contains w.instances i → start.instances_numbered < i.number → (j : Instance) × Contains then.instances j × IsSame j i

  new_stays : StayNew → (c : Component) (n : ℕ) → has_new start w c n ≡ true → has_new start then c n ≡ true
  new_stays stay c n on =
      let i = any_found (is_new_of start c n) w.instances on in
      let parts = and_parts (nat_lt start.instances_numbered i.0.number) ((i.0.origin.configuration == c.number) && (i.0.consumer == n)) i.2 in
      let rest = and_parts (i.0.origin.configuration == c.number) (i.0.consumer == n) parts.1 in
      let j = stay i.0 i.1 (ltb-true start.instances_numbered i.0.number parts.0) in
      any_from (is_new_of start c n) then.instances j.0 j.1
      (and_from (nat_lt start.instances_numbered j.0.number) ((j.0.origin.configuration == c.number) && (j.0.consumer == n)) (ap (nat_lt start.instances_numbered) j.2.number ∙ parts.0)
      (and_from (j.0.origin.configuration == c.number) (j.0.consumer == n) (ap (λ o. o.configuration == c.number) j.2.origin ∙ rest.0) (ap (λ m. m == n) j.2.consumer ∙ rest.1)))

  cond_low : (a b : Bool) (n : ℕ) → (a ≡ true → b ≡ true) → cond b 0 n ≤ cond a 0 n
  cond_low a true n to = omega arith
  cond_low false false n to = omega arith
  cond_low true false n to = absurd (false≢true (to refl))

  pub key_low : StayNew → (c : Component) (n : ℕ) → key_left start then c n ≤ key_left start w c n
  key_low stay c n = cond_low (has_new start w c n) (has_new start then c n) (key_full start c) (new_stays stay c n)

  pub keys_low : StayNew → keys_left start then ≤ keys_left start w
  keys_low stay = total_low (λ (c : Component). total (key_left start then c) (consumers_for start c)) (λ (c : Component). total (key_left start w c) (consumers_for start c)) (existing start.components)
      (λ c h. total_low (key_left start then c) (key_left start w c) (consumers_for start c) (λ n k. key_low stay c n))

  -- ---- where each instance goes on

  module _ (f : Instance → Instance) (same : (i : Instance) → IsSame (f i) i) (moves : (i : Instance) → Contains w.instances i → Moves (ends w i) w i (f i)) where
    module _ (instances : then.instances ≡ map f w.instances) where
      there : (i : Instance) → Contains w.instances i → Contains then.instances (f i)
      there i h = subst (λ (is : List Instance). Contains is (f i)) (sym instances) (in_map f w.instances i h)

      pub one_low : (i : Instance) → Contains w.instances i → left_then (f i) ≤ left_was i
      one_low i h = made_low i (f i) h (there i h) (same i) (moves i h)

      pub mapped_is : total left_then then.instances ≡ total (λ i. left_then (f i)) w.instances
      mapped_is = ap (total left_then) instances ∙ total_mapped f left_then w.instances

      pub mapped_new : StayNew
      mapped_new i h new = (f i, there i h, same i)

      pub mapped_low : total left_then then.instances ≤ total left_was w.instances
      mapped_low = (let a = mapped_is in let b = total_low (λ i. left_then (f i)) left_was w.instances one_low in omega (arith, a, b))

    module _ (instances : then.instances ≡ filter lives_on (map f w.instances)) where
      kept_there : (i : Instance) → Contains w.instances i → lives_on (f i) ≡ true → Contains then.instances (f i)
      kept_there i h on = subst (λ (is : List Instance). Contains is (f i)) (sym instances) (kept_from lives_on (map f w.instances) (f i) (in_map f w.instances i h) on)

      pub kept_low : total left_then then.instances ≤ total left_was w.instances
      kept_low =
          let a = ap (total left_then) instances in
          let b = total_kept lives_on f left_then left_was w.instances (λ i h on. made_low i (f i) h (kept_there i h on) (same i) (moves i h)) in
          omega (arith, a, b)

      pub kept_new : ((i : Instance) → Contains w.instances i → start.instances_numbered < i.number → lives_on (f i) ≡ true) → StayNew
      kept_new live i h new = (f i, kept_there i h (live i h new), same i)
