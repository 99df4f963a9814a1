-- The words on due callbacks, unfolded.
use Rattle.std.proofs.Common.{◌≡◌, ◌∙◌, ap, sym, refl, cond, ℕ, List, [], ◌∷◌, Bool, true, false, ◌&&◌, Option, Some, None, if◌then◌else◌}
use Rattle.std.specs.Prelude.{map, not, is_none, is_some, option_map, option_and_then}
use Rattle.std.specs.List.{slice_get}
use Rattle.std.specs.Option.{option_or}
use Rattle.callback_orders.specs.declared.due.DueRef.{DueRef}
use Rattle.callback_orders.specs.declared.due.DueRef.TheVariants.{Create, Deactivate}
use Rattle.callback_orders.specs.declared.instance_view.InstanceView.{InstanceView}
use Rattle.callback_orders.specs.declared.instance_view.Key.{Key}
use Rattle.callback_orders.specs.declared.instance_view.Phase.{Phase}
use Rattle.callback_orders.specs.declared.instance_view.Phase.TheVariants.{Making, Active, Left}
use Rattle.callback_orders.specs.Due.{due_in_phase, due_of, due_while_ending}
use Rattle.callback_orders.specs.Lives.{phase_of}
use Rattle.callback_orders.specs.Sequences.{is_outstanding}
use Rattle.callback_orders.proofs.FirstSome.{first_some-append, first_some-cons}
use Rattle.prop_map.specs.Words.{first_some}
use Rattle.scr_world.specs.declared.instance.Instance.{Instance}
use Rattle.scr_world.specs.declared.step.Step.{Step}
use Rattle.scr_world.specs.declared.world.World.{World}
use Rattle.scr_world.specs.Dues.{begin_of, due_in, next_begin}
use Rattle.scr_world.specs.Instances.{is_active_phase}
use Rattle.scr_world.specs.Views.{ends, has_holder, view_as, view_of, whiteboard_view}
use Rattle.scr_world.specs.Wanted.{missing}
use Rattle.scr_dues.specs.FirstDues.{due_among, due_as, due_for, due_of_all, first_due_in, missing_keys, next_step}
use Rattle.scr_dues.proofs.Aside.{unheld_aside}

-- ---- views of variables

nothing_due : (v : InstanceView) → v.outstanding ≡ true → None ≡ due_of v
nothing_due v e = sym (ap (λ b. cond b None (cond v.ending (due_while_ending v v.phase) (due_in_phase v v.phase))) e)

free_by : (n : ℕ) (unheld drained : Bool) → (if drained && unheld then Some (Deactivate n) else None) ≡ (if unheld && drained then Some (Deactivate n) else None)
free_by n true true = refl
free_by n true false = refl
free_by n false true = refl
free_by n false false = refl

ending_by : (v : InstanceView) (phase : Phase) (outstanding ending : Bool) → outstanding ≡ false → (ending && is_active_phase phase) ≡ true
    → (if v.drained && v.unheld then Some (Deactivate v.instance) else None) ≡ (if outstanding then None else (if ending then due_while_ending v phase else due_in_phase v phase))
ending_by v phase true ending e f = cc
ending_by v phase false false e f = cc
ending_by v Making false true e f = cc
ending_by v Active false true e f = free_by v.instance v.unheld v.drained
ending_by v Left false true e f = cc

leaves : (v : InstanceView) → v.outstanding ≡ false → (v.ending && is_active_phase v.phase) ≡ true → (if v.drained && v.unheld then Some (Deactivate v.instance) else None) ≡ due_of v
leaves v e f = ending_by v v.phase v.outstanding v.ending e f

-- ---- instances

module _ (w : World) (i : Instance) (phase : Phase) (ending : Bool) where
  pub by_view : (v : InstanceView) → v ≡ record (view_as phase ending w i) { unheld = true } → (ending && is_active_phase phase) ≡ false → due_of v ≡ due_as phase ending w i
  unfolding due_as
  by_view v is aside = ap due_of is ∙ unheld_aside (view_as phase ending w i) true aside

  pub none_outstanding : is_outstanding i.callbacks ≡ true → None ≡ due_as phase ending w i
  unfolding due_as
  none_outstanding e = nothing_due (view_as phase ending w i) e

  pub leaving : is_outstanding i.callbacks ≡ false → (ending && is_active_phase phase) ≡ true
      → (if i.drained && not (has_holder w i) then Some (Deactivate i.number) else None) ≡ due_as phase ending w i
  unfolding due_as
  leaving e f = leaves (view_as phase ending w i) e f

pub as_for : (w : World) (i : Instance) (phase : Phase) (ending : Bool) → phase ≡ phase_of i.callbacks → ending ≡ ends w i → due_as phase ending w i ≡ due_for w i
unfolding due_as due_for
as_for w i phase ending p e = (λ j. due_of (view_as (p j) (e j) w i))

pub for_is : (w : World) (i : Instance) → due_for w i ≡ due_of (view_of w i)
unfolding due_for
for_is w i = refl

pub whiteboard_is : (w : World) → due_as Active false w w.whiteboard ≡ due_of (whiteboard_view w)
unfolding due_as
whiteboard_is w = refl

-- ---- all of them

among_is : (w : World) (is : List Instance) → first_some (map due_of (map (view_of w) is)) ≡ due_among w is
unfolding due_for
among_is w [] = refl
among_is w (i ∷ is) =
    first_some-cons (due_of (view_of w i)) (map due_of (map (view_of w) is))
    ∙ ap (option_or (due_of (view_of w i))) (among_is w is)
    ∙ sym (first_some-cons (due_of (view_of w i)) (map (due_for w) is))

pub first_is : (w : World) → first_due_in w ≡ option_or (due_of_all w) (first_some (map (λ (key : Key). Some (Create key)) (missing_keys w)))
unfolding first_due_in missing_keys due_as
first_is w =
    first_some-append (map due_of (whiteboard_view w ∷ map (view_of w) w.instances)) (map (λ (key : Key). Some (Create key)) (missing w))
    ∙ ap (λ o. option_or o (first_some (map (λ (key : Key). Some (Create key)) (missing w)))) (first_some-cons (due_of (whiteboard_view w)) (map due_of (map (view_of w) w.instances)))
    ∙ ap (λ o. option_or (option_or (due_of (whiteboard_view w)) o) (first_some (map (λ (key : Key). Some (Create key)) (missing w)))) (among_is w w.instances)

-- one of them has something due
pub some_first : (w : World) (d : DueRef) → Some d ≡ due_of_all w → Some d ≡ first_due_in w
some_first w d e = ap (λ o. option_or o (first_some (map (λ (key : Key). Some (Create key)) (missing_keys w)))) e ∙ sym (first_is w)

first_key : (keys : List Key) → option_map Create (slice_get keys 0) ≡ first_some (map (λ (key : Key). Some (Create key)) keys)
first_key [] = refl
first_key (key ∷ keys) = refl

-- none has: it is the Create of the first key
pub key_first : (w : World) → None ≡ due_of_all w → option_map Create (slice_get (missing_keys w) 0) ≡ first_due_in w
key_first w none =
    first_key (missing_keys w) ∙ ap (λ p. option_or p (first_some (map (λ (key : Key). Some (Create key)) (missing_keys w)))) none ∙ sym (first_is w)

pub none_by : (o : Option DueRef) (b : Bool) → is_some o ≡ not b → b ≡ is_none o
none_by None true e = refl
none_by None false e = cc
none_by (Some d) true e = cc
none_by (Some d) false e = refl

pub due_is : (w : World) → first_due_in w ≡ due_in w
unfolding first_due_in
due_is w = refl

-- ---- the turn that begins next

pub next_of_some : (w : World) (d : DueRef) (s : Option Step) → Some d ≡ first_due_in w → s ≡ begin_of w d → s ≡ next_step w
unfolding first_due_in next_step
next_of_some w d s e f = f ∙ ap (option_and_then (begin_of w)) e

pub next_of_none : (w : World) → None ≡ first_due_in w → None ≡ next_step w
unfolding first_due_in next_step
next_of_none w e = ap (option_and_then (begin_of w)) e

pub next_is : (w : World) → next_step w ≡ next_begin w
unfolding next_step
next_is w = refl
