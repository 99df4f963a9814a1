-- An instance whose life a turn doesn't end lives on, and one whose life it ends holds nothing.
use Rattle.std.proofs.Common.{◌≡◌, ℕ, List, [], ◌∷◌, ◌++◌, ap, arith, sym, ◌∙◌, refl, subst, Bool, true, false, ◌&&◌, ◌||◌, Option, Some, None}
use Rattle.std.specs.Prelude.{not}
use Rattle.std.specs.Option.{option_map_or}
use Rattle.std.proofs.lemmas.Bool.{and_from, and_parts, both_ways}
use Rattle.callback_orders.specs.declared.callback.Callback.{Callback}
use Rattle.callback_orders.specs.declared.callback.Callback.TheVariants.{Create, Bind, Updated, Unbind, Activate, Modified, Deactivate, Destroy}
use Rattle.callback_orders.specs.declared.callback.Outcome.{Outcome}
use Rattle.callback_orders.specs.declared.instance_view.Phase.{Phase}
use Rattle.callback_orders.specs.declared.instance_view.Phase.TheVariants.{Making, Active, Left}
use Rattle.callback_orders.specs.declared.word.Called.{Called}
use Rattle.callback_orders.specs.Grammar.{is_create, is_destroy}
use Rattle.callback_orders.specs.Lives.{goes_on, held_for, is_living, phase_of}
use Rattle.callback_orders.specs.Sequences.{Bound, alternate, begun, bound_after, bound_by, created, ended, have_ended, is_bound, is_failed, is_outstanding, is_sequence, may_come, one_at_a_time}
use Rattle.callback_orders.proofs.FollowLemmas.{may_follow}
use Rattle.callback_orders.proofs.HeldLemmas.{bound_is_held}
use Rattle.callback_orders.proofs.RoundLemmas.{bound_end}
use Rattle.component_dto.specs.declared.description.Reference.{Reference}
use Rattle.component_state.specs.declared.component.Component.{Component}
use Rattle.component_state.proofs.Among.{none_passes}
use Rattle.prop_map.specs.Words.{has}
use Rattle.scr_laws.proofs.CallbackFronts.{front_of, sequence_may}
use Rattle.scr_laws.proofs.DrainOrder.{last_more, one_at_a_time_of}
use Rattle.scr_world.specs.Instances.{last_is}
use Rattle.scr_world.specs.Lists.{holds}
use Rattle.scr_world.specs.Whiteboard.{component_in}
use Rattle.scr_world.specs.declared.instance.Instance.{Instance}
use Rattle.scr_still.specs.StillEnds.{ends_life}
use Rattle.scr_still.proofs.HeldThrough.{held_more}

-- ---- a life goes on

goes_on_so : (outcome : Outcome) (k : Callback) → is_destroy k ≡ false → (is_create k && is_failed (Some outcome)) ≡ false → goes_on k (Some outcome) ≡ true
goes_on_so outcome Create d f = ap not f
goes_on_so outcome (Bind r s) d f = refl
goes_on_so outcome (Updated r s) d f = refl
goes_on_so outcome (Unbind r s) d f = refl
goes_on_so outcome Activate d f = refl
goes_on_so outcome Modified d f = refl
goes_on_so outcome Deactivate d f = refl
goes_on_so outcome Destroy d f = absurd cc

calls_live : (outcome : Outcome) (calls : List Called) → is_living calls ≡ true → last_is is_destroy calls ≡ false → (last_is is_create calls && is_failed (Some outcome)) ≡ false → is_living (ended outcome calls) ≡ true
calls_live outcome [] live d f = refl
calls_live outcome (c ∷ []) live d f = and_from (goes_on c.callback (Some outcome)) true (goes_on_so outcome c.callback d f) refl
calls_live outcome (c ∷ k ∷ rest) live d f =
    let both = and_parts (goes_on c.callback c.outcome) (is_living (k ∷ rest)) live in
    and_from (goes_on c.callback c.outcome) (is_living (ended outcome (k ∷ rest))) both.0 (calls_live outcome (k ∷ rest) both.1 d f)

or_off : (a b : Bool) → (a || b) ≡ false → (a ≡ false) × (b ≡ false)
or_off false b is = (refl, is)
or_off true b is = absurd cc

-- an instance whose life isn't ended lives on
pub life_goes_on : (outcome : Outcome) (i : Instance) → is_living i.callbacks ≡ true → ends_life outcome i ≡ false → is_living (ended outcome i.callbacks) ≡ true
life_goes_on outcome i live off =
    let both = or_off (last_is is_destroy i.callbacks) (last_is is_create i.callbacks && is_failed (Some outcome)) off in
    calls_live outcome i.callbacks live both.0 both.1

-- ---- a life that ends holds nothing

alternate_last : (before : List Called) (c : Called) (bound : List Bound) → alternate bound (before ++ c ∷ []) ≡ true → may_come c.callback (bound_end bound before) ≡ true
alternate_last [] c bound is = (and_parts (may_come c.callback bound) true is).0
alternate_last (d ∷ rest) c bound is = alternate_last rest c (bound_after d.callback bound) (and_parts (may_come d.callback bound) (alternate (bound_after d.callback bound) (rest ++ c ∷ [])) is).1

none_at_destroy : (bound : List Bound) → may_come Destroy bound ≡ true → bound ≡ []
none_at_destroy [] is = refl
none_at_destroy (b ∷ bs) is = absurd cc

never_create : (phase : Phase) → may_follow phase Create ≡ false
never_create Making = refl
never_create Active = refl
never_create Left = refl

module _ (name : List ℕ) (s : ℕ) where
  destroy_holds : (before : List Called) → have_ended before ≡ true → is_sequence (before ++ begun Destroy ∷ []) ≡ true → has (held_for name (before ++ begun Destroy ∷ [])) s ≡ false
  destroy_holds before over is =
      let whole = before ++ begun Destroy ∷ [] in
      let order = (and_parts (created whole && one_at_a_time whole) (alternate [] whole) is).1 in
      let none = none_at_destroy (bound_end [] before) (alternate_last before (begun Destroy) [] order) in
      ap (λ (held : List ℕ). has held s) (held_more name before (begun Destroy) [])
      ∙ sym (bound_is_held before name s over)
      ∙ ap (λ (bound : List Bound). is_bound bound (bound_by name s)) none

  create_holds : (before : List Called) → have_ended before ≡ true → is_sequence (before ++ begun Create ∷ []) ≡ true → has (held_for name (before ++ begun Create ∷ [])) s ≡ false
  create_holds [] over is = refl
  create_holds (c ∷ rest) over is = absurd (both_ways (may_follow (phase_of (c ∷ rest)) Create) (never_create (phase_of (c ∷ rest))) (sequence_may (c ∷ rest) Create (omega arith) over is))

  front_holds : (before : List Called) (last : Callback) → have_ended before ≡ true → is_sequence (before ++ begun last ∷ []) ≡ true → (is_destroy last || is_create last) ≡ true
      → has (held_for name (before ++ begun last ∷ [])) s ≡ false
  front_holds before Create over is which = create_holds before over is
  front_holds before Destroy over is which = destroy_holds before over is
  front_holds before (Bind r v) over is which = absurd cc
  front_holds before (Updated r v) over is which = absurd cc
  front_holds before (Unbind r v) over is which = absurd cc
  front_holds before Activate over is which = absurd cc
  front_holds before Modified over is which = absurd cc
  front_holds before Deactivate over is which = absurd cc

  calls_hold : (calls : List Called) → is_sequence calls ≡ true → is_outstanding calls ≡ true → (last_is is_destroy calls || last_is is_create calls) ≡ true → has (held_for name calls) s ≡ false
  calls_hold calls is out which =
      let f = front_of calls (one_at_a_time_of calls is) out in
      let so : (is_destroy f.last || is_create f.last) ≡ true =
      ap (λ b. b || is_create f.last) (sym (last_more is_destroy f.before (begun f.last)))
      ∙ ap (λ b. last_is is_destroy (f.before ++ begun f.last ∷ []) || b) (sym (last_more is_create f.before (begun f.last)))
      ∙ ap (λ (cs : List Called). last_is is_destroy cs || last_is is_create cs) (sym f.whole) ∙ which in
      ap (λ (cs : List Called). has (held_for name cs) s) f.whole
      ∙ front_holds f.before f.last f.over (subst (λ (cs : List Called). is_sequence cs ≡ true) f.whole is) so

ended_which : (d c f : Bool) → (d || (c && f)) ≡ true → (d || c) ≡ true
ended_which true c f is = refl
ended_which false true f is = refl
ended_which false false f is = absurd cc

pub holds_nothing : (cs : List Component) (s : ℕ) (outcome : Outcome) (i : Instance) → is_sequence i.callbacks ≡ true → is_outstanding i.callbacks ≡ true → ends_life outcome i ≡ true → holds cs s i ≡ false
holds_nothing cs s outcome i is out ends =
    let which = ended_which (last_is is_destroy i.callbacks) (last_is is_create i.callbacks) (is_failed (Some outcome)) ends in
    none_passes (λ (r : Reference). has (held_for r.name i.callbacks) s) (option_map_or (λ (c : Component). c.description.references) (component_in cs i.origin.configuration) [])
    (λ r here. calls_hold r.name s i.callbacks is out which)
