-- What happens to static references while an instance is active. OSGi Compendium 8, chapter 112, "Reference Policy".
use Rattle.std.specs.Prelude.{◌≡◌, ℕ, ◌&&◌, List, [], ◌∷◌, ◌++◌, Bool, true, false, not, if◌then◌else◌}
use Rattle.std.specs.List.{Contains, list_any}
use Rattle.std.specs.Str.{bytes_eq}
use Rattle.callback_orders.specs.declared.callback.Callback.{Callback}
use Rattle.callback_orders.specs.declared.callback.Callback.TheVariants.{Bind, Unbind}
use Rattle.callback_orders.specs.declared.instance_view.Phase.{Phase}
use Rattle.callback_orders.specs.declared.instance_view.Phase.TheVariants.{Making}
use Rattle.callback_orders.specs.declared.word.Called.{Called}
use Rattle.callback_orders.specs.Lives.{phase_by}
use Rattle.component_dto.specs.declared.description.Reference.{Reference}
use Rattle.reference_match.specs.Targets.{is_static}
use Rattle.scr_laws.specs.Askeds.{HasOneOfEach}
use Rattle.scr_world.specs.Instances.{is_active_phase}
use Rattle.scr_world.specs.Views.{references_in}
use Rattle.scr_world.specs.declared.instance.Instance.{Instance}
use Rattle.scr_world.specs.declared.world.World.{World}

-- the callbacks that an instance was told of in its active phase, where it is in this phase before them
abbrev pub told_active_from : Phase → List Called → List Callback
told_active_from phase [] = []
told_active_from phase (c ∷ calls) = (if is_active_phase phase then c.callback ∷ [] else []) ++ told_active_from (phase_by c.callback c.outcome phase) calls

-- those from the end of a successful Activate on, to the Deactivate
abbrev pub told_while_active : List Called → List Callback
told_while_active calls = told_active_from Making calls

-- it binds or unbinds a service for the reference of this name
abbrev pub rebinds : List ℕ → Callback → Bool
rebinds name (Bind reference service) = bytes_eq reference name
rebinds name (Unbind reference service) = bytes_eq reference name
rebinds name _ = false

-- a dynamic reference has this name
abbrev pub is_dynamic_name : List Reference → List ℕ → Bool
is_dynamic_name rs name = list_any (λ (r : Reference). bytes_eq r.name name && not (is_static r.policy)) rs

-- no service is bound or unbound while an instance is active, under a name that no dynamic reference has: so none of a static reference, where the
-- references differ in name
pub record KeepsStaticServices (w : World) : Type 0 where
  pub by_name : (i : Instance) → Contains w.instances i → (name : List ℕ) → is_dynamic_name (references_in w i) name ≡ false → list_any (rebinds name) (told_while_active i.callbacks) ≡ false
  pub by_reference : (i : Instance) → Contains w.instances i → HasOneOfEach (λ (r : Reference). r.name) (references_in w i) → (r : Reference) → Contains (references_in w i) r → is_static r.policy ≡ true
      → list_any (rebinds r.name) (told_while_active i.callbacks) ≡ false
