use Rattle.std.proofs.Common.{◌≡◌, ◌∙◌, ap, ◌&&◌, map}
use Rattle.std.specs.Prelude.{is_some, not}
use Rattle.callback_orders.specs.declared.instance_view.HeldService.{HeldService}
use Rattle.callback_orders.specs.declared.instance_view.Wish.{Wish}
use Rattle.prop_map.specs.Words.{has}
use Rattle.scr_world.specs.Views.{bundle_of_instance, desired_unless_ending, is_changed, is_ready}
use Rattle.scr_world.specs.Worlds.{sorted}
use Rattle.scr_dues.specs.LeanViews.{best_held}
use Rattle.scr_dues.proofs.lean_views.lean_reference.Goals as goal

pub returns : goal.returns
returns c =
    let w = c.args.world.now in
    let i = c.args.instance.now in
    let r = c.args.reference.now in
    let told : c.is_some-told.result ≡ is_some r.updated = c.is_some-told.ensures in
    let best : sorted w c.args.services.now ≡ best_held w i r.name = ap (sorted w) c.requires.held in
    let held : c.deref.result.now ≡ best_held w i r.name = c.deref.ensures.value ∙ c.in_ok-held.ensures ∙ best in
    let again : c.deref-3.result.now ≡ best_held w i r.name = c.deref-3.ensures.value ∙ c.in_ok-held.ensures ∙ best in
    let services : c.deref-2.result.now ≡ desired_unless_ending c.args.ending w i c.args.place r = c.deref-2.ensures.value ∙ c.in_ok-desired.ensures in
    let bundle : c.bundle_of_instance-bundle.result ≡ bundle_of_instance w i = c.bundle_of_instance-bundle.ensures in
    let wishes : c.of.result ≡ map (λ s. let made : Wish = record { service = s; ready = not (has (best_held w i r.name) s) && is_ready w (bundle_of_instance w i) s } in made) (desired_unless_ending c.args.ending w i c.args.place r)
    = c.of.ensures ∙ c.in_ok-wishes.ensures ∙ (λ j. map (λ s. let made : Wish = record { service = s; ready = not (has (held j) s) && is_ready w (bundle j) s } in made) (services j)) in
    let changes : c.of-2.result ≡ map (λ s. let made : HeldService = record { service = s; changed = is_some r.updated && is_changed w i r.name s } in made) (best_held w i r.name)
    = c.of-2.ensures ∙ c.in_ok-changes.ensures ∙ (λ j. map (λ s. let made : HeldService = record { service = s; changed = told j && is_changed w i r.name s } in made) (again j)) in
    (λ j. record { told = told j; desired = wishes j; held = changes j })
