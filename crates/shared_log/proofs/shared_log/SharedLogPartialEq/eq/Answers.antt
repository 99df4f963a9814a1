use Rattle.std.proofs.Common.{◌≡◌, ◌∙◌, Bor, ap, refl, rules}
use Rattle.std.specs.Slice.Iter.{iter_rest}
use Rattle.std.proofs.lemmas.Iterator.{YieldsList-from_slice}
use Rattle.std.proofs.lemmas.Iterator.Adapters.{YieldsList-from_flat_map}
use Rattle.shared_log.proofs.EqualItems.{eq_from_yields_List}
use Rattle.shared_log.proofs.shared_log.SharedLogPartialEq.eq.Goals as goal

pub returns : goal.returns
returns g c =
    rw (← c.self.view_is, ← c.other.view_is)
    (eq_from_yields_List (λ x y. y ≡ x) _ g.T.PartialEq.eq _ c.eq.ensures.ran
    (YieldsList-from_flat_map _ _ _ (λ (y : Bor g.row.T.Denot). y.now) (λ part. part) _ (λ x u q k. (search rules, λ j b. YieldsList-from_slice x.now (search rules)))
    (YieldsList-from_slice c.self.inside.parts.items (ap iter_rest c.flat_map-ours.ensures.source ∙ c.iter.ensures.rest ∙ c.deref.ensures.value)) c.flat_map-ours.ensures.closure c.flat_map-ours.ensures.front c.flat_map-ours.ensures.back c.flat_map-ours.ensures.done)
    (λ it e. rw e (YieldsList-from_flat_map _ _ _ (λ (y : Bor g.row.T.Denot). y.now) (λ part. part) _ (λ x u q k. (search rules, λ j b. YieldsList-from_slice x.now (search rules)))
    (YieldsList-from_slice c.other.inside.parts.items (ap iter_rest c.flat_map.ensures.source ∙ c.iter-2.ensures.rest ∙ c.deref-2.ensures.value)) c.flat_map.ensures.closure c.flat_map.ensures.front c.flat_map.ensures.back c.flat_map.ensures.done))
    (λ x y. refl))
