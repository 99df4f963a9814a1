use Rattle.std.proofs.Common.{◌≡◌, ap, ◌∙◌, refl, subst}
use Rattle.scr_requests.specs.Cores.{CoreView}
use Rattle.platform_hall.specs.Desks.{DeskView}
use Rattle.platform_hall.specs.Platforms.{Posts, has_object}
use Rattle.platform_hall.proofs.Desks.{desk_alike}
use Rattle.platform_hall.proofs.Growing.{posts_grows}
use Rattle.platform_hall.proofs.Keeping.{fit_alike}
use Rattle.platform_hall.proofs.Settlings.{posts_alike, posts_legal}
use Rattle.platform_hall.proofs.Seen.{core_same}
use Rattle.platform_hall.proofs.core_desk.CoreDeskDesk.post.Goals as goal

pub invariant_of-self : goal.invariant_of-self
invariant_of-self g c = (
  desk_alike c.self.inside.core c.post_drains.new.core c.self.inside.turns.items c.self.inside.held.items
      (posts_alike c.self.inside.core c.post_drains.new.core c.post_drains.ensures.step) c.self.invariant.0,
  fit_alike c.self.inside.core c.post_drains.new.core c.self.inside.kept.items c.note_legal.ensures
      (posts_legal c.self.inside.core c.post_drains.new.core c.note_legal.ensures c.post_drains.ensures.step)
      (posts_grows c.self.inside.core c.post_drains.new.core c.post_drains.ensures.step)
      (posts_alike c.self.inside.core c.post_drains.new.core c.post_drains.ensures.step) c.self.invariant.1,
)

pub returns-clause-objects : goal.returns-clause-objects
returns-clause-objects g c = λ n. (posts_alike c.self.inside.core c.post_drains.new.core c.post_drains.ensures.step).objects n ∙ ap (λ (p : CoreView). has_object p n) (core_same c.self.view_is)

pub returns-clause-step : goal.returns-clause-step
returns-clause-step g c =
    subst (λ (d : DeskView g.row.O.Denot). Posts d.core c.post_drains.new.core × (c.self.inside.told.items ≡ d.told) × (c.self.inside.kept.items ≡ d.kept)) c.self.view_is
    (c.post_drains.ensures.step, refl, refl)
