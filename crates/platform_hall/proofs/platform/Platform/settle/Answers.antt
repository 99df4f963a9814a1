use Rattle.std.proofs.Common.{ℕ, ◌∙◌, ap, refl, subst}
use Rattle.scr_requests.specs.Cores.{CoreView}
use Rattle.scr_world.specs.declared.command.Limits.{Limits}
use Rattle.platform_hall.specs.Desks.{DeskSettles, SettlesHeard}
use Rattle.platform_hall.specs.SettleBounds.{SettlesWithin}
use Rattle.platform_hall.proofs.Bounded.{settles_within}
use Rattle.platform_hall.proofs.Growing.{kept_on, settled_grows}
use Rattle.platform_hall.proofs.platform.Platform.settle.Goals as goal

pub invariant_of-self : goal.invariant_of-self
invariant_of-self g c =
    let desk = c.self.inside.desk in
    let left = c.settle_desk.new.desk in (
      kept_on desk.core.journal left.core.journal c.self.inside.servlets
          (settled_grows g.K.Kinds.refuses _ desk.core c.settle_desk.result left.core c.settle_desk.ensures.settles) c.self.invariant.0,
      c.settle_desk.ensures.answered c.self.invariant.1,
    )

pub returns-clause-settles : goal.returns-clause-settles
returns-clause-settles g c =
    let turns = ap (λ (l : Limits). l.turns) (c.limits-turns.ensures.limits ∙ ap (λ (p : CoreView). p.limits) c.core.ensures.core) in
    let P : CoreView → Type 0 = λ p. SettlesWithin g.K.Kinds.refuses p c.settle_desk.result c.settle_desk.new.desk.core in
    subst P c.self.view_is (settles_within g.K.Kinds.refuses _ c.self.inside.desk.core c.settle_desk.new.desk.core c.settle_desk.result c.core.ensures.legal turns c.settle_desk.ensures.settles)

pub returns-clause-heard : goal.returns-clause-heard
returns-clause-heard g c =
    let desk = c.self.inside.desk in
    let left = c.settle_desk.new.desk in
    let turns = ap (λ (l : Limits). l.turns) (c.limits-turns.ensures.limits ∙ ap (λ (p : CoreView). p.limits) c.core.ensures.core) in
    let Q : ℕ → Type 0 = λ n. DeskSettles g.K.Kinds.made g.K.Kinds.hears g.K.Kinds.refuses n desk c.settle_desk.result left in
    let P : CoreView → Type 0 = λ p. SettlesHeard g.K.Kinds.made g.K.Kinds.hears g.K.Kinds.refuses p.limits.turns p c.settle_desk.result left.core in
    subst P c.self.view_is (desk, left, refl, refl, subst Q turns c.settle_desk.ensures.heard)
