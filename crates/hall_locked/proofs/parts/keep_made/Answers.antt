use Rattle.std.proofs.Common.{refl, sym, subst}
use Rattle.std.specs.Arc.{arc_value}
use Rattle.hall_locked.specs.Parts.{ArePartsWith}
use Rattle.hall_locked.proofs.parts.keep_made.Goals as goal

pub returns-in-Some : goal.returns-in-Some
returns-in-Some g c =
    subst (λ m. ArePartsWith arc_value c.args.work m c.args.parts.now.items c.push_reserved.new.self.items) (sym c.in-Some.is)
    (record { instance = c.args.work.instance; object = c.in-Some.object; site = c.args.work.site }, record { instance = refl; site = refl; object = refl }, c.push_reserved.ensures.items)
