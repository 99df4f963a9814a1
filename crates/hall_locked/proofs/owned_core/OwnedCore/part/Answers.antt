use Rattle.std.proofs.Common.{List, ap, ◌∙◌}
use Rattle.std.specs.List.{find}
use Rattle.std.specs.Prelude.{◌==◌}
use Rattle.hall_locked.specs.declared.part.Part.{Part}
use Rattle.hall_locked.specs.OwnedCores.{OwnedView}
use Rattle.hall_locked.proofs.owned_core.OwnedCore.part.Goals as goal

pub returns : goal.returns
returns g c =
    c.part_of.ensures
    ∙ ap (λ (ps : List (Part g.row.O.Denot)). find (λ (p : Part g.row.O.Denot). p.instance == c.args.instance) ps) c.as_slice.ensures.value
    ∙ ap (λ (l : OwnedView g.row.O.Denot). find (λ (p : Part g.row.O.Denot). p.instance == c.args.instance) l.parts) c.self.view_is
