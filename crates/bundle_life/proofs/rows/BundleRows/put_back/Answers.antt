use Rattle.std.proofs.Common.{ap, subst, sym, List}
use Rattle.bundle_life.specs.declared.bundle.BundleLife.{BundleLife}
use Rattle.bundle_life.specs.Numbers.{IsGiven, NumberedRows}
use Rattle.bundle_life.proofs.rows.BundleRows.put_back.Goals as goal

pub invariant_of-self : goal.invariant_of-self
invariant_of-self c = c.put_into.ensures.numbered c.self.inside.numbered (subst (λ (r : NumberedRows). IsGiven r.numbered c.args.row) (sym c.self.view_is) c.requires.given) c.self.invariant

pub returns-clause-rows : goal.returns-clause-rows
returns-clause-rows c = rw (← c.self.view_is) (ap (λ (rows : List BundleLife). let r : NumberedRows = record { rows = rows; numbered = c.self.inside.numbered } in r) c.put_into.ensures.now)
