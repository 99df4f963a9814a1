use Rattle.std.proofs.Common.{◌≡◌, ◌++◌, subst}
use Rattle.std.specs.Prelude.{OnOk}
use Rattle.reference_match.specs.declared.need.Need.{Need}
use Rattle.reference_match.specs.Needs.{condition_name}
use Rattle.scr_causes.specs.DirectCauses.{causes_by}
use Rattle.scr_causes.proofs.reference_causes.add_condition.Goals as goal

pub returns : goal.returns
returns c =
    subst (λ (n : Need). OnOk c.add_by.result (c.add_by.new.causes.items ≡ c.args.causes.now.items ++ causes_by c.args.tables.now.registered c.args.tables.now.possible c.args.properties.now condition_name n)) c.in_ok-need.ensures c.add_by.ensures
