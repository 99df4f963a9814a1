use Rattle.reference_match.proofs.Filters.{not_spelled, spelled, too_deep}
use Rattle.scr_causes.proofs.targets_in_effect.spelled_filter.Goals as goal

pub returns-in-Ok : goal.returns-in-Ok
returns-in-Ok c = spelled c.args.text.now c.in-Ok.filter c.in-Ok.ensures

pub returns-in-Err-BadFilter : goal.returns-in-Err-BadFilter
returns-in-Err-BadFilter c = not_spelled c.args.text.now c.in-Err-BadFilter.field-0 c.in-Err-BadFilter.field-0-0 c.in-Err-BadFilter.field-0-1 c.in-Err-BadFilter.field-0-is c.in-Err-BadFilter.ensures

pub returns-in-Err-TooDeep : goal.returns-in-Err-TooDeep
returns-in-Err-TooDeep c = too_deep c.args.text.now c.in-Err-TooDeep.field-0 c.in-Err-TooDeep.field-0-0 c.in-Err-TooDeep.field-0-is c.in-Err-TooDeep.ensures
