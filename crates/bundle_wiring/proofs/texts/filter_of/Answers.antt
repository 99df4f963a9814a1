use Rattle.std.proofs.Common.{◌≡◌, ap, subst, Ok, Err}
use Rattle.bundle_wiring.specs.Faults.{fault_at}
use Rattle.bundle_wiring.specs.declared.fault.WireFault.TheVariants.{BadFilter}
use Rattle.ldap_filter.specs.Parsing.{Parses}
use Rattle.ldap_filter.specs.Texts.{reading}
use Rattle.ldap_filter.specs.declared.filter_fault.FilterFault.TheVariants.{BadFilter as NoFilter, TooDeep}
use Rattle.ldap_filter.proofs.Texts.{told}
use Rattle.bundle_wiring.proofs.texts.filter_of.Goals as goal

pub returns-in-Ok : goal.returns-in-Ok
returns-in-Ok c =
    let read : reading c.args.text.now ≡ Ok c.in-Ok.filter = told c.args.text.now (Ok c.in-Ok.filter) c.in-Ok.ensures in
    ap (fault_at BadFilter) read

pub returns-in-Err-BadFilter : goal.returns-in-Err-BadFilter
returns-in-Err-BadFilter c = λ _.
    let read : reading c.args.text.now ≡ Err c.in-Err-BadFilter.at =
    told c.args.text.now (Err (NoFilter c.in-Err-BadFilter.at c.in-Err-BadFilter.field-0-1)) (subst (λ fault. Parses c.args.text.now (Err fault)) c.in-Err-BadFilter.field-0-is c.in-Err-BadFilter.ensures) in
    ap (fault_at BadFilter) read

pub returns-in-Err-TooDeep : goal.returns-in-Err-TooDeep
returns-in-Err-TooDeep c = λ _.
    let read : reading c.args.text.now ≡ Err c.in-Err-TooDeep.at =
    told c.args.text.now (Err (TooDeep c.in-Err-TooDeep.at)) (subst (λ fault. Parses c.args.text.now (Err fault)) c.in-Err-TooDeep.field-0-is c.in-Err-TooDeep.ensures) in
    ap (fault_at BadFilter) read
