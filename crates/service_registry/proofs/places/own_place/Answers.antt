use Rattle.service_registry.proofs.Found.{not_found, not_owned, owned}
use Rattle.service_registry.proofs.places.own_place.Goals as goal

pub returns-then-owner-bundle-clause-refused : goal.returns-then-owner-bundle-clause-refused
returns-then-owner-bundle-clause-refused c =
    owned c.args.bundle c.args.service c.in-Some.place c.args.rows.now c.index-rows-place.result c.in-Some.ensures.only c.in-Some.ensures.within c.if-owner-bundle.true

pub returns-else-owner-bundle-clause-refused : goal.returns-else-owner-bundle-clause-refused
returns-else-owner-bundle-clause-refused c =
    not_owned c.args.bundle c.args.service c.in-Some.place c.args.rows.now c.index-rows-place.result c.in-Some.ensures.only c.in-Some.ensures.within c.if-owner-bundle.false

pub returns-in-None-clause-refused : goal.returns-in-None-clause-refused
returns-in-None-clause-refused c = not_found c.args.bundle c.args.service c.args.rows.now c.in-None.ensures.only
