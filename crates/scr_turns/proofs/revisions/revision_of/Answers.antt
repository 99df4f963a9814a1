use Rattle.std.proofs.Common.{◌∙◌, ap, sym, List}
use Rattle.std.specs.Option.{option_copied, option_map_or, option_or}
use Rattle.component_state.specs.Rows.{rows_of}
use Rattle.component_state.specs.declared.open_period.OpenPeriod.{OpenPeriod}
use Rattle.service_registry.specs.Registries.{row_of}
use Rattle.service_registry.specs.declared.row.ServiceRow.{ServiceRow}
use Rattle.scr_turns.proofs.KnownRows.{known_revision, own_revision}
use Rattle.scr_turns.proofs.revisions.revision_of.Goals as goal

pub returns-then-service-eq0 : goal.returns-then-service-eq0
returns-then-service-eq0 c = sym (own_revision c.args.world.now c.args.service c.if-service-eq0.true)

pub returns : goal.returns
returns c =
    c.revision_in.ensures
    ∙ ap (λ o. option_map_or (λ (r : ServiceRow). r.revision) (option_or (option_or o (option_copied c.row_among.result)) (option_copied c.row_in.result)) 0) c.row.ensures
    ∙ ap (λ o. option_map_or (λ (r : ServiceRow). r.revision) (option_or (option_or (row_of c.args.world.now.registry.rows c.args.service) o) (option_copied c.row_in.result)) 0) (c.row_among.ensures ∙ ap (λ (ps : List OpenPeriod). row_of (rows_of ps) c.args.service) c.as_slice.ensures)
    ∙ ap (λ o. option_map_or (λ (r : ServiceRow). r.revision) (option_or (option_or (row_of c.args.world.now.registry.rows c.args.service) (row_of (rows_of c.args.world.now.open_periods) c.args.service)) o) 0) (c.row_in.ensures ∙ ap (λ (rows : List ServiceRow). row_of rows c.args.service) c.as_slice-2.ensures)
    ∙ known_revision c.args.world.now c.args.service c.if-service-eq0.false
