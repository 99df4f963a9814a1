use Rattle.std.proofs.Common.{◌∙◌, sym}
use Rattle.scr_world.specs.Calls.{world_at}
use Rattle.scr_world.specs.Steps.{history_of}
use Rattle.scr_requests.proofs.Reaches.{at_active, at_objectless}
use Rattle.scr_requests.proofs.Rows.{objectless}
use Rattle.scr_requests.proofs.reaching.reach_servlet.Goals as goal

pub returns-then-has_no_object : goal.returns-then-has_no_object
returns-then-has_no_object c =
    let w = world_at c.args.core.now.journal in
    at_objectless w c.args.service (objectless w c.args.rows.now c.args.service c.has_no_object.result c.requires.held c.requires.rows c.has_no_object.ensures ∙ c.if-has_no_object.true)

pub returns : goal.returns
returns c =
    let w = world_at c.args.core.now.journal in
    let other = objectless w c.args.rows.now c.args.service c.has_no_object.result c.requires.held c.requires.rows c.has_no_object.ensures ∙ c.if-has_no_object.false in
    at_active c.args.core.now.limits.journal (history_of c.args.core.now.journal) c.note_legal.ensures c.args.service c.requires.held other c.in_ok-live.live c.in_ok-live.ensures c.reach_active.result c.reach_active.ensures
