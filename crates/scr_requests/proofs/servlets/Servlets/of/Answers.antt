use Rattle.std.proofs.Common.{◌∙◌, ap, length}
use Rattle.std.specs.Prelude.{codes}
use Rattle.scr_readers.specs.Reaching.{held_rows}
use Rattle.scr_world.specs.Calls.{world_at}
use Rattle.wb_routes.specs.Listing.{routing_of}
use Rattle.scr_requests.proofs.servlets.Servlets.of.Goals as goal

pub returns : goal.returns
returns c =
    let w = world_at c.args.core.now.journal in
    record {
      made_at = c.length.ensures ∙ ap length c.journal.ensures.entries;
      routes = c.in_ok-routes.ensures ∙ ap (routing_of (held_rows w (codes "contexts") w.whiteboard)) (c.as_slice.ensures ∙ c.in_ok-rows.ensures);
      rows = c.in_ok-rows.ensures;
    }
