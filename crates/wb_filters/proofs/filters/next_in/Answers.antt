use Rattle.std.proofs.Common.{ap, filter, ◌∙◌}
use Rattle.wb_filters.specs.Chains.{is_on_way, next_in, services}
use Rattle.wb_filters.proofs.filters.next_in.Goals as goal

pub returns : goal.returns
returns c = c.next_of.ensures ∙ ap (λ rest. next_in (services (filter (is_on_way c.args.context.now rest) c.args.filters.now)) c.args.after) c.rest_of-rest.ensures
