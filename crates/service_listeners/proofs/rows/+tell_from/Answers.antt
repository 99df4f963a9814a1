-- The first listener was told and then not, as those behind it found no memory.
use Rattle.std.proofs.Common.{arith, ap, sym, ◌∙◌, ◌<◌, [], ◌∷◌, length}
use Rattle.std.specs.Option.{option_copied}
use Rattle.service_listeners.specs.Listening.{with_changes}
use Rattle.service_listeners.proofs.ToldRows.{put_back}
use Rattle.service_listeners.proofs.rows.+tell_from.Goals as goal

pub returns-in-Err-clause-err : goal.returns-in-Err-clause-err
returns-in-Err-clause-err t c =
    let within : c.args.at < length c.args.rows.now = omega (arith, c.if-at-rows.false, c.requires) in
    put_back c.args.rows.now c.tell_from.new.rows c.args.at c.index-rows-at.result c.tell_one.new.listener c.index-rows-at-in-Err.result c.untell_one.new.listener within
    c.index-rows-at.is c.in-Err.ensures.err c.index-rows-at-in-Err.is (λ e. c.untell_one.ensures.was c.index-rows-at.result (sym c.index-rows-at-in-Err.is ∙ e ∙ c.in_ok-tell_one.ensures.ok ∙ ap (with_changes ((option_copied c.args.before, option_copied c.args.after) ∷ [])) (sym c.index-rows-at.is)))
