use Rattle.std.proofs.Common.{◌≡◌, ℕ, List, sym, ◌∙◌}
use Rattle.scr_readers.specs.declared.live.Inward.{Inward}
use Rattle.scr_readers.specs.Inside.{first_one}
use Rattle.scr_readers.specs.Reaching.{inward_to}
use Rattle.scr_readers.proofs.FirstReached.{inward_of, none_held, ok_then, some_held}
use Rattle.scr_readers.proofs.calls.inward_by_best.Goals as goal

pub returns-in-Some : goal.returns-in-Some
returns-in-Some c =
    let w = c.args.world.now in
    let b = c.args.bundle in
    let s = c.in-Some.service in
    ok_then c.inward_to.result (λ (r : Inward). r ≡ inward_of w b s) (λ (r : Inward). (held : List ℕ) → c.args.best ≡ first_one held → r ≡ inward_to w b held)
    (λ r is held e. is ∙ some_held w b s held (sym c.in-Some.is ∙ e)) c.inward_to.ensures

pub returns-in-None : goal.returns-in-None
returns-in-None c = λ held e. none_held c.args.world.now c.args.bundle held (sym c.in-None.is ∙ e)
