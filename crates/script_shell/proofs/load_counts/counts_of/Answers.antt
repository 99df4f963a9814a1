use Rattle.std.proofs.Common.{◌≡◌, ◌∙◌, ap, length}
use Rattle.std.specs.Prelude.{filter}
use Rattle.script_shell.specs.Replays.{begins_turn, is_active_living}
use Rattle.script_shell.proofs.Counting.{counts_alike}
use Rattle.script_shell.proofs.load_counts.counts_of.Goals as goal

pub returns : goal.returns
returns g c =
    let p = c.args.platform.now in
    let journal = c.entries.result.now in
    let entries : c.journal-journal.result.now.entries ≡ p.journal = c.journal-journal.ensures.entries ∙ ap (λ (q : _). q.journal) c.core.ensures.core in
    let same : journal ≡ p.journal = c.entries.ensures ∙ entries in
    let again : c.entries-2.result.now ≡ journal = cc (c.entries.ensures, c.entries-2.ensures) in
    counts_alike c.args.answered p journal c.in_ok-replay.replay.open.items c.in_ok-replay.replay.living.items c.length.result c.turns_in.result (length c.as_slice.result.now) c.active_among.result
    same c.in_ok-replay.ensures (c.length.ensures ∙ ap length entries) (c.turns_in.ensures ∙ ap (λ es. length (filter begins_turn es)) again) (ap length c.as_slice.ensures.value)
    (c.active_among.ensures ∙ ap (λ l. length (filter is_active_living l)) c.as_slice-2.ensures.value)
