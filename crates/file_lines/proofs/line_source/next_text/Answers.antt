use Rattle.std.proofs.Common.{ap, ◌∙◌, take}
use Rattle.file_lines.specs.Ahead.{to_come}
use Rattle.file_lines.proofs.SourceLemmas.{front_is_ready, last_is_ready, last_names_none, line_is_ready, line_names_none}
use Rattle.file_lines.proofs.line_source.next_text.Goals as goal

pub returns-in_err-text-in-LineFeed-clause-unread : goal.returns-in_err-text-in-LineFeed-clause-unread
returns-in_err-text-in-LineFeed-clause-unread g c = λ needs.
    c.in_err-text-in-LineFeed.ensures.unread
    (line_names_none c.args.is_within.now (to_come c.args.ahead.now.is_ended c.args.ahead.now.bytes (g.In.Source.left c.args.ahead.now.source)) c.line_end.new.self.is_ended c.line_end.new.self.bytes (g.In.Source.left c.line_end.new.self.source) c.in-LineFeed.at c.split_at.result.0.now c.in-LineFeed.ensures.coming c.in-LineFeed.ensures.end
    (c.split_at.ensures.front ∙ ap (take c.in-LineFeed.at) c.as_slice.ensures) needs)

pub returns-in_ok-text-in-LineFeed-clause-unread : goal.returns-in_ok-text-in-LineFeed-clause-unread
returns-in_ok-text-in-LineFeed-clause-unread g c = λ needs.
    c.in_ok-text-in-LineFeed.ensures.unread
    (line_names_none c.args.is_within.now (to_come c.args.ahead.now.is_ended c.args.ahead.now.bytes (g.In.Source.left c.args.ahead.now.source)) c.line_end.new.self.is_ended c.line_end.new.self.bytes (g.In.Source.left c.line_end.new.self.source) c.in-LineFeed.at c.split_at.result.0.now c.in-LineFeed.ensures.coming c.in-LineFeed.ensures.end
    (c.split_at.ensures.front ∙ ap (take c.in-LineFeed.at) c.as_slice.ensures) needs)

pub returns-in_ok-text-in-LineFeed-clause-some : goal.returns-in_ok-text-in-LineFeed-clause-some
returns-in_ok-text-in-LineFeed-clause-some g c =
    rw (c.in_ok-text-in-LineFeed.ensures.told, c.take_front.ensures)
    (line_is_ready (g.F.LineFiles.told c.args.files.now) c.args.is_within.now (to_come c.args.ahead.now.is_ended c.args.ahead.now.bytes (g.In.Source.left c.args.ahead.now.source)) c.line_end.new.self.is_ended c.line_end.new.self.bytes (g.In.Source.left c.line_end.new.self.source) c.in-LineFeed.at c.split_at.result.0.now c.in_ok-text-in-LineFeed.text.items
    c.in-LineFeed.ensures.coming c.in-LineFeed.ensures.end (c.split_at.ensures.front ∙ ap (take c.in-LineFeed.at) c.as_slice.ensures) c.in_ok-text-in-LineFeed.ensures.text)

pub returns-in_ok-text-in-Later-clause-some : goal.returns-in_ok-text-in-Later-clause-some
returns-in_ok-text-in-Later-clause-some g c =
    rw c.take_all.ensures
    (front_is_ready (g.F.LineFiles.told c.args.files.now) c.args.is_within.now (to_come c.args.ahead.now.is_ended c.args.ahead.now.bytes (g.In.Source.left c.args.ahead.now.source)) c.line_end.new.self.is_ended c.line_end.new.self.bytes (g.In.Source.left c.line_end.new.self.source) c.most_held.result c.in_ok-text-in-Later.text.items
    c.in-Later.ensures.coming c.in-Later.ensures.end c.most_held.ensures (c.in_ok-text-in-Later.ensures ∙ c.as_slice-in-Later.ensures))

pub returns-in_err-text-in-Last-clause-unread : goal.returns-in_err-text-in-Last-clause-unread
returns-in_err-text-in-Last-clause-unread g c = λ needs.
    c.in_err-text-in-Last.ensures.unread
    (last_names_none c.args.is_within.now (to_come c.args.ahead.now.is_ended c.args.ahead.now.bytes (g.In.Source.left c.args.ahead.now.source)) c.line_end.new.self.is_ended c.line_end.new.self.bytes (g.In.Source.left c.line_end.new.self.source) c.as_slice-in-Last.result.now c.in-Last.ensures.coming c.in-Last.ensures.end
    c.as_slice-in-Last.ensures needs)

pub returns-in_ok-text-in-Last-clause-unread : goal.returns-in_ok-text-in-Last-clause-unread
returns-in_ok-text-in-Last-clause-unread g c = λ needs.
    c.in_ok-text-in-Last.ensures.unread
    (last_names_none c.args.is_within.now (to_come c.args.ahead.now.is_ended c.args.ahead.now.bytes (g.In.Source.left c.args.ahead.now.source)) c.line_end.new.self.is_ended c.line_end.new.self.bytes (g.In.Source.left c.line_end.new.self.source) c.as_slice-in-Last.result.now c.in-Last.ensures.coming c.in-Last.ensures.end
    c.as_slice-in-Last.ensures needs)

pub returns-in_ok-text-in-Last-clause-some : goal.returns-in_ok-text-in-Last-clause-some
returns-in_ok-text-in-Last-clause-some g c =
    rw (c.in_ok-text-in-Last.ensures.told, c.take_all-in-Last.ensures)
    (last_is_ready (g.F.LineFiles.told c.args.files.now) c.args.is_within.now (to_come c.args.ahead.now.is_ended c.args.ahead.now.bytes (g.In.Source.left c.args.ahead.now.source)) c.line_end.new.self.is_ended c.line_end.new.self.bytes (g.In.Source.left c.line_end.new.self.source) c.as_slice-in-Last.result.now c.in_ok-text-in-Last.text.items
    c.in-Last.ensures.coming c.in-Last.ensures.end c.as_slice-in-Last.ensures c.in_ok-text-in-Last.ensures.text)
