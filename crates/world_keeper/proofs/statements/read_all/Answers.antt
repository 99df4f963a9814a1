use Rattle.std.proofs.Common.{Result, Ok, Err, IfOk, IfErr, ◌≡◌, map, List, [], refl}
use Rattle.sqlite.specs.Held.{state}
use Rattle.sqlite.specs.Steps.{over_memory}
use Rattle.sqlite.proofs.Callers.{memory_is_clean}
use Rattle.world_keeper.specs.Lines.{Line}
use Rattle.world_keeper.specs.Tables.{shown, KeepsLines}
use Rattle.world_keeper.proofs.RowLemmas.{reads, reads_keep, unread, stays_open, select_plain_in, select_text}
use Rattle.world_keeper.proofs.statements.read_all.Goals as goal

pub returns-clause-rows : goal.returns-clause-rows
returns-clause-rows c lines kept =
    shown_by c.query_all.result (c.query_all.ensures.ok (memory_is_clean c.query_all.new.self))
    (λ rows h. reads (state over_memory c.args.conn.now) (state over_memory c.query_all.new.self) lines rows.items kept h)
  where
    shown_by : {X E : Type 0} {Q R : X → Type 0} (r : Result X E) → IfOk r Q → ((x : X) → Q x → R x) → IfOk r R
    shown_by (Ok x) h f = f x h
    shown_by (Err e) h f = tt

pub returns-clause-kept : goal.returns-clause-kept
returns-clause-kept c lines kept =
    let clean = memory_is_clean c.query_all.new.self in
    let old = state over_memory c.args.conn.now in
    let new = state over_memory c.query_all.new.self in
    let live = stays_open old new lines kept clean (refl, refl) c.query_all.ensures.survives in
    kept_by c.query_all.result (c.query_all.ensures.ok clean) (c.query_all.ensures.err clean)
    (λ rows h. reads_keep old new lines rows.items kept h)
    (λ e h. unread select_text [] old new lines e (select_plain_in old lines kept) kept live h)
  where
    kept_by : {X E : Type 0} {Q : X → Type 0} {R : E → Type 0} {G : Type 0} (r : Result X E) → IfOk r Q → IfErr r R → ((x : X) → Q x → G) → ((e : E) → R e → G) → G
    kept_by (Ok x) h k f g = f x h
    kept_by (Err e) h k f g = g e k
