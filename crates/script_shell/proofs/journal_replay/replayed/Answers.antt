use Rattle.std.proofs.Common.{◌≡◌, ◌∙◌, ◌<◌, ◌+◌, ◌++◌, ◌∷◌, [], List, arith, ap, length, rules, subst, sym, take}
use Rattle.std.proofs.lemmas.List.{take_more}
use Rattle.journal_core.specs.declared.entry.Entry.{Entry}
use Rattle.scr_world.specs.declared.step.Step.{Step}
use Rattle.scr_world.specs.Lists.{world_of}
use Rattle.scr_world.specs.Steps.{history_of}
use Rattle.script_shell.specs.Replays.{IsReplayOf}
use Rattle.script_shell.proofs.Replaying.{replay_more, replay_start}
use Rattle.script_shell.proofs.journal_replay.replayed.Goals as goal

pub loop-entry-init : goal.loop-entry-init
loop-entry-init c = replay_start c.new.result.items c.new-2.result.items (search rules) (search rules)

pub loop-entry-preserved : goal.loop-entry-preserved
loop-entry-preserved c =
    let entries = c.args.entries.now in
    let entry = c.entry-item.result in
    let low : c.loop-entry.entry-index < length entries = omega arith in
    let taken : take (c.loop-entry.entry-index + 1) entries ≡ take c.loop-entry.entry-index entries ++ entry ∷ [] =
    take_more entries c.loop-entry.entry-index entry low ∙ ap (λ (e : Entry Step). take c.loop-entry.entry-index entries ++ e ∷ []) (sym c.entry-item.is) in
    let P : List (Entry Step) → Type 0 = λ es. IsReplayOf (world_of (history_of es)) c.take_entry.new.replay.open.items c.take_entry.new.replay.living.items in
    subst P (sym taken) (replay_more (take c.loop-entry.entry-index entries) entry c.loop-entry.replay.open.items c.take_entry.new.replay.open.items c.loop-entry.replay.living.items c.take_entry.new.replay.living.items
    c.loop-entry.invariant c.in_ok-take_entry.ensures.open c.in_ok-take_entry.ensures.living)
