use Rattle.std.proofs.Common.{◌∙◌, ◌≡◌, ◌+◌, ◌&&◌, ◌||◌, ap, not, subst, List, ℕ}
use Rattle.std.specs.Str.{bytes_eq}
use Rattle.prop_map.specs.Words.{one_if}
use Rattle.text_index.specs.Texts.{has_text}
use Rattle.scr_causes.specs.ServiceTables.{count_under}
use Rattle.scr_causes.proofs.EntryLemmas.{more_counted, more_seen}
use Rattle.scr_causes.proofs.service_table.push_those.Goals as goal

pub loop-interface-preserved : goal.loop-interface-preserved
loop-interface-preserved c =
    let names = c.args.interfaces.now in
    let i = c.loop-interface.interface-index in
    let x = c.interface-item.result in
    record {
      seen = λ other. more_seen names i x other (has_text c.loop-interface.found other) (has_text c.push_once.new.found other) c.loop-interface-test.true c.interface-item.is (c.loop-interface.invariant.seen other)
          (subst (λ (t : List ℕ). has_text c.push_once.new.found other ≡ (bytes_eq t other || has_text c.loop-interface.found other)) c.as_str.ensures (c.in_ok-push_once.ensures.found other));
      counted = λ name test. more_counted names i x name (test c.args.row.now) (count_under name test c.args.entries.now.items) (count_under name test c.loop-interface.entries.items) (count_under name test c.push_once.new.entries.items) c.loop-interface-test.true c.interface-item.is (c.loop-interface.invariant.counted name test)
          (subst (λ (t : List ℕ). count_under name test c.push_once.new.entries.items ≡ count_under name test c.loop-interface.entries.items + one_if (not (has_text c.loop-interface.found t) && (bytes_eq t name && test c.args.row.now))) c.as_str.ensures (c.in_ok-push_once.ensures.counted name test)
          ∙ ap (λ b. count_under name test c.loop-interface.entries.items + one_if (not b && (bytes_eq x name && test c.args.row.now))) (c.loop-interface.invariant.seen x));
    }
