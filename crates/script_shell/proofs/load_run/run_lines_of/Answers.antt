use Rattle.std.proofs.Common.{◌≡◌, ◌∙◌, ◌∷◌, List, ℕ, Err, None, Ok, ap, arith, length, refl, subst}
use Rattle.shell_lang.specs.Loads.{GivesFirst}
use Rattle.script_shell.specs.Loads.{lines_of_load, load_setting}
use Rattle.script_shell.specs.LoadLines.{RunsLoadLine}
use Rattle.script_shell.proofs.Loading.{answer_within, loaded_all, loaded_cut, loaded_line, loaded_short, loaded_start}
use Rattle.script_shell.proofs.NothingDue.{nothing_due_behind}
use Rattle.script_shell.proofs.load_run.run_lines_of.Goals as goal

pub loop-line-init : goal.loop-line-init
loop-line-init g c = record {
  loaded = rw c.new-lines.ensures.lines (loaded_start (load_setting g.K.Kinds.refuses g.K.Kinds.next) (lines_of_load c.args.load) c.args.platform.now);
  rested = λ is. absurd cc;
  total = omega (arith, c.new-lines.ensures.count);
  accepted = omega arith;
  refused = omega arith;
}

pub returns-in-Ok-None : goal.returns-in-Ok-None
returns-in-Ok-None g c =
    let given : GivesFirst c.loop-line.lines c.next_line.new.self None = rw c.in-Ok-None.field-0-is at c.in-Ok-None.ensures.line in
    loaded_all c.loop-line.invariant.loaded given.0

pub returns-in-Err : goal.returns-in-Err
returns-in-Err g c = loaded_short c.loop-line.invariant.loaded

pub returns-in-Err-run_load_line : goal.returns-in-Err-run_load_line
returns-in-Err-run_load_line g c =
    let line : c.as_bytes.result.now ≡ c.in-Ok-Some.line = c.as_bytes.ensures.value ∙ c.as_str.ensures in
    let next : c.loop-line.lines ≡ c.in-Ok-Some.line ∷ c.next_line.new.self = rw c.in-Ok-Some.field-0-is at c.in-Ok-Some.ensures.line in
    let P : List ℕ → Type 0 = λ bytes. RunsLoadLine (load_setting g.K.Kinds.refuses g.K.Kinds.next) bytes c.loop-line.platform (Err c.in-Err-run_load_line.status) c.run_load_line.new.platform in
    loaded_cut c.loop-line.invariant.loaded c.in-Ok-Some.line c.next_line.new.self c.run_load_line.new.platform c.in-Err-run_load_line.status next (subst P line c.in-Err-run_load_line.ensures)

pub loop-line-preserved : goal.loop-line-preserved
loop-line-preserved g c =
    let line : c.as_bytes.result.now ≡ c.in-Ok-Some.line = c.as_bytes.ensures.value ∙ c.as_str.ensures in
    let P : List ℕ → Type 0 = λ bytes. RunsLoadLine (load_setting g.K.Kinds.refuses g.K.Kinds.next) bytes c.loop-line.platform (Ok c.in-Ok.refused) c.run_load_line.new.platform in
    let runs = subst P line c.in-Ok.ensures in
    let next : c.loop-line.lines ≡ c.in-Ok-Some.line ∷ c.next_line.new.self = rw c.in-Ok-Some.field-0-is at c.in-Ok-Some.ensures.line in
    let within = answer_within c.loop-line.answered c.in-Ok.refused c.with_answer-answered.result c.with_answer-answered.ensures c.loop-line.invariant.accepted c.loop-line.invariant.refused in
    record {
      loaded = loaded_line c.loop-line.invariant.loaded c.in-Ok-Some.line c.next_line.new.self c.run_load_line.new.platform c.in-Ok.refused c.with_answer-answered.result next runs c.with_answer-answered.ensures;
      rested = λ is. nothing_due_behind (load_setting g.K.Kinds.refuses g.K.Kinds.next) runs.1.0 c.run_load_line.new.platform runs.1.2 refl;
      total = omega (arith, within.0, c.loop-line.invariant.total, ap length next);
      accepted = within.1;
      refused = within.2;
    }
