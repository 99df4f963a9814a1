-- What is counted on a journal that is read again is what the world of it says.
use Rattle.std.proofs.Common.{◌≡◌, ℕ, List, length, ap, ◌∙◌}
use Rattle.std.specs.Prelude.{filter, count_by}
use Rattle.std.proofs.lemmas.List.{length-map}
use Rattle.std.proofs.lemmas.List.Sums.{length-filter}
use Rattle.component_state.specs.declared.open_period.OpenPeriod.{OpenPeriod}
use Rattle.journal_core.specs.declared.entry.Entry.{Entry}
use Rattle.platform_hall.specs.Cores.{CoreView}
use Rattle.platform_hall.specs.Platforms.{world}
use Rattle.scr_world.specs.Calls.{world_at}
use Rattle.scr_world.specs.declared.step.Step.{Step}
use Rattle.scr_world.specs.declared.world.World.{World}
use Rattle.scr_world.specs.Instances.{is_active_instance}
use Rattle.shell_lang.specs.declared.load_counts.LoadCounts.{LoadCounts}
use Rattle.script_shell.specs.declared.journal_replay.Living.{Living}
use Rattle.script_shell.specs.declared.load_answers.Answered.{Answered}
use Rattle.script_shell.specs.Loads.{counts_with}
use Rattle.script_shell.specs.Replays.{IsReplayOf, begins_turn, is_active_living}
use Rattle.script_shell.proofs.Replaying.{active_counted, turns_counted}

abbrev counts_by : Answered → ℕ → ℕ → ℕ → ℕ → LoadCounts
counts_by answered records turns satisfied active =
    record { lines = answered.lines; accepted = answered.accepted; refused = answered.refused; records = records; turns = turns; satisfied = satisfied; active = active }

pub counts_alike : (answered : Answered) (p : CoreView) (journal : List (Entry Step)) (open_ones : List ℕ) (living : List Living) (records turns satisfied active : ℕ)
    → journal ≡ p.journal → IsReplayOf (world_at journal) open_ones living → records ≡ length p.journal → turns ≡ length (filter begins_turn journal) → satisfied ≡ length open_ones → active ≡ length (filter is_active_living living)
    → counts_by answered records turns satisfied active ≡ counts_with answered p
counts_alike answered p journal open_ones living records turns satisfied active same replay r t s a =
    let w : World = world_at journal in
    let there : w ≡ world p = ap world_at same in
    let began : turns ≡ (world p).turns_begun = t ∙ length-filter begins_turn journal ∙ turns_counted journal ∙ ap (λ (w : World). w.turns_begun) there in
    let opened : satisfied ≡ length (world p).open_periods =
    s ∙ ap length replay.open_ones ∙ length-map w.open_periods (λ (o : OpenPeriod). o.configuration) ∙ ap (λ (w : World). length w.open_periods) there in
    let lives : active ≡ length (filter is_active_instance (world p).instances) =
    a ∙ length-filter is_active_living living ∙ ap (count_by is_active_living) replay.living ∙ active_counted w.instances ∙ ap (λ (w : World). length (filter is_active_instance w.instances)) there in
    ap (λ n. counts_by answered n turns satisfied active) r
    ∙ ap (λ n. counts_by answered (length p.journal) n satisfied active) began
    ∙ ap (λ n. counts_by answered (length p.journal) (world p).turns_begun n active) opened
    ∙ ap (λ n. counts_by answered (length p.journal) (world p).turns_begun (length (world p).open_periods) n) lives
