use Rattle.scr_consequences.proofs.StopLemmas.{active_same, stopped_are, stopped_rise}
use Rattle.scr_consequences.proofs.completed_stops.note_stops.Goals as goal

pub returns : goal.returns
returns c = record {
  stopping = stopped_are;
  rising = stopped_rise;
  active = active_same;
}
