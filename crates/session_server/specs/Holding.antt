-- The sessions that a thread of a server holds of the connections of one door, one after the other, in the one history. Our own.
use Rattle.std.specs.Prelude.{◌≡◌, ◌<◌, ℕ, List, [], ◌∷◌, length, Option}
use Rattle.platform_sessions.specs.Halls.{View}
use Rattle.session_doors.specs.Doors.{AddsAll, TakesAll}
use Rattle.session_doors.specs.declared.finished.Finished.{Finished}
use Rattle.session_server.specs.declared.door_loop.DoorEnd.{DoorEnd}
use Rattle.session_server.specs.declared.door_loop.DoorEnd.TheVariants.{Served, AcceptFault}
use Rattle.session_shell.specs.Items.{Setting}
use Rattle.session_shell.specs.Sessions.{FaultsAt, HasServedOver, read_faults_after, write_faults_after}

-- what is told of the two ends of a connection: the bytes that are left and those that were written, and how often each end failed
pub record Ends (I O : Type 0) : Type 0 where
  pub left : I → Option (List ℕ)
  pub read_faults : I → ℕ
  pub written : O → Option (List ℕ)
  pub write_faults : O → ℕ

module _ {I O : Type 0} where
  -- A session of a connection, which has ended: it began without notes, and is all that a session promises of its lines, its notes, its ends and its pass
  pub record Holds (s : Setting) (ends : Ends I O) (connection : I × O) (before after : View) (session : Finished I O) : Type 0 where
    pub served : HasServedOver s (ends.left connection.0) before after [] session.notes.items (ends.written connection.1) (ends.written session.output) session.end
    pub fault : FaultsAt session.end s (ends.left connection.0) (ends.left session.input) before after [] session.notes.items (ends.written connection.1) (ends.written session.output)
    pub read_faults : ends.read_faults session.input ≡ read_faults_after (ends.read_faults connection.0) session.end
    pub write_faults : ends.write_faults session.output ≡ write_faults_after (ends.write_faults connection.1) session.end

  -- a session of each of these connections, one after the other, each over what the pass has seen then
  abbrev pub Held : Setting → Ends I O → List (I × O) → View → View → List (Finished I O) → Type 0
  Held s ends [] before after sessions = (after ≡ before) × (sessions ≡ [])
  Held s ends (connection ∷ connections) before after sessions =
      (between : View) × (session : Finished I O) × (others : List (Finished I O))
      × Holds s ends connection before between session × Held s ends connections between after others × (sessions ≡ session ∷ others)

  -- So many connections of a door came, the first of those that were to come, a session was held of each in its turn, and just these sessions were
  -- handed back, in order and each once.
  pub record HoldsSoMany (s : Setting) (ends : Ends I O) (before after : View) (coming coming' : Option (List (I × O))) (sessions sessions' : Option (List (Finished I O))) (count : ℕ) : Type 0 where
    pub came : List (I × O)
    pub held : List (Finished I O)
    pub first : TakesAll coming coming' came
    pub each : Held s ends came before after held
    pub told : AddsAll sessions sessions' held
    pub many : length came ≡ count

  -- what serving so many connections of a door does: fewer came where accepting failed
  abbrev pub ServesDoor : Setting → Ends I O → View → View → Option (List (I × O)) → Option (List (I × O)) → Option (List (Finished I O)) → Option (List (Finished I O)) → ℕ → DoorEnd → Type 0
  ServesDoor s ends before after coming coming' sessions sessions' connections Served = HoldsSoMany s ends before after coming coming' sessions sessions' connections
  ServesDoor s ends before after coming coming' sessions sessions' connections AcceptFault =
      (count : ℕ) × (count < connections) × HoldsSoMany s ends before after coming coming' sessions sessions' count
