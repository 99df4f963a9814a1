-- What calls and requests on these journals speak of.
use Rattle.std.specs.Prelude.{ℕ, ◌≤◌, zero, suc, List, [], Some, false, replicate}
use Rattle.std.specs.Option.{option_map_or}
use Rattle.std.proofs.Math.Nat.{le_refl}
use Rattle.call_moves.specs.declared.nested_call.NestedCall.{NestedCall}
use Rattle.call_moves.specs.Evaluations.{fronts_of}
use Rattle.kind_trait.specs.declared.nested_reply.NestedReply.{NestedReply}
use Rattle.http_wire.specs.declared.messages.Request.{Request}
use Rattle.http_wire.specs.declared.messages.Answered.{Answered}
use Rattle.scr_world.specs.declared.marks.Token.{Token}
use Rattle.scr_world.specs.declared.world.World.{World}
use Rattle.scr_readers.specs.Reaching.{instance_at, live_of}
use Rattle.scr_readers.specs.declared.live.Live.{Live}
use Rattle.scr_calls.specs.Evaluates.{Rising}

-- a get by token, by the place of its entry
abbrev pub got_at : ℕ → ℕ → ℕ → Token
got_at place bundle service = record { place = place; bundle = bundle; service = service }

abbrev no_live : Live
no_live = record {
  key = record { slot = 0; generation = 0 };
  instance = 0;
  site = record { class = []; properties = [] };
}

-- the instance of a number as a call sees it
abbrev pub live_in : World → ℕ → Live
live_in w number = option_map_or (live_of w) (instance_at w number) no_live

-- a nested call at a front, of a service, with its reply
abbrev pub inner : ℕ → ℕ → List ℕ → NestedReply → NestedCall
inner front service request reply = record { front = front; service = service; request = request; reply = Some reply }

-- a request whose target is a path
abbrev pub request : List ℕ → List ℕ → List ℕ → Request
request method path body = record {
  method = method;
  target = path;
  path = path;
  body = body;
  head_only = false;
  last = false;
}

abbrev pub answer : ℕ → ℕ → List ℕ → Answered
answer status service body = record { status = status; service = service; body = body; last = false; head_only = false }

-- fronts that stay the same never fall
pub same_front : (n : ℕ) (call : NestedCall) (to : ℕ) → call.front ≤ to
    → Rising call.front (fronts_of (replicate n call)) to
same_front zero call to low = low
same_front (suc n) call to low = (le_refl call.front, same_front n call to low)
