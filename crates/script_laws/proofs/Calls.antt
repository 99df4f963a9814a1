-- A call by a get is answered one thing and leaves one platform, but where memory is wanting.
use Rattle.std.proofs.Common.{◌≡◌, ◌⊎◌, ℕ, List, [], length, Bool, true, false, ap, sym, ◌∙◌, refl, subst, Some, None, Ok, Err, inl, inr}
use Rattle.std.specs.Prelude.{Result}
use Rattle.std.proofs.lemmas.Bool.{both_ways}
use Rattle.call_moves.specs.Evaluations.{Declined, Ended, Meaning, Said, TooLong, fronts_of}
use Rattle.call_moves.specs.declared.nested_call.NestedCall.{NestedCall}
use Rattle.journal_core.specs.declared.entry.Entry.{Entry}
use Rattle.kind_trait.specs.Meanings.{Told}
use Rattle.platform_hall.proofs.Desks.{same_view}
use Rattle.platform_hall.proofs.Settlings.{HasLegal}
use Rattle.platform_hall.proofs.Steps.{grown_legal, grown_may, grown_room}
use Rattle.platform_hall.specs.Calls.{AnswersNow, CallsByGet, CallsOnOne, GetsUse, Releases, SettlesBehind, StopsSettling, text_of}
use Rattle.platform_hall.specs.Cores.{CoreView}
use Rattle.platform_hall.specs.Platforms.{Posts, SettlesAs, has_drain, world}
use Rattle.prop_map.specs.declared.properties.Property.{Property}
use Rattle.scr_calls.specs.Calls.{AnswersUse}
use Rattle.scr_calls.specs.Evaluates.{Evaluates, Rising, world_up_to}
use Rattle.scr_calls.specs.declared.call.Called.{Called}
use Rattle.scr_calls.specs.declared.call_fault.CallFault.{CallFault}
use Rattle.scr_calls.specs.declared.call_fault.CallFault.TheVariants.{CallTooLong, Core, Gone, NoObject, OutOfMemory, Pending, Refused, Settle}
use Rattle.scr_readers.specs.Reaching.{outer}
use Rattle.scr_readers.specs.declared.live.Outer.{Outer}
use Rattle.scr_readers.specs.declared.live.Outer.TheVariants.{Gone as ToGone, Live as ToLive, NoObject as ToDirect, Pending as ToPending}
use Rattle.scr_world.specs.Calls.{EndsUse, has_token, world_at}
use Rattle.scr_world.specs.Legal.{IsLegal}
use Rattle.scr_world.specs.Refusals.{refusal}
use Rattle.scr_world.specs.Room.{has_room}
use Rattle.scr_world.specs.Steps.{history_of}
use Rattle.scr_world.specs.declared.command.Command.TheVariants.{Get}
use Rattle.scr_world.specs.declared.command.Limits.{Limits}
use Rattle.scr_world.specs.declared.marks.Token.{Token}
use Rattle.scr_world.specs.declared.reply.CoreFault.{CoreFault}
use Rattle.scr_world.specs.declared.reply.CoreFault.TheVariants.{JournalFull, OutOfMemory as CoreNoMemory}
use Rattle.scr_world.specs.declared.step.Step.{Step}
use Rattle.scr_world.specs.declared.step.Step.TheVariants.{Got, Released}
use Rattle.scr_world.specs.declared.world.World.{World}
use Rattle.turn_runner.specs.declared.settle_fault.SettleFault.{SettleFault}
use Rattle.turn_runner.specs.declared.settle_fault.SettleFault.TheVariants.{OutOfMemory as SettleNoMemory}
use Rattle.script_laws.proofs.Drains.{posts_once}
use Rattle.script_laws.proofs.Entries.{grown_once}
use Rattle.script_laws.proofs.Evaluations.{evaluates_once, first_front, later_fronts}
use Rattle.script_laws.proofs.Parts.{err_or_ok, err_same, never_some, ok_or_err, ok_same, some_same}
use Rattle.script_laws.proofs.Settlings.{settled_legal, settled_once}

-- ---- the get

-- what a get by token answers and does, but for want of memory
abbrev IsGot : CoreView → ℕ → ℕ → Result Token CoreFault → CoreView → Type 0
IsGot before bundle service answer after =
    ((answer ≡ Ok (record { place = length before.journal; bundle = bundle; service = service })) × (refusal (world before) (Get bundle service) ≡ None)
    × (has_room before.limits.journal (world before) 2 ≡ true) × GetsUse before bundle service (Ok (record { place = length before.journal; bundle = bundle; service = service })) after)
    ⊎ (((answer ≡ Err JournalFull) × (refusal (world before) (Get bundle service) ≡ None) × (has_room before.limits.journal (world before) 2 ≡ false) × (after ≡ before))
    ⊎ ((fault : CoreFault) × (answer ≡ Err fault) × (refusal (world before) (Get bundle service) ≡ Some fault) × (after ≡ before)))

is_got : (before after : CoreView) (bundle service : ℕ) (answer : Result Token CoreFault) → (answer ≡ Err CoreNoMemory → ⊥) → GetsUse before bundle service answer after → IsGot before bundle service answer after
is_got before after bundle service (Ok note) some (limits, (is, grown)) = inl (
  ap (λ (n : Token). Ok n) is,
  grown_may before.limits.journal before.journal after.journal (Got bundle service) grown,
  grown_room before.limits.journal before.journal after.journal (Got bundle service) grown,
  (limits, (refl, grown)),
)
is_got before after bundle service (Err CoreNoMemory) some gets = absurd (some refl)
is_got before after bundle service (Err JournalFull) some (limits, (none, room, same)) = inr (inl (refl, none, room, same_view after before limits same))
is_got before after bundle service (Err fault) some gets = inr (inr (fault, refl, gets.1.0, same_view after before gets.0 gets.1.1))

got_once : (before one other : CoreView) (bundle service : ℕ) (a b : Result Token CoreFault) → HasLegal before → IsGot before bundle service a one → IsGot before bundle service b other → (a ≡ b) × (one ≡ other)
got_once before one other bundle service a b legal (inl (is, none, room, (limits, (its, grown)))) (inl (is', none', room', (limits', (its', grown')))) =
    (is ∙ sym is', same_view one other (limits ∙ sym limits') (grown_once before.limits.journal before.journal (Got bundle service) one.journal other.journal legal grown grown'))
got_once before one other bundle service a b legal (inl (is, none, room, gets)) (inr (inl (is', none', full, same))) = absurd (both_ways (has_room before.limits.journal (world before) 2) full room)
got_once before one other bundle service a b legal (inl (is, none, room, gets)) (inr (inr (fault, is', refused, same))) = absurd (never_some fault (sym none ∙ refused))
got_once before one other bundle service a b legal (inr (inl (is, none, full, same))) (inl (is', none', room, gets)) = absurd (both_ways (has_room before.limits.journal (world before) 2) full room)
got_once before one other bundle service a b legal (inr (inl (is, none, full, same))) (inr (inl (is', none', full', same'))) = (is ∙ sym is', same ∙ sym same')
got_once before one other bundle service a b legal (inr (inl (is, none, full, same))) (inr (inr (fault, is', refused, same'))) = absurd (never_some fault (sym none ∙ refused))
got_once before one other bundle service a b legal (inr (inr (fault, is, refused, same))) (inl (is', none, room, gets)) = absurd (never_some fault (sym none ∙ refused))
got_once before one other bundle service a b legal (inr (inr (fault, is, refused, same))) (inr (inl (is', none, full, same'))) = absurd (never_some fault (sym none ∙ refused))
got_once before one other bundle service a b legal (inr (inr (fault, is, refused, same))) (inr (inr (fault', is', refused', same'))) =
    let both : fault ≡ fault' = some_same fault fault' (sym refused ∙ refused') in (is ∙ ap (λ (f : CoreFault). Err f) both ∙ sym is', same ∙ sym same')

pub gets_once : (before one other : CoreView) (bundle service : ℕ) (a b : Result Token CoreFault) → HasLegal before → (a ≡ Err CoreNoMemory → ⊥) → (b ≡ Err CoreNoMemory → ⊥)
    → GetsUse before bundle service a one → GetsUse before bundle service b other → (a ≡ b) × (one ≡ other)
gets_once before one other bundle service a b legal some some' gets gets' =
    got_once before one other bundle service a b legal (is_got before one bundle service a some gets) (is_got before other bundle service b some' gets')

got_legal : (before got : CoreView) (bundle service : ℕ) (note : Token) → HasLegal before → GetsUse before bundle service (Ok note) got → HasLegal got
got_legal before got bundle service note legal (limits, (is, grown)) =
    subst (λ (l : Limits). IsLegal l.journal (history_of got.journal)) (sym limits) (grown_legal before.limits.journal before.journal got.journal (Got bundle service) legal grown)

-- ---- the answer

-- what is answered by whom the call reaches at a length of the journal, its nested calls and its end
abbrev called_at : List ℕ → List NestedCall → ℕ → Result Called CallFault
called_at text nested here = Ok (record { front = here; text = text; nested = nested })

abbrev said_at : ℕ → List NestedCall → Ended → Result Called CallFault
said_at here nested (Said text) = called_at text nested here
said_at here nested Declined = Err (Refused here nested)
said_at here nested TooLong = Err (CallTooLong here nested)

abbrev answer_at : ℕ → Outer → List NestedCall → Ended → Result Called CallFault
answer_at here ToGone nested end = Err (Gone here)
answer_at here ToDirect nested end = Err (NoObject here)
answer_at here ToPending nested end = Err (Pending here)
answer_at here (ToLive live) nested end = said_at here nested end

module _ (here : ℕ) (world : ℕ → World) (next : Meaning) (get : Token) (request : List ℕ) where
  abbrev ComesSo : Outer → List NestedCall → Ended → Type 0
  ComesSo (ToLive live) nested end = Evaluates world next live request nested end × Rising here (fronts_of nested) here
  ComesSo _ nested end = Unit {0}

  abbrev IsSaid : Result Called CallFault → Type 0
  IsSaid answer = (to : Outer) × (nested : List NestedCall) × (end : Ended) × (outer (world here) get ≡ to) × ComesSo to nested end × (answer ≡ answer_at here to nested end)

  reached_here : (front : ℕ) (to : Outer) → front ≡ here → outer (world front) get ≡ to → outer (world here) get ≡ to
  reached_here front to same is = ap (λ n. outer (world n) get) (sym same) ∙ is

  is_said : (answer : Result Called CallFault) → (answer ≡ Err OutOfMemory → ⊥) → AnswersUse world next get request here here answer → IsSaid answer
  is_said (Ok called) some ((live, reaches, comes), rising) =
      let front = first_front here called.front (fronts_of called.nested) rising in (
        ToLive live,
        called.nested,
        Said called.text,
        reached_here called.front (ToLive live) front reaches,
        (comes, later_fronts here called.front (fronts_of called.nested) rising),
        ap (called_at called.text called.nested) front,
      )
  is_said (Err (Gone front)) some (reaches, rising) =
      let same = first_front here front [] rising in (ToGone, [], TooLong, reached_here front ToGone same reaches, tt, ap (λ n. Err (Gone n)) same)
  is_said (Err (NoObject front)) some (reaches, rising) =
      let same = first_front here front [] rising in (ToDirect, [], TooLong, reached_here front ToDirect same reaches, tt, ap (λ n. Err (NoObject n)) same)
  is_said (Err (Pending front)) some (reaches, rising) =
      let same = first_front here front [] rising in (ToPending, [], TooLong, reached_here front ToPending same reaches, tt, ap (λ n. Err (Pending n)) same)
  is_said (Err (Refused front nested)) some ((live, reaches, comes), rising) =
      let same = first_front here front (fronts_of nested) rising in
      (ToLive live, nested, Declined, reached_here front (ToLive live) same reaches, (comes, later_fronts here front (fronts_of nested) rising), ap (λ n. Err (Refused n nested)) same)
  is_said (Err (CallTooLong front nested)) some ((live, reaches, comes), rising) =
      let same = first_front here front (fronts_of nested) rising in
      (ToLive live, nested, TooLong, reached_here front (ToLive live) same reaches, (comes, later_fronts here front (fronts_of nested) rising), ap (λ n. Err (CallTooLong n nested)) same)
  is_said (Err (Core fault)) some answers = absurd answers
  is_said (Err (Settle fault)) some answers = absurd answers
  is_said (Err OutOfMemory) some answers = absurd (some refl)

  comes_once : (to : Outer) (nested other : List NestedCall) (end same : Ended) → ComesSo to nested end → ComesSo to other same → answer_at here to nested end ≡ answer_at here to other same
  comes_once ToGone nested other end same comes comes' = refl
  comes_once ToDirect nested other end same comes comes' = refl
  comes_once ToPending nested other end same comes comes' = refl
  comes_once (ToLive live) nested other end same (comes, rising) (comes', rising') =
      let all = evaluates_once here world next live request nested other end same rising rising' comes comes' in
      ap (λ (ns : List NestedCall). said_at here ns end) all.0 ∙ ap (said_at here other) all.1

  pub answers_once : (a b : Result Called CallFault) → (a ≡ Err OutOfMemory → ⊥) → (b ≡ Err OutOfMemory → ⊥) → AnswersUse world next get request here here a → AnswersUse world next get request here here b → a ≡ b
  answers_once a b some some' answers answers' = go (is_said a some answers) (is_said b some' answers')
    where
      go : IsSaid a → IsSaid b → a ≡ b
      go (to, nested, end, reaches, comes, is) (to', other, same, reaches', comes', is') =
          let both : to' ≡ to = sym reaches' ∙ reaches in
          is ∙ comes_once to nested other end same comes (subst (λ (o : Outer). ComesSo o other same) both comes') ∙ ap (λ (o : Outer). answer_at here o other same) (sym both) ∙ sym is'

-- ---- the release

ends_once : (limit : ℕ) (old one other : List (Entry Step)) (note : Token) (stood still : Bool) → IsLegal limit (history_of old) → EndsUse limit old note stood one → EndsUse limit old note still other → one ≡ other
ends_once limit old one other note true true legal (stands, grown) (stands', grown') = grown_once limit old (Released note.place) one other legal grown grown'
ends_once limit old one other note true false legal (stands, grown) (gone, same) = absurd (both_ways (has_token (world_at old) note) gone stands)
ends_once limit old one other note false true legal (gone, same) (stands, grown) = absurd (both_ways (has_token (world_at old) note) gone stands)
ends_once limit old one other note false false legal (gone, same) (gone', same') = same ∙ sym same'

ends_legal : (limit : ℕ) (old new : List (Entry Step)) (note : Token) (stood : Bool) → IsLegal limit (history_of old) → EndsUse limit old note stood new → IsLegal limit (history_of new)
ends_legal limit old new note true legal (stands, grown) = grown_legal limit old new (Released note.place) legal grown
ends_legal limit old new note false legal (gone, same) = subst (λ (j : List (Entry Step)). IsLegal limit (history_of j)) (sym same) legal

releases_once : (before one other : CoreView) (note : Token) → HasLegal before → Releases before note one → Releases before note other → has_drain one ≡ false → has_drain other ≡ false → one ≡ other
releases_once before one other note legal (over, (stood, limits, ends), posts) (over', (stood', limits', ends'), posts') clear clear' =
    let journals = ends_once before.limits.journal before.journal over.journal over'.journal note stood stood' legal ends ends' in
    let both = same_view over over' (limits ∙ sym limits') journals in
    let later : HasLegal over' = subst (λ (l : Limits). IsLegal l.journal (history_of over'.journal)) (sym limits') (ends_legal before.limits.journal before.journal over'.journal note stood' legal ends') in
    posts_once over' one other later (subst (λ (p : CoreView). Posts p one) both posts) posts' clear clear'

-- ---- the whole call

module _ (refuses : List ℕ → List Property → Told → Bool) (next : Meaning) (before : CoreView) (bundle service : ℕ) (request : List ℕ) (legal : HasLegal before) where
  abbrev SettlesFrom : CoreView → Result ℕ SettleFault → CoreView → Type 0
  SettlesFrom p answer after = SettlesAs refuses p.limits.turns p answer after

  -- the get, and the settling behind it
  ready_once : (note note' : Token) (a b : Result ℕ SettleFault) (one other : CoreView) → (a ≡ Err SettleNoMemory → ⊥) → (b ≡ Err SettleNoMemory → ⊥)
      → SettlesBehind refuses before bundle service note a one → SettlesBehind refuses before bundle service note' b other → (note ≡ note') × (a ≡ b) × (one ≡ other)
  ready_once note note' a b one other some some' ready ready' =
      let gets = gets_once before ready.got ready'.got bundle service (Ok note) (Ok note') legal (ok_or_err note CoreNoMemory) (ok_or_err note' CoreNoMemory) ready.gets ready'.gets in
      let notes : note ≡ note' = ok_same note note' gets.0 in
      let from = subst (λ (p : CoreView). SettlesFrom p a one) gets.1 ready.settles.0 in
      let settles = settled_once refuses ready'.got.limits.turns ready'.got one other a b (got_legal before ready'.got bundle service note' legal ready'.gets) some some' from ready'.settles.0 in
      (notes, settles.0, settles.1)

  ready_legal : (note : Token) (turns : ℕ) (after : CoreView) → SettlesBehind refuses before bundle service note (Ok turns) after → HasLegal after
  ready_legal note turns after ready =
      settled_legal refuses ready.got.limits.turns ready.got after turns (got_legal before ready.got bundle service note legal ready.gets) ready.settles.0

  -- what a call comes to, but for want of memory
  abbrev IsCalled : Result (List ℕ) CallFault → CoreView → Type 0
  IsCalled answer after =
      ((said : Result Called CallFault) × (answer ≡ text_of said) × (said ≡ Err OutOfMemory → ⊥) × CallsByGet refuses next before bundle service request said after)
      ⊎ (((fault : CoreFault) × (answer ≡ Err (Core fault)) × (fault ≡ CoreNoMemory → ⊥) × GetsUse before bundle service (Err fault) after)
      ⊎ ((fault : SettleFault) × (answer ≡ Err (Settle fault)) × (fault ≡ SettleNoMemory → ⊥) × StopsSettling refuses before bundle service fault after))

  is_called : (answer : Result (List ℕ) CallFault) (after : CoreView) → (answer ≡ Err OutOfMemory → ⊥) → CallsOnOne refuses next before bundle service request answer after → IsCalled answer after
  is_called (Ok text) after some (called, is, calls) = inl (Ok called, ap (λ (t : List ℕ). Ok t) (sym is), ok_or_err called OutOfMemory, calls)
  is_called (Err (Core fault)) after some (gets, fits) = inr (inl (fault, refl, fits, gets))
  is_called (Err (Settle fault)) after some (stops, fits) = inr (inr (fault, refl, fits, stops))
  is_called (Err OutOfMemory) after some calls = absurd (some refl)
  is_called (Err (Gone front)) after some calls = inl (Err (Gone front), refl, (λ no. some (ap text_of no)), calls)
  is_called (Err (NoObject front)) after some calls = inl (Err (NoObject front), refl, (λ no. some (ap text_of no)), calls)
  is_called (Err (Pending front)) after some calls = inl (Err (Pending front), refl, (λ no. some (ap text_of no)), calls)
  is_called (Err (Refused front nested)) after some calls = inl (Err (Refused front nested), refl, (λ no. some (ap text_of no)), calls)
  is_called (Err (CallTooLong front nested)) after some calls = inl (Err (CallTooLong front nested), refl, (λ no. some (ap text_of no)), calls)

  by_get_once : (a b : Result Called CallFault) (one other : CoreView) → (a ≡ Err OutOfMemory → ⊥) → (b ≡ Err OutOfMemory → ⊥)
      → CallsByGet refuses next before bundle service request a one → CallsByGet refuses next before bundle service request b other → (a ≡ b) × (one ≡ other)
  by_get_once a b one other some some' calls calls' =
      let ready = ready_once calls.note calls'.note (Ok calls.turns) (Ok calls'.turns) calls.settled calls'.settled (ok_or_err calls.turns SettleNoMemory) (ok_or_err calls'.turns SettleNoMemory) calls.ready calls'.ready in
      let later = ready_legal calls'.note calls'.turns calls'.settled calls'.ready in
      let moved = subst (λ (n : Token). AnswersNow next calls'.settled n request a × Releases calls'.settled n one) ready.0
      (subst (λ (p : CoreView). AnswersNow next p calls.note request a × Releases p calls.note one) ready.2 (calls.answers, calls.releases)) in (
        answers_once (length calls'.settled.journal) (world_up_to calls'.settled.journal) next calls'.note request a b some some' moved.0 calls'.answers,
        releases_once calls'.settled one other calls'.note later moved.1 calls'.releases calls.drained calls'.drained,
      )

  -- a get is refused or not
  got_or_not : (note : Token) (fault : CoreFault) (got other : CoreView) → (fault ≡ CoreNoMemory → ⊥) → GetsUse before bundle service (Ok note) got → GetsUse before bundle service (Err fault) other → ⊥
  got_or_not note fault got other fits gets refused =
      let all = gets_once before got other bundle service (Ok note) (Err fault) legal (ok_or_err note CoreNoMemory) (λ is. fits (err_same fault CoreNoMemory is)) gets refused in ok_or_err note fault all.0

  called_once : (a b : Result (List ℕ) CallFault) (one other : CoreView) → IsCalled a one → IsCalled b other → (a ≡ b) × (one ≡ other)
  called_once a b one other (inl (said, is, some, calls)) (inl (told, is', some', calls')) =
      let all = by_get_once said told one other some some' calls calls' in (is ∙ ap text_of all.0 ∙ sym is', all.1)
  called_once a b one other (inl (said, is, some, calls)) (inr (inl (fault, is', fits, gets))) = absurd (got_or_not calls.note fault calls.ready.got other fits calls.ready.gets gets)
  called_once a b one other (inl (said, is, some, calls)) (inr (inr (fault, is', fits, (note, ready)))) =
      let all = ready_once calls.note note (Ok calls.turns) (Err fault) calls.settled other (ok_or_err calls.turns SettleNoMemory) (λ same. fits (err_same fault SettleNoMemory same)) calls.ready ready in absurd (ok_or_err calls.turns fault all.1)
  called_once a b one other (inr (inl (fault, is, fits, gets))) (inl (said, is', some, calls)) = absurd (got_or_not calls.note fault calls.ready.got one fits calls.ready.gets gets)
  called_once a b one other (inr (inl (fault, is, fits, gets))) (inr (inl (fault', is', fits', gets'))) =
      let all = gets_once before one other bundle service (Err fault) (Err fault') legal (λ same. fits (err_same fault CoreNoMemory same)) (λ same. fits' (err_same fault' CoreNoMemory same)) gets gets' in
      let faults : fault ≡ fault' = err_same fault fault' all.0 in (is ∙ ap (λ (f : CoreFault). Err (Core f)) faults ∙ sym is', all.1)
  called_once a b one other (inr (inl (fault, is, fits, gets))) (inr (inr (fault', is', fits', (note, ready)))) = absurd (got_or_not note fault ready.got one fits ready.gets gets)
  called_once a b one other (inr (inr (fault, is, fits, (note, ready)))) (inl (said, is', some, calls)) =
      let all = ready_once note calls.note (Err fault) (Ok calls.turns) one calls.settled (λ same. fits (err_same fault SettleNoMemory same)) (ok_or_err calls.turns SettleNoMemory) ready calls.ready in absurd (err_or_ok fault calls.turns all.1)
  called_once a b one other (inr (inr (fault, is, fits, (note, ready)))) (inr (inl (fault', is', fits', gets))) = absurd (got_or_not note fault' ready.got other fits' ready.gets gets)
  called_once a b one other (inr (inr (fault, is, fits, (note, ready)))) (inr (inr (fault', is', fits', (note', ready')))) =
      let all = ready_once note note' (Err fault) (Err fault') one other (λ same. fits (err_same fault SettleNoMemory same)) (λ same. fits' (err_same fault' SettleNoMemory same)) ready ready' in
      let faults : fault ≡ fault' = err_same fault fault' all.1 in (is ∙ ap (λ (f : SettleFault). Err (Settle f)) faults ∙ sym is', all.2)

  pub calls_once : (a b : Result (List ℕ) CallFault) (one other : CoreView) → (a ≡ Err OutOfMemory → ⊥) → (b ≡ Err OutOfMemory → ⊥)
      → CallsOnOne refuses next before bundle service request a one → CallsOnOne refuses next before bundle service request b other → (a ≡ b) × (one ≡ other)
  calls_once a b one other some some' calls calls' = called_once a b one other (is_called a one some calls) (is_called b other some' calls')
