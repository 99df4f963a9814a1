-- A command is answered one thing and leaves one platform, but where memory is wanting.
use Rattle.std.proofs.Common.{◌≡◌, ◌⊎◌, ℕ, List, [], Bool, true, false, ap, sym, ◌∙◌, refl, subst, Ok, Err, inl, inr}
use Rattle.std.specs.Prelude.{◌++◌, Result}
use Rattle.std.proofs.lemmas.Bool.{both_ways}
use Rattle.journal_core.specs.declared.entry.Entry.{Entry}
use Rattle.platform_hall.proofs.Desks.{same_view}
use Rattle.platform_hall.proofs.Settlings.{HasLegal}
use Rattle.platform_hall.proofs.Steps.{grown_legal}
use Rattle.platform_hall.specs.Cores.{CoreView}
use Rattle.platform_hall.specs.Platforms.{Accepts, Posts, TakesCommand, has_drain, world}
use Rattle.scr_world.specs.Calls.{GrownIf}
use Rattle.scr_world.specs.Legal.{IsLegal}
use Rattle.scr_world.specs.Refusals.{descriptions_with}
use Rattle.scr_world.specs.Replies.{Replies, TellsPath, changes, reply}
use Rattle.scr_world.specs.Steps.{history_of}
use Rattle.scr_world.specs.Tables.{descriptions_of}
use Rattle.scr_world.specs.declared.command.Command.{Command}
use Rattle.scr_world.specs.declared.command.Command.TheVariants.{Install, Update}
use Rattle.scr_world.specs.declared.command.Limits.{Limits}
use Rattle.scr_world.specs.declared.reply.CoreFault.{CoreFault}
use Rattle.scr_world.specs.declared.reply.CoreFault.TheVariants.{Cycle, OutOfMemory}
use Rattle.scr_world.specs.declared.reply.Reply.{Reply}
use Rattle.scr_world.specs.declared.step.Step.{Step}
use Rattle.scr_world.specs.declared.step.Step.TheVariants.{Command as Commanded}
use Rattle.scr_world.specs.declared.world.World.{World}
use Rattle.script_laws.proofs.Cycles.{cycle_once}
use Rattle.script_laws.proofs.Drains.{posts_once}
use Rattle.script_laws.proofs.Entries.{grown_once}
use Rattle.script_laws.proofs.Parts.{ok_or_err}

-- ---- what is answered

abbrev is_cycle : Result Reply CoreFault → Bool
is_cycle (Err (Cycle path)) = true
is_cycle _ = false

path_once : (w : World) (command : Command) (path other : List (List ℕ)) → TellsPath w command path → TellsPath w command other → path ≡ other
path_once w (Install doc) path other tells tells' = cycle_once (descriptions_of w.documents ++ doc.descriptions) path other tells tells'
path_once w (Update bundle doc) path other tells tells' = cycle_once (descriptions_with w doc bundle) path other tells tells'
path_once w _ path other tells tells' = absurd tells

module _ (limit : ℕ) (w : World) (command : Command) where
  -- the answer is that of the definition, or a cycle with its path
  abbrev IsReply : Result Reply CoreFault → Type 0
  IsReply answer =
      ((is_cycle answer ≡ false) × (reply limit w command ≡ answer))
      ⊎ ((path : List (List ℕ)) × (answer ≡ Err (Cycle path)) × (reply limit w command ≡ Err (Cycle [])) × TellsPath w command path)

  is_reply : (answer : Result Reply CoreFault) → Replies limit w command answer → IsReply answer
  is_reply (Err (Cycle path)) (is, tells) = inr (path, refl, is, tells)
  is_reply (Err _) is = inl (refl, is)
  is_reply (Ok said) is = inl (refl, is)

  same_reply : (a b : Result Reply CoreFault) → IsReply a → IsReply b → a ≡ b
  same_reply a b (inl (plain, is)) (inl (plain', is')) = sym is ∙ is'
  same_reply a b (inl (plain, is)) (inr (path, same, is', tells)) = absurd (both_ways (is_cycle a) plain (ap is_cycle (sym is ∙ is')))
  same_reply a b (inr (path, same, is, tells)) (inl (plain, is')) = absurd (both_ways (is_cycle b) plain (ap is_cycle (sym is' ∙ is)))
  same_reply a b (inr (path, same, is, tells)) (inr (other, same', is', tells')) = same ∙ ap (λ (p : List (List ℕ)). Err (Cycle p)) (path_once w command path other tells tells') ∙ sym same'

  pub replies_once : (a b : Result Reply CoreFault) → Replies limit w command a → Replies limit w command b → a ≡ b
  replies_once a b replies replies' = same_reply a b (is_reply a replies) (is_reply b replies')

-- ---- what is left

grown_if_once : (change : Bool) (limit : ℕ) (old : List (Entry Step)) (step : Step) (one other : List (Entry Step)) → IsLegal limit (history_of old) → GrownIf change limit old step one → GrownIf change limit old step other → one ≡ other
grown_if_once true limit old step one other legal grown grown' = grown_once limit old step one other legal grown grown'
grown_if_once false limit old step one other legal same same' = same ∙ sym same'

grown_if_legal : (change : Bool) (limit : ℕ) (old : List (Entry Step)) (step : Step) (new : List (Entry Step)) → IsLegal limit (history_of old) → GrownIf change limit old step new → IsLegal limit (history_of new)
grown_if_legal true limit old step new legal grown = grown_legal limit old new step legal grown
grown_if_legal false limit old step new legal same = subst (λ (j : List (Entry Step)). IsLegal limit (history_of j)) (sym same) legal

accepts_once : (before one other : CoreView) (command : Command) (said told : Reply) → HasLegal before → Accepts before command said one → Accepts before command told other → has_drain one ≡ false → has_drain other ≡ false → one ≡ other
accepts_once before one other command said told legal (accepted, between, is, (same, (replies, shut, grown)), posts) (accepted', between', is', (same', (replies', shut', grown')), posts') clear clear' =
    let change = changes before.limits.journal (world before) command in
    let journals = grown_if_once change before.limits.journal before.journal (Commanded command) between.journal between'.journal legal grown grown' in
    let both = same_view between between' (same ∙ sym same') journals in
    let later : HasLegal between' =
    subst (λ (l : Limits). IsLegal l.journal (history_of between'.journal)) (sym same') (grown_if_legal change before.limits.journal before.journal (Commanded command) between'.journal legal grown') in
    posts_once between' one other later (subst (λ (p : CoreView). Posts p one) both posts) posts' clear clear'

-- what a command is answered and leaves: it is accepted, and no drain is left, or it is refused, and all stays
abbrev IsTaken : CoreView → Command → Result Reply CoreFault → CoreView → Type 0
IsTaken before command answer after =
    ((said : Reply) × (answer ≡ Ok said) × Accepts before command said after × (has_drain after ≡ false))
    ⊎ ((fault : CoreFault) × (answer ≡ Err fault) × Replies before.limits.journal (world before) command (Err fault) × (after ≡ before))

-- so it is, but for want of memory
is_taken : (before after : CoreView) (command : Command) (answer : Result Reply CoreFault) → (answer ≡ Err OutOfMemory → ⊥) → TakesCommand before command answer after → IsTaken before command answer after
is_taken before after command (Ok said) some (accepts, clear) = inl (said, refl, accepts, clear)
is_taken before after command (Err OutOfMemory) some takes = absurd (some refl)
is_taken before after command (Err fault) some takes = inr (fault, refl, takes.1.0, same_view after before takes.0 takes.1.1)

-- what is accepted is so answered
accepted_reply : (before after : CoreView) (command : Command) (said : Reply) → Accepts before command said after → Replies before.limits.journal (world before) command (Ok said)
accepted_reply before after command said (accepted, between, is, (same, (replies, shut, grown)), posts) = subst (λ (r : Reply). reply before.limits.journal (world before) command ≡ Ok r) is replies

taken_once : (before one other : CoreView) (command : Command) (a b : Result Reply CoreFault) → HasLegal before → IsTaken before command a one → IsTaken before command b other → (a ≡ b) × (one ≡ other)
taken_once before one other command a b legal (inl (said, is, accepts, clear)) (inl (told, is', accepts', clear')) =
    let same = replies_once before.limits.journal (world before) command (Ok said) (Ok told) (accepted_reply before one command said accepts) (accepted_reply before other command told accepts') in
    (is ∙ same ∙ sym is', accepts_once before one other command said told legal accepts accepts' clear clear')
taken_once before one other command a b legal (inl (said, is, accepts, clear)) (inr (fault, is', refused, same)) =
    let both = replies_once before.limits.journal (world before) command (Ok said) (Err fault) (accepted_reply before one command said accepts) refused in absurd (ok_or_err said fault both)
taken_once before one other command a b legal (inr (fault, is, refused, same)) (inl (said, is', accepts, clear)) =
    let both = replies_once before.limits.journal (world before) command (Ok said) (Err fault) (accepted_reply before other command said accepts) refused in absurd (ok_or_err said fault both)
taken_once before one other command a b legal (inr (fault, is, refused, same)) (inr (other_fault, is', refused', same')) =
    (is ∙ replies_once before.limits.journal (world before) command (Err fault) (Err other_fault) refused refused' ∙ sym is', same ∙ sym same')

pub takes_once : (before one other : CoreView) (command : Command) (a b : Result Reply CoreFault) → HasLegal before → (a ≡ Err OutOfMemory → ⊥) → (b ≡ Err OutOfMemory → ⊥)
    → TakesCommand before command a one → TakesCommand before command b other → (a ≡ b) × (one ≡ other)
takes_once before one other command a b legal some some' takes takes' = taken_once before one other command a b legal (is_taken before one command a some takes) (is_taken before other command b some' takes')
