-- Calls of several turns at the lock: goings on join.
use Rattle.std.proofs.Common.{◌≡◌, ℕ, ◌≤◌, [], ◌∷◌, ◌++◌, length, sym, subst, inl, inr, Option, Some, None, Ok, true, arith}
use Rattle.hall_goings.specs.Went.{up_to}
use Rattle.hall_goings.proofs.Chains.{front_stays, longer, went_nowhere, went_on}
use Rattle.hall_locked.specs.Owned.{entries_in}
use Rattle.hall_locked.specs.declared.owed.Owed.{Owed}
use Rattle.platform_sessions.specs.Commands.{Appended, AreDrains, IsOwed, IsPosted, Posts, PostsOwed, TakesCommand, TookCommand, Unchanged}
use Rattle.platform_sessions.specs.Halls.{Own, View}
use Rattle.scr_world.specs.Calls.{world_at}
use Rattle.scr_world.specs.Replies.{Replies, changes}
use Rattle.scr_world.specs.declared.command.Command.{Command}
use Rattle.scr_world.specs.declared.command.Limits.{Limits}
use Rattle.scr_world.specs.declared.reply.Accepted.{Accepted}
use Rattle.scr_world.specs.declared.reply.Reply.{Reply}

-- ---- drains

drains_more : (xs ys : Own) → AreDrains xs → AreDrains ys → AreDrains (xs ++ ys)
drains_more [] ys first second = second
drains_more (x ∷ xs) ys first second = (first.0, drains_more xs ys first.1 second)

pub posts_on : (a b c : View) → Posts a b → Posts b c → Posts a c
posts_on a b c first second = (first.0 ++ second.0, went_on a b c first.0 second.0 first.1 second.1, drains_more first.0 second.0 first.2 second.2)

pub posts_nowhere : (a : View) → Posts a a
posts_nowhere a = ([], went_nowhere a, tt)

pub posts_owed : (limits : Limits) (owed : Option Owed) (a b : View) → PostsOwed limits owed a b → Posts a b
posts_owed limits (Some owed) a b posts = posts.0
posts_owed limits None a b same = subst (λ (v : View). Posts a v) (sym same) (posts_nowhere a)

-- where what is owed is posted, nothing awaits its drain
pub posted_owed : (limits : Limits) (owed : Option Owed) (a b : View) → IsOwed limits a owed → PostsOwed limits owed a b → IsPosted limits b
posted_owed limits (Some owed) a b owes posts = posts.1
posted_owed limits None a b owes same = subst (λ (v : View). IsPosted limits v) (sym same) (sym owes)

-- ---- a command, with the drains behind it

pub appended_on : (limits : Limits) (a b c : View) (command : Command) (front : ℕ) (said : Reply) → Appended limits a b command front said → Posts b c → Appended limits a c command front said
appended_on limits a b c command front said t posts =
    let more : length b.seen ≤ length c.seen = longer b c posts.0 posts.1 in
    let within : t.place ≤ length b.seen = let f = t.front_is in let w = t.within in omega (arith, f, w) in
    let same : up_to t.place b ≡ up_to t.place c = sym (front_stays b c posts.0 t.place posts.1 within) in
    record {
      place = t.place;
      entry = t.entry;
      drains = t.drains ++ posts.0;
      front_is = t.front_is;
      behind = t.behind;
      within = let w = t.within in omega (arith, w, more);
      step = t.step;
      went = went_on a b c ((t.place, t.entry) ∷ t.drains) posts.0 t.went posts.1;
      drained = drains_more t.drains posts.0 t.drained posts.2;
      changes_it = subst (λ (xs : Own). changes limits.journal (world_at (entries_in xs)) command ≡ true) same t.changes_it;
      told = subst (λ (xs : Own). Replies limits.journal (world_at (entries_in xs)) command (Ok said)) same t.told;
    }

-- a command that was taken, once what it owes is posted
pub settled : (limits : Limits) (a b c : View) (command : Command) (front : ℕ) (accepted : Accepted) (owed : Option Owed) → TookCommand limits a b command (Ok (accepted, owed)) front → PostsOwed limits owed b c
    → TakesCommand limits a c command (Ok (front, accepted.reply))
settled limits a b c command front accepted owed (inl (appended, owes)) posts =
    inl (appended_on limits a b c command front accepted.reply appended (posts_owed limits owed b c posts), posted_owed limits owed b c owes posts)
settled limits a b c command front accepted owed (inr (unchanged, none)) posts =
    let same : c ≡ b = subst (λ (o : Option Owed). PostsOwed limits o b c) none posts in
    inr (subst (λ (v : View). Unchanged limits a v command front (Ok accepted.reply)) (sym same) unchanged)
