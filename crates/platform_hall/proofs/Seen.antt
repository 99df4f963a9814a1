-- A settling of the desk, as its core tells it.
use Rattle.std.proofs.Common.{◌≡◌, ℕ, List, Bool, ap, sym, ◌∙◌, refl, subst, inl, inr, Result, Option}
use Rattle.callback_orders.specs.declared.callback.Outcome.{Outcome}
use Rattle.kind_trait.specs.declared.kind_fault.KindFault.{KindFault}
use Rattle.turn_work.specs.declared.site.Site.{Site}
use Rattle.turn_work.specs.declared.work.TurnWork.{TurnWork}
use Rattle.kind_trait.specs.Meanings.{Told}
use Rattle.prop_map.specs.declared.properties.Property.{Property}
use Rattle.turn_runner.specs.declared.came.Came.{Came}
use Rattle.turn_runner.specs.declared.settle_fault.SettleFault.{SettleFault}
use Rattle.turn_runner.specs.Turns.{Starts}
use Rattle.turn_runner.proofs.Settlings.{Follows, Known, settled_seen}
use Rattle.platform_hall.specs.declared.held.Held.{Held}
use Rattle.platform_hall.specs.Desks.{DeskBegins, DeskEnds, DeskHears, DeskPosts, DeskSettles, DeskStays, DeskView, HandsOut}
use Rattle.platform_hall.specs.Platforms.{Begins, Ends, Posts, SettlesAs, has_drain, has_due, has_room, running}
use Rattle.scr_requests.specs.Cores.{CoreView}

module _ {O : Type 0} where
  -- a desk of this core, which keeps these
  abbrev pub desk_of : CoreView → List (Held O) → List ℕ → List (Came O) → Bool → DeskView O
  desk_of core held told kept ready = record { core = core; held = held; told = told; kept = kept; ready = ready }

  pub core_same : {d e : DeskView O} → d ≡ e → d.core ≡ e.core
  core_same same = ap (λ (d : DeskView O). d.core) same

  pub kept_same : {d e : DeskView O} → d ≡ e → d.kept ≡ e.kept
  kept_same same = ap (λ (d : DeskView O). d.kept) same

module _ {O : Type 0} (made : O → Site → Type 0) (hears : O → Site → Told → Result (Unit {0}) KindFault → Type 0) where
  -- what a turn that was heard of comes to in the core
  pub hears_ends : (before : DeskView O) (number : ℕ) (outcome : Outcome) (after : DeskView O) → DeskHears made hears before number outcome after → Ends before.core number outcome after.core
  hears_ends before number outcome after ((handed, hands, ends), heard, own) = subst (λ (p : CoreView). Ends p number outcome after.core) hands.0 ends.0

  module _ (refuses : List ℕ → List Property → Told → Bool) where
    -- a turn that goes on leaves the core
    pub stays_core : (before : DeskView O) (work : TurnWork) (after : DeskView O) → DeskStays made hears refuses before work after → after.core ≡ before.core
    stays_core before work after (inl same) = core_same same
    stays_core before work after (inr (handed, came, its, hands, keeps, is)) = keeps.0 ∙ hands.0

    -- a turn that has begun on a desk has begun in the core
    starts_begins : (before : DeskView O) (work : TurnWork) (after : DeskView O) → Starts DeskBegins (DeskStays made hears refuses) before work after → Begins before.core work after.core
    starts_begins before work after (begun, begins, stays) = subst (λ (p : CoreView). Begins before.core work p) (sym (stays_core begun work after stays)) begins.0

    abbrev known : Known (DeskView O)
    known = record {
      has_due = λ (d : DeskView O). has_due d.core;
      has_room = λ (d : DeskView O). has_room d.core;
      has_drain = λ (d : DeskView O). has_drain d.core;
      begins = DeskBegins;
      starts = Starts DeskBegins (DeskStays made hears refuses);
      ends = DeskHears made hears;
      posts = DeskPosts;
    }

    abbrev kept : Known CoreView
    kept = record { has_due = has_due; has_room = has_room; has_drain = has_drain; begins = Begins; starts = Begins; ends = Ends; posts = Posts }

    follows : Follows (λ (d : DeskView O). d.core) known kept
    follows = record {
      due = λ s. refl;
      room = λ s. refl;
      drain = λ s. refl;
      begins = λ before work after is. is.0;
      starts = starts_begins;
      ends = hears_ends;
      posts = λ before after is. is.0;
    }

    pub settled_core : (turns : ℕ) (before : DeskView O) (answer : Result ℕ SettleFault) (after : DeskView O) → DeskSettles made hears refuses turns before answer after → SettlesAs refuses turns before.core answer after.core
    settled_core turns before answer after settled = settled_seen (λ (d : DeskView O). d.core) known kept follows refuses turns before answer after settled
