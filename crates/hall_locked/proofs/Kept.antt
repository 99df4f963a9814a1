-- What the value under the lock keeps stays as its journal says, at each change.
use Rattle.std.proofs.Common.{◌≡◌, ℕ, List, [], ap, sym, ◌∙◌, refl, subst, Bool, true, false, ◌&&◌, ◌||◌}
use Rattle.std.specs.Prelude.{length, ◌==◌}
use Rattle.std.specs.List.{Contains}
use Rattle.component_state.proofs.Apart.{in_none}
use Rattle.journal_core.specs.declared.entry.Entry.{Entry}
use Rattle.prop_map.specs.Words.{one_if}
use Rattle.hall_locked.specs.declared.part.Part.{Part}
use Rattle.hall_locked.specs.OwnedCores.{IsOwned, OwnedView, parts_of}
use Rattle.hall_locked.specs.Owned.{turn_numbers}
use Rattle.hall_locked.proofs.Sites.{SitesStay}
use Rattle.platform_hall.specs.Desks.{tokens_of}
use Rattle.platform_hall.specs.Platforms.{has_object, world}
use Rattle.platform_hall.proofs.Stops.{IsAlike}
use Rattle.scr_core.specs.Cores.{CoreView}
use Rattle.scr_world.specs.Calls.{world_at}
use Rattle.scr_world.specs.Legal.{is_under_way}
use Rattle.scr_world.specs.Lists.{world_of}
use Rattle.scr_world.specs.declared.step.Step.{Step}

-- nothing is kept beside an empty journal
and_false : (b : Bool) → ((b && false) || false) ≡ false
and_false true = refl
and_false false = refl

none_begun : (n : ℕ) → is_under_way (world_at []) n ≡ false
unfolding world_of
none_begun n = and_false (0 == n)

none_made : (core : CoreView) (n : ℕ) → core.journal ≡ [] → has_object core n ≡ false
unfolding world_of
none_made core n empty = ap (λ (j : List (Entry Step)). has_object (record core { journal = j }) n) empty

module _ {O : Type 0} where
  pub empty_owned : (l : OwnedView O) → l.core.journal ≡ [] → l.owners ≡ [] → l.turns ≡ [] → l.parts ≡ [] → IsOwned l
  empty_owned l journal owners turns parts = record {
    owners = ap length owners ∙ sym (ap length journal);
    tokens = λ n. ap (λ ts. tokens_of (turn_numbers ts) n) turns ∙ sym (ap one_if (ap (λ j. is_under_way (world_at j) n) journal ∙ none_begun n));
    parts = λ n. ap (λ (ps : List (Part O)). parts_of ps n) parts ∙ sym (ap one_if (none_made l.core n journal));
    sites = λ part h. absurd (in_none part (subst (λ (ps : List (Part O)). Contains ps part) parts h));
  }

  -- a change that leaves turns, objects and sites alone
  pub owned_alike : (before : OwnedView O) (core : CoreView) (owners : List ℕ) → length owners ≡ length core.journal → IsAlike (world before.core) (world core) → SitesStay (world before.core) (world core) → IsOwned before
      → IsOwned (record { core = core; owners = owners; turns = before.turns; parts = before.parts })
  owned_alike before core owners many alike stay locked = record {
    owners = many;
    tokens = λ n. locked.tokens n ∙ ap one_if (sym (alike.under_way n));
    parts = λ n. locked.parts n ∙ ap one_if (sym (alike.objects n));
    sites = λ part h i there number. (
        let was = stay i there in
        locked.sites part h was.one was.there (was.number ∙ number) ∙ sym was.site);
  }
