-- Each get is of a service with a number above 0.
use Rattle.std.proofs.Common.{◌≡◌, ◌<◌, ℕ, zero, suc, List, [], ◌∷◌, ap, sym, refl, subst, cond, arith, Bool, true, false, ◌||◌, inl, inr, Option, Some, None}
use Rattle.std.specs.Prelude.{find, is_none, not, ◌&&◌, ◌==◌}
use Rattle.std.specs.List.{Contains}
use Rattle.std.specs.Option.{option_map_or}
use Rattle.component_state.proofs.Apart.{in_either, in_first, in_none, in_rest, kept_was}
use Rattle.prop_map.specs.Words.{insert_by}
use Rattle.scr_promises.proofs.TargetRows.{inserted_was}
use Rattle.scr_laws.proofs.Described.{none_first, not_refused}
use Rattle.scr_laws.proofs.Listed.{found_was, single}
use Rattle.scr_laws.proofs.LimitLaws.{not_full}
use Rattle.scr_world.specs.Legal.{IsLegal, MayCome}
use Rattle.scr_world.specs.Lists.{is_active_bundle, world_after_entry, world_of}
use Rattle.scr_world.specs.Refusals.{activation_failed, no_bundle, no_service, not_active, refusal, refuse_if}
use Rattle.scr_world.specs.Steps.{History}
use Rattle.scr_world.specs.Stepping.{world_after_step}
use Rattle.scr_world.specs.Tables.{tokens_by, uses_by, without_token}
use Rattle.scr_world.specs.Worlds.{is_registered}
use Rattle.scr_world.specs.declared.command.Command.TheVariants.{Install, Update, Start, Stop, Uninstall, Enable, Disable, Register, Unregister, SetProperties, Get, Unget, Listen, Unlisten, Configure, ConfigureFactory, Unconfigure}
use Rattle.scr_world.specs.declared.marks.Token.{Token}
use Rattle.scr_world.specs.declared.reply.CoreFault.TheVariants.{NoService, NotUsing}
use Rattle.scr_world.specs.declared.step.Step.{Step}
use Rattle.scr_world.specs.declared.step.Step.TheVariants.{Command as Commanded, Begin, End, Drained, Got, Released}
use Rattle.scr_world.specs.declared.world.World.{World}
use Rattle.use_counts.specs.declared.uses.Holder.{Holder}
use Rattle.use_counts.specs.declared.uses.Holder.TheVariants.{Shell, Token as ByToken}
use Rattle.use_counts.specs.declared.uses.UseRow.{UseRow}
use Rattle.use_counts.specs.Uses.{after_get, after_unget, holder_count, is_use, no_use, one_less, one_more, total, use_before, use_of, without_use}

abbrev AreNumbered : List UseRow → Type 0
AreNumbered us = (u : UseRow) → Contains us u → 0 < u.service

more_same : (holder : Holder) (u : UseRow) → (one_more holder u).service ≡ u.service
more_same Shell u = refl
more_same ByToken u = refl

less_same : (holder : Holder) (u : UseRow) → (one_less holder u).service ≡ u.service
less_same Shell u = refl
less_same ByToken u = refl

module _ (us : List UseRow) (each : AreNumbered us) (bundle service : ℕ) (some : 0 < service) where
  its_use : 0 < (use_of bundle service us).service
  its_use = go (find (is_use bundle service) us) refl
    where
      go : (o : Option UseRow) → find (is_use bundle service) us ≡ o → 0 < (option_map_or (λ (u : UseRow). u) o (no_use bundle service)).service
      go None is = some
      go (Some u) is = each u (found_was (is_use bundle service) us u is).0

  others : AreNumbered (without_use bundle service us)
  others u h = each u (kept_was (λ (x : UseRow). not (is_use bundle service x)) us u h).0

  got_numbered : (holder : Holder) → AreNumbered (after_get bundle service holder us)
  got_numbered holder u h = elim (inserted_was use_before (one_more holder (use_of bundle service us)) (without_use bundle service us) u h) [
    | inl new ↦ subst (λ (x : UseRow). 0 < x.service) new (subst (λ n. 0 < n) (sym (more_same holder (use_of bundle service us))) its_use)
    | inr old ↦ others u old
  ]

  ungot_numbered : (holder : Holder) → AreNumbered (after_unget bundle service holder us)
  ungot_numbered holder = go (total (one_less holder (use_of bundle service us)) == 0)
    where
      go : (b : Bool) → AreNumbered (cond b (without_use bundle service us) (insert_by use_before (one_less holder (use_of bundle service us)) (without_use bundle service us)))
      go true u h = others u h
      go false u h = elim (inserted_was use_before (one_less holder (use_of bundle service us)) (without_use bundle service us) u h) [
        | inl new ↦ subst (λ (x : UseRow). 0 < x.service) new (subst (λ n. 0 < n) (sym (less_same holder (use_of bundle service us))) its_use)
        | inr old ↦ others u old
      ]

above : (n : ℕ) → (n == 0) ≡ false → 0 < n
above zero e = cc
above (suc n) e = omega arith

first_off : (a b : Bool) → (a || b) ≡ false → a ≡ false
first_off true b e = cc
first_off false b e = refl

module _ (w : World) where
  service_some : (service : ℕ) → no_service w service ≡ None → 0 < service
  service_some service none = above service (first_off (service == 0) (not (is_registered w service)) (not_full ((service == 0) || not (is_registered w service)) (NoService service) none))

  get_some : (bundle service : ℕ) → is_none (refusal w (Get bundle service)) ≡ true → 0 < service
  get_some bundle service none =
      let a = no_bundle w bundle in let b = not_active w bundle in let c = activation_failed w service in let d = no_service w service in
      service_some service (none_first (a ∷ b ∷ c ∷ d ∷ []) none d (in_rest a (b ∷ c ∷ d ∷ []) d (in_rest b (c ∷ d ∷ []) d (in_rest c (d ∷ []) d (in_first d [])))))

  unget_some : (bundle service : ℕ) → is_none (refusal w (Unget bundle service)) ≡ true → 0 < service
  unget_some bundle service none =
      let a = no_bundle w bundle in let d = no_service w service in let e = refuse_if (holder_count Shell bundle service w.uses == 0) NotUsing in
      service_some service (none_first (a ∷ d ∷ e ∷ []) none d (in_rest a (d ∷ e ∷ []) d (in_first d (e ∷ []))))

  module _ (uses : AreNumbered w.uses) (tokens : (t : Token) → Contains w.tokens t → 0 < t.service) where
    uses_numbered : (step : Step) → MayCome w step → AreNumbered (uses_by step w.tokens w.uses)
    uses_numbered (Commanded (Install doc)) may = uses
    uses_numbered (Commanded (Update bundle doc)) may = uses
    uses_numbered (Commanded (Start bundle)) may = uses
    uses_numbered (Commanded (Stop bundle)) may = uses
    uses_numbered (Commanded (Uninstall bundle)) may = uses
    uses_numbered (Commanded (Enable bundle name)) may = uses
    uses_numbered (Commanded (Disable bundle name)) may = uses
    uses_numbered (Commanded (Register bundle interfaces properties)) may = uses
    uses_numbered (Commanded (Unregister bundle service)) may = uses
    uses_numbered (Commanded (SetProperties bundle service properties)) may = uses
    uses_numbered (Commanded (Get bundle service)) may = got_numbered w.uses uses bundle service (get_some bundle service (not_refused w (Get bundle service) may).0) Shell
    uses_numbered (Commanded (Unget bundle service)) may = ungot_numbered w.uses uses bundle service (unget_some bundle service (not_refused w (Unget bundle service) may).0) Shell
    uses_numbered (Commanded (Listen bundle tree)) may = uses
    uses_numbered (Commanded (Unlisten listener)) may = uses
    uses_numbered (Commanded (Configure pid properties)) may = uses
    uses_numbered (Commanded (ConfigureFactory factory name properties)) may = uses
    uses_numbered (Commanded (Unconfigure pid)) may = uses
    uses_numbered (Begin turn instance configuration consumer callback chosen) may = uses
    uses_numbered (End turn outcome) may = uses
    uses_numbered (Drained instance) may = uses
    uses_numbered (Got bundle service) may = got_numbered w.uses uses bundle service (get_some bundle service (ap is_none may)) ByToken
    uses_numbered (Released place) may = go (find (λ (t : Token). t.place == place) w.tokens) refl
      where
        go : (o : Option Token) → find (λ (t : Token). t.place == place) w.tokens ≡ o → AreNumbered (option_map_or (without_token w.uses) o w.uses)
        go None is = uses
        go (Some t) is = ungot_numbered w.uses uses t.bundle t.service (tokens t (found_was (λ (x : Token). x.place == place) w.tokens t is).0) ByToken

    tokens_numbered : (step : Step) → MayCome w step → (t : Token) → Contains (tokens_by step w.entries w.tokens) t → 0 < t.service
    tokens_numbered (Commanded command) may t h = tokens t h
    tokens_numbered (Begin turn instance configuration consumer callback chosen) may t h = tokens t h
    tokens_numbered (End turn outcome) may t h = tokens t h
    tokens_numbered (Drained instance) may t h = tokens t h
    tokens_numbered (Got bundle service) may t h = elim (in_either w.tokens (record { place = w.entries; bundle = bundle; service = service } ∷ []) t h) [
      | inl old ↦ tokens t old
      | inr new ↦ subst (λ (x : Token). 0 < x.service) (single (record { place = w.entries; bundle = bundle; service = service }) t new) (get_some bundle service (ap is_none may))
    ]
    tokens_numbered (Released place) may t h = tokens t (kept_was (λ (x : Token). not (x.place == place)) w.tokens t h).0

record HaveNumbers (w : World) : Type 0 where
  uses : AreNumbered w.uses
  tokens : (t : Token) → Contains w.tokens t → 0 < t.service

have_numbers : (limit : ℕ) (past : History) → IsLegal limit past → HaveNumbers (world_of past)
unfolding world_of world_after_entry world_after_step
have_numbers limit [] legal = record { uses = λ u h. absurd (in_none u h); tokens = λ t h. absurd (in_none t h) }
have_numbers limit (entry ∷ past) legal =
    let before = have_numbers limit past legal.1 in
    let now = world_of (entry ∷ past) in record {
      uses = λ u h. uses_numbered (world_of past) before.uses before.tokens entry.step legal.0.step u (kept_was (λ (x : UseRow). is_registered now x.service && is_active_bundle now x.bundle) (uses_by entry.step (world_of past).tokens (world_of past).uses) u h).0;
      tokens = λ t h. tokens_numbered (world_of past) before.uses before.tokens entry.step legal.0.step t (kept_was (λ (x : Token). is_registered now x.service && is_active_bundle now x.bundle) (tokens_by entry.step (world_of past).entries (world_of past).tokens) t h).0;
    }

pub uses_numbered_in : (limit : ℕ) (past : History) → IsLegal limit past → (u : UseRow) → Contains (world_of past).uses u → 0 < u.service
uses_numbered_in limit past legal = (have_numbers limit past legal).uses
