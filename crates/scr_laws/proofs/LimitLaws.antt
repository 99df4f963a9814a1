-- The tables of every legal journal keep their limits.
use Rattle.std.proofs.Common.{◌≡◌, ◌<◌, ◌≤◌, ℕ, zero, suc, ◌+◌, List, [], ◌∷◌, ◌++◌, length, ap, sym, ◌∙◌, refl, subst, cond, arith, Bool, true, false, ◌&&◌, Option, Some, None}
use Rattle.std.specs.Prelude.{filter, find, is_none, is_some, map, nat_le, not, ◌==◌}
use Rattle.std.specs.List.{Contains}
use Rattle.std.specs.Str.{bytes_eq}
use Rattle.std.proofs.lemmas.Bool.{leb-false}
use Rattle.bundle_life.specs.declared.bundle.BundleLife.{BundleLife}
use Rattle.bundle_life.specs.declared.bundle.BundleState.TheVariants.{Active, Stopping}
use Rattle.bundle_life.specs.Lives.{bundle_at, in_state, new_row as new_bundle, renamed, resolved_among, stop_completed}
use Rattle.component_state.proofs.Apart.{in_first, in_rest, kept_short, length_over, mapped_long}
use Rattle.config_admin.specs.declared.configuration.Configuration.{Configuration}
use Rattle.config_admin.specs.Configurations.{factory_configuration, factory_pid, of_factory, of_pid, own_configuration, pid_before, with_configuration, without_pid}
use Rattle.config_admin.specs.Refusals.{is_full}
use Rattle.prop_map.specs.Words.{first_some, insert_by, is_empty}
use Rattle.scr_laws.proofs.Described.{none_first, not_refused}
use Rattle.scr_world.specs.Legal.{IsLegal, MayCome}
use Rattle.scr_world.specs.Lists.{changes_between, with_lists_of, world_after_entry, world_of}
use Rattle.scr_world.specs.Refusals.{bad_pid, components_full, configurations_full, cyclic, no_bundle, not_active, refuse_if, same_name}
use Rattle.scr_world.specs.Steps.{History}
use Rattle.scr_world.specs.Stepping.{world_after_step}
use Rattle.scr_world.specs.Tables.{bundles_by, configurations_by, descriptions_of, direct_scope, listeners_by, registry_by}
use Rattle.scr_world.specs.declared.command.Command.TheVariants.{Install, Update, Start, Stop, Uninstall, Enable, Disable, Register, Unregister, SetProperties, Get, Unget, Listen, Unlisten, Configure, ConfigureFactory, Unconfigure}
use Rattle.scr_world.specs.declared.reply.CoreFault.{CoreFault}
use Rattle.scr_world.specs.declared.reply.CoreFault.TheVariants.{BundlesFull, ConfigurationsFull, FactoryClash, ListenersFull, ServicesFull}
use Rattle.scr_world.specs.declared.step.Step.{Step}
use Rattle.scr_world.specs.declared.step.Step.TheVariants.{Command as Commanded, Begin, End, Drained, Got, Released}
use Rattle.scr_world.specs.declared.world.World.{World}
use Rattle.service_listeners.specs.declared.listener.Listener.{Listener}
use Rattle.service_listeners.specs.Listening.{Change, after_changes, with_changes}
use Rattle.service_registry.specs.declared.row.ServiceRow.{ServiceRow}
use Rattle.service_registry.specs.Registries.{has_number, new_row, set_row}
use Rattle.std.specs.Option.{option_map_or}

-- ---- refusals

pub not_full : (b : Bool) (fault : CoreFault) → refuse_if b fault ≡ None → b ≡ false
not_full true fault is = cc
not_full false fault is = refl

pub third : (a b o : Option CoreFault) (os : List (Option CoreFault)) → Contains (a ∷ b ∷ o ∷ os) o
third a b o os = in_rest a (b ∷ o ∷ os) o (in_rest b (o ∷ os) o (in_first o os))

fourth : (a b c o : Option CoreFault) (os : List (Option CoreFault)) → Contains (a ∷ b ∷ c ∷ o ∷ os) o
fourth a b c o os = in_rest a (b ∷ c ∷ o ∷ os) o (third b c o os)

one_longer : {X : Type 0} (xs : List X) (x : X) (most : ℕ) → nat_le (suc most) (length xs) ≡ false → length (xs ++ x ∷ []) ≤ suc most
one_longer xs x most is = (let low = leb-false (suc most) (length xs) is in let long = length_over xs (x ∷ []) in omega (arith, low, long))

-- ---- bundles

module _ (w : World) (within : length w.bundles.rows ≤ 128) where
  mapped_bundles : (f : BundleLife → BundleLife) → length (map f w.bundles.rows) ≤ 128
  mapped_bundles f = (let same = mapped_long f w.bundles.rows in omega (arith, same, within))

  install_refusals : (o : Option BundleLife) (os : List (Option CoreFault)) → is_none o ≡ true → is_none (first_some (cond (is_some o) [] os)) ≡ true → is_none (first_some os) ≡ true
  install_refusals None os new is = is
  install_refusals (Some b) os new is = cc

  bundles_within : (step : Step) → MayCome w step → length (bundles_by step w.bundles).rows ≤ 128
  bundles_within (Commanded (Install doc)) may = let a = same_name w doc 0 in let b = cyclic (descriptions_of w.documents ++ doc.descriptions) in let o = refuse_if (nat_le 128 (length w.bundles.rows)) BundlesFull in let free = not_refused w (Install doc) may in
      one_longer w.bundles.rows (new_bundle (w.bundles.numbered + 1) doc.location doc.name doc.version) 127 (not_full (nat_le 128 (length w.bundles.rows)) BundlesFull
      (none_first (a ∷ b ∷ o ∷ []) (install_refusals (bundle_at w.bundles.rows doc.location) (a ∷ b ∷ o ∷ []) free.1 free.0) o (third a b o [])))
  bundles_within (Commanded (Update bundle doc)) may = mapped_bundles (renamed bundle doc.name doc.version)
  bundles_within (Commanded (Start bundle)) may = mapped_bundles (in_state bundle Active)
  bundles_within (Commanded (Stop bundle)) may = mapped_bundles (in_state bundle Stopping)
  bundles_within (Commanded (Uninstall bundle)) may = (let short = kept_short (λ (b : BundleLife). not (b.number == bundle)) w.bundles.rows in omega (arith, short, within))
  bundles_within (Commanded (Enable bundle name)) may = within
  bundles_within (Commanded (Disable bundle name)) may = within
  bundles_within (Commanded (Register bundle interfaces properties)) may = within
  bundles_within (Commanded (Unregister bundle service)) may = within
  bundles_within (Commanded (SetProperties bundle service properties)) may = within
  bundles_within (Commanded (Get bundle service)) may = within
  bundles_within (Commanded (Unget bundle service)) may = within
  bundles_within (Commanded (Listen bundle test)) may = within
  bundles_within (Commanded (Unlisten listener)) may = within
  bundles_within (Commanded (Configure pid given)) may = within
  bundles_within (Commanded (ConfigureFactory factory name given)) may = within
  bundles_within (Commanded (Unconfigure pid)) may = within
  bundles_within (Begin turn instance configuration consumer callback chosen) may = within
  bundles_within (End turn outcome) may = within
  bundles_within (Drained instance) may = within
  bundles_within (Got bundle service) may = within
  bundles_within (Released place) may = within

-- ---- services that commands registered

module _ (w : World) (within : length w.registry.rows ≤ 1024) where
  services_within : (step : Step) → MayCome w step → length (registry_by step w.registry).rows ≤ 1024
  services_within (Commanded (Install doc)) may = within
  services_within (Commanded (Update bundle doc)) may = within
  services_within (Commanded (Start bundle)) may = within
  services_within (Commanded (Stop bundle)) may = (let short = kept_short (λ (r : ServiceRow). not (r.bundle == bundle)) w.registry.rows in omega (arith, short, within))
  services_within (Commanded (Uninstall bundle)) may = within
  services_within (Commanded (Enable bundle name)) may = within
  services_within (Commanded (Disable bundle name)) may = within
  services_within (Commanded (Register bundle interfaces properties)) may = let a = no_bundle w bundle in let b = not_active w bundle in let o = refuse_if (nat_le 1024 (length w.registry.rows)) ServicesFull in
      one_longer w.registry.rows (new_row (w.registry.numbered + 1) bundle interfaces direct_scope properties true) 1023 (not_full (nat_le 1024 (length w.registry.rows)) ServicesFull
      (none_first (a ∷ b ∷ o ∷ []) (not_refused w (Register bundle interfaces properties) may).0 o (third a b o [])))
  services_within (Commanded (Unregister bundle service)) may = (let short = kept_short (λ (r : ServiceRow). not (has_number service r)) w.registry.rows in omega (arith, short, within))
  services_within (Commanded (SetProperties bundle service properties)) may = (let same = mapped_long (λ (r : ServiceRow). cond (has_number service r) (set_row properties r) r) w.registry.rows in omega (arith, same, within))
  services_within (Commanded (Get bundle service)) may = within
  services_within (Commanded (Unget bundle service)) may = within
  services_within (Commanded (Listen bundle test)) may = within
  services_within (Commanded (Unlisten listener)) may = within
  services_within (Commanded (Configure pid given)) may = within
  services_within (Commanded (ConfigureFactory factory name given)) may = within
  services_within (Commanded (Unconfigure pid)) may = within
  services_within (Begin turn instance configuration consumer callback chosen) may = within
  services_within (End turn outcome) may = within
  services_within (Drained instance) may = within
  services_within (Got bundle service) may = within
  services_within (Released place) may = within

-- ---- listeners

module _ (w : World) (changes : List Change) (within : length w.listeners.rows ≤ 64) where
  told : length (map (with_changes changes) w.listeners.rows) ≤ 64
  told = (let same = mapped_long (with_changes changes) w.listeners.rows in omega (arith, same, within))

  listeners_within : (step : Step) → MayCome w step → length (listeners_by step (after_changes changes w.listeners)).rows ≤ 64
  listeners_within (Commanded (Install doc)) may = told
  listeners_within (Commanded (Update bundle doc)) may = told
  listeners_within (Commanded (Start bundle)) may = told
  listeners_within (Commanded (Stop bundle)) may = (let short = kept_short (λ (l : Listener). not (l.bundle == bundle)) (map (with_changes changes) w.listeners.rows) in let low = told in omega (arith, short, low))
  listeners_within (Commanded (Uninstall bundle)) may = told
  listeners_within (Commanded (Enable bundle name)) may = told
  listeners_within (Commanded (Disable bundle name)) may = told
  listeners_within (Commanded (Register bundle interfaces properties)) may = told
  listeners_within (Commanded (Unregister bundle service)) may = told
  listeners_within (Commanded (SetProperties bundle service properties)) may = told
  listeners_within (Commanded (Get bundle service)) may = told
  listeners_within (Commanded (Unget bundle service)) may = told
  listeners_within (Commanded (Listen bundle test)) may = let a = no_bundle w bundle in let b = not_active w bundle in let o = refuse_if (nat_le 64 (length w.listeners.rows)) ListenersFull in
      one_longer (map (with_changes changes) w.listeners.rows) (record { number = w.listeners.numbered + 1; bundle = bundle; filter = test; events = [] }) 63 (ap (nat_le 64) (mapped_long (with_changes changes) w.listeners.rows) ∙ not_full (nat_le 64 (length w.listeners.rows)) ListenersFull
      (none_first (a ∷ b ∷ o ∷ []) (not_refused w (Listen bundle test) may).0 o (third a b o [])))
  listeners_within (Commanded (Unlisten listener)) may = (let short = kept_short (λ (l : Listener). not (l.number == listener)) (map (with_changes changes) w.listeners.rows) in let low = told in omega (arith, short, low))
  listeners_within (Commanded (Configure pid given)) may = told
  listeners_within (Commanded (ConfigureFactory factory name given)) may = told
  listeners_within (Commanded (Unconfigure pid)) may = told
  listeners_within (Begin turn instance configuration consumer callback chosen) may = told
  listeners_within (End turn outcome) may = told
  listeners_within (Drained instance) may = told
  listeners_within (Got bundle service) may = told
  listeners_within (Released place) may = told

-- ---- configurations

inserted_long : {X : Type 0} (before : X → X → Bool) (x : X) (xs : List X) → length (insert_by before x xs) ≡ length xs + 1
inserted_long before x [] = omega arith
inserted_long before x (y ∷ ys) = go (before x y) (inserted_long before x ys)
  where
    go : (b : Bool) → length (insert_by before x ys) ≡ length ys + 1 → length (cond b (x ∷ y ∷ ys) (y ∷ insert_by before x ys)) ≡ length (y ∷ ys) + 1
    go true rest = omega arith
    go false rest = omega (arith, rest)

-- what is found makes its list shorter where it goes
one_shorter : {X : Type 0} (t : X → Bool) (xs : List X) → is_none (find t xs) ≡ false → length (filter (λ x. not (t x)) xs) + 1 ≤ length xs
one_shorter t [] is = cc
one_shorter t (x ∷ xs) is = go (t x) is (one_shorter t xs)
  where
    go : (b : Bool) → is_none (cond b (Some x) (find t xs)) ≡ false → (is_none (find t xs) ≡ false → length (filter (λ y. not (t y)) xs) + 1 ≤ length xs) → length (cond (not b) (x ∷ filter (λ y. not (t y)) xs) (filter (λ y. not (t y)) xs)) + 1 ≤ length (x ∷ xs)
    go true found later = (let short = kept_short (λ y. not (t y)) xs in omega (arith, short))
    go false found later = (let short = later found in omega (arith, short))

set_within : (c : Configuration) (cs : List Configuration) → length cs ≤ 1024 → is_full c.pid cs ≡ false → length (with_configuration c cs) ≤ 1024
set_within c cs within is = go (is_none (of_pid c.pid cs)) refl is
  where
    long : length (with_configuration c cs) ≡ length (without_pid c.pid cs) + 1
    long = inserted_long pid_before c (without_pid c.pid cs)

    go : (b : Bool) → is_none (of_pid c.pid cs) ≡ b → (b && nat_le 1024 (length cs)) ≡ false → length (with_configuration c cs) ≤ 1024
    go true new full = (let low = leb-false 1024 (length cs) full in let short = kept_short (λ (d : Configuration). not (bytes_eq d.pid c.pid)) cs in let size = long in omega (arith, low, short, size))
    go false old full = (let short = one_shorter (λ (d : Configuration). bytes_eq d.pid c.pid) cs old in let size = long in omega (arith, short, size, within))

module _ (w : World) (within : length w.configurations ≤ 1024) where
  configurations_within : (step : Step) → MayCome w step → length (configurations_by step w.configurations) ≤ 1024
  configurations_within (Commanded (Install doc)) may = within
  configurations_within (Commanded (Update bundle doc)) may = within
  configurations_within (Commanded (Start bundle)) may = within
  configurations_within (Commanded (Stop bundle)) may = within
  configurations_within (Commanded (Uninstall bundle)) may = within
  configurations_within (Commanded (Enable bundle name)) may = within
  configurations_within (Commanded (Disable bundle name)) may = within
  configurations_within (Commanded (Register bundle interfaces properties)) may = within
  configurations_within (Commanded (Unregister bundle service)) may = within
  configurations_within (Commanded (SetProperties bundle service properties)) may = within
  configurations_within (Commanded (Get bundle service)) may = within
  configurations_within (Commanded (Unget bundle service)) may = within
  configurations_within (Commanded (Listen bundle test)) may = within
  configurations_within (Commanded (Unlisten listener)) may = within
  configurations_within (Commanded (Configure pid given)) may = let a = bad_pid pid in let b = refuse_if (not (is_empty (of_factory pid w.configurations))) FactoryClash in let o = configurations_full w pid in let d = components_full w (Configure pid given) in
      set_within (own_configuration pid given) w.configurations within (not_full (is_full pid w.configurations) ConfigurationsFull
      (none_first (a ∷ b ∷ o ∷ d ∷ []) (not_refused w (Configure pid given) may).0 o (third a b o (d ∷ []))))
  configurations_within (Commanded (ConfigureFactory factory name given)) may = let a = bad_pid factory in let b = bad_pid name in let k = refuse_if (is_some (of_pid factory w.configurations)) FactoryClash in
      let o = configurations_full w (factory_pid factory name) in let d = components_full w (ConfigureFactory factory name given) in
      set_within (factory_configuration factory name given) w.configurations within (not_full (is_full (factory_pid factory name) w.configurations) ConfigurationsFull
      (none_first (a ∷ b ∷ k ∷ o ∷ d ∷ []) (not_refused w (ConfigureFactory factory name given) may).0 o (fourth a b k o (d ∷ []))))
  configurations_within (Commanded (Unconfigure pid)) may = (let short = kept_short (λ (c : Configuration). not (bytes_eq c.pid pid)) w.configurations in omega (arith, short, within))
  configurations_within (Begin turn instance configuration consumer callback chosen) may = within
  configurations_within (End turn outcome) may = within
  configurations_within (Drained instance) may = within
  configurations_within (Got bundle service) may = within
  configurations_within (Released place) may = within

-- ---- all of them

-- the tables of bundles, services, configurations and listeners keep their limits
pub record HaveTablesWithin (w : World) : Type 0 where
  pub bundles : length w.bundles.rows ≤ 128
  pub services : length w.registry.rows ≤ 1024
  pub configurations : length w.configurations ≤ 1024
  pub listeners : length w.listeners.rows ≤ 64

pub legal_within : (limit : ℕ) (past : History) → IsLegal limit past → HaveTablesWithin (world_of past)
unfolding world_of world_after_entry world_after_step
legal_within limit [] legal = record { bundles = omega arith; services = omega arith; configurations = omega arith; listeners = omega arith }
legal_within limit (entry ∷ past) legal = let w = world_of past in let was = legal_within limit past legal.1 in record {
  bundles = (let same = mapped_long (resolved_among entry.stopped) (bundles_by entry.step w.bundles).rows in let low = bundles_within w was.bundles entry.step legal.0.step in omega (arith, same, low));
  services = services_within w was.services entry.step legal.0.step;
  configurations = configurations_within w was.configurations entry.step legal.0.step;
  listeners = listeners_within w (changes_between w (with_lists_of entry (world_after_step entry.step w))) was.listeners entry.step legal.0.step;
}
