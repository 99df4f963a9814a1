-- The world of every legal journal is sound.
use Rattle.std.proofs.Common.{◌≡◌, ◌<◌, ℕ, ◌+◌, List, [], ◌∷◌, ◌++◌, ap, sym, ◌∙◌, refl, subst, cond, arith, Bool, true, false, ◌&&◌, ◌||◌, inl, inr, ◌⊎◌, Option, Some, None}
use Rattle.std.specs.Prelude.{filter, find, map, nat_lt, not, option_map, option_and_then, ◌==◌}
use Rattle.std.specs.List.{Contains, list_any}
use Rattle.std.specs.Option.{option_map_or}
use Rattle.std.proofs.lemmas.Bool.{and_from, and_parts, both_ways, cases_Bool, eq-eqb, eqb-true}
use Rattle.bundle_life.specs.declared.bundle.BundleLife.{BundleLife}
use Rattle.bundle_life.specs.declared.bundle.BundleState.{BundleState}
use Rattle.bundle_life.specs.declared.bundle.BundleState.TheVariants.{Installed, Resolved, Stopping, Active}
use Rattle.bundle_life.specs.Lives.{bundle_of, in_state, is_active, is_stopping, renamed, resolved_among, state_number}
use Rattle.callback_orders.specs.declared.callback.Callback.{Callback}
use Rattle.callback_orders.specs.declared.callback.Callback.TheVariants.{Create, Bind, Updated, Unbind, Activate, Modified, Deactivate, Destroy}
use Rattle.component_state.specs.declared.component.Component.{Component}
use Rattle.component_state.specs.declared.open_period.OpenPeriod.{OpenPeriod}
use Rattle.component_state.specs.declared.origin.Choice.{Choice}
use Rattle.component_state.specs.declared.origin.Origin.{Origin}
use Rattle.callback_orders.specs.declared.word.Called.{Called}
use Rattle.callback_orders.specs.Sequences.{begun}
use Rattle.callback_orders.specs.Lives.{goes_on, is_living}
use Rattle.component_state.specs.Periods.{open_after, opened_at}
use Rattle.component_state.specs.Rows.{period_with_properties, with_present_properties}
use Rattle.journal_core.specs.declared.entry.Opened.{Opened}
use Rattle.scr_laws.specs.Askeds.{IsAsked, asked_in}
use Rattle.scr_laws.specs.Sound.{IsSound}
use Rattle.scr_world.specs.Consequences.{has_stopped, keeps_bundle, stopped_by, stopped_in}
use Rattle.scr_world.specs.Dues.{due_in, next_begin}
use Rattle.scr_world.specs.Lists.{world_after_entry, world_of}
use Rattle.scr_world.specs.Steps.{History}
use Rattle.scr_laws.proofs.Calm.{found_of, one_of_number}
use Rattle.scr_laws.proofs.Histories.{legal_is_asked}
use Rattle.scr_laws.proofs.LegalCalm.{begun_so}
use Rattle.scr_laws.proofs.OpensFirst.{opens_first}
use Rattle.component_state.proofs.Numbering.{apart_numbered, kept_name}
use Rattle.component_state.specs.ComponentConfigurations.{component_after, new_components, with_numbers}
use Rattle.component_state.specs.Components.{are_numbered, component_of, declaring_bundle}
use Rattle.journal_core.specs.declared.entry.Entry.{Entry}
use Rattle.osgi_version.specs.declared.version.Version.{Version}
use Rattle.prop_map.specs.Words.{has}
use Rattle.scr_world.specs.declared.command.Command.{Command}
use Rattle.scr_world.specs.declared.command.Command.TheVariants.{Install, Update, Start, Stop, Uninstall, Enable, Disable, Register, Unregister, SetProperties, Get, Unget, Listen, Unlisten, Configure, ConfigureFactory, Unconfigure}
use Rattle.scr_world.specs.declared.contents.Contents.{Contents}
use Rattle.scr_world.specs.declared.instance.Instance.{Instance}
use Rattle.scr_world.specs.declared.reply.CoreFault.{CoreFault}
use Rattle.scr_world.specs.declared.step.Step.{Step}
use Rattle.scr_world.specs.declared.step.Step.TheVariants.{Command as Commanded, Begin, End, Drained, Got, Released}
use Rattle.scr_world.specs.declared.world.World.{World}
use Rattle.bundle_doc.specs.declared.document.BundleDoc.{BundleDoc}
use Rattle.scr_world.specs.declared.reply.CoreFault.TheVariants.{WrongState, Stopping as StoppingStill}
use Rattle.scr_world.specs.Refusals.{lowest_keeping, no_bundle, refuse_if, same_name, cyclic, descriptions_with, still_active, still_stopping}
use Rattle.scr_world.specs.Instances.{BeforeTurn, created_at, drained_in, ended_in, has_turn, lives_on, with_callback_begun, with_effect_of_begin, with_outcome}
use Rattle.scr_world.specs.Legal.{IsLegal, IsOpenFromScratch, MayCome}
use Rattle.scr_world.specs.Stepping.{before_turn, component_configurations_by, components_by, counted_components, instances_by, instances_told, is_counted, periods_with, world_after_step}
use Rattle.scr_world.specs.Tables.{bundles_by, configurations_by, contents_with, documents_by, flagged, replaced, set_back}
use Rattle.component_state.proofs.Apart.{any_found, any_from, keyed, not_true, or_true, in_either, in_left, in_none, in_rest, in_first, kept_from, kept_was}
use Rattle.scr_laws.proofs.Described.{flagged_keeps, into_flat, legal_in_order, none_first, not_refused, replaced_keeps, second}
use Rattle.scr_laws.proofs.Documents.{IsActive, IsDocumented, asked_was, kept_lives, mapped_documented, numbered_was, set_back_keeps}
use Rattle.scr_laws.proofs.Ends.{either_of, taken_life}
use Rattle.scr_laws.proofs.Legal.{AreWell, in_map, legal_scratch, legal_well, open_lives, step_well}
use Rattle.scr_laws.proofs.Listed.{mapped_was, single}
use Rattle.scr_laws.proofs.StoppingBundles.{found_kept}

-- ---- where instances come from

-- the instance was there with its origin, or the step makes it
abbrev pub Came : Step → World → Instance → Type 0
Came step w i = ((j : Instance) × (Contains w.instances j × (j.origin ≡ i.origin)))
    ⊎ ((turn instance configuration consumer : ℕ) × ((chosen : List Choice) × ((step ≡ Begin turn instance configuration consumer Create chosen) × ((i.origin.configuration ≡ configuration) × (i.origin.created ≡ w.entries)))))

module _ (w : World) where
  from_map : (step : Step) (f : Instance → Instance) → ((i : Instance) → (f i).origin ≡ i.origin) → (i : Instance) → Contains (map f w.instances) i → Came step w i
  from_map step f same i h = let was = mapped_was f w.instances i h in inl (was.0, (was.1.0, sym (same was.0) ∙ ap (λ (j : Instance). j.origin) was.1.1))

  told_from : (turn instance configuration consumer : ℕ) (callback : Callback) (chosen : List Choice) (i : Instance) → Contains (map (with_callback_begun (before_turn w) turn instance callback) w.instances) i → Came (Begin turn instance configuration consumer callback chosen) w i
  told_from turn instance configuration consumer callback chosen = from_map (Begin turn instance configuration consumer callback chosen) (with_callback_begun (before_turn w) turn instance callback) (λ i. either_of (λ (j : Instance). j.origin) (i.number == instance) (with_effect_of_begin (before_turn w) callback _) i (taken_life (before_turn w) callback _))

  pub came_told : (step : Step) (i : Instance) → Contains (instances_told step w) i → Came step w i
  came_told (Commanded command) i h = inl (i, (h, refl))
  came_told (Begin turn instance configuration consumer Create chosen) i h = elim (in_either w.instances _ i h) [
    | inl old ↦ inl (i, (old, refl))
    | inr new ↦ (let same = single (created_at (before_turn w) turn instance configuration consumer chosen) i new in inr (turn, instance, configuration, consumer, (chosen, (refl, (ap (λ (j : Instance). j.origin.configuration) (sym same), ap (λ (j : Instance). j.origin.created) (sym same))))))
  ]
  came_told (Begin turn instance configuration consumer (Bind reference service) chosen) i h = told_from turn instance configuration consumer (Bind reference service) chosen i h
  came_told (Begin turn instance configuration consumer (Updated reference service) chosen) i h = told_from turn instance configuration consumer (Updated reference service) chosen i h
  came_told (Begin turn instance configuration consumer (Unbind reference service) chosen) i h = told_from turn instance configuration consumer (Unbind reference service) chosen i h
  came_told (Begin turn instance configuration consumer Activate chosen) i h = told_from turn instance configuration consumer Activate chosen i h
  came_told (Begin turn instance configuration consumer Modified chosen) i h = told_from turn instance configuration consumer Modified chosen i h
  came_told (Begin turn instance configuration consumer Deactivate chosen) i h = told_from turn instance configuration consumer Deactivate chosen i h
  came_told (Begin turn instance configuration consumer Destroy chosen) i h = told_from turn instance configuration consumer Destroy chosen i h
  came_told (End turn outcome) i h = from_map (End turn outcome) (ended_in turn outcome w.generations) (λ j. either_of (λ (k : Instance). k.origin) (has_turn turn j) (with_outcome outcome w.generations j) j refl) i h
  came_told (Drained instance) i h = from_map (Drained instance) (drained_in instance) (λ j. either_of (λ (k : Instance). k.origin) (j.number == instance) (record j { drained = true }) j refl) i h
  came_told (Got bundle service) i h = inl (i, (h, refl))
  came_told (Released place) i h = inl (i, (h, refl))

  pub told_of : (step : Step) (i : Instance) → Contains (instances_by step w) i → Contains (instances_told step w) i
  told_of (Commanded command) i h = h
  told_of (Begin turn instance configuration consumer callback chosen) i h = h
  told_of (End turn outcome) i h = (kept_was lives_on (instances_told (End turn outcome) w) i h).0
  told_of (Drained instance) i h = h
  told_of (Got bundle service) i h = h
  told_of (Released place) i h = h

  pub came : (step : Step) (i : Instance) → Contains (instances_by step w) i → Came step w i
  came step i h = came_told step i (told_of step i h)

-- ---- bundles that are active or stopping

abbrev pub is_up_state : BundleState → Bool
is_up_state s = is_active s || is_stopping s

abbrev pub up_bundle : BundleLife → Bool
up_bundle b = is_up_state b.state

abbrev pub is_up : List BundleLife → ℕ → Bool
is_up rows number = option_map_or up_bundle (bundle_of rows number) false

pub active_up : (rows : List BundleLife) (number : ℕ) → IsActive rows number → is_up rows number ≡ true
active_up rows number is = go (bundle_of rows number) is
  where
    state : (s : BundleState) → (state_number s == 32) ≡ true → is_up_state s ≡ true
    state Installed h = cc
    state Resolved h = cc
    state Stopping h = refl
    state Active h = refl

    go : (o : Option BundleLife) → (option_map_or (λ (b : BundleLife). state_number b.state) o 0 == 32) ≡ true → option_map_or up_bundle o false ≡ true
    go None h = cc
    go (Some b) h = state b.state h

-- what isn't refused for its state is neither
not_up : (w : World) (number : ℕ) → still_active w number ≡ None → still_stopping w number ≡ None → is_up w.bundles.rows number ≡ false
not_up w number active stopping = go (bundle_of w.bundles.rows number) active stopping
  where
    state : (s : BundleState) (a b : CoreFault) → cond (is_active s) (Some a) None ≡ None → cond (is_stopping s) (Some b) None ≡ None → is_up_state s ≡ false
    state Installed a b h k = refl
    state Resolved a b h k = refl
    state Stopping a b h k = cc
    state Active a b h k = cc

    go : (o : Option BundleLife) → option_and_then (λ (b : BundleLife). refuse_if (is_active b.state) (WrongState 32)) o ≡ None
        → option_and_then (λ (b : BundleLife). refuse_if (is_stopping b.state) (StoppingStill (lowest_keeping w number))) o ≡ None → option_map_or up_bundle o false ≡ false
    go None a s = refl
    go (Some b) a s = state b.state (WrongState 32) (StoppingStill (lowest_keeping w number)) a s

-- a bundle that is up and one that isn't are two
two : (rows : List BundleLife) (n k : ℕ) → is_up rows n ≡ true → is_up rows k ≡ false → (n == k) ≡ false
two rows n k up down = elim (cases_Bool (n == k)) [
  | inl same ↦ absurd (both_ways (is_up rows k) down (ap (is_up rows) (sym (eqb-true n k same)) ∙ up))
  | inr other ↦ other
]

-- changes of rows leave a bundle up
pub found_map : (f : BundleLife → BundleLife) → ((b : BundleLife) → (f b).number ≡ b.number) → (rows : List BundleLife) (number : ℕ) → bundle_of (map f rows) number ≡ option_map f (bundle_of rows number)
found_map f same [] number = refl
found_map f same (b ∷ bs) number = ap (λ n. cond (n == number) (Some (f b)) (bundle_of (map f bs) number)) (same b) ∙ go (b.number == number) (found_map f same bs number)
  where
    go : (k : Bool) → bundle_of (map f bs) number ≡ option_map f (bundle_of bs number) → cond k (Some (f b)) (bundle_of (map f bs) number) ≡ option_map f (cond k (Some b) (bundle_of bs number))
    go true rest = refl
    go false rest = rest

pub up_mapped : (f : BundleLife → BundleLife) → ((b : BundleLife) → (f b).number ≡ b.number) → (rows : List BundleLife) (number : ℕ)
    → ((b : BundleLife) → bundle_of rows number ≡ Some b → up_bundle b ≡ true → up_bundle (f b) ≡ true) → is_up rows number ≡ true → is_up (map f rows) number ≡ true
up_mapped f same rows number stays up = ap (λ o. option_map_or up_bundle o false) (found_map f same rows number) ∙ go (bundle_of rows number) refl up
  where
    go : (o : Option BundleLife) → bundle_of rows number ≡ o → option_map_or up_bundle o false ≡ true → option_map_or up_bundle (option_map f o) false ≡ true
    go None is h = cc
    go (Some b) is h = stays b is h

pub found_number : (rows : List BundleLife) (number : ℕ) (b : BundleLife) → bundle_of rows number ≡ Some b → b.number ≡ number
found_number [] number b is = cc
found_number (c ∷ cs) number b is = go (c.number == number) refl is (found_number cs number b)
  where
    go : (k : Bool) → (c.number == number) ≡ k → cond k (Some c) (bundle_of cs number) ≡ Some b → (bundle_of cs number ≡ Some b → b.number ≡ number) → b.number ≡ number
    go true on h rest = let same : c ≡ b = cc in ap (λ (x : BundleLife). x.number) (sym same) ∙ eqb-true c.number number on
    go false off h rest = rest h

up_added : (rows more : List BundleLife) (number : ℕ) → is_up rows number ≡ true → is_up (rows ++ more) number ≡ true
up_added [] more number up = cc
up_added (b ∷ bs) more number up = go (b.number == number) up (up_added bs more number)
  where
    go : (k : Bool) → option_map_or up_bundle (cond k (Some b) (bundle_of bs number)) false ≡ true → (is_up bs number ≡ true → is_up (bs ++ more) number ≡ true) → option_map_or up_bundle (cond k (Some b) (bundle_of (bs ++ more) number)) false ≡ true
    go true h rest = h
    go false h rest = rest h

in_state_number : (k : ℕ) (s : BundleState) (b : BundleLife) → (in_state k s b).number ≡ b.number
in_state_number k s b = go (b.number == k)
  where
    go : (v : Bool) → (cond v (record b { state = s }) b).number ≡ b.number
    go true = refl
    go false = refl

in_state_up : (k : ℕ) (s : BundleState) → is_up_state s ≡ true → (b : BundleLife) → up_bundle b ≡ true → up_bundle (in_state k s b) ≡ true
in_state_up k s up b was = go (b.number == k)
  where
    go : (v : Bool) → up_bundle (cond v (record b { state = s }) b) ≡ true
    go true = up
    go false = was

renamed_number : (k : ℕ) (name : List ℕ) (version : Version) (b : BundleLife) → (renamed k name version b).number ≡ b.number
renamed_number k name version b = go (b.number == k)
  where
    go : (v : Bool) → (cond v (record b { name = name; version = version; state = Installed }) b).number ≡ b.number
    go true = refl
    go false = refl

pub resolved_number : (ns : List ℕ) (b : BundleLife) → (resolved_among ns b).number ≡ b.number
resolved_number ns b = go (has ns b.number)
  where
    go : (v : Bool) → (cond v (record b { state = Resolved }) b).number ≡ b.number
    go true = refl
    go false = refl

third : (a b o : Option CoreFault) (os : List (Option CoreFault)) → Contains (a ∷ b ∷ o ∷ os) o
third a b o os = in_rest a (b ∷ o ∷ os) o (second b o os)

-- what a command that may come leaves alone: a bundle that is up isn't updated or uninstalled
update_two : (w : World) (bundle : ℕ) (doc : BundleDoc) (n : ℕ) → MayCome w (Commanded (Update bundle doc)) → is_up w.bundles.rows n ≡ true → (n == bundle) ≡ false
update_two w bundle doc n may up = let none = (not_refused w (Update bundle doc) may).0 in
    let all = no_bundle w bundle ∷ still_active w bundle ∷ still_stopping w bundle ∷ same_name w doc bundle ∷ cyclic (descriptions_with w doc bundle) ∷ [] in
    two w.bundles.rows n bundle up (not_up w bundle (none_first all none (still_active w bundle) (second (no_bundle w bundle) (still_active w bundle) (still_stopping w bundle ∷ same_name w doc bundle ∷ cyclic (descriptions_with w doc bundle) ∷ [])))
    (none_first all none (still_stopping w bundle) (third (no_bundle w bundle) (still_active w bundle) (still_stopping w bundle) (same_name w doc bundle ∷ cyclic (descriptions_with w doc bundle) ∷ []))))

uninstall_two : (w : World) (bundle n : ℕ) → MayCome w (Commanded (Uninstall bundle)) → is_up w.bundles.rows n ≡ true → (n == bundle) ≡ false
uninstall_two w bundle n may up = let none = (not_refused w (Uninstall bundle) may).0 in
    let all = no_bundle w bundle ∷ still_active w bundle ∷ still_stopping w bundle ∷ [] in
    two w.bundles.rows n bundle up (not_up w bundle (none_first all none (still_active w bundle) (second (no_bundle w bundle) (still_active w bundle) (still_stopping w bundle ∷ [])))
    (none_first all none (still_stopping w bundle) (third (no_bundle w bundle) (still_active w bundle) (still_stopping w bundle) [])))

other_way : (n k : ℕ) → (n == k) ≡ false → (k == n) ≡ false
other_way n k off = elim (cases_Bool (k == n)) [ inl same ↦ absurd (both_ways (n == k) off (eq-eqb n k (sym (eqb-true k n same)))) | inr other ↦ other ]

-- a bundle that is up is up after a command
pub up_commanded : (command : Command) (w : World) → MayCome w (Commanded command) → (n : ℕ) → is_up w.bundles.rows n ≡ true → is_up (bundles_by (Commanded command) w.bundles).rows n ≡ true
up_commanded (Install doc) w may n up = up_added w.bundles.rows _ n up
up_commanded (Update bundle doc) w may n up =
    up_mapped (renamed bundle doc.name doc.version) (renamed_number bundle doc.name doc.version) w.bundles.rows n
    (λ b is was. ap (λ v. up_bundle (cond v (record b { name = doc.name; version = doc.version; state = Installed }) b)) (ap (λ m. m == bundle) (found_number w.bundles.rows n b is) ∙ update_two w bundle doc n may up) ∙ was) up
up_commanded (Uninstall bundle) w may n up =
    ap (λ o. option_map_or up_bundle o false) (found_kept (λ (b : BundleLife). b.number == n) (λ (b : BundleLife). not (b.number == bundle)) w.bundles.rows
    (λ b is. ap not (ap (λ m. m == bundle) (eqb-true b.number n is) ∙ uninstall_two w bundle n may up))) ∙ up
up_commanded (Start bundle) w may n up = up_mapped (in_state bundle Active) (in_state_number bundle Active) w.bundles.rows n (λ b is was. in_state_up bundle Active refl b was) up
up_commanded (Stop bundle) w may n up = up_mapped (in_state bundle Stopping) (in_state_number bundle Stopping) w.bundles.rows n (λ b is was. in_state_up bundle Stopping refl b was) up
up_commanded (Enable bundle name) w may n up = up
up_commanded (Disable bundle name) w may n up = up
up_commanded (Register bundle interfaces properties) w may n up = up
up_commanded (Unregister bundle service) w may n up = up
up_commanded (SetProperties bundle service properties) w may n up = up
up_commanded (Get bundle service) w may n up = up
up_commanded (Unget bundle service) w may n up = up
up_commanded (Listen bundle test) w may n up = up
up_commanded (Unlisten listener) w may n up = up
up_commanded (Configure pid given) w may n up = up
up_commanded (ConfigureFactory factory name given) w may n up = up
up_commanded (Unconfigure pid) w may n up = up

-- and who is of it has its description in the documents after it
documented_after : (command : Command) (w : World) (next : ℕ) (c : Component) → MayCome w (Commanded command) → IsDocumented w.documents c → is_up w.bundles.rows c.bundle ≡ true → IsDocumented (documents_by (Commanded command) next w.documents) c
documented_after (Install doc) w next c may is up = (is.0, in_left w.documents (contents_with next doc ∷ []) is.0 is.1, is.2, is.3)
documented_after (Update bundle doc) w next c may is up = (
  is.0,
  subst (λ t. Contains (map (replaced bundle doc) w.documents) t)
      (replaced_keeps bundle doc is.0 (ap (λ n. n == bundle) is.2 ∙ update_two w bundle doc c.bundle may up)) (in_map (replaced bundle doc) w.documents is.0 is.1),
  is.2,
  is.3,
)
documented_after (Uninstall bundle) w next c may is up = (is.0, kept_from (λ (t : Contents). not (t.bundle == bundle)) w.documents is.0 is.1 (ap not (ap (λ n. n == bundle) is.2 ∙ uninstall_two w bundle c.bundle may up)), is.2, is.3)
documented_after (Start bundle) w next c may is up = mapped_documented (set_back bundle) w.documents c (λ t same. set_back_keeps bundle t) is
documented_after (Enable bundle name) w next c may is up = mapped_documented (flagged bundle name true) w.documents c (λ t same. flagged_keeps bundle name true t) is
documented_after (Disable bundle name) w next c may is up = mapped_documented (flagged bundle name false) w.documents c (λ t same. flagged_keeps bundle name false t) is
documented_after (Stop bundle) w next c may is up = is
documented_after (Register bundle interfaces properties) w next c may is up = is
documented_after (Unregister bundle service) w next c may is up = is
documented_after (SetProperties bundle service properties) w next c may is up = is
documented_after (Get bundle service) w next c may is up = is
documented_after (Unget bundle service) w next c may is up = is
documented_after (Listen bundle test) w next c may is up = is
documented_after (Unlisten listener) w next c may is up = is
documented_after (Configure pid given) w next c may is up = is
documented_after (ConfigureFactory factory name given) w next c may is up = is
documented_after (Unconfigure pid) w next c may is up = is

-- ---- component configurations have their descriptions, and instances their homes

abbrev pub Home : List BundleLife → List Component → Instance → Type 0
Home rows cs i = (c : Component) × (Contains cs c × ((c.number ≡ i.origin.configuration) × (is_up rows c.bundle ≡ true)))

pub record AreHoused (rows : List BundleLife) (documents : List Contents) (cs : List Component) (is : List Instance) : Type 0 where
  pub documented : (c : Component) → Contains cs c → IsDocumented documents c
  pub homes : (i : Instance) → Contains is i → Home rows cs i

as_named : (documents : List Contents) (a c : Component) → c.bundle ≡ a.bundle → c.description ≡ a.description → IsDocumented documents a → IsDocumented documents c
as_named documents a c bundle description is = (is.0, is.1, is.2 ∙ sym bundle, subst (λ d. Contains is.0.document.descriptions d) (sym description) is.3)

module _ (w : World) (numbered : are_numbered w.components ≡ true) (asked : IsAsked w) (scratch : IsOpenFromScratch w) (well : AreWell w.components w.components_numbered w.open_periods)
    (earlier : (p : OpenPeriod) → Contains w.open_periods p → p.opened < w.entries) (housed : AreHoused w.bundles.rows w.documents w.components w.instances) where
  -- what exists is of an active bundle
  pub exists_up : (c : Component) → Contains w.components c → c.exists ≡ true → is_up w.bundles.rows c.bundle ≡ true
  exists_up c here on =
      let a = (kept_lives 0 (asked_in w) c (ap (λ (x : Component). x.exists) (asked.components.stand 0 c here) ∙ on)).1 in
      ap (is_up w.bundles.rows) a.2 ∙ active_up w.bundles.rows a.0.bundle (asked_was w.bundles.rows w.documents w.configurations a.0 a.1).1

  counted_up : (c : Component) → Contains (counted_components w) c → is_up w.bundles.rows c.bundle ≡ true
  counted_up c h = go (cases_Bool c.exists)
    where
      was : Contains w.components c × (is_counted w.instances c ≡ true)
      was = kept_was (is_counted w.instances) w.components c h

      go : (c.exists ≡ true) ⊎ (c.exists ≡ false) → is_up w.bundles.rows c.bundle ≡ true
      go (inl on) = exists_up c was.0 on
      go (inr off) =
          let found = any_found (λ (i : Instance). i.origin.configuration == c.number) w.instances (sym (ap (λ b. b || list_any (λ (i : Instance). i.origin.configuration == c.number) w.instances) off) ∙ was.1) in
          let home = housed.homes found.0 found.1 in
          let same = one_of_number w.components numbered home.0 c home.1.0 was.0 (home.1.1.0 ∙ eqb-true found.0.origin.configuration c.number found.2) in
          ap (is_up w.bundles.rows) (ap (λ (x : Component). x.bundle) (sym same)) ∙ home.1.1.1

  has_instance_counted : (c : Component) → Contains w.components c → (i : Instance) → Contains w.instances i → c.number ≡ i.origin.configuration → Contains (counted_components w) c
  has_instance_counted c there i here same = kept_from (is_counted w.instances) w.components c there
      (ap (λ b. c.exists || b) (any_from (λ (j : Instance). j.origin.configuration == c.number) w.instances i here (eq-eqb i.origin.configuration c.number (sym same))) ∙ or_true c.exists)

  commanded_housed : (command : Command) → MayCome w (Commanded command) → AreHoused (bundles_by (Commanded command) w.bundles).rows (documents_by (Commanded command) (w.bundles.numbered + 1) w.documents) (components_by (Commanded command) w) w.instances
  commanded_housed command may = record {
    documented = λ c h. elim (in_either (map (component_after w.entries these) (counted_components w)) (with_numbers (w.components_numbered + 1) (new_components (counted_components w) these)) c h) [
      | inl old ↦ old_one c (mapped_was (component_after w.entries these) (counted_components w) c old)
      | inr new ↦ (let found = numbered_was (w.components_numbered + 1) (new_components (counted_components w) these) c new in
          as_named documents found.0 c found.2 found.3 (asked_was (bundles_by (Commanded command) w.bundles).rows documents (configurations_by (Commanded command) w.configurations) found.0 (kept_was _ these found.0 found.1).0).0)
    ];
    homes = λ i h. let home = housed.homes i h in
        let name = kept_name w.entries these home.0 in (
          component_after w.entries these home.0,
          (
            in_left (map (component_after w.entries these) (counted_components w)) (with_numbers (w.components_numbered + 1) (new_components (counted_components w) these)) (component_after w.entries these home.0)
                (in_map (component_after w.entries these) (counted_components w) home.0 (has_instance_counted home.0 home.1.0 i h home.1.1.0)),
            (name.number ∙ home.1.1.0, ap (is_up (bundles_by (Commanded command) w.bundles).rows) name.bundle ∙ up_commanded command w may home.0.bundle home.1.1.1),
          ),
        );
  }
    where
      these : List Component
      these = component_configurations_by (Commanded command) w

      documents : List Contents
      documents = documents_by (Commanded command) (w.bundles.numbered + 1) w.documents

      old_one : (c : Component) → (k : Component) × (Contains (counted_components w) k × (component_after w.entries these k ≡ c)) → IsDocumented documents c
      old_one c found =
          let name = kept_name w.entries these found.0 in
          as_named documents found.0 c (ap (λ (x : Component). x.bundle) (sym found.1.1) ∙ name.bundle) (ap (λ (x : Component). x.description) (sym found.1.1) ∙ name.description)
          (documented_after command w (w.bundles.numbered + 1) found.0 may (housed.documented found.0 (kept_was (is_counted w.instances) w.components found.0 found.1.0).0) (counted_up found.0 found.1.0))

  -- the instance of a Create that begins is of an active bundle
  made_home : (turn instance configuration consumer : ℕ) (chosen : List Choice) → next_begin w ≡ Some (Begin turn instance configuration consumer Create chosen) → (i : Instance) → i.origin.configuration ≡ configuration → Home w.bundles.rows w.components i
  made_home turn instance configuration consumer chosen e i is =
      let current = (begun_so w turn instance configuration consumer chosen (opens_first w) earlier (due_in w) refl e).1 in
      let p = any_found (λ (q : OpenPeriod). (q.configuration == configuration) && nat_lt q.opened w.entries) w.open_periods current in
      let same = eqb-true p.0.configuration configuration (and_parts (p.0.configuration == configuration) (nat_lt p.0.opened w.entries) p.2).0 in
      let c = open_lives w scratch p.0 p.1 in
      (c.0, (c.1, (sym c.3 ∙ same ∙ sym is, exists_up c.0 c.1 c.2)))

  turn_housed : (step : Step) → MayCome w step → (i : Instance) → Contains (instances_by step w) i → Came step w i → Home w.bundles.rows w.components i
  turn_housed step may i h (inl old) = let home = housed.homes old.0 old.1.0 in (home.0, (home.1.0, (home.1.1.0 ∙ ap (λ (o : Origin). o.configuration) old.1.1, home.1.1.1)))
  turn_housed step may i h (inr new) = made_home new.0 new.1 new.2 new.3 new.4.0 (subst (λ s. MayCome w s) new.4.1.0 may) i new.4.1.1.0

  pub step_housed : (step : Step) → MayCome w step → AreHoused (bundles_by step w.bundles).rows (documents_by step (w.bundles.numbered + 1) w.documents) (components_by step w) (instances_by step w)
  step_housed (Commanded command) may = commanded_housed command may
  step_housed (Begin turn instance configuration consumer callback chosen) may = let step = Begin turn instance configuration consumer callback chosen in record { documented = housed.documented; homes = λ i h. turn_housed step may i h (came w step i h) }
  step_housed (End turn outcome) may = let step = End turn outcome in record { documented = housed.documented; homes = λ i h. turn_housed step may i h (came w step i h) }
  step_housed (Drained instance) may = let step = Drained instance in record { documented = housed.documented; homes = λ i h. turn_housed step may i h (came w step i h) }
  step_housed (Got bundle service) may = let step = Got bundle service in record { documented = housed.documented; homes = λ i h. turn_housed step may i h (came w step i h) }
  step_housed (Released place) may = let step = Released place in record { documented = housed.documented; homes = λ i h. turn_housed step may i h (came w step i h) }

-- the end of stopping leaves the homes of instances
rested_housed : (rows : List BundleLife) (documents : List Contents) (cs : List Component) (is : List Instance) → are_numbered cs ≡ true → AreHoused rows documents cs is
    → AreHoused (map (resolved_among (map (λ (b : BundleLife). b.number) (filter (has_stopped cs is) rows))) rows) documents cs is
rested_housed rows documents cs is numbered housed = record { documented = housed.documented; homes = λ i h. stay i h (housed.homes i h) }
  where
    ns : List ℕ
    ns = map (λ (b : BundleLife). b.number) (filter (has_stopped cs is) rows)

    stay : (i : Instance) → Contains is i → Home rows cs i → Home (map (resolved_among ns) rows) cs i
    stay i h home = (
      home.0,
      (
        home.1.0,
        (
          home.1.1.0,
          up_mapped (resolved_among ns) (resolved_number ns) rows home.0.bundle
              (λ b found was. ap (λ v. up_bundle (cond v (record b { state = Resolved }) b)) (ap (has ns) (found_number rows home.0.bundle b found) ∙ none) ∙ was) home.1.1.1,
        ),
      ),
    )
      where
        kept : list_any (keeps_bundle cs home.0.bundle) is ≡ true
        kept = any_from (keeps_bundle cs home.0.bundle) is i h
            (ap (λ b. b || (i.consumer == home.0.bundle)) (eq-eqb (declaring_bundle cs i.origin.configuration) home.0.bundle
            (ap (declaring_bundle cs) (sym home.1.1.0) ∙ ap (λ o. option_map_or (λ (c : Component). c.bundle) o 0) (found_of cs numbered home.0 home.1.0))))

        none : has ns home.0.bundle ≡ false
        none = elim (cases_Bool (has ns home.0.bundle)) [
          | inl on ↦ absurd (wrong on)
          | inr off ↦ off
        ]
          where
            wrong : has ns home.0.bundle ≡ true → ⊥
            wrong on =
                let b = keyed (λ (x : BundleLife). x.number) (filter (has_stopped cs is) rows) home.0.bundle on in
                let test = (kept_was (has_stopped cs is) rows b.0 b.1).1 in
                both_ways (list_any (keeps_bundle cs b.0.number) is) (not_true (list_any (keeps_bundle cs b.0.number) is) (and_parts (is_stopping b.0.state) (not (list_any (keeps_bundle cs b.0.number) is)) test).1) (ap (λ n. list_any (keeps_bundle cs n) is) b.2 ∙ kept)

-- ---- all of it

earlier_after : (place : ℕ) (cs : List Component) (closed : List ℕ) (opened : List Opened) (before : List OpenPeriod) → ((p : OpenPeriod) → Contains before p → p.opened < place) → (p : OpenPeriod) → Contains (open_after place cs closed opened before) p → p.opened < place + 1
earlier_after place cs closed opened before each p h = elim (in_either (filter (λ (q : OpenPeriod). not (has closed q.configuration)) before) (map (opened_at place cs) opened) p h) [
  | inl old ↦ (let low = each p (kept_was (λ (q : OpenPeriod). not (has closed q.configuration)) before p old).0 in omega (arith, low))
  | inr new ↦ (let was = mapped_was (opened_at place cs) opened p new in let same = ap (λ (q : OpenPeriod). q.opened) was.1.1 in omega (arith, same))
]

renewed_earlier : (step : Step) (cs : List Component) (ps : List OpenPeriod) (place : ℕ) → ((p : OpenPeriod) → Contains ps p → p.opened < place) → (p : OpenPeriod) → Contains (periods_with step cs ps) p → p.opened < place
renewed_earlier (Commanded command) cs ps place each p h = let was = mapped_was (with_present_properties cs) ps p h in
    subst (λ n. n < place) (sym (opened_same was.0 (component_of cs was.0.configuration)) ∙ ap (λ (q : OpenPeriod). q.opened) was.1.1) (each was.0 was.1.0)
  where
    opened_same : (q : OpenPeriod) (o : Option Component) → (option_map_or (period_with_properties q) o q).opened ≡ q.opened
    opened_same q None = refl
    opened_same q (Some c) = refl
renewed_earlier (Begin turn instance configuration consumer callback chosen) cs ps place each p h = each p h
renewed_earlier (End turn outcome) cs ps place each p h = each p h
renewed_earlier (Drained instance) cs ps place each p h = each p h
renewed_earlier (Got bundle service) cs ps place each p h = each p h
renewed_earlier (Released place') cs ps place each p h = each p h

pub legal_earlier : (limit : ℕ) (past : History) → IsLegal limit past → (p : OpenPeriod) → Contains (world_of past).open_periods p → p.opened < (world_of past).entries
unfolding world_of world_after_entry world_after_step
legal_earlier limit [] legal p h = absurd (in_none p h)
legal_earlier limit (entry ∷ past) legal p h = let w = world_of past in
    earlier_after w.entries (components_by entry.step w) entry.closed entry.opened (periods_with entry.step (components_by entry.step w) w.open_periods)
    (renewed_earlier entry.step (components_by entry.step w) w.open_periods w.entries (legal_earlier limit past legal.1)) p h

pub created_by : (step : Step) (w : World) → ((i : Instance) → Contains w.instances i → i.origin.created < w.entries) → (i : Instance) → Contains (instances_by step w) i → i.origin.created < w.entries + 1
created_by step w each i h = elim (came w step i h) [
  | inl old ↦ (let low = each old.0 old.1.0 in let same = ap (λ (o : Origin). o.created) old.1.1 in omega (arith, low, same))
  | inr new ↦ (let same = new.4.1.1.1 in omega (arith, same))
]

pub legal_created : (limit : ℕ) (past : History) → IsLegal limit past → (i : Instance) → Contains (world_of past).instances i → i.origin.created < (world_of past).entries
unfolding world_of world_after_entry world_after_step
legal_created limit [] legal i h = absurd (in_none i h)
legal_created limit (entry ∷ past) legal i h = created_by entry.step (world_of past) (legal_created limit past legal.1) i h

pub legal_housed : (limit : ℕ) (past : History) → IsLegal limit past → AreHoused (world_of past).bundles.rows (world_of past).documents (world_of past).components (world_of past).instances
unfolding world_of world_after_entry world_after_step stopped_by stopped_in
legal_housed limit [] legal = record { documented = λ c h. absurd (in_none c h); homes = λ i h. absurd (in_none i h) }
legal_housed limit (entry ∷ past) legal =
    let w = world_of past in
    let well = legal_well limit past legal.1 in
    let scratch = legal_scratch limit past legal.1 in
    let housed = step_housed w (apart_numbered w.components well.apart) (legal_is_asked limit past legal.1) scratch well (legal_earlier limit past legal.1) (legal_housed limit past legal.1) entry.step legal.0.step in
    subst (λ ns. AreHoused (map (resolved_among ns) (bundles_by entry.step w.bundles).rows) (documents_by entry.step (w.bundles.numbered + 1) w.documents) (components_by entry.step w) (instances_by entry.step w)) (sym legal.0.stopped)
    (rested_housed (bundles_by entry.step w.bundles).rows (documents_by entry.step (w.bundles.numbered + 1) w.documents) (components_by entry.step w) (instances_by entry.step w)
    (apart_numbered (components_by entry.step w) (step_well entry.step w scratch well).apart) housed)

-- a callback that begins ends no instance
goes_on_begun : (callback : Callback) → goes_on callback None ≡ true
goes_on_begun Create = refl
goes_on_begun (Bind reference service) = refl
goes_on_begun (Updated reference service) = refl
goes_on_begun (Unbind reference service) = refl
goes_on_begun Activate = refl
goes_on_begun Modified = refl
goes_on_begun Deactivate = refl
goes_on_begun Destroy = refl

living_begun : (calls : List Called) (callback : Callback) → is_living calls ≡ true → is_living (calls ++ begun callback ∷ []) ≡ true
living_begun [] callback is = ap (λ b. b && true) (goes_on_begun callback)
living_begun (c ∷ cs) callback is = let both = and_parts (goes_on c.callback c.outcome) (is_living cs) is in and_from (goes_on c.callback c.outcome) (is_living (cs ++ begun callback ∷ [])) both.0 (living_begun cs callback both.1)

taken_calls : (m : BeforeTurn) (callback : Callback) (i : Instance) → (with_effect_of_begin m callback i).callbacks ≡ i.callbacks
taken_calls m Create i = refl
taken_calls m (Bind reference service) i = refl
taken_calls m (Updated reference service) i = refl
taken_calls m (Unbind reference service) i = refl
taken_calls m Activate i = refl
taken_calls m Modified i = refl
taken_calls m Deactivate i = refl
taken_calls m Destroy i = refl

module _ (w : World) (each : (i : Instance) → Contains w.instances i → lives_on i ≡ true) where
  mapped_lives : (f : Instance → Instance) → ((i : Instance) → lives_on i ≡ true → lives_on (f i) ≡ true) → (i : Instance) → Contains (map f w.instances) i → lives_on i ≡ true
  mapped_lives f stays i h = let was = mapped_was f w.instances i h in ap lives_on (sym was.1.1) ∙ stays was.0 (each was.0 was.1.0)

  told_lives : (turn instance : ℕ) (callback : Callback) (i : Instance) → Contains (map (with_callback_begun (before_turn w) turn instance callback) w.instances) i → lives_on i ≡ true
  told_lives turn instance callback = mapped_lives (with_callback_begun (before_turn w) turn instance callback) (λ i on. go i on (i.number == instance))
    where
      go : (i : Instance) → lives_on i ≡ true → (b : Bool) → lives_on (cond b (with_effect_of_begin (before_turn w) callback (record i { turn = turn; callbacks = i.callbacks ++ begun callback ∷ [] })) i) ≡ true
      go i on true = ap is_living (taken_calls (before_turn w) callback (record i { turn = turn; callbacks = i.callbacks ++ begun callback ∷ [] })) ∙ living_begun i.callbacks callback on
      go i on false = on

  drained_lives : (instance : ℕ) (i : Instance) → lives_on i ≡ true → lives_on (drained_in instance i) ≡ true
  drained_lives instance i on = go (i.number == instance)
    where
      go : (b : Bool) → lives_on (cond b (record i { drained = true }) i) ≡ true
      go true = on
      go false = on

  living_by : (step : Step) (i : Instance) → Contains (instances_by step w) i → lives_on i ≡ true
  living_by (Commanded command) i h = each i h
  living_by (Begin turn instance configuration consumer Create chosen) i h = elim (in_either w.instances _ i h) [
    | inl old ↦ each i old
    | inr new ↦ ap lives_on (sym (single (created_at (before_turn w) turn instance configuration consumer chosen) i new))
  ]
  living_by (Begin turn instance configuration consumer (Bind reference service) chosen) i h = told_lives turn instance (Bind reference service) i h
  living_by (Begin turn instance configuration consumer (Updated reference service) chosen) i h = told_lives turn instance (Updated reference service) i h
  living_by (Begin turn instance configuration consumer (Unbind reference service) chosen) i h = told_lives turn instance (Unbind reference service) i h
  living_by (Begin turn instance configuration consumer Activate chosen) i h = told_lives turn instance Activate i h
  living_by (Begin turn instance configuration consumer Modified chosen) i h = told_lives turn instance Modified i h
  living_by (Begin turn instance configuration consumer Deactivate chosen) i h = told_lives turn instance Deactivate i h
  living_by (Begin turn instance configuration consumer Destroy chosen) i h = told_lives turn instance Destroy i h
  living_by (End turn outcome) i h = (kept_was lives_on (instances_told (End turn outcome) w) i h).1
  living_by (Drained instance) i h = mapped_lives (drained_in instance) (drained_lives instance) i h
  living_by (Got bundle service) i h = each i h
  living_by (Released place) i h = each i h

legal_living : (limit : ℕ) (past : History) → IsLegal limit past → (i : Instance) → Contains (world_of past).instances i → lives_on i ≡ true
unfolding world_of world_after_entry world_after_step
legal_living limit [] legal i h = absurd (in_none i h)
legal_living limit (entry ∷ past) legal i h = living_by (world_of past) (legal_living limit past legal.1) entry.step i h

pub legal_sound : (limit : ℕ) (past : History) → IsLegal limit past → IsSound (world_of past)
legal_sound limit past legal = let w = world_of past in let well = legal_well limit past legal in let housed = legal_housed limit past legal in record {
  acyclic = (legal_in_order limit past legal).levels;
  numbered = apart_numbered w.components well.apart;
  described = λ c h. let is = housed.documented c h in into_flat (λ (t : Contents). t.document.descriptions) w.documents is.0 c.description is.1 is.3;
  periods = well.periods;
  plain = well.plain;
  earlier = legal_earlier limit past legal;
  scratch = legal_scratch limit past legal;
  living = legal_living limit past legal;
  created = legal_created limit past legal;
}
