-- In the world of every legal journal levels are right, and who lives has one of the descriptions: so the premises hold.
use Rattle.std.proofs.Common.{◌≡◌, ℕ, ◌+◌, List, [], ◌∷◌, ◌++◌, ap, sym, ◌∙◌, refl, subst, cond, Bool, true, false, length, ◌&&◌, inl, inr, ◌⊎◌, Some, None, Option}
use Rattle.std.specs.Prelude.{filter, map, not, ◌==◌, flat_map, is_none, is_some, nat_le}
use Rattle.std.specs.List.{Contains}
use Rattle.std.proofs.lemmas.Bool.{and_parts, eqb-true, cases_Bool}
use Rattle.bundle_doc.specs.declared.document.BundleDoc.{BundleDoc}
use Rattle.bundle_life.specs.declared.bundle.BundleLife.{BundleLife}
use Rattle.bundle_life.specs.Lives.{bundle_at}
use Rattle.component_dto.specs.declared.description.Description.{Description}
use Rattle.component_state.specs.declared.component.Component.{Component}
use Rattle.component_state.specs.ComponentConfigurations.{component_after, new_components, with_numbers}
use Rattle.level_order.specs.Levels.{AreLevels}
use Rattle.prop_map.specs.Words.{first_some}
use Rattle.scr_world.specs.declared.command.Command.{Command}
use Rattle.scr_world.specs.declared.command.Command.TheVariants.{Install, Update, Start, Stop, Uninstall, Enable, Disable, Register, Unregister, SetProperties, Get, Unget, Listen, Unlisten, Configure, ConfigureFactory, Unconfigure}
use Rattle.scr_world.specs.declared.reply.CoreFault.{CoreFault}
use Rattle.scr_world.specs.declared.reply.CoreFault.TheVariants.{Cycle, BundlesFull}
use Rattle.scr_world.specs.declared.step.Step.{Step}
use Rattle.scr_world.specs.declared.step.Step.TheVariants.{Command as Commanded, Begin, End, Drained, Got, Released}
use Rattle.scr_world.specs.declared.contents.Contents.{Contents}
use Rattle.scr_world.specs.declared.world.World.{World}
use Rattle.scr_world.specs.Legal.{IsLegal, MayCome}
use Rattle.scr_world.specs.Levels.{has_levels, levels_of}
use Rattle.scr_world.specs.Lists.{world_after_entry, world_of}
use Rattle.scr_world.specs.Refusals.{cyclic, descriptions_with, no_bundle, refusal, refuse_if, same_name, still_active, still_stopping}
use Rattle.scr_world.specs.Replies.{has_effect}
use Rattle.scr_world.specs.Room.{has_room}
use Rattle.scr_world.specs.Steps.{History}
use Rattle.scr_world.specs.Stepping.{component_configurations_by, components_by, is_counted, counted_components, world_after_step}
use Rattle.scr_world.specs.Tables.{bundles_by, configurations_by, contents_with, descriptions_of, documents_by, flagged, replaced, set_back, with_flag}
use Rattle.scr_laws.specs.Opens.{IsInOrder}
use Rattle.component_state.proofs.Apart.{in_cases, in_either, in_first, in_left, in_none, in_rest, in_right, kept_from, kept_was}
use Rattle.scr_laws.proofs.Documents.{IsActive, IsDocumented, asked_was, gone_rests, in_flat, kept_lives, mapped_documented, numbered_was, set_back_keeps, updated_rests}
use Rattle.scr_laws.proofs.Legal.{in_map, legal_well}
use Rattle.scr_laws.proofs.Levels.{fewer_right, tested_right}
use Rattle.component_state.proofs.Numbering.{apart_numbered, kept_name}
use Rattle.component_state.proofs.Plain.{in_mapped}

-- ---- documents by step

pub flagged_keeps : (bundle : ℕ) (name : List ℕ) (flag : Bool) (t : Contents) → ((flagged bundle name flag t).bundle ≡ t.bundle) × ((flagged bundle name flag t).document.descriptions ≡ t.document.descriptions)
flagged_keeps bundle name flag t = go (t.bundle == bundle)
  where
    go : (b : Bool) → ((cond b (record t { enabled = with_flag name flag t.document.descriptions t.enabled }) t).bundle ≡ t.bundle) × ((cond b (record t { enabled = with_flag name flag t.document.descriptions t.enabled }) t).document.descriptions ≡ t.document.descriptions)
    go true = (refl, refl)
    go false = (refl, refl)

pub replaced_keeps : (bundle : ℕ) (doc : BundleDoc) (t : Contents) → (t.bundle == bundle) ≡ false → replaced bundle doc t ≡ t
replaced_keeps bundle doc t off = ap (λ b. cond b (contents_with bundle doc) t) off

-- who is of a bundle that is active after a command has its description in the documents after it
stays : (command : Command) (w : World) (next : ℕ) (c : Component) → IsDocumented w.documents c → IsActive (bundles_by (Commanded command) w.bundles).rows c.bundle → IsDocumented (documents_by (Commanded command) next w.documents) c
stays (Install doc) w next c is now = (is.0, in_left w.documents (contents_with next doc ∷ []) is.0 is.1, is.2, is.3)
stays (Update bundle doc) w next c is now = go (cases_Bool (is.0.bundle == bundle))
  where
    go : ((is.0.bundle == bundle) ≡ true) ⊎ ((is.0.bundle == bundle) ≡ false) → IsDocumented (documents_by (Commanded (Update bundle doc)) next w.documents) c
    go (inl same) = absurd (updated_rests bundle doc.name doc.version w.bundles.rows (subst (λ n. IsActive (bundles_by (Commanded (Update bundle doc)) w.bundles).rows n) (sym is.2 ∙ eqb-true is.0.bundle bundle same) now))
    go (inr off) = (is.0, subst (λ t. Contains (map (replaced bundle doc) w.documents) t) (replaced_keeps bundle doc is.0 off) (in_map (replaced bundle doc) w.documents is.0 is.1), is.2, is.3)
stays (Uninstall bundle) w next c is now = go (cases_Bool (is.0.bundle == bundle))
  where
    go : ((is.0.bundle == bundle) ≡ true) ⊎ ((is.0.bundle == bundle) ≡ false) → IsDocumented (documents_by (Commanded (Uninstall bundle)) next w.documents) c
    go (inl same) = absurd (gone_rests bundle w.bundles.rows (subst (λ n. IsActive (bundles_by (Commanded (Uninstall bundle)) w.bundles).rows n) (sym is.2 ∙ eqb-true is.0.bundle bundle same) now))
    go (inr off) = (is.0, kept_from (λ (t : Contents). not (t.bundle == bundle)) w.documents is.0 is.1 (ap not off), is.2, is.3)
stays (Start bundle) w next c is now = mapped_documented (set_back bundle) w.documents c (λ t same. set_back_keeps bundle t) is
stays (Enable bundle name) w next c is now = mapped_documented (flagged bundle name true) w.documents c (λ t same. flagged_keeps bundle name true t) is
stays (Disable bundle name) w next c is now = mapped_documented (flagged bundle name false) w.documents c (λ t same. flagged_keeps bundle name false t) is
stays (Stop bundle) w next c is now = is
stays (Register bundle interfaces properties) w next c is now = is
stays (Unregister bundle service) w next c is now = is
stays (SetProperties bundle service properties) w next c is now = is
stays (Get bundle service) w next c is now = is
stays (Unget bundle service) w next c is now = is
stays (Listen bundle test) w next c is now = is
stays (Unlisten listener) w next c is now = is
stays (Configure pid given) w next c is now = is
stays (ConfigureFactory factory name given) w next c is now = is
stays (Unconfigure pid) w next c is now = is

-- ---- levels by step

append_again : {Y : Type 0} (xs ys zs : List Y) → xs ++ (ys ++ zs) ≡ (xs ++ ys) ++ zs
append_again [] ys zs = refl
append_again (x ∷ xs) ys zs = ap (λ ws. x ∷ ws) (append_again xs ys zs)

flat_over : {X Y : Type 0} (f : X → List Y) (xs ys : List X) → flat_map f (xs ++ ys) ≡ flat_map f xs ++ flat_map f ys
flat_over f [] ys = refl
flat_over f (x ∷ xs) ys = ap (λ zs. f x ++ zs) (flat_over f xs ys) ∙ append_again (f x) (flat_map f xs) (flat_map f ys)

pub into_flat : {X Y : Type 0} (f : X → List Y) (xs : List X) (x : X) (y : Y) → Contains xs x → Contains (f x) y → Contains (flat_map f xs) y
into_flat f [] x y h k = absurd (in_none x h)
into_flat f (z ∷ zs) x y h k = elim (in_cases z zs x h) [
  | inl same ↦ in_left (f z) (flat_map f zs) y (subst (λ v. Contains (f v) y) (sym same) k)
  | inr later ↦ in_right (f z) (flat_map f zs) y (into_flat f zs x y later k)
]

none_more : {X : Type 0} (xs : List X) → xs ++ [] ≡ xs
none_more [] = refl
none_more (x ∷ xs) = ap (λ ys. x ∷ ys) (none_more xs)

descriptions_same : (f : Contents → Contents) (documents : List Contents) → ((t : Contents) → (f t).document.descriptions ≡ t.document.descriptions) → descriptions_of (map f documents) ≡ descriptions_of documents
descriptions_same f [] each = refl
descriptions_same f (t ∷ ts) each = ap (λ ds. ds ++ descriptions_of (map f ts)) (each t) ∙ ap (λ ds. t.document.descriptions ++ ds) (descriptions_same f ts each)

-- of what isn't refused no refusal holds
pub none_first : (os : List (Option CoreFault)) → is_none (first_some os) ≡ true → (o : Option CoreFault) → Contains os o → o ≡ None
none_first [] is o h = absurd (in_none o h)
none_first (Some x ∷ os) is o h = cc
none_first (None ∷ os) is o h = elim (in_cases None os o h) [
  | inl same ↦ sym same
  | inr later ↦ none_first os is o later
]

pub second : (a o : Option CoreFault) (os : List (Option CoreFault)) → Contains (a ∷ o ∷ os) o
second a o os = in_rest a (o ∷ os) o (in_first o os)

fifth : (a b c d o : Option CoreFault) → Contains (a ∷ b ∷ c ∷ d ∷ o ∷ []) o
fifth a b c d o = in_rest a (b ∷ c ∷ d ∷ o ∷ []) o (in_rest b (c ∷ d ∷ o ∷ []) o (in_rest c (d ∷ o ∷ []) o (second d o [])))

not_cyclic : (ds : List Description) → cyclic ds ≡ None → has_levels ds ≡ true
not_cyclic ds is = go (has_levels ds) is
  where
    go : (b : Bool) → refuse_if (not b) (Cycle []) ≡ None → b ≡ true
    go true h = refl
    go false h = cc

AreRight : List Contents → Type 0
AreRight documents = AreLevels (descriptions_of documents) (levels_of (descriptions_of documents))

same_right : (these those : List Contents) → descriptions_of those ≡ descriptions_of these → AreRight these → AreRight those
unfolding AreRight
same_right these those same right = subst (λ ds. AreLevels ds (levels_of ds)) (sym same) right

pub not_refused : (w : World) (command : Command) → MayCome w (Commanded command) → (is_none (refusal w command) ≡ true) × (has_effect w command ≡ true)
not_refused w command may = (ap is_none may.0, may.1)

commanded_right : (w : World) (command : Command) (next : ℕ) → MayCome w (Commanded command) → AreRight w.documents → AreRight (documents_by (Commanded command) next w.documents)
unfolding AreRight
commanded_right w (Install doc) next may right = go (bundle_at w.bundles.rows doc.location) refl (not_refused w (Install doc) may).0 (not_refused w (Install doc) may).1
  where
    then_is : descriptions_of (w.documents ++ contents_with next doc ∷ []) ≡ descriptions_of w.documents ++ doc.descriptions
    then_is = flat_over (λ (t : Contents). t.document.descriptions) w.documents (contents_with next doc ∷ []) ∙ ap (λ ds. descriptions_of w.documents ++ ds) (none_more doc.descriptions)

    go : (o : Option BundleLife) → bundle_at w.bundles.rows doc.location ≡ o
        → is_none (first_some (cond (is_some o) [] (same_name w doc 0 ∷ cyclic (descriptions_of w.documents ++ doc.descriptions) ∷ refuse_if (nat_le 128 (length w.bundles.rows)) BundlesFull ∷ []))) ≡ true → is_none o ≡ true
        → AreLevels (descriptions_of (w.documents ++ contents_with next doc ∷ [])) (levels_of (descriptions_of (w.documents ++ contents_with next doc ∷ [])))
    go (Some b) at none fresh = cc
    go None at none fresh = subst (λ ds. AreLevels ds (levels_of ds)) (sym then_is) (tested_right (descriptions_of w.documents ++ doc.descriptions) (not_cyclic (descriptions_of w.documents ++ doc.descriptions)
        (none_first (same_name w doc 0 ∷ cyclic (descriptions_of w.documents ++ doc.descriptions) ∷ refuse_if (nat_le 128 (length w.bundles.rows)) BundlesFull ∷ []) none (cyclic (descriptions_of w.documents ++ doc.descriptions))
        (second (same_name w doc 0) (cyclic (descriptions_of w.documents ++ doc.descriptions)) (refuse_if (nat_le 128 (length w.bundles.rows)) BundlesFull ∷ [])))))
commanded_right w (Update bundle doc) next may right = tested_right (descriptions_with w doc bundle) (not_cyclic (descriptions_with w doc bundle)
    (none_first (no_bundle w bundle ∷ still_active w bundle ∷ still_stopping w bundle ∷ same_name w doc bundle ∷ cyclic (descriptions_with w doc bundle) ∷ []) (not_refused w (Update bundle doc) may).0 (cyclic (descriptions_with w doc bundle))
    (fifth (no_bundle w bundle) (still_active w bundle) (still_stopping w bundle) (same_name w doc bundle) (cyclic (descriptions_with w doc bundle)))))
commanded_right w (Uninstall bundle) next may right = fewer_right (descriptions_of w.documents) (descriptions_of (filter (λ (t : Contents). not (t.bundle == bundle)) w.documents)) right
    (λ d h. let found = in_flat (λ (t : Contents). t.document.descriptions) (filter (λ (t : Contents). not (t.bundle == bundle)) w.documents) d h in
    into_flat (λ (t : Contents). t.document.descriptions) w.documents found.0 d (kept_was (λ (t : Contents). not (t.bundle == bundle)) w.documents found.0 found.1).0 found.2)
commanded_right w (Start bundle) next may right = same_right w.documents (map (set_back bundle) w.documents) (descriptions_same (set_back bundle) w.documents (λ t. (set_back_keeps bundle t).1)) right
commanded_right w (Enable bundle name) next may right = same_right w.documents (map (flagged bundle name true) w.documents) (descriptions_same (flagged bundle name true) w.documents (λ t. (flagged_keeps bundle name true t).1)) right
commanded_right w (Disable bundle name) next may right = same_right w.documents (map (flagged bundle name false) w.documents) (descriptions_same (flagged bundle name false) w.documents (λ t. (flagged_keeps bundle name false t).1)) right
commanded_right w (Stop bundle) next may right = right
commanded_right w (Register bundle interfaces properties) next may right = right
commanded_right w (Unregister bundle service) next may right = right
commanded_right w (SetProperties bundle service properties) next may right = right
commanded_right w (Get bundle service) next may right = right
commanded_right w (Unget bundle service) next may right = right
commanded_right w (Listen bundle test) next may right = right
commanded_right w (Unlisten listener) next may right = right
commanded_right w (Configure pid given) next may right = right
commanded_right w (ConfigureFactory factory name given) next may right = right
commanded_right w (Unconfigure pid) next may right = right

-- ---- both, by step

record AreDescribed (documents : List Contents) (cs : List Component) : Type 0 where
  pub right : AreRight documents
  pub documented : (c : Component) → Contains cs c → c.exists ≡ true → IsDocumented documents c

commanded_described : (command : Command) (w : World) → MayCome w (Commanded command) → AreDescribed w.documents w.components → AreDescribed (documents_by (Commanded command) (w.bundles.numbered + 1) w.documents) (components_by (Commanded command) w)
commanded_described command w may was = record {
  right = commanded_right w command (w.bundles.numbered + 1) may was.right;
  documented = λ c h lives. elim (in_either (map (component_after w.entries (component_configurations_by (Commanded command) w)) (counted_components w)) (with_numbers (w.components_numbered + 1) (new_components (counted_components w) (component_configurations_by (Commanded command) w))) c h) [
    | inl old ↦ (let found = in_mapped (component_after w.entries (component_configurations_by (Commanded command) w)) (counted_components w) c old in
        old_one found.0 found.1 c found.2 lives)
    | inr new ↦ (let found = numbered_was (w.components_numbered + 1) (new_components (counted_components w) (component_configurations_by (Commanded command) w)) c new in
        let a = asked_was (bundles_by (Commanded command) w.bundles).rows (documents_by (Commanded command) (w.bundles.numbered + 1) w.documents) (configurations_by (Commanded command) w.configurations) found.0
        (kept_was _ (component_configurations_by (Commanded command) w) found.0 found.1).0 in
        as_named found.0 c found.2 found.3 a.0)
  ];
}
  where
    as_named : (a c : Component) → c.bundle ≡ a.bundle → c.description ≡ a.description → IsDocumented (documents_by (Commanded command) (w.bundles.numbered + 1) w.documents) a → IsDocumented (documents_by (Commanded command) (w.bundles.numbered + 1) w.documents) c
    as_named a c bundle description is = (is.0, is.1, is.2 ∙ sym bundle, subst (λ d. Contains is.0.document.descriptions d) (sym description) is.3)

    old_one : (c : Component) → Contains (counted_components w) c → (k : Component) → component_after w.entries (component_configurations_by (Commanded command) w) c ≡ k → k.exists ≡ true → IsDocumented (documents_by (Commanded command) (w.bundles.numbered + 1) w.documents) k
    old_one c here k is lives =
        let lived = kept_lives w.entries (component_configurations_by (Commanded command) w) c (ap (λ (x : Component). x.exists) is ∙ lives) in
        let a = asked_was (bundles_by (Commanded command) w.bundles).rows (documents_by (Commanded command) (w.bundles.numbered + 1) w.documents) (configurations_by (Commanded command) w.configurations) lived.1.0 lived.1.1 in
        let stay = stays command w (w.bundles.numbered + 1) c (was.documented c (kept_was (is_counted w.instances) w.components c here).0 lived.0) (subst (λ n. IsActive (bundles_by (Commanded command) w.bundles).rows n) (sym lived.1.2) a.1) in
        let name = kept_name w.entries (component_configurations_by (Commanded command) w) c in
        as_named c k (ap (λ (x : Component). x.bundle) (sym is) ∙ name.bundle) (ap (λ (x : Component). x.description) (sym is) ∙ name.description) stay

step_described : (step : Step) (w : World) → MayCome w step → AreDescribed w.documents w.components → AreDescribed (documents_by step (w.bundles.numbered + 1) w.documents) (components_by step w)
step_described (Commanded command) w may was = commanded_described command w may was
step_described (Begin turn instance configuration consumer callback chosen) w may was = was
step_described (End turn outcome) w may was = was
step_described (Drained instance) w may was = was
step_described (Got bundle service) w may was = was
step_described (Released place) w may was = was

legal_described : (limit : ℕ) (past : History) → IsLegal limit past → AreDescribed (world_of past).documents (world_of past).components
unfolding world_of world_after_entry world_after_step AreRight
legal_described limit [] legal = record { right = refl; documented = λ c h lives. absurd (in_none c h) }
legal_described limit (entry ∷ past) legal = step_described entry.step (world_of past) legal.0.step (legal_described limit past legal.1)

-- all premises hold in the world of every legal journal
pub legal_in_order : (limit : ℕ) (past : History) → IsLegal limit past → IsInOrder (world_of past)
unfolding AreRight
legal_in_order limit past legal = let well = legal_well limit past legal in let described = legal_described limit past legal in record {
  levels = described.right;
  numbered = apart_numbered (world_of past).components well.apart;
  described = λ c h. let lives = kept_was (λ (d : Component). d.exists) (world_of past).components c h in
      let is = described.documented c lives.0 lives.1 in
      into_flat (λ (t : Contents). t.document.descriptions) (world_of past).documents is.0 c.description is.1 is.3;
  periods = well.periods;
  plain = well.plain;
}

-- levels are right after a step too
pub right_after : (limit : ℕ) (past : History) → IsLegal limit past → (step : Step) → MayCome (world_of past) step
    → AreLevels (descriptions_of (documents_by step ((world_of past).bundles.numbered + 1) (world_of past).documents)) (levels_of (descriptions_of (documents_by step ((world_of past).bundles.numbered + 1) (world_of past).documents)))
unfolding AreRight
right_after limit past legal step may = (step_described step (world_of past) may (legal_described limit past legal)).right
