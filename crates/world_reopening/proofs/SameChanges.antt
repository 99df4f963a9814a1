-- The changes of the commands that make a platform again are those that keep it again.
use Rattle.std.proofs.Common.{◌≡◌, ◌+◌, ℕ, zero, suc, List, [], ◌∷◌, ◌++◌, codes, length, map, Bool, true, false, cond, Option, Some, None, Ok, Err, refl, ap, ap₂, sym, subst, ◌∙◌, arith, append_assoc, append-nil, flat_map, slice_get}
use Rattle.std.proofs.lemmas.Grind.{flat_map-append}
use Rattle.std.proofs.lemmas.List.{length-append}
use Rattle.std.specs.Option.{option_and_then}
use Rattle.std.specs.Prelude.{filter, option_map}
use Rattle.bundle_doc.specs.declared.document.BundleDoc.{BundleDoc}
use Rattle.prop_map.specs.declared.properties.Property.{Property}
use Rattle.scr_world.specs.declared.command.Command.{Command}
use Rattle.scr_world.specs.declared.command.Command.TheVariants.{Install, Start, Configure, ConfigureFactory}
use Rattle.world_keeper.specs.Again.{changes_again, configured, installed, is_started, start_of}
use Rattle.world_keeper.specs.KeptWorlds.{kept_by}
use Rattle.world_keeper.specs.Orders.{IsOrdered}
use Rattle.world_keeper.specs.declared.change.Change.{Change}
use Rattle.world_keeper.specs.declared.kept.Kept.{Kept}
use Rattle.world_keeper.specs.declared.kept.KeptBundle.{KeptBundle}
use Rattle.world_keeper.specs.declared.kept.KeptConfiguration.{KeptConfiguration}
use Rattle.world_reopening.specs.ChangesOf.{AreChangesOf, IsChangeOf, location_in, locations_of}
use Rattle.world_reopening.specs.Readings.{behind, document_in, name_of, properties_in}
use Rattle.world_reopening.specs.Reopening.{Adds, Tells, command_for, commands_of, configuration_command, first_unread, install_command, own_command, named_command, reopening, rows_of, starts_from, unless_unread}
use Rattle.world_keeper.proofs.KeptAgain.{kept_again}
use Rattle.world_reopening.proofs.Behind.{front_of}
use Rattle.world_reopening.specs.declared.reopen_fault.ReopenFault.{ReopenFault}
use Rattle.world_reopening.specs.declared.reopen_fault.ReopenFault.TheVariants.{BadKept, OutOfMemory}
use Rattle.world_reopening.proofs.ReopeningLaws.{commands_append, none_back, none_front}

abbrev Row : Type 0
Row = Option Command

-- ---- one row

-- the command makes the change that keeps a configuration, and installs nothing
abbrev IsMade : List (List ℕ) → Command → KeptConfiguration → Type 0
IsMade locations command c = IsChangeOf locations command (configured c) × (location_in command ≡ [])

own : (locations : List (List ℕ)) (pid text : List ℕ) (command : Command) → own_command pid text ≡ Some command → IsMade locations command (record { pid = pid; factory = None; properties = text })
own locations pid text command is = by_reading (properties_in text) refl is where
  by_reading : (read : Option (List Property)) → properties_in text ≡ read → option_map (λ properties. Configure pid properties) read ≡ Some command
      → IsMade locations command (record { pid = pid; factory = None; properties = text })
  by_reading None e h = absurd cc
  by_reading (Some properties) e h =
      let same : Configure pid properties ≡ command = cc in
      subst (λ c. IsMade locations c (record { pid = pid; factory = None; properties = text })) same ((refl, e), refl)

named : (locations : List (List ℕ)) (factory name pid text : List ℕ) (command : Command) → pid ≡ factory ++ codes "~" ++ name → named_command factory name text ≡ Some command
    → IsMade locations command (record { pid = pid; factory = Some factory; properties = text })
named locations factory name pid text command there is = by_reading (properties_in text) refl is where
  by_reading : (read : Option (List Property)) → properties_in text ≡ read → option_map (λ properties. ConfigureFactory factory name properties) read ≡ Some command
      → IsMade locations command (record { pid = pid; factory = Some factory; properties = text })
  by_reading None e h = absurd cc
  by_reading (Some properties) e h =
      let same : ConfigureFactory factory name properties ≡ command = cc in
      subst (λ c. IsMade locations c (record { pid = pid; factory = Some factory; properties = text })) same ((refl, there, e), refl)

name_there : (factory pid name : List ℕ) → name_of factory pid ≡ Some name → pid ≡ factory ++ codes "~" ++ name
name_there factory pid name is = by_front (behind factory pid) refl is where
  by_front : (rest : Option (List ℕ)) → behind factory pid ≡ rest → option_and_then (behind (codes "~")) rest ≡ Some name → pid ≡ factory ++ codes "~" ++ name
  by_front None e h = absurd cc
  by_front (Some rest) e h = front_of factory pid rest e ∙ ap (λ r. factory ++ r) (front_of (codes "~") rest name h) ∙ sym (append_assoc factory (codes "~") name)

of_factory : (locations : List (List ℕ)) (factory pid text : List ℕ) (command : Command) → command_for (Some factory) pid text ≡ Some command
    → IsMade locations command (record { pid = pid; factory = Some factory; properties = text })
of_factory locations factory pid text command is = by_name (name_of factory pid) refl is where
  by_name : (name : Option (List ℕ)) → name_of factory pid ≡ name → option_and_then (λ n. named_command factory n text) name ≡ Some command
      → IsMade locations command (record { pid = pid; factory = Some factory; properties = text })
  by_name None e h = absurd cc
  by_name (Some name) e h = named locations factory name pid text command (name_there factory pid name e) h

is_configured : (locations : List (List ℕ)) (c : KeptConfiguration) (command : Command) → configuration_command c ≡ Some command → IsMade locations command c
is_configured locations c command is = by_factory c.factory refl is where
  by_factory : (factory : Option (List ℕ)) → c.factory ≡ factory → command_for factory c.pid c.properties ≡ Some command
      → IsMade locations command (record { pid = c.pid; factory = factory; properties = c.properties })
  by_factory None e h = own locations c.pid c.properties command h
  by_factory (Some factory) e h = of_factory locations factory c.pid c.properties command h

is_installed : (locations : List (List ℕ)) (b : KeptBundle) (command : Command) → install_command b ≡ Some command → IsChangeOf locations command (installed b) × (location_in command ≡ b.location ∷ [])
is_installed locations b command is = by_document (document_in b.document) refl is where
  by_document : (doc : Option BundleDoc) → document_in b.document ≡ doc → option_map (λ d. Install (record d { location = b.location })) doc ≡ Some command
      → IsChangeOf locations command (installed b) × (location_in command ≡ b.location ∷ [])
  by_document None e h = absurd cc
  by_document (Some doc) e h =
      let same : Install (record doc { location = b.location }) ≡ command = cc in
      subst (λ c. IsChangeOf locations c (installed b) × (location_in c ≡ b.location ∷ [])) same ((doc, e, refl), refl)

-- ---- all rows

same_configurations : (locations : List (List ℕ)) (n : ℕ) (cs : List KeptConfiguration) → first_unread n (map configuration_command cs) ≡ None
    → AreChangesOf locations (commands_of (map configuration_command cs)) (map configured cs)
same_configurations locations n [] none = tt
same_configurations locations n (c ∷ cs) none = by_row (configuration_command c) refl (same_configurations locations (suc n) cs) none where
  by_row : (row : Row) → configuration_command c ≡ row
      → (first_unread (suc n) (map configuration_command cs) ≡ None → AreChangesOf locations (commands_of (map configuration_command cs)) (map configured cs))
      → first_unread n (row ∷ map configuration_command cs) ≡ None → AreChangesOf locations (commands_of (row ∷ map configuration_command cs)) (configured c ∷ map configured cs)
  by_row None e more h = absurd cc
  by_row (Some command) e more h = ((is_configured locations c command e).0, more h)

same_installs : (locations : List (List ℕ)) (n : ℕ) (bs : List KeptBundle) → first_unread n (map install_command bs) ≡ None
    → AreChangesOf locations (commands_of (map install_command bs)) (map installed bs)
same_installs locations n [] none = tt
same_installs locations n (b ∷ bs) none = by_row (install_command b) refl (same_installs locations (suc n) bs) none where
  by_row : (row : Row) → install_command b ≡ row
      → (first_unread (suc n) (map install_command bs) ≡ None → AreChangesOf locations (commands_of (map install_command bs)) (map installed bs))
      → first_unread n (row ∷ map install_command bs) ≡ None → AreChangesOf locations (commands_of (row ∷ map install_command bs)) (installed b ∷ map installed bs)
  by_row None e more h = absurd cc
  by_row (Some command) e more h = ((is_installed locations b command e).0, more h)

both : (locations : List (List ℕ)) (cs ds : List Command) (xs ys : List Change) → AreChangesOf locations cs xs → AreChangesOf locations ds ys → AreChangesOf locations (cs ++ ds) (xs ++ ys)
both locations [] ds [] ys h k = k
both locations [] ds (x ∷ xs) ys h k = absurd h
both locations (c ∷ cs) ds [] ys h k = absurd h
both locations (c ∷ cs) ds (x ∷ xs) ys h k = (h.0, both locations cs ds xs ys h.1 k)

-- ---- starts

abbrev place_of : KeptBundle → List ℕ
place_of b = b.location

at_end : (done : List KeptBundle) (b : KeptBundle) (rest : List KeptBundle) → slice_get (map place_of (done ++ b ∷ rest)) (length done) ≡ Some b.location
at_end [] b rest = refl
at_end (d ∷ done) b rest = at_end done b rest

join : (xs : List KeptBundle) (y : KeptBundle) (zs : List KeptBundle) → (xs ++ y ∷ []) ++ zs ≡ xs ++ y ∷ zs
join xs y zs = append_assoc xs (y ∷ []) zs

same_starts : (locations : List (List ℕ)) (done rest : List KeptBundle) → locations ≡ map place_of (done ++ rest)
    → AreChangesOf locations (starts_from (suc (length done)) rest) (map start_of (filter is_started rest))
same_starts locations done [] are = tt
same_starts locations done (b ∷ rest) are =
    by_mark b.started
    (subst (λ n. AreChangesOf locations (starts_from (suc n) rest) (map start_of (filter is_started rest))) (length-append done (b ∷ []) ∙ omega arith)
    (same_starts locations (done ++ b ∷ []) rest (are ∙ ap (map place_of) (sym (join done b rest)))))
  where
    by_mark : (so : Bool) → AreChangesOf locations (starts_from (suc (suc (length done))) rest) (map start_of (filter is_started rest))
        → AreChangesOf locations (cond so (Start (suc (length done)) ∷ starts_from (suc (suc (length done))) rest) (starts_from (suc (suc (length done))) rest))
        (map start_of (cond so (b ∷ filter is_started rest) (filter is_started rest)))
    by_mark true more = (((length done, refl, ap (λ ls. slice_get ls (length done)) are ∙ at_end done b rest), refl), more)
    by_mark false more = more

-- ---- locations

no_locations : (n : ℕ) (cs : List KeptConfiguration) → first_unread n (map configuration_command cs) ≡ None → locations_of (commands_of (map configuration_command cs)) ≡ []
no_locations n [] none = refl
no_locations n (c ∷ cs) none = by_row (configuration_command c) refl (no_locations (suc n) cs) none where
  by_row : (row : Row) → configuration_command c ≡ row
      → (first_unread (suc n) (map configuration_command cs) ≡ None → locations_of (commands_of (map configuration_command cs)) ≡ []) → first_unread n (row ∷ map configuration_command cs) ≡ None → locations_of (commands_of (row ∷ map configuration_command cs)) ≡ []
  by_row None e more h = absurd cc
  by_row (Some command) e more h = ap₂ (λ (xs ys : List (List ℕ)). xs ++ ys) (is_configured [] c command e).1 (more h)

all_locations : (n : ℕ) (bs : List KeptBundle) → first_unread n (map install_command bs) ≡ None → locations_of (commands_of (map install_command bs)) ≡ map place_of bs
all_locations n [] none = refl
all_locations n (b ∷ bs) none = by_row (install_command b) refl (all_locations (suc n) bs) none where
  by_row : (row : Row) → install_command b ≡ row
      → (first_unread (suc n) (map install_command bs) ≡ None → locations_of (commands_of (map install_command bs)) ≡ map place_of bs) → first_unread n (row ∷ map install_command bs) ≡ None → locations_of (commands_of (row ∷ map install_command bs)) ≡ b.location ∷ map place_of bs
  by_row None e more h = absurd cc
  by_row (Some command) e more h = ap₂ (λ (xs ys : List (List ℕ)). xs ++ ys) (is_installed [] b command e).1 (more h)

starts_nowhere : (n : ℕ) (bs : List KeptBundle) → locations_of (starts_from n bs) ≡ []
starts_nowhere n [] = refl
starts_nowhere n (b ∷ bs) = by_mark b.started (starts_nowhere (suc n) bs) where
  by_mark : (so : Bool) → locations_of (starts_from (suc n) bs) ≡ [] → locations_of (cond so (Start n ∷ starts_from (suc n) bs) (starts_from (suc n) bs)) ≡ []
  by_mark true more = more
  by_mark false more = more

-- ---- together

abbrev rows_as : List KeptConfiguration → List Row
rows_as cs = map configuration_command cs

abbrev installs_as : List KeptBundle → List Row
installs_as bs = map install_command bs

located : (n m : ℕ) (kept : Kept) → first_unread n (rows_as kept.configurations) ≡ None → first_unread m (installs_as kept.bundles) ≡ None
    → locations_of (commands_of (rows_as kept.configurations) ++ commands_of (installs_as kept.bundles) ++ starts_from 1 kept.bundles) ≡ map place_of kept.bundles
located n m kept first second =
    flat_map-append location_in (commands_of (rows_as kept.configurations) ++ commands_of (installs_as kept.bundles)) (starts_from 1 kept.bundles)
    ∙ ap₂ (λ (xs ys : List (List ℕ)). xs ++ ys)
    (flat_map-append location_in (commands_of (rows_as kept.configurations)) (commands_of (installs_as kept.bundles))
    ∙ ap₂ (λ (xs ys : List (List ℕ)). xs ++ ys) (no_locations n kept.configurations first) (all_locations m kept.bundles second))
    (starts_nowhere 1 kept.bundles)
    ∙ append-nil (map place_of kept.bundles)

abbrev all_rows : Kept → List Row
all_rows kept = rows_as kept.configurations ++ installs_as kept.bundles

abbrev all_commands : Kept → List Command
all_commands kept = commands_of (rows_as kept.configurations) ++ commands_of (installs_as kept.bundles) ++ starts_from 1 kept.bundles

changes_of_all : (kept : Kept) → first_unread 0 (all_rows kept) ≡ None → AreChangesOf (locations_of (all_commands kept)) (all_commands kept) (changes_again kept)
changes_of_all kept none =
    let first = none_front 0 (rows_as kept.configurations) (installs_as kept.bundles) none in
    let second = none_back 0 (rows_as kept.configurations) (installs_as kept.bundles) none in
    let there = located 0 _ kept first second in
    both _ _ _ _ _ (both _ _ _ _ _ (same_configurations _ 0 kept.configurations first) (same_installs _ _ kept.bundles second)) (same_starts _ [] kept.bundles there)

-- the commands are those of the kept world, and their changes keep it again
pub Reopened : Kept → List Command → Type 0
Reopened kept commands =
    (reopening kept ≡ Ok commands) × ((changes : List Change) × AreChangesOf (locations_of commands) commands changes × (IsOrdered kept → kept_by changes ≡ kept))

reopened_all : (kept : Kept) → first_unread 0 (all_rows kept) ≡ None → Reopened kept (all_commands kept)
unfolding Reopened
reopened_all kept none = (
  ap₂ unless_unread none (ap (λ cs. cs ++ starts_from 1 kept.bundles) (commands_append (rows_as kept.configurations) (installs_as kept.bundles))),
  (changes_again kept, changes_of_all kept none, kept_again kept),
)

abbrev pub world : List KeptConfiguration → List KeptBundle → Kept
world cs bs = record { bundles = bs; configurations = cs }

reopened_by : (kept : Kept) (old mid all : List Command) → old ≡ [] → (first_unread (length old) (all_rows kept) ≡ None) × (mid ≡ old ++ commands_of (all_rows kept)) → all ≡ mid ++ starts_from 1 kept.bundles → Reopened kept all
reopened_by kept old mid all empty rows are =
    let none : first_unread 0 (all_rows kept) ≡ None = sym (ap (λ cs. first_unread (length cs) (all_rows kept)) empty) ∙ rows.0 in
    let mid_is : mid ≡ commands_of (rows_as kept.configurations) ++ commands_of (installs_as kept.bundles) =
    rows.1 ∙ ap (λ cs. cs ++ commands_of (all_rows kept)) empty ∙ commands_append (rows_as kept.configurations) (installs_as kept.bundles) in
    subst (Reopened kept) (sym (are ∙ ap (λ cs. cs ++ starts_from 1 kept.bundles) mid_is)) (reopened_all kept none)

pub reopened : (kept : Kept) (cs : List KeptConfiguration) (bs : List KeptBundle) (old mid all : List Command) → cs ≡ kept.configurations → bs ≡ kept.bundles → old ≡ []
    → (first_unread (length old) (rows_as cs ++ installs_as bs) ≡ None) × (mid ≡ old ++ commands_of (rows_as cs ++ installs_as bs)) → all ≡ mid ++ starts_from 1 bs → Reopened kept all
reopened kept cs bs old mid all same_cs same_bs empty rows are = subst (λ k. Reopened k all) (ap₂ world same_cs same_bs) (reopened_by (world cs bs) old mid all empty rows are)

pub its_commands : (kept : Kept) (all : List Command) → Reopened kept all → reopening kept ≡ Ok all
unfolding Reopened
its_commands kept all h = h.0

pub its_changes : (kept : Kept) (all : List Command) → Reopened kept all → (changes : List Change) × AreChangesOf (locations_of all) all changes × (IsOrdered kept → kept_by changes ≡ kept)
unfolding Reopened
its_changes kept all h = h.1

told_by : (kept : Kept) (old now : List Command) (fault : ReopenFault) → old ≡ [] → Adds (Err fault) (length old) (all_rows kept) old now → Tells fault (reopening kept)
told_by kept old now (BadKept row) empty h = ap (λ found. unless_unread found (commands_of (rows_of kept) ++ starts_from 1 kept.bundles)) (sym (ap (λ cs. first_unread (length cs) (all_rows kept)) empty) ∙ h)
told_by kept old now OutOfMemory empty h = tt

pub told : (kept : Kept) (cs : List KeptConfiguration) (bs : List KeptBundle) (old now : List Command) (fault : ReopenFault) → cs ≡ kept.configurations → bs ≡ kept.bundles → old ≡ []
    → Adds (Err fault) (length old) (rows_as cs ++ installs_as bs) old now → Tells fault (reopening kept)
told kept cs bs old now fault same_cs same_bs empty h = subst (λ k. Tells fault (reopening k)) (ap₂ world same_cs same_bs) (told_by (world cs bs) old now fault empty h)
