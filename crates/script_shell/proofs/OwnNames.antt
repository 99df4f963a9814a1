-- A run keeps the references of each installed description apart by their names.
use Rattle.std.proofs.Common.{◌≡◌, ℕ, ◌+◌, List, [], ◌∷◌, ◌++◌, ap, sym, refl, subst, cond, append_assoc, append-nil, Bool, true, false, inl, inr}
use Rattle.std.specs.Prelude.{map, not, ◌==◌}
use Rattle.std.specs.List.{Contains}
use Rattle.bundle_doc.specs.declared.document.BundleDoc.{BundleDoc}
use Rattle.component_state.proofs.Apart.{in_cases, in_either, in_first, in_left, in_none, in_right, kept_was}
use Rattle.component_state.proofs.Plain.{in_mapped}
use Rattle.journal_core.specs.declared.entry.Entry.{Entry}
use Rattle.platform_hall.specs.Cores.{CoreView}
use Rattle.scr_laws.proofs.Described.{flagged_keeps, into_flat}
use Rattle.scr_laws.proofs.Documents.{in_flat, set_back_keeps}
use Rattle.scr_promises.specs.Names.{HaveOwnNames}
use Rattle.scr_world.specs.declared.command.Command.{Command}
use Rattle.scr_world.specs.declared.command.Command.TheVariants.{Install, Update, Start, Stop, Uninstall, Enable, Disable, Register, Unregister, SetProperties, Get, Unget, Listen, Unlisten, Configure, ConfigureFactory, Unconfigure}
use Rattle.scr_world.specs.declared.contents.Contents.{Contents}
use Rattle.scr_world.specs.declared.step.Step.{Step}
use Rattle.scr_world.specs.declared.step.Step.TheVariants.{Command as Stepped, Begin, End, Drained, Got, Released}
use Rattle.scr_world.specs.Calls.{world_at}
use Rattle.scr_world.specs.Lists.{world_after_entry, world_of}
use Rattle.scr_world.specs.Stepping.{world_after_step}
use Rattle.scr_world.specs.Steps.{History, history_of}
use Rattle.scr_world.specs.Tables.{contents_with, descriptions_of, documents_by, documents_by_command, flagged, replaced, set_back}
use Rattle.platform_hall.specs.Platforms.{world}
use Rattle.platform_hall.proofs.Steps.{history_append}
use Rattle.script_shell.specs.Runs.{Grew, command_in, commands_in}
use Rattle.script_shell.proofs.LineNames.{CommandNamed}
use Rattle.script_shell.proofs.ReadNames.{AreNamed, same_named}

-- ---- documents

abbrev EachNamed : List Contents → Type 0
EachNamed cs = (c : Contents) → Contains cs c → AreNamed c.document.descriptions

to_each : (cs : List Contents) → AreNamed (descriptions_of cs) → EachNamed cs
to_each cs named c h d k = named d (into_flat (λ (t : Contents). t.document.descriptions) cs c d h k)

from_each : (cs : List Contents) → EachNamed cs → AreNamed (descriptions_of cs)
from_each cs each d h = let found = in_flat (λ (t : Contents). t.document.descriptions) cs d h in each found.0 found.1 d found.2

-- what changes documents one by one
mapped_named : (f : Contents → Contents) (cs : List Contents) → ((c : Contents) → AreNamed c.document.descriptions → AreNamed (f c).document.descriptions) → EachNamed cs → EachNamed (map f cs)
mapped_named f cs keeps each c h =
    let was = in_mapped f cs c h in
    same_named (f was.0).document.descriptions c.document.descriptions (ap (λ (t : Contents). t.document.descriptions) was.2) (keeps was.0 (each was.0 was.1))

replaced_named : (bundle : ℕ) (doc : BundleDoc) → AreNamed doc.descriptions → (c : Contents) → AreNamed c.document.descriptions → AreNamed (replaced bundle doc c).document.descriptions
replaced_named bundle doc new c old = go (c.bundle == bundle)
  where
    go : (b : Bool) → AreNamed (cond b (contents_with bundle doc) c).document.descriptions
    go true = new
    go false = old

added_named : (next : ℕ) (doc : BundleDoc) (cs : List Contents) → AreNamed doc.descriptions → EachNamed cs → EachNamed (cs ++ contents_with next doc ∷ [])
added_named next doc cs new each c h = elim (in_either cs (contents_with next doc ∷ []) c h) [
  | inl old ↦ each c old
  | inr last ↦ elim (in_cases (contents_with next doc) [] c last) [
    | inl same ↦ same_named doc.descriptions c.document.descriptions (ap (λ (t : Contents). t.document.descriptions) same) new
    | inr none ↦ absurd (in_none c none)
  ]
]

commanded_named : (command : Command) (next : ℕ) (cs : List Contents) → CommandNamed command → EachNamed cs → EachNamed (documents_by_command command next cs)
commanded_named (Install doc) next cs new each = added_named next doc cs new each
commanded_named (Update bundle doc) next cs new each = mapped_named (replaced bundle doc) cs (replaced_named bundle doc new) each
commanded_named (Start bundle) next cs new each = mapped_named (set_back bundle) cs (λ c old. same_named c.document.descriptions (set_back bundle c).document.descriptions (sym (set_back_keeps bundle c).1) old) each
commanded_named (Stop bundle) next cs new each = each
commanded_named (Uninstall bundle) next cs new each = λ c h. each c (kept_was (λ (t : Contents). not (t.bundle == bundle)) cs c h).0
commanded_named (Enable bundle name) next cs new each = mapped_named (flagged bundle name true) cs (λ c old. same_named c.document.descriptions (flagged bundle name true c).document.descriptions (sym (flagged_keeps bundle name true c).1) old) each
commanded_named (Disable bundle name) next cs new each = mapped_named (flagged bundle name false) cs (λ c old. same_named c.document.descriptions (flagged bundle name false c).document.descriptions (sym (flagged_keeps bundle name false c).1) old) each
commanded_named (Register bundle interfaces properties) next cs new each = each
commanded_named (Unregister bundle service) next cs new each = each
commanded_named (SetProperties bundle service properties) next cs new each = each
commanded_named (Get bundle service) next cs new each = each
commanded_named (Unget bundle service) next cs new each = each
commanded_named (Listen bundle test) next cs new each = each
commanded_named (Unlisten listener) next cs new each = each
commanded_named (Configure pid given) next cs new each = each
commanded_named (ConfigureFactory factory name given) next cs new each = each
commanded_named (Unconfigure pid) next cs new each = each

-- ---- entries

-- each of these commands has references that differ in name
abbrev pub AllNamed : List Command → Type 0
AllNamed commands = (command : Command) → Contains commands command → CommandNamed command

stepped_named : (step : Step) (next : ℕ) (cs : List Contents) → AllNamed (command_in step) → EachNamed cs → EachNamed (documents_by step next cs)
stepped_named (Stepped command) next cs all each = commanded_named command next cs (all command (in_first command [])) each
stepped_named (Begin turn instance configuration consumer callback chosen) next cs all each = each
stepped_named (End turn outcome) next cs all each = each
stepped_named (Drained instance) next cs all each = each
stepped_named (Got bundle service) next cs all each = each
stepped_named (Released place) next cs all each = each

documents_then : (entry : Entry Step) (past : History) → (world_of (entry ∷ past)).documents ≡ documents_by entry.step ((world_of past).bundles.numbered + 1) (world_of past).documents
unfolding world_of world_after_entry world_after_step
documents_then entry past = refl

entry_named : (entry : Entry Step) (past : History) → AllNamed (command_in entry.step) → HaveOwnNames (world_of past) → HaveOwnNames (world_of (entry ∷ past))
entry_named entry past all named =
    let P : List Contents → Type 0 = λ cs. AreNamed (descriptions_of cs) in
    let w = world_of past in
    subst P (sym (documents_then entry past))
    (from_each (documents_by entry.step (w.bundles.numbered + 1) w.documents) (stepped_named entry.step (w.bundles.numbered + 1) w.documents all (to_each w.documents named)))

entries_named : (entries journal : List (Entry Step)) → AllNamed (commands_in entries) → HaveOwnNames (world_at journal) → HaveOwnNames (world_at (journal ++ entries))
entries_named [] journal all named = let P : List (Entry Step) → Type 0 = λ j. HaveOwnNames (world_at j) in subst P (sym (append-nil journal)) named
entries_named (entry ∷ entries) journal all named =
    let P : List (Entry Step) → Type 0 = λ j. HaveOwnNames (world_at j) in
    let Q : History → Type 0 = λ h. HaveOwnNames (world_of h) in
    let here : HaveOwnNames (world_at (journal ++ entry ∷ [])) =
    subst Q (sym (history_append journal entry)) (entry_named entry (history_of journal) (λ c h. all c (in_left (command_in entry.step) (commands_in entries) c h)) named) in
    subst P (append_assoc journal (entry ∷ []) entries)
    (entries_named entries (journal ++ entry ∷ []) (λ c h. all c (in_right (command_in entry.step) (commands_in entries) c h)) here)

pub grew_named : (before after : CoreView) (commands : List Command) → Grew before after commands → AllNamed commands → HaveOwnNames (world before) → HaveOwnNames (world after)
grew_named before after commands grew all named =
    let P : List (Entry Step) → Type 0 = λ j. HaveOwnNames (world_at j) in
    let Q : List Command → Type 0 = λ cs. AllNamed cs in
    subst P (sym grew.grown) (entries_named grew.entries before.journal (subst Q (sym grew.told) all) named)
