-- A document that would close a cycle with a bundle that was uninstalled is let through, and one that closes one with a bundle that stayed isn't. Derived by hand.
use Rattle.std.specs.Prelude.{◌≡◌, refl, List, [], ◌∷◌, codes, true, false, None, Ok, Err}
use Rattle.prop_map.specs.declared.reference_words.Cardinality.TheVariants.{One}
use Rattle.prop_map.specs.declared.reference_words.Policy.TheVariants.{Static}
use Rattle.prop_map.specs.declared.reference_words.PolicyOption.TheVariants.{Reluctant}
use Rattle.component_dto.specs.declared.description.Scope.TheVariants.{Singleton}
use Rattle.component_dto.specs.declared.description.ConfigurationPolicy.TheVariants.{Optional}
use Rattle.bundle_doc.specs.declared.document.BundleDoc.{BundleDoc}
use Rattle.scr_world.specs.declared.step.Step.TheVariants.{Command as Commanded}
use Rattle.scr_world.specs.declared.command.Command.TheVariants.{Install, Uninstall}
use Rattle.scr_world.specs.declared.reply.CoreFault.TheVariants.{Cycle}
use Rattle.scr_world.specs.declared.reply.Reply.TheVariants.{Done as IsDone, Bundle as InBundle}
use Rattle.scr_world.specs.Levels.{levels_of}
use Rattle.scr_world.specs.Tables.{descriptions_of}
use Rattle.scr_world.specs.Steps.{History}
use Rattle.scr_world.specs.declared.world.World.{World}
use Rattle.journal_examples.proofs.Laws.{laws}
use Rattle.journal_examples.proofs.Meanings.{legal_means}
use Rattle.scr_world.specs.Legal.{IsLegal}
use Rattle.journal_examples.proofs.Tests.{worlds, legal, newest, asked, replies}
use Rattle.scr_world.specs.Worlds.{satisfied_in}
use Rattle.scr_world.specs.Room.{has_room}
use Rattle.scr_world.specs.Consequences.{stage_in, stage_of, stopped_in, stopped_by, shut_between}
use Rattle.scr_world.specs.Stepping.{world_after_step}
use Rattle.scr_world.specs.Lists.{world_after_entry, world_of}

abbrev doc1 : BundleDoc
doc1 = record { location = codes "x"; name = codes "x"; version = record { major = 0; minor = 0; micro = 0; qualifier = [] }; manifest = None; activator = None; descriptions = (record { name = codes "x"; scope = Singleton; implementation_class = codes "K"; default_enabled = true; immediate = false; service_interfaces = (codes "X" ∷ []); properties = []; references = (record { name = codes "y"; interface_name = codes "Y"; cardinality = One; policy = Static; policy_option = Reluctant; target = None; updated = None } ∷ []); modified = None; configuration_policy = Optional; configuration_pids = (codes "x" ∷ []); implicit = true } ∷ []) }

abbrev doc2 : BundleDoc
doc2 = record { location = codes "w"; name = codes "w"; version = record { major = 0; minor = 0; micro = 0; qualifier = [] }; manifest = None; activator = None; descriptions = (record { name = codes "w"; scope = Singleton; implementation_class = codes "K"; default_enabled = true; immediate = false; service_interfaces = (codes "W" ∷ []); properties = []; references = (record { name = codes "y"; interface_name = codes "Y"; cardinality = One; policy = Static; policy_option = Reluctant; target = None; updated = None } ∷ []); modified = None; configuration_policy = Optional; configuration_pids = (codes "w" ∷ []); implicit = true } ∷ []) }

abbrev doc3 : BundleDoc
doc3 = record { location = codes "y"; name = codes "y"; version = record { major = 0; minor = 0; micro = 0; qualifier = [] }; manifest = None; activator = None; descriptions = (record { name = codes "y"; scope = Singleton; implementation_class = codes "K"; default_enabled = true; immediate = false; service_interfaces = (codes "Y" ∷ []); properties = []; references = (record { name = codes "x"; interface_name = codes "X"; cardinality = One; policy = Static; policy_option = Reluctant; target = None; updated = None } ∷ []); modified = None; configuration_policy = Optional; configuration_pids = (codes "y" ∷ []); implicit = true } ∷ []) }

abbrev doc4 : BundleDoc
doc4 = record { location = codes "v"; name = codes "v"; version = record { major = 0; minor = 0; micro = 0; qualifier = [] }; manifest = None; activator = None; descriptions = (record { name = codes "v"; scope = Singleton; implementation_class = codes "K"; default_enabled = true; immediate = false; service_interfaces = (codes "Y" ∷ []); properties = []; references = (record { name = codes "w"; interface_name = codes "W"; cardinality = One; policy = Static; policy_option = Reluctant; target = None; updated = None } ∷ []); modified = None; configuration_policy = Optional; configuration_pids = (codes "v" ∷ []); implicit = true } ∷ []) }

abbrev past0 : History
past0 = []

abbrev past1 : History
past1 = record { step = Commanded (Install doc1); closed = []; opened = []; stopped = [] } ∷ past0

abbrev past2 : History
past2 = record { step = Commanded (Install doc2); closed = []; opened = []; stopped = [] } ∷ past1

abbrev past3 : History
past3 = record { step = Commanded (Uninstall 1); closed = []; opened = []; stopped = [] } ∷ past2

abbrev past4 : History
past4 = record { step = Commanded (Install doc3); closed = []; opened = []; stopped = [] } ∷ past3

abbrev all : List World
all = worlds past4

is_legal : legal 4194304 past4 all ≡ true
unfolding world_after_entry world_of world_after_step stage_in stage_of stopped_in stopped_by shut_between has_room satisfied_in
is_legal = refl

stands_legal : IsLegal 4194304 past4
stands_legal = legal_means 4194304 past4 is_legal

-- the cycle through the first bundle is there until it is uninstalled, that through the second one stays
which_replies : replies 4194304 all (asked 2 (Install doc3) ∷ asked 2 (Install doc4) ∷ asked 2 (Uninstall 1) ∷ asked 3 (Install doc3) ∷ asked 3 (Install doc4) ∷ []) ≡ (Err (Cycle []) ∷ Err (Cycle []) ∷ Ok IsDone ∷ Ok (InBundle 3) ∷ Err (Cycle []) ∷ [])
unfolding world_after_entry world_of world_after_step stage_in stage_of stopped_in stopped_by shut_between has_room satisfied_in
which_replies = refl

-- the levels are those of the documents that are left, in the order of their bundles
which_levels : levels_of (descriptions_of (newest all).documents) ≡ (1 ∷ 0 ∷ [])
unfolding world_after_entry world_of world_after_step stage_in stage_of stopped_in stopped_by shut_between has_room satisfied_in
which_levels = refl

laws_hold : laws past4 all ≡ true
unfolding world_after_entry world_of world_after_step stage_in stage_of stopped_in stopped_by shut_between has_room satisfied_in
laws_hold = refl
