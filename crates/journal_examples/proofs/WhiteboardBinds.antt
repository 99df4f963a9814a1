-- The whiteboard binds contexts and servlets. As an independent model of the platform has it.
use Rattle.std.specs.Prelude.{◌≡◌, refl, ℕ, List, [], ◌∷◌, codes, true, false, Some, None, Ok, Err, pos, negsuc}
use Rattle.prop_map.specs.declared.value.Value.TheVariants.{Text, Whole, Flag, Texts, Wholes, Flags}
use Rattle.prop_map.specs.declared.reference_words.Cardinality.TheVariants.{ZeroOrOne, One, ZeroOrMore, OneOrMore}
use Rattle.prop_map.specs.declared.reference_words.Policy.TheVariants.{Static, Dynamic}
use Rattle.prop_map.specs.declared.reference_words.PolicyOption.TheVariants.{Reluctant, Greedy}
use Rattle.component_dto.specs.declared.description.Scope.TheVariants.{Singleton, Bundle as InBundleScope, Prototype}
use Rattle.component_dto.specs.declared.description.ConfigurationPolicy.TheVariants.{Optional, Require, Ignore}
use Rattle.bundle_doc.specs.declared.document.BundleDoc.{BundleDoc}
use Rattle.bundle_life.specs.declared.bundle.BundleEvent.{BundleEvent}
use Rattle.journal_examples.proofs.Trees.{tree_or_none}
use Rattle.callback_orders.specs.declared.callback.Callback.TheVariants.{Create, Bind, Updated, Unbind, Activate, Modified, Deactivate, Destroy}
use Rattle.callback_orders.specs.declared.callback.Outcome.TheVariants.{Done, Refused, NoMemory}
use Rattle.service_listeners.specs.declared.listener.ServiceEvent.{ServiceEvent}
use Rattle.scr_world.specs.declared.step.Step.TheVariants.{Command as Commanded, Begin, End, Drained, Got, Released}
use Rattle.scr_world.specs.declared.command.Command.TheVariants.{Install, Update, Start, Stop, Uninstall, Enable, Disable, Register, Unregister, SetProperties, Get, Unget, Listen, Unlisten, Configure, ConfigureFactory, Unconfigure}
use Rattle.scr_world.specs.declared.reply.CoreFault.TheVariants.{NoBundle, NoComponent, WrongState, Stopping, SameName, Cycle, BundlesFull, ComponentsFull, ServicesFull, ConfigurationsFull, ListenersFull, NoService, NotOwner, NotUsing, NoListener, NoConfiguration, BadPid, FactoryClash, ActivationFailed, ActivationNoMemory, JournalFull}
use Rattle.scr_world.specs.declared.reply.Reply.TheVariants.{Done as IsDone, Bundle as InBundle, Service as AsService, Uses as WithUses, Listener as AsListener}
use Rattle.scr_world.specs.Steps.{History}
use Rattle.scr_world.specs.declared.world.World.{World}
use Rattle.journal_examples.proofs.Meanings.{legal_means}
use Rattle.scr_world.specs.Legal.{IsLegal}
use Rattle.journal_examples.proofs.Tests.{worlds, legal, begins, states, quiet_ones, right_ones, asked, replies, bundle_events_at_end, events_at_end, held_at_end, found_at_end, wanted_at, bound_at_end, calm_at_end}
use Rattle.scr_world.specs.Worlds.{satisfied_in}
use Rattle.scr_world.specs.Room.{has_room}
use Rattle.scr_world.specs.Consequences.{stage_in, stage_of, stopped_in, stopped_by, shut_between}
use Rattle.scr_world.specs.Stepping.{world_after_step}
use Rattle.scr_world.specs.Lists.{world_after_entry, world_of}

abbrev doc1 : BundleDoc
doc1 = record { location = (codes "d"); name = (codes "d"); version = record { major = 0; minor = 0; micro = 0; qualifier = [] }; manifest = None; activator = None; descriptions = [] }

abbrev doc2 : BundleDoc
doc2 = record { location = (codes "s"); name = (codes "s"); version = record { major = 0; minor = 0; micro = 0; qualifier = [] }; manifest = None; activator = None; descriptions = (record { name = (codes "s1"); scope = Singleton; implementation_class = (codes "demo.Text"); default_enabled = true; immediate = false; service_interfaces = ((codes "javax.servlet.Servlet") ∷ []); properties = (record { key = (codes "osgi.http.whiteboard.servlet.pattern"); value = (Text (codes "/a")) } ∷ record { key = (codes "text"); value = (Text (codes "1")) } ∷ []); references = []; modified = None; configuration_policy = Optional; configuration_pids = ((codes "s1") ∷ []); implicit = true } ∷ record { name = (codes "s2"); scope = Singleton; implementation_class = (codes "demo.Text"); default_enabled = true; immediate = false; service_interfaces = ((codes "javax.servlet.Servlet") ∷ []); properties = (record { key = (codes "osgi.http.whiteboard.servlet.pattern"); value = (Text (codes "/a/*")) } ∷ record { key = (codes "text"); value = (Text (codes "2")) } ∷ []); references = []; modified = None; configuration_policy = Optional; configuration_pids = ((codes "s2") ∷ []); implicit = true } ∷ record { name = (codes "s3"); scope = Singleton; implementation_class = (codes "demo.Text"); default_enabled = true; immediate = false; service_interfaces = ((codes "javax.servlet.Servlet") ∷ []); properties = (record { key = (codes "osgi.http.whiteboard.servlet.pattern"); value = (Text (codes "/a/b/*")) } ∷ record { key = (codes "text"); value = (Text (codes "3")) } ∷ []); references = []; modified = None; configuration_policy = Optional; configuration_pids = ((codes "s3") ∷ []); implicit = true } ∷ record { name = (codes "s4"); scope = Singleton; implementation_class = (codes "demo.Text"); default_enabled = true; immediate = false; service_interfaces = ((codes "javax.servlet.Servlet") ∷ []); properties = (record { key = (codes "osgi.http.whiteboard.servlet.pattern"); value = (Text (codes "*.x")) } ∷ record { key = (codes "text"); value = (Text (codes "4")) } ∷ []); references = []; modified = None; configuration_policy = Optional; configuration_pids = ((codes "s4") ∷ []); implicit = true } ∷ record { name = (codes "s5"); scope = Singleton; implementation_class = (codes "demo.Text"); default_enabled = true; immediate = false; service_interfaces = ((codes "javax.servlet.Servlet") ∷ []); properties = (record { key = (codes "osgi.http.whiteboard.servlet.pattern"); value = (Text (codes "/")) } ∷ record { key = (codes "text"); value = (Text (codes "5")) } ∷ []); references = []; modified = None; configuration_policy = Optional; configuration_pids = ((codes "s5") ∷ []); implicit = true } ∷ record { name = (codes "s6"); scope = Singleton; implementation_class = (codes "demo.Text"); default_enabled = true; immediate = false; service_interfaces = ((codes "javax.servlet.Servlet") ∷ []); properties = (record { key = (codes "osgi.http.whiteboard.servlet.pattern"); value = (Text []) } ∷ record { key = (codes "text"); value = (Text (codes "6")) } ∷ []); references = []; modified = None; configuration_policy = Optional; configuration_pids = ((codes "s6") ∷ []); implicit = true } ∷ record { name = (codes "s7"); scope = Singleton; implementation_class = (codes "demo.Text"); default_enabled = true; immediate = false; service_interfaces = ((codes "javax.servlet.Servlet") ∷ []); properties = (record { key = (codes "osgi.http.whiteboard.context.select"); value = (Text (codes "(osgi.http.whiteboard.context.name=ca)")) } ∷ record { key = (codes "osgi.http.whiteboard.servlet.pattern"); value = (Text (codes "/c")) } ∷ record { key = (codes "text"); value = (Text (codes "7")) } ∷ []); references = []; modified = None; configuration_policy = Optional; configuration_pids = ((codes "s7") ∷ []); implicit = true } ∷ []) }

abbrev doc3 : BundleDoc
doc3 = record { location = (codes "s8"); name = (codes "s8"); version = record { major = 0; minor = 0; micro = 0; qualifier = [] }; manifest = None; activator = None; descriptions = (record { name = (codes "s8"); scope = Singleton; implementation_class = (codes "demo.Text"); default_enabled = true; immediate = false; service_interfaces = ((codes "javax.servlet.Servlet") ∷ []); properties = (record { key = (codes "osgi.http.whiteboard.servlet.pattern"); value = (Text (codes "/a")) } ∷ record { key = (codes "service.ranking"); value = (Whole (pos 1)) } ∷ record { key = (codes "text"); value = (Text (codes "8")) } ∷ []); references = []; modified = None; configuration_policy = Optional; configuration_pids = ((codes "s8") ∷ []); implicit = true } ∷ []) }

abbrev past0 : History
past0 = []

abbrev past1 : History
past1 = record { step = (Commanded (Install doc1)); closed = []; opened = []; stopped = [] } ∷ past0

abbrev past2 : History
past2 = record { step = (Commanded (Start 1)); closed = []; opened = []; stopped = [] } ∷ past1

abbrev past3 : History
past3 = record { step = (Commanded (Register 1 ((codes "org.osgi.service.http.context.ServletContextHelper") ∷ []) (record { key = (codes "osgi.http.whiteboard.context.name"); value = (Text (codes "ca")) } ∷ record { key = (codes "osgi.http.whiteboard.context.path"); value = (Text (codes "/a")) } ∷ []))); closed = []; opened = []; stopped = [] } ∷ past2

abbrev past4 : History
past4 = record { step = (Begin 1 0 0 0 (Bind (codes "contexts") 1) []); closed = []; opened = []; stopped = [] } ∷ past3

abbrev past5 : History
past5 = record { step = (End 1 Done); closed = []; opened = []; stopped = [] } ∷ past4

abbrev past6 : History
past6 = record { step = (Commanded (Install doc2)); closed = []; opened = []; stopped = [] } ∷ past5

abbrev past7 : History
past7 = record { step = (Commanded (Install doc3)); closed = []; opened = []; stopped = [] } ∷ past6

abbrev past8 : History
past8 = record { step = (Commanded (Start 2)); closed = []; opened = (record { configuration = 1; service = 2 } ∷ record { configuration = 2; service = 3 } ∷ record { configuration = 3; service = 4 } ∷ record { configuration = 4; service = 5 } ∷ record { configuration = 5; service = 6 } ∷ record { configuration = 6; service = 7 } ∷ record { configuration = 7; service = 8 } ∷ []); stopped = [] } ∷ past7

abbrev past9 : History
past9 = record { step = (Begin 2 1 1 0 Create []); closed = []; opened = []; stopped = [] } ∷ past8

abbrev past10 : History
past10 = record { step = (End 2 Done); closed = []; opened = []; stopped = [] } ∷ past9

abbrev past11 : History
past11 = record { step = (Begin 3 1 1 0 Activate []); closed = []; opened = []; stopped = [] } ∷ past10

abbrev past12 : History
past12 = record { step = (End 3 Done); closed = []; opened = []; stopped = [] } ∷ past11

abbrev past13 : History
past13 = record { step = (Begin 4 0 0 0 (Bind (codes "servlets") 2) []); closed = []; opened = []; stopped = [] } ∷ past12

abbrev past14 : History
past14 = record { step = (End 4 Done); closed = []; opened = []; stopped = [] } ∷ past13

abbrev past15 : History
past15 = record { step = (Begin 5 2 2 0 Create []); closed = []; opened = []; stopped = [] } ∷ past14

abbrev past16 : History
past16 = record { step = (End 5 Done); closed = []; opened = []; stopped = [] } ∷ past15

abbrev past17 : History
past17 = record { step = (Begin 6 2 2 0 Activate []); closed = []; opened = []; stopped = [] } ∷ past16

abbrev past18 : History
past18 = record { step = (End 6 Done); closed = []; opened = []; stopped = [] } ∷ past17

abbrev past19 : History
past19 = record { step = (Begin 7 0 0 0 (Bind (codes "servlets") 3) []); closed = []; opened = []; stopped = [] } ∷ past18

abbrev past20 : History
past20 = record { step = (End 7 Done); closed = []; opened = []; stopped = [] } ∷ past19

abbrev past21 : History
past21 = record { step = (Begin 8 3 3 0 Create []); closed = []; opened = []; stopped = [] } ∷ past20

abbrev past22 : History
past22 = record { step = (End 8 Done); closed = []; opened = []; stopped = [] } ∷ past21

abbrev past23 : History
past23 = record { step = (Begin 9 3 3 0 Activate []); closed = []; opened = []; stopped = [] } ∷ past22

abbrev past24 : History
past24 = record { step = (End 9 Done); closed = []; opened = []; stopped = [] } ∷ past23

abbrev past25 : History
past25 = record { step = (Begin 10 0 0 0 (Bind (codes "servlets") 4) []); closed = []; opened = []; stopped = [] } ∷ past24

abbrev past26 : History
past26 = record { step = (End 10 Done); closed = []; opened = []; stopped = [] } ∷ past25

abbrev past27 : History
past27 = record { step = (Begin 11 4 4 0 Create []); closed = []; opened = []; stopped = [] } ∷ past26

abbrev past28 : History
past28 = record { step = (End 11 Done); closed = []; opened = []; stopped = [] } ∷ past27

abbrev past29 : History
past29 = record { step = (Begin 12 4 4 0 Activate []); closed = []; opened = []; stopped = [] } ∷ past28

abbrev past30 : History
past30 = record { step = (End 12 Done); closed = []; opened = []; stopped = [] } ∷ past29

abbrev past31 : History
past31 = record { step = (Begin 13 0 0 0 (Bind (codes "servlets") 5) []); closed = []; opened = []; stopped = [] } ∷ past30

abbrev past32 : History
past32 = record { step = (End 13 Done); closed = []; opened = []; stopped = [] } ∷ past31

abbrev past33 : History
past33 = record { step = (Begin 14 5 5 0 Create []); closed = []; opened = []; stopped = [] } ∷ past32

abbrev past34 : History
past34 = record { step = (End 14 Done); closed = []; opened = []; stopped = [] } ∷ past33

abbrev past35 : History
past35 = record { step = (Begin 15 5 5 0 Activate []); closed = []; opened = []; stopped = [] } ∷ past34

abbrev past36 : History
past36 = record { step = (End 15 Done); closed = []; opened = []; stopped = [] } ∷ past35

abbrev past37 : History
past37 = record { step = (Begin 16 0 0 0 (Bind (codes "servlets") 6) []); closed = []; opened = []; stopped = [] } ∷ past36

abbrev past38 : History
past38 = record { step = (End 16 Done); closed = []; opened = []; stopped = [] } ∷ past37

abbrev past39 : History
past39 = record { step = (Begin 17 6 6 0 Create []); closed = []; opened = []; stopped = [] } ∷ past38

abbrev past40 : History
past40 = record { step = (End 17 Done); closed = []; opened = []; stopped = [] } ∷ past39

abbrev past41 : History
past41 = record { step = (Begin 18 6 6 0 Activate []); closed = []; opened = []; stopped = [] } ∷ past40

abbrev past42 : History
past42 = record { step = (End 18 Done); closed = []; opened = []; stopped = [] } ∷ past41

abbrev past43 : History
past43 = record { step = (Begin 19 0 0 0 (Bind (codes "servlets") 7) []); closed = []; opened = []; stopped = [] } ∷ past42

abbrev past44 : History
past44 = record { step = (End 19 Done); closed = []; opened = []; stopped = [] } ∷ past43

abbrev past45 : History
past45 = record { step = (Begin 20 7 7 0 Create []); closed = []; opened = []; stopped = [] } ∷ past44

abbrev past46 : History
past46 = record { step = (End 20 Done); closed = []; opened = []; stopped = [] } ∷ past45

abbrev past47 : History
past47 = record { step = (Begin 21 7 7 0 Activate []); closed = []; opened = []; stopped = [] } ∷ past46

abbrev past48 : History
past48 = record { step = (End 21 Done); closed = []; opened = []; stopped = [] } ∷ past47

abbrev past49 : History
past49 = record { step = (Begin 22 0 0 0 (Bind (codes "servlets") 8) []); closed = []; opened = []; stopped = [] } ∷ past48

abbrev past50 : History
past50 = record { step = (End 22 Done); closed = []; opened = []; stopped = [] } ∷ past49

abbrev past51 : History
past51 = record { step = (Commanded (Start 3)); closed = []; opened = (record { configuration = 8; service = 9 } ∷ []); stopped = [] } ∷ past50

abbrev past52 : History
past52 = record { step = (Begin 23 8 8 0 Create []); closed = []; opened = []; stopped = [] } ∷ past51

abbrev past53 : History
past53 = record { step = (End 23 Done); closed = []; opened = []; stopped = [] } ∷ past52

abbrev past54 : History
past54 = record { step = (Begin 24 8 8 0 Activate []); closed = []; opened = []; stopped = [] } ∷ past53

abbrev past55 : History
past55 = record { step = (End 24 Done); closed = []; opened = []; stopped = [] } ∷ past54

abbrev past56 : History
past56 = record { step = (Begin 25 0 0 0 (Bind (codes "servlets") 9) []); closed = []; opened = []; stopped = [] } ∷ past55

abbrev past57 : History
past57 = record { step = (End 25 Done); closed = []; opened = []; stopped = [] } ∷ past56

abbrev past58 : History
past58 = record { step = (Commanded (Stop 3)); closed = (8 ∷ []); opened = []; stopped = [] } ∷ past57

abbrev past59 : History
past59 = record { step = (Drained 8); closed = []; opened = []; stopped = [] } ∷ past58

abbrev past60 : History
past60 = record { step = (Begin 26 0 0 0 (Unbind (codes "servlets") 9) []); closed = []; opened = []; stopped = [] } ∷ past59

abbrev past61 : History
past61 = record { step = (End 26 Done); closed = []; opened = []; stopped = [] } ∷ past60

abbrev past62 : History
past62 = record { step = (Begin 27 8 8 0 Deactivate []); closed = []; opened = []; stopped = [] } ∷ past61

abbrev past63 : History
past63 = record { step = (End 27 Done); closed = []; opened = []; stopped = [] } ∷ past62

abbrev past64 : History
past64 = record { step = (Begin 28 8 8 0 Destroy []); closed = []; opened = []; stopped = [] } ∷ past63

abbrev past65 : History
past65 = record { step = (End 28 Done); closed = []; opened = []; stopped = (3 ∷ []) } ∷ past64

abbrev all : List World
all = worlds past65

is_legal : legal 4194304 past65 all ≡ true
unfolding world_after_entry world_of world_after_step stage_in stage_of stopped_in stopped_by shut_between has_room satisfied_in
is_legal = refl

stands_legal : IsLegal 4194304 past65
stands_legal = legal_means 4194304 past65 is_legal

which_begin : begins all ≡ (None ∷ None ∷ (Some (Begin 28 8 8 0 Destroy [])) ∷ None ∷ (Some (Begin 27 8 8 0 Deactivate [])) ∷ None ∷ (Some (Begin 26 0 0 0 (Unbind (codes "servlets") 9) [])) ∷ (Some (Begin 26 0 0 0 (Unbind (codes "servlets") 9) [])) ∷ None ∷ None ∷ (Some (Begin 25 0 0 0 (Bind (codes "servlets") 9) [])) ∷ None ∷ (Some (Begin 24 8 8 0 Activate [])) ∷ None ∷ (Some (Begin 23 8 8 0 Create [])) ∷ None ∷ None ∷ (Some (Begin 22 0 0 0 (Bind (codes "servlets") 8) [])) ∷ None ∷ (Some (Begin 21 7 7 0 Activate [])) ∷ None ∷ (Some (Begin 20 7 7 0 Create [])) ∷ (Some (Begin 20 7 7 0 Create [])) ∷ (Some (Begin 19 0 0 0 (Bind (codes "servlets") 7) [])) ∷ (Some (Begin 19 7 7 0 Create [])) ∷ (Some (Begin 18 6 6 0 Activate [])) ∷ (Some (Begin 18 7 7 0 Create [])) ∷ (Some (Begin 17 6 6 0 Create [])) ∷ (Some (Begin 17 6 6 0 Create [])) ∷ (Some (Begin 16 0 0 0 (Bind (codes "servlets") 6) [])) ∷ (Some (Begin 16 6 6 0 Create [])) ∷ (Some (Begin 15 5 5 0 Activate [])) ∷ (Some (Begin 15 6 6 0 Create [])) ∷ (Some (Begin 14 5 5 0 Create [])) ∷ (Some (Begin 14 5 5 0 Create [])) ∷ (Some (Begin 13 0 0 0 (Bind (codes "servlets") 5) [])) ∷ (Some (Begin 13 5 5 0 Create [])) ∷ (Some (Begin 12 4 4 0 Activate [])) ∷ (Some (Begin 12 5 5 0 Create [])) ∷ (Some (Begin 11 4 4 0 Create [])) ∷ (Some (Begin 11 4 4 0 Create [])) ∷ (Some (Begin 10 0 0 0 (Bind (codes "servlets") 4) [])) ∷ (Some (Begin 10 4 4 0 Create [])) ∷ (Some (Begin 9 3 3 0 Activate [])) ∷ (Some (Begin 9 4 4 0 Create [])) ∷ (Some (Begin 8 3 3 0 Create [])) ∷ (Some (Begin 8 3 3 0 Create [])) ∷ (Some (Begin 7 0 0 0 (Bind (codes "servlets") 3) [])) ∷ (Some (Begin 7 3 3 0 Create [])) ∷ (Some (Begin 6 2 2 0 Activate [])) ∷ (Some (Begin 6 3 3 0 Create [])) ∷ (Some (Begin 5 2 2 0 Create [])) ∷ (Some (Begin 5 2 2 0 Create [])) ∷ (Some (Begin 4 0 0 0 (Bind (codes "servlets") 2) [])) ∷ (Some (Begin 4 2 2 0 Create [])) ∷ (Some (Begin 3 1 1 0 Activate [])) ∷ (Some (Begin 3 2 2 0 Create [])) ∷ (Some (Begin 2 1 1 0 Create [])) ∷ None ∷ None ∷ None ∷ None ∷ (Some (Begin 1 0 0 0 (Bind (codes "contexts") 1) [])) ∷ None ∷ None ∷ None ∷ [])
unfolding world_after_entry world_of world_after_step stage_in stage_of stopped_in stopped_by shut_between has_room satisfied_in
which_begin = refl

which_states : states all ≡ (((1, 8) ∷ (2, 8) ∷ (3, 8) ∷ (4, 8) ∷ (5, 8) ∷ (6, 8) ∷ (7, 8) ∷ []) ∷ ((1, 8) ∷ (2, 8) ∷ (3, 8) ∷ (4, 8) ∷ (5, 8) ∷ (6, 8) ∷ (7, 8) ∷ []) ∷ ((1, 8) ∷ (2, 8) ∷ (3, 8) ∷ (4, 8) ∷ (5, 8) ∷ (6, 8) ∷ (7, 8) ∷ []) ∷ ((1, 8) ∷ (2, 8) ∷ (3, 8) ∷ (4, 8) ∷ (5, 8) ∷ (6, 8) ∷ (7, 8) ∷ []) ∷ ((1, 8) ∷ (2, 8) ∷ (3, 8) ∷ (4, 8) ∷ (5, 8) ∷ (6, 8) ∷ (7, 8) ∷ []) ∷ ((1, 8) ∷ (2, 8) ∷ (3, 8) ∷ (4, 8) ∷ (5, 8) ∷ (6, 8) ∷ (7, 8) ∷ []) ∷ ((1, 8) ∷ (2, 8) ∷ (3, 8) ∷ (4, 8) ∷ (5, 8) ∷ (6, 8) ∷ (7, 8) ∷ []) ∷ ((1, 8) ∷ (2, 8) ∷ (3, 8) ∷ (4, 8) ∷ (5, 8) ∷ (6, 8) ∷ (7, 8) ∷ []) ∷ ((1, 8) ∷ (2, 8) ∷ (3, 8) ∷ (4, 8) ∷ (5, 8) ∷ (6, 8) ∷ (7, 8) ∷ (8, 8) ∷ []) ∷ ((1, 8) ∷ (2, 8) ∷ (3, 8) ∷ (4, 8) ∷ (5, 8) ∷ (6, 8) ∷ (7, 8) ∷ (8, 8) ∷ []) ∷ ((1, 8) ∷ (2, 8) ∷ (3, 8) ∷ (4, 8) ∷ (5, 8) ∷ (6, 8) ∷ (7, 8) ∷ (8, 8) ∷ []) ∷ ((1, 8) ∷ (2, 8) ∷ (3, 8) ∷ (4, 8) ∷ (5, 8) ∷ (6, 8) ∷ (7, 8) ∷ (8, 4) ∷ []) ∷ ((1, 8) ∷ (2, 8) ∷ (3, 8) ∷ (4, 8) ∷ (5, 8) ∷ (6, 8) ∷ (7, 8) ∷ (8, 4) ∷ []) ∷ ((1, 8) ∷ (2, 8) ∷ (3, 8) ∷ (4, 8) ∷ (5, 8) ∷ (6, 8) ∷ (7, 8) ∷ (8, 4) ∷ []) ∷ ((1, 8) ∷ (2, 8) ∷ (3, 8) ∷ (4, 8) ∷ (5, 8) ∷ (6, 8) ∷ (7, 8) ∷ (8, 4) ∷ []) ∷ ((1, 8) ∷ (2, 8) ∷ (3, 8) ∷ (4, 8) ∷ (5, 8) ∷ (6, 8) ∷ (7, 8) ∷ []) ∷ ((1, 8) ∷ (2, 8) ∷ (3, 8) ∷ (4, 8) ∷ (5, 8) ∷ (6, 8) ∷ (7, 8) ∷ []) ∷ ((1, 8) ∷ (2, 8) ∷ (3, 8) ∷ (4, 8) ∷ (5, 8) ∷ (6, 8) ∷ (7, 8) ∷ []) ∷ ((1, 8) ∷ (2, 8) ∷ (3, 8) ∷ (4, 8) ∷ (5, 8) ∷ (6, 8) ∷ (7, 4) ∷ []) ∷ ((1, 8) ∷ (2, 8) ∷ (3, 8) ∷ (4, 8) ∷ (5, 8) ∷ (6, 8) ∷ (7, 4) ∷ []) ∷ ((1, 8) ∷ (2, 8) ∷ (3, 8) ∷ (4, 8) ∷ (5, 8) ∷ (6, 8) ∷ (7, 4) ∷ []) ∷ ((1, 8) ∷ (2, 8) ∷ (3, 8) ∷ (4, 8) ∷ (5, 8) ∷ (6, 8) ∷ (7, 4) ∷ []) ∷ ((1, 8) ∷ (2, 8) ∷ (3, 8) ∷ (4, 8) ∷ (5, 8) ∷ (6, 8) ∷ (7, 4) ∷ []) ∷ ((1, 8) ∷ (2, 8) ∷ (3, 8) ∷ (4, 8) ∷ (5, 8) ∷ (6, 8) ∷ (7, 4) ∷ []) ∷ ((1, 8) ∷ (2, 8) ∷ (3, 8) ∷ (4, 8) ∷ (5, 8) ∷ (6, 4) ∷ (7, 4) ∷ []) ∷ ((1, 8) ∷ (2, 8) ∷ (3, 8) ∷ (4, 8) ∷ (5, 8) ∷ (6, 4) ∷ (7, 4) ∷ []) ∷ ((1, 8) ∷ (2, 8) ∷ (3, 8) ∷ (4, 8) ∷ (5, 8) ∷ (6, 4) ∷ (7, 4) ∷ []) ∷ ((1, 8) ∷ (2, 8) ∷ (3, 8) ∷ (4, 8) ∷ (5, 8) ∷ (6, 4) ∷ (7, 4) ∷ []) ∷ ((1, 8) ∷ (2, 8) ∷ (3, 8) ∷ (4, 8) ∷ (5, 8) ∷ (6, 4) ∷ (7, 4) ∷ []) ∷ ((1, 8) ∷ (2, 8) ∷ (3, 8) ∷ (4, 8) ∷ (5, 8) ∷ (6, 4) ∷ (7, 4) ∷ []) ∷ ((1, 8) ∷ (2, 8) ∷ (3, 8) ∷ (4, 8) ∷ (5, 4) ∷ (6, 4) ∷ (7, 4) ∷ []) ∷ ((1, 8) ∷ (2, 8) ∷ (3, 8) ∷ (4, 8) ∷ (5, 4) ∷ (6, 4) ∷ (7, 4) ∷ []) ∷ ((1, 8) ∷ (2, 8) ∷ (3, 8) ∷ (4, 8) ∷ (5, 4) ∷ (6, 4) ∷ (7, 4) ∷ []) ∷ ((1, 8) ∷ (2, 8) ∷ (3, 8) ∷ (4, 8) ∷ (5, 4) ∷ (6, 4) ∷ (7, 4) ∷ []) ∷ ((1, 8) ∷ (2, 8) ∷ (3, 8) ∷ (4, 8) ∷ (5, 4) ∷ (6, 4) ∷ (7, 4) ∷ []) ∷ ((1, 8) ∷ (2, 8) ∷ (3, 8) ∷ (4, 8) ∷ (5, 4) ∷ (6, 4) ∷ (7, 4) ∷ []) ∷ ((1, 8) ∷ (2, 8) ∷ (3, 8) ∷ (4, 4) ∷ (5, 4) ∷ (6, 4) ∷ (7, 4) ∷ []) ∷ ((1, 8) ∷ (2, 8) ∷ (3, 8) ∷ (4, 4) ∷ (5, 4) ∷ (6, 4) ∷ (7, 4) ∷ []) ∷ ((1, 8) ∷ (2, 8) ∷ (3, 8) ∷ (4, 4) ∷ (5, 4) ∷ (6, 4) ∷ (7, 4) ∷ []) ∷ ((1, 8) ∷ (2, 8) ∷ (3, 8) ∷ (4, 4) ∷ (5, 4) ∷ (6, 4) ∷ (7, 4) ∷ []) ∷ ((1, 8) ∷ (2, 8) ∷ (3, 8) ∷ (4, 4) ∷ (5, 4) ∷ (6, 4) ∷ (7, 4) ∷ []) ∷ ((1, 8) ∷ (2, 8) ∷ (3, 8) ∷ (4, 4) ∷ (5, 4) ∷ (6, 4) ∷ (7, 4) ∷ []) ∷ ((1, 8) ∷ (2, 8) ∷ (3, 4) ∷ (4, 4) ∷ (5, 4) ∷ (6, 4) ∷ (7, 4) ∷ []) ∷ ((1, 8) ∷ (2, 8) ∷ (3, 4) ∷ (4, 4) ∷ (5, 4) ∷ (6, 4) ∷ (7, 4) ∷ []) ∷ ((1, 8) ∷ (2, 8) ∷ (3, 4) ∷ (4, 4) ∷ (5, 4) ∷ (6, 4) ∷ (7, 4) ∷ []) ∷ ((1, 8) ∷ (2, 8) ∷ (3, 4) ∷ (4, 4) ∷ (5, 4) ∷ (6, 4) ∷ (7, 4) ∷ []) ∷ ((1, 8) ∷ (2, 8) ∷ (3, 4) ∷ (4, 4) ∷ (5, 4) ∷ (6, 4) ∷ (7, 4) ∷ []) ∷ ((1, 8) ∷ (2, 8) ∷ (3, 4) ∷ (4, 4) ∷ (5, 4) ∷ (6, 4) ∷ (7, 4) ∷ []) ∷ ((1, 8) ∷ (2, 4) ∷ (3, 4) ∷ (4, 4) ∷ (5, 4) ∷ (6, 4) ∷ (7, 4) ∷ []) ∷ ((1, 8) ∷ (2, 4) ∷ (3, 4) ∷ (4, 4) ∷ (5, 4) ∷ (6, 4) ∷ (7, 4) ∷ []) ∷ ((1, 8) ∷ (2, 4) ∷ (3, 4) ∷ (4, 4) ∷ (5, 4) ∷ (6, 4) ∷ (7, 4) ∷ []) ∷ ((1, 8) ∷ (2, 4) ∷ (3, 4) ∷ (4, 4) ∷ (5, 4) ∷ (6, 4) ∷ (7, 4) ∷ []) ∷ ((1, 8) ∷ (2, 4) ∷ (3, 4) ∷ (4, 4) ∷ (5, 4) ∷ (6, 4) ∷ (7, 4) ∷ []) ∷ ((1, 8) ∷ (2, 4) ∷ (3, 4) ∷ (4, 4) ∷ (5, 4) ∷ (6, 4) ∷ (7, 4) ∷ []) ∷ ((1, 4) ∷ (2, 4) ∷ (3, 4) ∷ (4, 4) ∷ (5, 4) ∷ (6, 4) ∷ (7, 4) ∷ []) ∷ ((1, 4) ∷ (2, 4) ∷ (3, 4) ∷ (4, 4) ∷ (5, 4) ∷ (6, 4) ∷ (7, 4) ∷ []) ∷ ((1, 4) ∷ (2, 4) ∷ (3, 4) ∷ (4, 4) ∷ (5, 4) ∷ (6, 4) ∷ (7, 4) ∷ []) ∷ ((1, 4) ∷ (2, 4) ∷ (3, 4) ∷ (4, 4) ∷ (5, 4) ∷ (6, 4) ∷ (7, 4) ∷ []) ∷ [] ∷ [] ∷ [] ∷ [] ∷ [] ∷ [] ∷ [] ∷ [] ∷ [])
unfolding world_after_entry world_of world_after_step stage_in stage_of stopped_in stopped_by shut_between has_room satisfied_in
which_states = refl

which_quiet : quiet_ones all ≡ (true ∷ false ∷ false ∷ false ∷ false ∷ false ∷ false ∷ false ∷ true ∷ false ∷ false ∷ false ∷ false ∷ false ∷ false ∷ true ∷ false ∷ false ∷ false ∷ false ∷ false ∷ false ∷ false ∷ false ∷ false ∷ false ∷ false ∷ false ∷ false ∷ false ∷ false ∷ false ∷ false ∷ false ∷ false ∷ false ∷ false ∷ false ∷ false ∷ false ∷ false ∷ false ∷ false ∷ false ∷ false ∷ false ∷ false ∷ false ∷ false ∷ false ∷ false ∷ false ∷ false ∷ false ∷ false ∷ false ∷ false ∷ false ∷ true ∷ true ∷ true ∷ false ∷ false ∷ true ∷ true ∷ true ∷ [])
unfolding world_after_entry world_of world_after_step stage_in stage_of stopped_in stopped_by shut_between has_room satisfied_in
which_quiet = refl

which_right : right_ones all ≡ (true ∷ false ∷ false ∷ false ∷ false ∷ false ∷ false ∷ false ∷ true ∷ true ∷ false ∷ false ∷ false ∷ false ∷ false ∷ true ∷ true ∷ false ∷ false ∷ false ∷ false ∷ false ∷ false ∷ false ∷ false ∷ false ∷ false ∷ false ∷ false ∷ false ∷ false ∷ false ∷ false ∷ false ∷ false ∷ false ∷ false ∷ false ∷ false ∷ false ∷ false ∷ false ∷ false ∷ false ∷ false ∷ false ∷ false ∷ false ∷ false ∷ false ∷ false ∷ false ∷ false ∷ false ∷ false ∷ false ∷ false ∷ false ∷ true ∷ true ∷ true ∷ true ∷ false ∷ true ∷ true ∷ true ∷ [])
unfolding world_after_entry world_of world_after_step stage_in stage_of stopped_in stopped_by shut_between has_room satisfied_in
which_right = refl

which_wanted : wanted_at all ≡ ((record { configuration = 1; consumer = 0 } ∷ record { configuration = 2; consumer = 0 } ∷ record { configuration = 3; consumer = 0 } ∷ record { configuration = 4; consumer = 0 } ∷ record { configuration = 5; consumer = 0 } ∷ record { configuration = 6; consumer = 0 } ∷ record { configuration = 7; consumer = 0 } ∷ []) ∷ (record { configuration = 1; consumer = 0 } ∷ record { configuration = 2; consumer = 0 } ∷ record { configuration = 3; consumer = 0 } ∷ record { configuration = 4; consumer = 0 } ∷ record { configuration = 5; consumer = 0 } ∷ record { configuration = 6; consumer = 0 } ∷ record { configuration = 7; consumer = 0 } ∷ []) ∷ (record { configuration = 1; consumer = 0 } ∷ record { configuration = 2; consumer = 0 } ∷ record { configuration = 3; consumer = 0 } ∷ record { configuration = 4; consumer = 0 } ∷ record { configuration = 5; consumer = 0 } ∷ record { configuration = 6; consumer = 0 } ∷ record { configuration = 7; consumer = 0 } ∷ []) ∷ (record { configuration = 1; consumer = 0 } ∷ record { configuration = 2; consumer = 0 } ∷ record { configuration = 3; consumer = 0 } ∷ record { configuration = 4; consumer = 0 } ∷ record { configuration = 5; consumer = 0 } ∷ record { configuration = 6; consumer = 0 } ∷ record { configuration = 7; consumer = 0 } ∷ []) ∷ (record { configuration = 1; consumer = 0 } ∷ record { configuration = 2; consumer = 0 } ∷ record { configuration = 3; consumer = 0 } ∷ record { configuration = 4; consumer = 0 } ∷ record { configuration = 5; consumer = 0 } ∷ record { configuration = 6; consumer = 0 } ∷ record { configuration = 7; consumer = 0 } ∷ []) ∷ (record { configuration = 1; consumer = 0 } ∷ record { configuration = 2; consumer = 0 } ∷ record { configuration = 3; consumer = 0 } ∷ record { configuration = 4; consumer = 0 } ∷ record { configuration = 5; consumer = 0 } ∷ record { configuration = 6; consumer = 0 } ∷ record { configuration = 7; consumer = 0 } ∷ []) ∷ (record { configuration = 1; consumer = 0 } ∷ record { configuration = 2; consumer = 0 } ∷ record { configuration = 3; consumer = 0 } ∷ record { configuration = 4; consumer = 0 } ∷ record { configuration = 5; consumer = 0 } ∷ record { configuration = 6; consumer = 0 } ∷ record { configuration = 7; consumer = 0 } ∷ []) ∷ (record { configuration = 1; consumer = 0 } ∷ record { configuration = 2; consumer = 0 } ∷ record { configuration = 3; consumer = 0 } ∷ record { configuration = 4; consumer = 0 } ∷ record { configuration = 5; consumer = 0 } ∷ record { configuration = 6; consumer = 0 } ∷ record { configuration = 7; consumer = 0 } ∷ []) ∷ (record { configuration = 1; consumer = 0 } ∷ record { configuration = 2; consumer = 0 } ∷ record { configuration = 3; consumer = 0 } ∷ record { configuration = 4; consumer = 0 } ∷ record { configuration = 5; consumer = 0 } ∷ record { configuration = 6; consumer = 0 } ∷ record { configuration = 7; consumer = 0 } ∷ record { configuration = 8; consumer = 0 } ∷ []) ∷ (record { configuration = 1; consumer = 0 } ∷ record { configuration = 2; consumer = 0 } ∷ record { configuration = 3; consumer = 0 } ∷ record { configuration = 4; consumer = 0 } ∷ record { configuration = 5; consumer = 0 } ∷ record { configuration = 6; consumer = 0 } ∷ record { configuration = 7; consumer = 0 } ∷ record { configuration = 8; consumer = 0 } ∷ []) ∷ (record { configuration = 1; consumer = 0 } ∷ record { configuration = 2; consumer = 0 } ∷ record { configuration = 3; consumer = 0 } ∷ record { configuration = 4; consumer = 0 } ∷ record { configuration = 5; consumer = 0 } ∷ record { configuration = 6; consumer = 0 } ∷ record { configuration = 7; consumer = 0 } ∷ record { configuration = 8; consumer = 0 } ∷ []) ∷ (record { configuration = 1; consumer = 0 } ∷ record { configuration = 2; consumer = 0 } ∷ record { configuration = 3; consumer = 0 } ∷ record { configuration = 4; consumer = 0 } ∷ record { configuration = 5; consumer = 0 } ∷ record { configuration = 6; consumer = 0 } ∷ record { configuration = 7; consumer = 0 } ∷ record { configuration = 8; consumer = 0 } ∷ []) ∷ (record { configuration = 1; consumer = 0 } ∷ record { configuration = 2; consumer = 0 } ∷ record { configuration = 3; consumer = 0 } ∷ record { configuration = 4; consumer = 0 } ∷ record { configuration = 5; consumer = 0 } ∷ record { configuration = 6; consumer = 0 } ∷ record { configuration = 7; consumer = 0 } ∷ record { configuration = 8; consumer = 0 } ∷ []) ∷ (record { configuration = 1; consumer = 0 } ∷ record { configuration = 2; consumer = 0 } ∷ record { configuration = 3; consumer = 0 } ∷ record { configuration = 4; consumer = 0 } ∷ record { configuration = 5; consumer = 0 } ∷ record { configuration = 6; consumer = 0 } ∷ record { configuration = 7; consumer = 0 } ∷ record { configuration = 8; consumer = 0 } ∷ []) ∷ (record { configuration = 1; consumer = 0 } ∷ record { configuration = 2; consumer = 0 } ∷ record { configuration = 3; consumer = 0 } ∷ record { configuration = 4; consumer = 0 } ∷ record { configuration = 5; consumer = 0 } ∷ record { configuration = 6; consumer = 0 } ∷ record { configuration = 7; consumer = 0 } ∷ record { configuration = 8; consumer = 0 } ∷ []) ∷ (record { configuration = 1; consumer = 0 } ∷ record { configuration = 2; consumer = 0 } ∷ record { configuration = 3; consumer = 0 } ∷ record { configuration = 4; consumer = 0 } ∷ record { configuration = 5; consumer = 0 } ∷ record { configuration = 6; consumer = 0 } ∷ record { configuration = 7; consumer = 0 } ∷ []) ∷ (record { configuration = 1; consumer = 0 } ∷ record { configuration = 2; consumer = 0 } ∷ record { configuration = 3; consumer = 0 } ∷ record { configuration = 4; consumer = 0 } ∷ record { configuration = 5; consumer = 0 } ∷ record { configuration = 6; consumer = 0 } ∷ record { configuration = 7; consumer = 0 } ∷ []) ∷ (record { configuration = 1; consumer = 0 } ∷ record { configuration = 2; consumer = 0 } ∷ record { configuration = 3; consumer = 0 } ∷ record { configuration = 4; consumer = 0 } ∷ record { configuration = 5; consumer = 0 } ∷ record { configuration = 6; consumer = 0 } ∷ record { configuration = 7; consumer = 0 } ∷ []) ∷ (record { configuration = 1; consumer = 0 } ∷ record { configuration = 2; consumer = 0 } ∷ record { configuration = 3; consumer = 0 } ∷ record { configuration = 4; consumer = 0 } ∷ record { configuration = 5; consumer = 0 } ∷ record { configuration = 6; consumer = 0 } ∷ record { configuration = 7; consumer = 0 } ∷ []) ∷ (record { configuration = 1; consumer = 0 } ∷ record { configuration = 2; consumer = 0 } ∷ record { configuration = 3; consumer = 0 } ∷ record { configuration = 4; consumer = 0 } ∷ record { configuration = 5; consumer = 0 } ∷ record { configuration = 6; consumer = 0 } ∷ record { configuration = 7; consumer = 0 } ∷ []) ∷ (record { configuration = 1; consumer = 0 } ∷ record { configuration = 2; consumer = 0 } ∷ record { configuration = 3; consumer = 0 } ∷ record { configuration = 4; consumer = 0 } ∷ record { configuration = 5; consumer = 0 } ∷ record { configuration = 6; consumer = 0 } ∷ record { configuration = 7; consumer = 0 } ∷ []) ∷ (record { configuration = 1; consumer = 0 } ∷ record { configuration = 2; consumer = 0 } ∷ record { configuration = 3; consumer = 0 } ∷ record { configuration = 4; consumer = 0 } ∷ record { configuration = 5; consumer = 0 } ∷ record { configuration = 6; consumer = 0 } ∷ record { configuration = 7; consumer = 0 } ∷ []) ∷ (record { configuration = 1; consumer = 0 } ∷ record { configuration = 2; consumer = 0 } ∷ record { configuration = 3; consumer = 0 } ∷ record { configuration = 4; consumer = 0 } ∷ record { configuration = 5; consumer = 0 } ∷ record { configuration = 6; consumer = 0 } ∷ record { configuration = 7; consumer = 0 } ∷ []) ∷ (record { configuration = 1; consumer = 0 } ∷ record { configuration = 2; consumer = 0 } ∷ record { configuration = 3; consumer = 0 } ∷ record { configuration = 4; consumer = 0 } ∷ record { configuration = 5; consumer = 0 } ∷ record { configuration = 6; consumer = 0 } ∷ record { configuration = 7; consumer = 0 } ∷ []) ∷ (record { configuration = 1; consumer = 0 } ∷ record { configuration = 2; consumer = 0 } ∷ record { configuration = 3; consumer = 0 } ∷ record { configuration = 4; consumer = 0 } ∷ record { configuration = 5; consumer = 0 } ∷ record { configuration = 6; consumer = 0 } ∷ record { configuration = 7; consumer = 0 } ∷ []) ∷ (record { configuration = 1; consumer = 0 } ∷ record { configuration = 2; consumer = 0 } ∷ record { configuration = 3; consumer = 0 } ∷ record { configuration = 4; consumer = 0 } ∷ record { configuration = 5; consumer = 0 } ∷ record { configuration = 6; consumer = 0 } ∷ record { configuration = 7; consumer = 0 } ∷ []) ∷ (record { configuration = 1; consumer = 0 } ∷ record { configuration = 2; consumer = 0 } ∷ record { configuration = 3; consumer = 0 } ∷ record { configuration = 4; consumer = 0 } ∷ record { configuration = 5; consumer = 0 } ∷ record { configuration = 6; consumer = 0 } ∷ record { configuration = 7; consumer = 0 } ∷ []) ∷ (record { configuration = 1; consumer = 0 } ∷ record { configuration = 2; consumer = 0 } ∷ record { configuration = 3; consumer = 0 } ∷ record { configuration = 4; consumer = 0 } ∷ record { configuration = 5; consumer = 0 } ∷ record { configuration = 6; consumer = 0 } ∷ record { configuration = 7; consumer = 0 } ∷ []) ∷ (record { configuration = 1; consumer = 0 } ∷ record { configuration = 2; consumer = 0 } ∷ record { configuration = 3; consumer = 0 } ∷ record { configuration = 4; consumer = 0 } ∷ record { configuration = 5; consumer = 0 } ∷ record { configuration = 6; consumer = 0 } ∷ record { configuration = 7; consumer = 0 } ∷ []) ∷ (record { configuration = 1; consumer = 0 } ∷ record { configuration = 2; consumer = 0 } ∷ record { configuration = 3; consumer = 0 } ∷ record { configuration = 4; consumer = 0 } ∷ record { configuration = 5; consumer = 0 } ∷ record { configuration = 6; consumer = 0 } ∷ record { configuration = 7; consumer = 0 } ∷ []) ∷ (record { configuration = 1; consumer = 0 } ∷ record { configuration = 2; consumer = 0 } ∷ record { configuration = 3; consumer = 0 } ∷ record { configuration = 4; consumer = 0 } ∷ record { configuration = 5; consumer = 0 } ∷ record { configuration = 6; consumer = 0 } ∷ record { configuration = 7; consumer = 0 } ∷ []) ∷ (record { configuration = 1; consumer = 0 } ∷ record { configuration = 2; consumer = 0 } ∷ record { configuration = 3; consumer = 0 } ∷ record { configuration = 4; consumer = 0 } ∷ record { configuration = 5; consumer = 0 } ∷ record { configuration = 6; consumer = 0 } ∷ record { configuration = 7; consumer = 0 } ∷ []) ∷ (record { configuration = 1; consumer = 0 } ∷ record { configuration = 2; consumer = 0 } ∷ record { configuration = 3; consumer = 0 } ∷ record { configuration = 4; consumer = 0 } ∷ record { configuration = 5; consumer = 0 } ∷ record { configuration = 6; consumer = 0 } ∷ record { configuration = 7; consumer = 0 } ∷ []) ∷ (record { configuration = 1; consumer = 0 } ∷ record { configuration = 2; consumer = 0 } ∷ record { configuration = 3; consumer = 0 } ∷ record { configuration = 4; consumer = 0 } ∷ record { configuration = 5; consumer = 0 } ∷ record { configuration = 6; consumer = 0 } ∷ record { configuration = 7; consumer = 0 } ∷ []) ∷ (record { configuration = 1; consumer = 0 } ∷ record { configuration = 2; consumer = 0 } ∷ record { configuration = 3; consumer = 0 } ∷ record { configuration = 4; consumer = 0 } ∷ record { configuration = 5; consumer = 0 } ∷ record { configuration = 6; consumer = 0 } ∷ record { configuration = 7; consumer = 0 } ∷ []) ∷ (record { configuration = 1; consumer = 0 } ∷ record { configuration = 2; consumer = 0 } ∷ record { configuration = 3; consumer = 0 } ∷ record { configuration = 4; consumer = 0 } ∷ record { configuration = 5; consumer = 0 } ∷ record { configuration = 6; consumer = 0 } ∷ record { configuration = 7; consumer = 0 } ∷ []) ∷ (record { configuration = 1; consumer = 0 } ∷ record { configuration = 2; consumer = 0 } ∷ record { configuration = 3; consumer = 0 } ∷ record { configuration = 4; consumer = 0 } ∷ record { configuration = 5; consumer = 0 } ∷ record { configuration = 6; consumer = 0 } ∷ record { configuration = 7; consumer = 0 } ∷ []) ∷ (record { configuration = 1; consumer = 0 } ∷ record { configuration = 2; consumer = 0 } ∷ record { configuration = 3; consumer = 0 } ∷ record { configuration = 4; consumer = 0 } ∷ record { configuration = 5; consumer = 0 } ∷ record { configuration = 6; consumer = 0 } ∷ record { configuration = 7; consumer = 0 } ∷ []) ∷ (record { configuration = 1; consumer = 0 } ∷ record { configuration = 2; consumer = 0 } ∷ record { configuration = 3; consumer = 0 } ∷ record { configuration = 4; consumer = 0 } ∷ record { configuration = 5; consumer = 0 } ∷ record { configuration = 6; consumer = 0 } ∷ record { configuration = 7; consumer = 0 } ∷ []) ∷ (record { configuration = 1; consumer = 0 } ∷ record { configuration = 2; consumer = 0 } ∷ record { configuration = 3; consumer = 0 } ∷ record { configuration = 4; consumer = 0 } ∷ record { configuration = 5; consumer = 0 } ∷ record { configuration = 6; consumer = 0 } ∷ record { configuration = 7; consumer = 0 } ∷ []) ∷ (record { configuration = 1; consumer = 0 } ∷ record { configuration = 2; consumer = 0 } ∷ record { configuration = 3; consumer = 0 } ∷ record { configuration = 4; consumer = 0 } ∷ record { configuration = 5; consumer = 0 } ∷ record { configuration = 6; consumer = 0 } ∷ record { configuration = 7; consumer = 0 } ∷ []) ∷ (record { configuration = 1; consumer = 0 } ∷ record { configuration = 2; consumer = 0 } ∷ record { configuration = 3; consumer = 0 } ∷ record { configuration = 4; consumer = 0 } ∷ record { configuration = 5; consumer = 0 } ∷ record { configuration = 6; consumer = 0 } ∷ record { configuration = 7; consumer = 0 } ∷ []) ∷ (record { configuration = 1; consumer = 0 } ∷ record { configuration = 2; consumer = 0 } ∷ record { configuration = 3; consumer = 0 } ∷ record { configuration = 4; consumer = 0 } ∷ record { configuration = 5; consumer = 0 } ∷ record { configuration = 6; consumer = 0 } ∷ record { configuration = 7; consumer = 0 } ∷ []) ∷ (record { configuration = 1; consumer = 0 } ∷ record { configuration = 2; consumer = 0 } ∷ record { configuration = 3; consumer = 0 } ∷ record { configuration = 4; consumer = 0 } ∷ record { configuration = 5; consumer = 0 } ∷ record { configuration = 6; consumer = 0 } ∷ record { configuration = 7; consumer = 0 } ∷ []) ∷ (record { configuration = 1; consumer = 0 } ∷ record { configuration = 2; consumer = 0 } ∷ record { configuration = 3; consumer = 0 } ∷ record { configuration = 4; consumer = 0 } ∷ record { configuration = 5; consumer = 0 } ∷ record { configuration = 6; consumer = 0 } ∷ record { configuration = 7; consumer = 0 } ∷ []) ∷ (record { configuration = 1; consumer = 0 } ∷ record { configuration = 2; consumer = 0 } ∷ record { configuration = 3; consumer = 0 } ∷ record { configuration = 4; consumer = 0 } ∷ record { configuration = 5; consumer = 0 } ∷ record { configuration = 6; consumer = 0 } ∷ record { configuration = 7; consumer = 0 } ∷ []) ∷ (record { configuration = 1; consumer = 0 } ∷ record { configuration = 2; consumer = 0 } ∷ record { configuration = 3; consumer = 0 } ∷ record { configuration = 4; consumer = 0 } ∷ record { configuration = 5; consumer = 0 } ∷ record { configuration = 6; consumer = 0 } ∷ record { configuration = 7; consumer = 0 } ∷ []) ∷ (record { configuration = 1; consumer = 0 } ∷ record { configuration = 2; consumer = 0 } ∷ record { configuration = 3; consumer = 0 } ∷ record { configuration = 4; consumer = 0 } ∷ record { configuration = 5; consumer = 0 } ∷ record { configuration = 6; consumer = 0 } ∷ record { configuration = 7; consumer = 0 } ∷ []) ∷ (record { configuration = 1; consumer = 0 } ∷ record { configuration = 2; consumer = 0 } ∷ record { configuration = 3; consumer = 0 } ∷ record { configuration = 4; consumer = 0 } ∷ record { configuration = 5; consumer = 0 } ∷ record { configuration = 6; consumer = 0 } ∷ record { configuration = 7; consumer = 0 } ∷ []) ∷ (record { configuration = 1; consumer = 0 } ∷ record { configuration = 2; consumer = 0 } ∷ record { configuration = 3; consumer = 0 } ∷ record { configuration = 4; consumer = 0 } ∷ record { configuration = 5; consumer = 0 } ∷ record { configuration = 6; consumer = 0 } ∷ record { configuration = 7; consumer = 0 } ∷ []) ∷ (record { configuration = 1; consumer = 0 } ∷ record { configuration = 2; consumer = 0 } ∷ record { configuration = 3; consumer = 0 } ∷ record { configuration = 4; consumer = 0 } ∷ record { configuration = 5; consumer = 0 } ∷ record { configuration = 6; consumer = 0 } ∷ record { configuration = 7; consumer = 0 } ∷ []) ∷ (record { configuration = 1; consumer = 0 } ∷ record { configuration = 2; consumer = 0 } ∷ record { configuration = 3; consumer = 0 } ∷ record { configuration = 4; consumer = 0 } ∷ record { configuration = 5; consumer = 0 } ∷ record { configuration = 6; consumer = 0 } ∷ record { configuration = 7; consumer = 0 } ∷ []) ∷ (record { configuration = 1; consumer = 0 } ∷ record { configuration = 2; consumer = 0 } ∷ record { configuration = 3; consumer = 0 } ∷ record { configuration = 4; consumer = 0 } ∷ record { configuration = 5; consumer = 0 } ∷ record { configuration = 6; consumer = 0 } ∷ record { configuration = 7; consumer = 0 } ∷ []) ∷ (record { configuration = 1; consumer = 0 } ∷ record { configuration = 2; consumer = 0 } ∷ record { configuration = 3; consumer = 0 } ∷ record { configuration = 4; consumer = 0 } ∷ record { configuration = 5; consumer = 0 } ∷ record { configuration = 6; consumer = 0 } ∷ record { configuration = 7; consumer = 0 } ∷ []) ∷ (record { configuration = 1; consumer = 0 } ∷ record { configuration = 2; consumer = 0 } ∷ record { configuration = 3; consumer = 0 } ∷ record { configuration = 4; consumer = 0 } ∷ record { configuration = 5; consumer = 0 } ∷ record { configuration = 6; consumer = 0 } ∷ record { configuration = 7; consumer = 0 } ∷ []) ∷ (record { configuration = 1; consumer = 0 } ∷ record { configuration = 2; consumer = 0 } ∷ record { configuration = 3; consumer = 0 } ∷ record { configuration = 4; consumer = 0 } ∷ record { configuration = 5; consumer = 0 } ∷ record { configuration = 6; consumer = 0 } ∷ record { configuration = 7; consumer = 0 } ∷ []) ∷ (record { configuration = 1; consumer = 0 } ∷ record { configuration = 2; consumer = 0 } ∷ record { configuration = 3; consumer = 0 } ∷ record { configuration = 4; consumer = 0 } ∷ record { configuration = 5; consumer = 0 } ∷ record { configuration = 6; consumer = 0 } ∷ record { configuration = 7; consumer = 0 } ∷ []) ∷ (record { configuration = 1; consumer = 0 } ∷ record { configuration = 2; consumer = 0 } ∷ record { configuration = 3; consumer = 0 } ∷ record { configuration = 4; consumer = 0 } ∷ record { configuration = 5; consumer = 0 } ∷ record { configuration = 6; consumer = 0 } ∷ record { configuration = 7; consumer = 0 } ∷ []) ∷ [] ∷ [] ∷ [] ∷ [] ∷ [] ∷ [] ∷ [] ∷ [] ∷ [])
unfolding world_after_entry world_of world_after_step stage_in stage_of stopped_in stopped_by shut_between has_room satisfied_in
which_wanted = refl

which_replies : replies 4194304 all (asked 0 (Install doc1) ∷ asked 1 (Start 1) ∷ asked 2 (Register 1 ((codes "org.osgi.service.http.context.ServletContextHelper") ∷ []) (record { key = (codes "osgi.http.whiteboard.context.name"); value = (Text (codes "ca")) } ∷ record { key = (codes "osgi.http.whiteboard.context.path"); value = (Text (codes "/a")) } ∷ [])) ∷ asked 5 (Install doc2) ∷ asked 6 (Install doc3) ∷ asked 7 (Start 2) ∷ asked 50 (Start 3) ∷ asked 57 (Stop 3) ∷ []) ≡ ((Ok (InBundle 1)) ∷ (Ok IsDone) ∷ (Ok (AsService 1)) ∷ (Ok (InBundle 2)) ∷ (Ok (InBundle 3)) ∷ (Ok IsDone) ∷ (Ok IsDone) ∷ (Ok IsDone) ∷ [])
unfolding world_after_entry world_of world_after_step stage_in stage_of stopped_in stopped_by shut_between has_room satisfied_in
which_replies = refl

bundle_events : bundle_events_at_end all ≡ (record { value = 1; bundle = 1 } ∷ record { value = 32; bundle = 1 } ∷ record { value = 128; bundle = 1 } ∷ record { value = 2; bundle = 1 } ∷ record { value = 1; bundle = 2 } ∷ record { value = 1; bundle = 3 } ∷ record { value = 32; bundle = 2 } ∷ record { value = 128; bundle = 2 } ∷ record { value = 2; bundle = 2 } ∷ record { value = 32; bundle = 3 } ∷ record { value = 128; bundle = 3 } ∷ record { value = 2; bundle = 3 } ∷ record { value = 256; bundle = 3 } ∷ record { value = 4; bundle = 3 } ∷ [])
unfolding world_after_entry world_of world_after_step stage_in stage_of stopped_in stopped_by shut_between has_room satisfied_in
bundle_events = refl

held_1 : held_at_end 1 all ≡ []
unfolding world_after_entry world_of world_after_step stage_in stage_of stopped_in stopped_by shut_between has_room satisfied_in
held_1 = refl

held_2 : held_at_end 2 all ≡ []
unfolding world_after_entry world_of world_after_step stage_in stage_of stopped_in stopped_by shut_between has_room satisfied_in
held_2 = refl

held_3 : held_at_end 3 all ≡ []
unfolding world_after_entry world_of world_after_step stage_in stage_of stopped_in stopped_by shut_between has_room satisfied_in
held_3 = refl

held_4 : held_at_end 4 all ≡ []
unfolding world_after_entry world_of world_after_step stage_in stage_of stopped_in stopped_by shut_between has_room satisfied_in
held_4 = refl

held_5 : held_at_end 5 all ≡ []
unfolding world_after_entry world_of world_after_step stage_in stage_of stopped_in stopped_by shut_between has_room satisfied_in
held_5 = refl

held_6 : held_at_end 6 all ≡ []
unfolding world_after_entry world_of world_after_step stage_in stage_of stopped_in stopped_by shut_between has_room satisfied_in
held_6 = refl

held_7 : held_at_end 7 all ≡ []
unfolding world_after_entry world_of world_after_step stage_in stage_of stopped_in stopped_by shut_between has_room satisfied_in
held_7 = refl

bound_is : bound_at_end all ≡ 270
unfolding world_after_entry world_of world_after_step stage_in stage_of stopped_in stopped_by shut_between has_room satisfied_in
bound_is = refl

calm_is : calm_at_end all ≡ true
unfolding world_after_entry world_of world_after_step stage_in stage_of stopped_in stopped_by shut_between has_room satisfied_in
calm_is = refl
