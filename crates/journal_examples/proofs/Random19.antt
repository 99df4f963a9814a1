-- A worked example, as an independent model of the platform has it.
use Rattle.std.specs.Prelude.{◌≡◌, refl, ℕ, List, [], ◌∷◌, codes, true, false, Some, None, Ok, Err, pos, negsuc}
use Rattle.prop_map.specs.declared.value.Value.TheVariants.{Text, Whole, Flag, Texts, Wholes, Flags}
use Rattle.prop_map.specs.declared.reference_words.Cardinality.TheVariants.{ZeroOrOne, One, ZeroOrMore, OneOrMore}
use Rattle.prop_map.specs.declared.reference_words.Policy.TheVariants.{Static, Dynamic}
use Rattle.prop_map.specs.declared.reference_words.PolicyOption.TheVariants.{Reluctant, Greedy}
use Rattle.component_dto.specs.declared.description.Scope.TheVariants.{Singleton, Bundle as InBundleScope, Prototype}
use Rattle.component_dto.specs.declared.description.ConfigurationPolicy.TheVariants.{Optional, Require, Ignore}
use Rattle.bundle_doc.specs.declared.document.BundleDoc.{BundleDoc}
use Rattle.bundle_life.specs.declared.bundle.BundleEvent.{BundleEvent}
use Rattle.journal_examples.proofs.Trees.{tree_or_none}
use Rattle.callback_orders.specs.declared.callback.Callback.TheVariants.{Create, Bind, Updated, Unbind, Activate, Modified, Deactivate, Destroy}
use Rattle.callback_orders.specs.declared.callback.Outcome.TheVariants.{Done, Refused, NoMemory}
use Rattle.service_listeners.specs.declared.listener.ServiceEvent.{ServiceEvent}
use Rattle.scr_world.specs.declared.step.Step.TheVariants.{Command as Commanded, Begin, End, Drained, Got, Released}
use Rattle.scr_world.specs.declared.command.Command.TheVariants.{Install, Update, Start, Stop, Uninstall, Enable, Disable, Register, Unregister, SetProperties, Get, Unget, Listen, Unlisten, Configure, ConfigureFactory, Unconfigure}
use Rattle.scr_world.specs.declared.reply.CoreFault.TheVariants.{NoBundle, NoComponent, WrongState, Stopping, SameName, Cycle, BundlesFull, ComponentsFull, ServicesFull, ConfigurationsFull, ListenersFull, NoService, NotOwner, NotUsing, NoListener, NoConfiguration, BadPid, FactoryClash, ActivationFailed, ActivationNoMemory, JournalFull}
use Rattle.scr_world.specs.declared.reply.Reply.TheVariants.{Done as IsDone, Bundle as InBundle, Service as AsService, Uses as WithUses, Listener as AsListener}
use Rattle.scr_world.specs.Steps.{History}
use Rattle.scr_world.specs.declared.world.World.{World}
use Rattle.journal_examples.proofs.Meanings.{legal_means}
use Rattle.scr_world.specs.Legal.{IsLegal}
use Rattle.journal_examples.proofs.Tests.{worlds, legal, begins, states, quiet_ones, right_ones, asked, replies, bundle_events_at_end, events_at_end, held_at_end, found_at_end, wanted_at, bound_at_end, calm_at_end}
use Rattle.scr_world.specs.Worlds.{satisfied_in}
use Rattle.scr_world.specs.Room.{has_room}
use Rattle.scr_world.specs.Consequences.{stage_in, stage_of, stopped_in, stopped_by, shut_between}
use Rattle.scr_world.specs.Stepping.{world_after_step}
use Rattle.scr_world.specs.Lists.{world_after_entry, world_of}

abbrev doc1 : BundleDoc
doc1 = record { location = (codes "b0"); name = (codes "b0"); version = record { major = 0; minor = 0; micro = 0; qualifier = [] }; manifest = None; activator = None; descriptions = (record { name = (codes "c3"); scope = Singleton; implementation_class = (codes "K"); default_enabled = true; immediate = true; service_interfaces = ((codes "I1") ∷ []); properties = (record { key = (codes "service.ranking"); value = (Whole (pos 3)) } ∷ []); references = (record { name = (codes "r0"); interface_name = (codes "I0"); cardinality = OneOrMore; policy = Dynamic; policy_option = Greedy; target = None; updated = (Some (codes "u")) } ∷ []); modified = None; configuration_policy = Optional; configuration_pids = ((codes "q") ∷ []); implicit = true } ∷ record { name = (codes "c2"); scope = Prototype; implementation_class = (codes "demo.Relay"); default_enabled = true; immediate = false; service_interfaces = ((codes "I1") ∷ (codes "J1") ∷ []); properties = (record { key = (codes "refuse"); value = (Text (codes "unbind")) } ∷ record { key = (codes "service.ranking"); value = (Whole (pos 1)) } ∷ []); references = (record { name = (codes "next"); interface_name = (codes "Y"); cardinality = OneOrMore; policy = Static; policy_option = Reluctant; target = None; updated = None } ∷ []); modified = None; configuration_policy = Ignore; configuration_pids = ((codes "p") ∷ []); implicit = true } ∷ []) }

abbrev doc2 : BundleDoc
doc2 = record { location = (codes "b1"); name = (codes "b1"); version = record { major = 0; minor = 0; micro = 0; qualifier = [] }; manifest = None; activator = None; descriptions = (record { name = (codes "c5"); scope = Prototype; implementation_class = (codes "demo.Echo"); default_enabled = true; immediate = false; service_interfaces = ((codes "J1") ∷ []); properties = []; references = (record { name = (codes "r0"); interface_name = (codes "I0"); cardinality = OneOrMore; policy = Static; policy_option = Reluctant; target = None; updated = None } ∷ record { name = (codes "r1"); interface_name = (codes "J0"); cardinality = One; policy = Static; policy_option = Greedy; target = (Some (codes "(service.bundleid=1)")); updated = None } ∷ record { name = (codes "r2"); interface_name = (codes "I0"); cardinality = One; policy = Dynamic; policy_option = Greedy; target = None; updated = (Some (codes "u")) } ∷ []); modified = (Some (codes "m")); configuration_policy = Optional; configuration_pids = ((codes "q") ∷ (codes "p") ∷ []); implicit = true } ∷ record { name = (codes "c1"); scope = Singleton; implementation_class = (codes "demo.Relay"); default_enabled = true; immediate = false; service_interfaces = ((codes "I0") ∷ (codes "J0") ∷ (codes "javax.servlet.Servlet") ∷ []); properties = (record { key = (codes ".p"); value = (Whole (pos 1)) } ∷ record { key = (codes "osgi.http.whiteboard.servlet.pattern"); value = (Text (codes "/x")) } ∷ record { key = (codes "service.ranking"); value = (Whole (pos 2)) } ∷ []); references = (record { name = (codes "next"); interface_name = (codes "Y"); cardinality = One; policy = Dynamic; policy_option = Reluctant; target = None; updated = (Some (codes "u")) } ∷ []); modified = None; configuration_policy = Optional; configuration_pids = ((codes "p") ∷ []); implicit = true } ∷ []) }

abbrev doc3 : BundleDoc
doc3 = record { location = (codes "b2"); name = (codes "b2"); version = record { major = 0; minor = 0; micro = 0; qualifier = [] }; manifest = None; activator = None; descriptions = (record { name = (codes "c0"); scope = Singleton; implementation_class = (codes "K"); default_enabled = true; immediate = true; service_interfaces = []; properties = (record { key = (codes ".p"); value = (Whole (pos 0)) } ∷ record { key = (codes "refuse"); value = (Text (codes "deactivate")) } ∷ record { key = (codes "v"); value = (Whole (pos 1)) } ∷ []); references = []; modified = (Some (codes "m")); configuration_policy = Optional; configuration_pids = ((codes "c0") ∷ []); implicit = true } ∷ record { name = (codes "c4"); scope = Singleton; implementation_class = (codes "demo.Echo"); default_enabled = true; immediate = true; service_interfaces = ((codes "I1") ∷ (codes "J1") ∷ []); properties = (record { key = (codes "service.ranking"); value = (Whole (negsuc 0)) } ∷ []); references = (record { name = (codes "r0"); interface_name = (codes "J0"); cardinality = OneOrMore; policy = Dynamic; policy_option = Greedy; target = None; updated = None } ∷ []); modified = None; configuration_policy = Optional; configuration_pids = ((codes "c4") ∷ []); implicit = true } ∷ []) }

abbrev past0 : History
past0 = []

abbrev past1 : History
past1 = record { step = (Commanded (Install doc1)); closed = []; opened = []; stopped = [] } ∷ past0

abbrev past2 : History
past2 = record { step = (Commanded (Install doc2)); closed = []; opened = []; stopped = [] } ∷ past1

abbrev past3 : History
past3 = record { step = (Commanded (Install doc3)); closed = []; opened = []; stopped = [] } ∷ past2

abbrev past4 : History
past4 = record { step = (Commanded (Start 1)); closed = []; opened = []; stopped = [] } ∷ past3

abbrev past5 : History
past5 = record { step = (Commanded (Register 1 ((codes "Y") ∷ []) (record { key = (codes "v"); value = (Whole (pos 0)) } ∷ []))); closed = []; opened = (record { configuration = 2; service = 2 } ∷ []); stopped = [] } ∷ past4

abbrev past6 : History
past6 = record { step = (Commanded (Start 2)); closed = []; opened = (record { configuration = 4; service = 3 } ∷ record { configuration = 1; service = 4 } ∷ []); stopped = [] } ∷ past5

abbrev past7 : History
past7 = record { step = (Begin 1 1 1 0 Create []); closed = []; opened = []; stopped = [] } ∷ past6

abbrev past8 : History
past8 = record { step = (End 1 Done); closed = []; opened = []; stopped = [] } ∷ past7

abbrev past9 : History
past9 = record { step = (Begin 2 2 4 0 Create []); closed = []; opened = []; stopped = [] } ∷ past8

abbrev past10 : History
past10 = record { step = (End 2 Done); closed = []; opened = []; stopped = [] } ∷ past9

abbrev past11 : History
past11 = record { step = (Begin 3 2 4 0 (Bind (codes "next") 1) []); closed = []; opened = []; stopped = [] } ∷ past10

abbrev past12 : History
past12 = record { step = (End 3 Done); closed = []; opened = []; stopped = [] } ∷ past11

abbrev past13 : History
past13 = record { step = (Begin 4 2 4 0 Activate []); closed = []; opened = []; stopped = [] } ∷ past12

abbrev past14 : History
past14 = record { step = (End 4 Done); closed = []; opened = []; stopped = [] } ∷ past13

abbrev past15 : History
past15 = record { step = (Begin 5 0 0 0 (Bind (codes "servlets") 3) []); closed = []; opened = []; stopped = [] } ∷ past14

abbrev past16 : History
past16 = record { step = (End 5 Done); closed = []; opened = []; stopped = [] } ∷ past15

abbrev past17 : History
past17 = record { step = (Begin 6 1 1 0 (Bind (codes "r0") 3) []); closed = []; opened = []; stopped = [] } ∷ past16

abbrev past18 : History
past18 = record { step = (End 6 Done); closed = []; opened = []; stopped = [] } ∷ past17

abbrev past19 : History
past19 = record { step = (Begin 7 1 1 0 Activate []); closed = []; opened = []; stopped = [] } ∷ past18

abbrev past20 : History
past20 = record { step = (End 7 Done); closed = []; opened = []; stopped = [] } ∷ past19

abbrev past21 : History
past21 = record { step = (Commanded (Start 3)); closed = []; opened = (record { configuration = 5; service = 0 } ∷ record { configuration = 6; service = 5 } ∷ []); stopped = [] } ∷ past20

abbrev past22 : History
past22 = record { step = (Begin 8 3 5 0 Create []); closed = []; opened = []; stopped = [] } ∷ past21

abbrev past23 : History
past23 = record { step = (End 8 Done); closed = []; opened = []; stopped = [] } ∷ past22

abbrev past24 : History
past24 = record { step = (Begin 9 3 5 0 Activate []); closed = []; opened = []; stopped = [] } ∷ past23

abbrev past25 : History
past25 = record { step = (End 9 Done); closed = []; opened = []; stopped = [] } ∷ past24

abbrev past26 : History
past26 = record { step = (Begin 10 4 6 0 Create []); closed = []; opened = []; stopped = [] } ∷ past25

abbrev past27 : History
past27 = record { step = (End 10 Done); closed = []; opened = []; stopped = [] } ∷ past26

abbrev past28 : History
past28 = record { step = (Begin 11 4 6 0 (Bind (codes "r0") 3) []); closed = []; opened = []; stopped = [] } ∷ past27

abbrev past29 : History
past29 = record { step = (End 11 Done); closed = []; opened = []; stopped = [] } ∷ past28

abbrev past30 : History
past30 = record { step = (Begin 12 4 6 0 Activate []); closed = []; opened = []; stopped = [] } ∷ past29

abbrev past31 : History
past31 = record { step = (End 12 Done); closed = []; opened = []; stopped = [] } ∷ past30

abbrev past32 : History
past32 = record { step = (Commanded (Register 3 ((codes "Y") ∷ []) (record { key = (codes "v"); value = (Whole (pos 0)) } ∷ []))); closed = []; opened = []; stopped = [] } ∷ past31

abbrev past33 : History
past33 = record { step = (Commanded (Get 1 3)); closed = []; opened = []; stopped = [] } ∷ past32

abbrev past34 : History
past34 = record { step = (Got 1 3); closed = []; opened = []; stopped = [] } ∷ past33

abbrev past35 : History
past35 = record { step = (Released 33); closed = []; opened = []; stopped = [] } ∷ past34

abbrev past36 : History
past36 = record { step = (Commanded (Disable 1 (codes "c3"))); closed = (1 ∷ []); opened = []; stopped = [] } ∷ past35

abbrev past37 : History
past37 = record { step = (Drained 1); closed = []; opened = []; stopped = [] } ∷ past36

abbrev past38 : History
past38 = record { step = (Begin 13 1 1 0 Deactivate []); closed = []; opened = []; stopped = [] } ∷ past37

abbrev past39 : History
past39 = record { step = (End 13 Done); closed = []; opened = []; stopped = [] } ∷ past38

abbrev past40 : History
past40 = record { step = (Begin 14 1 1 0 (Unbind (codes "r0") 3) []); closed = []; opened = []; stopped = [] } ∷ past39

abbrev past41 : History
past41 = record { step = (End 14 Done); closed = []; opened = []; stopped = [] } ∷ past40

abbrev past42 : History
past42 = record { step = (Begin 15 1 1 0 Destroy []); closed = []; opened = []; stopped = [] } ∷ past41

abbrev past43 : History
past43 = record { step = (End 15 Done); closed = []; opened = []; stopped = [] } ∷ past42

abbrev past44 : History
past44 = record { step = (Commanded (SetProperties 1 1 (record { key = (codes "v"); value = (Whole (pos 0)) } ∷ []))); closed = []; opened = []; stopped = [] } ∷ past43

abbrev past45 : History
past45 = record { step = (Begin 16 2 4 0 (Updated (codes "next") 1) []); closed = []; opened = []; stopped = [] } ∷ past44

abbrev past46 : History
past46 = record { step = (End 16 Done); closed = []; opened = []; stopped = [] } ∷ past45

abbrev past47 : History
past47 = record { step = (Commanded (Stop 1)); closed = (2 ∷ []); opened = []; stopped = (1 ∷ []) } ∷ past46

abbrev past48 : History
past48 = record { step = (Begin 17 2 4 0 (Bind (codes "next") 6) []); closed = []; opened = []; stopped = [] } ∷ past47

abbrev past49 : History
past49 = record { step = (End 17 Done); closed = []; opened = []; stopped = [] } ∷ past48

abbrev past50 : History
past50 = record { step = (Begin 18 2 4 0 (Unbind (codes "next") 1) []); closed = []; opened = []; stopped = [] } ∷ past49

abbrev past51 : History
past51 = record { step = (End 18 Done); closed = []; opened = []; stopped = [] } ∷ past50

abbrev past52 : History
past52 = record { step = (Commanded (Start 1)); closed = []; opened = (record { configuration = 8; service = 7 } ∷ record { configuration = 7; service = 8 } ∷ []); stopped = [] } ∷ past51

abbrev past53 : History
past53 = record { step = (Begin 19 5 7 0 Create []); closed = []; opened = []; stopped = [] } ∷ past52

abbrev past54 : History
past54 = record { step = (End 19 Done); closed = []; opened = []; stopped = [] } ∷ past53

abbrev past55 : History
past55 = record { step = (Begin 20 5 7 0 (Bind (codes "r0") 3) []); closed = []; opened = []; stopped = [] } ∷ past54

abbrev past56 : History
past56 = record { step = (End 20 Done); closed = []; opened = []; stopped = [] } ∷ past55

abbrev past57 : History
past57 = record { step = (Begin 21 5 7 0 Activate []); closed = []; opened = []; stopped = [] } ∷ past56

abbrev past58 : History
past58 = record { step = (End 21 Done); closed = []; opened = []; stopped = [] } ∷ past57

abbrev past59 : History
past59 = record { step = (Commanded (Stop 3)); closed = (4 ∷ 5 ∷ 8 ∷ 6 ∷ 7 ∷ []); opened = []; stopped = [] } ∷ past58

abbrev past60 : History
past60 = record { step = (Drained 2); closed = []; opened = []; stopped = [] } ∷ past59

abbrev past61 : History
past61 = record { step = (Drained 3); closed = []; opened = []; stopped = [] } ∷ past60

abbrev past62 : History
past62 = record { step = (Drained 4); closed = []; opened = []; stopped = [] } ∷ past61

abbrev past63 : History
past63 = record { step = (Drained 5); closed = []; opened = []; stopped = [] } ∷ past62

abbrev past64 : History
past64 = record { step = (Begin 22 0 0 0 (Unbind (codes "servlets") 3) []); closed = []; opened = []; stopped = [] } ∷ past63

abbrev past65 : History
past65 = record { step = (End 22 Done); closed = []; opened = []; stopped = [] } ∷ past64

abbrev past66 : History
past66 = record { step = (Begin 23 3 5 0 Deactivate []); closed = []; opened = []; stopped = [] } ∷ past65

abbrev past67 : History
past67 = record { step = (End 23 Refused); closed = []; opened = []; stopped = [] } ∷ past66

abbrev past68 : History
past68 = record { step = (Begin 24 3 5 0 Destroy []); closed = []; opened = []; stopped = [] } ∷ past67

abbrev past69 : History
past69 = record { step = (End 24 Done); closed = []; opened = []; stopped = [] } ∷ past68

abbrev past70 : History
past70 = record { step = (Begin 25 4 6 0 Deactivate []); closed = []; opened = []; stopped = [] } ∷ past69

abbrev past71 : History
past71 = record { step = (End 25 Done); closed = []; opened = []; stopped = [] } ∷ past70

abbrev past72 : History
past72 = record { step = (Begin 26 4 6 0 (Unbind (codes "r0") 3) []); closed = []; opened = []; stopped = [] } ∷ past71

abbrev past73 : History
past73 = record { step = (End 26 Done); closed = []; opened = []; stopped = [] } ∷ past72

abbrev past74 : History
past74 = record { step = (Begin 27 4 6 0 Destroy []); closed = []; opened = []; stopped = [] } ∷ past73

abbrev past75 : History
past75 = record { step = (End 27 Done); closed = []; opened = []; stopped = (3 ∷ []) } ∷ past74

abbrev past76 : History
past76 = record { step = (Begin 28 5 7 0 Deactivate []); closed = []; opened = []; stopped = [] } ∷ past75

abbrev past77 : History
past77 = record { step = (End 28 Done); closed = []; opened = []; stopped = [] } ∷ past76

abbrev past78 : History
past78 = record { step = (Begin 29 5 7 0 (Unbind (codes "r0") 3) []); closed = []; opened = []; stopped = [] } ∷ past77

abbrev past79 : History
past79 = record { step = (End 29 Done); closed = []; opened = []; stopped = [] } ∷ past78

abbrev past80 : History
past80 = record { step = (Begin 30 2 4 0 Deactivate []); closed = []; opened = []; stopped = [] } ∷ past79

abbrev past81 : History
past81 = record { step = (End 30 Done); closed = []; opened = []; stopped = [] } ∷ past80

abbrev past82 : History
past82 = record { step = (Begin 31 2 4 0 (Unbind (codes "next") 6) []); closed = []; opened = []; stopped = [] } ∷ past81

abbrev past83 : History
past83 = record { step = (End 31 Done); closed = []; opened = []; stopped = [] } ∷ past82

abbrev past84 : History
past84 = record { step = (Begin 32 2 4 0 Destroy []); closed = []; opened = []; stopped = [] } ∷ past83

abbrev past85 : History
past85 = record { step = (End 32 Done); closed = []; opened = []; stopped = [] } ∷ past84

abbrev past86 : History
past86 = record { step = (Begin 33 5 7 0 Destroy []); closed = []; opened = []; stopped = [] } ∷ past85

abbrev past87 : History
past87 = record { step = (End 33 Done); closed = []; opened = []; stopped = [] } ∷ past86

abbrev past88 : History
past88 = record { step = (Commanded (Start 3)); closed = []; opened = (record { configuration = 9; service = 0 } ∷ []); stopped = [] } ∷ past87

abbrev past89 : History
past89 = record { step = (Begin 34 6 9 0 Create []); closed = []; opened = []; stopped = [] } ∷ past88

abbrev past90 : History
past90 = record { step = (End 34 Done); closed = []; opened = []; stopped = [] } ∷ past89

abbrev past91 : History
past91 = record { step = (Begin 35 6 9 0 Activate []); closed = []; opened = []; stopped = [] } ∷ past90

abbrev past92 : History
past92 = record { step = (End 35 Done); closed = []; opened = []; stopped = [] } ∷ past91

abbrev past93 : History
past93 = record { step = (Commanded (Configure (codes "c4") (record { key = (codes "r1.target"); value = (Text (codes "(component.id=2)")) } ∷ []))); closed = []; opened = []; stopped = [] } ∷ past92

abbrev past94 : History
past94 = record { step = (Commanded (Stop 3)); closed = (9 ∷ []); opened = []; stopped = [] } ∷ past93

abbrev past95 : History
past95 = record { step = (Drained 6); closed = []; opened = []; stopped = [] } ∷ past94

abbrev past96 : History
past96 = record { step = (Begin 36 6 9 0 Deactivate []); closed = []; opened = []; stopped = [] } ∷ past95

abbrev past97 : History
past97 = record { step = (End 36 Refused); closed = []; opened = []; stopped = [] } ∷ past96

abbrev past98 : History
past98 = record { step = (Begin 37 6 9 0 Destroy []); closed = []; opened = []; stopped = [] } ∷ past97

abbrev past99 : History
past99 = record { step = (End 37 Done); closed = []; opened = []; stopped = (3 ∷ []) } ∷ past98

abbrev past100 : History
past100 = record { step = (Commanded (Disable 1 (codes "c3"))); closed = []; opened = []; stopped = [] } ∷ past99

abbrev past101 : History
past101 = record { step = (Commanded (Uninstall 3)); closed = []; opened = []; stopped = [] } ∷ past100

abbrev all : List World
all = worlds past101

is_legal : legal 4194304 past101 all ≡ true
unfolding world_after_entry world_of world_after_step stage_in stage_of stopped_in stopped_by shut_between has_room satisfied_in
is_legal = refl

stands_legal : IsLegal 4194304 past101
stands_legal = legal_means 4194304 past101 is_legal

which_begin : begins all ≡ (None ∷ None ∷ None ∷ None ∷ (Some (Begin 37 6 9 0 Destroy [])) ∷ None ∷ (Some (Begin 36 6 9 0 Deactivate [])) ∷ None ∷ None ∷ None ∷ None ∷ (Some (Begin 35 6 9 0 Activate [])) ∷ None ∷ (Some (Begin 34 6 9 0 Create [])) ∷ None ∷ None ∷ (Some (Begin 33 5 7 0 Destroy [])) ∷ (Some (Begin 33 5 7 0 Destroy [])) ∷ (Some (Begin 32 2 4 0 Destroy [])) ∷ (Some (Begin 32 5 7 0 Destroy [])) ∷ (Some (Begin 31 2 4 0 (Unbind (codes "next") 6) [])) ∷ (Some (Begin 31 5 7 0 Destroy [])) ∷ (Some (Begin 30 2 4 0 Deactivate [])) ∷ None ∷ (Some (Begin 29 5 7 0 (Unbind (codes "r0") 3) [])) ∷ None ∷ (Some (Begin 28 5 7 0 Deactivate [])) ∷ (Some (Begin 28 5 7 0 Deactivate [])) ∷ (Some (Begin 27 4 6 0 Destroy [])) ∷ (Some (Begin 27 5 7 0 Deactivate [])) ∷ (Some (Begin 26 4 6 0 (Unbind (codes "r0") 3) [])) ∷ (Some (Begin 26 5 7 0 Deactivate [])) ∷ (Some (Begin 25 4 6 0 Deactivate [])) ∷ (Some (Begin 25 4 6 0 Deactivate [])) ∷ (Some (Begin 24 3 5 0 Destroy [])) ∷ (Some (Begin 24 4 6 0 Deactivate [])) ∷ (Some (Begin 23 3 5 0 Deactivate [])) ∷ (Some (Begin 23 3 5 0 Deactivate [])) ∷ (Some (Begin 22 0 0 0 (Unbind (codes "servlets") 3) [])) ∷ (Some (Begin 22 0 0 0 (Unbind (codes "servlets") 3) [])) ∷ (Some (Begin 22 0 0 0 (Unbind (codes "servlets") 3) [])) ∷ (Some (Begin 22 0 0 0 (Unbind (codes "servlets") 3) [])) ∷ (Some (Begin 22 0 0 0 (Unbind (codes "servlets") 3) [])) ∷ None ∷ None ∷ (Some (Begin 21 5 7 0 Activate [])) ∷ None ∷ (Some (Begin 20 5 7 0 (Bind (codes "r0") 3) [])) ∷ None ∷ (Some (Begin 19 5 7 0 Create [])) ∷ None ∷ None ∷ (Some (Begin 18 2 4 0 (Unbind (codes "next") 1) [])) ∷ None ∷ (Some (Begin 17 2 4 0 (Bind (codes "next") 6) [])) ∷ None ∷ None ∷ (Some (Begin 16 2 4 0 (Updated (codes "next") 1) [])) ∷ None ∷ None ∷ (Some (Begin 15 1 1 0 Destroy [])) ∷ None ∷ (Some (Begin 14 1 1 0 (Unbind (codes "r0") 3) [])) ∷ None ∷ (Some (Begin 13 1 1 0 Deactivate [])) ∷ None ∷ None ∷ None ∷ None ∷ None ∷ None ∷ None ∷ (Some (Begin 12 4 6 0 Activate [])) ∷ None ∷ (Some (Begin 11 4 6 0 (Bind (codes "r0") 3) [])) ∷ None ∷ (Some (Begin 10 4 6 0 Create [])) ∷ (Some (Begin 10 4 6 0 Create [])) ∷ (Some (Begin 9 3 5 0 Activate [])) ∷ (Some (Begin 9 4 6 0 Create [])) ∷ (Some (Begin 8 3 5 0 Create [])) ∷ None ∷ None ∷ (Some (Begin 7 1 1 0 Activate [])) ∷ None ∷ (Some (Begin 6 1 1 0 (Bind (codes "r0") 3) [])) ∷ (Some (Begin 6 1 1 0 (Bind (codes "r0") 3) [])) ∷ (Some (Begin 5 0 0 0 (Bind (codes "servlets") 3) [])) ∷ None ∷ (Some (Begin 4 2 4 0 Activate [])) ∷ None ∷ (Some (Begin 3 2 4 0 (Bind (codes "next") 1) [])) ∷ None ∷ (Some (Begin 2 2 4 0 Create [])) ∷ (Some (Begin 2 2 4 0 Create [])) ∷ (Some (Begin 1 1 1 0 Create [])) ∷ None ∷ None ∷ None ∷ None ∷ None ∷ None ∷ [])
unfolding world_after_entry world_of world_after_step stage_in stage_of stopped_in stopped_by shut_between has_room satisfied_in
which_begin = refl

which_states : states all ≡ (((3, 2) ∷ (4, 2) ∷ (8, 2) ∷ []) ∷ ((3, 2) ∷ (4, 2) ∷ (8, 2) ∷ []) ∷ ((3, 2) ∷ (4, 2) ∷ (7, 2) ∷ (8, 2) ∷ []) ∷ ((3, 2) ∷ (4, 2) ∷ (7, 2) ∷ (8, 2) ∷ []) ∷ ((3, 2) ∷ (4, 2) ∷ (7, 2) ∷ (8, 2) ∷ []) ∷ ((3, 2) ∷ (4, 2) ∷ (7, 2) ∷ (8, 2) ∷ []) ∷ ((3, 2) ∷ (4, 2) ∷ (7, 2) ∷ (8, 2) ∷ []) ∷ ((3, 2) ∷ (4, 2) ∷ (7, 2) ∷ (8, 2) ∷ []) ∷ ((3, 2) ∷ (4, 2) ∷ (7, 2) ∷ (8, 2) ∷ (9, 8) ∷ (10, 2) ∷ []) ∷ ((3, 2) ∷ (4, 2) ∷ (7, 2) ∷ (8, 2) ∷ (9, 8) ∷ (10, 2) ∷ []) ∷ ((3, 2) ∷ (4, 2) ∷ (7, 2) ∷ (8, 2) ∷ (9, 4) ∷ (10, 2) ∷ []) ∷ ((3, 2) ∷ (4, 2) ∷ (7, 2) ∷ (8, 2) ∷ (9, 4) ∷ (10, 2) ∷ []) ∷ ((3, 2) ∷ (4, 2) ∷ (7, 2) ∷ (8, 2) ∷ (9, 4) ∷ (10, 2) ∷ []) ∷ ((3, 2) ∷ (4, 2) ∷ (7, 2) ∷ (8, 2) ∷ (9, 4) ∷ (10, 2) ∷ []) ∷ ((3, 2) ∷ (4, 2) ∷ (7, 2) ∷ (8, 2) ∷ []) ∷ ((3, 2) ∷ (4, 2) ∷ (7, 2) ∷ (8, 2) ∷ []) ∷ ((3, 2) ∷ (4, 2) ∷ (7, 2) ∷ (8, 2) ∷ []) ∷ ((3, 2) ∷ (4, 2) ∷ (7, 2) ∷ (8, 2) ∷ []) ∷ ((3, 2) ∷ (4, 2) ∷ (7, 2) ∷ (8, 2) ∷ []) ∷ ((3, 2) ∷ (4, 2) ∷ (7, 2) ∷ (8, 2) ∷ []) ∷ ((3, 2) ∷ (4, 2) ∷ (7, 2) ∷ (8, 2) ∷ []) ∷ ((3, 2) ∷ (4, 2) ∷ (7, 2) ∷ (8, 2) ∷ []) ∷ ((3, 2) ∷ (4, 2) ∷ (7, 2) ∷ (8, 2) ∷ []) ∷ ((3, 2) ∷ (4, 2) ∷ (7, 2) ∷ (8, 2) ∷ []) ∷ ((3, 2) ∷ (4, 2) ∷ (7, 2) ∷ (8, 2) ∷ []) ∷ ((3, 2) ∷ (4, 2) ∷ (7, 2) ∷ (8, 2) ∷ []) ∷ ((3, 2) ∷ (4, 2) ∷ (7, 2) ∷ (8, 2) ∷ []) ∷ ((3, 2) ∷ (4, 2) ∷ (7, 2) ∷ (8, 2) ∷ []) ∷ ((3, 2) ∷ (4, 2) ∷ (7, 2) ∷ (8, 2) ∷ []) ∷ ((3, 2) ∷ (4, 2) ∷ (7, 2) ∷ (8, 2) ∷ []) ∷ ((3, 2) ∷ (4, 2) ∷ (7, 2) ∷ (8, 2) ∷ []) ∷ ((3, 2) ∷ (4, 2) ∷ (7, 2) ∷ (8, 2) ∷ []) ∷ ((3, 2) ∷ (4, 2) ∷ (7, 2) ∷ (8, 2) ∷ []) ∷ ((3, 2) ∷ (4, 2) ∷ (7, 2) ∷ (8, 2) ∷ []) ∷ ((3, 2) ∷ (4, 2) ∷ (7, 2) ∷ (8, 2) ∷ []) ∷ ((3, 2) ∷ (4, 2) ∷ (7, 2) ∷ (8, 2) ∷ []) ∷ ((3, 2) ∷ (4, 2) ∷ (7, 2) ∷ (8, 2) ∷ []) ∷ ((3, 2) ∷ (4, 2) ∷ (7, 2) ∷ (8, 2) ∷ []) ∷ ((3, 2) ∷ (4, 2) ∷ (7, 2) ∷ (8, 2) ∷ []) ∷ ((3, 2) ∷ (4, 2) ∷ (7, 2) ∷ (8, 2) ∷ []) ∷ ((3, 2) ∷ (4, 2) ∷ (7, 2) ∷ (8, 2) ∷ []) ∷ ((3, 2) ∷ (4, 2) ∷ (7, 2) ∷ (8, 2) ∷ []) ∷ ((3, 2) ∷ (4, 2) ∷ (7, 2) ∷ (8, 2) ∷ []) ∷ ((3, 2) ∷ (4, 8) ∷ (5, 8) ∷ (6, 8) ∷ (7, 8) ∷ (8, 4) ∷ []) ∷ ((3, 2) ∷ (4, 8) ∷ (5, 8) ∷ (6, 8) ∷ (7, 4) ∷ (8, 4) ∷ []) ∷ ((3, 2) ∷ (4, 8) ∷ (5, 8) ∷ (6, 8) ∷ (7, 4) ∷ (8, 4) ∷ []) ∷ ((3, 2) ∷ (4, 8) ∷ (5, 8) ∷ (6, 8) ∷ (7, 4) ∷ (8, 4) ∷ []) ∷ ((3, 2) ∷ (4, 8) ∷ (5, 8) ∷ (6, 8) ∷ (7, 4) ∷ (8, 4) ∷ []) ∷ ((3, 2) ∷ (4, 8) ∷ (5, 8) ∷ (6, 8) ∷ (7, 4) ∷ (8, 4) ∷ []) ∷ ((3, 2) ∷ (4, 8) ∷ (5, 8) ∷ (6, 8) ∷ (7, 4) ∷ (8, 4) ∷ []) ∷ ((3, 2) ∷ (4, 8) ∷ (5, 8) ∷ (6, 8) ∷ []) ∷ ((3, 2) ∷ (4, 8) ∷ (5, 8) ∷ (6, 8) ∷ []) ∷ ((3, 2) ∷ (4, 8) ∷ (5, 8) ∷ (6, 8) ∷ []) ∷ ((3, 2) ∷ (4, 8) ∷ (5, 8) ∷ (6, 8) ∷ []) ∷ ((3, 2) ∷ (4, 8) ∷ (5, 8) ∷ (6, 8) ∷ []) ∷ ((2, 4) ∷ (3, 2) ∷ (4, 8) ∷ (5, 8) ∷ (6, 8) ∷ []) ∷ ((2, 4) ∷ (3, 2) ∷ (4, 8) ∷ (5, 8) ∷ (6, 8) ∷ []) ∷ ((2, 4) ∷ (3, 2) ∷ (4, 8) ∷ (5, 8) ∷ (6, 8) ∷ []) ∷ ((2, 4) ∷ (3, 2) ∷ (4, 8) ∷ (5, 8) ∷ (6, 8) ∷ []) ∷ ((2, 4) ∷ (3, 2) ∷ (4, 8) ∷ (5, 8) ∷ (6, 8) ∷ []) ∷ ((2, 4) ∷ (3, 2) ∷ (4, 8) ∷ (5, 8) ∷ (6, 8) ∷ []) ∷ ((2, 4) ∷ (3, 2) ∷ (4, 8) ∷ (5, 8) ∷ (6, 8) ∷ []) ∷ ((2, 4) ∷ (3, 2) ∷ (4, 8) ∷ (5, 8) ∷ (6, 8) ∷ []) ∷ ((2, 4) ∷ (3, 2) ∷ (4, 8) ∷ (5, 8) ∷ (6, 8) ∷ []) ∷ ((2, 4) ∷ (3, 2) ∷ (4, 8) ∷ (5, 8) ∷ (6, 8) ∷ []) ∷ ((2, 4) ∷ (3, 2) ∷ (4, 8) ∷ (5, 8) ∷ (6, 8) ∷ []) ∷ ((1, 8) ∷ (2, 4) ∷ (3, 2) ∷ (4, 8) ∷ (5, 8) ∷ (6, 8) ∷ []) ∷ ((1, 8) ∷ (2, 4) ∷ (3, 2) ∷ (4, 8) ∷ (5, 8) ∷ (6, 8) ∷ []) ∷ ((1, 8) ∷ (2, 4) ∷ (3, 2) ∷ (4, 8) ∷ (5, 8) ∷ (6, 8) ∷ []) ∷ ((1, 8) ∷ (2, 4) ∷ (3, 2) ∷ (4, 8) ∷ (5, 8) ∷ (6, 8) ∷ []) ∷ ((1, 8) ∷ (2, 4) ∷ (3, 2) ∷ (4, 8) ∷ (5, 8) ∷ (6, 8) ∷ []) ∷ ((1, 8) ∷ (2, 4) ∷ (3, 2) ∷ (4, 8) ∷ (5, 8) ∷ (6, 4) ∷ []) ∷ ((1, 8) ∷ (2, 4) ∷ (3, 2) ∷ (4, 8) ∷ (5, 8) ∷ (6, 4) ∷ []) ∷ ((1, 8) ∷ (2, 4) ∷ (3, 2) ∷ (4, 8) ∷ (5, 8) ∷ (6, 4) ∷ []) ∷ ((1, 8) ∷ (2, 4) ∷ (3, 2) ∷ (4, 8) ∷ (5, 8) ∷ (6, 4) ∷ []) ∷ ((1, 8) ∷ (2, 4) ∷ (3, 2) ∷ (4, 8) ∷ (5, 8) ∷ (6, 4) ∷ []) ∷ ((1, 8) ∷ (2, 4) ∷ (3, 2) ∷ (4, 8) ∷ (5, 8) ∷ (6, 4) ∷ []) ∷ ((1, 8) ∷ (2, 4) ∷ (3, 2) ∷ (4, 8) ∷ (5, 4) ∷ (6, 4) ∷ []) ∷ ((1, 8) ∷ (2, 4) ∷ (3, 2) ∷ (4, 8) ∷ (5, 4) ∷ (6, 4) ∷ []) ∷ ((1, 8) ∷ (2, 4) ∷ (3, 2) ∷ (4, 8) ∷ (5, 4) ∷ (6, 4) ∷ []) ∷ ((1, 8) ∷ (2, 4) ∷ (3, 2) ∷ (4, 8) ∷ (5, 4) ∷ (6, 4) ∷ []) ∷ ((1, 8) ∷ (2, 4) ∷ (3, 2) ∷ (4, 8) ∷ []) ∷ ((1, 4) ∷ (2, 4) ∷ (3, 2) ∷ (4, 8) ∷ []) ∷ ((1, 4) ∷ (2, 4) ∷ (3, 2) ∷ (4, 8) ∷ []) ∷ ((1, 4) ∷ (2, 4) ∷ (3, 2) ∷ (4, 8) ∷ []) ∷ ((1, 4) ∷ (2, 4) ∷ (3, 2) ∷ (4, 8) ∷ []) ∷ ((1, 4) ∷ (2, 4) ∷ (3, 2) ∷ (4, 8) ∷ []) ∷ ((1, 4) ∷ (2, 4) ∷ (3, 2) ∷ (4, 8) ∷ []) ∷ ((1, 4) ∷ (2, 4) ∷ (3, 2) ∷ (4, 4) ∷ []) ∷ ((1, 4) ∷ (2, 4) ∷ (3, 2) ∷ (4, 4) ∷ []) ∷ ((1, 4) ∷ (2, 4) ∷ (3, 2) ∷ (4, 4) ∷ []) ∷ ((1, 4) ∷ (2, 4) ∷ (3, 2) ∷ (4, 4) ∷ []) ∷ ((1, 4) ∷ (2, 4) ∷ (3, 2) ∷ (4, 4) ∷ []) ∷ ((1, 4) ∷ (2, 4) ∷ (3, 2) ∷ (4, 4) ∷ []) ∷ ((1, 4) ∷ (2, 4) ∷ (3, 2) ∷ (4, 4) ∷ []) ∷ ((1, 4) ∷ (2, 4) ∷ (3, 2) ∷ (4, 4) ∷ []) ∷ ((1, 2) ∷ (2, 4) ∷ []) ∷ ((1, 2) ∷ (2, 2) ∷ []) ∷ [] ∷ [] ∷ [] ∷ [] ∷ [])
unfolding world_after_entry world_of world_after_step stage_in stage_of stopped_in stopped_by shut_between has_room satisfied_in
which_states = refl

which_quiet : quiet_ones all ≡ (true ∷ true ∷ true ∷ false ∷ false ∷ false ∷ false ∷ false ∷ true ∷ true ∷ false ∷ false ∷ false ∷ false ∷ true ∷ false ∷ false ∷ false ∷ false ∷ false ∷ false ∷ false ∷ false ∷ false ∷ false ∷ false ∷ false ∷ false ∷ false ∷ false ∷ false ∷ false ∷ false ∷ false ∷ false ∷ false ∷ false ∷ false ∷ false ∷ false ∷ false ∷ false ∷ false ∷ true ∷ false ∷ false ∷ false ∷ false ∷ false ∷ false ∷ true ∷ false ∷ false ∷ false ∷ false ∷ true ∷ false ∷ false ∷ true ∷ false ∷ false ∷ false ∷ false ∷ false ∷ false ∷ false ∷ true ∷ true ∷ true ∷ true ∷ true ∷ false ∷ false ∷ false ∷ false ∷ false ∷ false ∷ false ∷ false ∷ false ∷ false ∷ true ∷ false ∷ false ∷ false ∷ false ∷ false ∷ false ∷ false ∷ false ∷ false ∷ false ∷ false ∷ false ∷ false ∷ false ∷ true ∷ true ∷ true ∷ true ∷ true ∷ true ∷ [])
unfolding world_after_entry world_of world_after_step stage_in stage_of stopped_in stopped_by shut_between has_room satisfied_in
which_quiet = refl

which_right : right_ones all ≡ (true ∷ true ∷ true ∷ false ∷ false ∷ false ∷ false ∷ false ∷ true ∷ true ∷ false ∷ false ∷ false ∷ false ∷ true ∷ false ∷ false ∷ false ∷ false ∷ false ∷ false ∷ false ∷ false ∷ false ∷ false ∷ false ∷ false ∷ false ∷ false ∷ false ∷ false ∷ false ∷ false ∷ false ∷ false ∷ false ∷ false ∷ false ∷ false ∷ false ∷ false ∷ false ∷ false ∷ true ∷ false ∷ false ∷ false ∷ false ∷ false ∷ false ∷ true ∷ false ∷ false ∷ false ∷ false ∷ true ∷ true ∷ true ∷ true ∷ false ∷ false ∷ false ∷ false ∷ false ∷ false ∷ false ∷ true ∷ true ∷ true ∷ true ∷ true ∷ false ∷ false ∷ false ∷ false ∷ false ∷ false ∷ false ∷ false ∷ false ∷ false ∷ true ∷ false ∷ false ∷ false ∷ false ∷ false ∷ false ∷ false ∷ false ∷ false ∷ false ∷ false ∷ false ∷ false ∷ false ∷ true ∷ true ∷ true ∷ true ∷ true ∷ true ∷ [])
unfolding world_after_entry world_of world_after_step stage_in stage_of stopped_in stopped_by shut_between has_room satisfied_in
which_right = refl

which_wanted : wanted_at all ≡ ([] ∷ [] ∷ [] ∷ [] ∷ [] ∷ [] ∷ [] ∷ [] ∷ (record { configuration = 9; consumer = 0 } ∷ []) ∷ (record { configuration = 9; consumer = 0 } ∷ []) ∷ (record { configuration = 9; consumer = 0 } ∷ []) ∷ (record { configuration = 9; consumer = 0 } ∷ []) ∷ (record { configuration = 9; consumer = 0 } ∷ []) ∷ (record { configuration = 9; consumer = 0 } ∷ []) ∷ [] ∷ [] ∷ [] ∷ [] ∷ [] ∷ [] ∷ [] ∷ [] ∷ [] ∷ [] ∷ [] ∷ [] ∷ [] ∷ [] ∷ [] ∷ [] ∷ [] ∷ [] ∷ [] ∷ [] ∷ [] ∷ [] ∷ [] ∷ [] ∷ [] ∷ [] ∷ [] ∷ [] ∷ [] ∷ (record { configuration = 4; consumer = 0 } ∷ record { configuration = 5; consumer = 0 } ∷ record { configuration = 6; consumer = 0 } ∷ record { configuration = 7; consumer = 0 } ∷ []) ∷ (record { configuration = 4; consumer = 0 } ∷ record { configuration = 5; consumer = 0 } ∷ record { configuration = 6; consumer = 0 } ∷ record { configuration = 7; consumer = 0 } ∷ []) ∷ (record { configuration = 4; consumer = 0 } ∷ record { configuration = 5; consumer = 0 } ∷ record { configuration = 6; consumer = 0 } ∷ record { configuration = 7; consumer = 0 } ∷ []) ∷ (record { configuration = 4; consumer = 0 } ∷ record { configuration = 5; consumer = 0 } ∷ record { configuration = 6; consumer = 0 } ∷ record { configuration = 7; consumer = 0 } ∷ []) ∷ (record { configuration = 4; consumer = 0 } ∷ record { configuration = 5; consumer = 0 } ∷ record { configuration = 6; consumer = 0 } ∷ record { configuration = 7; consumer = 0 } ∷ []) ∷ (record { configuration = 4; consumer = 0 } ∷ record { configuration = 5; consumer = 0 } ∷ record { configuration = 6; consumer = 0 } ∷ record { configuration = 7; consumer = 0 } ∷ []) ∷ (record { configuration = 4; consumer = 0 } ∷ record { configuration = 5; consumer = 0 } ∷ record { configuration = 6; consumer = 0 } ∷ record { configuration = 7; consumer = 0 } ∷ []) ∷ (record { configuration = 4; consumer = 0 } ∷ record { configuration = 5; consumer = 0 } ∷ record { configuration = 6; consumer = 0 } ∷ []) ∷ (record { configuration = 4; consumer = 0 } ∷ record { configuration = 5; consumer = 0 } ∷ record { configuration = 6; consumer = 0 } ∷ []) ∷ (record { configuration = 4; consumer = 0 } ∷ record { configuration = 5; consumer = 0 } ∷ record { configuration = 6; consumer = 0 } ∷ []) ∷ (record { configuration = 4; consumer = 0 } ∷ record { configuration = 5; consumer = 0 } ∷ record { configuration = 6; consumer = 0 } ∷ []) ∷ (record { configuration = 4; consumer = 0 } ∷ record { configuration = 5; consumer = 0 } ∷ record { configuration = 6; consumer = 0 } ∷ []) ∷ (record { configuration = 4; consumer = 0 } ∷ record { configuration = 5; consumer = 0 } ∷ record { configuration = 6; consumer = 0 } ∷ []) ∷ (record { configuration = 4; consumer = 0 } ∷ record { configuration = 5; consumer = 0 } ∷ record { configuration = 6; consumer = 0 } ∷ []) ∷ (record { configuration = 4; consumer = 0 } ∷ record { configuration = 5; consumer = 0 } ∷ record { configuration = 6; consumer = 0 } ∷ []) ∷ (record { configuration = 4; consumer = 0 } ∷ record { configuration = 5; consumer = 0 } ∷ record { configuration = 6; consumer = 0 } ∷ []) ∷ (record { configuration = 4; consumer = 0 } ∷ record { configuration = 5; consumer = 0 } ∷ record { configuration = 6; consumer = 0 } ∷ []) ∷ (record { configuration = 4; consumer = 0 } ∷ record { configuration = 5; consumer = 0 } ∷ record { configuration = 6; consumer = 0 } ∷ []) ∷ (record { configuration = 4; consumer = 0 } ∷ record { configuration = 5; consumer = 0 } ∷ record { configuration = 6; consumer = 0 } ∷ []) ∷ (record { configuration = 4; consumer = 0 } ∷ record { configuration = 5; consumer = 0 } ∷ record { configuration = 6; consumer = 0 } ∷ []) ∷ (record { configuration = 4; consumer = 0 } ∷ record { configuration = 5; consumer = 0 } ∷ record { configuration = 6; consumer = 0 } ∷ []) ∷ (record { configuration = 4; consumer = 0 } ∷ record { configuration = 5; consumer = 0 } ∷ record { configuration = 6; consumer = 0 } ∷ []) ∷ (record { configuration = 4; consumer = 0 } ∷ record { configuration = 5; consumer = 0 } ∷ record { configuration = 6; consumer = 0 } ∷ []) ∷ (record { configuration = 1; consumer = 0 } ∷ record { configuration = 4; consumer = 0 } ∷ record { configuration = 5; consumer = 0 } ∷ record { configuration = 6; consumer = 0 } ∷ []) ∷ (record { configuration = 1; consumer = 0 } ∷ record { configuration = 4; consumer = 0 } ∷ record { configuration = 5; consumer = 0 } ∷ record { configuration = 6; consumer = 0 } ∷ []) ∷ (record { configuration = 1; consumer = 0 } ∷ record { configuration = 4; consumer = 0 } ∷ record { configuration = 5; consumer = 0 } ∷ record { configuration = 6; consumer = 0 } ∷ []) ∷ (record { configuration = 1; consumer = 0 } ∷ record { configuration = 4; consumer = 0 } ∷ record { configuration = 5; consumer = 0 } ∷ record { configuration = 6; consumer = 0 } ∷ []) ∷ (record { configuration = 1; consumer = 0 } ∷ record { configuration = 4; consumer = 0 } ∷ record { configuration = 5; consumer = 0 } ∷ record { configuration = 6; consumer = 0 } ∷ []) ∷ (record { configuration = 1; consumer = 0 } ∷ record { configuration = 4; consumer = 0 } ∷ record { configuration = 5; consumer = 0 } ∷ record { configuration = 6; consumer = 0 } ∷ []) ∷ (record { configuration = 1; consumer = 0 } ∷ record { configuration = 4; consumer = 0 } ∷ record { configuration = 5; consumer = 0 } ∷ record { configuration = 6; consumer = 0 } ∷ []) ∷ (record { configuration = 1; consumer = 0 } ∷ record { configuration = 4; consumer = 0 } ∷ record { configuration = 5; consumer = 0 } ∷ record { configuration = 6; consumer = 0 } ∷ []) ∷ (record { configuration = 1; consumer = 0 } ∷ record { configuration = 4; consumer = 0 } ∷ record { configuration = 5; consumer = 0 } ∷ record { configuration = 6; consumer = 0 } ∷ []) ∷ (record { configuration = 1; consumer = 0 } ∷ record { configuration = 4; consumer = 0 } ∷ record { configuration = 5; consumer = 0 } ∷ record { configuration = 6; consumer = 0 } ∷ []) ∷ (record { configuration = 1; consumer = 0 } ∷ record { configuration = 4; consumer = 0 } ∷ record { configuration = 5; consumer = 0 } ∷ record { configuration = 6; consumer = 0 } ∷ []) ∷ (record { configuration = 1; consumer = 0 } ∷ record { configuration = 4; consumer = 0 } ∷ record { configuration = 5; consumer = 0 } ∷ record { configuration = 6; consumer = 0 } ∷ []) ∷ (record { configuration = 1; consumer = 0 } ∷ record { configuration = 4; consumer = 0 } ∷ record { configuration = 5; consumer = 0 } ∷ record { configuration = 6; consumer = 0 } ∷ []) ∷ (record { configuration = 1; consumer = 0 } ∷ record { configuration = 4; consumer = 0 } ∷ record { configuration = 5; consumer = 0 } ∷ record { configuration = 6; consumer = 0 } ∷ []) ∷ (record { configuration = 1; consumer = 0 } ∷ record { configuration = 4; consumer = 0 } ∷ record { configuration = 5; consumer = 0 } ∷ record { configuration = 6; consumer = 0 } ∷ []) ∷ (record { configuration = 1; consumer = 0 } ∷ record { configuration = 4; consumer = 0 } ∷ []) ∷ (record { configuration = 1; consumer = 0 } ∷ record { configuration = 4; consumer = 0 } ∷ []) ∷ (record { configuration = 1; consumer = 0 } ∷ record { configuration = 4; consumer = 0 } ∷ []) ∷ (record { configuration = 1; consumer = 0 } ∷ record { configuration = 4; consumer = 0 } ∷ []) ∷ (record { configuration = 1; consumer = 0 } ∷ record { configuration = 4; consumer = 0 } ∷ []) ∷ (record { configuration = 1; consumer = 0 } ∷ record { configuration = 4; consumer = 0 } ∷ []) ∷ (record { configuration = 1; consumer = 0 } ∷ record { configuration = 4; consumer = 0 } ∷ []) ∷ (record { configuration = 1; consumer = 0 } ∷ record { configuration = 4; consumer = 0 } ∷ []) ∷ (record { configuration = 1; consumer = 0 } ∷ record { configuration = 4; consumer = 0 } ∷ []) ∷ (record { configuration = 1; consumer = 0 } ∷ record { configuration = 4; consumer = 0 } ∷ []) ∷ (record { configuration = 1; consumer = 0 } ∷ record { configuration = 4; consumer = 0 } ∷ []) ∷ (record { configuration = 1; consumer = 0 } ∷ record { configuration = 4; consumer = 0 } ∷ []) ∷ (record { configuration = 1; consumer = 0 } ∷ record { configuration = 4; consumer = 0 } ∷ []) ∷ (record { configuration = 1; consumer = 0 } ∷ record { configuration = 4; consumer = 0 } ∷ []) ∷ (record { configuration = 1; consumer = 0 } ∷ record { configuration = 4; consumer = 0 } ∷ []) ∷ [] ∷ [] ∷ [] ∷ [] ∷ [] ∷ [] ∷ [])
unfolding world_after_entry world_of world_after_step stage_in stage_of stopped_in stopped_by shut_between has_room satisfied_in
which_wanted = refl

which_replies : replies 4194304 all (asked 0 (Install doc1) ∷ asked 1 (Install doc2) ∷ asked 2 (Install doc3) ∷ asked 3 (Start 1) ∷ asked 4 (Register 1 ((codes "Y") ∷ []) (record { key = (codes "v"); value = (Whole (pos 0)) } ∷ [])) ∷ asked 5 (Start 2) ∷ asked 20 (Start 3) ∷ asked 31 (Register 3 ((codes "Y") ∷ []) (record { key = (codes "v"); value = (Whole (pos 0)) } ∷ [])) ∷ asked 32 (Get 1 3) ∷ asked 35 (Disable 1 (codes "c3")) ∷ asked 43 (SetProperties 1 1 (record { key = (codes "v"); value = (Whole (pos 0)) } ∷ [])) ∷ asked 46 (Stop 1) ∷ asked 51 (Start 1) ∷ asked 58 (Unget 2 6) ∷ asked 58 (Stop 3) ∷ asked 87 (Start 3) ∷ asked 92 (Configure (codes "c4") (record { key = (codes "r1.target"); value = (Text (codes "(component.id=2)")) } ∷ [])) ∷ asked 93 (Stop 3) ∷ asked 99 (Disable 1 (codes "c3")) ∷ asked 100 (ConfigureFactory (codes "c4") (codes "a") (record { key = (codes "r0.target"); value = (Text (codes "(a")) } ∷ record { key = (codes "service.ranking"); value = (Whole (pos 3)) } ∷ record { key = (codes "v"); value = (Whole (pos 2)) } ∷ [])) ∷ asked 100 (Uninstall 3) ∷ []) ≡ ((Ok (InBundle 1)) ∷ (Ok (InBundle 2)) ∷ (Ok (InBundle 3)) ∷ (Ok IsDone) ∷ (Ok (AsService 1)) ∷ (Ok IsDone) ∷ (Ok IsDone) ∷ (Ok (AsService 6)) ∷ (Ok (WithUses 1)) ∷ (Ok IsDone) ∷ (Ok IsDone) ∷ (Ok IsDone) ∷ (Ok IsDone) ∷ (Err NotUsing) ∷ (Ok IsDone) ∷ (Ok IsDone) ∷ (Ok IsDone) ∷ (Ok IsDone) ∷ (Ok IsDone) ∷ (Err FactoryClash) ∷ (Ok IsDone) ∷ [])
unfolding world_after_entry world_of world_after_step stage_in stage_of stopped_in stopped_by shut_between has_room satisfied_in
which_replies = refl

bundle_events : bundle_events_at_end all ≡ (record { value = 1; bundle = 1 } ∷ record { value = 1; bundle = 2 } ∷ record { value = 1; bundle = 3 } ∷ record { value = 32; bundle = 1 } ∷ record { value = 128; bundle = 1 } ∷ record { value = 2; bundle = 1 } ∷ record { value = 32; bundle = 2 } ∷ record { value = 128; bundle = 2 } ∷ record { value = 2; bundle = 2 } ∷ record { value = 32; bundle = 3 } ∷ record { value = 128; bundle = 3 } ∷ record { value = 2; bundle = 3 } ∷ record { value = 256; bundle = 1 } ∷ record { value = 4; bundle = 1 } ∷ record { value = 128; bundle = 1 } ∷ record { value = 2; bundle = 1 } ∷ record { value = 256; bundle = 3 } ∷ record { value = 4; bundle = 3 } ∷ record { value = 128; bundle = 3 } ∷ record { value = 2; bundle = 3 } ∷ record { value = 256; bundle = 3 } ∷ record { value = 4; bundle = 3 } ∷ record { value = 64; bundle = 3 } ∷ record { value = 16; bundle = 3 } ∷ [])
unfolding world_after_entry world_of world_after_step stage_in stage_of stopped_in stopped_by shut_between has_room satisfied_in
bundle_events = refl

held_3 : held_at_end 3 all ≡ []
unfolding world_after_entry world_of world_after_step stage_in stage_of stopped_in stopped_by shut_between has_room satisfied_in
held_3 = refl

held_4 : held_at_end 4 all ≡ []
unfolding world_after_entry world_of world_after_step stage_in stage_of stopped_in stopped_by shut_between has_room satisfied_in
held_4 = refl

held_8 : held_at_end 8 all ≡ []
unfolding world_after_entry world_of world_after_step stage_in stage_of stopped_in stopped_by shut_between has_room satisfied_in
held_8 = refl

bound_is : bound_at_end all ≡ 150
unfolding world_after_entry world_of world_after_step stage_in stage_of stopped_in stopped_by shut_between has_room satisfied_in
bound_is = refl

calm_is : calm_at_end all ≡ false
unfolding world_after_entry world_of world_after_step stage_in stage_of stopped_in stopped_by shut_between has_room satisfied_in
calm_is = refl
