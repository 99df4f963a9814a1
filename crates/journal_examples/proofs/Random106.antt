-- A worked example, as an independent model of the platform has it.
use Rattle.std.specs.Prelude.{◌≡◌, refl, ℕ, List, [], ◌∷◌, codes, true, false, Some, None, Ok, Err, pos, negsuc}
use Rattle.prop_map.specs.declared.value.Value.TheVariants.{Text, Whole, Flag, Texts, Wholes, Flags}
use Rattle.prop_map.specs.declared.reference_words.Cardinality.TheVariants.{ZeroOrOne, One, ZeroOrMore, OneOrMore}
use Rattle.prop_map.specs.declared.reference_words.Policy.TheVariants.{Static, Dynamic}
use Rattle.prop_map.specs.declared.reference_words.PolicyOption.TheVariants.{Reluctant, Greedy}
use Rattle.component_dto.specs.declared.description.Scope.TheVariants.{Singleton, Bundle as InBundleScope, Prototype}
use Rattle.component_dto.specs.declared.description.ConfigurationPolicy.TheVariants.{Optional, Require, Ignore}
use Rattle.bundle_doc.specs.declared.document.BundleDoc.{BundleDoc}
use Rattle.bundle_life.specs.declared.bundle.BundleEvent.{BundleEvent}
use Rattle.journal_examples.proofs.Trees.{tree_or_none}
use Rattle.callback_orders.specs.declared.callback.Callback.TheVariants.{Create, Bind, Updated, Unbind, Activate, Modified, Deactivate, Destroy}
use Rattle.callback_orders.specs.declared.callback.Outcome.TheVariants.{Done, Refused, NoMemory}
use Rattle.service_listeners.specs.declared.listener.ServiceEvent.{ServiceEvent}
use Rattle.scr_world.specs.declared.step.Step.TheVariants.{Command as Commanded, Begin, End, Drained, Got, Released}
use Rattle.scr_world.specs.declared.command.Command.TheVariants.{Install, Update, Start, Stop, Uninstall, Enable, Disable, Register, Unregister, SetProperties, Get, Unget, Listen, Unlisten, Configure, ConfigureFactory, Unconfigure}
use Rattle.scr_world.specs.declared.reply.CoreFault.TheVariants.{NoBundle, NoComponent, WrongState, Stopping, SameName, Cycle, BundlesFull, ComponentsFull, ServicesFull, ConfigurationsFull, ListenersFull, NoService, NotOwner, NotUsing, NoListener, NoConfiguration, BadPid, FactoryClash, ActivationFailed, ActivationNoMemory, JournalFull}
use Rattle.scr_world.specs.declared.reply.Reply.TheVariants.{Done as IsDone, Bundle as InBundle, Service as AsService, Uses as WithUses, Listener as AsListener}
use Rattle.scr_world.specs.Steps.{History}
use Rattle.scr_world.specs.declared.world.World.{World}
use Rattle.journal_examples.proofs.Meanings.{legal_means}
use Rattle.scr_world.specs.Legal.{IsLegal}
use Rattle.journal_examples.proofs.Tests.{worlds, legal, begins, states, quiet_ones, right_ones, asked, replies, bundle_events_at_end, events_at_end, held_at_end, found_at_end, wanted_at, bound_at_end, calm_at_end}
use Rattle.scr_world.specs.Worlds.{satisfied_in}
use Rattle.scr_world.specs.Room.{has_room}
use Rattle.scr_world.specs.Consequences.{stage_in, stage_of, stopped_in, stopped_by, shut_between}
use Rattle.scr_world.specs.Stepping.{world_after_step}
use Rattle.scr_world.specs.Lists.{world_after_entry, world_of}

abbrev doc1 : BundleDoc
doc1 = record { location = (codes "b0"); name = (codes "b0"); version = record { major = 0; minor = 0; micro = 0; qualifier = [] }; manifest = None; activator = None; descriptions = (record { name = (codes "c6"); scope = Singleton; implementation_class = (codes "K"); default_enabled = false; immediate = true; service_interfaces = ((codes "I3") ∷ (codes "J3") ∷ []); properties = (record { key = (codes "osgi.ds.satisfying.condition.target"); value = (Text (codes "(osgi.condition.id=q)")) } ∷ record { key = (codes "refuse"); value = (Text (codes "bind")) } ∷ record { key = (codes "service.ranking"); value = (Whole (pos 0)) } ∷ record { key = (codes "text"); value = (Text (codes "Tc6")) } ∷ record { key = (codes "v"); value = (Whole (pos 1)) } ∷ []); references = (record { name = (codes "r0"); interface_name = (codes "Y"); cardinality = OneOrMore; policy = Dynamic; policy_option = Greedy; target = None; updated = (Some (codes "u")) } ∷ []); modified = None; configuration_policy = Optional; configuration_pids = ((codes "c6") ∷ []); implicit = true } ∷ record { name = (codes "c7"); scope = Singleton; implementation_class = (codes "K"); default_enabled = true; immediate = false; service_interfaces = ((codes "I3") ∷ []); properties = (record { key = (codes "service.ranking"); value = (Whole (pos 3)) } ∷ []); references = []; modified = None; configuration_policy = Optional; configuration_pids = ((codes "p") ∷ []); implicit = true } ∷ record { name = (codes "c2"); scope = Singleton; implementation_class = (codes "K"); default_enabled = true; immediate = false; service_interfaces = ((codes "I1") ∷ []); properties = (record { key = (codes "service.ranking"); value = (Whole (pos 0)) } ∷ record { key = (codes "text"); value = (Text (codes "Tc2")) } ∷ record { key = (codes "v"); value = (Whole (pos 1)) } ∷ []); references = []; modified = None; configuration_policy = Optional; configuration_pids = ((codes "c2") ∷ []); implicit = true } ∷ []) }

abbrev doc2 : BundleDoc
doc2 = record { location = (codes "b1"); name = (codes "b1"); version = record { major = 0; minor = 0; micro = 0; qualifier = [] }; manifest = None; activator = None; descriptions = (record { name = (codes "c1"); scope = Singleton; implementation_class = (codes "demo.Relay"); default_enabled = true; immediate = true; service_interfaces = ((codes "I1") ∷ []); properties = []; references = (record { name = (codes "next"); interface_name = (codes "Y"); cardinality = ZeroOrMore; policy = Static; policy_option = Greedy; target = None; updated = None } ∷ []); modified = (Some (codes "m")); configuration_policy = Optional; configuration_pids = ((codes "c1") ∷ []); implicit = true } ∷ record { name = (codes "c5"); scope = Singleton; implementation_class = (codes "K"); default_enabled = false; immediate = true; service_interfaces = ((codes "J2") ∷ []); properties = []; references = []; modified = None; configuration_policy = Optional; configuration_pids = ((codes "p") ∷ []); implicit = true } ∷ []) }

abbrev doc3 : BundleDoc
doc3 = record { location = (codes "b2"); name = (codes "b2"); version = record { major = 0; minor = 0; micro = 0; qualifier = [] }; manifest = None; activator = None; descriptions = (record { name = (codes "c0"); scope = Singleton; implementation_class = (codes "demo.Echo"); default_enabled = true; immediate = true; service_interfaces = ((codes "I1") ∷ (codes "J1") ∷ []); properties = (record { key = (codes "v"); value = (Whole (pos 2)) } ∷ []); references = (record { name = (codes "r0"); interface_name = (codes "X"); cardinality = ZeroOrOne; policy = Static; policy_option = Greedy; target = None; updated = None } ∷ []); modified = (Some (codes "m")); configuration_policy = Optional; configuration_pids = ((codes "c0") ∷ []); implicit = true } ∷ record { name = (codes "c4"); scope = Singleton; implementation_class = (codes "demo.Relay"); default_enabled = true; immediate = false; service_interfaces = ((codes "I2") ∷ []); properties = (record { key = (codes "v"); value = (Whole (pos 1)) } ∷ []); references = (record { name = (codes "next"); interface_name = (codes "I1"); cardinality = ZeroOrMore; policy = Dynamic; policy_option = Reluctant; target = None; updated = None } ∷ []); modified = None; configuration_policy = Ignore; configuration_pids = ((codes "q") ∷ []); implicit = true } ∷ []) }

abbrev doc4 : BundleDoc
doc4 = record { location = (codes "b3"); name = (codes "b3"); version = record { major = 0; minor = 0; micro = 0; qualifier = [] }; manifest = None; activator = None; descriptions = (record { name = (codes "c3"); scope = Singleton; implementation_class = (codes "demo.Echo"); default_enabled = true; immediate = true; service_interfaces = ((codes "I2") ∷ (codes "J2") ∷ []); properties = (record { key = (codes "refuse"); value = (Text (codes "activate")) } ∷ record { key = (codes "v"); value = (Whole (pos 0)) } ∷ []); references = []; modified = (Some (codes "m")); configuration_policy = Optional; configuration_pids = ((codes "c3") ∷ []); implicit = true } ∷ []) }

abbrev past0 : History
past0 = []

abbrev past1 : History
past1 = record { step = (Commanded (Install doc1)); closed = []; opened = []; stopped = [] } ∷ past0

abbrev past2 : History
past2 = record { step = (Commanded (Install doc2)); closed = []; opened = []; stopped = [] } ∷ past1

abbrev past3 : History
past3 = record { step = (Commanded (Install doc3)); closed = []; opened = []; stopped = [] } ∷ past2

abbrev past4 : History
past4 = record { step = (Commanded (Install doc4)); closed = []; opened = []; stopped = [] } ∷ past3

abbrev past5 : History
past5 = record { step = (Commanded (Start 1)); closed = []; opened = (record { configuration = 1; service = 1 } ∷ record { configuration = 2; service = 2 } ∷ []); stopped = [] } ∷ past4

abbrev past6 : History
past6 = record { step = (Commanded (Register 1 ((codes "Y") ∷ []) (record { key = (codes "service.ranking"); value = (Whole (pos 1)) } ∷ record { key = (codes "v"); value = (Whole (pos 1)) } ∷ []))); closed = []; opened = []; stopped = [] } ∷ past5

abbrev past7 : History
past7 = record { step = (Commanded (Start 2)); closed = []; opened = (record { configuration = 3; service = 4 } ∷ []); stopped = [] } ∷ past6

abbrev past8 : History
past8 = record { step = (Begin 1 1 3 0 Create (record { reference = 0; services = (3 ∷ []) } ∷ [])); closed = []; opened = []; stopped = [] } ∷ past7

abbrev past9 : History
past9 = record { step = (End 1 Done); closed = []; opened = []; stopped = [] } ∷ past8

abbrev past10 : History
past10 = record { step = (Begin 2 1 3 0 (Bind (codes "next") 3) []); closed = []; opened = []; stopped = [] } ∷ past9

abbrev past11 : History
past11 = record { step = (End 2 Done); closed = []; opened = []; stopped = [] } ∷ past10

abbrev past12 : History
past12 = record { step = (Begin 3 1 3 0 Activate []); closed = []; opened = []; stopped = [] } ∷ past11

abbrev past13 : History
past13 = record { step = (End 3 Done); closed = []; opened = []; stopped = [] } ∷ past12

abbrev past14 : History
past14 = record { step = (Commanded (Start 3)); closed = []; opened = (record { configuration = 4; service = 5 } ∷ record { configuration = 5; service = 6 } ∷ []); stopped = [] } ∷ past13

abbrev past15 : History
past15 = record { step = (Begin 4 2 4 0 Create (record { reference = 0; services = [] } ∷ [])); closed = []; opened = []; stopped = [] } ∷ past14

abbrev past16 : History
past16 = record { step = (End 4 Done); closed = []; opened = []; stopped = [] } ∷ past15

abbrev past17 : History
past17 = record { step = (Begin 5 2 4 0 Activate []); closed = []; opened = []; stopped = [] } ∷ past16

abbrev past18 : History
past18 = record { step = (End 5 Done); closed = []; opened = []; stopped = [] } ∷ past17

abbrev past19 : History
past19 = record { step = (Commanded (Register 3 ((codes "X") ∷ []) [])); closed = (4 ∷ []); opened = []; stopped = [] } ∷ past18

abbrev past20 : History
past20 = record { step = (Drained 2); closed = []; opened = []; stopped = [] } ∷ past19

abbrev past21 : History
past21 = record { step = (Begin 6 2 4 0 Deactivate []); closed = []; opened = []; stopped = [] } ∷ past20

abbrev past22 : History
past22 = record { step = (End 6 Done); closed = []; opened = []; stopped = [] } ∷ past21

abbrev past23 : History
past23 = record { step = (Begin 7 2 4 0 Destroy []); closed = []; opened = []; stopped = [] } ∷ past22

abbrev past24 : History
past24 = record { step = (End 7 Done); closed = []; opened = (record { configuration = 4; service = 8 } ∷ []); stopped = [] } ∷ past23

abbrev past25 : History
past25 = record { step = (Begin 8 3 4 0 Create (record { reference = 0; services = (7 ∷ []) } ∷ [])); closed = []; opened = []; stopped = [] } ∷ past24

abbrev past26 : History
past26 = record { step = (End 8 Done); closed = []; opened = []; stopped = [] } ∷ past25

abbrev past27 : History
past27 = record { step = (Begin 9 3 4 0 (Bind (codes "r0") 7) []); closed = []; opened = []; stopped = [] } ∷ past26

abbrev past28 : History
past28 = record { step = (End 9 Done); closed = []; opened = []; stopped = [] } ∷ past27

abbrev past29 : History
past29 = record { step = (Begin 10 3 4 0 Activate []); closed = []; opened = []; stopped = [] } ∷ past28

abbrev past30 : History
past30 = record { step = (End 10 Done); closed = []; opened = []; stopped = [] } ∷ past29

abbrev past31 : History
past31 = record { step = (Commanded (Start 4)); closed = []; opened = (record { configuration = 6; service = 9 } ∷ []); stopped = [] } ∷ past30

abbrev past32 : History
past32 = record { step = (Begin 11 4 6 0 Create []); closed = []; opened = []; stopped = [] } ∷ past31

abbrev past33 : History
past33 = record { step = (End 11 Done); closed = []; opened = []; stopped = [] } ∷ past32

abbrev past34 : History
past34 = record { step = (Begin 12 4 6 0 Activate []); closed = []; opened = []; stopped = [] } ∷ past33

abbrev past35 : History
past35 = record { step = (End 12 Refused); closed = (6 ∷ []); opened = []; stopped = [] } ∷ past34

abbrev past36 : History
past36 = record { step = (Begin 13 4 6 0 Destroy []); closed = []; opened = []; stopped = [] } ∷ past35

abbrev past37 : History
past37 = record { step = (End 13 Done); closed = []; opened = []; stopped = [] } ∷ past36

abbrev past38 : History
past38 = record { step = (Commanded (Register 4 ((codes "Y") ∷ []) (record { key = (codes "v"); value = (Whole (pos 0)) } ∷ []))); closed = (3 ∷ []); opened = []; stopped = [] } ∷ past37

abbrev past39 : History
past39 = record { step = (Drained 1); closed = []; opened = []; stopped = [] } ∷ past38

abbrev past40 : History
past40 = record { step = (Begin 14 1 3 0 Deactivate []); closed = []; opened = []; stopped = [] } ∷ past39

abbrev past41 : History
past41 = record { step = (End 14 Done); closed = []; opened = []; stopped = [] } ∷ past40

abbrev past42 : History
past42 = record { step = (Begin 15 1 3 0 (Unbind (codes "next") 3) []); closed = []; opened = []; stopped = [] } ∷ past41

abbrev past43 : History
past43 = record { step = (End 15 Done); closed = []; opened = []; stopped = [] } ∷ past42

abbrev past44 : History
past44 = record { step = (Begin 16 1 3 0 Destroy []); closed = []; opened = []; stopped = [] } ∷ past43

abbrev past45 : History
past45 = record { step = (End 16 Done); closed = []; opened = (record { configuration = 3; service = 11 } ∷ []); stopped = [] } ∷ past44

abbrev past46 : History
past46 = record { step = (Begin 17 5 3 0 Create (record { reference = 0; services = (3 ∷ 10 ∷ []) } ∷ [])); closed = []; opened = []; stopped = [] } ∷ past45

abbrev past47 : History
past47 = record { step = (End 17 Done); closed = []; opened = []; stopped = [] } ∷ past46

abbrev past48 : History
past48 = record { step = (Begin 18 5 3 0 (Bind (codes "next") 3) []); closed = []; opened = []; stopped = [] } ∷ past47

abbrev past49 : History
past49 = record { step = (End 18 Done); closed = []; opened = []; stopped = [] } ∷ past48

abbrev past50 : History
past50 = record { step = (Begin 19 5 3 0 (Bind (codes "next") 10) []); closed = []; opened = []; stopped = [] } ∷ past49

abbrev past51 : History
past51 = record { step = (End 19 Done); closed = []; opened = []; stopped = [] } ∷ past50

abbrev past52 : History
past52 = record { step = (Begin 20 5 3 0 Activate []); closed = []; opened = []; stopped = [] } ∷ past51

abbrev past53 : History
past53 = record { step = (End 20 Done); closed = []; opened = []; stopped = [] } ∷ past52

abbrev past54 : History
past54 = record { step = (Commanded (Register 4 ((codes "Y") ∷ []) (record { key = (codes "v"); value = (Whole (pos 1)) } ∷ []))); closed = (3 ∷ []); opened = []; stopped = [] } ∷ past53

abbrev past55 : History
past55 = record { step = (Drained 5); closed = []; opened = []; stopped = [] } ∷ past54

abbrev past56 : History
past56 = record { step = (Begin 21 5 3 0 Deactivate []); closed = []; opened = []; stopped = [] } ∷ past55

abbrev past57 : History
past57 = record { step = (End 21 Done); closed = []; opened = []; stopped = [] } ∷ past56

abbrev past58 : History
past58 = record { step = (Begin 22 5 3 0 (Unbind (codes "next") 10) []); closed = []; opened = []; stopped = [] } ∷ past57

abbrev past59 : History
past59 = record { step = (End 22 Done); closed = []; opened = []; stopped = [] } ∷ past58

abbrev past60 : History
past60 = record { step = (Begin 23 5 3 0 (Unbind (codes "next") 3) []); closed = []; opened = []; stopped = [] } ∷ past59

abbrev past61 : History
past61 = record { step = (End 23 Done); closed = []; opened = []; stopped = [] } ∷ past60

abbrev past62 : History
past62 = record { step = (Begin 24 5 3 0 Destroy []); closed = []; opened = []; stopped = [] } ∷ past61

abbrev past63 : History
past63 = record { step = (End 24 Done); closed = []; opened = (record { configuration = 3; service = 13 } ∷ []); stopped = [] } ∷ past62

abbrev past64 : History
past64 = record { step = (Begin 25 6 3 0 Create (record { reference = 0; services = (3 ∷ 10 ∷ 12 ∷ []) } ∷ [])); closed = []; opened = []; stopped = [] } ∷ past63

abbrev past65 : History
past65 = record { step = (End 25 Done); closed = []; opened = []; stopped = [] } ∷ past64

abbrev past66 : History
past66 = record { step = (Begin 26 6 3 0 (Bind (codes "next") 3) []); closed = []; opened = []; stopped = [] } ∷ past65

abbrev past67 : History
past67 = record { step = (End 26 Done); closed = []; opened = []; stopped = [] } ∷ past66

abbrev past68 : History
past68 = record { step = (Begin 27 6 3 0 (Bind (codes "next") 10) []); closed = []; opened = []; stopped = [] } ∷ past67

abbrev past69 : History
past69 = record { step = (End 27 Done); closed = []; opened = []; stopped = [] } ∷ past68

abbrev past70 : History
past70 = record { step = (Begin 28 6 3 0 (Bind (codes "next") 12) []); closed = []; opened = []; stopped = [] } ∷ past69

abbrev past71 : History
past71 = record { step = (End 28 Done); closed = []; opened = []; stopped = [] } ∷ past70

abbrev past72 : History
past72 = record { step = (Begin 29 6 3 0 Activate []); closed = []; opened = []; stopped = [] } ∷ past71

abbrev past73 : History
past73 = record { step = (End 29 Done); closed = []; opened = []; stopped = [] } ∷ past72

abbrev past74 : History
past74 = record { step = (Commanded (Get 4 12)); closed = []; opened = []; stopped = [] } ∷ past73

abbrev past75 : History
past75 = record { step = (Commanded (SetProperties 1 3 (record { key = (codes "service.ranking"); value = (Whole (negsuc 0)) } ∷ record { key = (codes "v"); value = (Whole (pos 1)) } ∷ []))); closed = []; opened = []; stopped = [] } ∷ past74

abbrev past76 : History
past76 = record { step = (Commanded (Listen 1 (tree_or_none (codes "(v=1)")))); closed = []; opened = []; stopped = [] } ∷ past75

abbrev past77 : History
past77 = record { step = (Commanded (Enable 2 (codes "c5"))); closed = []; opened = (record { configuration = 7; service = 14 } ∷ []); stopped = [] } ∷ past76

abbrev past78 : History
past78 = record { step = (Begin 30 7 7 0 Create []); closed = []; opened = []; stopped = [] } ∷ past77

abbrev past79 : History
past79 = record { step = (End 30 Done); closed = []; opened = []; stopped = [] } ∷ past78

abbrev past80 : History
past80 = record { step = (Begin 31 7 7 0 Activate []); closed = []; opened = []; stopped = [] } ∷ past79

abbrev past81 : History
past81 = record { step = (End 31 Done); closed = []; opened = []; stopped = [] } ∷ past80

abbrev past82 : History
past82 = record { step = (Commanded (Get 2 6)); closed = []; opened = []; stopped = [] } ∷ past81

abbrev past83 : History
past83 = record { step = (Begin 32 8 5 0 Create []); closed = []; opened = []; stopped = [] } ∷ past82

abbrev past84 : History
past84 = record { step = (End 32 Done); closed = []; opened = []; stopped = [] } ∷ past83

abbrev past85 : History
past85 = record { step = (Begin 33 8 5 0 (Bind (codes "next") 8) []); closed = []; opened = []; stopped = [] } ∷ past84

abbrev past86 : History
past86 = record { step = (End 33 Done); closed = []; opened = []; stopped = [] } ∷ past85

abbrev past87 : History
past87 = record { step = (Begin 34 8 5 0 (Bind (codes "next") 13) []); closed = []; opened = []; stopped = [] } ∷ past86

abbrev past88 : History
past88 = record { step = (End 34 Done); closed = []; opened = []; stopped = [] } ∷ past87

abbrev past89 : History
past89 = record { step = (Begin 35 9 2 0 Create []); closed = []; opened = []; stopped = [] } ∷ past88

abbrev past90 : History
past90 = record { step = (End 35 Done); closed = []; opened = []; stopped = [] } ∷ past89

abbrev past91 : History
past91 = record { step = (Begin 36 9 2 0 Activate []); closed = []; opened = []; stopped = [] } ∷ past90

abbrev past92 : History
past92 = record { step = (End 36 Done); closed = []; opened = []; stopped = [] } ∷ past91

abbrev past93 : History
past93 = record { step = (Begin 37 8 5 0 (Bind (codes "next") 2) []); closed = []; opened = []; stopped = [] } ∷ past92

abbrev past94 : History
past94 = record { step = (End 37 Done); closed = []; opened = []; stopped = [] } ∷ past93

abbrev past95 : History
past95 = record { step = (Begin 38 8 5 0 Activate []); closed = []; opened = []; stopped = [] } ∷ past94

abbrev past96 : History
past96 = record { step = (End 38 Done); closed = []; opened = []; stopped = [] } ∷ past95

abbrev past97 : History
past97 = record { step = (Commanded (Register 3 ((codes "Y") ∷ []) (record { key = (codes "v"); value = (Whole (pos 2)) } ∷ []))); closed = (3 ∷ []); opened = []; stopped = [] } ∷ past96

abbrev past98 : History
past98 = record { step = (Drained 6); closed = []; opened = []; stopped = [] } ∷ past97

abbrev past99 : History
past99 = record { step = (Begin 39 8 5 0 (Unbind (codes "next") 13) []); closed = []; opened = []; stopped = [] } ∷ past98

abbrev past100 : History
past100 = record { step = (End 39 Done); closed = []; opened = []; stopped = [] } ∷ past99

abbrev past101 : History
past101 = record { step = (Begin 40 6 3 0 Deactivate []); closed = []; opened = []; stopped = [] } ∷ past100

abbrev past102 : History
past102 = record { step = (End 40 Done); closed = []; opened = []; stopped = [] } ∷ past101

abbrev past103 : History
past103 = record { step = (Begin 41 6 3 0 (Unbind (codes "next") 3) []); closed = []; opened = []; stopped = [] } ∷ past102

abbrev past104 : History
past104 = record { step = (End 41 Done); closed = []; opened = []; stopped = [] } ∷ past103

abbrev past105 : History
past105 = record { step = (Begin 42 6 3 0 (Unbind (codes "next") 12) []); closed = []; opened = []; stopped = [] } ∷ past104

abbrev past106 : History
past106 = record { step = (End 42 Done); closed = []; opened = []; stopped = [] } ∷ past105

abbrev past107 : History
past107 = record { step = (Begin 43 6 3 0 (Unbind (codes "next") 10) []); closed = []; opened = []; stopped = [] } ∷ past106

abbrev past108 : History
past108 = record { step = (End 43 Done); closed = []; opened = []; stopped = [] } ∷ past107

abbrev past109 : History
past109 = record { step = (Begin 44 6 3 0 Destroy []); closed = []; opened = []; stopped = [] } ∷ past108

abbrev past110 : History
past110 = record { step = (End 44 Done); closed = []; opened = (record { configuration = 3; service = 16 } ∷ []); stopped = [] } ∷ past109

abbrev past111 : History
past111 = record { step = (Begin 45 10 3 0 Create (record { reference = 0; services = (10 ∷ 12 ∷ 15 ∷ 3 ∷ []) } ∷ [])); closed = []; opened = []; stopped = [] } ∷ past110

abbrev past112 : History
past112 = record { step = (End 45 Done); closed = []; opened = []; stopped = [] } ∷ past111

abbrev past113 : History
past113 = record { step = (Begin 46 10 3 0 (Bind (codes "next") 10) []); closed = []; opened = []; stopped = [] } ∷ past112

abbrev past114 : History
past114 = record { step = (End 46 Done); closed = []; opened = []; stopped = [] } ∷ past113

abbrev past115 : History
past115 = record { step = (Begin 47 10 3 0 (Bind (codes "next") 12) []); closed = []; opened = []; stopped = [] } ∷ past114

abbrev past116 : History
past116 = record { step = (End 47 Done); closed = []; opened = []; stopped = [] } ∷ past115

abbrev past117 : History
past117 = record { step = (Begin 48 10 3 0 (Bind (codes "next") 15) []); closed = []; opened = []; stopped = [] } ∷ past116

abbrev past118 : History
past118 = record { step = (End 48 Done); closed = []; opened = []; stopped = [] } ∷ past117

abbrev past119 : History
past119 = record { step = (Begin 49 10 3 0 (Bind (codes "next") 3) []); closed = []; opened = []; stopped = [] } ∷ past118

abbrev past120 : History
past120 = record { step = (End 49 Done); closed = []; opened = []; stopped = [] } ∷ past119

abbrev past121 : History
past121 = record { step = (Begin 50 10 3 0 Activate []); closed = []; opened = []; stopped = [] } ∷ past120

abbrev past122 : History
past122 = record { step = (End 50 Done); closed = []; opened = []; stopped = [] } ∷ past121

abbrev past123 : History
past123 = record { step = (Begin 51 8 5 0 (Bind (codes "next") 16) []); closed = []; opened = []; stopped = [] } ∷ past122

abbrev past124 : History
past124 = record { step = (End 51 Done); closed = []; opened = []; stopped = [] } ∷ past123

abbrev past125 : History
past125 = record { step = (Commanded (Register 3 ((codes "I2") ∷ []) (record { key = (codes "service.ranking"); value = (Whole (pos 2)) } ∷ []))); closed = []; opened = []; stopped = [] } ∷ past124

abbrev past126 : History
past126 = record { step = (Commanded (Get 4 6)); closed = []; opened = []; stopped = [] } ∷ past125

abbrev all : List World
all = worlds past126

is_legal : legal 4194304 past126 all ≡ true
unfolding world_after_entry world_of world_after_step stage_in stage_of stopped_in stopped_by shut_between has_room satisfied_in
is_legal = refl

stands_legal : IsLegal 4194304 past126
stands_legal = legal_means 4194304 past126 is_legal

which_begin : begins all ≡ (None ∷ None ∷ None ∷ None ∷ (Some (Begin 51 8 5 0 (Bind (codes "next") 16) [])) ∷ None ∷ (Some (Begin 50 10 3 0 Activate [])) ∷ None ∷ (Some (Begin 49 10 3 0 (Bind (codes "next") 3) [])) ∷ None ∷ (Some (Begin 48 10 3 0 (Bind (codes "next") 15) [])) ∷ None ∷ (Some (Begin 47 10 3 0 (Bind (codes "next") 12) [])) ∷ None ∷ (Some (Begin 46 10 3 0 (Bind (codes "next") 10) [])) ∷ None ∷ (Some (Begin 45 10 3 0 Create (record { reference = 0; services = (10 ∷ 12 ∷ 15 ∷ 3 ∷ []) } ∷ []))) ∷ None ∷ (Some (Begin 44 6 3 0 Destroy [])) ∷ None ∷ (Some (Begin 43 6 3 0 (Unbind (codes "next") 10) [])) ∷ None ∷ (Some (Begin 42 6 3 0 (Unbind (codes "next") 12) [])) ∷ None ∷ (Some (Begin 41 6 3 0 (Unbind (codes "next") 3) [])) ∷ None ∷ (Some (Begin 40 6 3 0 Deactivate [])) ∷ None ∷ (Some (Begin 39 8 5 0 (Unbind (codes "next") 13) [])) ∷ (Some (Begin 39 8 5 0 (Unbind (codes "next") 13) [])) ∷ None ∷ None ∷ (Some (Begin 38 8 5 0 Activate [])) ∷ None ∷ (Some (Begin 37 8 5 0 (Bind (codes "next") 2) [])) ∷ None ∷ (Some (Begin 36 9 2 0 Activate [])) ∷ None ∷ (Some (Begin 35 9 2 0 Create [])) ∷ (Some (Begin 35 9 2 0 Create [])) ∷ (Some (Begin 34 8 5 0 (Bind (codes "next") 13) [])) ∷ (Some (Begin 34 9 2 0 Create [])) ∷ (Some (Begin 33 8 5 0 (Bind (codes "next") 8) [])) ∷ (Some (Begin 33 9 2 0 Create [])) ∷ (Some (Begin 32 8 5 0 Create [])) ∷ None ∷ None ∷ (Some (Begin 31 7 7 0 Activate [])) ∷ None ∷ (Some (Begin 30 7 7 0 Create [])) ∷ None ∷ None ∷ None ∷ None ∷ None ∷ (Some (Begin 29 6 3 0 Activate [])) ∷ None ∷ (Some (Begin 28 6 3 0 (Bind (codes "next") 12) [])) ∷ None ∷ (Some (Begin 27 6 3 0 (Bind (codes "next") 10) [])) ∷ None ∷ (Some (Begin 26 6 3 0 (Bind (codes "next") 3) [])) ∷ None ∷ (Some (Begin 25 6 3 0 Create (record { reference = 0; services = (3 ∷ 10 ∷ 12 ∷ []) } ∷ []))) ∷ None ∷ (Some (Begin 24 5 3 0 Destroy [])) ∷ None ∷ (Some (Begin 23 5 3 0 (Unbind (codes "next") 3) [])) ∷ None ∷ (Some (Begin 22 5 3 0 (Unbind (codes "next") 10) [])) ∷ None ∷ (Some (Begin 21 5 3 0 Deactivate [])) ∷ None ∷ None ∷ None ∷ (Some (Begin 20 5 3 0 Activate [])) ∷ None ∷ (Some (Begin 19 5 3 0 (Bind (codes "next") 10) [])) ∷ None ∷ (Some (Begin 18 5 3 0 (Bind (codes "next") 3) [])) ∷ None ∷ (Some (Begin 17 5 3 0 Create (record { reference = 0; services = (3 ∷ 10 ∷ []) } ∷ []))) ∷ None ∷ (Some (Begin 16 1 3 0 Destroy [])) ∷ None ∷ (Some (Begin 15 1 3 0 (Unbind (codes "next") 3) [])) ∷ None ∷ (Some (Begin 14 1 3 0 Deactivate [])) ∷ None ∷ None ∷ None ∷ (Some (Begin 13 4 6 0 Destroy [])) ∷ None ∷ (Some (Begin 12 4 6 0 Activate [])) ∷ None ∷ (Some (Begin 11 4 6 0 Create [])) ∷ None ∷ None ∷ (Some (Begin 10 3 4 0 Activate [])) ∷ None ∷ (Some (Begin 9 3 4 0 (Bind (codes "r0") 7) [])) ∷ None ∷ (Some (Begin 8 3 4 0 Create (record { reference = 0; services = (7 ∷ []) } ∷ []))) ∷ None ∷ (Some (Begin 7 2 4 0 Destroy [])) ∷ None ∷ (Some (Begin 6 2 4 0 Deactivate [])) ∷ None ∷ None ∷ None ∷ (Some (Begin 5 2 4 0 Activate [])) ∷ None ∷ (Some (Begin 4 2 4 0 Create (record { reference = 0; services = [] } ∷ []))) ∷ None ∷ None ∷ (Some (Begin 3 1 3 0 Activate [])) ∷ None ∷ (Some (Begin 2 1 3 0 (Bind (codes "next") 3) [])) ∷ None ∷ (Some (Begin 1 1 3 0 Create (record { reference = 0; services = (3 ∷ []) } ∷ []))) ∷ None ∷ None ∷ None ∷ None ∷ None ∷ None ∷ None ∷ [])
unfolding world_after_entry world_of world_after_step stage_in stage_of stopped_in stopped_by shut_between has_room satisfied_in
which_begin = refl

which_states : states all ≡ (((1, 4) ∷ (2, 8) ∷ (3, 8) ∷ (4, 8) ∷ (5, 8) ∷ (6, 16) ∷ (7, 8) ∷ []) ∷ ((1, 4) ∷ (2, 8) ∷ (3, 8) ∷ (4, 8) ∷ (5, 8) ∷ (6, 16) ∷ (7, 8) ∷ []) ∷ ((1, 4) ∷ (2, 8) ∷ (3, 8) ∷ (4, 8) ∷ (5, 8) ∷ (6, 16) ∷ (7, 8) ∷ []) ∷ ((1, 4) ∷ (2, 8) ∷ (3, 8) ∷ (4, 8) ∷ (5, 8) ∷ (6, 16) ∷ (7, 8) ∷ []) ∷ ((1, 4) ∷ (2, 8) ∷ (3, 8) ∷ (4, 8) ∷ (5, 8) ∷ (6, 16) ∷ (7, 8) ∷ []) ∷ ((1, 4) ∷ (2, 8) ∷ (3, 4) ∷ (4, 8) ∷ (5, 8) ∷ (6, 16) ∷ (7, 8) ∷ []) ∷ ((1, 4) ∷ (2, 8) ∷ (3, 4) ∷ (4, 8) ∷ (5, 8) ∷ (6, 16) ∷ (7, 8) ∷ []) ∷ ((1, 4) ∷ (2, 8) ∷ (3, 4) ∷ (4, 8) ∷ (5, 8) ∷ (6, 16) ∷ (7, 8) ∷ []) ∷ ((1, 4) ∷ (2, 8) ∷ (3, 4) ∷ (4, 8) ∷ (5, 8) ∷ (6, 16) ∷ (7, 8) ∷ []) ∷ ((1, 4) ∷ (2, 8) ∷ (3, 4) ∷ (4, 8) ∷ (5, 8) ∷ (6, 16) ∷ (7, 8) ∷ []) ∷ ((1, 4) ∷ (2, 8) ∷ (3, 4) ∷ (4, 8) ∷ (5, 8) ∷ (6, 16) ∷ (7, 8) ∷ []) ∷ ((1, 4) ∷ (2, 8) ∷ (3, 4) ∷ (4, 8) ∷ (5, 8) ∷ (6, 16) ∷ (7, 8) ∷ []) ∷ ((1, 4) ∷ (2, 8) ∷ (3, 4) ∷ (4, 8) ∷ (5, 8) ∷ (6, 16) ∷ (7, 8) ∷ []) ∷ ((1, 4) ∷ (2, 8) ∷ (3, 4) ∷ (4, 8) ∷ (5, 8) ∷ (6, 16) ∷ (7, 8) ∷ []) ∷ ((1, 4) ∷ (2, 8) ∷ (3, 4) ∷ (4, 8) ∷ (5, 8) ∷ (6, 16) ∷ (7, 8) ∷ []) ∷ ((1, 4) ∷ (2, 8) ∷ (3, 4) ∷ (4, 8) ∷ (5, 8) ∷ (6, 16) ∷ (7, 8) ∷ []) ∷ ((1, 4) ∷ (2, 8) ∷ (3, 4) ∷ (4, 8) ∷ (5, 8) ∷ (6, 16) ∷ (7, 8) ∷ []) ∷ ((1, 4) ∷ (2, 8) ∷ (3, 4) ∷ (4, 8) ∷ (5, 8) ∷ (6, 16) ∷ (7, 8) ∷ []) ∷ ((1, 4) ∷ (2, 8) ∷ (3, 4) ∷ (4, 8) ∷ (5, 8) ∷ (6, 16) ∷ (7, 8) ∷ []) ∷ ((1, 4) ∷ (2, 8) ∷ (3, 4) ∷ (4, 8) ∷ (5, 8) ∷ (6, 16) ∷ (7, 8) ∷ []) ∷ ((1, 4) ∷ (2, 8) ∷ (3, 4) ∷ (4, 8) ∷ (5, 8) ∷ (6, 16) ∷ (7, 8) ∷ []) ∷ ((1, 4) ∷ (2, 8) ∷ (3, 4) ∷ (4, 8) ∷ (5, 8) ∷ (6, 16) ∷ (7, 8) ∷ []) ∷ ((1, 4) ∷ (2, 8) ∷ (3, 4) ∷ (4, 8) ∷ (5, 8) ∷ (6, 16) ∷ (7, 8) ∷ []) ∷ ((1, 4) ∷ (2, 8) ∷ (3, 4) ∷ (4, 8) ∷ (5, 8) ∷ (6, 16) ∷ (7, 8) ∷ []) ∷ ((1, 4) ∷ (2, 8) ∷ (3, 4) ∷ (4, 8) ∷ (5, 8) ∷ (6, 16) ∷ (7, 8) ∷ []) ∷ ((1, 4) ∷ (2, 8) ∷ (3, 4) ∷ (4, 8) ∷ (5, 8) ∷ (6, 16) ∷ (7, 8) ∷ []) ∷ ((1, 4) ∷ (2, 8) ∷ (3, 4) ∷ (4, 8) ∷ (5, 8) ∷ (6, 16) ∷ (7, 8) ∷ []) ∷ ((1, 4) ∷ (2, 8) ∷ (3, 4) ∷ (4, 8) ∷ (5, 8) ∷ (6, 16) ∷ (7, 8) ∷ []) ∷ ((1, 4) ∷ (2, 8) ∷ (3, 4) ∷ (4, 8) ∷ (5, 8) ∷ (6, 16) ∷ (7, 8) ∷ []) ∷ ((1, 4) ∷ (2, 8) ∷ (3, 4) ∷ (4, 8) ∷ (5, 8) ∷ (6, 16) ∷ (7, 8) ∷ []) ∷ ((1, 4) ∷ (2, 8) ∷ (3, 8) ∷ (4, 8) ∷ (5, 8) ∷ (6, 16) ∷ (7, 8) ∷ []) ∷ ((1, 4) ∷ (2, 8) ∷ (3, 8) ∷ (4, 8) ∷ (5, 4) ∷ (6, 16) ∷ (7, 8) ∷ []) ∷ ((1, 4) ∷ (2, 8) ∷ (3, 8) ∷ (4, 8) ∷ (5, 4) ∷ (6, 16) ∷ (7, 8) ∷ []) ∷ ((1, 4) ∷ (2, 8) ∷ (3, 8) ∷ (4, 8) ∷ (5, 4) ∷ (6, 16) ∷ (7, 8) ∷ []) ∷ ((1, 4) ∷ (2, 8) ∷ (3, 8) ∷ (4, 8) ∷ (5, 4) ∷ (6, 16) ∷ (7, 8) ∷ []) ∷ ((1, 4) ∷ (2, 4) ∷ (3, 8) ∷ (4, 8) ∷ (5, 4) ∷ (6, 16) ∷ (7, 8) ∷ []) ∷ ((1, 4) ∷ (2, 4) ∷ (3, 8) ∷ (4, 8) ∷ (5, 4) ∷ (6, 16) ∷ (7, 8) ∷ []) ∷ ((1, 4) ∷ (2, 4) ∷ (3, 8) ∷ (4, 8) ∷ (5, 4) ∷ (6, 16) ∷ (7, 8) ∷ []) ∷ ((1, 4) ∷ (2, 4) ∷ (3, 8) ∷ (4, 8) ∷ (5, 4) ∷ (6, 16) ∷ (7, 8) ∷ []) ∷ ((1, 4) ∷ (2, 4) ∷ (3, 8) ∷ (4, 8) ∷ (5, 4) ∷ (6, 16) ∷ (7, 8) ∷ []) ∷ ((1, 4) ∷ (2, 4) ∷ (3, 8) ∷ (4, 8) ∷ (5, 4) ∷ (6, 16) ∷ (7, 8) ∷ []) ∷ ((1, 4) ∷ (2, 4) ∷ (3, 8) ∷ (4, 8) ∷ (5, 4) ∷ (6, 16) ∷ (7, 8) ∷ []) ∷ ((1, 4) ∷ (2, 4) ∷ (3, 8) ∷ (4, 8) ∷ (5, 4) ∷ (6, 16) ∷ (7, 8) ∷ []) ∷ ((1, 4) ∷ (2, 4) ∷ (3, 8) ∷ (4, 8) ∷ (5, 4) ∷ (6, 16) ∷ (7, 8) ∷ []) ∷ ((1, 4) ∷ (2, 4) ∷ (3, 8) ∷ (4, 8) ∷ (5, 4) ∷ (6, 16) ∷ (7, 8) ∷ []) ∷ ((1, 4) ∷ (2, 4) ∷ (3, 8) ∷ (4, 8) ∷ (5, 4) ∷ (6, 16) ∷ (7, 8) ∷ []) ∷ ((1, 4) ∷ (2, 4) ∷ (3, 8) ∷ (4, 8) ∷ (5, 4) ∷ (6, 16) ∷ (7, 4) ∷ []) ∷ ((1, 4) ∷ (2, 4) ∷ (3, 8) ∷ (4, 8) ∷ (5, 4) ∷ (6, 16) ∷ (7, 4) ∷ []) ∷ ((1, 4) ∷ (2, 4) ∷ (3, 8) ∷ (4, 8) ∷ (5, 4) ∷ (6, 16) ∷ (7, 4) ∷ []) ∷ ((1, 4) ∷ (2, 4) ∷ (3, 8) ∷ (4, 8) ∷ (5, 4) ∷ (6, 16) ∷ (7, 4) ∷ []) ∷ ((1, 4) ∷ (2, 4) ∷ (3, 8) ∷ (4, 8) ∷ (5, 4) ∷ (6, 16) ∷ []) ∷ ((1, 4) ∷ (2, 4) ∷ (3, 8) ∷ (4, 8) ∷ (5, 4) ∷ (6, 16) ∷ []) ∷ ((1, 4) ∷ (2, 4) ∷ (3, 8) ∷ (4, 8) ∷ (5, 4) ∷ (6, 16) ∷ []) ∷ ((1, 4) ∷ (2, 4) ∷ (3, 8) ∷ (4, 8) ∷ (5, 4) ∷ (6, 16) ∷ []) ∷ ((1, 4) ∷ (2, 4) ∷ (3, 4) ∷ (4, 8) ∷ (5, 4) ∷ (6, 16) ∷ []) ∷ ((1, 4) ∷ (2, 4) ∷ (3, 4) ∷ (4, 8) ∷ (5, 4) ∷ (6, 16) ∷ []) ∷ ((1, 4) ∷ (2, 4) ∷ (3, 4) ∷ (4, 8) ∷ (5, 4) ∷ (6, 16) ∷ []) ∷ ((1, 4) ∷ (2, 4) ∷ (3, 4) ∷ (4, 8) ∷ (5, 4) ∷ (6, 16) ∷ []) ∷ ((1, 4) ∷ (2, 4) ∷ (3, 4) ∷ (4, 8) ∷ (5, 4) ∷ (6, 16) ∷ []) ∷ ((1, 4) ∷ (2, 4) ∷ (3, 4) ∷ (4, 8) ∷ (5, 4) ∷ (6, 16) ∷ []) ∷ ((1, 4) ∷ (2, 4) ∷ (3, 4) ∷ (4, 8) ∷ (5, 4) ∷ (6, 16) ∷ []) ∷ ((1, 4) ∷ (2, 4) ∷ (3, 4) ∷ (4, 8) ∷ (5, 4) ∷ (6, 16) ∷ []) ∷ ((1, 4) ∷ (2, 4) ∷ (3, 4) ∷ (4, 8) ∷ (5, 4) ∷ (6, 16) ∷ []) ∷ ((1, 4) ∷ (2, 4) ∷ (3, 4) ∷ (4, 8) ∷ (5, 4) ∷ (6, 16) ∷ []) ∷ ((1, 4) ∷ (2, 4) ∷ (3, 4) ∷ (4, 8) ∷ (5, 4) ∷ (6, 16) ∷ []) ∷ ((1, 4) ∷ (2, 4) ∷ (3, 4) ∷ (4, 8) ∷ (5, 4) ∷ (6, 16) ∷ []) ∷ ((1, 4) ∷ (2, 4) ∷ (3, 4) ∷ (4, 8) ∷ (5, 4) ∷ (6, 16) ∷ []) ∷ ((1, 4) ∷ (2, 4) ∷ (3, 4) ∷ (4, 8) ∷ (5, 4) ∷ (6, 16) ∷ []) ∷ ((1, 4) ∷ (2, 4) ∷ (3, 4) ∷ (4, 8) ∷ (5, 4) ∷ (6, 16) ∷ []) ∷ ((1, 4) ∷ (2, 4) ∷ (3, 4) ∷ (4, 8) ∷ (5, 4) ∷ (6, 16) ∷ []) ∷ ((1, 4) ∷ (2, 4) ∷ (3, 4) ∷ (4, 8) ∷ (5, 4) ∷ (6, 16) ∷ []) ∷ ((1, 4) ∷ (2, 4) ∷ (3, 4) ∷ (4, 8) ∷ (5, 4) ∷ (6, 16) ∷ []) ∷ ((1, 4) ∷ (2, 4) ∷ (3, 4) ∷ (4, 8) ∷ (5, 4) ∷ (6, 16) ∷ []) ∷ ((1, 4) ∷ (2, 4) ∷ (3, 8) ∷ (4, 8) ∷ (5, 4) ∷ (6, 16) ∷ []) ∷ ((1, 4) ∷ (2, 4) ∷ (3, 4) ∷ (4, 8) ∷ (5, 4) ∷ (6, 16) ∷ []) ∷ ((1, 4) ∷ (2, 4) ∷ (3, 4) ∷ (4, 8) ∷ (5, 4) ∷ (6, 16) ∷ []) ∷ ((1, 4) ∷ (2, 4) ∷ (3, 4) ∷ (4, 8) ∷ (5, 4) ∷ (6, 16) ∷ []) ∷ ((1, 4) ∷ (2, 4) ∷ (3, 4) ∷ (4, 8) ∷ (5, 4) ∷ (6, 16) ∷ []) ∷ ((1, 4) ∷ (2, 4) ∷ (3, 4) ∷ (4, 8) ∷ (5, 4) ∷ (6, 16) ∷ []) ∷ ((1, 4) ∷ (2, 4) ∷ (3, 4) ∷ (4, 8) ∷ (5, 4) ∷ (6, 16) ∷ []) ∷ ((1, 4) ∷ (2, 4) ∷ (3, 4) ∷ (4, 8) ∷ (5, 4) ∷ (6, 16) ∷ []) ∷ ((1, 4) ∷ (2, 4) ∷ (3, 4) ∷ (4, 8) ∷ (5, 4) ∷ (6, 16) ∷ []) ∷ ((1, 4) ∷ (2, 4) ∷ (3, 4) ∷ (4, 8) ∷ (5, 4) ∷ (6, 16) ∷ []) ∷ ((1, 4) ∷ (2, 4) ∷ (3, 4) ∷ (4, 8) ∷ (5, 4) ∷ (6, 16) ∷ []) ∷ ((1, 4) ∷ (2, 4) ∷ (3, 4) ∷ (4, 8) ∷ (5, 4) ∷ (6, 16) ∷ []) ∷ ((1, 4) ∷ (2, 4) ∷ (3, 4) ∷ (4, 8) ∷ (5, 4) ∷ (6, 16) ∷ []) ∷ ((1, 4) ∷ (2, 4) ∷ (3, 4) ∷ (4, 8) ∷ (5, 4) ∷ (6, 16) ∷ []) ∷ ((1, 4) ∷ (2, 4) ∷ (3, 4) ∷ (4, 8) ∷ (5, 4) ∷ (6, 16) ∷ []) ∷ ((1, 4) ∷ (2, 4) ∷ (3, 4) ∷ (4, 8) ∷ (5, 4) ∷ (6, 16) ∷ []) ∷ ((1, 4) ∷ (2, 4) ∷ (3, 8) ∷ (4, 8) ∷ (5, 4) ∷ (6, 16) ∷ []) ∷ ((1, 4) ∷ (2, 4) ∷ (3, 8) ∷ (4, 8) ∷ (5, 4) ∷ (6, 16) ∷ []) ∷ ((1, 4) ∷ (2, 4) ∷ (3, 8) ∷ (4, 8) ∷ (5, 4) ∷ (6, 16) ∷ []) ∷ ((1, 4) ∷ (2, 4) ∷ (3, 8) ∷ (4, 8) ∷ (5, 4) ∷ (6, 4) ∷ []) ∷ ((1, 4) ∷ (2, 4) ∷ (3, 8) ∷ (4, 8) ∷ (5, 4) ∷ (6, 4) ∷ []) ∷ ((1, 4) ∷ (2, 4) ∷ (3, 8) ∷ (4, 8) ∷ (5, 4) ∷ (6, 4) ∷ []) ∷ ((1, 4) ∷ (2, 4) ∷ (3, 8) ∷ (4, 8) ∷ (5, 4) ∷ (6, 4) ∷ []) ∷ ((1, 4) ∷ (2, 4) ∷ (3, 8) ∷ (4, 8) ∷ (5, 4) ∷ []) ∷ ((1, 4) ∷ (2, 4) ∷ (3, 8) ∷ (4, 4) ∷ (5, 4) ∷ []) ∷ ((1, 4) ∷ (2, 4) ∷ (3, 8) ∷ (4, 4) ∷ (5, 4) ∷ []) ∷ ((1, 4) ∷ (2, 4) ∷ (3, 8) ∷ (4, 4) ∷ (5, 4) ∷ []) ∷ ((1, 4) ∷ (2, 4) ∷ (3, 8) ∷ (4, 4) ∷ (5, 4) ∷ []) ∷ ((1, 4) ∷ (2, 4) ∷ (3, 8) ∷ (4, 4) ∷ (5, 4) ∷ []) ∷ ((1, 4) ∷ (2, 4) ∷ (3, 8) ∷ (4, 4) ∷ (5, 4) ∷ []) ∷ ((1, 4) ∷ (2, 4) ∷ (3, 8) ∷ (4, 4) ∷ (5, 4) ∷ []) ∷ ((1, 4) ∷ (2, 4) ∷ (3, 8) ∷ (4, 4) ∷ (5, 4) ∷ []) ∷ ((1, 4) ∷ (2, 4) ∷ (3, 8) ∷ (4, 4) ∷ (5, 4) ∷ []) ∷ ((1, 4) ∷ (2, 4) ∷ (3, 8) ∷ (4, 4) ∷ (5, 4) ∷ []) ∷ ((1, 4) ∷ (2, 4) ∷ (3, 8) ∷ (4, 4) ∷ (5, 4) ∷ []) ∷ ((1, 4) ∷ (2, 4) ∷ (3, 8) ∷ (4, 8) ∷ (5, 4) ∷ []) ∷ ((1, 4) ∷ (2, 4) ∷ (3, 8) ∷ (4, 4) ∷ (5, 4) ∷ []) ∷ ((1, 4) ∷ (2, 4) ∷ (3, 8) ∷ (4, 4) ∷ (5, 4) ∷ []) ∷ ((1, 4) ∷ (2, 4) ∷ (3, 8) ∷ (4, 4) ∷ (5, 4) ∷ []) ∷ ((1, 4) ∷ (2, 4) ∷ (3, 8) ∷ (4, 4) ∷ (5, 4) ∷ []) ∷ ((1, 4) ∷ (2, 4) ∷ (3, 8) ∷ []) ∷ ((1, 4) ∷ (2, 4) ∷ (3, 4) ∷ []) ∷ ((1, 4) ∷ (2, 4) ∷ (3, 4) ∷ []) ∷ ((1, 4) ∷ (2, 4) ∷ (3, 4) ∷ []) ∷ ((1, 4) ∷ (2, 4) ∷ (3, 4) ∷ []) ∷ ((1, 4) ∷ (2, 4) ∷ (3, 4) ∷ []) ∷ ((1, 4) ∷ (2, 4) ∷ (3, 4) ∷ []) ∷ ((1, 4) ∷ (2, 4) ∷ []) ∷ ((1, 4) ∷ (2, 4) ∷ []) ∷ [] ∷ [] ∷ [] ∷ [] ∷ [] ∷ [])
unfolding world_after_entry world_of world_after_step stage_in stage_of stopped_in stopped_by shut_between has_room satisfied_in
which_states = refl

which_quiet : quiet_ones all ≡ (true ∷ true ∷ true ∷ false ∷ false ∷ false ∷ false ∷ false ∷ false ∷ false ∷ false ∷ false ∷ false ∷ false ∷ false ∷ false ∷ false ∷ false ∷ false ∷ false ∷ false ∷ false ∷ false ∷ false ∷ false ∷ false ∷ false ∷ false ∷ false ∷ false ∷ true ∷ false ∷ false ∷ false ∷ false ∷ false ∷ false ∷ false ∷ false ∷ false ∷ false ∷ false ∷ false ∷ false ∷ false ∷ true ∷ false ∷ false ∷ false ∷ false ∷ true ∷ true ∷ true ∷ true ∷ false ∷ false ∷ false ∷ false ∷ false ∷ false ∷ false ∷ false ∷ false ∷ false ∷ false ∷ false ∷ false ∷ false ∷ false ∷ false ∷ false ∷ false ∷ false ∷ true ∷ false ∷ false ∷ false ∷ false ∷ false ∷ false ∷ false ∷ false ∷ false ∷ false ∷ false ∷ false ∷ false ∷ false ∷ false ∷ true ∷ false ∷ false ∷ false ∷ false ∷ false ∷ false ∷ true ∷ false ∷ false ∷ false ∷ false ∷ false ∷ false ∷ false ∷ false ∷ false ∷ false ∷ false ∷ true ∷ false ∷ false ∷ false ∷ false ∷ true ∷ false ∷ false ∷ false ∷ false ∷ false ∷ false ∷ true ∷ true ∷ true ∷ true ∷ true ∷ true ∷ true ∷ [])
unfolding world_after_entry world_of world_after_step stage_in stage_of stopped_in stopped_by shut_between has_room satisfied_in
which_quiet = refl

which_right : right_ones all ≡ (true ∷ true ∷ true ∷ true ∷ false ∷ false ∷ false ∷ false ∷ false ∷ false ∷ false ∷ false ∷ false ∷ false ∷ false ∷ false ∷ false ∷ false ∷ false ∷ false ∷ false ∷ false ∷ false ∷ false ∷ false ∷ false ∷ false ∷ false ∷ false ∷ false ∷ true ∷ false ∷ false ∷ false ∷ false ∷ false ∷ false ∷ false ∷ false ∷ false ∷ false ∷ false ∷ false ∷ false ∷ false ∷ true ∷ false ∷ false ∷ false ∷ false ∷ true ∷ true ∷ true ∷ true ∷ false ∷ false ∷ false ∷ false ∷ false ∷ false ∷ false ∷ false ∷ false ∷ false ∷ false ∷ false ∷ false ∷ false ∷ false ∷ false ∷ false ∷ false ∷ false ∷ true ∷ false ∷ false ∷ false ∷ false ∷ false ∷ false ∷ false ∷ false ∷ false ∷ false ∷ false ∷ false ∷ false ∷ false ∷ false ∷ true ∷ false ∷ false ∷ false ∷ false ∷ false ∷ false ∷ true ∷ false ∷ false ∷ false ∷ false ∷ false ∷ false ∷ false ∷ false ∷ false ∷ false ∷ false ∷ true ∷ false ∷ false ∷ false ∷ false ∷ true ∷ false ∷ false ∷ false ∷ false ∷ false ∷ false ∷ true ∷ true ∷ true ∷ true ∷ true ∷ true ∷ true ∷ [])
unfolding world_after_entry world_of world_after_step stage_in stage_of stopped_in stopped_by shut_between has_room satisfied_in
which_right = refl

which_wanted : wanted_at all ≡ ((record { configuration = 2; consumer = 0 } ∷ record { configuration = 3; consumer = 0 } ∷ record { configuration = 4; consumer = 0 } ∷ record { configuration = 5; consumer = 0 } ∷ record { configuration = 7; consumer = 0 } ∷ []) ∷ (record { configuration = 2; consumer = 0 } ∷ record { configuration = 3; consumer = 0 } ∷ record { configuration = 4; consumer = 0 } ∷ record { configuration = 5; consumer = 0 } ∷ record { configuration = 7; consumer = 0 } ∷ []) ∷ (record { configuration = 2; consumer = 0 } ∷ record { configuration = 3; consumer = 0 } ∷ record { configuration = 4; consumer = 0 } ∷ record { configuration = 5; consumer = 0 } ∷ record { configuration = 7; consumer = 0 } ∷ []) ∷ (record { configuration = 2; consumer = 0 } ∷ record { configuration = 3; consumer = 0 } ∷ record { configuration = 4; consumer = 0 } ∷ record { configuration = 5; consumer = 0 } ∷ record { configuration = 7; consumer = 0 } ∷ []) ∷ (record { configuration = 2; consumer = 0 } ∷ record { configuration = 3; consumer = 0 } ∷ record { configuration = 4; consumer = 0 } ∷ record { configuration = 5; consumer = 0 } ∷ record { configuration = 7; consumer = 0 } ∷ []) ∷ (record { configuration = 2; consumer = 0 } ∷ record { configuration = 3; consumer = 0 } ∷ record { configuration = 4; consumer = 0 } ∷ record { configuration = 5; consumer = 0 } ∷ record { configuration = 7; consumer = 0 } ∷ []) ∷ (record { configuration = 2; consumer = 0 } ∷ record { configuration = 3; consumer = 0 } ∷ record { configuration = 4; consumer = 0 } ∷ record { configuration = 5; consumer = 0 } ∷ record { configuration = 7; consumer = 0 } ∷ []) ∷ (record { configuration = 2; consumer = 0 } ∷ record { configuration = 3; consumer = 0 } ∷ record { configuration = 4; consumer = 0 } ∷ record { configuration = 5; consumer = 0 } ∷ record { configuration = 7; consumer = 0 } ∷ []) ∷ (record { configuration = 2; consumer = 0 } ∷ record { configuration = 3; consumer = 0 } ∷ record { configuration = 4; consumer = 0 } ∷ record { configuration = 5; consumer = 0 } ∷ record { configuration = 7; consumer = 0 } ∷ []) ∷ (record { configuration = 2; consumer = 0 } ∷ record { configuration = 3; consumer = 0 } ∷ record { configuration = 4; consumer = 0 } ∷ record { configuration = 5; consumer = 0 } ∷ record { configuration = 7; consumer = 0 } ∷ []) ∷ (record { configuration = 2; consumer = 0 } ∷ record { configuration = 3; consumer = 0 } ∷ record { configuration = 4; consumer = 0 } ∷ record { configuration = 5; consumer = 0 } ∷ record { configuration = 7; consumer = 0 } ∷ []) ∷ (record { configuration = 2; consumer = 0 } ∷ record { configuration = 3; consumer = 0 } ∷ record { configuration = 4; consumer = 0 } ∷ record { configuration = 5; consumer = 0 } ∷ record { configuration = 7; consumer = 0 } ∷ []) ∷ (record { configuration = 2; consumer = 0 } ∷ record { configuration = 3; consumer = 0 } ∷ record { configuration = 4; consumer = 0 } ∷ record { configuration = 5; consumer = 0 } ∷ record { configuration = 7; consumer = 0 } ∷ []) ∷ (record { configuration = 2; consumer = 0 } ∷ record { configuration = 3; consumer = 0 } ∷ record { configuration = 4; consumer = 0 } ∷ record { configuration = 5; consumer = 0 } ∷ record { configuration = 7; consumer = 0 } ∷ []) ∷ (record { configuration = 2; consumer = 0 } ∷ record { configuration = 3; consumer = 0 } ∷ record { configuration = 4; consumer = 0 } ∷ record { configuration = 5; consumer = 0 } ∷ record { configuration = 7; consumer = 0 } ∷ []) ∷ (record { configuration = 2; consumer = 0 } ∷ record { configuration = 3; consumer = 0 } ∷ record { configuration = 4; consumer = 0 } ∷ record { configuration = 5; consumer = 0 } ∷ record { configuration = 7; consumer = 0 } ∷ []) ∷ (record { configuration = 2; consumer = 0 } ∷ record { configuration = 3; consumer = 0 } ∷ record { configuration = 4; consumer = 0 } ∷ record { configuration = 5; consumer = 0 } ∷ record { configuration = 7; consumer = 0 } ∷ []) ∷ (record { configuration = 2; consumer = 0 } ∷ record { configuration = 4; consumer = 0 } ∷ record { configuration = 5; consumer = 0 } ∷ record { configuration = 7; consumer = 0 } ∷ []) ∷ (record { configuration = 2; consumer = 0 } ∷ record { configuration = 4; consumer = 0 } ∷ record { configuration = 5; consumer = 0 } ∷ record { configuration = 7; consumer = 0 } ∷ []) ∷ (record { configuration = 2; consumer = 0 } ∷ record { configuration = 4; consumer = 0 } ∷ record { configuration = 5; consumer = 0 } ∷ record { configuration = 7; consumer = 0 } ∷ []) ∷ (record { configuration = 2; consumer = 0 } ∷ record { configuration = 4; consumer = 0 } ∷ record { configuration = 5; consumer = 0 } ∷ record { configuration = 7; consumer = 0 } ∷ []) ∷ (record { configuration = 2; consumer = 0 } ∷ record { configuration = 4; consumer = 0 } ∷ record { configuration = 5; consumer = 0 } ∷ record { configuration = 7; consumer = 0 } ∷ []) ∷ (record { configuration = 2; consumer = 0 } ∷ record { configuration = 4; consumer = 0 } ∷ record { configuration = 5; consumer = 0 } ∷ record { configuration = 7; consumer = 0 } ∷ []) ∷ (record { configuration = 2; consumer = 0 } ∷ record { configuration = 4; consumer = 0 } ∷ record { configuration = 5; consumer = 0 } ∷ record { configuration = 7; consumer = 0 } ∷ []) ∷ (record { configuration = 2; consumer = 0 } ∷ record { configuration = 4; consumer = 0 } ∷ record { configuration = 5; consumer = 0 } ∷ record { configuration = 7; consumer = 0 } ∷ []) ∷ (record { configuration = 2; consumer = 0 } ∷ record { configuration = 4; consumer = 0 } ∷ record { configuration = 5; consumer = 0 } ∷ record { configuration = 7; consumer = 0 } ∷ []) ∷ (record { configuration = 2; consumer = 0 } ∷ record { configuration = 4; consumer = 0 } ∷ record { configuration = 5; consumer = 0 } ∷ record { configuration = 7; consumer = 0 } ∷ []) ∷ (record { configuration = 2; consumer = 0 } ∷ record { configuration = 4; consumer = 0 } ∷ record { configuration = 5; consumer = 0 } ∷ record { configuration = 7; consumer = 0 } ∷ []) ∷ (record { configuration = 2; consumer = 0 } ∷ record { configuration = 4; consumer = 0 } ∷ record { configuration = 5; consumer = 0 } ∷ record { configuration = 7; consumer = 0 } ∷ []) ∷ (record { configuration = 2; consumer = 0 } ∷ record { configuration = 4; consumer = 0 } ∷ record { configuration = 5; consumer = 0 } ∷ record { configuration = 7; consumer = 0 } ∷ []) ∷ (record { configuration = 2; consumer = 0 } ∷ record { configuration = 3; consumer = 0 } ∷ record { configuration = 4; consumer = 0 } ∷ record { configuration = 5; consumer = 0 } ∷ record { configuration = 7; consumer = 0 } ∷ []) ∷ (record { configuration = 2; consumer = 0 } ∷ record { configuration = 3; consumer = 0 } ∷ record { configuration = 4; consumer = 0 } ∷ record { configuration = 5; consumer = 0 } ∷ record { configuration = 7; consumer = 0 } ∷ []) ∷ (record { configuration = 2; consumer = 0 } ∷ record { configuration = 3; consumer = 0 } ∷ record { configuration = 4; consumer = 0 } ∷ record { configuration = 5; consumer = 0 } ∷ record { configuration = 7; consumer = 0 } ∷ []) ∷ (record { configuration = 2; consumer = 0 } ∷ record { configuration = 3; consumer = 0 } ∷ record { configuration = 4; consumer = 0 } ∷ record { configuration = 5; consumer = 0 } ∷ record { configuration = 7; consumer = 0 } ∷ []) ∷ (record { configuration = 2; consumer = 0 } ∷ record { configuration = 3; consumer = 0 } ∷ record { configuration = 4; consumer = 0 } ∷ record { configuration = 5; consumer = 0 } ∷ record { configuration = 7; consumer = 0 } ∷ []) ∷ (record { configuration = 2; consumer = 0 } ∷ record { configuration = 3; consumer = 0 } ∷ record { configuration = 4; consumer = 0 } ∷ record { configuration = 5; consumer = 0 } ∷ record { configuration = 7; consumer = 0 } ∷ []) ∷ (record { configuration = 2; consumer = 0 } ∷ record { configuration = 3; consumer = 0 } ∷ record { configuration = 4; consumer = 0 } ∷ record { configuration = 5; consumer = 0 } ∷ record { configuration = 7; consumer = 0 } ∷ []) ∷ (record { configuration = 2; consumer = 0 } ∷ record { configuration = 3; consumer = 0 } ∷ record { configuration = 4; consumer = 0 } ∷ record { configuration = 5; consumer = 0 } ∷ record { configuration = 7; consumer = 0 } ∷ []) ∷ (record { configuration = 2; consumer = 0 } ∷ record { configuration = 3; consumer = 0 } ∷ record { configuration = 4; consumer = 0 } ∷ record { configuration = 5; consumer = 0 } ∷ record { configuration = 7; consumer = 0 } ∷ []) ∷ (record { configuration = 2; consumer = 0 } ∷ record { configuration = 3; consumer = 0 } ∷ record { configuration = 4; consumer = 0 } ∷ record { configuration = 5; consumer = 0 } ∷ record { configuration = 7; consumer = 0 } ∷ []) ∷ (record { configuration = 2; consumer = 0 } ∷ record { configuration = 3; consumer = 0 } ∷ record { configuration = 4; consumer = 0 } ∷ record { configuration = 5; consumer = 0 } ∷ record { configuration = 7; consumer = 0 } ∷ []) ∷ (record { configuration = 2; consumer = 0 } ∷ record { configuration = 3; consumer = 0 } ∷ record { configuration = 4; consumer = 0 } ∷ record { configuration = 5; consumer = 0 } ∷ record { configuration = 7; consumer = 0 } ∷ []) ∷ (record { configuration = 2; consumer = 0 } ∷ record { configuration = 3; consumer = 0 } ∷ record { configuration = 4; consumer = 0 } ∷ record { configuration = 5; consumer = 0 } ∷ record { configuration = 7; consumer = 0 } ∷ []) ∷ (record { configuration = 2; consumer = 0 } ∷ record { configuration = 3; consumer = 0 } ∷ record { configuration = 4; consumer = 0 } ∷ record { configuration = 5; consumer = 0 } ∷ record { configuration = 7; consumer = 0 } ∷ []) ∷ (record { configuration = 3; consumer = 0 } ∷ record { configuration = 4; consumer = 0 } ∷ record { configuration = 5; consumer = 0 } ∷ record { configuration = 7; consumer = 0 } ∷ []) ∷ (record { configuration = 3; consumer = 0 } ∷ record { configuration = 4; consumer = 0 } ∷ record { configuration = 7; consumer = 0 } ∷ []) ∷ (record { configuration = 3; consumer = 0 } ∷ record { configuration = 4; consumer = 0 } ∷ record { configuration = 7; consumer = 0 } ∷ []) ∷ (record { configuration = 3; consumer = 0 } ∷ record { configuration = 4; consumer = 0 } ∷ record { configuration = 7; consumer = 0 } ∷ []) ∷ (record { configuration = 3; consumer = 0 } ∷ record { configuration = 4; consumer = 0 } ∷ record { configuration = 7; consumer = 0 } ∷ []) ∷ (record { configuration = 3; consumer = 0 } ∷ record { configuration = 4; consumer = 0 } ∷ record { configuration = 7; consumer = 0 } ∷ []) ∷ (record { configuration = 3; consumer = 0 } ∷ record { configuration = 4; consumer = 0 } ∷ []) ∷ (record { configuration = 3; consumer = 0 } ∷ record { configuration = 4; consumer = 0 } ∷ []) ∷ (record { configuration = 3; consumer = 0 } ∷ record { configuration = 4; consumer = 0 } ∷ []) ∷ (record { configuration = 3; consumer = 0 } ∷ record { configuration = 4; consumer = 0 } ∷ []) ∷ (record { configuration = 3; consumer = 0 } ∷ record { configuration = 4; consumer = 0 } ∷ []) ∷ (record { configuration = 3; consumer = 0 } ∷ record { configuration = 4; consumer = 0 } ∷ []) ∷ (record { configuration = 3; consumer = 0 } ∷ record { configuration = 4; consumer = 0 } ∷ []) ∷ (record { configuration = 3; consumer = 0 } ∷ record { configuration = 4; consumer = 0 } ∷ []) ∷ (record { configuration = 3; consumer = 0 } ∷ record { configuration = 4; consumer = 0 } ∷ []) ∷ (record { configuration = 3; consumer = 0 } ∷ record { configuration = 4; consumer = 0 } ∷ []) ∷ (record { configuration = 3; consumer = 0 } ∷ record { configuration = 4; consumer = 0 } ∷ []) ∷ (record { configuration = 3; consumer = 0 } ∷ record { configuration = 4; consumer = 0 } ∷ []) ∷ (record { configuration = 3; consumer = 0 } ∷ record { configuration = 4; consumer = 0 } ∷ []) ∷ (record { configuration = 3; consumer = 0 } ∷ record { configuration = 4; consumer = 0 } ∷ []) ∷ (record { configuration = 4; consumer = 0 } ∷ []) ∷ (record { configuration = 4; consumer = 0 } ∷ []) ∷ (record { configuration = 4; consumer = 0 } ∷ []) ∷ (record { configuration = 4; consumer = 0 } ∷ []) ∷ (record { configuration = 4; consumer = 0 } ∷ []) ∷ (record { configuration = 4; consumer = 0 } ∷ []) ∷ (record { configuration = 4; consumer = 0 } ∷ []) ∷ (record { configuration = 4; consumer = 0 } ∷ []) ∷ (record { configuration = 4; consumer = 0 } ∷ []) ∷ (record { configuration = 3; consumer = 0 } ∷ record { configuration = 4; consumer = 0 } ∷ []) ∷ (record { configuration = 3; consumer = 0 } ∷ record { configuration = 4; consumer = 0 } ∷ []) ∷ (record { configuration = 3; consumer = 0 } ∷ record { configuration = 4; consumer = 0 } ∷ []) ∷ (record { configuration = 3; consumer = 0 } ∷ record { configuration = 4; consumer = 0 } ∷ []) ∷ (record { configuration = 3; consumer = 0 } ∷ record { configuration = 4; consumer = 0 } ∷ []) ∷ (record { configuration = 3; consumer = 0 } ∷ record { configuration = 4; consumer = 0 } ∷ []) ∷ (record { configuration = 3; consumer = 0 } ∷ record { configuration = 4; consumer = 0 } ∷ []) ∷ (record { configuration = 3; consumer = 0 } ∷ record { configuration = 4; consumer = 0 } ∷ []) ∷ (record { configuration = 3; consumer = 0 } ∷ record { configuration = 4; consumer = 0 } ∷ []) ∷ (record { configuration = 4; consumer = 0 } ∷ []) ∷ (record { configuration = 4; consumer = 0 } ∷ []) ∷ (record { configuration = 4; consumer = 0 } ∷ []) ∷ (record { configuration = 4; consumer = 0 } ∷ []) ∷ (record { configuration = 4; consumer = 0 } ∷ []) ∷ (record { configuration = 4; consumer = 0 } ∷ []) ∷ (record { configuration = 4; consumer = 0 } ∷ []) ∷ (record { configuration = 3; consumer = 0 } ∷ record { configuration = 4; consumer = 0 } ∷ []) ∷ (record { configuration = 3; consumer = 0 } ∷ record { configuration = 4; consumer = 0 } ∷ []) ∷ (record { configuration = 3; consumer = 0 } ∷ record { configuration = 4; consumer = 0 } ∷ []) ∷ (record { configuration = 3; consumer = 0 } ∷ record { configuration = 4; consumer = 0 } ∷ record { configuration = 6; consumer = 0 } ∷ []) ∷ (record { configuration = 3; consumer = 0 } ∷ record { configuration = 4; consumer = 0 } ∷ record { configuration = 6; consumer = 0 } ∷ []) ∷ (record { configuration = 3; consumer = 0 } ∷ record { configuration = 4; consumer = 0 } ∷ record { configuration = 6; consumer = 0 } ∷ []) ∷ (record { configuration = 3; consumer = 0 } ∷ record { configuration = 4; consumer = 0 } ∷ record { configuration = 6; consumer = 0 } ∷ []) ∷ (record { configuration = 3; consumer = 0 } ∷ record { configuration = 4; consumer = 0 } ∷ []) ∷ (record { configuration = 3; consumer = 0 } ∷ record { configuration = 4; consumer = 0 } ∷ []) ∷ (record { configuration = 3; consumer = 0 } ∷ record { configuration = 4; consumer = 0 } ∷ []) ∷ (record { configuration = 3; consumer = 0 } ∷ record { configuration = 4; consumer = 0 } ∷ []) ∷ (record { configuration = 3; consumer = 0 } ∷ record { configuration = 4; consumer = 0 } ∷ []) ∷ (record { configuration = 3; consumer = 0 } ∷ record { configuration = 4; consumer = 0 } ∷ []) ∷ (record { configuration = 3; consumer = 0 } ∷ record { configuration = 4; consumer = 0 } ∷ []) ∷ (record { configuration = 3; consumer = 0 } ∷ []) ∷ (record { configuration = 3; consumer = 0 } ∷ []) ∷ (record { configuration = 3; consumer = 0 } ∷ []) ∷ (record { configuration = 3; consumer = 0 } ∷ []) ∷ (record { configuration = 3; consumer = 0 } ∷ []) ∷ (record { configuration = 3; consumer = 0 } ∷ record { configuration = 4; consumer = 0 } ∷ []) ∷ (record { configuration = 3; consumer = 0 } ∷ record { configuration = 4; consumer = 0 } ∷ []) ∷ (record { configuration = 3; consumer = 0 } ∷ record { configuration = 4; consumer = 0 } ∷ []) ∷ (record { configuration = 3; consumer = 0 } ∷ record { configuration = 4; consumer = 0 } ∷ []) ∷ (record { configuration = 3; consumer = 0 } ∷ record { configuration = 4; consumer = 0 } ∷ []) ∷ (record { configuration = 3; consumer = 0 } ∷ []) ∷ (record { configuration = 3; consumer = 0 } ∷ []) ∷ (record { configuration = 3; consumer = 0 } ∷ []) ∷ (record { configuration = 3; consumer = 0 } ∷ []) ∷ (record { configuration = 3; consumer = 0 } ∷ []) ∷ (record { configuration = 3; consumer = 0 } ∷ []) ∷ (record { configuration = 3; consumer = 0 } ∷ []) ∷ [] ∷ [] ∷ [] ∷ [] ∷ [] ∷ [] ∷ [] ∷ [])
unfolding world_after_entry world_of world_after_step stage_in stage_of stopped_in stopped_by shut_between has_room satisfied_in
which_wanted = refl

which_replies : replies 4194304 all (asked 0 (Install doc1) ∷ asked 1 (Install doc2) ∷ asked 2 (Install doc3) ∷ asked 3 (Install doc4) ∷ asked 4 (Start 1) ∷ asked 5 (Register 1 ((codes "Y") ∷ []) (record { key = (codes "service.ranking"); value = (Whole (pos 1)) } ∷ record { key = (codes "v"); value = (Whole (pos 1)) } ∷ [])) ∷ asked 6 (Start 2) ∷ asked 13 (Start 3) ∷ asked 18 (Register 3 ((codes "X") ∷ []) []) ∷ asked 30 (Start 4) ∷ asked 37 (Register 4 ((codes "Y") ∷ []) (record { key = (codes "v"); value = (Whole (pos 0)) } ∷ [])) ∷ asked 53 (Register 4 ((codes "Y") ∷ []) (record { key = (codes "v"); value = (Whole (pos 1)) } ∷ [])) ∷ asked 73 (Get 4 12) ∷ asked 74 (SetProperties 1 3 (record { key = (codes "service.ranking"); value = (Whole (negsuc 0)) } ∷ record { key = (codes "v"); value = (Whole (pos 1)) } ∷ [])) ∷ asked 75 (Listen 1 (tree_or_none (codes "(v=1)"))) ∷ asked 76 (Unget 2 2) ∷ asked 76 (Enable 2 (codes "c5")) ∷ asked 81 (Get 2 6) ∷ asked 96 (Register 3 ((codes "Y") ∷ []) (record { key = (codes "v"); value = (Whole (pos 2)) } ∷ [])) ∷ asked 124 (Register 3 ((codes "I2") ∷ []) (record { key = (codes "service.ranking"); value = (Whole (pos 2)) } ∷ [])) ∷ asked 125 (Get 4 6) ∷ []) ≡ ((Ok (InBundle 1)) ∷ (Ok (InBundle 2)) ∷ (Ok (InBundle 3)) ∷ (Ok (InBundle 4)) ∷ (Ok IsDone) ∷ (Ok (AsService 3)) ∷ (Ok IsDone) ∷ (Ok IsDone) ∷ (Ok (AsService 7)) ∷ (Ok IsDone) ∷ (Ok (AsService 10)) ∷ (Ok (AsService 12)) ∷ (Ok (WithUses 1)) ∷ (Ok IsDone) ∷ (Ok (AsListener 1)) ∷ (Err NotUsing) ∷ (Ok IsDone) ∷ (Ok (WithUses 1)) ∷ (Ok (AsService 15)) ∷ (Ok (AsService 17)) ∷ (Ok (WithUses 1)) ∷ [])
unfolding world_after_entry world_of world_after_step stage_in stage_of stopped_in stopped_by shut_between has_room satisfied_in
which_replies = refl

bundle_events : bundle_events_at_end all ≡ (record { value = 1; bundle = 1 } ∷ record { value = 1; bundle = 2 } ∷ record { value = 1; bundle = 3 } ∷ record { value = 1; bundle = 4 } ∷ record { value = 32; bundle = 1 } ∷ record { value = 128; bundle = 1 } ∷ record { value = 2; bundle = 1 } ∷ record { value = 32; bundle = 2 } ∷ record { value = 128; bundle = 2 } ∷ record { value = 2; bundle = 2 } ∷ record { value = 32; bundle = 3 } ∷ record { value = 128; bundle = 3 } ∷ record { value = 2; bundle = 3 } ∷ record { value = 32; bundle = 4 } ∷ record { value = 128; bundle = 4 } ∷ record { value = 2; bundle = 4 } ∷ [])
unfolding world_after_entry world_of world_after_step stage_in stage_of stopped_in stopped_by shut_between has_room satisfied_in
bundle_events = refl

events_of_1 : events_at_end 1 all ≡ []
unfolding world_after_entry world_of world_after_step stage_in stage_of stopped_in stopped_by shut_between has_room satisfied_in
events_of_1 = refl

held_1 : held_at_end 1 all ≡ []
unfolding world_after_entry world_of world_after_step stage_in stage_of stopped_in stopped_by shut_between has_room satisfied_in
held_1 = refl

held_2 : held_at_end 2 all ≡ []
unfolding world_after_entry world_of world_after_step stage_in stage_of stopped_in stopped_by shut_between has_room satisfied_in
held_2 = refl

held_3 : held_at_end 3 all ≡ (record { instance = 10; reference = (codes "next"); service = 10 } ∷ record { instance = 10; reference = (codes "next"); service = 12 } ∷ record { instance = 10; reference = (codes "next"); service = 15 } ∷ record { instance = 10; reference = (codes "next"); service = 3 } ∷ [])
unfolding world_after_entry world_of world_after_step stage_in stage_of stopped_in stopped_by shut_between has_room satisfied_in
held_3 = refl

held_4 : held_at_end 4 all ≡ (record { instance = 3; reference = (codes "r0"); service = 7 } ∷ [])
unfolding world_after_entry world_of world_after_step stage_in stage_of stopped_in stopped_by shut_between has_room satisfied_in
held_4 = refl

held_5 : held_at_end 5 all ≡ (record { instance = 8; reference = (codes "next"); service = 2 } ∷ record { instance = 8; reference = (codes "next"); service = 8 } ∷ record { instance = 8; reference = (codes "next"); service = 16 } ∷ [])
unfolding world_after_entry world_of world_after_step stage_in stage_of stopped_in stopped_by shut_between has_room satisfied_in
held_5 = refl

held_6 : held_at_end 6 all ≡ []
unfolding world_after_entry world_of world_after_step stage_in stage_of stopped_in stopped_by shut_between has_room satisfied_in
held_6 = refl

held_7 : held_at_end 7 all ≡ []
unfolding world_after_entry world_of world_after_step stage_in stage_of stopped_in stopped_by shut_between has_room satisfied_in
held_7 = refl

bound_is : bound_at_end all ≡ 294
unfolding world_after_entry world_of world_after_step stage_in stage_of stopped_in stopped_by shut_between has_room satisfied_in
bound_is = refl

calm_is : calm_at_end all ≡ true
unfolding world_after_entry world_of world_after_step stage_in stage_of stopped_in stopped_by shut_between has_room satisfied_in
calm_is = refl
