-- A core may go to another thread. What holds no filter is `Send` by its generated proof. A filter is a tree, for which none is generated, so the types
-- that hold one are taken in turn.
use denote.Param.Send.{IsSend, IsSync, sendable, plain_send, struct_send}
use denote.Struct.Declared.{shape}
use Rattle.bundle_doc.proofs.document.BundleDoc.TheSendSync as document
use Rattle.bundle_life.proofs.table.Bundles.TheSendSync as bundles
use Rattle.bundle_wiring.proofs.fault.WireFault.TheSendSync as wire_fault
use Rattle.bundle_wiring.proofs.wiring.Offer.TheSendSync as offer
use Rattle.bundle_wiring.specs.contracts.wiring.WireNeed as WireNeed
use Rattle.bundle_wiring.specs.contracts.wiring.Wiring as Wiring
use Rattle.callback_orders.proofs.callback.Callback.TheSendSync as callback
use Rattle.callback_orders.proofs.callback.Outcome.TheSendSync as outcome
use Rattle.component_dto.proofs.description.Description.TheSendSync as description
use Rattle.component_dto.proofs.description.Reference.TheSendSync as reference
use Rattle.component_state.proofs.component.Component.TheSendSync as component
use Rattle.component_state.proofs.open_period.OpenPeriod.TheSendSync as open_period
use Rattle.component_state.proofs.origin.Choice.TheSendSync as choice
use Rattle.config_admin.proofs.table.Configurations.TheSendSync as configurations
use Rattle.journal_core.proofs.journal.Journal.TheSendSync as journal
use Rattle.kept_wirings.specs.contracts.kept_wirings.KeptWirings as KeptWirings
use Rattle.ldap_filter.proofs.node.Node.TheLaws.TheKnot as node
use Rattle.ldap_filter.specs.contracts.filter.Filter as Filter
use Rattle.osgi_version.proofs.range.VersionRange.TheSendSync as range
use Rattle.prop_map.proofs.list.List.TheSendSync as list
use Rattle.prop_map.proofs.properties.Properties.TheSendSync as properties
use Rattle.prop_map.proofs.reference_words.Cardinality.TheSendSync as cardinality
use Rattle.prop_map.proofs.reference_words.Policy.TheSendSync as policy
use Rattle.prop_map.proofs.reference_words.PolicyOption.TheSendSync as policy_option
use Rattle.prop_map.proofs.shared.Shared.TheSendSync as shared
use Rattle.prop_map.proofs.text.Str.TheSendSync as text
use Rattle.reference_match.specs.contracts.need.Need as Need
use Rattle.scr_core.specs.contracts.platform_core.Core as Core
use Rattle.scr_dues.proofs.making.Making.TheSendSync as making
use Rattle.scr_dues.specs.contracts.known_needs.KnownNeed as KnownNeed
use Rattle.scr_dues.specs.contracts.own_rows.OwnRows as OwnRows
use Rattle.scr_state.specs.contracts.state.State as State
use Rattle.scr_world.proofs.command.Limits.TheSendSync as limits
use Rattle.scr_world.proofs.contents.Contents.TheSendSync as contents
use Rattle.scr_world.proofs.instance.Instance.TheSendSync as instance
use Rattle.scr_world.proofs.lines.TurnLine.TheSendSync as turn_line
use Rattle.scr_world.proofs.marks.Failure.TheSendSync as failure
use Rattle.scr_world.proofs.marks.Token.TheSendSync as token
use Rattle.scr_world.specs.contracts.command.Command as Command
use Rattle.scr_world.specs.contracts.step.Step as Step
use Rattle.scr_world.specs.contracts.world.World as World
use Rattle.service_listeners.proofs.listener.ServiceEvent.TheSendSync as event
use Rattle.service_listeners.specs.contracts.listener.Listener as Listener
use Rattle.service_listeners.specs.contracts.table.Listeners as Listeners
use Rattle.service_registry.proofs.registry.Registry.TheSendSync as registry
use Rattle.service_registry.proofs.row.ServiceRow.TheSendSync as service
use Rattle.std.proofs.Crossing.{Vec-send, crosses}
use Rattle.use_counts.proofs.table.UseCounts.TheSendSync as uses

filter_send : IsSend Filter.the_row
filter_send = search (crosses, node.crosses, sendable) depth 60 fits 20000

filter_sync : IsSync Filter.the_row
filter_sync = search (crosses, node.crosses, sendable) depth 60 fits 20000

-- ---- needs and offers

need_send : IsSend WireNeed.the_row
need_send = search (filter_send, filter_sync, range.the_send, range.the_sync, text.the_send, shared.the_send, sendable) depth 60 fits 20000

wiring_send : IsSend Wiring.the_row
wiring_send = search (need_send, offer.the_send, list.the_send, sendable) depth 60 fits 20000

wirings_send : IsSend (KeptWirings.the_field).row
wirings_send = search (wiring_send, wire_fault.the_field_send, Vec-send, sendable) depth 60 fits 20000

-- ---- what the platform has of its own

reference_need_send : IsSend (Need.the_field).row
reference_need_send = search (filter_send, text.the_send, cardinality.the_field_send, policy.the_field_send, policy_option.the_field_send, sendable) depth 60 fits 20000

known_need_send : IsSend KnownNeed.the_row
known_need_send = search (reference_need_send, reference.the_field_send, sendable) depth 60 fits 20000

own_send : IsSend OwnRows.the_row
own_send = search (known_need_send, service.the_field_send, component.the_field_send, sendable) depth 60 fits 20000

-- ---- the world

listener_send : IsSend Listener.the_row
listener_send = search (filter_send, event.the_send, list.the_send, sendable) depth 60 fits 20000

listeners_send : IsSend Listeners.the_row
listeners_send = search (listener_send, Vec-send, sendable) depth 60 fits 20000

ruleset held = (
  plain_send,
  listeners_send,
  bundles.the_send,
  contents.the_send,
  registry.the_send,
  configurations.the_send,
  component.the_send,
  open_period.the_send,
  failure.the_send,
  instance.the_send,
  instance.the_field_send,
  uses.the_send,
  token.the_send,
  service.the_send,
  list.the_send,
)

-- the type of a field that holds a world; likewise below. Its fields are in their order, since a search for all at once breaks off
world_send : IsSend (World.the_field).row
world_send = struct_send (shape World.the_type) (search held, (search held, (search held, (search held, (search held, (search held, (search held, (search held, (search held, (search held, (search held, (search held, (search held, (search held, (search held, (search held, (search held, (search held, (search held, tt)))))))))))))))))))

state_send : IsSend (State.the_field).row
state_send = search (world_send, description.the_send, list.the_send, sendable) depth 60 fits 20000

-- ---- the journal

command_send : IsSend (Command.the_field).row
command_send = search (filter_send, document.the_field_send, text.the_send, properties.the_send, list.the_send, sendable) depth 60 fits 20000

step_send : IsSend Step.the_row
step_send = search (command_send, callback.the_field_send, outcome.the_field_send, choice.the_send, list.the_send, sendable) depth 60 fits 20000

-- ---- the core

pub core_send : IsSend Core.the_row
core_send = search (limits.the_field_send, journal.the_send, step_send, state_send, own_send, turn_line.the_send, making.the_field_send, wirings_send, Vec-send, sendable) depth 60 fits 20000
