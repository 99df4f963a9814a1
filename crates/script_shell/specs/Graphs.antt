-- What the line `graph` asks: the bundles, the direct services and the component configurations, each with what it holds and
-- what it lacks. OSGi Core 8, chapters 4 and 5; OSGi Compendium 8, chapter 112, "Bound Services", "SatisfiedReferenceDTO",
-- "UnsatisfiedReferenceDTO". The graph is our own form.
use Rattle.std.specs.Prelude.{ℕ, ◌==◌, ◌&&◌, List, [], ◌∷◌, ◌++◌, not, map, filter, find, flat_map, nat_lt, if◌then◌else◌}
use Rattle.std.specs.List.{dedup}
use Rattle.std.specs.Option.{option_map_or}
use Rattle.std.specs.Str.{bytes_eq}
use Rattle.bundle_life.specs.Lives.{state_number}
use Rattle.bundle_life.specs.declared.bundle.BundleLife.{BundleLife}
use Rattle.component_state.specs.declared.open_period.OpenPeriod.{OpenPeriod}
use Rattle.prop_map.specs.Words.{in_order}
use Rattle.scr_readers.specs.DetailViews.{component_details}
use Rattle.scr_readers.specs.declared.component_details.ComponentDetails.{ComponentDetails}
use Rattle.scr_readers.specs.declared.component_details.ReferenceDetails.{ReferenceDetails}
use Rattle.scr_world.specs.Readers.{component_lines, held_lines, service_lines}
use Rattle.scr_world.specs.declared.lines.ComponentLine.{ComponentLine}
use Rattle.scr_world.specs.declared.lines.HeldLine.{HeldLine}
use Rattle.scr_world.specs.declared.world.World.{World}
use Rattle.service_registry.specs.declared.row.ServiceRow.{ServiceRow}
use Rattle.shell_lang.specs.declared.graph_line.GraphLine.{GraphLine}
use Rattle.shell_lang.specs.declared.graph_line.GraphLine.TheVariants.{Opening, Bundle, Service, Component, OfBundle, Holds, Lacks, Closing}
use Rattle.shell_lang.specs.declared.graph_line.GraphNode.{GraphNode}
use Rattle.shell_lang.specs.declared.graph_line.GraphNode.TheVariants.{Component as OfComponent, Service as OfService}

-- ---- bundles and direct services

abbrev pub bundle_node : BundleLife → GraphLine
bundle_node b = Bundle b.number b.location (state_number b.state)

abbrev pub service_node : ServiceRow → GraphLine
service_node r = Service r.id r.interfaces

-- the services without a component behind them, that of the platform left out
abbrev pub direct_nodes : List ServiceRow → List GraphLine
direct_nodes rs = map service_node (filter (λ (r : ServiceRow). r.direct) rs)

-- ---- what a component configuration holds for a reference ("Bound Services")

-- what stands for a service: the open component configuration whose service it is, else the service itself
abbrev pub node_of : List OpenPeriod → ℕ → GraphNode
node_of open_now service = option_map_or (λ (p : OpenPeriod). OfComponent p.configuration) (find (λ (p : OpenPeriod). not (p.row.id == 0) && (p.row.id == service)) open_now) (OfService service)

-- numbers in their order, each once
abbrev pub each_by_number : List ℕ → List ℕ
each_by_number ns = dedup (λ a b. a == b) (in_order nat_lt ns)

-- what is held for the reference of a name
abbrev pub held_for : List ℕ → List HeldLine → List ℕ
held_for name held = map (λ (h : HeldLine). h.service) (filter (λ (h : HeldLine). bytes_eq h.reference name) held)

abbrev pub hold_arrow : List OpenPeriod → ℕ → List ℕ → ℕ → GraphLine
hold_arrow open_now number name service = Holds number (node_of open_now service) name

-- each service that a living instance holds for it
abbrev pub hold_arrows : List OpenPeriod → ℕ → List HeldLine → List ℕ → List GraphLine
hold_arrows open_now number held name = map (hold_arrow open_now number name) (each_by_number (held_for name held))

-- ---- what it lacks ("UnsatisfiedReferenceDTO")

abbrev pub lack_arrows : ℕ → ReferenceDetails → List GraphLine
lack_arrows number r = if r.state.satisfied then [] else Lacks number r.interface_name r.state.name ∷ []

-- ---- component configurations

abbrev pub reference_arrows : List OpenPeriod → ℕ → List HeldLine → ReferenceDetails → List GraphLine
reference_arrows open_now number held r = hold_arrows open_now number held r.state.name ++ lack_arrows number r

-- the component configuration of a number with these details, and its bundle
abbrev pub component_node : ℕ → ComponentDetails → List GraphLine
component_node number v = Component number v.description.name v.state ∷ OfBundle v.bundle number ∷ []

-- its references in order, the implicit one last
abbrev pub component_arrows : World → ℕ → ComponentDetails → List GraphLine
component_arrows w number v = flat_map (reference_arrows w.open_periods number (held_lines w number)) v.references

abbrev pub drawn_with : World → ℕ → ComponentDetails → List GraphLine
drawn_with w number v = component_node number v ++ component_arrows w number v

abbrev pub drawn : World → ℕ → List GraphLine
drawn w number = option_map_or (drawn_with w number) (component_details w number) []

-- those that haven't ceased, by number
abbrev pub components_drawn : World → List ComponentLine → List GraphLine
components_drawn w cs = flat_map (λ (c : ComponentLine). drawn w c.configuration) cs

-- ---- the graph

-- what there is
abbrev pub all_drawn : World → List GraphLine
all_drawn w = map bundle_node w.bundles.rows ++ (direct_nodes (service_lines w) ++ components_drawn w (component_lines w))

-- between a first and a last line
abbrev pub graph_lines : World → List GraphLine
graph_lines w = Opening ∷ (all_drawn w ++ Closing ∷ [])
