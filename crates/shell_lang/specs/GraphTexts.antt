-- The lines of a graph: "The DOT Language" of Graphviz, with JSON's texts in quotes. Our own form.
use Rattle.std.specs.Prelude.{ℕ, List, ◌++◌, codes}
use Rattle.std.specs.Fmt.{decimal}
use Rattle.shell_lang.specs.JoinedTexts.{joined}
use Rattle.shell_lang.specs.QuotedTexts.{quoted_text}
use Rattle.shell_lang.specs.declared.graph_line.GraphLine.{GraphLine}
use Rattle.shell_lang.specs.declared.graph_line.GraphLine.TheVariants.{Opening, Bundle, Service, Component, OfBundle, Holds, Lacks, Closing}
use Rattle.shell_lang.specs.declared.graph_line.GraphNode.{GraphNode}
use Rattle.shell_lang.specs.declared.graph_line.GraphNode.TheVariants.{Component as OfComponent, Service as OfService}

-- a number, a name and a state
abbrev pub stated_text : ℕ → List ℕ → ℕ → List ℕ
stated_text number name state = decimal number ++ codes " " ++ name ++ codes " " ++ decimal state

abbrev pub stated_label : ℕ → List ℕ → ℕ → List ℕ
stated_label number name state = quoted_text (stated_text number name state)

-- a number and a text
abbrev pub numbered_text : ℕ → List ℕ → List ℕ
numbered_text number text = decimal number ++ codes " " ++ text

-- a service's number, and its interfaces with commas between them
abbrev pub told_interfaces : ℕ → List (List ℕ) → List ℕ
told_interfaces service interfaces = numbered_text service (joined (codes ",") interfaces)

abbrev pub interfaces_label : ℕ → List (List ℕ) → List ℕ
interfaces_label service interfaces = quoted_text (told_interfaces service interfaces)

-- what stands for a service
abbrev pub node_text : GraphNode → List ℕ
node_text (OfComponent configuration) = codes "c" ++ decimal configuration
node_text (OfService service) = codes "s" ++ decimal service

-- a bundle, a service and a component configuration with a label
abbrev pub box_text : ℕ → List ℕ → List ℕ
box_text bundle label = codes "b" ++ decimal bundle ++ codes " [shape=box,label=" ++ label ++ codes "]\n"

abbrev pub diamond_text : ℕ → List ℕ → List ℕ
diamond_text service label = codes "s" ++ decimal service ++ codes " [shape=diamond,label=" ++ label ++ codes "]\n"

abbrev pub ellipse_text : ℕ → List ℕ → List ℕ
ellipse_text configuration label = codes "c" ++ decimal configuration ++ codes " [label=" ++ label ++ codes "]\n"

-- an arrow from a bundle to its component configuration, and arrows with a label to what this holds and to what it lacks
abbrev pub of_bundle_text : ℕ → ℕ → List ℕ
of_bundle_text bundle configuration = codes "b" ++ decimal bundle ++ codes " -> c" ++ decimal configuration ++ codes "\n"

abbrev pub holds_text : ℕ → List ℕ → List ℕ → List ℕ
holds_text configuration node label = codes "c" ++ decimal configuration ++ codes " -> " ++ node ++ codes " [label=" ++ label ++ codes "]\n"

abbrev pub lacks_text : ℕ → List ℕ → List ℕ → List ℕ
lacks_text configuration interface label = codes "c" ++ decimal configuration ++ codes " -> " ++ interface ++ codes " [style=dashed,label=" ++ label ++ codes "]\n"

-- a line of a graph
abbrev pub graph_text : GraphLine → List ℕ
graph_text Opening = codes "digraph osgi {\n"
graph_text (Bundle bundle location state) = box_text bundle (stated_label bundle location state)
graph_text (Service service interfaces) = diamond_text service (interfaces_label service interfaces)
graph_text (Component configuration name state) = ellipse_text configuration (stated_label configuration name state)
graph_text (OfBundle bundle configuration) = of_bundle_text bundle configuration
graph_text (Holds configuration node reference) = holds_text configuration (node_text node) (quoted_text reference)
graph_text (Lacks configuration interface reference) = lacks_text configuration (quoted_text interface) (quoted_text reference)
graph_text Closing = codes "}\n"
