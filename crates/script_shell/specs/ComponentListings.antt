-- What the lines `list`, `details` and `descriptions` ask: component configurations with what they wait for, all that is
-- told of one, and the descriptions of a bundle. Our own form; OSGi Compendium 8, chapter 112,
-- "ComponentConfigurationDTO", "ComponentDescriptionDTO".
use Rattle.std.specs.Prelude.{ℕ, List, false, map, slice_index_or}
use Rattle.std.specs.Fmt.{decimal}
use Rattle.std.specs.Option.{option_map_or}
use Rattle.component_dto.specs.declared.description.Description.{Description}
use Rattle.prop_map.specs.Words.{with_places}
use Rattle.scr_readers.specs.Described.{described_numbers}
use Rattle.scr_readers.specs.ListedComponents.{listed_components}
use Rattle.scr_readers.specs.declared.listed_component.ListedComponent.{ListedComponent}
use Rattle.scr_report.specs.DetailData.{details_in}
use Rattle.scr_world.specs.Tables.{contents_of}
use Rattle.scr_world.specs.declared.contents.Contents.{Contents}
use Rattle.scr_world.specs.declared.reply.CoreFault.TheVariants.{NoBundle, NoComponent}
use Rattle.scr_world.specs.declared.world.World.{World}
use Rattle.serde_json.specs.Written.{compact_text}
use Rattle.shell_lang.specs.declared.description_line.DescriptionLine.{DescriptionLine}
use Rattle.shell_lang.specs.declared.listed_line.ListedLine.{ListedLine}
use Rattle.shell_lang.specs.declared.shell_reply.Refusal.TheVariants.{Core as OfCore}
use Rattle.shell_lang.specs.declared.shell_reply.ShellReply.{ShellReply}
use Rattle.shell_lang.specs.declared.shell_reply.ShellReply.TheVariants.{Descriptions, Details, Refused}

abbrev pub listed_line : ListedComponent → ListedLine
listed_line c = record { number = c.number; bundle = c.bundle; state = c.state; name = c.name; interfaces = c.interfaces; waits = c.waits }

-- the component configurations, by number
abbrev pub listed_lines : World → List ListedLine
listed_lines w = map listed_line (listed_components w)

-- a description with its index: whether it is enabled, and which component configurations there are of it
abbrev pub description_line : World → Contents → (ℕ × Description) → DescriptionLine
description_line w c d = record {
  name = d.1.name;
  enabled = slice_index_or c.enabled d.0 false;
  immediate = d.1.immediate;
  policy = d.1.configuration_policy;
  pids = d.1.configuration_pids;
  numbers = described_numbers w c.bundle d.0;
}

-- the descriptions of a bundle, in the order of its document, the disabled ones too
abbrev pub description_lines : World → Contents → List DescriptionLine
description_lines w c = map (description_line w c) (with_places 0 c.document.descriptions)

abbrev pub descriptions_told : World → Contents → ShellReply
descriptions_told w c = Descriptions (description_lines w c)

-- those of the bundle of a number, where it is installed
abbrev pub descriptions_reply : World → ℕ → ShellReply
descriptions_reply w bundle = option_map_or (descriptions_told w) (contents_of w.documents bundle) (Refused (OfCore (NoBundle bundle)))

-- the details of the component configuration of a number, where there is one
abbrev pub details_reply : World → ℕ → ShellReply
details_reply w configuration = option_map_or (λ d. Details (compact_text d)) (details_in w configuration) (Refused (OfCore (NoComponent (decimal configuration))))
