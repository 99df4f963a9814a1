-- Commands that change what the bundles hold, and the tables after them. Our own.
use Rattle.std.specs.Prelude.{Bool, List, Some, true, false}
use Rattle.scr_installing.specs.declared.described.Described.{Described}
use Rattle.scr_judgements.specs.Drafting.{no_tables}
use Rattle.scr_judgements.specs.declared.drafting.TablesAfter.{TablesAfter}
use Rattle.scr_world.specs.declared.command.Command.{Command}
use Rattle.scr_world.specs.declared.command.Command.TheVariants.{Install, Update, Uninstall}
use Rattle.scr_world.specs.declared.contents.Contents.{Contents}
use Rattle.scr_world.specs.declared.step.Step.{Step}
use Rattle.scr_world.specs.declared.step.Step.TheVariants.{Command as Commanded}

-- the commands that give a bundle a document, or take one away with it
abbrev pub is_of_documents : Command → Bool
is_of_documents (Install doc) = true
is_of_documents (Update bundle doc) = true
is_of_documents (Uninstall bundle) = true
is_of_documents _ = false

abbrev pub changes_documents : Step → Bool
changes_documents (Commanded command) = is_of_documents command
changes_documents _ = false

-- they change these tables alone
abbrev pub tables_with : List Contents → Described → TablesAfter
tables_with documents described = record no_tables { documents = Some documents; descriptions = Some described.descriptions; levels = Some described.levels }
