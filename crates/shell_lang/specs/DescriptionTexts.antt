-- The lines of descriptions. Our own form; PIDs stand as in a JSON array (RFC 8259).
use Rattle.std.specs.Prelude.{ℕ, List, ◌++◌, Bool, true, false, codes, map}
use Rattle.component_dto.specs.declared.description.ConfigurationPolicy.{ConfigurationPolicy}
use Rattle.component_dto.specs.declared.description.ConfigurationPolicy.TheVariants.{Optional, Require, Ignore}
use Rattle.serde_json.specs.Data.{Data, array, string}
use Rattle.serde_json.specs.View.{items_of}
use Rattle.serde_json.specs.Written.{compact_text}
use Rattle.shell_lang.specs.ConfigurationTexts.{shown_numbers}
use Rattle.shell_lang.specs.declared.description_line.DescriptionLine.{DescriptionLine}

abbrev pub enabled_word : Bool → List ℕ
enabled_word true = codes "enabled"
enabled_word false = codes "disabled"

abbrev pub immediate_word : Bool → List ℕ
immediate_word true = codes "immediate"
immediate_word false = codes "delayed"

abbrev pub policy_word : ConfigurationPolicy → List ℕ
policy_word Optional = codes "optional"
policy_word Require = codes "require"
policy_word Ignore = codes "ignore"

-- texts as a JSON array
abbrev pub text_array : List (List ℕ) → Data
text_array texts = array (items_of (map string texts))

-- a description's name, whether it is enabled and immediate, its policy, and these texts of its PIDs and of its component
-- configurations
abbrev pub described_text : DescriptionLine → List ℕ → List ℕ → List ℕ
described_text row pids numbers =
    row.name ++ codes " " ++ enabled_word row.enabled ++ codes " " ++ immediate_word row.immediate ++ codes " " ++ policy_word row.policy ++ codes " " ++ pids ++ codes " " ++ numbers ++ codes "\n"

abbrev pub description_text : DescriptionLine → List ℕ
description_text row = described_text row (compact_text (text_array row.pids)) (shown_numbers row.numbers)
