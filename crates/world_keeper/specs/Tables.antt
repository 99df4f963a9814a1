-- The table of changes: a row for each, numbered from 1. Our own.
use Rattle.std.specs.Prelude.{◌≡◌, IsTrue, true, false, [], ◌∷◌, Some, None, Option, codes, List, ℕ, suc, pos, map}
use Rattle.sqlite.specs.Collation.TheVariants.{Binary}
use Rattle.sqlite.specs.Held.{Held, state}
use Rattle.sqlite.specs.Kind.TheVariants.{Integer, Text}
use Rattle.sqlite.specs.Order.{Row, column}
use Rattle.sqlite.specs.Schema.{Schema}
use Rattle.sqlite.specs.State.{State}
use Rattle.sqlite.specs.Steps.{over_memory}
use Rattle.sqlite.specs.Table.{Table}
use Rattle.sqlite.specs.declared.types.Value.{Value}
use Rattle.sqlite.specs.declared.types.Value.TheVariants.{Null, Int, Text as Words}
use Rattle.sqlite_trees.specs.declared.memory.MemStore.{MemStore}
use Rattle.world_keeper.specs.KeptWorlds.{kept_by}
use Rattle.world_keeper.specs.Lines.{Line, change_in, line_of}
use Rattle.world_keeper.specs.declared.change.Change.{Change}

abbrev pub change : Table
change = record {
  name = codes "change";
  tree = 0;
  columns = (record {
    name = codes "id";
    kind = Integer;
    is_strict = true;
    not_null = false;
    default = Null;
    collation = Binary;
  })
      ∷ (record {
        name = codes "kind";
        kind = Text;
        is_strict = true;
        not_null = true;
        default = Null;
        collation = Binary;
      })
      ∷ (record {
        name = codes "name";
        kind = Text;
        is_strict = true;
        not_null = true;
        default = Null;
        collation = Binary;
      })
      ∷ (record {
        name = codes "factory";
        kind = Text;
        is_strict = true;
        not_null = true;
        default = Null;
        collation = Binary;
      })
      ∷ (record {
        name = codes "text";
        kind = Text;
        is_strict = true;
        not_null = true;
        default = Null;
        collation = Binary;
      }) ∷ [];
  key = Some 0;
  primary = 0 ∷ [];
  uniques = [];
  orders = [];
  checks = [];
  references = [];
  computed = [];
  stamps = record { places = []; terms = []; formats = [] };
  is_counted = false;
}

abbrev pub change_schema : Schema
change_schema = record { tables = change ∷ []; indexes = []; views = [] }

abbrev pub no_schema : Schema
no_schema = record { tables = []; indexes = []; views = [] }

-- what a query shows of a row
abbrev pub shown : Line → Row
shown l = Words l.kind ∷ Words l.name ∷ Words l.factory ∷ Words l.text ∷ []

abbrev pub stored : ℕ → Line → Row
stored n l = Int (pos n) ∷ Null ∷ shown l

-- the rows of these changes, numbered from n on
abbrev pub stored_from : ℕ → List Line → List Row
stored_from n [] = []
stored_from n (l ∷ ls) = stored n l ∷ stored_from (suc n) ls

-- the database keeps just these rows, and no transaction is under way
pub record KeepsLines (s : State) (lines : List Line) : Type 0 where
  pub schema : s.now.schema ≡ change_schema
  pub rows : s.now.trees 0 ≡ stored_from 1 lines
  pub settled : s.committed ≡ s.now
  pub idle : s.in_transaction ≡ false
  pub is_open : IsTrue s.is_open

abbrev pub words : Value → List ℕ
words (Words t) = t
words _ = []

abbrev pub line_in : Row → Line
line_in r = record {
  kind = words (column r 2);
  name = words (column r 3);
  factory = words (column r 4);
  text = words (column r 5);
}

-- the changes that a database keeps
abbrev pub changes_in : State → List Change
changes_in s = map (λ r. change_in (line_in r)) (s.now.trees 0)

-- Where the database is kept, if it was opened.
abbrev pub Place : Type 0
Place = Option (Held MemStore)

-- just these changes are kept there
abbrev pub KeepsChanges : Place → List Change → Type 0
KeepsChanges None changes = changes ≡ []
KeepsChanges (Some held) changes = KeepsLines (state over_memory held) (map line_of changes)

abbrev pub changes_at : Place → List Change
changes_at None = []
changes_at (Some held) = changes_in (state over_memory held)

-- what is kept there is what these changes keep
abbrev pub Stays : Place → List Change → Type 0
Stays place changes = KeepsChanges place (changes_at place) × (kept_by (changes_at place) ≡ kept_by changes)
