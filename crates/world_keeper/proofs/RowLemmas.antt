-- What the three statements do.
use Rattle.world_keeper.proofs.RowOrder.{from, in_order}
use Rattle.std.specs.List.{All}
use Rattle.std.proofs.lemmas.List.Elements.{All-cons, All-tail}
use Rattle.std.proofs.lemmas.List.Sorted.{All-permutation, IsPermutation-map, length_permutation, IsNonDecreasingBy-from_all_adjacent}
use Rattle.sqlite.specs.Query.{output_cmp}
use Rattle.sqlite.specs.Order.{column}
use Rattle.sqlite.specs.State.{ShowsRows, IsUnchanged, IsRolledBack, Shows, Survives, HasCleanDisk, ExecutesIn, FailsToQuery, IsNotRun, shows_rows, RunsCommand, FailsToShow}
use Rattle.sqlite.specs.declared.error.Error.TheVariants.{ExecuteReturnedResults}
use Rattle.sqlite.specs.Steps.{IsEmpty}
use Rattle.sqlite_resolve.specs.declared.compiled.Compiled.{Compiled}
use Rattle.sqlite.specs.Clock.{timed}
use Rattle.std.proofs.Common.{take, IsTrue, OnErr, MatchBool, ap₂, get_or, eqb, ◌-◌, ◌≤◌, ◌≡◌, ◌⊎◌, inl, inr, ℕ, zero, suc, ◌+◌, ◌<◌, ℤ, pos, negsuc, List, [], ◌∷◌, ◌++◌, length, map, fold, codes, slice_get, flat_map, Bool, true, false, cond, Some, None, Ok, Err, Result, IfOk, OnOk, refl, sym, ap, subst, ◌∙◌, arith, int_cmp, nat_cmp, is_lt, Less}
use Rattle.std.proofs.lemmas.Int.{ints}
use Rattle.std.proofs.lemmas.Bool.Decides.{nat_tests}
use Rattle.std.specs.List.Sorted.{IsPermutation}
use Rattle.std.specs.Prelude.{◌+ℤ◌}
use Rattle.sqlite.specs.declared.types.Value.{Value}
use Rattle.sqlite.specs.declared.types.Value.TheVariants.{Null, Int, Text}
use Rattle.sqlite.specs.Order.{Row, value_cmp}
use Rattle.sqlite_value.proofs.OrderLemmas.{value_cmp-Int}
use Rattle.sqlite_value.specs.declared.keys.Collation.TheVariants.{Binary}
use Rattle.sqlite_value.specs.Keys.{ascending}
use Rattle.sqlite.specs.Term.{Term, lit, col}
use Rattle.sqlite.specs.Ops.{unary}
use Rattle.sqlite.specs.Query.{Query, inner, end, IsAnswer, output, page, Output}
use Rattle.sqlite.specs.Program.{overlay}
use Rattle.sqlite.specs.Table.{Table}
use Rattle.sqlite.specs.Schema.{Schema}
use Rattle.sqlite.specs.Kind.TheVariants.{Integer}
use Rattle.sqlite.specs.Source.TheVariants.{Values}
use Rattle.sqlite.specs.Command.TheVariants.{Insert, Select, CreateTable}
use Rattle.sqlite.specs.Compile.{table_defined_by}
use Rattle.sqlite.specs.Edit.{Edit, edit_of, edited, id_in}
use Rattle.sqlite.specs.Cast.{cast}
use Rattle.sqlite.specs.Rowids.TheVariants.{Chosen}
use Rattle.sqlite.specs.Change.{created, next_tree}
use Rattle.sqlite.specs.Does.{Tally, Does, lacks_sequence}
use Rattle.sqlite.specs.Rows.{Written}
use Rattle.sqlite.specs.Tree.{Trees, put_row, rowid}
use Rattle.sqlite_tied.specs.Compute.{everything}
use Rattle.sqlite.specs.declared.error.Error.{Error}
use Rattle.sqlite.specs.Listing.{understood, reads_listing}
use Rattle.sqlite.specs.Effect.{Database}
use Rattle.sqlite.specs.State.{State, mode_of, Writes, Executes, Shown}
use Rattle.sqlite.proofs.Callers.{IsPlain, command_of, statement_of, runs_as, reads_as, one_step}
use Rattle.world_keeper.specs.Lines.{Line}
use Rattle.world_keeper.specs.Tables.{change, change_schema, no_schema, shown, stored, stored_from, KeepsLines}

abbrev pub create_text : List ℕ
create_text = codes "CREATE TABLE change (id INTEGER PRIMARY KEY, kind TEXT NOT NULL, name TEXT NOT NULL, factory TEXT NOT NULL, text TEXT NOT NULL) STRICT"

abbrev pub insert_text : List ℕ
insert_text = codes "INSERT INTO change (kind, name, factory, text) VALUES (?1, ?2, ?3, ?4)"

abbrev pub select_text : List ℕ
select_text = codes "SELECT kind, name, factory, text FROM change ORDER BY id"

abbrev terms : List Term
terms = lit Null ∷ lit Null ∷ col 0 0 ∷ col 0 1 ∷ col 0 2 ∷ col 0 3 ∷ []

abbrev query : Query
query = record {
  from = inner 0 end;
  filter = [];
  group = None;
  project = col 1 2 ∷ col 1 3 ∷ col 1 4 ∷ col 1 5 ∷ [];
  distinct = false;
  collations = [];
  order = (col 1 0, ascending Binary) ∷ [];
  limit = lit (Int (negsuc 0));
  offset = lit (Int (pos 0));
}

create_is : (command_of (understood no_schema create_text) ≡ CreateTable) × (statement_of create_text (understood no_schema create_text) ≡ create_text) × (table_defined_by create_text ≡ Ok change)
unfolding understood everything
create_is = (refl, refl, refl)

insert_is : command_of (understood change_schema insert_text) ≡ Insert 0 (Values terms 6)
unfolding understood everything
insert_is = refl

select_is : (command_of (understood change_schema select_text) ≡ Select (record { lets = []; body = query }) (codes "kind" ∷ codes "name" ∷ codes "factory" ∷ codes "text" ∷ [])) × (reads_listing change_schema select_text ≡ false)
unfolding understood everything
select_is = (refl, refl)

create_plain : IsPlain (understood no_schema create_text)
unfolding understood everything
create_plain = (refl, refl)

insert_plain : IsPlain (understood change_schema insert_text)
unfolding understood everything
insert_plain = (refl, refl)

select_plain : IsPlain (understood change_schema select_text)
unfolding understood everything
select_plain = (refl, refl)

either : (b : Bool) (x : Value) → cond b x x ≡ x
either true x = refl
either false x = refl

cast_null : cast Integer Null ≡ Null
unfolding unary
cast_null = either _ Null

-- a part that gave a value did not stop on the way
went : {B E R : Type 0} {b : B} {Stops : E → Type 0} → ((stop : E) × Stops stop × (Ok b ≡ Err stop)) ⊎ R → R
went (inl stopped) = absurd (let e = stopped.2 in cc)
went (inr on) = on

same_value : {B E : Type 0} {a b : B} → ◌≡◌ {A = Result B E} (Ok a) (Ok b) → a ≡ b
same_value e = cc

lower : (m n : ℕ) → m < n → value_cmp (Int (pos m)) (Int (pos n)) ≡ Less
lower m n h = value_cmp-Int (pos m) (pos n) ∙ grind (arith, ints, nat_tests)

one_up : (n : ℕ) → pos n +ℤ pos 1 ≡ pos (suc n)
one_up n = ap pos (omega arith)

-- the rowid that is chosen is the next number
next_is : (n : ℕ) (lines : List Line) → fold (λ _ r. id_in (rowid r) +ℤ pos 1) (pos n) (stored_from n lines) ≡ pos (n + length lines)
next_is n [] = ap pos (omega arith)
next_is n (l ∷ ls) = ap (λ z. fold (λ _ r. id_in (rowid r) +ℤ pos 1) z (stored_from (suc n) ls)) (one_up n) ∙ next_is (suc n) ls ∙ ap pos (omega arith)

put_end : (n m : ℕ) (lines : List Line) (l : Line) → m ≡ n + length lines → put_row (stored m l) (stored_from n lines) ≡ stored_from n (lines ++ l ∷ [])
put_end n m [] l is = ap (λ k. stored k l ∷ []) (omega (arith, is))
put_end n m (x ∷ lines) l is = rw (lower n m (omega (arith, is)), put_end (suc n) m lines l (omega (arith, is)))

pub creates : (old new : State) (r : Result ℕ Error) → IsEmpty old → Executes create_text [] old new r → OnOk r (KeepsLines new [])
creates old new (Err e) empty h = tt
creates old new (Ok count) empty h =
    let has = empty.2 in
    let idle = empty.0.autocommit in
    let w = subst (λ t. Writes old new None CreateTable t [] count) create_is.1 (runs_as create_text [] old new no_schema has CreateTable create_is.0 create_plain count h) in
    let all = went w.changed in
    let first = went all.1 in
    let made = first.1 in
    let both : Ok made.table ≡ Ok change = sym made.defined ∙ create_is.2 in
    let same : made.table ≡ change = cc in
    let schema : first.0.schema ≡ change_schema = made.is ∙ ap (λ s. created s made.table) has ∙ ap (created no_schema) same in
    let plain : lacks_sequence first.0.schema ≡ false = ap lacks_sequence schema in
    let now : new.now ≡ first.0 = ap (λ (p : Tally × Database). p.1) (same_value all.2) ∙ same_value (rw plain at first.2) in
    record { schema = ap (λ (d : Database). d.schema) now ∙ schema; rows = ap (λ (d : Database). d.trees 0) now ∙ subst (λ s. first.0.trees (next_tree s) ≡ []) has made.empty; settled = w.shown.committed_is ∙ ap (λ b. cond b old.committed new.now) idle; idle = w.shown.mode ∙ idle; is_open = w.shown.is_open }

pub puts : (old new : State) (l : Line) (lines : List Line) (r : Result ℕ Error) → KeepsLines old lines → Executes insert_text (shown l) old new r → OnOk r (KeepsLines new (lines ++ l ∷ []))
puts old new l lines (Err e) has h = tt
puts old new l lines (Ok count) has h =
    let params = shown l in
    let db = old.now.trees in
    let command = Insert 0 (Values terms 6) in
    let w = runs_as insert_text params old new change_schema has.schema command insert_is insert_plain count h in
    let text = statement_of insert_text (understood change_schema insert_text) in
    let done = went (subst (λ s. Does old.step_limit (mode_of old) params (record old.now { schema = s }) text None command (Ok (w.tally, new.now))) has.schema w.changed) in
    let now = ap (λ (p : Tally × Database). p.1) (same_value (went (went done.2).2).2) in
    let given = went done.1 in
    let written = went (went given.2).2 in
    let counted = went written.2 in
    let trees : done.0.trees ≡ written.0 = ap (λ (it : Written). it.trees) (same_value counted.2) ∙ same_value counted.1 in
    let rows = (one_step change_schema _ db written.0 (edit_of db change [] Chosen 0 given.0) refl written.1).rows in
    let last : put_row (stored (1 + length lines) l) (stored_from 1 lines) ≡ stored_from 1 (lines ++ l ∷ []) = put_end 1 (1 + length lines) lines l refl in
    let edit : edited db (edit_of db change [] Chosen 0 given.0) ≡ stored_from 1 (lines ++ l ∷ []) =
    ap (λ all. edited db (edit_of db change [] Chosen 0 all)) given.1.1 ∙ rw (has.rows, cast_null, next_is 1 lines) last in
    record { schema = ap (λ (d : Database). d.schema) now; rows = ap (λ (d : Database). d.trees 0) now ∙ ap (λ (t : Trees). t 0) trees ∙ rows ∙ edit; settled = w.shown.committed_is ∙ ap (λ b. cond b old.committed new.now) has.idle; idle = w.shown.mode ∙ has.idle; is_open = w.shown.is_open }

-- ---- reading

abbrev nobody : Line
nobody = record { kind = []; name = []; factory = []; text = [] }

-- what the row with the number k shows, of rows that are numbered from n on
abbrev out : ℕ → List Line → ℕ → Output
out n lines k = (Int (pos k) ∷ [], shown (get_or lines (k - n) nobody))

abbrev num_in : Value → ℕ
num_in (Int (pos k)) = k
num_in _ = 0

abbrev num : Output → ℕ
num o = num_in (column o.0 0)

abbrev outs : ℕ → List Line → List Output
outs n [] = []
outs n (l ∷ ls) = (Int (pos n) ∷ [], shown l) ∷ outs (suc n) ls

map_from : {X Y : Type 0} (f h : ℕ → Y) (a : ℕ) (xs : List X) → ((k : ℕ) → a ≤ k → f k ≡ h k) → map f (from a xs) ≡ map h (from a xs)
map_from f h a [] same = refl
map_from f h a (x ∷ xs) same = ap₂ (λ y ys. y ∷ ys) (same a (omega arith)) (map_from f h (suc a) xs (λ k low. same k (omega (arith, low))))

later : (n k : ℕ) (l : Line) (ls : List Line) → suc n ≤ k → out n (l ∷ ls) k ≡ out (suc n) ls k
later n k l ls low = ap (λ i. (Int (pos k) ∷ [], shown (get_or (l ∷ ls) i nobody))) {x = k - n} {y = suc (k - suc n)} (omega (arith, low))

outs_are : (n : ℕ) (lines : List Line) → outs n lines ≡ map (out n lines) (from n lines)
outs_are n [] = refl
outs_are n (l ∷ ls) =
    ap₂ (λ (o : Output) (os : List Output). o ∷ os) (ap (λ i. (Int (pos n) ∷ [], shown (get_or (l ∷ ls) i nobody))) {x = 0} {y = n - n} (omega arith))
    (outs_are (suc n) ls ∙ sym (map_from (out n (l ∷ ls)) (out (suc n) ls) (suc n) ls (λ k low. later n k l ls low)))

nums_are : (n : ℕ) (lines : List Line) → map num (outs n lines) ≡ from n lines
nums_are n [] = refl
nums_are n (l ∷ ls) = ap (λ ks. n ∷ ks) (nums_are (suc n) ls)

all_out : (n : ℕ) (lines : List Line) (ks : List ℕ) → All (λ o. o ≡ out n lines (num o)) (map (out n lines) ks)
all_out n lines [] = λ i d low. absurd (omega (arith, low))
all_out n lines (k ∷ ks) = All-cons (λ o. o ≡ out n lines (num o)) (out n lines k) (map (out n lines) ks) refl (all_out n lines ks)

rebuilt : (g : ℕ → Output) (xs : List Output) → All (λ o. o ≡ g (num o)) xs → xs ≡ map g (map num xs)
rebuilt g [] all = refl
rebuilt g (x ∷ xs) all = ap₂ (λ (o : Output) (os : List Output). o ∷ os) (all 0 x (omega arith)) (rebuilt g xs (All-tail (λ o. o ≡ g (num o)) x xs all))

get_num : (xs : List Output) (i : ℕ) → get_or (map num xs) i 0 ≡ num (get_or xs i ([], []))
get_num [] i = refl
get_num (x ∷ xs) zero = refl
get_num (x ∷ xs) (suc i) = get_num xs i

-- rows in the order of their numbers, when each is what its number says
in_place : (lines : List Line) (ordered : List Output) → IsPermutation (outs 1 lines) ordered
    → ((k : ℕ) (d : Output) → k + 1 < length ordered → is_lt (output_cmp query (get_or ordered (k + 1) d) (get_or ordered k d)) ≡ false)
    → ordered ≡ outs 1 lines
in_place lines ordered moved up =
    let g = out 1 lines in
    let P : Output → Type 0 = λ o. o ≡ g (num o) in
    let all : All P ordered = All-permutation P (outs 1 lines) ordered moved (subst (All P) (sym (outs_are 1 lines)) (all_out 1 lines (from 1 lines))) in
    let step : (k : ℕ) (d : Output) → k + 1 < length ordered → num (get_or ordered k d) ≤ num (get_or ordered (k + 1) d) = λ k d within.
    let x = get_or ordered k d in
    let y = get_or ordered (k + 1) d in
    let not_below : ¬ (num y < num x) = λ low.
    let a : is_lt (output_cmp query (g (num y)) (g (num x))) ≡ false = subst (λ (o : Output). is_lt (output_cmp query o (g (num x))) ≡ false) (all (k + 1) d within)
    (subst (λ (o : Output). is_lt (output_cmp query y o) ≡ false) (all k d (omega (arith, within))) (up k d within)) in
    absurd (let e = rw (lower (num y) (num x) low) at a in cc) in
    omega (arith, not_below) in
    let rising = IsNonDecreasingBy-from_all_adjacent num ordered step in
    let ids : map num ordered ≡ from 1 lines = in_order 1 lines (map num ordered)
    (subst (λ ks. IsPermutation ks (map num ordered)) (nums_are 1 lines) (IsPermutation-map num (outs 1 lines) ordered moved))
    (λ i j low within. subst (λ (p : ℕ × ℕ). p.0 ≤ p.1) (λ t. (sym (get_num ordered i) t, sym (get_num ordered j) t)) (rising i j ([], []) low (omega (arith, within, length_map ordered)))) in
    rebuilt g ordered all ∙ ap (map g) ids ∙ sym (outs_are 1 lines)
  where
    length_map : (xs : List Output) → length (map num xs) ≡ length xs
    length_map [] = refl
    length_map (x ∷ xs) = ap suc (length_map xs)

rows_shown : (n : ℕ) (lines : List Line) → map (λ (o : Output). o.1) (outs n lines) ≡ map shown lines
rows_shown n [] = refl
rows_shown n (l ∷ ls) = ap (λ rs. shown l ∷ rs) (rows_shown (suc n) ls)

output_all : (n : ℕ) (lines : List Line) → map (output query) (flat_map (λ r. ([] ∷ r ∷ []) ∷ []) (stored_from n lines)) ≡ outs n lines
output_all n [] = refl
output_all n (l ∷ ls) = ap (λ os. (Int (pos n) ∷ [], shown l) ∷ os) (output_all (suc n) ls)

pub shows_same : (sql : List ℕ) (params : Row) (old new : State) (rows : List Row) → IsPlain (understood old.now.schema sql) → Shown sql params old new rows → IsUnchanged old new
unfolding Shown
shows_same sql params old new rows plain h =
    let none = (subst IsPlain h.1.is plain).0 in
    let full = timed params h.0.formats h.1.now in
    let it = subst (ShowsRows old new sql h.0 full rows) none h.2 in
    it.3

unchanged : (old new : State) (lines : List Line) → KeepsLines old lines → IsUnchanged old new → KeepsLines new lines
unchanged old new lines has same = record {
  schema = ap (λ (d : Database). d.schema) same.0.now_is ∙ has.schema;
  rows = ap (λ (d : Database). d.trees 0) same.0.now_is ∙ has.rows;
  settled = same.0.committed_is ∙ has.settled ∙ sym same.0.now_is;
  idle = same.0.mode ∙ has.idle;
  is_open = same.0.is_open;
}

undone : (old new : State) (lines : List Line) → KeepsLines old lines → IsTrue new.is_open → IsRolledBack old new → KeepsLines new lines
undone old new lines has live back =
    let u = back.undone live in
    let now : new.now ≡ old.now = u.0 ∙ has.settled in
    record {
      schema = ap (λ (d : Database). d.schema) now ∙ has.schema;
      rows = ap (λ (d : Database). d.trees 0) now ∙ has.rows;
      settled = u.1 ∙ sym u.0;
      idle = back.autocommit;
      is_open = live;
    }

-- memory has no faults, so nothing shuts the connection
pub stays_open : (old new : State) (lines : List Line) {P : Trees → Type 0} → KeepsLines old lines → HasCleanDisk new → (old.faults ≡ 0) × (new.faults ≡ 0) → Survives old new P → IsTrue new.is_open
stays_open old new lines has clean none survives = elim (survives.closes clean has.is_open) [
  | inl live ↦ live
  | inr more ↦ absurd (let h = rw (none.0, none.1) at more in omega (arith, h))
]

by_kind : (sql : List ℕ) (full : Row) (old new : State) (lines : List Line) (e : Error) (c : Compiled) → KeepsLines old lines → IsTrue new.is_open → (b : Bool)
    → MatchBool b ((◌≡◌ {A = Result ℕ Error} (Err e) (Err ExecuteReturnedResults)) × IsUnchanged old new) (RunsCommand old new sql c full (Err e)) → KeepsLines new lines
by_kind sql full old new lines e c has live true alone = unchanged old new lines has alone.1
by_kind sql full old new lines e c has live false (inl kept) = unchanged old new lines has kept.1
by_kind sql full old new lines e c has live false (inr fails) = undone old new lines has live fails.3

pub refused : (sql : List ℕ) (params : Row) (old new : State) (lines : List Line) (r : Result ℕ Error) → KeepsLines old lines → IsTrue new.is_open → Executes sql params old new r → OnErr r (KeepsLines new lines)
unfolding ExecutesIn IsNotRun
refused sql params old new lines (Ok count) has live h = tt
refused sql params old new lines (Err e) has live (inl (inl none)) = unchanged old new lines has none.1
refused sql params old new lines (Err e) has live (inl (inr fails)) = undone old new lines has live fails.3
refused sql params old new lines (Err e) has live (inr ran) = by_kind sql (timed params ran.0.formats ran.1.now) old new lines e ran.0 has live (shows_rows false ran.0) ran.2

pub unread : (sql : List ℕ) (params : Row) (old new : State) (lines : List Line) (e : Error) → IsPlain (understood old.now.schema sql) → KeepsLines old lines → IsTrue new.is_open → FailsToQuery sql params old new e → KeepsLines new lines
unfolding FailsToQuery IsNotRun
unread sql params old new lines e plain has live (inl (inl none)) = unchanged old new lines has none.1
unread sql params old new lines e plain has live (inl (inr fails)) = undone old new lines has live fails.3
unread sql params old new lines e plain has live (inr ran) =
    let none = (subst IsPlain ran.1.is plain).0 in
    let it = subst (FailsToShow old new sql ran.0 (timed params ran.0.formats ran.1.now) e) none ran.2 in
    unchanged old new lines has it.3

pub select_plain_in : (s : State) (lines : List Line) → KeepsLines s lines → IsPlain (understood s.now.schema select_text)
select_plain_in s lines has = subst (λ s. IsPlain (understood s select_text)) (sym has.schema) select_plain

pub reads_keep : (old new : State) (lines : List Line) (rows : List Row) → KeepsLines old lines → Shown select_text [] old new rows → KeepsLines new lines
reads_keep old new lines rows has h = unchanged old new lines has (shows_same select_text [] old new rows (select_plain_in old lines has) h)

pub reads : (old new : State) (lines : List Line) (rows : List Row) → KeepsLines old lines → Shown select_text [] old new rows → rows ≡ map shown lines
reads old new lines rows has h =
    let got = (reads_as select_text [] old new change_schema has.schema _ select_is.0 select_plain select_is.1 rows h).answer in
    let a : IsAnswer query (overlay old.now.trees []) [] rows = got Null in
    let kept : a.kept ≡ outs 1 lines = a.distinct ∙ ap (map (output query)) (a.grouped ∙ rw has.rows) ∙ output_all 1 lines in
    let ordered : a.ordered ≡ outs 1 lines = in_place lines a.ordered (subst (λ k. IsPermutation k a.ordered) kept a.same) (λ k d within. a.sorted k d (omega arith) within) in
    a.shown ∙ ap (λ xs. page query [] (map (λ (p : Output). p.1) xs)) ordered ∙ rows_shown 1 lines
