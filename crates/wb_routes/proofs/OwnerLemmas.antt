-- The owner of a pattern in a table is the best servlet that has it.
use Rattle.std.proofs.Common.{◌≡◌, ℕ, List, [], ◌∷◌, ◌++◌, ap, sym, ◌∙◌, refl, cond, Bool, true, false, ◌||◌, Option, Some, None}
use Rattle.std.specs.Prelude.{◌&&◌, filter, find, flat_map, map, not, option_map}
use Rattle.std.specs.Option.{option_or}
use Rattle.std.specs.List.Sorted.{ties}
use Rattle.std.specs.Cmp.Lexicographic.{slice_cmp}
use Rattle.std.specs.Ordering.{is_eq, is_lt, nat_cmp, ordering_reverse}
use Rattle.std.specs.Str.{bytes_eq}
use Rattle.std.specs.declared.cmp.Ordering.{Ordering}
use Rattle.std.specs.declared.cmp.Ordering.TheVariants.{Less, Equal, Greater}
use Rattle.std.proofs.lemmas.Cmp.{nat_list_cmp_total}
use Rattle.std.proofs.lemmas.Map.Text.{is_eq-slice_cmp}
use Rattle.std.proofs.lemmas.Slice.Eq.{bytes_eq-Decides}
use Rattle.prop_map.specs.Words.{first_some}
use Rattle.text_index.specs.Texts.{has_text}
use Rattle.wb_context.proofs.StableOrder.{ordered_ties}
use Rattle.wb_context.specs.Firsts.{first_of_each, firsts_behind}
use Rattle.wb_context.specs.declared.context.Context.{Context}
use Rattle.wb_routes.proofs.TableLemmas.{patterns_rank}
use Rattle.wb_routes.specs.Choices.{choice_among, choice_in, has_pattern, owner_among, owner_in, taker_in}
use Rattle.wb_routes.specs.Listing.{by_pattern, row_of, rows_in, rows_of, table_of}
use Rattle.wb_routes.specs.Servlets.{selects}
use Rattle.wb_routes.specs.Tables.{has_less_pattern}
use Rattle.wb_routes.specs.declared.route_row.RouteRow.{RouteRow}
use Rattle.wb_routes.specs.declared.servlet.Servlet.{Servlet}
use Rattle.wb_routes.specs.declared.table.Table.{Table}

clash : {A : Type 0} (b : Bool) → b ≡ false → b ≡ true → A
clash b e f = cc

module _ {X : Type 0} where
  abbrev first : List X → Option X
  first [] = None
  first (x ∷ xs) = Some x

  first_kept : (p : X → Bool) (xs : List X) → find p xs ≡ first (filter p xs)
  first_kept p [] = refl
  first_kept p (x ∷ xs) = by (p x) (first_kept p xs) where
    by : (b : Bool) → find p xs ≡ first (filter p xs) → cond b (Some x) (find p xs) ≡ first (cond b (x ∷ filter p xs) (filter p xs))
    by true further = refl
    by false further = further

  same_kept : (p q : X → Bool) → ((x : X) → p x ≡ q x) → (xs : List X) → filter p xs ≡ filter q xs
  same_kept p q same [] = refl
  same_kept p q same (x ∷ xs) = ap (λ b. cond b (x ∷ filter p xs) (filter p xs)) (same x) ∙ ap (λ l. cond (q x) (x ∷ l) l) (same_kept p q same xs)

  pub found_in_two : (p : X → Bool) (xs ys : List X) → find p (xs ++ ys) ≡ option_or (find p xs) (find p ys)
  found_in_two p [] ys = refl
  found_in_two p (x ∷ xs) ys = by (p x) (found_in_two p xs ys) where
    by : (b : Bool) → find p (xs ++ ys) ≡ option_or (find p xs) (find p ys) → cond b (Some x) (find p (xs ++ ys)) ≡ option_or (cond b (Some x) (find p xs)) (find p ys)
    by true further = refl
    by false further = further

  -- the first of each text is found where the first item with it is
  found_behind : (text_of : X → List ℕ) (text : List ℕ) (before : List (List ℕ)) (xs : List X) → has_text before text ≡ false
      → find (λ x. bytes_eq (text_of x) text) (firsts_behind text_of before xs) ≡ find (λ x. bytes_eq (text_of x) text) xs
  found_behind text_of text before [] new = refl
  found_behind text_of text before (x ∷ xs) new =
      by (has_text before (text_of x)) (bytes_eq (text_of x) text) refl refl (λ known. found_behind text_of text known xs) where
        at : (b : Bool) → has_text before (text_of x) ≡ b → firsts_behind text_of before (x ∷ xs) ≡ cond b (firsts_behind text_of before xs) (x ∷ firsts_behind text_of (text_of x ∷ before) xs)
        at b e = ap (λ c. cond c (firsts_behind text_of before xs) (x ∷ firsts_behind text_of (text_of x ∷ before) xs)) e

        found : (b : Bool) (ys : List X) → bytes_eq (text_of x) text ≡ b → find (λ x. bytes_eq (text_of x) text) (x ∷ ys) ≡ cond b (Some x) (find (λ x. bytes_eq (text_of x) text) ys)
        found b ys e = ap (λ c. cond c (Some x) (find (λ x. bytes_eq (text_of x) text) ys)) e

        by : (b c : Bool) → has_text before (text_of x) ≡ b → bytes_eq (text_of x) text ≡ c
            → ((known : List (List ℕ)) → has_text known text ≡ false → find (λ x. bytes_eq (text_of x) text) (firsts_behind text_of known xs) ≡ find (λ x. bytes_eq (text_of x) text) xs)
            → find (λ x. bytes_eq (text_of x) text) (firsts_behind text_of before (x ∷ xs)) ≡ find (λ x. bytes_eq (text_of x) text) (x ∷ xs)
        by true true e f further =
            let same : text_of x ≡ text = (bytes_eq-Decides (text_of x) text).0 f in
            clash (has_text before text) new (ap (has_text before) (sym same) ∙ e)
        by true false e f further = ap (find (λ x. bytes_eq (text_of x) text)) (at true e) ∙ further before new ∙ sym (found false xs f)
        by false true e f further = ap (find (λ x. bytes_eq (text_of x) text)) (at false e) ∙ found true (firsts_behind text_of (text_of x ∷ before) xs) f ∙ sym (found true xs f)
        by false false e f further =
            ap (find (λ x. bytes_eq (text_of x) text)) (at false e) ∙ found false (firsts_behind text_of (text_of x ∷ before) xs) f
            ∙ further (text_of x ∷ before) (ap (λ c. c || has_text before text) f ∙ new) ∙ sym (found false xs f)

-- ---- in a table

abbrev has : List ℕ → RouteRow → Bool
has text r = bytes_eq r.pattern text

ties_equal : (text : List ℕ) (r : RouteRow) → has text r ≡ ties has_less_pattern (record { path = []; pattern = text; service = 0 }) r
ties_equal text r = by (slice_cmp nat_cmp r.pattern text) refl where
  turned : (o : Ordering) → slice_cmp nat_cmp r.pattern text ≡ o → slice_cmp nat_cmp text r.pattern ≡ ordering_reverse o
  turned o e = nat_list_cmp_total.antisymm text r.pattern ∙ ap ordering_reverse e

  by : (o : Ordering) → slice_cmp nat_cmp r.pattern text ≡ o → has text r ≡ (not (is_lt (slice_cmp nat_cmp text r.pattern)) && not (is_lt (slice_cmp nat_cmp r.pattern text)))
  by o e = sym (is_eq-slice_cmp r.pattern text) ∙ ap is_eq e ∙ tests o ∙ sym ((λ i. not (is_lt (turned o e i)) && not (is_lt (e i)))) where
    tests : (o : Ordering) → is_eq o ≡ (not (is_lt (ordering_reverse o)) && not (is_lt o))
    tests Less = refl
    tests Equal = refl
    tests Greater = refl

-- the order changes nothing, since rows of one pattern stay as they came
found_in_order : (text : List ℕ) (rows : List RouteRow) → find (has text) (by_pattern rows) ≡ find (has text) rows
found_in_order text rows =
    let w : RouteRow = record { path = []; pattern = text; service = 0 } in
    first_kept (has text) (by_pattern rows) ∙ ap first (same_kept (has text) (ties has_less_pattern w) (ties_equal text) (by_pattern rows) ∙ ordered_ties has_less_pattern patterns_rank w rows ∙ sym (same_kept (has text) (ties has_less_pattern w) (ties_equal text) rows))
    ∙ sym (first_kept (has text) rows)

abbrev service_of : Option RouteRow → Option ℕ
service_of o = option_map (λ (r : RouteRow). r.service) o

abbrev servlet_service : Option Servlet → Option ℕ
servlet_service o = option_map (λ (s : Servlet). s.service) o

or_mapped : {X Y : Type 0} (f : X → Y) (a b : Option X) → option_map f (option_or a b) ≡ option_or (option_map f a) (option_map f b)
or_mapped f (Some x) b = refl
or_mapped f None b = refl

-- among a servlet's patterns
found_of_servlet : (c : Context) (s : Servlet) (text : List ℕ) (texts : List (List ℕ)) → service_of (find (has text) (map (row_of c s) texts)) ≡ cond (has_text texts text) (Some s.service) None
found_of_servlet c s text [] = refl
found_of_servlet c s text (t ∷ texts) = by (bytes_eq t text) (found_of_servlet c s text texts) where
  by : (b : Bool) → service_of (find (has text) (map (row_of c s) texts)) ≡ cond (has_text texts text) (Some s.service) None
      → service_of (cond b (Some (row_of c s t)) (find (has text) (map (row_of c s) texts))) ≡ cond (b || has_text texts text) (Some s.service) None
  by true further = refl
  by false further = further

found_among : (c : Context) (text : List ℕ) (servlets : List Servlet) → service_of (find (has text) (flat_map (rows_of c) servlets)) ≡ owner_among servlets c text
found_among c text [] = refl
found_among c text (s ∷ servlets) =
    ap service_of (found_in_two (has text) (rows_of c s) (flat_map (rows_of c) servlets)) ∙ or_mapped (λ (r : RouteRow). r.service) (find (has text) (rows_of c s)) (find (has text) (flat_map (rows_of c) servlets))
    ∙ (λ i. option_or (own i) (found_among c text servlets i)) ∙ joined (has_pattern c text s) where
      own_by : (b : Bool) → service_of (find (has text) (cond b (map (row_of c s) s.patterns) [])) ≡ cond (b && has_text s.patterns text) (Some s.service) None
      own_by true = found_of_servlet c s text s.patterns
      own_by false = refl

      own : service_of (find (has text) (rows_of c s)) ≡ cond (has_pattern c text s) (Some s.service) None
      own = own_by (selects s.select c)

      joined : (b : Bool) → option_or (cond b (Some s.service) None) (servlet_service (find (has_pattern c text) servlets)) ≡ servlet_service (cond b (Some s) (find (has_pattern c text) servlets))
      joined true = refl
      joined false = refl

-- in the table of a context a pattern has the owner that it has there
pub same_owner : (servlets : List Servlet) (c : Context) (text : List ℕ) → owner_in (rows_in servlets c) text ≡ owner_among servlets c text
same_owner servlets c text =
    ap service_of (found_in_order text (first_of_each (λ (r : RouteRow). r.pattern) (flat_map (rows_of c) servlets)) ∙ found_behind (λ (r : RouteRow). r.pattern) text [] (flat_map (rows_of c) servlets) refl)
    ∙ found_among c text servlets

-- and a path has the taker that it has there
pub same_taker : (servlets : List Servlet) (c : Context) (path : List ℕ) → taker_in c (owner_in (rows_in servlets c)) path ≡ taker_in c (owner_among servlets c) path
same_taker servlets c path =
    let same : owner_in (rows_in servlets c) ≡ owner_among servlets c = λ i text. same_owner servlets c text i in
    ap (λ (owner : List ℕ → Option ℕ). taker_in c owner path) same

-- the choice in the tables is the choice among contexts and servlets
pub same_choice : (servlets : List Servlet) (contexts : List Context) (path : List ℕ) → choice_in (map (table_of servlets) contexts) path ≡ choice_among contexts servlets path
same_choice servlets [] path = refl
same_choice servlets (c ∷ contexts) path =
    ap (λ o. first_some (o ∷ map (λ (t : Table). taker_in t.context (owner_in t.rows) path) (map (table_of servlets) contexts))) (same_taker servlets c path) ∙ by (taker_in c (owner_among servlets c) path) (same_choice servlets contexts path) where
      by : (o : Option ℕ) → choice_in (map (table_of servlets) contexts) path ≡ choice_among contexts servlets path → first_some (o ∷ map (λ (t : Table). taker_in t.context (owner_in t.rows) path) (map (table_of servlets) contexts)) ≡ first_some (o ∷ map (λ d. taker_in d (owner_among servlets d) path) contexts)
      by (Some x) further = refl
      by None further = further
