-- What was kept of services answers as they do.
use Rattle.std.proofs.Common.{◌≡◌, ◌∙◌, ℕ, List, [], ◌∷◌, ◌++◌, Bool, true, false, cond, ap, refl, filter, map, Option, Some, None}
use Rattle.std.specs.Prelude.{◌&&◌, ◌||◌}
use Rattle.std.specs.List.{list_any}
use Rattle.std.specs.Option.{option_map_or}
use Rattle.event_admin.specs.Events.{EventView}
use Rattle.event_admin.specs.Patterns.{Form, AllTopics, OneTopic, AllUnder, covers, pattern_of}
use Rattle.ldap_filter.specs.Texts.{filter_of}
use Rattle.ldap_filter.specs.Trees.{Tree}
use Rattle.ldap_filter.specs.Matching.{matches}
use Rattle.prop_map.specs.declared.properties.Property.{Property}
use Rattle.prop_map.specs.declared.value.Value.{Value}
use Rattle.prop_map.specs.declared.value.Value.TheVariants.{Text, Whole, Flag, Texts, Wholes, Flags}
use Rattle.prop_map.specs.Maps.{get}
use Rattle.service_registry.specs.declared.best_first.Ranked.{Ranked}
use Rattle.service_registry.specs.declared.row.ServiceRow.{ServiceRow}
use Rattle.service_registry.specs.Services.{ranked, ranked_before}
use Rattle.service_registry.proofs.RankOrder.{numbers_ranked}
use Rattle.prop_map.specs.Words.{in_order}
use Rattle.event_handlers.specs.declared.admission.Admission.TheVariants.{Matching, Nothing}
use Rattle.event_handlers.specs.declared.handler.Handler.{Handler}
use Rattle.event_handlers.specs.declared.kept_pattern.KeptPattern.{KeptPattern}
use Rattle.event_handlers.specs.Handling.{filter_key, handlers_of, handles, text_covers, told_of, topics_key, value_covers, value_lets_in}
use Rattle.event_handlers.specs.Kept.{admission_by, admits, form_kept, handler_of, kept_covers, kept_of, one_kept, pattern_if, patterns_in, patterns_of, ranks_of, takes}

form_of_kept : (form : Form) → form_kept (kept_of form) ≡ form
form_of_kept AllTopics = refl
form_of_kept (OneTopic topic) = refl
form_of_kept (AllUnder front) = refl

or_false : (b : Bool) → (b || false) ≡ b
or_false true = refl
or_false false = refl

one_covers : (topic : List ℕ) (form : Option Form) → kept_covers topic (one_kept form) ≡ option_map_or (λ f. covers f topic) form false
one_covers topic None = refl
one_covers topic (Some form) = or_false (covers (form_kept (kept_of form)) topic) ∙ ap (λ f. covers f topic) (form_of_kept form)

any_both_by : (b c d : Bool) → (b || (c || d)) ≡ ((b || c) || d)
any_both_by true c d = refl
any_both_by false c d = refl

any_both : (topic : List ℕ) (xs ys : List KeptPattern) → kept_covers topic (xs ++ ys) ≡ (kept_covers topic xs || kept_covers topic ys)
any_both topic [] ys = refl
any_both topic (x ∷ xs) ys =
    ap (λ b. covers (form_kept x) topic || b) (any_both topic xs ys) ∙ any_both_by (covers (form_kept x) topic) (kept_covers topic xs) (kept_covers topic ys)

texts_cover : (topic : List ℕ) (texts : List (List ℕ)) → kept_covers topic (patterns_of texts) ≡ list_any (text_covers topic) texts
texts_cover topic [] = refl
texts_cover topic (t ∷ ts) =
    any_both topic (pattern_if t) (patterns_of ts) ∙ ap (λ b. b || kept_covers topic (patterns_of ts)) (one_covers topic (pattern_of t))
    ∙ ap (λ b. text_covers topic t || b) (texts_cover topic ts)

covered : (topic : List ℕ) (value : Option Value) → kept_covers topic (patterns_in value) ≡ value_covers topic value
covered topic None = refl
covered topic (Some (Text text)) = one_covers topic (pattern_of text)
covered topic (Some (Texts texts)) = texts_cover topic texts
covered topic (Some (Whole n)) = refl
covered topic (Some (Flag f)) = refl
covered topic (Some (Wholes ns)) = refl
covered topic (Some (Flags fs)) = refl

text_admits : (told : List Property) (read : Option Tree) → admits told (option_map_or Matching read Nothing) ≡ option_map_or (λ tree. matches tree told) read false
text_admits told None = refl
text_admits told (Some tree) = refl

admitted : (told : List Property) (value : Option Value) → admits told (admission_by value) ≡ value_lets_in told value
admitted told None = refl
admitted told (Some (Text text)) = text_admits told (filter_of text)
admitted told (Some (Texts texts)) = refl
admitted told (Some (Whole n)) = refl
admitted told (Some (Flag f)) = refl
admitted told (Some (Wholes ns)) = refl
admitted told (Some (Flags fs)) = refl

-- a kept handler takes what its service handles
taken : (event : EventView) (r : ServiceRow) → takes event.topic (told_of event) (handler_of r) ≡ handles event r
taken event r =
    ap (λ b. b && admits (told_of event) (admission_by (get r.properties filter_key))) (covered event.topic (get r.properties topics_key))
    ∙ ap (λ b. value_covers event.topic (get r.properties topics_key) && b) (admitted (told_of event) (get r.properties filter_key))

ranks_at : (event : EventView) (r : ServiceRow) (rows : List ServiceRow) (b : Bool)
    → ranks_of event.topic (told_of event) (map handler_of rows) ≡ map ranked (filter (handles event) rows)
    → map (λ (h : Handler). h.rank) (cond b (handler_of r ∷ filter (takes event.topic (told_of event)) (map handler_of rows)) (filter (takes event.topic (told_of event)) (map handler_of rows)))
    ≡ map ranked (cond b (r ∷ filter (handles event) rows) (filter (handles event) rows))
ranks_at event r rows true ih = ap (λ l. ranked r ∷ l) ih
ranks_at event r rows false ih = ih

ranks : (event : EventView) (rows : List ServiceRow) → ranks_of event.topic (told_of event) (map handler_of rows) ≡ map ranked (filter (handles event) rows)
ranks event [] = refl
ranks event (r ∷ rows) =
    let rest = filter (takes event.topic (told_of event)) (map handler_of rows) in
    ap (λ b. map (λ (h : Handler). h.rank) (cond b (handler_of r ∷ rest) rest)) (taken event r) ∙ ranks_at event r rows (handles event r) (ranks event rows)

-- the numbers of kept handlers that take an event are those of the services that handle it
pub answered : (event : EventView) (rows : List ServiceRow) → map (λ (r : Ranked). r.id) (in_order ranked_before (ranks_of event.topic (told_of event) (map handler_of rows))) ≡ handlers_of rows event
answered event rows = ap (λ l. map (λ (r : Ranked). r.id) (in_order ranked_before l)) (ranks event rows) ∙ numbers_ranked (filter (handles event) rows)

-- the same, from what each step of an answer gave
pub told_numbers : (event : EventView) (rows : List ServiceRow) (topic : List ℕ) (told : List Property) (handlers : List Handler) (ranked_ones : List Ranked) (numbers : List ℕ)
    → numbers ≡ map (λ (r : Ranked). r.id) (in_order ranked_before ranked_ones) → ranked_ones ≡ ranks_of topic told handlers → topic ≡ event.topic → told ≡ told_of event → handlers ≡ map handler_of rows
    → numbers ≡ handlers_of rows event
told_numbers event rows topic told handlers ranked_ones numbers n r t p h =
    n ∙ ap (λ l. map (λ (r : Ranked). r.id) (in_order ranked_before l)) (r ∙ (λ i. ranks_of (t i) (p i) (h i))) ∙ answered event rows
