-- Which contexts count, and their order (OSGi Compendium 8, section 140.2: of one name the best service counts, and a request is looked up in
-- the longest path first. That the built-in context is worse than all others is our own).
use Rattle.std.specs.Prelude.{ℕ, ◌||◌, List, [], ◌∷◌, ◌++◌, Bool, not, codes, drop, length, filter, nat_lt, if◌then◌else◌}
use Rattle.std.specs.Str.{bytes_eq}
use Rattle.prop_map.specs.Words.{in_order}
use Rattle.service_registry.specs.Services.{ranks_before}
use Rattle.wb_pattern.specs.Places.{is_at_or_below}
use Rattle.wb_context.specs.declared.context.Context.{Context}
use Rattle.wb_context.specs.Contexts.{default_context}
use Rattle.wb_context.specs.Firsts.{first_of_each}

-- one context's service is better than another's
abbrev pub is_better : Context → Context → Bool
is_better a b = ranks_before a.ranking a.service b.ranking b.service

abbrev pub has_longer_path : Context → Context → Bool
has_longer_path a b = nat_lt (length b.path) (length a.path)

-- the best first; two that no test tells apart stay as they came
abbrev pub best_first : List Context → List Context
best_first cs = in_order (λ (a b : Context). not (is_better b a)) cs

abbrev pub longest_first : List Context → List Context
longest_first cs = in_order (λ (a b : Context). not (has_longer_path b a)) cs

-- the contexts that count, best first: of each name the best, the built-in one being the worst
abbrev pub counting : List Context → List Context
counting cs = first_of_each (λ (c : Context). c.name) (best_first cs ++ default_context ∷ [])

-- the same, the longest path first, then the better service
abbrev pub contexts_in_order : List Context → List Context
contexts_in_order cs = longest_first (counting cs)

-- a request's path lies in a context
abbrev pub covers : List ℕ → List ℕ → Bool
covers context_path path = bytes_eq context_path (codes "/") || is_at_or_below context_path path

-- those in which a request's path is looked up
abbrev pub contexts_for : List ℕ → List Context → List Context
contexts_for path cs = filter (λ (c : Context). covers c.path path) (contexts_in_order cs)

abbrev pub or_root : List ℕ → List ℕ
or_root [] = codes "/"
or_root (b ∷ bs) = b ∷ bs

-- what is left of a request's path in a context
abbrev pub rest_in : List ℕ → List ℕ → List ℕ
rest_in context_path path = if bytes_eq context_path (codes "/") then or_root path else or_root (drop (length context_path) path)
