-- The lines of routes. Our own form.
use Rattle.std.specs.Prelude.{ℕ, List, [], ◌∷◌, ◌++◌, codes}
use Rattle.std.specs.Fmt.{decimal}
use Rattle.shell_lang.specs.declared.route_line.RouteLine.{RouteLine}
use Rattle.shell_lang.specs.declared.route_line.RouteLine.TheVariants.{Route, Failed}
use Rattle.wb_routes.specs.declared.route_failure.RouteCause.{RouteCause}
use Rattle.wb_routes.specs.declared.route_failure.RouteCause.TheVariants.{NoContext, Shadowed, BadPattern, BadContext}

-- a pattern as it is shown: two quotes stand for the empty one
abbrev pub shown_pattern : List ℕ → List ℕ
shown_pattern [] = codes "\"\""
shown_pattern (b ∷ bs) = b ∷ bs

-- the name of a cause
abbrev pub cause_text : RouteCause → List ℕ
cause_text NoContext = codes "NoContext"
cause_text Shadowed = codes "Shadowed"
cause_text BadPattern = codes "BadPattern"
cause_text BadContext = codes "BadContext"

-- a pattern in effect: its context's path, the pattern as it is shown, and its servlet's service
abbrev pub effect_text : List ℕ → List ℕ → ℕ → List ℕ
effect_text path shown service = codes "route " ++ path ++ codes " " ++ shown ++ codes " " ++ decimal service ++ codes "\n"

-- a service that isn't in effect, or not with all of its patterns, and why
abbrev pub failed_text : ℕ → List ℕ → List ℕ
failed_text service cause = codes "failed " ++ decimal service ++ codes " " ++ cause ++ codes "\n"

-- a line of routes
abbrev pub route_text : RouteLine → List ℕ
route_text (Route path pattern service) = effect_text path (shown_pattern pattern) service
route_text (Failed service cause) = failed_text service (cause_text cause)
