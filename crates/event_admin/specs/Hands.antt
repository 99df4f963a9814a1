-- What publishers and the delivery of a hub know of the one list of posts. Our own.
use Rattle.std.specs.Prelude.{◌≡◌, ℕ, ◌+◌, ◌-◌, ◌<◌, ◌≤◌, Bool, true, false, List, [], ◌∷◌, ◌++◌, length, eqb, ltb}
use Rattle.std.specs.Prelude.{if◌then◌else◌}
use mathlib.Core.Option.{some}
use lib.ListN.{get_elem?}
use Rattle.event_admin.specs.declared.post.Post.{Post}
use Rattle.event_admin.specs.declared.rule.Placed.{Placed}
use Rattle.event_admin.specs.declared.rule.Hand.{Hand}

abbrev pub placed : ℕ → Post → Placed
placed place post = record { place = place; post = post }

-- how often a place stands in the list
abbrev pub times : ℕ → List Placed → ℕ
times k [] = 0
times k (x ∷ xs) = (if eqb k x.place then 1 else 0) + times k xs

-- 1 of the numbers below n, 0 of the others
abbrev pub once_below : ℕ → ℕ → ℕ
once_below k n = if ltb k n then 1 else 0

-- each post of them stands in the list at its place
abbrev pub Stand : List Post → List Placed → Type 0
Stand whole [] = Unit {0}
Stand whole (x ∷ xs) = (get_elem? whole x.place ≡ some x.post) × Stand whole xs

-- all of them stand behind the place n
abbrev pub Behind : ℕ → List Placed → Type 0
Behind n [] = Unit {0}
Behind n (x ∷ xs) = (n < x.place) × Behind n xs

-- each stands behind those before it
abbrev pub Rises : List Placed → Type 0
Rises [] = Unit {0}
Rises (x ∷ xs) = Behind x.place xs × Rises xs

-- the same of each of several lists
abbrev pub AllRise : List (List Placed) → Type 0
AllRise [] = Unit {0}
AllRise (xs ∷ xss) = Rises xs × AllRise xss

-- several lists, one after the other
abbrev pub flat : List (List Placed) → List Placed
flat [] = []
flat (xs ∷ xss) = xs ++ flat xss

abbrev pub posts_of : List Placed → List Post
posts_of [] = []
posts_of (x ∷ xs) = x.post ∷ posts_of xs

abbrev pub hand : ℕ → List Placed → List (List Placed) → Bool → List Post → ℕ → ℕ → Hand
hand parts mine joined gets taken told met = record {
  parts = parts;
  mine = mine;
  joined = joined;
  gets = gets;
  taken = taken;
  told = told;
  met = met;
}

abbrev pub max_of : ℕ → ℕ → ℕ
max_of a b = if ltb a b then b else a

-- how often a place stands among the posts of a pass and of those that were joined into it
abbrev pub times_in : ℕ → Hand → ℕ
times_in k v = times k v.mine + times k (flat v.joined)

-- how many posts of its own and of those that were joined into it a pass has
abbrev pub count_of : Hand → ℕ
count_of v = length v.mine + length (flat v.joined)

abbrev pub first_hand : Hand
first_hand = hand 64 [] [] true [] 0 0

abbrev pub nobody : Hand
nobody = hand 0 [] [] false [] 0 0

abbrev pub without_gets : Hand → Hand
without_gets v = hand v.parts v.mine v.joined false [] v.told v.met

abbrev pub taker : Hand → Hand
taker v = hand 0 [] [] v.gets v.taken v.told v.met

abbrev pub one_less : Hand → Hand
one_less v = hand (v.parts - 1) v.mine v.joined v.gets v.taken v.told v.met

abbrev pub newcomer : Hand → Hand
newcomer v = hand 1 [] [] false [] v.told v.met

abbrev pub note : Hand → Hand
note v = hand 0 [] [] false [] v.told (max_of v.met (length v.taken))

abbrev pub lists_of : Hand → List (List Placed)
lists_of v = if ltb 0 v.parts then v.mine ∷ v.joined else []

abbrev pub or_taken : Bool → List Post → List Post → List Post
or_taken gets xs ys = if gets then xs else ys

abbrev pub or_gets : Bool → Bool → Bool
or_gets a b = if a then true else b

abbrev pub both : Hand → Hand → Hand
both v w =
    hand (v.parts + w.parts) v.mine (v.joined ++ lists_of w) (or_gets v.gets w.gets) (or_taken v.gets v.taken w.taken)
    (max_of v.told w.told) (max_of v.met w.met)

-- a post stands behind all that the publisher knew of, and is one more of its own
abbrev pub Posted : Hand → Post → Hand → Type 0
Posted v x w =
    (k : ℕ) × (v.told ≤ k) × (w ≡ hand v.parts (v.mine ++ placed k x ∷ []) v.joined v.gets v.taken (k + 1) v.met)

abbrev pub Took : Hand → Post → Hand → Type 0
Took v x w = w ≡ hand v.parts v.mine v.joined v.gets (v.taken ++ x ∷ []) v.told v.met

-- the list of all posts is true to what a pass knows: its posts and those of each that was joined into it stand at
-- their places, in order; and where it has all parts, each place is of one of these posts, and of no second one
pub record Accounts (v : Hand) (whole : List Post) : Type 0 where
  pub stand : Stand whole v.mine
  pub stand_joined : Stand whole (flat v.joined)
  pub rises : Rises v.mine
  pub rises_joined : AllRise v.joined
  pub told : v.told ≤ length whole
  pub few : v.parts ≤ 64
  pub many : v.parts ≡ 64 → count_of v ≡ length whole
  pub once : v.parts ≡ 64 → (k : ℕ) → times_in k v ≡ once_below k (length whole)

-- what was taken and what the queue holds are together such a list
abbrev pub Knows : Hand → List Post → Type 0
Knows v items =
    (taken : List Post) × (v.gets ≡ true → taken ≡ v.taken) × (v.met ≤ length taken) × Accounts v (taken ++ items)
