-- The rule of the hub's queue. Our own.
use Rattle.std.specs.Prelude.{◌≡◌, ℕ, ◌+◌, ◌≤◌, true, List, [], ◌∷◌, ◌++◌, length}
use mathlib.Core.Option.{some}
use lib.ListN.{get_elem?}
use Rattle.event_admin.specs.declared.post.Post.{Post}
use Rattle.event_admin.specs.declared.rule.Hand.{Hand}
use Rattle.event_admin.specs.Hands.{Stand, Rises, AllRise, flat, times_in, once_below, count_of}

abbrev pub total : (Hand → ℕ) → List Hand → ℕ
total f [] = 0
total f (v ∷ vs) = f v + total f vs

-- what one pass knows is true
pub record Fits (taken items : List Post) (reader port : ℕ) (v : Hand) : Type 0 where
  pub stand : Stand (taken ++ items) v.mine
  pub stand_joined : Stand (taken ++ items) (flat v.joined)
  pub rises : Rises v.mine
  pub rises_joined : AllRise v.joined
  pub spent : v.parts ≡ 0 → (v.mine ≡ []) × (v.joined ≡ [])
  pub gets : v.gets ≡ true → (port ≡ reader) × (v.taken ≡ taken)
  pub told : v.told ≤ length (taken ++ items)
  pub met : v.met ≤ length taken

-- there is one list of posts, of which what was taken is a beginning and what the queue holds the rest. Each place of
-- it is known to one pass, once. One pass at most takes posts, and the parts of all are 64
pub record OneList (items : List Post) (views : List Hand) : Type 0 where
  pub taken : List Post
  pub reader : ℕ
  pub whole : total (λ v. v.parts) views ≡ 64
  pub once : (k : ℕ) → total (times_in k) views ≡ once_below k (length (taken ++ items))
  pub many : total count_of views ≡ length (taken ++ items)
  pub each : (port : ℕ) (v : Hand) → get_elem? views port ≡ some v → Fits taken items reader port v
