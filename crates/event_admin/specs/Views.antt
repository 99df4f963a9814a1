-- What the holders of publishers, of the delivery and of the hub know, as contracts see it. Our own.
use Rattle.std.specs.Prelude.{◌≡◌, ℕ, ◌+◌, true, false, List, [], ◌∷◌, ◌++◌, length}
use Rattle.atomic_table.specs.Seated.{TableId}
use Rattle.event_admin.specs.declared.post.Post.{Post}
use Rattle.event_admin.specs.declared.rule.Placed.{Placed}
use Rattle.event_admin.specs.declared.rule.Hand.{Hand}
use Rattle.event_admin.specs.Hands.{hand, placed, max_of, flat, times, once_below, Stand, Rises, AllRise, Knows}

pub record HubView : Type 0 where
  pub hub : TableId
  pub places : ℕ

pub record PublisherView : Type 0 where
  pub hub : TableId
  pub spare : ℕ
  pub mine : List Placed
  pub joined : List (List Placed)
  pub told : ℕ
  pub met : ℕ

pub record DeliveryView : Type 0 where
  pub hub : TableId
  pub taken : List Post
  pub told : ℕ
  pub met : ℕ

abbrev pub publisher_of : TableId → ℕ → Hand → PublisherView
publisher_of hub spare v = record {
  hub = hub;
  spare = spare;
  mine = v.mine;
  joined = v.joined;
  told = v.told;
  met = v.met;
}

abbrev pub delivery_of : TableId → Hand → DeliveryView
delivery_of hub v = record { hub = hub; taken = v.taken; told = v.told; met = v.met }

abbrev pub hand_of : PublisherView → Hand
hand_of p = hand (p.spare + 1) p.mine p.joined false [] p.told p.met

abbrev pub taker_of : DeliveryView → Hand
taker_of d = hand 0 [] [] true d.taken d.told d.met

abbrev pub new_publisher : TableId → PublisherView
new_publisher hub = record { hub = hub; spare = 63; mine = []; joined = []; told = 0; met = 0 }

abbrev pub new_delivery : TableId → DeliveryView
new_delivery hub = record { hub = hub; taken = []; told = 0; met = 0 }

abbrev pub posted : PublisherView → ℕ → Post → PublisherView
posted p k x = record {
  hub = p.hub;
  spare = p.spare;
  mine = p.mine ++ placed k x ∷ [];
  joined = p.joined;
  told = k + 1;
  met = p.met;
}

abbrev pub joined : PublisherView → PublisherView → PublisherView
joined p q = record {
  hub = p.hub;
  spare = p.spare + q.spare + 1;
  mine = p.mine;
  joined = p.joined ++ q.mine ∷ q.joined;
  told = max_of p.told q.told;
  met = max_of p.met q.met;
}

-- the queue held as many posts as it has places, at a moment at which the list was true to what the publisher knows
abbrev pub IsFull : ℕ → PublisherView → Type 0
IsFull places p = (items : List Post) × (length items ≡ places) × Knows (hand_of p) items

-- a publisher that was told what the delivery knows
abbrev pub met_by : PublisherView → DeliveryView → PublisherView
met_by p d = record {
  hub = p.hub;
  spare = p.spare;
  mine = p.mine;
  joined = p.joined;
  told = max_of p.told d.told;
  met = max_of p.met (max_of d.met (length d.taken));
}

-- a delivery that was told what a publisher knows
abbrev pub told_by : DeliveryView → PublisherView → DeliveryView
told_by d p = record { hub = d.hub; taken = d.taken; told = max_of d.told p.told; met = max_of d.met (max_of p.met 0) }

-- how many posts a publisher has, with those that were joined into it
abbrev pub count_of : PublisherView → ℕ
count_of p = length p.mine + length (flat p.joined)

-- the list of all posts is true to a publisher into which all others were joined: its posts and theirs stand at their
-- places, those of each in its order, and each place is of one of these posts, and of no second one
pub record IsWhole (p : PublisherView) (whole : List Post) : Type 0 where
  pub stand : Stand whole p.mine
  pub stand_joined : Stand whole (flat p.joined)
  pub rises : Rises p.mine
  pub rises_joined : AllRise p.joined
  pub many : count_of p ≡ length whole
  pub once : (k : ℕ) → times k p.mine + times k (flat p.joined) ≡ once_below k (length whole)
