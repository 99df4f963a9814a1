-- What a request comes to behind its first reply.
use Rattle.std.proofs.Common.{◌≡◌, ℕ, List, [], ◌∷◌, ◌++◌, None, Some, Result, ap, subst}
use Rattle.std.specs.declared.option.Option.{Option}
use Rattle.std.specs.Option.{option_map_or}
use Rattle.prop_map.specs.declared.properties.Property.{Property}
use Rattle.kind_trait.specs.Meanings.{Asking, Move, Moves, Refuses}
use Rattle.kind_trait.specs.declared.kind_fault.KindFault.{KindFault}
use Rattle.kind_trait.specs.declared.nested_reply.NestedReply.{NestedReply}
use Rattle.kind_trait.specs.declared.nested_reply.NestedReply.TheVariants.{Text as Said}
use Rattle.kind_trait.specs.declared.next.Next.{Next}
use Rattle.gateway.specs.declared.classes.Class.{Class}
use Rattle.gateway.specs.Classes.{class_of}
use Rattle.gateway.specs.Requests.{move_of, next, second_move}

second_of : (name : List ℕ) (properties : List Property) (request : List ℕ) (reply : NestedReply) (class : Class) → Some class ≡ class_of name
    → second_move class reply ≡ next name properties request (reply ∷ [])
second_of name properties request reply class is = ap (λ found. option_map_or (λ class. move_of class properties request (reply ∷ [])) found Refuses) is

-- what stands for a request that has no reading yet meets its meaning
pub first_reply : {W : Type 0} (stands_for : W → Asking) (name : List ℕ) (properties : List Property) (request : List ℕ) (reading : Option (List ℕ)) (reply : NestedReply) (class : Class) (result : Result (Next W) KindFault)
    → reading ≡ None → Some class ≡ class_of name
    → Moves stands_for (record { class = name; properties = properties; request = request; replies = reply ∷ [] }) (second_move class reply) result
    → Moves stands_for (record { class = name; properties = properties; request = request; replies = option_map_or (λ text. Said text ∷ []) reading [] ++ reply ∷ [] })
    (next name properties request (option_map_or (λ text. Said text ∷ []) reading [] ++ reply ∷ [])) result
first_reply stands_for name properties request reading reply class result none is moves =
    rw none (subst (λ move. Moves stands_for (record { class = name; properties = properties; request = request; replies = reply ∷ [] }) move result) (second_of name properties request reply class is) moves)
