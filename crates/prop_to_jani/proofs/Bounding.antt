-- The member of a bound of steps, as it is made.
use Rattle.std.proofs.Common.{◌≡◌, ap, ◌∙◌, List, [], ◌∷◌, ◌++◌, map, codes}
use Rattle.std.specs.Prelude.{Result, Ok, Err, IfOk, IsOkAnd}
use Rattle.decimal_json.specs.declared.tree.Json.{Json}
use Rattle.decimal_json.specs.declared.tree.Member.{Member}
use Rattle.jani_table.specs.Node.{Node, object, fields_of, node, named_node}
use Rattle.prop_to_jani.specs.Code.{member}

pub bound_made : {E : Type 0} (none upper path new : Result (List Member) E) (json value : Result Json E) (u : Node) →
    IfOk none (λ ms. ms ≡ []) →
    IfOk json (λ v. node v ≡ u) →
    IfOk upper (λ n. IsOkAnd none (λ o. IsOkAnd json (λ v. map named_node n ≡ map named_node o ++ member (codes "upper") (node v) ∷ []))) →
    IfOk value (λ v. IsOkAnd upper (λ ms. node v ≡ object 0 (fields_of (map named_node ms)) 0)) →
    IfOk new (λ n. IsOkAnd path (λ o. IsOkAnd value (λ v. map named_node n ≡ map named_node o ++ member (codes "step-bounds") (node v) ∷ []))) →
    IfOk new (λ n. IsOkAnd path (λ o. map named_node n ≡ map named_node o ++ member (codes "step-bounds") (object 0 (fields_of (member (codes "upper") u ∷ [])) 0) ∷ []))
bound_made none upper path (Err e) json value u a b c d h = tt
bound_made none upper (Err e) (Ok n) json value u a b c d h = absurd h
bound_made none upper (Ok o) (Ok n) json (Err e) u a b c d h = absurd h
bound_made none (Err e) (Ok o) (Ok n) json (Ok v) u a b c d h = absurd d
bound_made (Err e) (Ok ms) (Ok o) (Ok n) json (Ok v) u a b c d h = absurd c
bound_made (Ok z) (Ok ms) (Ok o) (Ok n) (Err e) (Ok v) u a b c d h = absurd c
bound_made (Ok z) (Ok ms) (Ok o) (Ok n) (Ok j) (Ok v) u a b c d h =
    h
    ∙ ap (λ w. map named_node o ++ member (codes "step-bounds") w ∷ [])
    (d
    ∙ ap (λ fs. object 0 (fields_of fs) 0)
    (c ∙ ap (λ (ms : List Member). map named_node ms ++ member (codes "upper") (node j) ∷ []) a ∙ ap (λ w. member (codes "upper") w ∷ []) b))
