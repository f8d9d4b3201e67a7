-- Values that are the same but for their places are the same data but for its places.
use Rattle.std.proofs.Common.{◌≡◌, ℕ, refl, sym, ap, ap₂, subst, ◌∙◌, List, [], ◌∷◌, map}
use Rattle.bridge_io.specs.declared.reason.Named.{Named}
use Rattle.decimal_json.specs.declared.tree.Json.{Json}
use Rattle.decimal_json.specs.declared.tree.Member.{Member}
use Rattle.decimal_json.specs.declared.tree.Json.TheOpen as layer
use Rattle.decimal_json.specs.declared.tree.Json.TheOpen.{Json-F, Member-F}
use denote.Hole.Holds.{Such}
use Rattle.decimal_json.specs.declared.tree.Json.TheBlock.{the_family, member-Json, member-Member}
use Rattle.decimal_json.specs.declared.tree.Json.TheFolds.{claims, map-Json, map-Member, ind-Json, fold-roll-Json, fold-roll-Member}
use Rattle.decimal_json.specs.declared.tree.Json.TheViews.{roll-Json, roll-Member}
use Rattle.decimal_json.specs.declared.tree.Json.TheVariants.{Null, rolls-Null, rolls-Truth, rolls-Number, rolls-Str}
use Rattle.decimal_json.specs.Proper.{bare_step, bare_member_step, bare, bare_member}
use Rattle.jani_table.specs.Node.{Node, null, array, object, nodes_of, fields_of, field, more_nodes, node, named_node, node_step, member_step}
use Rattle.jani_table.specs.NodeLaws.{node_array, node_object, node_named}
use Rattle.op_trees.specs.Names.{bare_name}
use Rattle.jani_tree.specs.Places.{bare_node, bare_nodes, bare_fields, SameTree}
use Rattle.jani_tree.proofs.Bare.{one_tree}

abbrev IsSame : Json → Type 0
IsSame x = bare_node (node x) ≡ node (bare x)

abbrev bare_pair : Named × Node → Named × Node
bare_pair p = (bare_name p.0, bare_node p.1)

abbrev IsMemberSame : Member → Type 0
IsMemberSame m = bare_pair (named_node m) ≡ named_node (bare_member m)

abbrev J : Type 0
J = Such the_family (claims IsSame IsMemberSame) member-Json

abbrev M : Type 0
M = Such the_family (claims IsSame IsMemberSame) member-Member

nodes_same : (ys : List J) → bare_nodes (nodes_of (map node (map (λ (e : J). e.0) ys))) ≡ nodes_of (map node (map bare (map (λ (e : J). e.0) ys)))
nodes_same [] = refl
nodes_same (y ∷ ys) = ap₂ more_nodes y.1 (nodes_same ys)

fields_same : (ms : List M) → bare_fields (fields_of (map named_node (map (λ (e : M). e.0) ms))) ≡ fields_of (map named_node (map bare_member (map (λ (e : M). e.0) ms)))
fields_same [] = refl
fields_same (m ∷ ms) = ap₂ (λ (q : Named × Node) r. field q.0 q.1 r) m.1 (fields_same ms)

same_as : (x : Json) (n : Node) (b : Json) → node x ≡ n → bare x ≡ b → bare_node n ≡ node b → IsSame x
same_as x n b e f h = ap bare_node e ∙ (h ∙ sym (ap node f))

node_null : (at : ℕ) → node (Null at) ≡ null at
node_null at = ap node (sym (rolls-Null at)) ∙ fold-roll-Json _ _ _ _ _

layers : (y : Json-F J M) → IsSame (roll-Json (map-Json J M Json Member (λ e. e.0) (λ e. e.0) y))
layers (layer.Null at) = same_as _ _ _ (fold-roll-Json _ _ node_step member_step (layer.Null at)) (fold-roll-Json _ _ bare_step bare_member_step (layer.Null at)) (sym (node_null 0))
layers (layer.Truth at b) = same_as _ _ _ (fold-roll-Json _ _ node_step member_step (layer.Truth at b)) (fold-roll-Json _ _ bare_step bare_member_step (layer.Truth at b)) (sym (ap node (sym (rolls-Truth 0 b)) ∙ fold-roll-Json _ _ _ _ _))
layers (layer.Number at n) = same_as _ _ _ (fold-roll-Json _ _ node_step member_step (layer.Number at n)) (fold-roll-Json _ _ bare_step bare_member_step (layer.Number at n)) (sym (ap node (sym (rolls-Number 0 n)) ∙ fold-roll-Json _ _ _ _ _))
layers (layer.Str at t) = same_as _ _ _ (fold-roll-Json _ _ node_step member_step (layer.Str at t)) (fold-roll-Json _ _ bare_step bare_member_step (layer.Str at t)) (sym (ap node (sym (rolls-Str 0 t)) ∙ fold-roll-Json _ _ _ _ _))
layers (layer.Array at ys) = let vs : List Json = map (λ (e : J). e.0) ys in
    same_as _ _ _ (fold-roll-Json _ _ node_step member_step (layer.Array at vs)) (fold-roll-Json _ _ bare_step bare_member_step (layer.Array at vs))
    (ap (λ ns. array 0 ns) (nodes_same ys) ∙ sym (node_array 0 (map bare vs)))
layers (layer.Object at ms c) = let vs : List Member = map (λ (e : M). e.0) ms in
    same_as _ _ _ (fold-roll-Json _ _ node_step member_step (layer.Object at vs c)) (fold-roll-Json _ _ bare_step bare_member_step (layer.Object at vs c))
    (ap (λ ns. object 0 ns 0) (fields_same ms) ∙ sym (node_object 0 (map bare_member vs) 0))

member_layer : (y : Member-F J M) → IsMemberSame (roll-Member (map-Member J M Json Member (λ e. e.0) (λ e. e.0) y))
member_layer y =
    let z = map-Member J M Json Member (λ e. e.0) (λ e. e.0) y in
    let b : Member = record { key = record { name = y.key.name; at = 0 }; value = bare y.value.0 } in
    ap bare_pair (fold-roll-Member _ _ node_step member_step z)
    ∙ (ap (λ v. (bare_name y.key, v)) y.value.1
    ∙ (sym (node_named b) ∙ sym (ap named_node (fold-roll-Member _ _ bare_step bare_member_step z))))

pub node_same : (x : Json) → IsSame x
node_same x = ind-Json IsSame IsMemberSame
    (λ x y e. (let F : Json-F Json Member → Type 0 = λ u. IsSame (roll-Json u) in subst F e (layers y)))
    (λ x y e. (let F : Member-F Json Member → Type 0 = λ u. IsMemberSame (roll-Member u) in subst F e (member_layer y))) x

pub same_tree : SameTree
same_tree x y f g e p q = one_tree (node x) (node y) f g (node_same x ∙ (ap node e ∙ sym (node_same y))) p q
