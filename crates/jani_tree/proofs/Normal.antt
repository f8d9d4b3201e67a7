-- Each literal of the data of a value is in normal form exactly where each number of the value is.
use Rattle.std.proofs.Common.{◌≡◌, refl, sym, subst, ◌∙◌, Bool, true, List, [], ◌∷◌, map}
use Rattle.std.proofs.lemmas.Bool.{and_from}
use Rattle.basics.specs.Booleans.{first_true, second_true}
use Rattle.bridge_io.specs.declared.reason.Named.{Named}
use Rattle.decimal_json.specs.declared.tree.Json.{Json}
use Rattle.decimal_json.specs.declared.tree.Member.{Member}
use Rattle.decimal_json.specs.declared.tree.Json.TheOpen as layer
use Rattle.decimal_json.specs.declared.tree.Json.TheOpen.{Json-F, Member-F}
use denote.Hole.Holds.{Such}
use Rattle.decimal_json.specs.declared.tree.Json.TheBlock.{the_family, member-Json, member-Member}
use Rattle.decimal_json.specs.declared.tree.Json.TheFolds.{claims, map-Json, map-Member, ind-Json, fold-roll-Json, fold-roll-Member}
use Rattle.decimal_json.specs.declared.tree.Json.TheViews.{roll-Json, roll-Member}
use Rattle.decimal_json.specs.Proper.{all_true, normal_step, normal_member, all_normal, member_normal}
use Rattle.jani_table.specs.Node.{Node, nodes_of, fields_of, node, named_node, node_step, member_step}
use Rattle.jani_tree.specs.Form.{NormalNode, NormalNodes, NormalFields}

abbrev IsKept : Json → Type 0
IsKept x = (all_normal x ≡ true → NormalNode (node x)) × (NormalNode (node x) → all_normal x ≡ true)

abbrev IsMemberKept : Member → Type 0
IsMemberKept m = (member_normal m ≡ true → NormalNode (named_node m).1) × (NormalNode (named_node m).1 → member_normal m ≡ true)

abbrev J : Type 0
J = Such the_family (claims IsKept IsMemberKept) member-Json

abbrev M : Type 0
M = Such the_family (claims IsKept IsMemberKept) member-Member

each_kept : (ys : List J) → all_true (map all_normal (map (λ (e : J). e.0) ys)) ≡ true → NormalNodes (nodes_of (map node (map (λ (e : J). e.0) ys)))
each_kept [] s = tt
each_kept (y ∷ ys) s = (y.1.0 (first_true _ _ s), each_kept ys (second_true _ _ s))

each_again : (ys : List J) → NormalNodes (nodes_of (map node (map (λ (e : J). e.0) ys))) → all_true (map all_normal (map (λ (e : J). e.0) ys)) ≡ true
each_again [] n = refl
each_again (y ∷ ys) n = and_from _ _ (y.1.1 n.0) (each_again ys n.1)

each_member : (ms : List M) → all_true (map member_normal (map (λ (e : M). e.0) ms)) ≡ true → NormalFields (fields_of (map named_node (map (λ (e : M). e.0) ms)))
each_member [] s = tt
each_member (m ∷ ms) s = (m.1.0 (first_true _ _ s), each_member ms (second_true _ _ s))

each_member_again : (ms : List M) → NormalFields (fields_of (map named_node (map (λ (e : M). e.0) ms))) → all_true (map member_normal (map (λ (e : M). e.0) ms)) ≡ true
each_member_again [] n = refl
each_member_again (m ∷ ms) n = and_from _ _ (m.1.1 n.0) (each_member_again ms n.1)

kept_as : (x : Json) (n : Node) (c : Bool) → node x ≡ n → all_normal x ≡ c → (c ≡ true → NormalNode n) → (NormalNode n → c ≡ true) → IsKept x
kept_as x n c e g h k = (λ a. subst NormalNode (sym e) (h (sym g ∙ a)), λ b. g ∙ k (subst NormalNode e b))

layers : (y : Json-F J M) → IsKept (roll-Json (map-Json J M Json Member (λ e. e.0) (λ e. e.0) y))
layers (layer.Null at) = kept_as _ _ _ (fold-roll-Json _ _ node_step member_step (layer.Null at)) (fold-roll-Json _ _ normal_step normal_member (layer.Null at)) (λ k. tt) (λ k. refl)
layers (layer.Truth at b) = kept_as _ _ _ (fold-roll-Json _ _ node_step member_step (layer.Truth at b)) (fold-roll-Json _ _ normal_step normal_member (layer.Truth at b)) (λ k. tt) (λ k. refl)
layers (layer.Number at d) = kept_as _ _ _ (fold-roll-Json _ _ node_step member_step (layer.Number at d)) (fold-roll-Json _ _ normal_step normal_member (layer.Number at d)) (λ k. k) (λ k. k)
layers (layer.Str at t) = kept_as _ _ _ (fold-roll-Json _ _ node_step member_step (layer.Str at t)) (fold-roll-Json _ _ normal_step normal_member (layer.Str at t)) (λ k. tt) (λ k. refl)
layers (layer.Array at ys) = let vs : List Json = map (λ (e : J). e.0) ys in
    kept_as _ _ _ (fold-roll-Json _ _ node_step member_step (layer.Array at vs)) (fold-roll-Json _ _ normal_step normal_member (layer.Array at vs)) (each_kept ys) (each_again ys)
layers (layer.Object at ms c) = let vs : List Member = map (λ (e : M). e.0) ms in
    kept_as _ _ _ (fold-roll-Json _ _ node_step member_step (layer.Object at vs c)) (fold-roll-Json _ _ normal_step normal_member (layer.Object at vs c)) (each_member ms) (each_member_again ms)

member_layer : (y : Member-F J M) → IsMemberKept (roll-Member (map-Member J M Json Member (λ e. e.0) (λ e. e.0) y))
member_layer y =
    let z = map-Member J M Json Member (λ e. e.0) (λ e. e.0) y in
    let seen = fold-roll-Member _ _ node_step member_step z in
    let kept = fold-roll-Member _ _ normal_step normal_member z in
    (λ k. subst (λ (p : Named × Node). NormalNode p.1) (sym seen) (y.value.1.0 (sym kept ∙ k)), λ n. kept ∙ y.value.1.1 (subst (λ (p : Named × Node). NormalNode p.1) seen n))

kept : (x : Json) → IsKept x
kept x = ind-Json IsKept IsMemberKept
    (λ x y e. (let F : Json-F Json Member → Type 0 = λ u. IsKept (roll-Json u) in subst F e (layers y)))
    (λ x y e. (let F : Member-F Json Member → Type 0 = λ u. IsMemberKept (roll-Member u) in subst F e (member_layer y))) x

pub normal_node : (x : Json) → all_normal x ≡ true → NormalNode (node x)
normal_node x = (kept x).0

pub normal_again : (x : Json) → NormalNode (node x) → all_normal x ≡ true
normal_again x = (kept x).1
