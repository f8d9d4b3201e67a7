-- The canonical text of a value is that of its data.
use Rattle.std.proofs.Common.{◌≡◌, ℕ, refl, sym, ap, ap₂, subst, ◌∙◌, true, false, List, [], ◌∷◌, ◌++◌, map}
use Rattle.bridge_io.specs.declared.reason.Named.{Named}
use Rattle.decimal_json.specs.declared.tree.Json.{Json}
use Rattle.decimal_json.specs.declared.tree.Member.{Member}
use Rattle.decimal_json.specs.declared.tree.Json.TheOpen as layer
use Rattle.decimal_json.specs.declared.tree.Json.TheOpen.{Json-F, Member-F}
use denote.Hole.Holds.{Such}
use Rattle.decimal_json.specs.declared.tree.Json.TheBlock.{the_family, member-Json, member-Member}
use Rattle.decimal_json.specs.declared.tree.Json.TheFolds.{claims, map-Json, map-Member, ind-Json, fold-roll-Json, fold-roll-Member}
use Rattle.decimal_json.specs.declared.tree.Json.TheViews.{roll-Json, roll-Member}
use Rattle.decimal_json.specs.Text.{quoted, with_commas, value_step, text_of, member_text}
use Rattle.decimal_json.specs.Text as json_text
use Rattle.jani_table.specs.Node.{Node, nodes_of, fields_of, node, named_node, node_step, member_step}
use Rattle.jani_tree.specs.Text.{node_text, item_texts, member_texts, TextOfNode}

abbrev HasText : Json → Type 0
HasText x = text_of x ≡ node_text (node x)

abbrev HasMemberText : Member → Type 0
HasMemberText m = member_text m ≡ quoted (named_node m).0.name ++ 0x3a ∷ node_text (named_node m).1

abbrev J : Type 0
J = Such the_family (claims HasText HasMemberText) member-Json

abbrev M : Type 0
M = Such the_family (claims HasText HasMemberText) member-Member

each_text : (ys : List J) → map text_of (map (λ (e : J). e.0) ys) ≡ item_texts (nodes_of (map node (map (λ (e : J). e.0) ys)))
each_text [] = refl
each_text (y ∷ ys) = ap₂ (λ t ts. t ∷ ts) y.1 (each_text ys)

each_member : (ms : List M) → map member_text (map (λ (e : M). e.0) ms) ≡ member_texts (fields_of (map named_node (map (λ (e : M). e.0) ms)))
each_member [] = refl
each_member (m ∷ ms) = ap₂ (λ t ts. t ∷ ts) m.1 (each_member ms)

text_as : (x : Json) (n : Node) (t : List ℕ) → node x ≡ n → text_of x ≡ t → t ≡ node_text n → HasText x
text_as x n t e g h = g ∙ (h ∙ ap node_text (sym e))

layers : (y : Json-F J M) → HasText (roll-Json (map-Json J M Json Member (λ e. e.0) (λ e. e.0) y))
layers (layer.Null at) = text_as _ _ _ (fold-roll-Json _ _ node_step member_step (layer.Null at)) (fold-roll-Json _ _ value_step json_text.member_step (layer.Null at)) refl
layers (layer.Truth at true) = text_as _ _ _ (fold-roll-Json _ _ node_step member_step (layer.Truth at true)) (fold-roll-Json _ _ value_step json_text.member_step (layer.Truth at true)) refl
layers (layer.Truth at false) = text_as _ _ _ (fold-roll-Json _ _ node_step member_step (layer.Truth at false)) (fold-roll-Json _ _ value_step json_text.member_step (layer.Truth at false)) refl
layers (layer.Number at d) = text_as _ _ _ (fold-roll-Json _ _ node_step member_step (layer.Number at d)) (fold-roll-Json _ _ value_step json_text.member_step (layer.Number at d)) refl
layers (layer.Str at t) = text_as _ _ _ (fold-roll-Json _ _ node_step member_step (layer.Str at t)) (fold-roll-Json _ _ value_step json_text.member_step (layer.Str at t)) refl
layers (layer.Array at ys) = let vs : List Json = map (λ (e : J). e.0) ys in
    text_as _ _ _ (fold-roll-Json _ _ node_step member_step (layer.Array at vs)) (fold-roll-Json _ _ value_step json_text.member_step (layer.Array at vs))
    (ap (λ ts. 0x5b ∷ (with_commas ts ++ 0x5d ∷ [])) (each_text ys))
layers (layer.Object at ms c) = let vs : List Member = map (λ (e : M). e.0) ms in
    text_as _ _ _ (fold-roll-Json _ _ node_step member_step (layer.Object at vs c)) (fold-roll-Json _ _ value_step json_text.member_step (layer.Object at vs c))
    (ap (λ ts. 0x7b ∷ (with_commas ts ++ 0x7d ∷ [])) (each_member ms))

member_layer : (y : Member-F J M) → HasMemberText (roll-Member (map-Member J M Json Member (λ e. e.0) (λ e. e.0) y))
member_layer y =
    let z = map-Member J M Json Member (λ e. e.0) (λ e. e.0) y in
    let seen = fold-roll-Member _ _ node_step member_step z in
    fold-roll-Member _ _ value_step json_text.member_step z
    ∙ (ap (λ t. quoted y.key.name ++ 0x3a ∷ t) y.value.1
    ∙ ap (λ (p : Named × Node). quoted p.0.name ++ 0x3a ∷ node_text p.1) (sym seen))

pub text_of_node : TextOfNode
text_of_node x = ind-Json HasText HasMemberText
    (λ x y e. (let F : Json-F Json Member → Type 0 = λ u. HasText (roll-Json u) in subst F e (layers y)))
    (λ x y e. (let F : Member-F Json Member → Type 0 = λ u. HasMemberText (roll-Member u) in subst F e (member_layer y))) x
