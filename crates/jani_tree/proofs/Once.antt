-- Where no object of a value has a key twice, none of its data has.
use Rattle.std.proofs.Common.{◌≡◌, refl, sym, ap, subst, ◌∙◌, ℕ, Bool, true, false, not, ◌||◌, List, [], ◌∷◌, ◌++◌, map}
use Rattle.std.specs.Prelude.{Some, None, bytes_eq, if◌then◌else◌}
use Rattle.std.proofs.lemmas.Slice.Eq.{bytes_eq-Decides}
use Rattle.basics.specs.Booleans.{first_true, second_true}
use Rattle.bridge_io.specs.declared.reason.Named.{Named}
use Rattle.decimal_json.specs.declared.tree.Json.{Json}
use Rattle.decimal_json.specs.declared.tree.Member.{Member}
use Rattle.decimal_json.specs.declared.tree.Json.TheOpen as layer
use Rattle.decimal_json.specs.declared.tree.Json.TheOpen.{Json-F, Member-F}
use denote.Hole.Holds.{Such}
use Rattle.decimal_json.specs.declared.tree.Json.TheBlock.{the_family, member-Json, member-Member}
use Rattle.decimal_json.specs.declared.tree.Json.TheFolds.{claims, map-Json, map-Member, ind-Json, fold-roll-Json, fold-roll-Member}
use Rattle.decimal_json.specs.declared.tree.Json.TheViews.{roll-Json, roll-Member}
use Rattle.decimal_json.specs.Grammar.{is_among}
use Rattle.decimal_json.specs.Proper.{all_true, apart, once_step, once_member, keys_once, member_once}
use Rattle.jani_table.specs.Node.{Node, nodes_of, fields_of, node, named_node, node_step, member_step}
use Rattle.jani_table.specs.Faults.{member_text}
use Rattle.jani_tree.specs.Form.{KeysOnce, KeysOnceInside, KeysApart}

abbrev IsOnce : Json → Type 0
IsOnce x = keys_once x ≡ true → KeysOnce (node x)

abbrev IsMemberOnce : Member → Type 0
IsMemberOnce m = ((member_once m).0 ≡ (named_node m).0.name) × ((member_once m).1 ≡ true → KeysOnce (named_node m).1)

abbrev J : Type 0
J = Such the_family (claims IsOnce IsMemberOnce) member-Json

abbrev M : Type 0
M = Such the_family (claims IsOnce IsMemberOnce) member-Member

-- ---- among keys

among_more : (xs ys : List (List ℕ)) (k : List ℕ) → is_among xs k ≡ true → is_among (xs ++ ys) k ≡ true
among_more [] ys k h = absurd (let e : false ≡ true = h in cc)
among_more (x ∷ xs) ys k h = go (bytes_eq k x) h (among_more xs ys k)
  where
    go : (b : Bool) → b || is_among xs k ≡ true → (is_among xs k ≡ true → is_among (xs ++ ys) k ≡ true) → b || is_among (xs ++ ys) k ≡ true
    go true h f = refl
    go false h f = f h

among_end : (xs : List (List ℕ)) (k : List ℕ) → is_among (xs ++ k ∷ []) k ≡ true
among_end [] k = ap (λ b. b || false) ((bytes_eq-Decides k k).1 refl)
among_end (x ∷ xs) k = go (bytes_eq k x) (among_end xs k)
  where
    go : (b : Bool) → is_among (xs ++ k ∷ []) k ≡ true → b || is_among (xs ++ k ∷ []) k ≡ true
    go true h = refl
    go false h = h

-- a key among those before is not one that is apart from them
differs : (before : List (List ℕ)) (k key : List ℕ) → is_among before k ≡ true → not (is_among before key) ≡ true → bytes_eq k key ≡ false
differs before k key h n = go (bytes_eq k key) refl
  where
    go : (b : Bool) → bytes_eq k key ≡ b → b ≡ false
    go false e = refl
    go true e = absurd (let same : k ≡ key = (bytes_eq-Decides k key).0 e in let f : not true ≡ true = ap not (sym (sym (ap (is_among before) same) ∙ h)) ∙ n in let g : false ≡ true = f in cc)

abbrev members : List M → List Member
members ms = map (λ (e : M). e.0) ms

abbrev keys : List M → List (List ℕ)
keys ms = map (λ m. m.0) (map member_once (members ms))

none_behind : (ms : List M) (before : List (List ℕ)) (k : List ℕ) → is_among before k ≡ true → apart before (keys ms) ≡ true → member_text k (fields_of (map named_node (members ms))) ≡ None
none_behind [] before k a h = refl
none_behind (m ∷ ms) before k a h =
    let e : bytes_eq k (named_node m.0).0.name ≡ false = subst (λ s. bytes_eq k s ≡ false) m.1.0 (differs before k (member_once m.0).0 a (first_true _ _ h)) in
    let rest = none_behind ms (before ++ (member_once m.0).0 ∷ []) k (among_more before _ k a) (second_true _ _ h) in
    ap (λ b. if b then Some (named_node m.0).1 else member_text k (fields_of (map named_node (members ms)))) e ∙ rest

-- ---- values

each_once : (ys : List J) → all_true (map keys_once (map (λ (e : J). e.0) ys)) ≡ true → KeysOnceInside (nodes_of (map node (map (λ (e : J). e.0) ys)))
each_once [] s = tt
each_once (y ∷ ys) s = (y.1 (first_true _ _ s), each_once ys (second_true _ _ s))

each_apart : (ms : List M) (before : List (List ℕ)) → apart before (keys ms) ≡ true → all_true (map (λ m. m.1) (map member_once (members ms))) ≡ true → KeysApart (fields_of (map named_node (members ms)))
each_apart [] before h s = tt
each_apart (m ∷ ms) before h s =
    let key = (member_once m.0).0 in
    let among : is_among (before ++ key ∷ []) (named_node m.0).0.name ≡ true = subst (λ k. is_among (before ++ key ∷ []) k ≡ true) m.1.0 (among_end before key) in
    (none_behind ms (before ++ key ∷ []) (named_node m.0).0.name among (second_true _ _ h), m.1.1 (first_true _ _ s), each_apart ms (before ++ key ∷ []) (second_true _ _ h) (second_true _ _ s))

once_as : (x : Json) (n : Node) (c : Bool) → node x ≡ n → keys_once x ≡ c → (c ≡ true → KeysOnce n) → IsOnce x
once_as x n c e g h = λ a. subst KeysOnce (sym e) (h (sym g ∙ a))

layers : (y : Json-F J M) → IsOnce (roll-Json (map-Json J M Json Member (λ e. e.0) (λ e. e.0) y))
layers (layer.Null at) = once_as _ _ _ (fold-roll-Json _ _ node_step member_step (layer.Null at)) (fold-roll-Json _ _ once_step once_member (layer.Null at)) (λ k. tt)
layers (layer.Truth at b) = once_as _ _ _ (fold-roll-Json _ _ node_step member_step (layer.Truth at b)) (fold-roll-Json _ _ once_step once_member (layer.Truth at b)) (λ k. tt)
layers (layer.Number at d) = once_as _ _ _ (fold-roll-Json _ _ node_step member_step (layer.Number at d)) (fold-roll-Json _ _ once_step once_member (layer.Number at d)) (λ k. tt)
layers (layer.Str at t) = once_as _ _ _ (fold-roll-Json _ _ node_step member_step (layer.Str at t)) (fold-roll-Json _ _ once_step once_member (layer.Str at t)) (λ k. tt)
layers (layer.Array at ys) = let vs : List Json = map (λ (e : J). e.0) ys in
    once_as _ _ _ (fold-roll-Json _ _ node_step member_step (layer.Array at vs)) (fold-roll-Json _ _ once_step once_member (layer.Array at vs)) (each_once ys)
layers (layer.Object at ms c) =
    once_as _ _ _ (fold-roll-Json _ _ node_step member_step (layer.Object at (members ms) c)) (fold-roll-Json _ _ once_step once_member (layer.Object at (members ms) c))
    (λ k. each_apart ms [] (first_true _ _ k) (second_true _ _ k))

member_layer : (y : Member-F J M) → IsMemberOnce (roll-Member (map-Member J M Json Member (λ e. e.0) (λ e. e.0) y))
member_layer y =
    let z = map-Member J M Json Member (λ e. e.0) (λ e. e.0) y in
    let seen = fold-roll-Member _ _ node_step member_step z in
    let once = fold-roll-Member _ _ once_step once_member z in (
      ap (λ (p : List ℕ × Bool). p.0) once ∙ sym (ap (λ (p : Named × Node). p.0.name) seen),
      λ k. subst (λ (p : Named × Node). KeysOnce p.1) (sym seen) (y.value.1 (sym (ap (λ (p : List ℕ × Bool). p.1) once) ∙ k)),
    )

pub once_node : (x : Json) → keys_once x ≡ true → KeysOnce (node x)
once_node x = ind-Json IsOnce IsMemberOnce
    (λ x y e. (let F : Json-F Json Member → Type 0 = λ u. IsOnce (roll-Json u) in subst F e (layers y)))
    (λ x y e. (let F : Member-F Json Member → Type 0 = λ u. IsMemberOnce (roll-Member u) in subst F e (member_layer y))) x
