-- Lists that are made item by item, and are seen alike.
use Rattle.std.proofs.Common.{◌≡◌, ℕ, ◌+◌, ◌<◌, ◌≤◌, refl, sym, ap, ◌∙◌, List, [], ◌∷◌, ◌++◌, length, drop, get_or, append_assoc, subst, Result, Ok}
use Rattle.std.specs.Prelude.{map, IfOk}
use Rattle.std.proofs.lemmas.List.{append-nil, map-append}
use Rattle.basics.specs.Lists.{drop_item}
use Rattle.decimal_json.specs.declared.tree.Json.{Json}
use Rattle.decimal_json.specs.declared.tree.Json.TheVariants.{Array}
use Rattle.jani_table.specs.Node.{Node, array, node, nodes_of}
use Rattle.jani_table.specs.NodeLaws.{drop_all, node_array}
use Rattle.jani_tree.specs.Canonical.{list_node}

pub map_map : {A B C : Type 0} (f : B → C) (g : A → B) (xs : List A) → map f (map g xs) ≡ map (λ x. f (g x)) xs
map_map f g [] = refl
map_map f g (x ∷ xs) = ap (λ ys. f (g x) ∷ ys) (map_map f g xs)

pub made_end : {A B C : Type 0} (f : B → C) (g : A → C) (xs : List A) (made : List B) (i : ℕ) → length xs ≤ i → map f made ++ map g (drop i xs) ≡ map g xs → map f made ≡ map g xs
made_end f g xs made i h inv = sym (append-nil (map f made)) ∙ (sym (ap (λ ys. map f made ++ map g ys) (drop_all xs i h)) ∙ inv)

-- what holds of a result that is a value
pub of_ok : {A E : Type 0} (P : A → Type 0) (r : Result A E) (x : A) → r ≡ Ok x → IfOk r P → P x
of_ok P r x e h = subst (λ (u : Result _ _). IfOk u P) e h

-- one more item
pub made_next : {A B C : Type 0} (f : B → C) (g : A → C) (xs : List A) (made new : List B) (i : ℕ) (x : A) (y : B) → i < length xs → x ≡ get_or xs i x → f y ≡ g x → new ≡ made ++ y ∷ [] →
    map f made ++ map g (drop i xs) ≡ map g xs → map f new ++ map g (drop (i + 1) xs) ≡ map g xs
made_next f g xs made new i x y h e same n inv =
    let rest = map g (drop (i + 1) xs) in
    ap (λ ys. map f ys ++ rest) n
    ∙ (ap (λ zs. zs ++ rest) (map-append f made (y ∷ []))
    ∙ (append_assoc (map f made) (f y ∷ []) rest
    ∙ (ap (λ z. map f made ++ z ∷ rest) same
    ∙ (sym (ap (λ ys. map f made ++ map g ys) (drop_item xs i x h e)) ∙ inv))))

-- ---- a list that is written if it has items

-- a list of values that is made of trees
pub keyed_done : {A : Type 0} (f : A → Node) (at : ℕ) (xs trees : List A) (made : List Json) (i : ℕ) → xs ≡ trees → length xs ≤ i → map node made ++ map f (drop i xs) ≡ map f xs → node (Array at made) ≡ list_node f at trees
keyed_done f at xs trees made i e h inv =
    node_array at made ∙ (ap (λ ys. array at (nodes_of ys)) (made_end node f xs made i h inv) ∙ ap (λ ys. list_node f at ys) e)

pub list_done : {A B : Type 0} (f : B → Node) (g : A → B) (at : ℕ) (xs trees : List A) (made : List Json) (i : ℕ) → xs ≡ trees → length xs ≤ i →
    map node made ++ map (λ x. f (g x)) (drop i xs) ≡ map (λ x. f (g x)) xs → node (Array at made) ≡ list_node f at (map g trees)
list_done f g at xs trees made i e h inv = keyed_done (λ x. f (g x)) at xs trees made i e h inv ∙ ap (λ ys. array at (nodes_of ys)) (sym (map_map f g trees))
