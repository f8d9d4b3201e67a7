-- Lists of trees, item by item.
use Rattle.std.proofs.Common.{◌≡◌, ℕ, ◌+◌, ◌<◌, ◌≤◌, sym, ap, subst, ◌∙◌, List, [], ◌∷◌, ◌++◌, Option, Some, length, drop, get_or, append_assoc, IsTrue, map-id}
use Rattle.std.specs.Prelude.{map, IsSomeAnd}
use Rattle.std.proofs.lemmas.List.{append-nil}
use Rattle.basics.specs.Lists.{drop_item, append_right, append_left}
use Rattle.jani_table.specs.declared.table.Form.{Form}
use Rattle.decimal_json.specs.declared.tree.Json.{Json}
use Rattle.jani_table.specs.Node.{Node, Nodes, no_nodes, more_nodes, node, nodes, at_of}
use Rattle.jani_table.specs.NodeLaws.{drop_all}
use Rattle.jani_table.specs.Table.{item_form}
use Rattle.jani_table.specs.Faults.{faults, items_faults, items_in, is_array, or_left_out}
use Rattle.jani_table.specs.Parts.{item_of}
use Rattle.jani_tree.specs.Jani.{Each, IsItems, IsList, IsListAt}

module _ {A : Type 0} (P : Node → A → Type 0) (form : Form) (vs : List Json) where
  -- the items left have no fault, and with their trees behind those that are made the whole list is spelled
  pub record Left (i : ℕ) (made : List A) : Type 0 where
    pub clean : items_faults form (nodes (drop i vs)) ≡ []
    pub built : (more : List A) → Each P (nodes (drop i vs)) more → Each P (nodes vs) (made ++ more)

  pub left_begins : (made : List A) → made ≡ [] → items_faults form (nodes vs) ≡ [] → Left 0 made
  left_begins made n c = record { clean = c; built = λ more e. subst (λ ys. Each P (nodes vs) (ys ++ more)) (sym n) e }

  pub left_clean : (i : ℕ) (made : List A) (v : Json) → i < length vs → v ≡ get_or vs i v → Left i made → faults form (node v) ≡ []
  left_clean i made v h e l = append_left _ (items_faults form (nodes (drop (i + 1) vs))) (sym (ap (λ ys. items_faults form (nodes ys)) (drop_item vs i v h e)) ∙ l.clean)

  pub left_next : (i : ℕ) (made : List A) (v : Json) (x : A) (new : List A) → i < length vs → v ≡ get_or vs i v → P (node v) x → new ≡ made ++ x ∷ [] → Left i made → Left (i + 1) new
  left_next i made v x new h e p n l = record {
    clean = append_right (faults form (node v)) _ (sym (ap (λ ys. items_faults form (nodes ys)) (drop_item vs i v h e)) ∙ l.clean);
    built = λ more each.
        let r : Each P (nodes vs) (made ++ x ∷ more) = l.built (x ∷ more) (subst (λ ys. Each P (nodes ys) (x ∷ more)) (sym (drop_item vs i v h e)) (p, each)) in
        subst (λ ys. Each P (nodes vs) ys) (sym (append_assoc made (x ∷ []) more) ∙ ap (λ ys. ys ++ more) (sym n)) r;
  }

  pub left_ends : (i : ℕ) (made : List A) → length vs ≤ i → Left i made → Each P (nodes vs) made
  left_ends i made h l = subst (λ ys. Each P (nodes vs) ys) (append-nil made) (l.built [] (subst (λ ys. Each P (nodes ys) []) (sym (drop_all vs i h)) tt))

  pub items_end : (v : Node) (i : ℕ) (made : List A) → IsTrue (is_array v) → items_in v ≡ nodes vs → length vs ≤ i → Left i made → IsItems P v made
  items_end v i made a e h l = record { list = a; items = subst (λ ns. Each P ns made) (sym e) (left_ends i made h l) }

-- the form of the items of a list
pub items_clean : (form item : Form) (ns : Nodes) → item_form form ≡ Some item → items_faults (item_of form) ns ≡ [] → items_faults item ns ≡ []
items_clean form item ns e c = ap (λ o. items_faults (or_left_out o) ns) (sym e) ∙ c

-- ---- trees as they are seen

each_seen : {A B : Type 0} (P : Node → B → Type 0) (f : A → B) (vs : Nodes) (xs : List A) → Each (λ v x. P v (f x)) vs xs → Each P vs (map f xs)
each_seen P f no_nodes [] e = tt
each_seen P f no_nodes (x ∷ xs) e = absurd e
each_seen P f (more_nodes v vs) [] e = absurd e
each_seen P f (more_nodes v vs) (x ∷ xs) e = (e.0, each_seen P f vs xs e.1)

pub items_seen : {A B : Type 0} (P : Node → B → Type 0) (f : A → B) (v : Node) (xs : List A) → IsItems (λ v x. P v (f x)) v xs → IsItems P v (map f xs)
items_seen P f v xs i = record { list = i.list; items = each_seen P f (items_in v) xs i.items }

pub list_same : {A : Type 0} (P : Node → A → Type 0) (o : Option Node) (xs : List A) → IsList P o (map (λ x. x) xs) → IsList P o xs
list_same P o xs i = subst (λ ys. IsList P o ys) (map-id xs) i

-- ---- lists whose offset is kept

pub list_at : {A : Type 0} (P : Node → A → Type 0) (o : Option Node) (v : Node) (xs : List A) (at : ℕ) → o ≡ Some v → at ≡ at_of v → IsItems P v xs → IsSomeAnd o (λ w. IsListAt P w xs at)
list_at P o v xs at e f i = subst (λ p. IsSomeAnd p (λ w. IsListAt P w xs at)) (sym e) (record { offset = sym f; items = i })
