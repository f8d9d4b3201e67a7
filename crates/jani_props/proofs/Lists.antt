-- Lists of properties, item by item.
use Rattle.std.proofs.Common.{◌≡◌, ℕ, ◌+◌, ◌<◌, ◌≤◌, sym, ap, subst, ◌∙◌, List, [], ◌∷◌, ◌++◌, length, drop, get_or, append_assoc, IsTrue}
use Rattle.std.proofs.lemmas.List.{append-nil}
use Rattle.basics.specs.Lists.{drop_item, append_left, append_right}
use Rattle.decimal_json.specs.declared.tree.Json.{Json}
use Rattle.jani_table.specs.Node.{Node, node, nodes}
use Rattle.jani_table.specs.NodeLaws.{drop_all}
use Rattle.jani_table.specs.Faults.{items_in, is_array}
use Rattle.jani_tree.specs.Jani.{Each, IsItems}
use Rattle.jani_props.specs.declared.table.PropForm.{PropForm}
use Rattle.jani_props.specs.Shape.{faults, items_faults}
use Rattle.jani_props.specs.Clean.{IsClean, AreClean}

module _ {A : Type 0} (P : Node → A → Type 0) (form : PropForm) (vs : List Json) where
  -- the items left have no fault, and with their trees behind those that are made the whole list is spelled
  pub record Left (i : ℕ) (made : List A) : Type 0 where
    pub clean : AreClean form (nodes (drop i vs))
    pub built : (more : List A) → Each P (nodes (drop i vs)) more → Each P (nodes vs) (made ++ more)

  pub left_begins : (made : List A) → made ≡ [] → AreClean form (nodes vs) → Left 0 made
  left_begins made n c = record { clean = c; built = λ more e. subst (λ ys. Each P (nodes vs) (ys ++ more)) (sym n) e }

  pub left_clean : (i : ℕ) (made : List A) (v : Json) → i < length vs → v ≡ get_or vs i v → Left i made → IsClean form (node v)
  left_clean i made v h e l = record {
    given = l.clean.given;
    clean = append_left _ (items_faults l.clean.given form (nodes (drop (i + 1) vs))) (sym (ap (λ ys. items_faults l.clean.given form (nodes ys)) (drop_item vs i v h e)) ∙ l.clean.clean);
  }

  pub left_next : (i : ℕ) (made : List A) (v : Json) (x : A) (new : List A) → i < length vs → v ≡ get_or vs i v → P (node v) x → new ≡ made ++ x ∷ [] → Left i made → Left (i + 1) new
  left_next i made v x new h e p n l = record {
    clean = record {
      given = l.clean.given;
      clean = append_right (faults l.clean.given form (node v)) _ (sym (ap (λ ys. items_faults l.clean.given form (nodes ys)) (drop_item vs i v h e)) ∙ l.clean.clean);
    };
    built = λ more each.
        let r : Each P (nodes vs) (made ++ x ∷ more) = l.built (x ∷ more) (subst (λ ys. Each P (nodes ys) (x ∷ more)) (sym (drop_item vs i v h e)) (p, each)) in
        subst (λ ys. Each P (nodes vs) ys) (sym (append_assoc made (x ∷ []) more) ∙ ap (λ ys. ys ++ more) (sym n)) r;
  }

  left_ends : (i : ℕ) (made : List A) → length vs ≤ i → Left i made → Each P (nodes vs) made
  left_ends i made h l = subst (λ ys. Each P (nodes vs) ys) (append-nil made) (l.built [] (subst (λ ys. Each P (nodes ys) []) (sym (drop_all vs i h)) tt))

  pub items_end : (v : Node) (i : ℕ) (made : List A) → IsTrue (is_array v) → items_in v ≡ nodes vs → length vs ≤ i → Left i made → IsItems P v made
  items_end v i made a e h l = record { list = a; items = subst (λ ns. Each P ns made) (sym e) (left_ends i made h l) }
