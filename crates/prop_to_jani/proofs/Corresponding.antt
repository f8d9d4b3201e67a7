-- Names of a model in environments that correspond: each has the value of its new name.
use Rattle.std.proofs.Common.{◌≡◌, ◌+◌, ◌≤◌, refl, sym, ap, ap₂, subst, ◌∙◌, arith, Bool, true, false, ◌||◌, List, [], ◌∷◌, ◌++◌, map, length, take, drop, Option, Some, None}
use Rattle.std.specs.Prelude.{if◌then◌else◌, bytes_eq, codes}
use Rattle.std.specs.List.{AllByRecursion as Each, list_any}
use Rattle.std.proofs.lemmas.List.{length-map}
use Rattle.basics.specs.Texts.{bytes_eq-true, bytes_eq_comm}
use Rattle.bridge_io.specs.declared.reason.Named.{Named}
use Rattle.op_trees.specs.declared.tree.Value.{Value}
use Rattle.op_trees.specs.declared.tree.Ty.TheVariants as T
use Rattle.op_trees.specs.declared.tree.Value.TheVariants as V
use Rattle.op_trees.specs.Seen.{known}
use Rattle.op_trees.specs.Types.{AgreesWith}
use Rattle.prism_tree.specs.Operators.{prism_meaning}
use Rattle.prism_tree.specs.Syntax.{Label, File}
use Rattle.prism_tree.specs.Grammar.{unquoted}
use Rattle.prism_names.specs.Flat.{flat, flat_label}
use Rattle.prism_names.specs.Names.{formula_body}
use Rattle.prism_flat.specs.Kept.{IsWrittenOut}
use Rattle.prism_check.specs.NameFaults.{is_among, given_labels, values}
use Rattle.prism_check.specs.TypeFaults.{types, declared_types}
use Rattle.prism_check.proofs.CleanValues.{known_still}
use Rattle.prism_check.proofs.TypeOrder.{types_of_plain}
use Rattle.name_table.specs.declared.entry.Entry.{Entry}
use Rattle.name_table.specs.Asks.{variables, entries, new_name, new_names}
use Rattle.prism_images.specs.Laws.{IsNoNumberOf, AgreeingIsNoNumber}
use Rattle.jani_translation.proofs.Clean.{value_names_are}
use Rattle.jani_translation.proofs.Each.{for_labels, n_entries}
use Rattle.prop_grammar.specs.Grammar.{has_quotes}
use Rattle.prop_trees.specs.Trees.{Name}
use Rattle.prop_trees.specs.Names.{marked, Meant, meant, initial_name, deadlock_name, is_given_label, filed_name}
use Rattle.prop_trees.specs.PrismFaults.{is_known}
use Rattle.prop_trees.specs.Agree.{PrismEnvironment, JaniEnvironment, truth, jani_seen, Correspond, IsTyped, IsTruthValue}
use Rattle.prop_to_jani.specs.ToJani.{label_names, new_property_name, paired, naming}
use Rattle.prop_to_jani.proofs.Judged.{IsJudged}
use Rattle.prism_check.proofs.NoFaults.{IsKnown}
use Rattle.prop_to_jani.proofs.Filed.{Written, given_initial, given_deadlock, a_label, a_value, written, as_filed, whole_seen, meant_type}

-- ---- the entry of a name
abbrev pub stands : List Name → Name → Bool
stands xs x = list_any (λ y. bytes_eq y x) xs

abbrev pub Pairs : (Name → Name → Type 0) → List (Name × Name) → Type 0
Pairs P ns = Each (λ n. P n.0 n.1) ns

-- the first pair of a name
pub paired_first : (P : Name → Name → Type 0) (xs : List Name) (es : List Entry) (x : Name) → length xs ≤ length es → Pairs P (paired xs es) → stands xs x ≡ true → P x (new_name xs es x)
paired_first P [] es x l h s = absurd cc
paired_first P (y ∷ ys) [] x l h s = absurd (omega (arith, l))
paired_first P (y ∷ ys) (e ∷ es) x l h s = by_test (bytes_eq y x) refl (paired_first P ys es x (omega (arith, l)) h.1) s
  where
    by_test : (b : Bool) → bytes_eq y x ≡ b → (stands ys x ≡ true → P x (new_name ys es x)) → (b || stands ys x) ≡ true → P x (if b then e.name else new_name ys es x)
    by_test true t r k = subst (λ z. P z e.name) (bytes_eq-true y x t) h.0
    by_test false t r k = r k

-- so it is where the entries are of so many names, and of others behind
paired_taken : {A : Type 0} (P : Name → Name → Type 0) (f : A → Name) (xs : List A) (es : List Entry) (x : Name) → length xs ≤ length es →
    Pairs P (paired (map f xs) (take (length xs) es)) → stands (map f xs) x ≡ true → P x (new_name (map f xs) es x)
paired_taken P f [] es x l h s = absurd cc
paired_taken P f (y ∷ ys) [] x l h s = absurd (omega (arith, l))
paired_taken P f (y ∷ ys) (e ∷ es) x l h s = by_test (bytes_eq (f y) x) refl (paired_taken P f ys es x (omega (arith, l)) h.1) s
  where
    by_test : (b : Bool) → bytes_eq (f y) x ≡ b → (stands (map f ys) x ≡ true → P x (new_name (map f ys) es x)) → (b || stands (map f ys) x) ≡ true →
        P x (if b then e.name else new_name (map f ys) es x)
    by_test true t r k = subst (λ z. P z e.name) (bytes_eq-true (f y) x t) h.0
    by_test false t r k = r k

paired_both : {A B : Type 0} (P : Name → Name → Type 0) (f : A → Name) (g : B → Name) (xs : List A) (ys : List B) (es : List Entry) (x : Name) → length xs + length ys ≤ length es →
    Pairs P (paired (map f xs) (take (length xs) es) ++ paired (map g ys) (take (length ys) (drop (length xs) es))) →
    stands (map f xs ++ map g ys) x ≡ true → P x (new_name (map f xs ++ map g ys) es x)
paired_both P f g [] ys es x l h s = paired_taken P g ys es x (omega (arith, l)) h s
paired_both P f g (y ∷ ys) zs [] x l h s = absurd (omega (arith, l))
paired_both P f g (y ∷ ys) zs (e ∷ es) x l h s = by_test (bytes_eq (f y) x) refl (paired_both P f g ys zs es x (omega (arith, l)) h.1) s
  where
    by_test : (b : Bool) → bytes_eq (f y) x ≡ b → (stands (map f ys ++ map g zs) x ≡ true → P x (new_name (map f ys ++ map g zs) es x)) →
        (b || stands (map f ys ++ map g zs) x) ≡ true → P x (if b then e.name else new_name (map f ys ++ map g zs) es x)
    by_test true t r k = subst (λ z. P z e.name) (bytes_eq-true (f y) x t) h.0
    by_test false t r k = r k

-- ---- what is among names
pub among_is : (ns : List Named) (x : Name) → is_among ns x ≡ stands (map (λ n. n.name) ns) x
among_is [] x = refl
among_is (n ∷ ns) x = ap (λ b. bytes_eq n.name x || b) (among_is ns x)

-- the labels of a file that is written out are the file's
pub labels_named : (ls : List Label) (file : File) (x : Name) → is_among (map (λ l. l.name) ls) x ≡ stands (map (λ l. l.name.name) (map (flat_label file) ls)) x
labels_named [] file x = refl
labels_named (l ∷ ls) file x = ap (λ b. bytes_eq l.name.name x || b) (labels_named ls file x)

-- a known label that not every model has is one of the file's
pub own_label : (ls : List Named) (y : Name) → is_given_label y ≡ false → is_among (given_labels ++ ls) y ≡ true → is_among ls y ≡ true
own_label ls y g h = by_tests (bytes_eq y (codes "init")) (bytes_eq y (codes "deadlock")) g
    (ap₂ (λ s t. s || (t || is_among ls y)) (bytes_eq_comm y (codes "init")) (bytes_eq_comm y (codes "deadlock")) ∙ h)
  where
    by_tests : (b c : Bool) → (b || c) ≡ false → (b || (c || is_among ls y)) ≡ true → is_among ls y ≡ true
    by_tests true c k r = absurd cc
    by_tests false true k r = absurd cc
    by_tests false false k r = r

module _ (file : File) (order : List Name) (is : IsJudged file order) (written_out : IsWrittenOut (flat file))
    (p : PrismEnvironment) (j : JaniEnvironment) (match : Correspond (naming (flat file)) p j) where
  -- ---- values of constants and variables
  value_same : (x : Name) → formula_body file x ≡ None → IsKnown file x → j.value ((new_names (flat file)).value x) ≡ p.value x
  value_same x free k =
      let n = n_entries (flat file) in
      paired_both (λ y z. j.value z ≡ p.value y) (λ c. c.name.name) (λ v. v.name.name) (flat file).constants (variables (flat file)) (entries (flat file)) x (omega (arith, n))
      match.values
      (ap (λ ns. stands ns x) (sym (value_names_are (flat file) written_out)) ∙ sym (among_is (values (flat file)) x) ∙ known_still file is.copies x free k)

  -- ---- labels
  label_same : (y : Name) → is_among (map (λ l. l.name) file.labels) y ≡ true → j.value (new_name (label_names (flat file)) (new_names (flat file)).labels y) ≡ p.label y
  label_same y k =
      let n = for_labels (flat file) in
      let m = length-map (flat file).labels (λ l. l.name.name) in
      paired_first (λ x z. j.value z ≡ p.label x) (label_names (flat file)) (new_names (flat file)).labels y (omega (arith, n, m)) match.labels
      (sym (labels_named file.labels file y) ∙ k)

  -- ---- the names of a filed expression
  abbrev new : Name → Name
  new x = new_property_name (flat file) x

  new_filed : (x y : Name) → filed_name x ≡ y → jani_seen j (meant (new (filed_name x))) ≡ jani_seen j (meant (new y))
  new_filed x y e = ap (λ z. jani_seen j (meant (new z))) e

  -- each name is seen as its new name is
  pub name_same : (x : Name) → formula_body file x ≡ None → is_known file x ≡ true →
      jani_seen j (meant (new (filed_name x))) ≡ whole_seen file order is p (meant (filed_name x))
  name_same x free k = by_case (written x)
    where
      by_case : Written x → jani_seen j (meant (new (filed_name x))) ≡ whole_seen file order is p (meant (filed_name x))
      by_case (given_initial q e) =
          new_filed x initial_name e ∙ ap (λ b. known (truth b)) match.initial ∙ sym (as_filed (whole_seen file order is p) x initial_name e)
      by_case (given_deadlock q e) =
          new_filed x deadlock_name e ∙ ap (λ b. known (truth b)) match.deadlock ∙ sym (as_filed (whole_seen file order is p) x deadlock_name e)
      by_case (a_label q g e) =
          let among : is_among (given_labels ++ map (λ l. l.name) file.labels) (unquoted x) ≡ true =
          sym (ap (λ (b : Bool). if b then is_among (given_labels ++ map (λ l. l.name) file.labels) (unquoted x) else is_among (values file) x) q) ∙ k in
          new_filed x (marked x) e
          ∙ ap (λ (b : Bool). known (j.value (if b then new_name (label_names (flat file)) (new_names (flat file)).labels (unquoted x) else (new_names (flat file)).value x))) q
          ∙ ap known (label_same (unquoted x) (own_label (map (λ l. l.name) file.labels) (unquoted x) g among))
          ∙ sym (ap (λ (b : Bool). if b then known (p.label (unquoted x)) else known (p.value x)) q)
          ∙ sym (as_filed (whole_seen file order is p) x (marked x) e)
      by_case (a_value q e) =
          let among : IsKnown file x =
          sym (ap (λ (b : Bool). if b then is_among (given_labels ++ map (λ l. l.name) file.labels) (unquoted x) else is_among (values file) x) q) ∙ k in
          new_filed x (marked x) e
          ∙ ap (λ (b : Bool). known (j.value (if b then new_name (label_names (flat file)) (new_names (flat file)).labels (unquoted x) else (new_names (flat file)).value x))) q
          ∙ ap known (value_same x free among)
          ∙ sym (ap (λ (b : Bool). if b then known (p.label (unquoted x)) else known (p.value x)) q)
          ∙ sym (as_filed (whole_seen file order is p) x (marked x) e)

module _ (file : File) (order : List Name) (is : IsJudged file order) (agreeing : AgreeingIsNoNumber) (p : PrismEnvironment) (typed : IsTyped file p) where
  label_truth : (v : Option Value) → IsTruthValue v → IsNoNumberOf (Some T.Bool) v
  label_truth None h = tt
  label_truth (Some (V.Truth b)) h = tt
  label_truth (Some (V.Number x)) h = h

  -- a name of the type bool has no number
  pub name_truth : (x : Name) → formula_body file x ≡ None → IsNoNumberOf (meant_type file order is (meant (filed_name x))) (whole_seen file order is p (meant (filed_name x))).value
  name_truth x free = by_case (written x)
    where
      Seen_so : Meant → Type 0
      Seen_so m = IsNoNumberOf (meant_type file order is m) (whole_seen file order is p m).value

      filed_so : (y : Name) → filed_name x ≡ y → Seen_so (meant y) → Seen_so (meant (filed_name x))
      filed_so y e h = subst (λ z. Seen_so (meant z)) (sym e) h

      by_quotes : (b : Bool) → IsNoNumberOf (if b then Some T.Bool else types file x) (if b then known (p.label (unquoted x)) else known (p.value x)).value
      by_quotes true = label_truth (p.label (unquoted x)) (typed.labels (unquoted x))
      by_quotes false =
          agreeing (types file x) (p.value x)
          (subst (λ t. AgreesWith t (p.value x)) (sym (types_of_plain prism_meaning (formula_body file) (declared_types file) (length file.formulas) x free)) (typed.values x))

      by_case : Written x → Seen_so (meant (filed_name x))
      by_case (given_initial q e) = filed_so initial_name e tt
      by_case (given_deadlock q e) = filed_so deadlock_name e tt
      by_case (a_label q g e) = filed_so (marked x) e (by_quotes (has_quotes x))
      by_case (a_value q e) = filed_so (marked x) e (by_quotes (has_quotes x))
