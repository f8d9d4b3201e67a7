-- What names in properties become, by the tables of the code.
use Rattle.std.proofs.Common.{◌≡◌, ◌∙◌, refl, sym, ap, ap₂, arith, ℕ, zero, suc, List, [], ◌∷◌, map, Bool, true, false, Option, Some, None}
use Rattle.std.proofs.lemmas.Bool.Decides.{nat_tests}
use Rattle.std.specs.Borrow.{Bor}
use Rattle.std.specs.Prelude.{◌≢◌, MatchOption, nat_eq, bytes_eq, if◌then◌else◌, unwrap_or}
use Rattle.std.specs.List.{position}
use Rattle.std.specs.Option.{option_or}
use Rattle.jani_tree.specs.Syntax.{File}
use Rattle.op_trees.specs.Names.{is_called}
use Rattle.jani_meaning.specs.Elements.{labels, lasting, place_of}
use Rattle.name_table.specs.declared.entry.Entry.{Entry}
use Rattle.name_table.specs.PrismAsks.{NewNames, name_at, name_at_some, value_name, outside}
use Rattle.module_parts.specs.declared.entries.Names.{Names}
use Rattle.module_parts.specs.Code.{file_in, names_in, value_in, IsReady}
use Rattle.prop_trees.specs.Trees.{Name}
use Rattle.prop_trees.specs.Names.{quoted, meant, built_in, Meant, of_model, is_initial, is_deadlock, nothing, initial_name, deadlock_name}
use Rattle.prop_to_prism.specs.declared.names.PropertyNames.{PropertyNames}
use Rattle.prop_trees.specs.Text.{plain_meant}
use Rattle.prop_to_prism.specs.ToPrism.{label_name, label_or, model_name, new_meant}
use Rattle.prop_to_prism.specs.Code.{text_at, label_text, plain_given, plain_new, model_name_in, name_in, IsReadyFor}

-- ---- what a name is written as, by what it means
module _ (file : File) (names : NewNames) where
  abbrev pub written_meant : Meant → Name
  written_meant (of_model y) = model_name file names y
  written_meant is_initial = quoted initial_name
  written_meant is_deadlock = quoted deadlock_name
  written_meant nothing = []

  plain_by : (x : Name) (m : Meant) → meant x ≡ m → plain_meant (meant (new_meant file names x m)) ≡ written_meant m
  plain_by x (of_model y) h = refl
  plain_by x is_initial h = ap plain_meant h
  plain_by x is_deadlock h = ap plain_meant h
  plain_by x nothing h = ap plain_meant h

  pub plain_is : (x : Name) → plain_new file names x ≡ written_meant (meant x)
  plain_is x = plain_by x (meant x) refl

  by_test : (b : Bool) (x y : Meant) → written_meant (if b then x else y) ≡ (if b then written_meant x else written_meant y)
  by_test true x y = refl
  by_test false x y = refl

  given_is : (x : Name) → written_meant (built_in x) ≡ plain_given x
  given_is x =
      by_test (bytes_eq x initial_name) is_initial (if bytes_eq x deadlock_name then is_deadlock else nothing)
      ∙ ap (λ (y : Name). if bytes_eq x initial_name then quoted initial_name else y) (by_test (bytes_eq x deadlock_name) is_deadlock nothing)

-- the same names where those of constants, variables and labels are the same
pub plain_same : (file : File) (names others : NewNames) → names.constants ≡ others.constants → names.variables ≡ others.variables → names.labels ≡ others.labels
    → (x : Name) → plain_new file names x ≡ plain_new file others x
plain_same file names others c v l x = plain_is file names x ∙ by_meant (meant x) ∙ sym (plain_is file others x)
  where
    by_meant : (m : Meant) → written_meant file names m ≡ written_meant file others m
    by_meant (of_model y) =
        ap₂ (λ es w. label_or file names (name_at_some es (position (λ o. is_called y o.var.name) (labels file))) w) l
        (ap₂ (λ vs cs. unwrap_or (option_or (name_at_some vs (place_of (lasting file) (outside file) y)) (name_at_some cs (position (λ c. is_called y c.name) file.constants))) []) v c)
    by_meant is_initial = refl
    by_meant is_deadlock = refl
    by_meant nothing = refl

-- ---- by the tables
text_quoted : (es : List Entry) (i : ℕ) → text_at (map (λ e. quoted e.name) es) i ≡ quoted (name_at es i)
text_quoted [] i = refl
text_quoted (e ∷ es) zero = refl
text_quoted (e ∷ es) (suc i) = text_quoted es i

label_same : (file : File) (names : NewNames) (es : List Entry) (o : Option ℕ) (x : Name) → label_text (map (λ e. quoted e.name) es) o x ≡ label_or file names (name_at_some es o) x
label_same file names es None x = refl
label_same file names es (Some i) x = text_quoted es i

module _ (n : PropertyNames) (values : Names) (ready : IsReady values) (own : IsReadyFor n values (labels (file_in values))) where
  value_same : (x : Name) → value_in values (outside (file_in values)) x ≡ value_name (file_in values) (names_in values) (outside (file_in values)) x
  value_same x =
      ap₂ (λ (v c : Option ℕ). unwrap_or (option_or (name_at_some values.entries.variables.now v) (name_at_some values.entries.constants.now c)) [])
      (ready.lasting_are (outside (file_in values)) x) (ready.constants_are x)

  model_same : (x : Name) → model_name_in n x ≡ model_name (file_in values) (names_in values) x
  unfolding model_name_in
  model_same x =
      ap₂ (λ (ts : List Name) (o : Option ℕ). label_text ts o (value_in n.values.now (outside (file_in n.values.now)) x)) own.texts (own.numbers x)
      ∙ ap (λ (v : Names). label_text (map (λ e. quoted e.name) values.entries.labels.now) (position (λ o. is_called x o.var.name) (labels (file_in values))) (value_in v (outside (file_in v)) x)) own.same
      ∙ label_same (file_in values) (names_in values) values.entries.labels.now (position (λ o. is_called x o.var.name) (labels (file_in values))) (value_in values (outside (file_in values)) x)
      ∙ ap (label_or (file_in values) (names_in values) (label_name (file_in values) (names_in values) x)) (value_same x)

  pub name_same : (x : Name) → plain_new (file_in values) (names_in values) x ≡ name_in n x
  unfolding name_in
  name_same [] = refl
  name_same (b ∷ x) =
      plain_is (file_in values) (names_in values) (b ∷ x)
      ∙ by_test (file_in values) (names_in values) (nat_eq b 46) (of_model x) (built_in (b ∷ x))
      ∙ ap₂ (λ u v. if nat_eq b 46 then u else v) (sym (model_same x)) (given_is (file_in values) (names_in values) (b ∷ x))

-- ---- names as the code takes them apart
marked_name : (n : PropertyNames) (x y : Name) → x ≡ 46 ∷ y → name_in n x ≡ model_name_in n y
unfolding name_in
marked_name n x y e = ap (name_in n) e

given_name : (n : PropertyNames) (x : Name) → ((y : Name) → x ≢ 46 ∷ y) → name_in n x ≡ plain_given x
unfolding name_in
given_name n [] h = refl
given_name n (b ∷ x) h = by_test (nat_eq b 46) refl
  where
    by_test : (t : Bool) → nat_eq b 46 ≡ t → (if t then model_name_in n x else plain_given (b ∷ x)) ≡ plain_given (b ∷ x)
    by_test true e = let same : b ≡ 46 = grind (arith, nat_tests, e) in absurd (h x (ap (λ k. k ∷ x) same))
    by_test false e = refl

abbrev Stripped : Name → Option (Bor Name) → Type 0
Stripped x r = MatchOption r ((rest : Name) → x ≢ 46 ∷ rest) (λ y. x ≡ 46 ∷ y.now)

pub stripped_some : (n : PropertyNames) (x : Name) (r : Option (Bor Name)) (y : Bor Name) → r ≡ Some y → Stripped x r → name_in n x ≡ model_name_in n y.now
stripped_some n x None y e m = absurd cc
stripped_some n x (Some z) y e m = let same : z ≡ y = cc in marked_name n x y.now (m ∙ ap (λ (u : Bor Name). 46 ∷ u.now) same)

pub stripped_none : (n : PropertyNames) (x : Name) (r : Option (Bor Name)) → r ≡ None → Stripped x r → name_in n x ≡ plain_given x
stripped_none n x None e m = given_name n x m
stripped_none n x (Some z) e m = absurd cc
