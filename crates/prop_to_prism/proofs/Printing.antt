-- Translated properties may be written.
use Rattle.std.specs.Prelude.{◌≡◌, ◌≤◌, ℕ, List, [], ◌∷◌, ◌++◌, map, length, take, Bool, true, false, IsTrue, is_some, if◌then◌else◌}
use Rattle.std.specs.List.{AllByRecursion as Each}
use Rattle.std.proofs.Common.{refl, sym, ap, subst, ◌∙◌, arith}
use Rattle.std.proofs.lemmas.List.{length-map, length-take}
use Rattle.basics.specs.Each.{each_then, each_with, each_drop, empty_each}
use Rattle.basics.specs.Lists.{append_left, empty_map}
use Rattle.bridge_io.specs.declared.reason.Reason.TheVariants.{WrongType}
use Rattle.frac_core.specs.declared.decimal.Decimal.{Decimal}
use Rattle.frac_core.specs.Decimal.{is_normal, IsLiteral}
use Rattle.op_trees.specs.Tree.{Truth, Number, Name as At, One, Two, Three, AllNames, AllNumbers}
use Rattle.op_trees.specs.Types.{misfits}
use Rattle.op_trees.specs.TypeLaws.{misfits_none, names_typed}
use Rattle.op_trees.specs.NameLaws.{names_with}
use Rattle.op_trees.specs.SeenLaws.{names_then}
use Rattle.op_trees.specs.Names as trees
use Rattle.name_rules.specs.Least.{fault}
use Rattle.prism_tree.specs.declared.operator.PrismOp.TheVariants as P
use Rattle.prism_tree.specs.Operators as prism
use Rattle.jani_table.specs.Operators as jani
use Rattle.jani_table.specs.Operators.{jani_meaning}
use Rattle.jani_tree.specs.Form.{IsNormal}
use Rattle.jani_tree.specs.Syntax.{Expression, File}
use Rattle.jani_check.specs.Things.{global_thing}
use Rattle.jani_check.specs.Faults.{IsChecked}
use Rattle.jani_meaning.specs.Elements as all
use Rattle.name_table.specs.declared.entry.Entry.{Entry}
use Rattle.name_table.specs.PrismAsks.{asks}
use Rattle.jani_images.specs.Image.{unsigned, literal, image}
use Rattle.prism_translation_laws.proofs.Entries.{IsValidName, all_valid}
use Rattle.prism_translation_laws.proofs.Images.{arity_kept, unsigned_normal}
use Rattle.prism_translation_laws.proofs.TypedImages.{image_names}
use Rattle.prop_grammar.specs.Property.{Ask, greatest, least, bounded, greatest_reward, least_reward, Path, finally, globally, until, weak_until, finally_within, until_within}
use Rattle.prop_trees.specs.Trees.{Name, JaniProperty, Role, parts, ask_with, path_with}
use Rattle.prop_trees.specs.Names.{meant, IsMeant}
use Rattle.prop_trees.specs.Form.{HasForm, IsFinally, AsksWell, JaniForm}
use Rattle.jani_props.specs.Syntax.{Written}
use Rattle.jani_props.specs.Faults.{is_known, name_types, wrong_in, wrong_types, constant_faults, structures, filed}
use Rattle.jani_props.specs.Reading.{AreSound, AreOfJani}
use Rattle.prop_trees.specs.Text.{plain}
use Rattle.prop_trees.specs.Printable.{IsWord, IsPrintableTree, IsPrintableProperty}
use Rattle.prop_trees.proofs.Made.{parts_with}
use Rattle.prop_to_prism.specs.ToPrism.{new_property_name, new_names, reward_names, property_asks, all_entries, property_entries, translated_expression, translated_property, with_entries, to_prism}
use Rattle.prop_to_prism.specs.Code.{plain_new}
use Rattle.prop_to_prism.proofs.Texts.{renamed_image}
use Rattle.prop_to_prism.proofs.Spelled.{rewards_long}
use Rattle.prop_to_prism.proofs.Structures.{numbered_first}
use Rattle.prop_to_prism.proofs.Agreeing.{IsKnown, HasKnown, all_known, filed_parts}
use Rattle.prop_to_prism.proofs.Words.{IsFiled, has_meaning, new_filed}

-- ---- images
literal_written : (at : ℕ) (d : Decimal) → is_normal d ≡ true → AllNumbers IsLiteral (literal at d) × trees.HasOperands prism.arity (literal at d)
literal_written at d h = by_sign d.negative refl
  where
    by_sign : (b : Bool) → d.negative ≡ b →
        AllNumbers IsLiteral (if b then One at P.Neg (Number at (unsigned d)) else Number at d) × trees.HasOperands prism.arity (if b then One at P.Neg (Number at (unsigned d)) else Number at d)
    by_sign true e = ((unsigned_normal d h, refl), (refl, tt))
    by_sign false e = ((h, e), tt)

module _ (new : Name → Name) where
  literals : (e : Expression) → AllNumbers IsNormal e → AllNumbers IsLiteral (image new e)
  literals (Truth at b) h = tt
  literals (Number at d) h = (literal_written at d h).0
  literals (At at x) h = tt
  literals (One at o a) h = literals a h
  literals (Two at o a b) h = (literals a h.0, literals b h.1)
  literals (Three at o a b c) h = (literals a h.0, literals b h.1, literals c h.2)

  operands : (e : Expression) → AllNumbers IsNormal e → trees.HasOperands jani.arity e → trees.HasOperands prism.arity (image new e)
  operands (Truth at b) n h = tt
  operands (Number at d) n h = (literal_written at d n).1
  operands (At at x) n h = tt
  operands (One at o a) n h = (arity_kept o ∙ h.0, operands a n h.1)
  operands (Two at o a b) n h = (arity_kept o ∙ h.0, operands a n.0 h.1, operands b n.1 h.2)
  operands (Three at o a b c) n h = (arity_kept o ∙ h.0, operands a n.0 h.1, operands b n.1 h.2, operands c n.2 h.3)

-- ---- what is made part by part
module _ {E F : Type 0} (f : E → F) where
  finally_with : (p : Path E) → IsFinally p → IsFinally (path_with f p)
  finally_with (finally e) h = tt
  finally_with (globally e) h = h
  finally_with (until a b) h = h
  finally_with (weak_until a b) h = h
  finally_with (finally_within k e) h = h
  finally_with (until_within k a b) h = h

  -- of a model that has more structures
  asks_with : (few many : ℕ) → few ≤ many → (a : Ask E ℕ) (p : Path E) → AsksWell few a p → AsksWell many (ask_with f (λ i. i) a) (path_with f p)
  asks_with few many l greatest p h = tt
  asks_with few many l least p h = tt
  asks_with few many l (bounded c e) p h = tt
  asks_with few many l (greatest_reward r) p h = (let b = h.0 in omega (arith, l, b), finally_with p h.1)
  asks_with few many l (least_reward r) p h = (let b = h.0 in omega (arith, l, b), finally_with p h.1)

-- ---- the names of properties in which nothing is found
module _ (file : File) where
  abbrev pub HasMeaning : Expression → Type 0
  HasMeaning e = AllNames (λ x. IsMeant (meant x)) e

  pub has_meanings : (x : Role × Expression) → wrong_in (global_thing file) x ≡ [] → HasMeaning x.1
  has_meanings x k =
      let own = append_left (map (λ at. fault at WrongType) (misfits jani_meaning (name_types (global_thing file)) x.1)) _ (append_left _ (constant_faults (global_thing file) x.0 x.1) k) in
      names_then (λ y. IsTrue (is_some (name_types (global_thing file) y))) (λ y. IsMeant (meant y)) (has_meaning file) x.1
      (names_typed jani_meaning (name_types (global_thing file)) x.1
      ((misfits_none jani_meaning (name_types (global_thing file)) x.1).0 (empty_map (λ at. fault at WrongType) (misfits jani_meaning (name_types (global_thing file)) x.1) own)))

  meant_parts : (p : Written) → wrong_types (global_thing file) p ≡ [] → Each (λ x. HasMeaning x.1) (parts (filed file p))
  meant_parts p k =
      subst (λ (xs : List (Role × Expression)). Each (λ x. HasMeaning x.1) xs) (sym (filed_parts file p))
      (each_then (λ x. wrong_in (global_thing file) x ≡ []) (λ x. HasMeaning x.1) has_meanings (parts p) (empty_each (wrong_in (global_thing file)) (parts p) k))

  meant_each : (ws : List Written) → Each (λ w. wrong_types (global_thing file) w ≡ []) ws → Each (λ p. Each (λ x. HasMeaning x.1) (parts p)) (map (filed file) ws)
  meant_each [] k = tt
  meant_each (w ∷ ws) k = (meant_parts w k.0, meant_each ws k.1)

  all_meant : (ps : List JaniProperty) → AreSound file ps → Each (λ p. Each (λ x. HasMeaning x.1) (parts p)) ps
  all_meant ps sound =
      subst (λ (qs : List JaniProperty). Each (λ p. Each (λ x. HasMeaning x.1) (parts p)) qs) sound.are
      (meant_each sound.written (empty_each (wrong_types (global_thing file)) sound.written sound.types))

-- ---- expressions
module _ (file : File) (checked : IsChecked file) where
  -- each new name may be written, and is read as itself
  abbrev pub HasFiled : Expression → Type 0
  HasFiled e = AllNames (λ x. IsFiled (new_property_name file (new_names file) x)) e

  has_filed : (e : Expression) → IsKnown file e → HasMeaning file e → HasFiled e
  has_filed e k m =
      names_with (λ x. is_known (global_thing file) x ≡ true) (λ x. IsMeant (meant x)) (λ x. IsFiled (new_property_name file (new_names file) x)) (new_filed file checked) e k m

  pub all_filed : (ps : List JaniProperty) → AreSound file ps → Each (λ p. Each (λ x. HasFiled x.1) (parts p)) ps
  all_filed ps sound =
      each_with (λ p. HasKnown file (parts p)) (λ p. Each (λ x. HasMeaning file x.1) (parts p)) (λ p. Each (λ x. HasFiled x.1) (parts p))
      (λ p. each_with (λ x. IsKnown file x.1) (λ x. HasMeaning file x.1) (λ x. HasFiled x.1) (λ x. has_filed x.1) (parts p)) ps (all_known file ps sound) (all_meant file ps sound)

  printable_tree : (e : Expression) → HasForm jani.arity e → HasFiled e → IsPrintableTree (plain (translated_expression file e))
  printable_tree e form h =
      let new = plain_new file (new_names file) in
      subst IsPrintableTree (sym (renamed_image _ (new_property_name file (new_names file)) e))
      (record {
        literals = literals new e form.literals;
        operands = operands new e form.literals form.operands;
        names = image_names IsWord new e (names_then (λ x. IsFiled (new_property_name file (new_names file) x)) (λ x. IsWord (new x)) (λ x f. f.word) e h);
      })

  -- ---- properties
  -- properties number some of all structures
  pub few_structures : length (structures file) ≤ length (reward_names file)
  few_structures =
      let n = ap length (numbered_first file) in
      let m = length-map (take (length (structures file)) (all.structures file)) (λ o. o.var.name.name) in
      let t = length-take (length (structures file)) (all.structures file) in
      let r = rewards_long file in
      let l = length-map (new_names file).rewards (λ (e : Entry). e.name) in
      omega (arith, n, m, t, r, l)

  printable : (p : JaniProperty) (e : Entry) → IsValidName e → JaniForm (length (structures file)) p → Each (λ x. HasFiled x.1) (parts p) → IsPrintableProperty (reward_names file) (translated_property file p e)
  printable p e valid form h = record {
    name = e.name;
    named = refl;
    title = valid.spelled.0;
    expressions =
        parts_with (λ t. IsPrintableTree (plain t)) (translated_expression file) (λ i. i) p.ask p.path
        (each_with (λ x. HasForm jani.arity x.1) (λ x. HasFiled x.1) (λ (x : Role × Expression). IsPrintableTree (plain (translated_expression file x.1))) (λ x. printable_tree x.1) (parts p) form.expressions h);
    asks = asks_with (translated_expression file) (length (structures file)) (length (reward_names file)) few_structures p.ask p.path form.asks;
  }

  printable_each : (ps : List JaniProperty) (es : List Entry) → Each IsValidName es → Each (JaniForm (length (structures file))) ps → Each (λ p. Each (λ x. HasFiled x.1) (parts p)) ps →
      Each (IsPrintableProperty (reward_names file)) (with_entries file ps es)
  printable_each [] es v f h = tt
  printable_each (p ∷ ps) [] v f h = tt
  printable_each (p ∷ ps) (e ∷ es) v f h = (printable p e v.0 f.0 h.0, printable_each ps es v.1 f.1 h.1)

  pub all_printable : (ps : List JaniProperty) → AreOfJani file ps → Each (IsPrintableProperty (reward_names file)) (to_prism file ps)
  all_printable ps are =
      printable_each ps (property_entries file ps) (each_drop IsValidName (length (asks file)) (all_entries file ps) (all_valid (asks file ++ property_asks ps))) are.form (all_filed ps are.sound)
