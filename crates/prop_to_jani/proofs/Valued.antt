-- The value of translated properties: it spells them and no others, and its numbers are in normal form.
use Rattle.std.proofs.Common.{◌≡◌, ◌≢◌, ℕ, zero, suc, ◌+◌, refl, sym, subst, ◌∙◌, arith, false, List, [], ◌∷◌, map, length, Option, Some, None, slice_get}
use Rattle.std.specs.Prelude.{IsTrue, is_some, bytes_eq}
use Rattle.std.specs.Option.{option_map}
use Rattle.std.specs.List.{IsDistinct, find, AllByRecursion as Each}
use Rattle.std.proofs.lemmas.List.{length-map}
use Rattle.basics.specs.Each.{each_at, each_map, each_found, any_map}
use Rattle.frac_core.specs.declared.decimal.Decimal.{Decimal}
use Rattle.op_trees.specs.Tree.{Tree, Truth, Number, Name as At, One, Two, Three, AllNames, AllNumbers, replaced, substituted, written_out, renamed}
use Rattle.op_trees.specs.NameLaws.{names_renamed}
use Rattle.op_trees.specs.SeenLaws.{names_all}
use Rattle.op_trees.specs.Types.{type_in}
use Rattle.op_trees.specs.TypeLaws.{typed_operands}
use Rattle.prism_tree.specs.declared.operator.PrismOp.{PrismOp}
use Rattle.prism_tree.specs.declared.operator.PrismOp.TheVariants as P
use Rattle.prism_tree.specs.Operators.{prism_meaning}
use Rattle.prism_tree.specs.OperatorLaws.{prism_lawful}
use Rattle.prism_tree.specs.Syntax.{Expression, File}
use Rattle.prism_names.specs.Flat.{flat, flat_rewards}
use Rattle.op_trees.specs.Names.{is_called}
use Rattle.prism_names.specs.Names.{formula_body}
use Rattle.prism_names.specs.Order as plain
use Rattle.basics.specs.Options.{IfAny}
use Rattle.prism_print.specs.Printable.{IsPrintableFormula}
use Rattle.prism_print.proofs.Printable.{literals}
use Rattle.jani_table.specs.declared.operator.JaniOp.{JaniOp}
use Rattle.jani_tree.specs.Form.{IsNormal}
use Rattle.name_table.specs.declared.entry.Entry.{Entry}
use Rattle.name_table.specs.Asks.{entries, new_names, rewards_at}
use Rattle.name_table.proofs.Parts.{get_part, values_apart}
use Rattle.prism_images.specs.Image.{image, image_one}
use Rattle.prism_images.specs.Laws.{ImageHasOperands}
use Rattle.jani_translation.proofs.Each.{for_rewards}
use Rattle.jani_translation.proofs.Fresh.{no_empty}
use Rattle.prop_grammar.specs.Property.{Ask, greatest, least, bounded, greatest_reward, least_reward, Path, finally, globally, until, weak_until, finally_within, until_within}
use Rattle.prop_trees.specs.Trees.{Name, ask_with, path_with}
use Rattle.prop_trees.specs.Names.{marked, Meant, of_model, is_initial, is_deadlock, nothing, IsMeant, meant, filed_name, initial_name, deadlock_name}
use Rattle.prop_trees.specs.PrismFaults.{name_types}
use Rattle.prop_trees.specs.Form.{IsFinally, AsksWell}
use Rattle.prop_trees.proofs.Single.{AreApart}
use Rattle.prop_trees.proofs.Spelled.{IsSpellable}
use Rattle.prop_to_jani.specs.ToJani.{body_meant, body_of, whole, new_property_name, translated_expression, reward_names}
use Rattle.prop_to_jani.proofs.Judged.{IsJudged}
use Rattle.prop_to_jani.proofs.Filed.{Written, given_initial, given_deadlock, a_label, a_value, written, whole_filed, whole_typed, meant_type}

-- ---- images
names_one : (Q : Name → Type 0) (at : ℕ) (o : PrismOp) (a : Tree JaniOp) → AllNames Q a → AllNames Q (image_one at o a)
names_one Q at P.Neg a h = (tt, h)
names_one Q at o a h = h

pub image_names : (Q : Name → Type 0) (new : Name → Name) (e : Expression) → AllNames (λ x. Q (new x)) e → AllNames Q (image new e)
image_names Q new (Truth at b) h = tt
image_names Q new (Number at d) h = tt
image_names Q new (At at x) h = h
image_names Q new (One at o a) h = names_one Q at o (image new a) (image_names Q new a h)
image_names Q new (Two at o a b) h = (image_names Q new a h.0, image_names Q new b h.1)
image_names Q new (Three at o a b c) h = (image_names Q new a h.0, image_names Q new b h.1, image_names Q new c h.2)

numbers_one : (at : ℕ) (o : PrismOp) (a : Tree JaniOp) → AllNumbers IsNormal a → AllNumbers IsNormal (image_one at o a)
numbers_one at P.Neg a h = (refl, h)
numbers_one at o a h = h

image_numbers : (new : Name → Name) (e : Expression) → AllNumbers IsNormal e → AllNumbers IsNormal (image new e)
image_numbers new (Truth at b) h = tt
image_numbers new (Number at d) h = h
image_numbers new (At at x) h = tt
image_numbers new (One at o a) h = numbers_one at o (image new a) (image_numbers new a h)
image_numbers new (Two at o a b) h = (image_numbers new a h.0, image_numbers new b h.1)
image_numbers new (Three at o a b c) h = (image_numbers new a h.0, image_numbers new b h.1, image_numbers new c h.2)

-- ---- literals of what is written out
module _ {O : Type 0} (P : Decimal → Type 0) where
  numbers_renamed : (new : Name → Name) (t : Tree O) → AllNumbers P t → AllNumbers P (renamed new t)
  numbers_renamed new (Truth at b) h = tt
  numbers_renamed new (Number at d) h = h
  numbers_renamed new (At at x) h = tt
  numbers_renamed new (One at o a) h = numbers_renamed new a h
  numbers_renamed new (Two at o a b) h = (numbers_renamed new a h.0, numbers_renamed new b h.1)
  numbers_renamed new (Three at o a b c) h = (numbers_renamed new a h.0, numbers_renamed new b h.1, numbers_renamed new c h.2)

  numbers_replaced : (at : ℕ) (x : Name) (o : Option (Tree O)) → IfAny (AllNumbers P) o → AllNumbers P (replaced (At at x) o)
  numbers_replaced at x None h = tt
  numbers_replaced at x (Some b) h = h

  numbers_substituted : (bodies : Name → Option (Tree O)) → ((x : Name) → IfAny (AllNumbers P) (bodies x)) → (t : Tree O) → AllNumbers P t → AllNumbers P (substituted bodies t)
  numbers_substituted bodies b (Truth at t) h = tt
  numbers_substituted bodies b (Number at d) h = h
  numbers_substituted bodies b (At at x) h = numbers_replaced at x (bodies x) (b x)
  numbers_substituted bodies b (One at o t) h = numbers_substituted bodies b t h
  numbers_substituted bodies b (Two at o t u) h = (numbers_substituted bodies b t h.0, numbers_substituted bodies b u h.1)
  numbers_substituted bodies b (Three at o t u v) h = (numbers_substituted bodies b t h.0, numbers_substituted bodies b u h.1, numbers_substituted bodies b v h.2)

  numbers_written_out : (bodies : Name → Option (Tree O)) → ((x : Name) → IfAny (AllNumbers P) (bodies x)) → (n : ℕ) (t : Tree O) → AllNumbers P t → AllNumbers P (written_out bodies n t)
  numbers_written_out bodies b zero t h = h
  numbers_written_out bodies b (suc n) t h =
      numbers_substituted (λ x. option_map (written_out bodies n) (bodies x))
      (λ x. any_map (AllNumbers P) (AllNumbers P) (written_out bodies n) (numbers_written_out bodies b n) (bodies x) (b x)) t h

body_numbers : (file : File) → Each IsPrintableFormula file.formulas → (x : Name) → IfAny (AllNumbers IsNormal) (formula_body file x)
body_numbers file h x =
    any_map IsPrintableFormula (AllNumbers IsNormal) (λ f. f.body) (λ f p. literals f.body p.1) (find (λ f. is_called x f.name) file.formulas)
    (each_found IsPrintableFormula (λ f. is_called x f.name) file.formulas h)

pub translated_numbers : (file : File) → Each IsPrintableFormula file.formulas → (e : Expression) → AllNumbers IsNormal e → AllNumbers IsNormal (translated_expression file e)
translated_numbers file h e n =
    image_numbers (new_property_name (flat file)) (whole file e) (numbers_written_out IsNormal (body_of file) (λ x. of_meant (meant x)) (length file.formulas) e n)
  where
    of_meant : (m : Meant) → IfAny (AllNumbers IsNormal) (body_meant file m)
    of_meant (of_model y) = any_map (AllNumbers IsNormal) (AllNumbers IsNormal) (renamed marked) (numbers_renamed IsNormal marked) (formula_body file y) (body_numbers file h y)
    of_meant is_initial = tt
    of_meant is_deadlock = tt
    of_meant nothing = tt

-- ---- expressions that are spelled
module _ (file : File) (order : List Name) (is : IsJudged file order) where
  new_meant_so : (x : Name) → IsMeant (meant (new_property_name (flat file) (filed_name x)))
  new_meant_so x = by_case (written x)
    where
      so : (y : Name) → filed_name x ≡ y → IsMeant (meant (new_property_name (flat file) y)) → IsMeant (meant (new_property_name (flat file) (filed_name x)))
      so y e h = subst (λ z. IsMeant (meant (new_property_name (flat file) z))) (sym e) h

      by_case : Written x → IsMeant (meant (new_property_name (flat file) (filed_name x)))
      by_case (given_initial q e) = so initial_name e tt
      by_case (given_deadlock q e) = so deadlock_name e tt
      by_case (a_label q g e) = so (marked x) e tt
      by_case (a_value q e) = so (marked x) e tt

  pub spellable : ImageHasOperands → (e : Expression) → IsTrue (is_some (type_in prism_meaning (name_types file) e)) → IsSpellable (translated_expression file (renamed filed_name e))
  spellable operands e typed = (
    operands (new_property_name (flat file)) (whole file (renamed filed_name e))
        (typed_operands prism_meaning prism_lawful (λ x. meant_type file order is (meant x)) (whole file (renamed filed_name e))
        (subst (λ t. IsTrue (is_some t)) (sym (whole_typed file order is e)) typed)),
    image_names (λ x. IsMeant (meant x)) (new_property_name (flat file)) (whole file (renamed filed_name e))
        (subst (AllNames (λ x. IsMeant (meant (new_property_name (flat file) x)))) (sym (whole_filed file order is e))
        (names_renamed _ filed_name (plain.whole file e) (names_all _ new_meant_so (plain.whole file e)))),
  )

-- ---- what is asked
finally_with : {E F : Type 0} (f : E → F) (p : Path E) → IsFinally p → IsFinally (path_with f p)
finally_with f (finally e) h = tt
finally_with f (globally e) h = h
finally_with f (until a b) h = h
finally_with f (weak_until a b) h = h
finally_with f (finally_within k e) h = h
finally_with f (until_within k a b) h = h

pub asks_with : {E F : Type 0} (f : E → F) (count : ℕ) (a : Ask E ℕ) (p : Path E) → AsksWell count a p → AsksWell count (ask_with f (λ i. i) a) (path_with f p)
asks_with f count greatest p h = tt
asks_with f count least p h = tt
asks_with f count (bounded c e) p h = tt
asks_with f count (greatest_reward r) p h = (h.0, finally_with f p h.1)
asks_with f count (least_reward r) p h = (h.0, finally_with f p h.1)

-- ---- the names of reward structures
pub distinct_names : (es : List Entry) → ((i j : ℕ) (e u : Entry) → i ≢ j → slice_get es i ≡ Some e → slice_get es j ≡ Some u → bytes_eq e.name u.name ≡ false) →
    IsDistinct bytes_eq (map (λ e. e.name) es)
unfolding IsDistinct
distinct_names [] h = tt
distinct_names (e ∷ es) h = (
  each_map (λ u. bytes_eq e.name u.name ≡ false) (λ x. bytes_eq e.name x ≡ false) (λ u. u.name) (λ u k. k) es
      (each_at (λ u. bytes_eq e.name u.name ≡ false) es (λ j u g. h 0 (suc j) e u (λ q. absurd (omega (arith, q))) refl g)),
  distinct_names es (λ i j a b n g k. h (suc i) (suc j) a b (λ q. n (omega (arith, q))) g k),
)

pub rewards_apart : (file : File) → AreApart (reward_names file)
rewards_apart file =
    let at : ℕ = rewards_at file (entries file) in
    let n : ℕ = length file.rewards in
    record {
      distinct = distinct_names (new_names file).rewards
          (λ i j e u d g k.
          let a = get_part at n i (entries file) e g in
          let b = get_part at n j (entries file) u k in
          let l = a.0 in
          let m = b.0 in
          values_apart file (at + i) (at + j) e u (omega (arith, l)) (omega (arith, m)) (λ q. d (omega (arith, q))) a.1 b.1);
      some = each_map (λ e. e.name ≡ [] → ⊥) (λ x. x ≡ [] → ⊥) (λ e. e.name) (λ e h. h) (new_names file).rewards
          (each_at (λ e. e.name ≡ [] → ⊥) (new_names file).rewards (λ i e g. no_empty file (at + i) e (get_part at n i (entries file) e g).1));
    }

-- there are as many as the file has
pub rewards_many : (file : File) → length (reward_names (flat file)) ≡ length file.rewards
rewards_many file =
    length-map (new_names (flat file)).rewards (λ e. e.name) ∙ sym (for_rewards (flat file)) ∙ length-map file.rewards (flat_rewards file)
