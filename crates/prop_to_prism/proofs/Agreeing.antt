-- Properties agree with those that they are translated to.
use Rattle.std.specs.Prelude.{◌≡◌, List, [], ◌∷◌, ◌++◌, map, length, true, not}
use Rattle.std.specs.List.{AllByRecursion as Each, flat_map}
use Rattle.std.proofs.Common.{refl, sym, ap, subst, ◌∙◌, arith, length-append}
use Rattle.std.proofs.lemmas.Bool.{not-false}
use Rattle.std.proofs.lemmas.List.{length-map, length-drop}
use Rattle.basics.specs.Each.{each_then, each_with, each_parts, empty_each}
use Rattle.basics.specs.Lists.{append_right}
use Rattle.bridge_io.specs.declared.reason.Named.{Named}
use Rattle.bridge_io.specs.declared.reason.Reason.TheVariants.{TwiceNamed, Unknown}
use Rattle.op_trees.specs.Tree.{AllNames}
use Rattle.op_trees.specs.Names.{names_of}
use Rattle.basics.specs.Options.{if_some}
use Rattle.name_rules.specs.Doubled.{doubled}
use Rattle.name_rules.specs.Unknown.{unless_known}
use Rattle.name_rules.proofs.Plain.{no_fault}
use Rattle.prism_check.proofs.NamesIn.{listed_names}
use Rattle.jani_table.specs.Operators as operators
use Rattle.jani_tree.specs.Syntax.{Expression, File}
use Rattle.jani_check.specs.Things.{global_thing}
use Rattle.jani_check.specs.Faults.{IsChecked}
use Rattle.name_table.specs.declared.class.NameClass.TheVariants.{Property as OfProperty}
use Rattle.name_table.specs.declared.class.Target.TheVariants.{Prism}
use Rattle.name_table.specs.declared.entry.Entry.{Entry}
use Rattle.name_table.specs.Entries.{Ask as Wanted, entries_of}
use Rattle.name_table.specs.PrismAsks.{asks}
use Rattle.name_table.proofs.EntryLemmas.{one_each}
use Rattle.prism_translation_laws.specs.Translated.{translated}
use Rattle.prop_grammar.specs.Property.{Ask, greatest, least, bounded, greatest_reward, least_reward, Path, finally, globally, until, weak_until, finally_within, until_within}
use Rattle.prop_trees.specs.Trees.{JaniProperty, Role, parts, structure_of, ask_parts, path_parts, ask_with, path_with, SameAsk, SamePath}
use Rattle.prop_trees.specs.Form.{HasForm, JaniForm}
use Rattle.prop_trees.specs.Agree.{SameValue, Agree, AllAgree}
use Rattle.jani_props.specs.Syntax.{Written}
use Rattle.jani_props.specs.Faults.{is_known, unknown_in, unknown_structure, unknown_names, titles, structures, structure_number, numbered, filed}
use Rattle.jani_props.specs.Reading.{AreSound}
use Rattle.prop_to_prism.specs.ToPrism.{naming, translated_expression, translated_property, property_asks, property_entries, with_entries}
use Rattle.prop_to_prism.specs.Laws.{TranslatedAgree}
use Rattle.prop_to_prism.proofs.Corresponding.{value_same}

-- ---- the names of properties in which nothing is found
module _ (file : File) where
  -- each of the expression's names is known
  abbrev pub IsKnown : Expression → Type 0
  IsKnown e = AllNames (λ x. is_known (global_thing file) x ≡ true) e

  known_in : (x : Role × Expression) → unknown_in (global_thing file) x ≡ [] → IsKnown x.1
  known_in x k =
      listed_names (λ x. is_known (global_thing file) x ≡ true) x.1
      (each_then (λ n. unless_known (is_known (global_thing file)) n ≡ []) (λ n. is_known (global_thing file) n.name ≡ true)
      (λ (n : Named) h. not-false (is_known (global_thing file) n.name) (no_fault (not (is_known (global_thing file) n.name)) n.at Unknown h)) (names_of x.1)
      (empty_each (unless_known (is_known (global_thing file))) (names_of x.1) k))

  abbrev pub HasKnown : List (Role × Expression) → Type 0
  HasKnown xs = Each (λ x. IsKnown x.1) xs

  -- the parts of a property are those that were written
  pub filed_parts : (p : Written) → parts (filed file p) ≡ parts p
  filed_parts p = ap (λ xs. xs ++ path_parts p.path) (of_ask p.ask)
    where
      of_ask : (a : Ask Expression Named) → ask_parts (ask_with (λ e. e) (numbered (structure_number file)) a) ≡ ask_parts a
      of_ask greatest = refl
      of_ask least = refl
      of_ask (bounded c e) = refl
      of_ask (greatest_reward n) = refl
      of_ask (least_reward n) = refl

  known_parts : (p : Written) → unknown_names (global_thing file) (structure_number file) p ≡ [] → HasKnown (parts (filed file p))
  known_parts p k =
      subst HasKnown (sym (filed_parts p))
      (each_then (λ x. unknown_in (global_thing file) x ≡ []) (λ x. IsKnown x.1) known_in (parts p)
      (empty_each (unknown_in (global_thing file)) (parts p) (append_right (flat_map (unknown_structure (structure_number file)) (if_some (structure_of p.ask))) _ k)))

  known_each : (ws : List Written) → Each (λ w. unknown_names (global_thing file) (structure_number file) w ≡ []) ws → Each (λ p. HasKnown (parts p)) (map (filed file) ws)
  known_each [] k = tt
  known_each (w ∷ ws) k = (known_parts w k.0, known_each ws k.1)

  pub all_known : (ps : List JaniProperty) → AreSound file ps → Each (λ p. HasKnown (parts p)) ps
  all_known ps sound =
      subst (λ qs. Each (λ p. HasKnown (parts p)) qs) sound.are
      (known_each sound.written
      (empty_each (unknown_names (global_thing file) (structure_number file)) sound.written (append_right (doubled TwiceNamed (titles sound.written)) _ sound.names)))

-- ---- part by part
module _ {E F : Type 0} (Same : F → E → Type 0) (f : E → F) where
  asks_agree : {R : Type 0} (a : Ask E R) → Each (λ (x : Role × E). Same (f x.1) x.1) (ask_parts a) → SameAsk Same (ask_with f (λ i. i) a) a
  asks_agree greatest h = tt
  asks_agree least h = tt
  asks_agree (bounded c e) h = (refl, h.0)
  asks_agree (greatest_reward r) h = refl
  asks_agree (least_reward r) h = refl

  paths_agree : (p : Path E) → Each (λ (x : Role × E). Same (f x.1) x.1) (path_parts p) → SamePath Same (path_with f p) p
  paths_agree (finally e) h = h.0
  paths_agree (globally e) h = h.0
  paths_agree (until a b) h = (h.0, h.1.0)
  paths_agree (weak_until a b) h = (h.0, h.1.0)
  paths_agree (finally_within k e) h = (h.0, h.1.0)
  paths_agree (until_within k a b) h = (h.0, h.1.0, h.1.1.0)

-- ---- all properties
module _ (file : File) where
  abbrev HasSame : Role × Expression → Type 0
  HasSame x = SameValue (translated file) (naming file) (translated_expression file x.1) x.1

  property_agrees : (p : JaniProperty) (e : Entry) → Each HasSame (parts p) → Agree (translated file) (naming file) (translated_property file p e) p
  property_agrees p e h =
      let r = each_parts HasSame (ask_parts p.ask) (path_parts p.path) h in
      record {
        ask = asks_agree (SameValue (translated file) (naming file)) (translated_expression file) p.ask r.0;
        path = paths_agree (SameValue (translated file) (naming file)) (translated_expression file) p.path r.1;
      }

  all_agree : (ps : List JaniProperty) (es : List Entry) → length es ≡ length ps → Each (λ p. Each HasSame (parts p)) ps → AllAgree (translated file) (naming file) (with_entries file ps es) ps
  all_agree [] es l h = tt
  all_agree (p ∷ ps) [] l h = absurd (omega (arith, l))
  all_agree (p ∷ ps) (e ∷ es) l h = (property_agrees p e h.0, all_agree ps es (omega (arith, l)) h.1)

  -- there is an entry for each property
  pub entries_each : (ps : List JaniProperty) → length (property_entries file ps) ≡ length ps
  entries_each ps =
      let a = one_each Prism (asks file ++ property_asks ps) in
      let b = length-append (asks file) (property_asks ps) in
      let of : JaniProperty → Wanted = λ p. (OfProperty, p.name) in
      let d = length-map ps of in
      length-drop (length (asks file)) (entries_of Prism (asks file ++ property_asks ps)) ∙ omega (arith, a, b, d)

  has_same : IsChecked file → (x : Role × Expression) → HasForm operators.arity x.1 → IsKnown file x.1 → HasSame x
  has_same checked x form known = λ p j typed match. value_same file checked p j match x.1 known form.operands

pub translated_agree : TranslatedAgree
translated_agree file checked ps are =
    all_agree file ps (property_entries file ps) (entries_each file ps)
    (each_with (JaniForm (length (structures file))) (λ p. HasKnown file (parts p)) (λ p. Each (HasSame file) (parts p))
    (λ p form known. each_with (λ x. HasForm operators.arity x.1) (λ x. IsKnown file x.1) (HasSame file) (has_same file checked) (parts p) form.expressions known) ps are.form
    (all_known file ps are.sound))
