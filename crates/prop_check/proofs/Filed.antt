-- What the properties have that a text is for a model: the form that translations ask for, names and types without fault.
use Rattle.std.specs.Prelude.{ℕ, ◌<◌, List, [], ◌++◌, map, length, not, Option, Some, None, is_some, unwrap_or, true}
use Rattle.std.specs.List.{flat_map, AllByRecursion as Each}
use Rattle.std.proofs.Common.{◌≡◌, refl, sym, subst}
use Rattle.std.proofs.lemmas.List.Quantifiers.{position-Some}
use Rattle.basics.specs.Each.{each_join, each_map, each_of, each_parts, each_with, empty_each}
use Rattle.basics.specs.Lists.{append_left, append_right}
use Rattle.bridge_io.specs.declared.reason.Reason.TheVariants.{TwiceNamed, Unknown}
use Rattle.op_trees.specs.Tree.{Truth, Number, Name, One, Two, Three, AllNumbers, renamed}
use Rattle.op_trees.specs.Names.{HasOperands}
use Rattle.basics.specs.Options.{if_some}
use Rattle.jani_tree.specs.Form.{IsNormal}
use Rattle.prism_tree.specs.Operators.{arity}
use Rattle.prism_tree.specs.Syntax.{Expression, Rewards, File}
use Rattle.name_rules.specs.Least.{fault_if, or_else}
use Rattle.name_rules.specs.Doubled.{doubled}
use Rattle.prop_grammar.specs.declared.syntax.Structure.{Structure}
use Rattle.prop_grammar.specs.Property.{Ask, greatest, least, bounded, greatest_reward, least_reward, Path, finally, globally, until, weak_until, finally_within, until_within}
use Rattle.prop_grammar.specs.Syntax.{WrittenProperty}
use Rattle.prop_trees.specs.Names.{filed_name}
use Rattle.prop_trees.specs.Trees.{Role, PrismProperty, ask_parts, path_parts, structure_of, ask_with, path_with}
use Rattle.prop_trees.specs.Form.{HasForm, IsFinally, AsksWell, PropertyForm, AreOfPrism}
use Rattle.prop_trees.specs.PrismFaults.{titles, structures, all_parts, is_titled, number_by, structure_number, unknown_structure, unknown_in, name_faults, size_faults, type_faults, faults, number_of, filed}
use Rattle.prop_check.specs.Laws.{AsksFinally, IsWritten}
use Rattle.prop_check.proofs.Phases.{else_parts}

-- ---- the form of expressions whose names are changed
numbers_renamed : (new : List ℕ → List ℕ) (e : Expression) → AllNumbers IsNormal e → AllNumbers IsNormal (renamed new e)
numbers_renamed new (Truth at b) h = tt
numbers_renamed new (Number at d) h = h
numbers_renamed new (Name at x) h = tt
numbers_renamed new (One at o a) h = numbers_renamed new a h
numbers_renamed new (Two at o a b) h = (numbers_renamed new a h.0, numbers_renamed new b h.1)
numbers_renamed new (Three at o a b c) h = (numbers_renamed new a h.0, numbers_renamed new b h.1, numbers_renamed new c h.2)

operands_renamed : (new : List ℕ → List ℕ) (e : Expression) → HasOperands arity e → HasOperands arity (renamed new e)
operands_renamed new (Truth at b) h = tt
operands_renamed new (Number at d) h = tt
operands_renamed new (Name at x) h = tt
operands_renamed new (One at o a) h = (h.0, operands_renamed new a h.1)
operands_renamed new (Two at o a b) h = (h.0, operands_renamed new a h.1, operands_renamed new b h.2)
operands_renamed new (Three at o a b c) h = (h.0, operands_renamed new a h.1, operands_renamed new b h.2, operands_renamed new c h.3)

abbrev Good : Expression → Type 0
Good e = HasForm arity e

abbrev GoodPart : Role × Expression → Type 0
GoodPart x = Good x.1

marked : (e : Expression) → Good e → Good (renamed filed_name e)
marked e h = record { literals = numbers_renamed filed_name e h.literals; operands = operands_renamed filed_name e h.operands }

marked_ask : {S : Type 0} (f : Structure → S) (a : Ask Expression Structure) → Each GoodPart (ask_parts a) → Each GoodPart (ask_parts (ask_with (renamed filed_name) f a))
marked_ask f greatest h = tt
marked_ask f least h = tt
marked_ask f (bounded c e) h = (marked e h.0, tt)
marked_ask f (greatest_reward r) h = tt
marked_ask f (least_reward r) h = tt

marked_path : (p : Path Expression) → Each GoodPart (path_parts p) → Each GoodPart (path_parts (path_with (renamed filed_name) p))
marked_path (finally e) h = (marked e h.0, tt)
marked_path (globally e) h = (marked e h.0, tt)
marked_path (until a b) h = (marked a h.0, (marked b h.1.0, tt))
marked_path (weak_until a b) h = (marked a h.0, (marked b h.1.0, tt))
marked_path (finally_within k e) h = (marked k h.0, (marked e h.1.0, tt))
marked_path (until_within k a b) h = (marked k h.0, (marked a h.1.0, (marked b h.1.1.0, tt)))

finally_marked : (p : Path Expression) → IsFinally p → IsFinally (path_with (renamed filed_name) p)
finally_marked (finally e) h = tt
finally_marked (globally e) h = absurd h
finally_marked (until a b) h = absurd h
finally_marked (weak_until a b) h = absurd h
finally_marked (finally_within k e) h = absurd h
finally_marked (until_within k a b) h = absurd h

module _ (file : File) where
  -- ---- reward structures that the file has
  abbrev IsThere : Structure → Type 0
  IsThere s = unknown_structure file s ≡ []

  nothing : Rewards
  nothing = record { name = None; items = [] }

  place_within : (n : Option (List ℕ)) (i : ℕ) → number_by file n ≡ Some i → i < length file.rewards
  place_within (Some x) i e = (position-Some (is_titled x) file.rewards i nothing e).0
  place_within None i e = (position-Some (λ r. true) file.rewards i nothing e).0

  number_within : (s : Structure) (o : Option ℕ) → structure_number file s ≡ o → fault_if (not (is_some o)) s.at Unknown ≡ [] → unwrap_or o 0 < length file.rewards
  number_within s None e h = absurd cc
  number_within s (Some i) e h = place_within s.name i e

  is_within : (s : Structure) → IsThere s → number_of file s < length file.rewards
  is_within s h = number_within s (structure_number file s) refl h

  -- ---- one property
  asks_well : (a : Ask Expression Structure) (p : Path Expression) → Each IsThere (if_some (structure_of a)) → AsksFinally a p →
      AsksWell (length file.rewards) (ask_with (renamed filed_name) (number_of file) a) (path_with (renamed filed_name) p)
  asks_well greatest p t h = tt
  asks_well least p t h = tt
  asks_well (bounded c e) p t h = tt
  asks_well (greatest_reward s) p t h = (is_within s t.0, finally_marked p h)
  asks_well (least_reward s) p t h = (is_within s t.0, finally_marked p h)

  abbrev HasThere : WrittenProperty → Type 0
  HasThere p = Each IsThere (if_some (structure_of p.ask))

  formed : (p : WrittenProperty) → IsWritten p → HasThere p → PropertyForm arity (length file.rewards) (filed file p)
  formed p w t =
      let parted = each_parts GoodPart (ask_parts p.ask) (path_parts p.path) w.expressions in
      record {
        expressions =
            each_join GoodPart (ask_parts (ask_with (renamed filed_name) (number_of file) p.ask)) (path_parts (path_with (renamed filed_name) p.path))
            (marked_ask (number_of file) p.ask parted.0) (marked_path p.path parted.1);
        asks = asks_well p.ask p.path t w.asks;
      }

  -- ---- all properties of a text without fault
  all_there : (ps : List WrittenProperty) → name_faults file ps ≡ [] → Each HasThere ps
  all_there ps h =
      let rest = append_right (doubled TwiceNamed (titles ps)) (flat_map (unknown_structure file) (structures ps) ++ flat_map (unknown_in file) (all_parts ps)) h in
      each_of IsThere (λ p. if_some (structure_of p.ask)) ps (empty_each (unknown_structure file) (structures ps) (append_left (flat_map (unknown_structure file) (structures ps)) (flat_map (unknown_in file) (all_parts ps)) rest))

  pub are_of_prism : (written : List WrittenProperty) (ps : List PrismProperty) → Each IsWritten written → faults file written ≡ [] → ps ≡ map (filed file) written → AreOfPrism file ps
  are_of_prism written ps w h e =
      let named = else_parts (name_faults file written) (or_else (size_faults file written) (type_faults file written)) h in
      let typed = else_parts (size_faults file written) (type_faults file written) named.1 in
      let Formed : PrismProperty → Type 0 = PropertyForm arity (length file.rewards) in
      let both = each_with IsWritten HasThere (λ p. Formed (filed file p)) formed written w (all_there written named.0) in
      record {
        form = subst (λ qs. Each Formed qs) (sym e) (each_map (λ p. Formed (filed file p)) Formed (filed file) (λ p q. q) written both);
        sound = record { written = written; are = sym e; names = named.0; types = typed.1 };
      }
