-- Properties of a judged file, as they are written in it and as properties of its model.
use Rattle.std.proofs.Common.{◌≡◌, ℕ, ◌<◌, refl, sym, ap, subst, ◌∙◌, List, [], ◌∷◌, ◌++◌, map, length, flat_map, Option, Some, None, Bool, true, false, is_some, not}
use Rattle.std.specs.Prelude.{bytes_eq, codes, IsSomeAnd, IsTrue, max}
use Rattle.std.specs.List.{IsDistinct, AllByRecursion as OfAll}
use Rattle.std.specs.Option.{option_map}
use Rattle.basics.specs.Lists.{append_left, append_right, IsNotEmpty as HasItems}
use Rattle.bridge_io.specs.declared.reason.Named.{Named}
use Rattle.bridge_io.specs.declared.reason.Reason.{Reason}
use Rattle.bridge_io.specs.declared.reason.Reason.TheVariants.{TwiceNamed, Unknown}
use Rattle.bridge_io.specs.declared.reason.Fault.{Fault}
use Rattle.basics.specs.Options.{if_some}
use Rattle.name_rules.specs.Least.{fault_if}
use Rattle.name_rules.specs.Doubled.{clash, doubled_after, doubled}
use Rattle.name_rules.proofs.Plain.{no_fault}
use Rattle.jani_table.specs.Node.{Node, null, truth, number, text, array, object, Nodes, no_nodes, more_nodes}
use Rattle.jani_table.specs.Faults.{items_in, is_array}
use Rattle.jani_tree.specs.Syntax.{Expression, Var, File}
use Rattle.jani_tree.specs.Form.{NormalNode, NormalNodes, VarRead}
use Rattle.jani_tree.specs.Jani.{Each, IsNamed, IsText}
use Rattle.jani_check.specs.NameFaults as names
use Rattle.jani_check.specs.NameFaults.{var_names, global_names}
use Rattle.jani_check.specs.Faults.{IsChecked}
use Rattle.jani_check.specs.Things.{global_thing}
use Rattle.jani_check.proofs.Profiled.{first_none}
use Rattle.prop_grammar.specs.Property.{Ask, greatest, least, bounded, greatest_reward, least_reward, Path, finally}
use Rattle.prop_trees.specs.Trees.{Name, JaniProperty, structure_of, ask_with}
use Rattle.prop_trees.specs.Form.{AsksWell, JaniForm, IsFinally}
use Rattle.prop_trees.specs.JaniText.{part, Is, IsValues, IsTitle, IsProperty, IsReached, structure_name, AreProperties}
use Rattle.prop_trees.proofs.Single.{AreApart, HasStructure, single_properties}
use Rattle.jani_props.specs.Syntax.{Written}
use Rattle.jani_props.specs.Spelled.{IsAsked, IsTitled, IsWritten, AreWritten}
use Rattle.jani_props.specs.Faults.{shape_faults, name_faults, type_faults, unknown_names, unknown_structure, structures, structures_among, structure_number, numbered, or_nought, filed, titles}
use Rattle.jani_props.specs.Reading.{AreRead}
use Rattle.jani_props.proofs.Numbering.{is_structure, among_reward, among_other, named_at}
use Rattle.jani_props.proofs.Forms.{part_then, asked_formed}

-- ---- each structure's name stands once, and is not empty

clash_at : (r : Reason) (n m : Named) (before after : List Named) → flat_map (clash r n) (before ++ m ∷ after) ≡ [] → bytes_eq m.name n.name ≡ false
clash_at r n m [] after e = no_fault (bytes_eq m.name n.name) (max m.at n.at) r (append_left (clash r n m) (flat_map (clash r n) after) e)
clash_at r n m (b ∷ before) after e = clash_at r n m before after (append_right (clash r n b) (flat_map (clash r n) (before ++ m ∷ after)) e)

-- what holds of a variable's name holds of the structure's that it is
among : (P : Name → Type 0) (v : Var) (vs : List Var) (b : Bool) → is_structure v ≡ b → P v.name.name → OfAll P (structures_among vs) → OfAll P (structures_among (v ∷ vs))
among P v vs true h p r = subst (OfAll P) (sym (among_reward v vs h)) (p, r)
among P v vs false h p r = subst (OfAll P) (sym (among_other v vs h)) r

not_later : (r : Reason) (m : Named) (before after : List Named) (vs : List Var) → doubled_after r (before ++ m ∷ after) (var_names vs) ≡ [] → OfAll (λ x. bytes_eq m.name x ≡ false) (structures_among vs)
not_later r m before after [] e = tt
not_later r m before after (v ∷ vs) e =
    among (λ x. bytes_eq m.name x ≡ false) v vs (is_structure v) refl
    (clash_at r v.name m before after (append_left _ (doubled_after r (v.name ∷ (before ++ m ∷ after)) (var_names vs)) e))
    (not_later r m (v.name ∷ before) after vs (append_right (flat_map (clash r v.name) (before ++ m ∷ after)) _ e))

distinct_by : (v : Var) (vs : List Var) (b : Bool) → is_structure v ≡ b → OfAll (λ x. bytes_eq v.name.name x ≡ false) (structures_among vs) → IsDistinct bytes_eq (structures_among vs) →
    IsDistinct bytes_eq (structures_among (v ∷ vs))
unfolding IsDistinct
distinct_by v vs true h n d = subst (IsDistinct bytes_eq) (sym (among_reward v vs h)) (n, d)
distinct_by v vs false h n d = subst (IsDistinct bytes_eq) (sym (among_other v vs h)) d

distinct : (r : Reason) (earlier : List Named) (vs : List Var) → doubled_after r earlier (var_names vs) ≡ [] → IsDistinct bytes_eq (structures_among vs)
unfolding IsDistinct
distinct r earlier [] e = tt
distinct r earlier (v ∷ vs) e =
    let later : doubled_after r (v.name ∷ earlier) (var_names vs) ≡ [] = append_right (flat_map (clash r v.name) earlier) _ e in
    distinct_by v vs (is_structure v) refl (not_later r v.name [] earlier vs later) (distinct r (v.name ∷ earlier) vs later)

behind : (r : Reason) (earlier ns ms : List Named) → doubled_after r earlier (ns ++ ms) ≡ [] → (before : List Named) × (doubled_after r before ms ≡ [])
behind r earlier [] ms e = (earlier, e)
behind r earlier (n ∷ ns) ms e = behind r (n ∷ earlier) ns ms (append_right (flat_map (clash r n) earlier) _ e)

all_some : (vs : List Var) → OfAll (VarRead HasItems) vs → OfAll (λ x. x ≡ [] → ⊥) (structures_among vs)
all_some [] h = tt
all_some (v ∷ vs) h = among (λ x. x ≡ [] → ⊥) v vs (is_structure v) refl (λ e. subst HasItems e h.0.name) (all_some vs h.1)

-- ---- pieces

some_then : {P Q : Node → Type 0} (o : Option Node) → ((w : Node) → P w → Q w) → IsSomeAnd o P → IsSomeAnd o Q
some_then None h i = i
some_then (Some w) h i = h w i

title_text : (v : Node) (n : Option Named) → IsTitled v n → IsTitle v (option_map (λ n. n.name) n)
title_text v None i = i
title_text v (Some n) i = subst (λ w. IsText w n.name) (sym i) refl

known_of : (o : Option ℕ) (at : ℕ) (rest : List Fault) → fault_if (not (is_some o)) at Unknown ++ rest ≡ [] → (i : ℕ) × (o ≡ Some i)
known_of None at rest e = absurd cc
known_of (Some i) at rest e = (i, refl)

finally_reached : (v : Node) (p : Path Expression) → IsReached v p → IsFinally p
finally_reached v (finally e) i = tt
finally_reached v p i = absurd i

reached_finally : (o : Option Node) (p : Path Expression) → IsSomeAnd o (λ w. IsReached w p) → IsFinally p
reached_finally None p i = absurd i
reached_finally (Some w) p i = finally_reached w p i

module _ (file : File) (is_checked : IsChecked file) where
  abbrev rewards : List Name
  rewards = structures file

  abbrev own_number : Named → ℕ
  own_number n = numbered (structure_number file) n

  rewards_apart : AreApart rewards
  rewards_apart =
      let clean : names.name_faults file ≡ [] = first_none (names.name_faults file) _ is_checked.clean in
      let twice : names.doubled_names file ≡ [] = append_left (names.doubled_names file) _ clean in
      let global : doubled TwiceNamed (global_names file) ≡ [] = append_left (doubled TwiceNamed (global_names file)) _ twice in
      let b = behind TwiceNamed [] (map (λ c. c.name) file.constants) (var_names file.variables) global in
      record { distinct = distinct TwiceNamed b.0 file.variables b.1; some = all_some file.variables is_checked.form.variables }

  -- a structure that there is
  abbrev IsThere : Named → Type 0
  IsThere n = (i : ℕ) × (structure_number file n.name ≡ Some i)

  there_name : (n : Named) (t : IsThere n) → structure_name rewards (own_number n) ≡ n.name
  there_name n t = ap (λ o. structure_name rewards (or_nought o)) t.1 ∙ (named_at rewards n.name t.0 t.1).1

  there_below : (n : Named) (t : IsThere n) → own_number n < length rewards
  there_below n t = subst (λ o. or_nought o < length rewards) (sym t.1) (named_at rewards n.name t.0 t.1).0

  -- the structure of a query of rewards is there
  abbrev AskThere : Ask Expression Named → Type 0
  AskThere (greatest_reward n) = IsThere n
  AskThere (least_reward n) = IsThere n
  AskThere greatest = Unit {0}
  AskThere least = Unit {0}
  AskThere (bounded c e) = Unit {0}

  ask_there : (a : Ask Expression Named) → flat_map (unknown_structure (structure_number file)) (if_some (structure_of a)) ≡ [] → AskThere a
  ask_there (greatest_reward n) e = known_of (structure_number file n.name) n.at [] e
  ask_there (least_reward n) e = known_of (structure_number file n.name) n.at [] e
  ask_there greatest e = tt
  ask_there least e = tt
  ask_there (bounded c e) f = tt

  abbrev filed_ask : Ask Expression Named → Ask Expression ℕ
  filed_ask a = ask_with (λ e. e) own_number a

  -- ---- what is written is spelled as a property of the model

  asked_values : (v : Node) (a : Ask Expression Named) (p : Path Expression) → AskThere a → IsAsked v a p → IsValues rewards v (filed_ask a) p
  asked_values v greatest p t i = i
  asked_values v least p t i = i
  asked_values v (bounded c e) p t i = i
  asked_values v (greatest_reward n) p t i = (
    i.0,
    some_then {P = λ w. IsNamed w n} {Q = λ w. IsText w (structure_name rewards (own_number n))} (part (codes "exp") v) (λ w h. subst (λ x. IsText w x) (sym (there_name n t)) (subst (λ u. IsText u n.name) (sym h) refl)) i.1,
    i.2,
  )
  asked_values v (least_reward n) p t i = (
    i.0,
    some_then {P = λ w. IsNamed w n} {Q = λ w. IsText w (structure_name rewards (own_number n))} (part (codes "exp") v) (λ w h. subst (λ x. IsText w x) (sym (there_name n t)) (subst (λ u. IsText u n.name) (sym h) refl)) i.1,
    i.2,
  )

  -- what a value says of the values of its filter
  abbrev AsksOf : Written → Node → Type 0
  AsksOf p w = IsAsked w p.ask p.path

  abbrev ValuesOf : JaniProperty → Node → Type 0
  ValuesOf q w = IsValues rewards w q.ask q.path

  written_property : (v : Node) (p : Written) → AskThere p.ask → IsWritten v p → IsProperty rewards v (filed file p)
  written_property v p t i = record {
    name = some_then {P = λ w. IsTitled w p.name} {Q = λ w. IsTitle w (filed file p).name} (part (codes "name") v) (λ w h. title_text w p.name h) i.name;
    values =
        some_then {P = λ f. Is (codes "values") f (AsksOf p)} {Q = λ f. Is (codes "values") f (ValuesOf (filed file p))} (part (codes "expression") v)
        (λ f h. some_then {P = AsksOf p} {Q = ValuesOf (filed file p)} (part (codes "values") f) (λ w a. asked_values w p.ask p.path t a) h) i.values;
  }

  -- ---- and it has the form of properties

  asks_well : (v : Node) (a : Ask Expression Named) (p : Path Expression) → AskThere a → IsAsked v a p → AsksWell (length rewards) (filed_ask a) p
  asks_well v greatest p t i = tt
  asks_well v least p t i = tt
  asks_well v (bounded c e) p t i = tt
  asks_well v (greatest_reward n) p t i = (there_below n t, reached_finally _ p i.2)
  asks_well v (least_reward n) p t i = (there_below n t, reached_finally _ p i.2)

  written_form : (v : Node) (p : Written) → NormalNode v → AskThere p.ask → IsWritten v p → JaniForm (length rewards) (filed file p)
  written_form v p n t i =
      part_then (codes "expression") v (λ f. Is (codes "values") f (AsksOf p)) (JaniForm (length rewards) (filed file p)) n i.values
      (λ f m h. part_then (codes "values") f (AsksOf p) (JaniForm (length rewards) (filed file p)) m h (λ w k a. record { expressions = asked_formed own_number w p.ask p.path k a; asks = asks_well w p.ask p.path t a }))

  -- ---- the list

  abbrev unknown : Written → List Fault
  unknown p = unknown_names (global_thing file) (structure_number file) p

  there : (p : Written) (ps : List Written) → flat_map unknown (p ∷ ps) ≡ [] → AskThere p.ask
  there p ps e = ask_there p.ask (append_left (flat_map (unknown_structure (structure_number file)) (if_some (structure_of p.ask))) _ (append_left (unknown p) (flat_map unknown ps) e))

  rest : (p : Written) (ps : List Written) → flat_map unknown (p ∷ ps) ≡ [] → flat_map unknown ps ≡ []
  rest p ps e = append_right (unknown p) (flat_map unknown ps) e

  each_property : (vs : Nodes) (ps : List Written) → flat_map unknown ps ≡ [] → Each IsWritten vs ps → Each (IsProperty rewards) vs (map (filed file) ps)
  each_property no_nodes [] e i = tt
  each_property no_nodes (p ∷ ps) e i = absurd i
  each_property (more_nodes v vs) [] e i = absurd i
  each_property (more_nodes v vs) (p ∷ ps) e i = (written_property v p (there p ps e) i.0, each_property vs ps (rest p ps e) i.1)

  has_structure : (a : Ask Expression Named) → AskThere a → HasStructure rewards (filed_ask a)
  has_structure (greatest_reward n) t = there_below n t
  has_structure (least_reward n) t = there_below n t
  has_structure greatest t = tt
  has_structure least t = tt
  has_structure (bounded c e) t = tt

  each_structure : (ps : List Written) → flat_map unknown ps ≡ [] → OfAll (λ q. HasStructure rewards q.ask) (map (filed file) ps)
  each_structure [] e = tt
  each_structure (p ∷ ps) e = (has_structure p.ask (there p ps e), each_structure ps (rest p ps e))

  each_form : (vs : Nodes) (ps : List Written) → NormalNodes vs → flat_map unknown ps ≡ [] → Each IsWritten vs ps → OfAll (JaniForm (length rewards)) (map (filed file) ps)
  each_form no_nodes [] n e i = tt
  each_form no_nodes (p ∷ ps) n e i = absurd i
  each_form (more_nodes v vs) [] n e i = absurd i
  each_form (more_nodes v vs) (p ∷ ps) n e i = (written_form v p n.0 (there p ps e) i.0, each_form vs ps n.1 (rest p ps e) i.1)

  items_normal : (v : Node) → NormalNode v → IsTrue (is_array v) → NormalNodes (items_in v)
  items_normal (array at vs) n a = n
  items_normal (null at) n a = absurd cc
  items_normal (truth at b) n a = absurd cc
  items_normal (number at d) n a = absurd cc
  items_normal (text at s) n a = absurd cc
  items_normal (object at ms close) n a = absurd cc

  pub all_read : (ps : List Written) → shape_faults file ≡ [] → AreWritten file.properties ps → name_faults file ps ≡ [] → type_faults file ps ≡ [] → AreRead file (map (filed file) ps)
  all_read ps s w n t =
      let u : flat_map unknown ps ≡ [] = append_right (doubled TwiceNamed (titles ps)) (flat_map unknown ps) n in
      let spelled : AreProperties rewards file.properties (map (filed file) ps) = record { list = w.list; items = each_property (items_in file.properties) ps u w.items } in
      record {
        shape = s;
        spelled = spelled;
        only = λ qs i. sym (single_properties rewards rewards_apart file.properties (map (filed file) ps) qs (each_structure ps u) spelled i);
        are = record {
          form = each_form (items_in file.properties) ps (items_normal file.properties is_checked.form.properties w.list) u w.items;
          sound = record { written = ps; are = refl; names = n; types = t };
        };
        written = w;
      }
