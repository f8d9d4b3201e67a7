-- Translated properties that are written are read as themselves.
use Rattle.std.specs.Prelude.{◌≡◌, ◌<◌, ℕ, suc, List, [], ◌∷◌, map, length, false, cond, Option, Some, None, unwrap_or, bytes_eq}
use Rattle.std.specs.List.{AllByRecursion as Each, AllZip, list_any, position}
use Rattle.std.specs.Option.{option_map}
use Rattle.std.proofs.Common.{refl, sym, ap, ap₂, subst, ◌∙◌}
use Rattle.std.proofs.lemmas.List.Elements.{recursion_from_All}
use Rattle.std.proofs.lemmas.Slice.Eq.{bytes_eq-Decides}
use Rattle.std.proofs.Math.Bool.{or-false}
use Rattle.basics.specs.Each.{each_then, each_parts, each_map, each_none}
use Rattle.basics.specs.Members.{position_cons}
use Rattle.basics.specs.Texts.{bytes_eq_comm}
use Rattle.bridge_io.specs.declared.reason.Named.{Named}
use Rattle.choice_laws.proofs.Walks.{cons_parts}
use Rattle.op_trees.specs.Tree.{Truth, Number, Name as At, One, Two, Three, AllNames, bare, renamed}
use Rattle.op_trees.specs.SeenLaws.{names_then}
use Rattle.basics.specs.Options.{if_some}
use Rattle.process_core.proofs.Targets.{Distinct}
use Rattle.op_trees.specs.Names.{is_called}
use Rattle.prism_tree.specs.Syntax.{Expression, Rewards}
use Rattle.prism_tree.specs.Syntax as prism
use Rattle.name_table.proofs.Trees.{renamed-bare}
use Rattle.jani_tree.specs.Syntax.{File}
use Rattle.jani_tree.specs.Syntax as jani
use Rattle.jani_check.specs.Faults.{IsChecked}
use Rattle.jani_meaning.specs.Elements as all
use Rattle.name_table.specs.declared.entry.Entry.{Entry}
use Rattle.name_table.specs.Asks.{called}
use Rattle.name_table.specs.PrismAsks.{rewards_at}
use Rattle.name_table.proofs.EntryLemmas.{first_alone}
use Rattle.prism_translation_laws.specs.Targets.{targets}
use Rattle.prism_translation_laws.specs.Names.{action_ask}
use Rattle.prism_translation_laws.proofs.Entries.{IsValidName}
use Rattle.prism_translation_laws.proofs.Segments.{rewards_part, valid_from}
use Rattle.prism_translation_laws.proofs.TypedImages.{image_names}
use Rattle.prop_grammar.specs.declared.syntax.Structure.{Structure}
use Rattle.prop_grammar.specs.Property.{Ask, greatest, least, bounded, greatest_reward, least_reward, Path, finally, globally, until, weak_until, finally_within, until_within}
use Rattle.prop_grammar.specs.Syntax.{WrittenProperty}
use Rattle.prop_trees.specs.Trees.{Name, JaniProperty, PrismProperty, Role, parts, ask_parts, path_parts, ask_with, path_with, SameAsk, SamePath}
use Rattle.prop_trees.specs.Names.{filed_name}
use Rattle.prop_trees.specs.Form.{AsksWell}
use Rattle.prop_trees.specs.PrismFaults.{is_titled, number_by, number_of, filed}
use Rattle.prop_trees.specs.Text.{plain_name, plain, structure_name}
use Rattle.prop_trees.specs.Printable.{IsTitle, IsPrintableProperty}
use Rattle.prop_trees.specs.Back.{SameExpression, with_names, names_written, SameWritten}
use Rattle.prop_to_prism.specs.ToPrism.{new_property_name, new_names, reward_names, translated_expression, with_entries}
use Rattle.prop_to_prism.specs.Laws.{bare_property}
use Rattle.prop_to_prism.proofs.Entries.{rewards_same}
use Rattle.prop_to_prism.proofs.Words.{IsFiled}
use Rattle.prop_trees.proofs.Made.{parts_with}
use Rattle.prop_to_prism.proofs.Printing.{HasFiled}
use Rattle.prop_to_prism.proofs.Numbered.{Once, name_there, name_some, number_is}

-- ---- expressions
abbrev pub IsBackName : Name → Type 0
IsBackName x = filed_name (plain_name x) ≡ x

abbrev pub IsBack : Expression → Type 0
IsBack e = AllNames IsBackName e

undone : (e : Expression) → IsBack e → renamed filed_name (plain e) ≡ e
undone (Truth at b) h = refl
undone (Number at d) h = refl
undone (At at x) h = ap (At at) h
undone (One at o a) h = ap (One at o) (undone a h)
undone (Two at o a b) h = ap₂ (Two at o) (undone a h.0) (undone b h.1)
undone (Three at o a b c) h = ap₂ {B = Expression → Expression} (λ r f. f r) (undone a h.0) (ap₂ (λ s t r. Three at o r s t) (undone b h.1) (undone c h.2))

read_back : (e x : Expression) → SameExpression e x → IsBack e → bare (renamed filed_name x) ≡ bare e
read_back e x h n = sym (renamed-bare filed_name x) ∙ ap (renamed filed_name) h ∙ renamed-bare filed_name (plain e) ∙ ap bare (undone e n)

-- ---- properties
module _ (file : prism.File) (rewards : List Name) (numbers : (r : ℕ) → r < length rewards → number_by file (Some (structure_name rewards r)) ≡ Some r) where
  number_back : (r : ℕ) (s : Structure) → r < length rewards → Some (structure_name rewards r) ≡ s.name → number_of file s ≡ r
  number_back r s l h = ap (λ o. unwrap_or (number_by file o) 0) (sym h) ∙ ap (λ o. unwrap_or o 0) (numbers r l)

  ask_back : (a : Ask Expression ℕ) (b : Ask Expression Structure) (p : Path Expression) → AsksWell (length rewards) a p → Each (λ (x : Role × Expression). IsBack x.1) (ask_parts a) →
      SameAsk SameExpression (with_names rewards a) (names_written b) → ask_with bare (λ r. r) (ask_with (renamed filed_name) (number_of file) b) ≡ ask_with bare (λ r. r) a
  ask_back greatest greatest p w n h = refl
  ask_back greatest least p w n h = absurd h
  ask_back greatest (bounded d x) p w n h = absurd h
  ask_back greatest (greatest_reward s) p w n h = absurd h
  ask_back greatest (least_reward s) p w n h = absurd h
  ask_back least greatest p w n h = absurd h
  ask_back least least p w n h = refl
  ask_back least (bounded d x) p w n h = absurd h
  ask_back least (greatest_reward s) p w n h = absurd h
  ask_back least (least_reward s) p w n h = absurd h
  ask_back (bounded c e) greatest p w n h = absurd h
  ask_back (bounded c e) least p w n h = absurd h
  ask_back (bounded c e) (bounded d x) p w n h = ap₂ (λ c e. bounded c e) (sym h.0) (read_back e x h.1 n.0)
  ask_back (bounded c e) (greatest_reward s) p w n h = absurd h
  ask_back (bounded c e) (least_reward s) p w n h = absurd h
  ask_back (greatest_reward r) greatest p w n h = absurd h
  ask_back (greatest_reward r) least p w n h = absurd h
  ask_back (greatest_reward r) (bounded d x) p w n h = absurd h
  ask_back (greatest_reward r) (greatest_reward s) p w n h = ap greatest_reward (number_back r s w.0 h)
  ask_back (greatest_reward r) (least_reward s) p w n h = absurd h
  ask_back (least_reward r) greatest p w n h = absurd h
  ask_back (least_reward r) least p w n h = absurd h
  ask_back (least_reward r) (bounded d x) p w n h = absurd h
  ask_back (least_reward r) (greatest_reward s) p w n h = absurd h
  ask_back (least_reward r) (least_reward s) p w n h = ap least_reward (number_back r s w.0 h)

path_back : (p q : Path Expression) → Each (λ (x : Role × Expression). IsBack x.1) (path_parts p) → SamePath SameExpression p q → path_with bare (path_with (renamed filed_name) q) ≡ path_with bare p
path_back (finally e) (finally x) n h = ap finally (read_back e x h n.0)
path_back (finally e) (globally x) n h = absurd h
path_back (finally e) (until x y) n h = absurd h
path_back (finally e) (weak_until x y) n h = absurd h
path_back (finally e) (finally_within u x) n h = absurd h
path_back (finally e) (until_within u x y) n h = absurd h
path_back (globally e) (finally x) n h = absurd h
path_back (globally e) (globally x) n h = ap globally (read_back e x h n.0)
path_back (globally e) (until x y) n h = absurd h
path_back (globally e) (weak_until x y) n h = absurd h
path_back (globally e) (finally_within u x) n h = absurd h
path_back (globally e) (until_within u x y) n h = absurd h
path_back (until a b) (finally x) n h = absurd h
path_back (until a b) (globally x) n h = absurd h
path_back (until a b) (until x y) n h = ap₂ until (read_back a x h.0 n.0) (read_back b y h.1 n.1.0)
path_back (until a b) (weak_until x y) n h = absurd h
path_back (until a b) (finally_within u x) n h = absurd h
path_back (until a b) (until_within u x y) n h = absurd h
path_back (weak_until a b) (finally x) n h = absurd h
path_back (weak_until a b) (globally x) n h = absurd h
path_back (weak_until a b) (until x y) n h = absurd h
path_back (weak_until a b) (weak_until x y) n h = ap₂ weak_until (read_back a x h.0 n.0) (read_back b y h.1 n.1.0)
path_back (weak_until a b) (finally_within u x) n h = absurd h
path_back (weak_until a b) (until_within u x y) n h = absurd h
path_back (finally_within k e) (finally x) n h = absurd h
path_back (finally_within k e) (globally x) n h = absurd h
path_back (finally_within k e) (until x y) n h = absurd h
path_back (finally_within k e) (weak_until x y) n h = absurd h
path_back (finally_within k e) (finally_within u x) n h = ap₂ finally_within (read_back k u h.0 n.0) (read_back e x h.1 n.1.0)
path_back (finally_within k e) (until_within u x y) n h = absurd h
path_back (until_within k a b) (finally x) n h = absurd h
path_back (until_within k a b) (globally x) n h = absurd h
path_back (until_within k a b) (until x y) n h = absurd h
path_back (until_within k a b) (weak_until x y) n h = absurd h
path_back (until_within k a b) (finally_within u x) n h = absurd h
path_back (until_within k a b) (until_within u x y) n h = ap₂ {B = Expression → Path Expression} (λ t f. f t) (read_back b y h.2 n.1.1.0) (ap₂ (λ s t r. until_within s t r) (read_back k u h.0 n.0) (read_back a x h.1 n.1.0))

module _ (file : prism.File) (rewards : List Name) (numbers : (r : ℕ) → r < length rewards → number_by file (Some (structure_name rewards r)) ≡ Some r) where
  abbrev pub HasBack : PrismProperty → Type 0
  HasBack p = Each (λ x. IsBack x.1) (parts p)

  property_back : (p : PrismProperty) (w : WrittenProperty) → IsPrintableProperty rewards p → HasBack p → SameWritten rewards p w → bare_property (filed file w) ≡ bare_property p
  property_back p w form h same =
      let each = each_parts (λ (x : Role × Expression). IsBack x.1) (ask_parts p.ask) (path_parts p.path) h in
      let ask = ask_back file rewards numbers p.ask w.ask p.path form.asks each.0 same.ask in
      let path = path_back p.path w.path each.1 same.path in
      λ i. record { name = same.name i; ask = ask i; path = path i }

  pub all_back : (ps : List PrismProperty) (ws : List WrittenProperty) → Each (IsPrintableProperty rewards) ps → Each HasBack ps → AllZip (SameWritten rewards) ps ws →
      map (λ w. bare_property (filed file w)) ws ≡ map bare_property ps
  all_back [] [] f h same = refl
  all_back [] (w ∷ ws) f h same = absurd same
  all_back (p ∷ ps) [] f h same = absurd same
  all_back (p ∷ ps) (w ∷ ws) f h same = ap₂ (λ x xs. x ∷ xs) (property_back p w f.0 h.0 same.0) (all_back ps ws f.1 h.1 same.1)

-- ---- the numbers of reward structures
titled : (x y : Name) (o : Option Named) → called o ≡ Some y → list_any (is_called x) (if_some o) ≡ bytes_eq y x
titled x y None e = absurd cc
titled x y (Some n) e = let same : n.name ≡ y = cc in or-false (bytes_eq n.name x) ∙ ap (λ z. bytes_eq z x) same

titled_place : (x : Name) (rs : List Rewards) (ys : List Name) → map (λ r. called r.name) rs ≡ map Some ys → position (is_titled x) rs ≡ position (λ y. bytes_eq y x) ys
titled_place x [] [] e = refl
titled_place x [] (y ∷ ys) e = absurd cc
titled_place x (r ∷ rs) [] e = absurd cc
titled_place x (r ∷ rs) (y ∷ ys) e =
    let both = cons_parts (called r.name) (Some y) (map (λ r. called r.name) rs) (map Some ys) e in
    position_cons (is_titled x) r rs
    ∙ ap₂ (λ b o. cond b (Some 0) (option_map suc o)) (titled x y r.name both.0) (titled_place x rs ys both.1)
    ∙ sym (position_cons (λ z. bytes_eq z x) y ys)

once : (xs : List Name) → Distinct bytes_eq bytes_eq-Decides xs → Once xs
once [] d = tt
once (y ∷ ys) d = (
  each_none (λ z. bytes_eq z y) ys
      (each_then (λ z. bytes_eq y z ≡ false) (λ z. bytes_eq z y ≡ false) (λ z h. bytes_eq_comm z y ∙ h) ys (recursion_from_All (λ z. bytes_eq y z ≡ false) ys d.0)),
  once ys d.1,
)

module _ (file : File) where
  valid_rewards : Each IsValidName (new_names file).rewards
  valid_rewards =
      subst (λ es. Each IsValidName es) (rewards_same file first_alone (map action_ask (targets file))) (valid_from file (rewards_at file) (length (all.structures file)))

  pub titles : Each IsTitle (reward_names file)
  titles = each_map IsValidName IsTitle (λ e. e.name) (λ e v. v.spelled.0) (new_names file).rewards valid_rewards

  rewards_once : Once (reward_names file)
  rewards_once =
      once (reward_names file)
      (subst (λ es. Distinct bytes_eq bytes_eq-Decides (map (λ (e : Entry). e.name) es)) (rewards_same file first_alone (map action_ask (targets file))) (rewards_part file).distinct)

  -- in any tree whose structures have these names
  pub number_there : (model : prism.File) → map (λ r. called r.name) model.rewards ≡ map Some (reward_names file) → (r : ℕ) → r < length (reward_names file) →
      number_by model (Some (structure_name (reward_names file) r)) ≡ Some r
  number_there model named r l =
      titled_place (structure_name (reward_names file) r) model.rewards (reward_names file) named
      ∙ number_is (reward_names file) (structure_name (reward_names file) r) r rewards_once (name_there (reward_names file) r) (name_some (reward_names file) r titles l)

module _ (file : File) (checked : IsChecked file) where
  back_tree : (e : jani.Expression) → HasFiled file checked e → IsBack (translated_expression file e)
  back_tree e h =
      image_names IsBackName (new_property_name file (new_names file)) e
      (names_then (λ x. IsFiled (new_property_name file (new_names file) x)) (λ x. IsBackName (new_property_name file (new_names file) x)) (λ x f. f.back) e h)

  pub back_each : (ps : List JaniProperty) (es : List Entry) → Each (λ p. Each (λ x. HasFiled file checked x.1) (parts p)) ps → Each (λ p. Each (λ x. IsBack x.1) (parts p)) (with_entries file ps es)
  back_each [] es h = tt
  back_each (p ∷ ps) [] h = tt
  back_each (p ∷ ps) (e ∷ es) h = (
    parts_with IsBack (translated_expression file) (λ i. i) p.ask p.path
        (each_then (λ x. HasFiled file checked x.1) (λ (x : Role × jani.Expression). IsBack (translated_expression file x.1)) (λ x. back_tree x.1) (parts p) h.0),
    back_each ps es h.1,
  )
