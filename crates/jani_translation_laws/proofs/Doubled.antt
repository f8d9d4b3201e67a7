-- No two names of a translated file that have to differ are the same.
use Rattle.std.specs.Prelude.{◌≡◌, ◌≢◌, ℕ, zero, suc, ◌+◌, List, [], ◌∷◌, ◌++◌, map, length, take, drop, Bool, true, false, Option, Some, None, slice_get, bytes_eq, Contains}
use Rattle.std.specs.List.{All, flat_map, zip, AllByRecursion as Each}
use Rattle.std.proofs.Common.{refl, sym, ap, ap₂, subst, ◌∙◌, arith}
use Rattle.std.proofs.lemmas.List.{map-append}
use Rattle.std.proofs.lemmas.List.Concat.{flat_map-append}
use Rattle.std.proofs.lemmas.List.Elements.{All-head, All-tail}
use Rattle.std.proofs.lemmas.Slice.Eq.{bytes_eq-Decides}
use Rattle.basics.specs.Texts.{bytes_ne}
use Rattle.basics.specs.Lists.{append_both}
use Rattle.basics.specs.Each.{each_then, each_with, each_map, each_join, each_any}
use Rattle.bridge_io.specs.declared.reason.Named.{Named}
use Rattle.bridge_io.specs.declared.reason.Reason.TheVariants.{TwiceNamed}
use Rattle.process_core.specs.Ready.{Name}
use Rattle.process_core.specs.Product.{map-map}
use Rattle.process_core.proofs.Targets.{Distinct, firsts_distinct}
use Rattle.prism_tree.specs.Syntax as prism
use Rattle.process_core.specs.Instance.{only_if}
use Rattle.prism_flat.specs.Scene.{has_condition}
use Rattle.jani_tree.specs.Syntax.{Write, Automaton}
use Rattle.name_rules.proofs.Plain.{Apart, not_doubled}
use Rattle.jani_check.specs.NameFaults.{doubled, var_names, global_names, automaton_names, doubled_in, repeated_enabled}
use Rattle.jani_translation.specs.Entry.{Entry}
use Rattle.jani_translation.proofs.Parts.{get_part, values_apart}
use Rattle.jani_translation.specs.Asks.{bodies, variables, actions, entries, some_from, NewNames, new_names, labels_at}
use Rattle.jani_translation.specs.Parts.{made, constant, variable, label, structure, instead_if}
use Rattle.jani_translation.specs.Automata.{zz_silent, zz_monitor, earns_silently, has_monitor, automaton, module_automata, monitor, monitor_edges, location_values}
use Rattle.jani_translation.specs.Translated.{translated}
use Rattle.jani_translation.proofs.Each.{map-zip-right, for_constants, for_variables, for_labels, for_rewards}
use Rattle.jani_translation.proofs.Differ.{actions_differ, actions_are_not_silent}
use Rattle.jani_translation.proofs.Elements.{IsOther, AreLone, automata_lone}
use Rattle.jani_translation_laws.specs.NameLaws.{NoDoubledNames}
use Rattle.jani_translation.proofs.Counts.{plain_none}

-- ---- names that stand once

abbrev pub names_of : List Named → List Name
names_of ns = map (λ n. n.name) ns

-- one more at the end, perhaps
apart_end : (b : Bool) (y : Name) (xs : List Name) → Apart xs → Each (λ x. bytes_eq x y ≡ false) xs → Apart (xs ++ only_if b y)
apart_end true y [] a h = (tt, tt)
apart_end false y [] a h = tt
apart_end b y (x ∷ xs) a h = (each_join (λ z. bytes_eq x z ≡ false) xs (only_if b y) a.0 (one b), apart_end b y xs a.1 h.1)
  where
    one : (c : Bool) → Each (λ z. bytes_eq x z ≡ false) (only_if c y)
    one true = (h.0, tt)
    one false = tt

-- ---- parts of a list of entries
nothing_taken : {X : Type 0} (n : ℕ) (xs : List X) → xs ≡ [] → take n xs ≡ []
nothing_taken zero xs e = refl
nothing_taken (suc n) [] e = refl
nothing_taken (suc n) (x ∷ xs) e = absurd cc

nothing_left : {X : Type 0} (n : ℕ) (xs : List X) → xs ≡ [] → drop n xs ≡ []
nothing_left zero xs e = e
nothing_left (suc n) [] e = refl
nothing_left (suc n) (x ∷ xs) e = absurd cc

take_two : {X : Type 0} (a b : ℕ) (xs : List X) → take a xs ++ take b (drop a xs) ≡ take (a + b) xs
take_two zero b xs = let e : b ≡ zero + b = omega arith in ap (λ n. take n xs) e
take_two (suc a) b [] = nothing_taken b [] refl ∙ sym (nothing_taken (suc a + b) [] refl)
take_two {X = X} (suc a) b (x ∷ xs) =
    let e : suc (a + b) ≡ suc a + b = omega arith in
    ap (λ (u : List X). x ∷ u) (take_two a b xs) ∙ ap (λ n. take n (x ∷ xs)) e

drop_drop : {X : Type 0} (a b : ℕ) (xs : List X) → drop b (drop a xs) ≡ drop (a + b) xs
drop_drop zero b xs = let e : b ≡ zero + b = omega arith in ap (λ n. drop n xs) e
drop_drop (suc a) b [] = nothing_left b [] refl ∙ sym (nothing_left (suc a + b) [] refl)
drop_drop (suc a) b (x ∷ xs) =
    let e : suc (a + b) ≡ suc a + b = omega arith in
    drop_drop a b xs ∙ ap (λ n. drop n (x ∷ xs)) e

two_parts : (k a b : ℕ) (es : List Entry) → some_from k a es ++ some_from (k + a) b es ≡ some_from k (a + b) es
two_parts k a b es = ap (λ r. take a (drop k es) ++ take b r) (sym (drop_drop k a es)) ∙ take_two a b (drop k es)

-- ---- entries of one space have different names
abbrev pub entry_names : List Entry → List Name
entry_names es = map (λ e. e.name) es

apart_by : (es : List Entry) → ((i j : ℕ) (e u : Entry) → i ≢ j → slice_get es i ≡ Some e → slice_get es j ≡ Some u → bytes_eq e.name u.name ≡ false) → Apart (entry_names es)
apart_by [] d = tt
apart_by (e ∷ es) d = (
  others es (λ j u k. d 0 (suc j) e u (λ q. absurd (omega arith)) refl k),
  apart_by es (λ i j a b n k l. d (suc i) (suc j) a b (λ q. n (omega arith)) k l),
)
  where
    others : (us : List Entry) → ((j : ℕ) (u : Entry) → slice_get us j ≡ Some u → bytes_eq e.name u.name ≡ false) → Each (λ y. bytes_eq e.name y ≡ false) (entry_names us)
    others [] k = tt
    others (u ∷ us) k = (k 0 u refl, others us (λ j w q. k (suc j) w q))

-- ---- automata that are found by their names
lone_apart : (as_ : List Automaton) → AreLone as_ → Apart (names_of (map (λ a. a.name) as_))
lone_apart [] h = tt
lone_apart (a ∷ as_) h = (others as_ h.0, lone_apart as_ h.1)
  where
    others : (bs : List Automaton) → Each (IsOther a) bs → Each (λ y. bytes_eq a.name.name y ≡ false) (names_of (map (λ b. b.name) bs))
    others [] k = tt
    others (b ∷ bs) k = (k.0, others bs k.1)

module _ (file : prism.File) where
  abbrev pub cs : ℕ
  cs = length file.constants

  abbrev pub vs : ℕ
  vs = length (variables file)

  abbrev pub ls : ℕ
  ls = length file.labels

  abbrev pub rs : ℕ
  rs = length file.rewards

  -- ---- constants and variables
  abbrev pub names : NewNames
  names = new_names file

  pub values_named : names_of (global_names (translated file)) ≡ entry_names (some_from 0 (cs + (vs + (ls + rs))) (entries file))
  values_named =
      let es = entries file in
      let c = map-zip-right (λ x. x.name.name) (constant names.value) (λ e. e.name) (λ x e. refl) file.constants names.constants (for_constants file) in
      let v = map-zip-right (λ x. x.name.name) (variable names.value (has_condition file)) (λ e. e.name) (λ x e. refl) (variables file) names.variables (for_variables file) in
      let l = map-zip-right (λ x. x.name.name) label (λ e. e.name) (λ x e. refl) file.labels names.labels (for_labels file) in
      let r = map-zip-right (λ x. x.name.name) structure (λ e. e.name) structure_name file.rewards names.rewards (for_rewards file) in
      let t = (translated file).constants in
      let on : cs ≡ 0 + cs = omega arith in
      let xs = map (λ p. variable names.value (has_condition file) p.0 p.1) (zip (variables file) names.variables) in
      let ys = map (λ p. label p.0 p.1) (zip file.labels names.labels) in
      let zs = map (λ p. structure p.0 p.1) (zip file.rewards names.rewards) in
      map-append (λ n. n.name) (map (λ x. x.name) t) (var_names (xs ++ (ys ++ zs)))
      ∙ ap₂ (λ a b. a ++ b) (map-map (λ n. n.name) (λ x. x.name) t ∙ c)
      (map-map (λ n. n.name) (λ x. x.name) (xs ++ (ys ++ zs))
      ∙ map-append (λ x. x.name.name) xs (ys ++ zs)
      ∙ ap₂ (λ a b. a ++ b) v (map-append (λ x. x.name.name) ys zs ∙ ap₂ (λ a b. a ++ b) l r))
      ∙ ap (λ q. entry_names names.constants ++ (entry_names names.variables ++ q)) (sym (map-append (λ e. e.name) names.labels names.rewards))
      ∙ ap (λ q. entry_names names.constants ++ q) (sym (map-append (λ e. e.name) names.variables (names.labels ++ names.rewards)))
      ∙ sym (map-append (λ e. e.name) names.constants (names.variables ++ (names.labels ++ names.rewards)))
      ∙ ap entry_names
      (ap (λ q. names.constants ++ (names.variables ++ q)) (two_parts (labels_at file es) ls rs es)
      ∙ ap (λ q. names.constants ++ q) (two_parts cs vs (ls + rs) es)
      ∙ ap (λ k. some_from 0 cs es ++ some_from k (vs + (ls + rs)) es) on
      ∙ two_parts 0 cs (vs + (ls + rs)) es)
    where
      structure_name : (r : prism.Rewards) (e : Entry) → (structure r e).name.name ≡ e.name
      structure_name r e = by_name r.name
        where
          by_name : (o : Option Named) → (instead_if o e.name).name ≡ e.name
          by_name None = refl
          by_name (Some n) = refl

  values_once : Apart (names_of (global_names (translated file)))
  values_once =
      subst Apart (sym values_named)
      (apart_by (some_from 0 (cs + (vs + (ls + rs))) (entries file))
      (λ i j e u d g h.
      let a = get_part 0 (cs + (vs + (ls + rs))) i (entries file) e g in
      let b = get_part 0 (cs + (vs + (ls + rs))) j (entries file) u h in
      let l = a.0 in
      let k = b.0 in
      values_apart file (0 + i) (0 + j) e u (omega arith) (omega arith) (λ q. d (omega arith)) a.1 b.1))

  -- ---- actions
  pub each_contained : (xs : List Name) → Each (Contains xs) xs
  each_contained [] = tt
  each_contained (x ∷ xs) = (
    (0, omega arith, refl),
    each_then (Contains xs) (Contains (x ∷ xs)) (λ y c. (suc c.0, (let l = c.1 in omega (arith, l)), c.2)) xs (each_contained xs),
  )

  each_of_all : (P : Name → Type 0) (xs : List Name) → All P xs → Each P xs
  each_of_all P [] h = tt
  each_of_all P (x ∷ xs) h = (All-head P x xs h, each_of_all P xs (All-tail P x xs h))

  one_new : (x y : Name) → bytes_eq x y ≡ false → Contains (actions file) y → bytes_eq (names.action x) (names.action y) ≡ false
  one_new x y d c =
      bytes_ne (names.action x) (names.action y)
      (λ q. let r : true ≡ false = sym ((bytes_eq-Decides x y).1 (actions_differ file y x c q)) ∙ d in absurd cc)

  new_apart : (xs : List Name) → Distinct bytes_eq bytes_eq-Decides xs → Each (Contains (actions file)) xs → Apart (map names.action xs)
  new_apart [] d c = tt
  new_apart (x ∷ xs) d c = (
    each_map (λ y. (bytes_eq x y ≡ false) × Contains (actions file) y) (λ z. bytes_eq (names.action x) z ≡ false) names.action (λ y p. one_new x y p.0 p.1) xs
        (each_with (λ y. bytes_eq x y ≡ false) (Contains (actions file)) (λ y. (bytes_eq x y ≡ false) × Contains (actions file) y) (λ y p q. (p, q)) xs
        (each_of_all (λ y. bytes_eq x y ≡ false) xs d.0) c.1),
    new_apart xs d.1 c.1,
  )

  only_silent : (b : Bool) → names_of (only_if b zz_silent) ≡ only_if b zz_silent.name
  only_silent true = refl
  only_silent false = refl

  pub actions_named : names_of (translated file).actions ≡ map names.action (actions file) ++ only_if (earns_silently file) zz_silent.name
  actions_named =
      map-append (λ n. n.name) (map (λ a. made (names.action a)) (actions file)) (only_if (earns_silently file) zz_silent)
      ∙ ap₂ (λ a b. a ++ b) (map-map (λ n. n.name) (λ a. made (names.action a)) (actions file)) (only_silent (earns_silently file))

  actions_apart : Apart (names_of (translated file).actions)
  actions_apart =
      subst Apart (sym actions_named)
      (apart_end (earns_silently file) zz_silent.name (map names.action (actions file))
      (new_apart (actions file) (firsts_distinct bytes_eq bytes_eq-Decides _) (each_contained (actions file)))
      (each_any (λ x. bytes_eq x zz_silent.name ≡ false) names.action (λ a. bytes_ne (names.action a) zz_silent.name (actions_are_not_silent file a)) (actions file)))

  -- ---- inside of automata: one location each, and no variable
  module_clean : (global : List Named) (silently : Bool) (ws : List Write) (bs : List prism.Body) (es : List Entry) →
      flat_map (doubled_in global) (module_automata names silently ws bs es) ≡ []
  module_clean global silently ws [] es = refl
  module_clean global silently ws (m ∷ bs) [] = refl
  module_clean global silently ws (m ∷ bs) (e ∷ es) = module_clean global silently [] bs es

  monitor_clean : (global : List Named) (b : Bool) → flat_map (doubled_in global) (only_if b (automaton names zz_monitor [] (monitor_edges names file))) ≡ []
  monitor_clean global true = refl
  monitor_clean global false = refl

pub automata_apart : (file : prism.File) → Apart (names_of (automaton_names (translated file)))
automata_apart file = lone_apart (translated file).automata (automata_lone file)

pub none_doubled : (file : prism.File) → NoDoubledNames file
none_doubled file =
    let t = translated file in
    let names = new_names file in
    let as_ = module_automata names (earns_silently file) (location_values names file) (bodies file) names.modules in
    append_both (doubled TwiceNamed (global_names t)) _ (not_doubled TwiceNamed (global_names t) (values_once file))
    (append_both (doubled TwiceNamed t.actions) _ (not_doubled TwiceNamed t.actions (actions_apart file))
    (append_both (doubled TwiceNamed (automaton_names t)) _ (not_doubled TwiceNamed (automaton_names t) (automata_apart file))
    (append_both (flat_map (doubled_in (global_names t)) t.automata) (flat_map repeated_enabled t.elements)
    (flat_map-append (doubled_in (global_names t)) as_ (monitor names file)
    ∙ append_both (flat_map (doubled_in (global_names t)) as_) (flat_map (doubled_in (global_names t)) (monitor names file))
    (module_clean file (global_names t) (earns_silently file) (location_values names file) (bodies file) names.modules)
    (monitor_clean file (global_names t) (has_monitor file)))
    (plain_none repeated_enabled (λ n. refl) t.automata))))
