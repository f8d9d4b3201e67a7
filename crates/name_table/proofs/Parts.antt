-- The entries of a part of the asks: their classes, and that the names of those of one space differ.
use Rattle.std.specs.Prelude.{◌≡◌, ◌≢◌, ℕ, zero, suc, ◌+◌, ◌<◌, ◌≤◌, List, [], ◌∷◌, ◌++◌, map, length, take, drop, Bool, true, false, Option, Some, None, slice_get, get_or, bytes_eq}
use Rattle.std.specs.List.{All}
use Rattle.std.specs.Option.{option_map}
use Rattle.std.proofs.Common.{refl, sym, ap, ap₂, subst, ◌∙◌, arith, length-drop}
use Rattle.std.proofs.lemmas.Slice.Eq.{bytes_eq-Decides}
use Rattle.std.proofs.lemmas.Option.{slice_get-map, slice_get-get_or}
use Rattle.std.proofs.lemmas.List.{length-map, length-take-le, get_or-map}
use Rattle.std.proofs.lemmas.List.Elements.{All-nil, All-cons}
use Rattle.basics.specs.Texts.{bytes_ne}
use Rattle.basics.specs.Lists.{slice_get-drop, slice_get-take, slice_get-append_add}
use Rattle.process_core.specs.Ready.{Name}
use Rattle.process_core.proofs.Targets.{Distinct}
use Rattle.prism_tree.specs.Syntax.{File}
use Rattle.name_table.specs.declared.class.NameClass.{NameClass}
use Rattle.name_table.specs.declared.class.NameClass.TheVariants.{Constant, Variable, Label, Reward, Module as OfModule, Action}
use Rattle.name_table.specs.declared.class.Target.{Target}
use Rattle.name_table.specs.declared.class.Target.TheVariants.{Jani}
use Rattle.name_table.specs.declared.entry.Entry.{Entry}
use Rattle.name_table.specs.Rule.{space, begins_zz, made_name}
use Rattle.name_table.specs.Entries.{Ask, count_of, entries_of}
use Rattle.name_table.specs.Asks.{ask, called, contents, bodies, variables, actions, constant_asks, variable_asks, label_asks, reward_asks, module_asks, action_asks, asks, entries, some_from, new_names, modules_at, actions_at}
use Rattle.name_table.proofs.EntryLemmas.{one_each, placed, kept_is_old, others_are_made, kept_is_no_made, no_two_alike}

-- ---- members of cut lists

pub get_part : (k n i : ℕ) (es : List Entry) (e : Entry) → slice_get (some_from k n es) i ≡ Some e → (i < n) × (slice_get es (k + i) ≡ Some e)
get_part k n i es e h = let t = slice_get-take n i (drop k es) e h in (t.0, sym (slice_get-drop k i es) ∙ t.1)

-- ---- entries by their places
module _ (t : Target) (asked : List Ask) where
  -- the names of two entries of one space differ
  pub names_apart : (i j : ℕ) (e u : Entry) → i ≢ j → slice_get (entries_of t asked) i ≡ Some e → slice_get (entries_of t asked) j ≡ Some u →
      space t e.class ≡ space t u.class → bytes_eq e.name u.name ≡ false
  names_apart i j e u d g h s = bytes_ne e.name u.name (no_two_alike t asked i j e u g h d s)

  -- what is known of the class of the ask is known of that of the entry
  pub class_has : (P : NameClass → Type 0) (i : ℕ) (e : Entry) → ((a : Ask) → slice_get asked i ≡ Some a → P a.0) → slice_get (entries_of t asked) i ≡ Some e → P e.class
  class_has P i e h g =
      let p = placed t asked i e g in
      subst P (sym (kept_is_old t asked i p.asked e (record { entry = g; ask = p.ask })).0) (h p.asked p.ask)

  -- no entry has a name that begins with zz_ and is none of those that are made for its class
  pub not_named : (i : ℕ) (e : Entry) (z : Name) → slice_get (entries_of t asked) i ≡ Some e → begins_zz z ≡ true → ((n : ℕ) → made_name e.class n ≡ z → ⊥) → e.name ≡ z → ⊥
  not_named i e z g b h q = by_kept e.kept refl
    where
      by_kept : (k : Bool) → e.kept ≡ k → ⊥
      by_kept true f = let r : true ≡ false = sym (ap begins_zz q ∙ b) ∙ kept_is_no_made t asked i e g f in absurd cc
      by_kept false f = h (count_of e.class (take i (entries_of t asked))) (sym (others_are_made t asked i e g f) ∙ q)

-- ---- the classes of asks
class_in : Option Ask → NameClass
class_in None = Constant
class_in (Some a) = a.0

-- where the ask of each thing has a property, and the first n behind them have it
pub first_have : {X : Type 0} (P : NameClass → Type 0) (f : X → Ask) → ((x : X) → P (f x).0) → (xs : List X) (rest : List Ask) (n : ℕ) →
    ((i : ℕ) (a : Ask) → i < n → slice_get rest i ≡ Some a → P a.0) → (i : ℕ) (a : Ask) → i < length xs + n → slice_get (map f xs ++ rest) i ≡ Some a → P a.0
unfolding class_in
first_have P f h [] rest n k i a l g = k i a (omega arith) g
first_have P f h (x ∷ xs) rest n k zero a l g = subst P (ap class_in g) (h x)
first_have P f h (x ∷ xs) rest n k (suc i) a l g = first_have P f h xs rest n k i a (omega arith) g

action_named : (o : Option Name) (a : Ask) → option_map (ask Action) o ≡ Some a → a.0 ≡ Action
unfolding class_in
action_named None a h = absurd cc
action_named (Some x) a h = ap class_in (sym h)

-- ---- so many entries of one space
differ_from : (x : Name) (xs : List Name) → ((j : ℕ) → j < length xs → bytes_eq x (get_or xs j []) ≡ false) → All (λ y. bytes_eq x y ≡ false) xs
differ_from x [] h = All-nil (λ y. bytes_eq x y ≡ false)
differ_from x (y ∷ ys) h = All-cons (λ y. bytes_eq x y ≡ false) y ys (h 0 (omega arith)) (differ_from x ys (λ j l. h (suc j) (omega arith)))

distinct_from : (xs : List Name) → ((i j : ℕ) → i < j → j < length xs → bytes_eq (get_or xs i []) (get_or xs j []) ≡ false) → Distinct bytes_eq bytes_eq-Decides xs
distinct_from [] h = tt
distinct_from (x ∷ xs) h = (differ_from x xs (λ j l. h 0 (suc j) (omega arith) (omega arith)), distinct_from xs (λ i j l m. h (suc i) (suc j) (omega arith) (omega arith)))

pub record IsPart (t : Target) (c : NameClass) (n : ℕ) (es : List Entry) : Type 0 where
  pub long : length es ≡ n
  pub distinct : Distinct bytes_eq bytes_eq-Decides (map (λ e. e.name) es)
  pub spaces : All (λ e. space t e.class ≡ space t c) es

no_entry : Entry
no_entry = record { class = Constant; name = []; kept = false }

module _ (t : Target) (asked : List Ask) (c : NameClass) (k n : ℕ) (within : k + n ≤ length asked) (alike : (i : ℕ) (a : Ask) → i < n → slice_get asked (k + i) ≡ Some a → space t a.0 ≡ space t c) where
  abbrev those : List Entry
  those = some_from k n (entries_of t asked)

  those_long : length those ≡ n
  those_long =
      let a = one_each t asked in
      let b = length-drop k (entries_of t asked) in
      length-take-le n (drop k (entries_of t asked)) (omega arith)

  entry_there : (i : ℕ) (d : Entry) → i < length those → slice_get (entries_of t asked) (k + i) ≡ Some (get_or those i d)
  entry_there i d l = (get_part k n i (entries_of t asked) (get_or those i d) (slice_get-get_or those i d l)).1

  in_space : (i : ℕ) (d : Entry) → i < length those → space t (get_or those i d).class ≡ space t c
  in_space i d l =
      let m = those_long in
      class_has t asked (λ b. space t b ≡ space t c) (k + i) (get_or those i d) (λ a g. alike i a (omega arith) g) (entry_there i d l)

  pub part : IsPart t c n those
  part = record {
    long = those_long;
    distinct =
        distinct_from (map (λ e. e.name) those)
        (λ i j l m.
        let q = length-map those (λ (e : Entry). e.name) in
        let i_in : i < length those = omega arith in
        let j_in : j < length those = omega arith in
        ap₂ (λ x y. bytes_eq x y) (get_or-map (λ (e : Entry). e.name) those i no_entry [] i_in) (get_or-map (λ (e : Entry). e.name) those j no_entry [] j_in)
        ∙ names_apart t asked (k + i) (k + j) (get_or those i no_entry) (get_or those j no_entry) (λ h. omega arith) (entry_there i no_entry i_in) (entry_there j no_entry j_in)
        (in_space i no_entry i_in ∙ sym (in_space j no_entry j_in)));
    spaces = in_space;
  }

-- ---- the entries of a PRISM file
module _ (file : File) where
  abbrev IsValue : NameClass → Type 0
  IsValue c = space Jani c ≡ space Jani Constant

  -- those before the modules' are of constants, variables, labels and reward structures, which have one space
  value_class : (i : ℕ) (e : Entry) → i < modules_at file (entries file) → slice_get (entries file) i ≡ Some e → IsValue e.class
  value_class i e l g =
      let vs = length (variables file) in
      let ls = length file.labels in
      let rs = length file.rewards in
      let rest = module_asks file ++ action_asks file in
      class_has Jani (asks file) IsValue i e
      (λ a k.
      first_have IsValue (λ c. ask Constant c.name.name) (λ c. refl) file.constants (variable_asks file ++ (label_asks file ++ (reward_asks file ++ rest))) (vs + (ls + (rs + 0)))
      (first_have IsValue (λ x. ask Variable x.name.name) (λ x. refl) (variables file) (label_asks file ++ (reward_asks file ++ rest)) (ls + (rs + 0))
      (first_have IsValue (λ l. ask Label l.name.name) (λ l. refl) file.labels (reward_asks file ++ rest) (rs + 0)
      (first_have IsValue (λ r. (Reward, called r.name)) (λ r. refl) file.rewards rest 0 (λ j b m h. absurd (omega arith))))) i a (omega arith) k) g

  behind_values : (i : ℕ) → slice_get (asks file) (modules_at file (entries file) + i) ≡ slice_get (module_asks file ++ action_asks file) i
  behind_values i =
      let cs = length file.constants in
      let vs = length (variables file) in
      let ls = length file.labels in
      let rs = length file.rewards in
      let re : modules_at file (entries file) + i ≡ cs + (vs + (ls + (rs + i))) = omega arith in
      ap (slice_get (asks file)) re
      ∙ slice_get-append_add (constant_asks file) _ cs _ (length-map file.constants _)
      ∙ slice_get-append_add (variable_asks file) _ vs _ (length-map (variables file) _)
      ∙ slice_get-append_add (label_asks file) _ ls _ (length-map file.labels _)
      ∙ slice_get-append_add (reward_asks file) (module_asks file ++ action_asks file) rs i (length-map file.rewards _)

  n_bodies : length (bodies file) ≡ length file.modules
  n_bodies = length-map file.modules contents

  pub module_class : (i : ℕ) (e : Entry) → i < length file.modules → slice_get (entries file) (modules_at file (entries file) + i) ≡ Some e → e.class ≡ OfModule
  module_class i e l g =
      let n = n_bodies in
      class_has Jani (asks file) (λ c. c ≡ OfModule) (modules_at file (entries file) + i) e
      (λ a k.
      first_have (λ c. c ≡ OfModule) (λ m. ask OfModule m.name.name) (λ m. refl) (bodies file) (action_asks file) 0 (λ j b m h. absurd (omega arith)) i a (omega arith)
      (sym (behind_values i) ∙ k)) g

  behind_modules : (i : ℕ) → slice_get (asks file) (actions_at file (entries file) + i) ≡ slice_get (action_asks file) i
  behind_modules i =
      let ms = length file.modules in
      let re : actions_at file (entries file) + i ≡ modules_at file (entries file) + (ms + i) = omega arith in
      ap (slice_get (asks file)) re ∙ behind_values (ms + i) ∙ slice_get-append_add (module_asks file) (action_asks file) ms i (length-map (bodies file) _ ∙ n_bodies)

  pub action_class : (i : ℕ) (e : Entry) → slice_get (entries file) (actions_at file (entries file) + i) ≡ Some e → e.class ≡ Action
  action_class i e g =
      class_has Jani (asks file) (λ c. c ≡ Action) (actions_at file (entries file) + i) e
      (λ a k. action_named (slice_get (actions file) i) a (sym (slice_get-map (ask Action) (actions file) i) ∙ sym (behind_modules i) ∙ k)) g

  -- two of one part, at different places, have different names
  pub values_apart : (i j : ℕ) (e u : Entry) → i < modules_at file (entries file) → j < modules_at file (entries file) → i ≢ j →
      slice_get (entries file) i ≡ Some e → slice_get (entries file) j ≡ Some u → bytes_eq e.name u.name ≡ false
  values_apart i j e u l k d g h = names_apart Jani (asks file) i j e u d g h (value_class i e l g ∙ sym (value_class j u k h))

  pub modules_apart : (i j : ℕ) (e u : Entry) → i ≢ j → slice_get (new_names file).modules i ≡ Some e → slice_get (new_names file).modules j ≡ Some u → bytes_eq e.name u.name ≡ false
  modules_apart i j e u d g h =
      let at = modules_at file (entries file) in
      let a = get_part at (length file.modules) i (entries file) e g in
      let b = get_part at (length file.modules) j (entries file) u h in
      names_apart Jani (asks file) (at + i) (at + j) e u (λ q. d (omega arith)) a.1 b.1 (ap (space Jani) (module_class i e a.0 a.1 ∙ sym (module_class j u b.0 b.1)))

  pub action_at : (i : ℕ) (e : Entry) → slice_get (drop (actions_at file (entries file)) (entries file)) i ≡ Some e → slice_get (entries file) (actions_at file (entries file) + i) ≡ Some e
  action_at i e h = sym (slice_get-drop (actions_at file (entries file)) i (entries file)) ∙ h

  pub actions_apart : (i j : ℕ) (e u : Entry) → i ≢ j → slice_get (drop (actions_at file (entries file)) (entries file)) i ≡ Some e →
      slice_get (drop (actions_at file (entries file)) (entries file)) j ≡ Some u → bytes_eq e.name u.name ≡ false
  actions_apart i j e u d g h =
      let at = actions_at file (entries file) in
      names_apart Jani (asks file) (at + i) (at + j) e u (λ q. d (omega arith)) (action_at i e g) (action_at j u h)
      (ap (space Jani) (action_class i e (action_at i e g) ∙ sym (action_class j u (action_at j u h))))
