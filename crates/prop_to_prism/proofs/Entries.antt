-- The entries of a file are the first ones where the names of properties are asked for behind its own.
use Rattle.std.proofs.Common.{arith, ◌≡◌, ◌∙◌, refl, sym, ap, ℕ, zero, suc, ◌+◌, ◌≤◌, List, [], ◌∷◌, ◌++◌, length, take, drop, map, length-append}
use Rattle.std.proofs.lemmas.List.{length-map}
use Rattle.jani_tree.specs.Syntax.{File, element_names}
use Rattle.jani_meaning.specs.Elements.{lasting, labels, structures}
use Rattle.name_table.specs.declared.class.NameClass.TheVariants.{Variable, Label, Reward}
use Rattle.name_table.specs.declared.class.Target.TheVariants.{Prism}
use Rattle.name_table.specs.declared.entry.Entry.{Entry}
use Rattle.name_table.specs.Entries.{Ask, entries_of}
use Rattle.name_table.specs.Asks.{some_from}
use Rattle.name_table.specs.Laws.{FirstAlone}
use Rattle.name_table.specs.PrismAsks.{asks, entries, names_by, ask_for, constant_ask, location_ask, module_ask, actions_at, rewards_at, labels_at}

-- a part of the first so many is a part of all
take_front : {A : Type 0} (n m : ℕ) (xs : List A) → n ≤ m → take n (take m xs) ≡ take n xs
take_front zero m xs h = refl
take_front (suc n) zero xs h = absurd (omega (arith, h))
take_front (suc n) (suc m) [] h = refl
take_front (suc n) (suc m) (x ∷ xs) h = ap (λ l. x ∷ l) (take_front n m xs (omega (arith, h)))

part_front : {A : Type 0} (at n m : ℕ) (xs : List A) → at + n ≤ m → take n (drop at (take m xs)) ≡ take n (drop at xs)
part_front zero n m xs h = take_front n m xs (omega (arith, h))
part_front (suc at) n zero xs h = absurd (omega (arith, h))
part_front (suc at) n (suc m) [] h = refl
part_front (suc at) n (suc m) (x ∷ xs) h = part_front at n m xs (omega (arith, h))

module _ (file : File) where
  -- how many names a file asks for
  pub asks_count : length (asks file) ≡ actions_at file
  asks_count =
      let c = length-map file.constants constant_ask in
      let v = length-map (lasting file) (ask_for Variable) in
      let l = length-map (element_names file) location_ask in
      let m = length-map (element_names file) module_ask in
      let b = length-map (labels file) (ask_for Label) in
      let r = length-map (structures file) (ask_for Reward) in
      let br = length-append (map (ask_for Label) (labels file)) (map (ask_for Reward) (structures file)) in
      let mbr = length-append (map module_ask (element_names file)) (map (ask_for Label) (labels file) ++ map (ask_for Reward) (structures file)) in
      let lmbr = length-append (map location_ask (element_names file)) (map module_ask (element_names file) ++ (map (ask_for Label) (labels file) ++ map (ask_for Reward) (structures file))) in
      let vs = length-append (map (ask_for Variable) (lasting file)) (map location_ask (element_names file) ++ (map module_ask (element_names file) ++ (map (ask_for Label) (labels file) ++ map (ask_for Reward) (structures file)))) in
      let cs = length-append (map constant_ask file.constants) (map (ask_for Variable) (lasting file) ++ (map location_ask (element_names file) ++ (map module_ask (element_names file) ++ (map (ask_for Label) (labels file) ++ map (ask_for Reward) (structures file))))) in
      omega (arith, c, v, l, m, b, r, br, mbr, lmbr, vs, cs)

  module _ (first : FirstAlone) (more : List Ask) where
    abbrev all : List Entry
    all = entries_of Prism (asks file ++ more)

    part_same : (at n : ℕ) → at + n ≤ length (asks file) → some_from at n all ≡ some_from at n (entries file)
    part_same at n h = sym (part_front at n (length (asks file)) all h) ∙ ap (λ es. some_from at n es) (first Prism (asks file) more)

    pub constants_same : (names_by file all).constants ≡ (names_by file (entries file)).constants
    constants_same = part_same 0 (length file.constants) (let a = asks_count in omega (arith, a))

    pub variables_same : (names_by file all).variables ≡ (names_by file (entries file)).variables
    variables_same = part_same (length file.constants) (length (lasting file)) (let a = asks_count in omega (arith, a))

    pub labels_same : (names_by file all).labels ≡ (names_by file (entries file)).labels
    labels_same = part_same (labels_at file) (length (labels file)) (let a = asks_count in omega (arith, a))

    pub rewards_same : (names_by file all).rewards ≡ (names_by file (entries file)).rewards
    rewards_same = part_same (rewards_at file) (length (structures file)) (let a = asks_count in omega (arith, a))

    pub behind_same : (names_by file all).actions ≡ drop (length (asks file)) all
    behind_same = ap (λ n. drop n all) (sym asks_count)
