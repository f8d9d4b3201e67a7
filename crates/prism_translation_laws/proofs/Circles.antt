-- No constant of a translated file depends on itself, since none does in the JANI file.
use Rattle.std.proofs.Math.Path.{fun_ext}
use Rattle.std.specs.List.{flat_map, filter, zip, list_any, position, position_or_len, AllByRecursion as Each}
use Rattle.std.specs.Prelude.{◌≡◌, ◌<◌, ◌≤◌, ℕ, zero, suc, ◌+◌, List, [], ◌∷◌, ◌++◌, map, length, Bool, true, false, not, ◌&&◌, ◌||◌, Option, Some, None, slice_get, get_or, bytes_eq, nat_eq, nat_lt, unwrap_or, cond, if◌then◌else◌, max}
use Rattle.std.specs.Option.{option_map, option_or}
use Rattle.std.proofs.Common.{refl, sym, ap, ap₂, subst, ◌∙◌, arith, eq-eqb, lt-ltb, ltb-true, append-nil}
use Rattle.std.proofs.lemmas.Bool.{ne_eqb, eqb-true}
use Rattle.std.proofs.lemmas.Slice.Eq.{bytes_eq-Decides}
use Rattle.std.proofs.lemmas.Option.{slice_get_within, slice_get-map}
use Rattle.std.proofs.lemmas.List.{map-append}
use Rattle.std.proofs.lemmas.List.Elements.{All-weaker, recursion_from_All, All-from_recursion}
use Rattle.std.proofs.lemmas.List.Folds.{list_any-append, list_any_none}
use Rattle.std.proofs.lemmas.List.Quantifiers.{position-Some}
use Rattle.std.proofs.Math.Bool.{and_comm}
use Rattle.basics.specs.Booleans.{not_both}
use Rattle.basics.specs.Texts.{bytes_ne, bytes_eq-self}
use Rattle.basics.specs.Lists.{append_parts, append_both}
use Rattle.basics.specs.Each.{each_then, each_map, each_parts, empty_each, at_each}
use Rattle.basics.specs.Members.{any-map, none_passes, none_at_end}
use Rattle.frac_core.specs.declared.decimal.Decimal.{Decimal}
use Rattle.bridge_io.specs.declared.reason.Named.{Named}
use Rattle.bridge_io.specs.declared.reason.Reason.{Reason}
use Rattle.bridge_io.specs.declared.reason.Reason.TheVariants.{TwiceNamed, Cycle}
use Rattle.op_trees.specs.Tree.{Truth, Number, Name as At, One, Two, Three}
use Rattle.op_trees.specs.Names.{names_of, is_called}
use Rattle.process_core.specs.Product.{map-map}
use Rattle.process_core.specs.Ready.{Name}
use Rattle.choice_laws.proofs.Walks.{any-filter}
use Rattle.prism_lex.specs.Tokens.{is_name}
use Rattle.prism_tree.specs.declared.operator.PrismOp.TheVariants as P
use Rattle.prism_tree.specs.Syntax as prism
use Rattle.process_core.specs.Instance.{numbered}
use Rattle.prism_check.specs.NameFaults as pc
use Rattle.name_rules.specs.Uses.{used}
use Rattle.name_rules.proofs.Plain.{no_fault, fault_none}
use Rattle.prism_check.specs.NameFaults.{Declared, circles}
use Rattle.jani_tree.specs.Syntax.{Expression, Const, Var, Automaton, File, element_names}
use Rattle.jani_check.specs.NameFaults as jc
use Rattle.jani_check.specs.NameFaults.{global_names, var_names}
use Rattle.jani_check.specs.Faults.{IsChecked}
use Rattle.jani_meaning.specs.Elements as jani
use Rattle.jani_meaning.specs.Elements.{owned_by, is_lasting, is_own, is_global, lasting, place_of}
use Rattle.prism_translation.specs.Entry.{Entry}
use Rattle.prism_translation.specs.PrismAsks.{NewNames, name_at, value_name, outside}
use Rattle.prism_translation.specs.Image.{unsigned, literal, image}
use Rattle.prism_translation.specs.Names.{new_names}
use Rattle.prism_translation.specs.Parts.{constant}
use Rattle.prism_translation.specs.Translated.{translated}
use Rattle.prism_translation.specs.Sound.{IsConstant}
use Rattle.prism_translation.proofs.ColumnNames.{entries_differ, entries_long, constant_entry}
use Rattle.prism_translation.proofs.Follows.{variable_name}
use Rattle.prism_translation.proofs.Clean.{once_here, no_circles}
use Rattle.prism_translation_laws.proofs.Segments.{constants_part, constant_spelled}
use Rattle.prism_translation_laws.proofs.Values.{Differ, column_named, nowhere, constant_differs, constant_becomes, variable_becomes, place_below}
use Rattle.jani_meaning.specs.LoopLaws.{element_count}

-- ---- names of images
abbrev bytes_of : List Named → List Name
bytes_of ns = map (λ n. n.name) ns

literal_named : (at : ℕ) (d : Decimal) → names_of (literal at d) ≡ []
literal_named at d = by_sign d.negative
  where
    by_sign : (b : Bool) → names_of (if b then One at P.Neg (Number at (unsigned d)) else Number at d) ≡ []
    by_sign true = refl
    by_sign false = refl

images_named : (new : Name → Name) (e : Expression) → bytes_of (names_of (image new e)) ≡ map new (bytes_of (names_of e))
images_named new (Truth at b) = refl
images_named new (Number at d) = ap bytes_of (literal_named at d)
images_named new (At at x) = refl
images_named new (One at o a) = images_named new a
images_named new (Two at o a b) =
    map-append (λ n. n.name) (names_of (image new a)) (names_of (image new b))
    ∙ ap₂ (λ xs ys. xs ++ ys) (images_named new a) (images_named new b)
    ∙ sym (map-append new (bytes_of (names_of a)) (bytes_of (names_of b)))
    ∙ ap (map new) (sym (map-append (λ n. n.name) (names_of a) (names_of b)))
images_named new (Three at o a b c) =
    map-append (λ n. n.name) (names_of (image new a)) (names_of (image new b) ++ names_of (image new c))
    ∙ ap₂ (λ xs ys. xs ++ ys) (images_named new a)
    (map-append (λ n. n.name) (names_of (image new b)) (names_of (image new c))
    ∙ ap₂ (λ xs ys. xs ++ ys) (images_named new b) (images_named new c)
    ∙ sym (map-append new (bytes_of (names_of b)) (bytes_of (names_of c))))
    ∙ sym (map-append new (bytes_of (names_of a)) (bytes_of (names_of b) ++ bytes_of (names_of c)))
    ∙ ap (map new)
    (ap (λ ys. bytes_of (names_of a) ++ ys) (sym (map-append (λ n. n.name) (names_of b) (names_of c)))
    ∙ sym (map-append (λ n. n.name) (names_of a) (names_of b ++ names_of c)))

abbrev declared : prism.Const → Declared
declared c = pc.declared_const c

-- ---- constants that lead to constants
module _ (file : File) where
  abbrev names : NewNames
  names = new_names file

  abbrev new : Name → Name
  new = value_name file names (outside file)

  abbrev made_const : Const → Entry → prism.Const
  made_const c e = constant file names c e.name

  uses_alike : (c : Const) (e : Entry) → (declared (made_const c e)).uses ≡ map new (jc.uses c)
  uses_alike c e = by_value c.value
    where
      by_value : (o : Option Expression) → used (option_map (image new) o) ≡ map new (jc.uses (record { name = c.name; ty = c.ty; value = o; note = c.note }))
      by_value None = refl
      by_value (Some t) =
          images_named new t ∙ ap (map new) (sym (map-append (λ n. n.name) (names_of t) [] ∙ append-nil (bytes_of (names_of t))))

  module _ (IsOld : Name → Type 0) (alike : (x y : Name) → IsOld y → bytes_eq (new y) (new x) ≡ bytes_eq y x) (turned : (x y : Name) → IsOld y → bytes_eq (new x) (new y) ≡ bytes_eq x y) where
    -- the constants, with entries that have their new names
    abbrev Goes : List Const → List Entry → Type 0
    Goes [] es = Unit {0}
    Goes (c ∷ cs) [] = ⊥
    Goes (c ∷ cs) (e ∷ es) = (e.name ≡ new c.name.name) × IsOld c.name.name × Goes cs es

    abbrev images : List Const → List Entry → List Declared
    images cs es = map declared (map (λ p. made_const p.0 p.1) (zip cs es))

    used_alike : (cs : List Const) (es : List Entry) → Goes cs es → (x : Name) → pc.uses_of (images cs es) (new x) ≡ map new (jc.uses_of cs x)
    used_alike [] es g x = refl
    used_alike (c ∷ cs) [] g x = absurd g
    used_alike (c ∷ cs) (e ∷ es) g x =
        ap (λ b. flat_map (λ (d : Declared). d.uses) (if b then declared (made_const c e) ∷ rest else rest)) (ap (λ n. bytes_eq n (new x)) g.0 ∙ alike x c.name.name g.1)
        ∙ by_test (bytes_eq c.name.name x) (used_alike cs es g.2 x)
      where
        rest : List Declared
        rest = filter (λ d. bytes_eq d.name.name (new x)) (images cs es)

        old_rest : List Const
        old_rest = filter (λ d. bytes_eq d.name.name x) cs

        by_test : (b : Bool) → flat_map (λ (d : Declared). d.uses) rest ≡ map new (flat_map jc.uses old_rest) →
            flat_map (λ (d : Declared). d.uses) (if b then declared (made_const c e) ∷ rest else rest) ≡ map new (flat_map jc.uses (if b then c ∷ old_rest else old_rest))
        by_test true h = ap₂ (λ xs ys. xs ++ ys) (uses_alike c e) h ∙ sym (map-append new (jc.uses c) (flat_map jc.uses old_rest))
        by_test false h = h

    n_images : (cs : List Const) (es : List Entry) → Goes cs es → length (images cs es) ≡ length cs
    n_images [] es g = refl
    n_images (c ∷ cs) [] g = absurd g
    n_images (c ∷ cs) (e ∷ es) g = ap suc (n_images cs es g.2)

    module _ (cs : List Const) (es : List Entry) (g : Goes cs es) where
      lead_alike : (n : ℕ) (x y : Name) → IsOld y → pc.leads_to (images cs es) n (new x) (new y) ≡ jc.leads_to cs n x y
      lead_alike zero x y o = turned x y o
      lead_alike (suc n) x y o =
          ap₂ (λ a b. a || b) (turned x y o)
          (ap (λ zs. list_any (λ z. pc.leads_to (images cs es) n z (new y)) zs) (used_alike cs es g x)
          ∙ any-map (λ z. pc.leads_to (images cs es) n z (new y)) new (jc.uses_of cs x)
          ∙ ap (λ f. list_any f (jc.uses_of cs x)) (fun_ext (λ z. lead_alike n z y o)))

      circular_alike : (c : Const) (e : Entry) → e.name ≡ new c.name.name → IsOld c.name.name → pc.is_circular (images cs es) (declared (made_const c e)) ≡ jc.is_circular cs c
      circular_alike c e h o =
          let n = length (images cs es) in
          let us = jc.uses c in
          ap (λ m. list_any (λ x. pc.leads_to (images cs es) n x m) ((declared (made_const c e)).uses)) h
          ∙ ap (λ zs. list_any (λ x. pc.leads_to (images cs es) n x (new c.name.name)) zs) (uses_alike c e)
          ∙ any-map (λ x. pc.leads_to (images cs es) n x (new c.name.name)) new us
          ∙ ap (λ k. list_any (λ x. pc.leads_to (images cs es) k (new x) (new c.name.name)) us) (n_images cs es g)
          ∙ ap (λ f. list_any f us) (fun_ext (λ x. lead_alike (length cs) x c.name.name o))

      none_circular : (ds : List Const) (us : List Entry) → Goes ds us → Each (λ d. jc.circular cs d ≡ []) ds → flat_map (pc.circular (images cs es)) (images ds us) ≡ []
      none_circular [] us h k = refl
      none_circular (d ∷ ds) [] h k = absurd h
      none_circular (d ∷ ds) (u ∷ us) h k =
          append_both (pc.circular (images cs es) (declared (made_const d u))) (flat_map (pc.circular (images cs es)) (images ds us))
          (fault_none (pc.is_circular (images cs es) (declared (made_const d u))) d.name.at Cycle
          (circular_alike d u h.0 h.1 ∙ no_fault (jc.is_circular cs d) d.name.at Cycle k.0))
          (none_circular ds us h.2 k.1)

-- ---- names that stand once in the JANI file
apart : (r : Reason) (earlier ns : List Named) → jc.doubled_after r earlier ns ≡ [] → Each (λ n. Each (λ m. bytes_eq m.name n.name ≡ false) earlier) ns × Differ (bytes_of ns)
apart r earlier [] h = (tt, tt)
apart r earlier (n ∷ ns) h =
    let p = append_parts (flat_map (jc.clash r n) earlier) (jc.doubled_after r (n ∷ earlier) ns) h in
    let q = apart r (n ∷ earlier) ns p.1 in (
      (
        each_then (λ m. jc.clash r n m ≡ []) (λ m. bytes_eq m.name n.name ≡ false) (λ m e. no_fault (bytes_eq m.name n.name) (max m.at n.at) r e) earlier
            (empty_each (jc.clash r n) earlier p.0),
        each_then (λ k. Each (λ m. bytes_eq m.name k.name ≡ false) (n ∷ earlier)) (λ k. Each (λ m. bytes_eq m.name k.name ≡ false) earlier) (λ k e. e.1) ns q.0,
      ),
      (
        All-from_recursion (λ y. bytes_eq n.name y ≡ false) (bytes_of ns)
            (each_map (λ k. Each (λ m. bytes_eq m.name k.name ≡ false) (n ∷ earlier)) (λ y. bytes_eq n.name y ≡ false) (λ k. k.name) (λ k e. e.0) ns q.0),
        q.1,
      ),
    )

-- what differs in two lists, one behind the other
differ_parts : (xs ys : List Name) → Differ (xs ++ ys) → Differ xs × Each (λ x. Each (λ y. bytes_eq x y ≡ false) ys) xs
differ_parts [] ys h = (tt, tt)
differ_parts (x ∷ xs) ys h =
    let r = differ_parts xs ys h.1 in
    let e = each_parts (λ y. bytes_eq x y ≡ false) xs ys (recursion_from_All (λ y. bytes_eq x y ≡ false) (xs ++ ys) h.0) in
    ((All-from_recursion (λ y. bytes_eq x y ≡ false) xs e.0, r.0), (e.1, r.1))

-- ---- places

nowhere_there : {X : Type 0} (p : X → Bool) (xs : List X) → list_any p xs ≡ false → position p xs ≡ None
nowhere_there p xs h = let e = none_at_end p xs h in ap (λ b. cond b (Some (position_or_len p xs)) None) (not_less (position_or_len p xs) (length xs) e)
  where
    not_less : (a b : ℕ) → a ≡ b → nat_lt a b ≡ false
    not_less a b e = by_test (nat_lt a b) refl
      where
        by_test : (t : Bool) → nat_lt a b ≡ t → nat_lt a b ≡ false
        by_test true g = let l = ltb-true a b g in absurd (let no : ⊥ = omega arith in no)
        by_test false g = g

none_kept : {X : Type 0} (p q : X → Bool) (xs : List X) → list_any q xs ≡ false → list_any q (filter p xs) ≡ false
none_kept p q xs h =
    any-filter q p xs ∙ list_any_none (λ x. p x && q x) xs (All-weaker (λ x. q x ≡ false) (λ x. (p x && q x) ≡ false) (λ x e. and_comm (p x) (q x) ∙ ap (λ b. b && p x) e) xs (none_passes q xs h))

-- the first of a name stands at its place, where no two have one name
first_place : (cs : List Const) → Differ (map (λ c. c.name.name) cs) → (i : ℕ) (d : Const) → slice_get cs i ≡ Some d → position_or_len (λ c. is_called d.name.name c.name) cs ≡ i
first_place [] h i d e = absurd cc
first_place (c ∷ cs) h zero d e = let s : d ≡ c = cc in ap (λ b. cond (not b) (1 + position_or_len (λ c. is_called d.name.name c.name) cs) 0) (ap (λ (u : Const). bytes_eq c.name.name u.name.name) s ∙ bytes_eq-self c.name.name)
first_place (c ∷ cs) h (suc i) d e =
    let o = at_each (λ y. bytes_eq c.name.name y ≡ false) (map (λ c. c.name.name) cs) i d.name.name (recursion_from_All (λ y. bytes_eq c.name.name y ≡ false) (map (λ c. c.name.name) cs) h.0) (slice_get-map (λ c. c.name.name) cs i ∙ ap (option_map (λ c. c.name.name)) e) in
    let r = first_place cs h.1 i d e in
    ap₂ (λ b k. cond (not b) (1 + k) 0) o r ∙ (let z : 1 + i ≡ suc i = omega arith in z)

module _ (file : File) (checked : IsChecked file) where
  abbrev n : ℕ
  n = length (element_names file)

  globals_apart : Differ (map (λ c. c.name.name) file.constants) × Each (λ x. Each (λ y. bytes_eq x y ≡ false) (map (λ v. v.name.name) file.variables)) (map (λ c. c.name.name) file.constants)
  globals_apart =
      let d = (append_parts (jc.doubled TwiceNamed (global_names file)) _ (once_here file checked)).0 in
      differ_parts (map (λ c. c.name.name) file.constants) (map (λ v. v.name.name) file.variables)
      (subst Differ
      (map-append (λ (y : Named). y.name) (map (λ c. c.name) file.constants) (var_names file.variables)
      ∙ ap₂ (λ a b. a ++ b) (map-map (λ (y : Named). y.name) (λ (c : Const). c.name) file.constants) (map-map (λ (y : Named). y.name) (λ (v : Var). v.name) file.variables))
      (apart TwiceNamed [] (global_names file) d).1)

  no_own : (x : Name) (k : ℕ) (as_ : List Automaton) → k + length as_ ≤ n → list_any (is_own n x) (numbered (λ i a. owned_by (Some i) a.variables) k as_) ≡ false
  no_own x k [] l = refl
  no_own x k (a ∷ as_) l =
      list_any-append (is_own n x) (owned_by (Some k) a.variables) (numbered (λ i a. owned_by (Some i) a.variables) (k + 1) as_)
      ∙ ap₂ (λ b c. b || c) (others a.variables) (no_own x (k + 1) as_ (omega arith))
    where
      others : (vs : List Var) → list_any (is_own n x) (owned_by (Some k) vs) ≡ false
      others [] = refl
      others (v ∷ vs) = ap₂ (λ b c. b || c) (ap (λ b. b && is_called x v.name) (ne_eqb n k (λ e. let no : ⊥ = omega arith in no))) (others vs)

  no_global : (x : Name) (k : ℕ) (as_ : List Automaton) → list_any (is_global x) (numbered (λ i a. owned_by (Some i) a.variables) k as_) ≡ false
  no_global x k [] = refl
  no_global x k (a ∷ as_) =
      list_any-append (is_global x) (owned_by (Some k) a.variables) (numbered (λ i a. owned_by (Some i) a.variables) (k + 1) as_)
      ∙ ap₂ (λ b c. b || c) (others a.variables) (no_global x (k + 1) as_)
    where
      others : (vs : List Var) → list_any (is_global x) (owned_by (Some k) vs) ≡ false
      others [] = refl
      others (v ∷ vs) = others vs

  global_own : (x : Name) (vs : List Var) → list_any (is_own n x) (owned_by None vs) ≡ false
  global_own x [] = refl
  global_own x (v ∷ vs) = global_own x vs

  global_apart : (x : Name) (vs : List Var) → Each (λ y. bytes_eq x y ≡ false) (map (λ v. v.name.name) vs) → list_any (is_global x) (owned_by None vs) ≡ false
  global_apart x [] h = refl
  global_apart x (v ∷ vs) h = ap₂ (λ b c. b || c) (turned x v.name.name h.0) (global_apart x vs h.1)
    where
      turned : (y z : Name) → bytes_eq y z ≡ false → bytes_eq z y ≡ false
      turned y z e = bytes_ne z y (λ s. not_both (bytes_eq y z) (ap (λ u. bytes_eq y u) s ∙ bytes_eq-self y) e)

  -- no variable has the name of a constant, outside of elements
  no_place : (x : Name) → Each (λ y. bytes_eq x y ≡ false) (map (λ v. v.name.name) file.variables) → place_of (lasting file) n x ≡ None
  no_place x h =
      let inner = numbered (λ i a. owned_by (Some i) a.variables) 0 (jani.elements file) in
      let l = element_count file in
      ap₂ option_or
      (nowhere_there (is_own n x) (lasting file)
      (none_kept is_lasting (is_own n x) (jani.variables file)
      (list_any-append (is_own n x) (owned_by None file.variables) inner ∙ ap₂ (λ b c. b || c) (global_own x file.variables) (no_own x 0 (jani.elements file) (omega arith)))))
      (nowhere_there (is_global x) (lasting file)
      (none_kept is_lasting (is_global x) (jani.variables file)
      (list_any-append (is_global x) (owned_by None file.variables) inner ∙ ap₂ (λ b c. b || c) (global_apart x file.variables h) (no_global x 0 (jani.elements file)))))

  -- a constant stands first among those of its name
  pub is_constant : (i : ℕ) (d : Const) → slice_get file.constants i ≡ Some d → IsConstant file n d.name.name
  is_constant i d e =
      let p : Const → Bool = λ c. is_called d.name.name c.name in
      let k = first_place file.constants globals_apart.0 i d e in
      let l = slice_get_within file.constants i d e in
      record {
        no_variable =
            no_place d.name.name
            (at_each (λ x. Each (λ y. bytes_eq x y ≡ false) (map (λ v. v.name.name) file.variables)) (map (λ c. c.name.name) file.constants) i d.name.name globals_apart.1
            (slice_get-map (λ c. c.name.name) file.constants i ∙ ap (option_map (λ c. c.name.name)) e));
        number = i;
        stands_there = ap₂ (λ b j. cond b (Some j) None) (lt-ltb (position_or_len p file.constants) (length file.constants) (omega arith)) k;
      }

  -- ---- new names of constants differ from all others
  no_constant : Const
  no_constant = record { name = record { name = []; at = 0 }; ty = Rattle.op_trees.specs.declared.tree.Ty.TheVariants.Bool; value = None; note = None }

  called_at : (x : Name) (i : ℕ) → position (λ c. is_called x c.name) file.constants ≡ Some i → (i < length file.constants) × (x ≡ (get_or file.constants i no_constant).name.name)
  called_at x i h =
      let p = position-Some (λ c. is_called x c.name) file.constants i no_constant h in
      (p.0, sym ((bytes_eq-Decides (get_or file.constants i no_constant).name.name x).0 p.1))

  new_same : (x y : Name) → IsConstant file n y → new file x ≡ new file y → x ≡ y
  new_same x y h e = by_place (place_of (lasting file) n x) refl
    where
      there : (h.number < length file.constants) × (y ≡ (get_or file.constants h.number no_constant).name.name)
      there = called_at y h.number h.stands_there

      new_y : new file y ≡ name_at (names file).constants h.number
      new_y = constant_becomes file n y h

      by_number : (i : ℕ) → position (λ c. is_called x c.name) file.constants ≡ Some i → (b : Bool) → nat_eq i h.number ≡ b → name_at (names file).constants i ≡ name_at (names file).constants h.number → x ≡ y
      by_number i f true t s = (called_at x i f).1 ∙ ap (λ k. (get_or file.constants k no_constant).name.name) (eqb-true i h.number t) ∙ sym there.1
      by_number i f false t s =
          let a = (called_at x i f).0 in
          let b = there.0 in
          let l = entries_long file in
          absurd (entries_differ file (0 + i) (0 + h.number) (omega arith) (omega arith) (λ q. not_both (nat_eq i h.number) (eq-eqb i h.number (omega arith)) t)
          (sym (constant_entry file i a) ∙ s ∙ constant_entry file h.number b))

      by_constant : (o : Option ℕ) → position (λ c. is_called x c.name) file.constants ≡ o → place_of (lasting file) n x ≡ None → x ≡ y
      by_constant (Some i) f g =
          by_number i f (nat_eq i h.number) refl
          (sym (constant_becomes file n x (record { no_variable = g; number = i; stands_there = f })) ∙ e ∙ new_y)
      by_constant None f g =
          let empty : new file x ≡ [] =
          ap₂ (λ a b. unwrap_or (option_or (option_map (name_at (names file).variables) a) (option_map (name_at (names file).constants) b)) []) g f in
          let s : [] ≡ name_at (names file).constants h.number = sym empty ∙ e ∙ new_y in
          let t : is_name [] ≡ true = ap is_name s ∙ (constant_spelled file h.number there.0).0 in
          absurd cc

      by_place : (o : Option ℕ) → place_of (lasting file) n x ≡ o → x ≡ y
      by_place None g = by_constant (position (λ c. is_called x c.name) file.constants) refl g
      by_place (Some i) g =
          let l = place_below file n x i g in
          let s : name_at (names file).constants h.number ≡ column_named file (n + i) =
          sym new_y ∙ sym e ∙ variable_becomes file n x i g ∙ sym (variable_name file (nowhere file) (nowhere file) [] i) in
          not_both (bytes_eq (name_at (names file).constants h.number) (column_named file (n + i))) ((bytes_eq-Decides (name_at (names file).constants h.number) (column_named file (n + i))).1 s)
          (constant_differs file h.number (n + i) there.0 (omega arith))

  same_tests : (a b c d : Name) → (a ≡ b → c ≡ d) → (c ≡ d → a ≡ b) → bytes_eq a b ≡ bytes_eq c d
  same_tests a b c d f g = by_test (bytes_eq c d) refl
    where
      by_test : (t : Bool) → bytes_eq c d ≡ t → bytes_eq a b ≡ t
      by_test true e = (bytes_eq-Decides a b).1 (g ((bytes_eq-Decides c d).0 e))
      by_test false e = bytes_ne a b (λ q. not_both (bytes_eq c d) ((bytes_eq-Decides c d).1 (f q)) e)

  abbrev IsOld : Name → Type 0
  IsOld x = IsConstant file n x

  alike : (x y : Name) → IsOld y → bytes_eq (new file y) (new file x) ≡ bytes_eq y x
  alike x y o = same_tests (new file y) (new file x) y x (λ q. sym (new_same x y o (sym q))) (λ q. ap (new file) q)

  turned : (x y : Name) → IsOld y → bytes_eq (new file x) (new file y) ≡ bytes_eq x y
  turned x y o = same_tests (new file x) (new file y) x y (λ q. new_same x y o q) (λ q. ap (new file) q)

  goes_from : (k : ℕ) (cs : List Const) (es : List Entry) → length es ≡ length cs → ((i : ℕ) (d : Const) → slice_get cs i ≡ Some d → slice_get file.constants (k + i) ≡ Some d) →
      ((i : ℕ) (u : Entry) → slice_get es i ≡ Some u → slice_get (names file).constants (k + i) ≡ Some u) → Goes file IsOld alike turned cs es
  unfolding is_constant
  goes_from k [] es l f g = tt
  goes_from k (d ∷ cs) [] l f g = absurd (let no : ⊥ = omega arith in no)
  goes_from k (d ∷ cs) (u ∷ es) l f g =
      let z : k + 0 ≡ k = omega arith in
      let h : slice_get file.constants k ≡ Some d = ap (slice_get file.constants) (sym z) ∙ f 0 d refl in
      let i : slice_get (names file).constants k ≡ Some u = ap (slice_get (names file).constants) (sym z) ∙ g 0 u refl in
      let old = is_constant k d h in (
        ap (λ o. unwrap_or (option_map (λ (v : Entry). v.name) o) []) (sym i) ∙ sym (constant_becomes file n d.name.name old),
        old,
        goes_from (k + 1) cs es (omega arith)
            (λ j c s. let y : (k + 1) + j ≡ k + suc j = omega arith in ap (slice_get file.constants) y ∙ f (suc j) c s)
            (λ j c s. let y : (k + 1) + j ≡ k + suc j = omega arith in ap (slice_get (names file).constants) y ∙ g (suc j) c s),
      )

  pub none_circular_there : circles (translated file) ≡ []
  none_circular_there =
      let cs = file.constants in
      let es = (names file).constants in
      let goes =
      goes_from 0 cs es (constants_part file).long (λ i d e. let z : 0 + i ≡ i = omega arith in ap (slice_get cs) z ∙ e) (λ i d e. let z : 0 + i ≡ i = omega arith in ap (slice_get es) z ∙ e) in
      let r = none_circular file IsOld alike turned cs es goes cs es goes (empty_each (jc.circular cs) cs (no_circles file checked)) in
      subst (λ ds. flat_map (pc.circular ds) ds ≡ []) (sym (append-nil (images file IsOld alike turned cs es))) r
