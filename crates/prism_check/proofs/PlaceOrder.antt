-- The turns of formulas are an order in which each names only earlier ones.
use Rattle.std.specs.Prelude.{◌≡◌, ℕ, zero, suc, ◌+◌, ◌-◌, ◌<◌, ◌≤◌, List, [], ◌∷◌, ◌++◌, map, length, get_or, max, Bool, true, false, ◌||◌, Option, Some, None, bytes_eq, nat_lt, nat_eq, slice_get, if◌then◌else◌, ◌⊎◌}
use Rattle.std.specs.List.{All, flat_map, find, list_any}
use Rattle.std.specs.Option.{option_map}
use Rattle.std.proofs.Common.{refl, sym, ap, ap₂, subst, ◌∙◌, inl, inr, arith, length-append}
use Rattle.std.proofs.lemmas.Bool.Decides.{nat_tests}
use Rattle.std.proofs.lemmas.List.{append-nil, map-append, length-map, get_or-map, get_or-append_right}
use Rattle.std.proofs.lemmas.List.Concat.{flat_map-append}
use Rattle.std.proofs.lemmas.List.Elements.{All-head, All-tail, All-nil, All-cons}
use Rattle.std.proofs.lemmas.List.Folds.{list_any-append}
use Rattle.std.proofs.lemmas.Option.{slice_get-get_or}
use Rattle.basics.specs.Lists.{append_left, append_right}
use Rattle.basics.specs.Texts.{bytes_eq-self}
use Rattle.bridge_io.specs.declared.reason.Named.{Named}
use Rattle.bridge_io.specs.declared.reason.Reason.{Reason}
use Rattle.bridge_io.specs.declared.reason.Reason.TheVariants.{TwiceNamed}
use Rattle.op_trees.specs.Tree.{Truth}
use Rattle.op_trees.specs.SeenLaws.{names_then}
use Rattle.op_trees.specs.Names.{is_called}
use Rattle.basics.specs.Options.{if_some}
use Rattle.process_core.specs.Ready.{Name}
use Rattle.prism_tree.specs.Syntax.{Expression, Formula, File}
use Rattle.prism_flat.specs.Names.{formula_body}
use Rattle.prism_flat.specs.Places.{formula_names, at_places, stands, IsEarlier, IsListed, IsPlaceOrder}
use Rattle.name_rules.specs.Least.{fault_if}
use Rattle.name_rules.specs.Doubled.{clash, doubled_after, doubled}
use Rattle.name_rules.specs.Circles.{Declared, nothing_declared, declared_at, HasTurned, AreInTurn, turns_from, AreTurns}
use Rattle.prism_check.specs.NameFaults.{doubled_names, values, declared_const, declared_formula, declarations}
use Rattle.op_trees.specs.NameLaws.{each_name}

-- ---- names that are not doubled
module _ (r : Reason) where
  doubled_later : (e xs ys : List Named) → doubled_after r e (xs ++ ys) ≡ [] → (before : List Named) × (doubled_after r before ys ≡ [])
  doubled_later e [] ys h = (e, h)
  doubled_later e (x ∷ xs) ys h = doubled_later (x ∷ e) xs ys (append_right (flat_map (clash r x) e) (doubled_after r (x ∷ e) (xs ++ ys)) h)

  doubled_first : (e xs ys : List Named) → doubled_after r e (xs ++ ys) ≡ [] → doubled_after r e xs ≡ []
  doubled_first e [] ys h = refl
  doubled_first e (x ∷ xs) ys h =
      ap₂ (λ a b. a ++ b) (append_left (flat_map (clash r x) e) (doubled_after r (x ∷ e) (xs ++ ys)) h)
      (doubled_first (x ∷ e) xs ys (append_right (flat_map (clash r x) e) (doubled_after r (x ∷ e) (xs ++ ys)) h))

  no_clash : (n m : Named) → clash r n m ≡ [] → bytes_eq m.name n.name ≡ false
  no_clash n m h = by_test (bytes_eq m.name n.name) refl h
    where
      by_test : (b : Bool) → bytes_eq m.name n.name ≡ b → fault_if b (max m.at n.at) r ≡ [] → b ≡ false
      by_test true e k = absurd (cc)
      by_test false e k = refl

  apart : (e before : List Named) (m : Named) (ns : List Named) (i : ℕ) (d : Named) → doubled_after r (before ++ m ∷ e) ns ≡ [] → i < length ns →
      bytes_eq m.name (get_or ns i d).name ≡ false
  apart e before m [] i d h l = absurd (omega arith)
  apart e before m (n ∷ ns) zero d h l =
      no_clash n m
      (append_left (clash r n m) (flat_map (clash r n) e)
      (append_right (flat_map (clash r n) before) (flat_map (clash r n) (m ∷ e))
      (sym (flat_map-append (clash r n) before (m ∷ e)) ∙ append_left (flat_map (clash r n) (before ++ m ∷ e)) (doubled_after r (n ∷ before ++ m ∷ e) ns) h)))
  apart e before m (n ∷ ns) (suc i) d h l =
      apart e (n ∷ before) m ns i d (append_right (flat_map (clash r n) (before ++ m ∷ e)) (doubled_after r (n ∷ before ++ m ∷ e) ns) h) (omega arith)

-- what is read past the end of the formulas
abbrev pub no_formula : Formula
no_formula = record { name = nothing_declared.name; body = Truth 0 false }

-- where no name is doubled each formula is the first of its name
find_first : (r : Reason) (e : List Named) (fs : List Formula) (k : ℕ) → doubled_after r e (map (λ f. f.name) fs) ≡ [] → k < length fs →
    find (λ f. is_called (get_or fs k no_formula).name.name f.name) fs ≡ Some (get_or fs k no_formula)
find_first r e [] k h l = absurd (omega arith)
find_first r e (f ∷ fs) zero h l =
    ap (λ (b : Bool). if b then Some f else find (λ g. is_called f.name.name g.name) fs) (bytes_eq-self f.name.name)
find_first r e (f ∷ fs) (suc k) h l =
    let rest = append_right (flat_map (clash r f.name) e) (doubled_after r (f.name ∷ e) (map (λ g. g.name) fs)) h in
    let within : k < length (map (λ g. g.name) fs) = (let s = length-map fs (λ g. g.name) in omega (arith, s)) in
    let g = get_or fs k no_formula in
    let other = apart r e [] f.name (map (λ h. h.name) fs) k nothing_declared.name rest within in
    let same = get_or-map (λ h. h.name) fs k no_formula nothing_declared.name (omega arith) in
    ap (λ (b : Bool). if b then Some f else find (λ h. is_called g.name.name h.name) fs) (ap (λ n. bytes_eq f.name.name n.name) (sym same) ∙ other)
    ∙ find_first r (f.name ∷ e) fs k rest (omega arith)

-- the place of a formula that is found
found_at : (fs : List Formula) (x : Name) (b : Expression) → option_map (λ f. f.body) (find (λ f. is_called x f.name) fs) ≡ Some b →
    (k : ℕ) × (k < length fs) × (is_called x (get_or fs k no_formula).name ≡ true)
found_at [] x b h = absurd (cc)
found_at (f ∷ fs) x b h = by_test (is_called x f.name) refl h (found_at fs x b)
  where
    by_test : (t : Bool) → is_called x f.name ≡ t → option_map (λ g. g.body) (if t then Some f else find (λ g. is_called x g.name) fs) ≡ Some b →
        (option_map (λ g. g.body) (find (λ g. is_called x g.name) fs) ≡ Some b → (k : ℕ) × (k < length fs) × (is_called x (get_or fs k no_formula).name ≡ true)) →
        (k : ℕ) × (k < suc (length fs)) × (is_called x (get_or (f ∷ fs) k no_formula).name ≡ true)
    by_test true e k ih = (0, omega arith, e)
    by_test false e k ih = let r = ih k in let l = r.1 in (suc r.0, omega (arith, l), r.2)

-- ---- turns of formulas
turns_from-append : (c : ℕ) (ts us : List ℕ) → turns_from c (ts ++ us) ≡ turns_from c ts ++ turns_from c us
turns_from-append c [] us = refl
turns_from-append c (t ∷ ts) us = by_test (nat_lt t c) (turns_from-append c ts us)
  where
    by_test : (b : Bool) → turns_from c (ts ++ us) ≡ turns_from c ts ++ turns_from c us →
        (if b then turns_from c (ts ++ us) else (t - c) ∷ turns_from c (ts ++ us)) ≡ (if b then turns_from c ts else (t - c) ∷ turns_from c ts) ++ turns_from c us
    by_test true h = h
    by_test false h = ap (λ ks. (t - c) ∷ ks) h

module _ (file : File) where
  abbrev pub first : ℕ
  first = length file.constants

  abbrev pub ds : List Declared
  ds = declarations file

  abbrev pub formula_at : ℕ → Formula
  formula_at k = get_or file.formulas k no_formula

  size : length ds ≡ first + length file.formulas
  size =
      let both = length-append (map declared_const file.constants) (map declared_formula file.formulas) in
      let cs = length-map file.constants declared_const in
      let fs = length-map file.formulas declared_formula in
      omega (arith, both, cs, fs)

  is_formula_at : (k : ℕ) → k < length file.formulas → declared_at ds (first + k) ≡ declared_formula (formula_at k)
  is_formula_at k l =
      let e : first + k - first ≡ k = omega arith in
      get_or-append_right (map declared_const file.constants) (map declared_formula file.formulas) first (first + k) nothing_declared (length-map file.constants declared_const) (omega arith)
      ∙ ap (λ i. get_or (map declared_formula file.formulas) i nothing_declared) e
      ∙ get_or-map declared_formula file.formulas k no_formula nothing_declared l

  -- the names of the formulas that had their turns
  abbrev pub names_after : List ℕ → List Name
  names_after ts = formula_names (at_places file.formulas (turns_from first ts))

  names_after-append : (ts us : List ℕ) → names_after (ts ++ us) ≡ names_after ts ++ names_after us
  names_after-append ts us =
      ap (λ ks. formula_names (at_places file.formulas ks)) (turns_from-append first ts us)
      ∙ ap formula_names (flat_map-append (λ i. if_some (slice_get file.formulas i)) (turns_from first ts) (turns_from first us))
      ∙ map-append (λ f. f.name.name) (at_places file.formulas (turns_from first ts)) (at_places file.formulas (turns_from first us))

  names_of_turn : (k : ℕ) → k < length file.formulas → names_after ((first + k) ∷ []) ≡ (formula_at k).name.name ∷ []
  names_of_turn k l =
      let late : nat_lt (first + k) first ≡ false = grind (arith, nat_tests) in
      let place : first + k - first ≡ k = omega arith in
      ap (λ (b : Bool). formula_names (at_places file.formulas (if b then [] else (first + k - first) ∷ []))) late
      ∙ ap (λ i. formula_names (at_places file.formulas (i ∷ []))) place
      ∙ ap (λ o. formula_names (if_some o ++ [])) (slice_get-get_or file.formulas k no_formula l)

  -- the name of a formula that had its turn stands among them
  turned_stands : (ts : List ℕ) (k : ℕ) (x : Name) → k < length file.formulas → is_called x (formula_at k).name ≡ true → list_any (nat_eq (first + k)) ts ≡ true →
      stands (names_after ts) x ≡ true
  turned_stands [] k x l c h = absurd (cc)
  turned_stands (t ∷ ts) k x l c h =
      ap (λ ns. stands ns x) (names_after-append (t ∷ []) ts)
      ∙ list_any-append (λ y. bytes_eq y x) (names_after (t ∷ [])) (names_after ts)
      ∙ by_test (nat_eq (first + k) t) refl h (turned_stands ts k x l c)
    where
      by_test : (b : Bool) → nat_eq (first + k) t ≡ b → (b || list_any (nat_eq (first + k)) ts) ≡ true → (list_any (nat_eq (first + k)) ts ≡ true → stands (names_after ts) x ≡ true) →
          (stands (names_after (t ∷ [])) x || stands (names_after ts) x) ≡ true
      by_test true e m ih =
          let same : first + k ≡ t = grind (arith, nat_tests) in
          ap (λ b. b || stands (names_after ts) x)
          (ap (λ u. stands (names_after (u ∷ [])) x) (sym same) ∙ ap (λ ns. stands ns x) (names_of_turn k l) ∙ ap (λ b. b || false) c)
      by_test false e m ih = either (stands (names_after (t ∷ [])) x) (ih m)
        where
          either : (b : Bool) → stands (names_after ts) x ≡ true → (b || stands (names_after ts) x) ≡ true
          either true n = refl
          either false n = n

  -- a name that has had its turns is no formula's, or stands among them
  is_earlier : (before : List ℕ) (x : Name) → HasTurned ds before x → IsEarlier file (names_after before) x
  is_earlier before x h = by_body (formula_body file x) refl
    where
      by_body : (o : Option Expression) → formula_body file x ≡ o → (stands (names_after before) x ≡ true) ⊎ (o ≡ None)
      by_body None e = inr refl
      by_body (Some b) e =
          let r = found_at file.formulas x b e in
          let k = r.0 in
          let l : first + k < length ds = (let s = size in let m = r.1 in omega (arith, s, m)) in
          inl (turned_stands before k x r.1 r.2 (h (first + k) l (ap (λ d. is_called x d.name) (is_formula_at k r.1) ∙ r.2)))

  module _ (once : doubled_names file ≡ []) where
    pub first_of_name : (k : ℕ) → k < length file.formulas → formula_body file (formula_at k).name.name ≡ Some (formula_at k).body
    first_of_name k l =
        let constants = map (λ c. c.name) file.constants in
        let formulas = map (λ f. f.name) file.formulas in
        let all = append_left (doubled TwiceNamed (values file)) _ once in
        let later = doubled_later TwiceNamed [] constants _ all in
        ap (option_map (λ f. f.body)) (find_first TwiceNamed later.0 file.formulas k (doubled_first TwiceNamed later.0 formulas _ later.1) l)

    listed : (before ts : List ℕ) → All (λ t. t < length ds) ts → AreInTurn ds before ts → IsListed file (names_after before) (at_places file.formulas (turns_from first ts))
    listed before [] w h = tt
    listed before (t ∷ ts) w h =
        by_test (nat_lt t first) refl (All-head (λ u. u < length ds) t ts w) h.0 (listed (before ++ t ∷ []) ts (All-tail (λ u. u < length ds) t ts w) h.1)
      where
        rest : List Formula
        rest = at_places file.formulas (turns_from first ts)

        by_test : (b : Bool) → nat_lt t first ≡ b → t < length ds → All (HasTurned ds before) (declared_at ds t).uses → IsListed file (names_after (before ++ t ∷ [])) rest →
            IsListed file (names_after before) (at_places file.formulas (if b then turns_from first ts else (t - first) ∷ turns_from first ts))
        by_test true e l u ih =
            subst (λ ns. IsListed file ns rest)
            (names_after-append before (t ∷ []) ∙ ap (λ (b : Bool). names_after before ++ formula_names (at_places file.formulas (if b then [] else (t - first) ∷ []))) e ∙ append-nil (names_after before)) ih
        by_test false e l u ih =
            let k = t - first in
            let n : first + k ≡ t = grind (arith, nat_tests) in
            let m : k < length file.formulas = (let s = size in omega (arith, s, n, l)) in
            let f = formula_at k in
            let d : declared_at ds t ≡ declared_formula f = ap (declared_at ds) (sym n) ∙ is_formula_at k m in
            let used = subst (λ (e : Declared). All (HasTurned ds before) e.uses) d u in
            let names : names_after (before ++ t ∷ []) ≡ names_after before ++ f.name.name ∷ [] =
            names_after-append before (t ∷ []) ∙ ap (λ i. names_after before ++ names_after (i ∷ [])) (sym n) ∙ ap (λ ns. names_after before ++ ns) (names_of_turn k m) in
            subst (λ o. IsListed file (names_after before) (if_some o ++ rest)) (sym (slice_get-get_or file.formulas k no_formula m)) (
              first_of_name k m,
              names_then (HasTurned ds before) (IsEarlier file (names_after before)) (is_earlier before) f.body
                  (each_name (HasTurned ds before) f.body used),
              subst (λ ns. IsListed file ns rest) names ih,
            )

    turns_within : (ts : List ℕ) → All (λ t. t < length ds) ts → All (λ i. i < length file.formulas) (turns_from first ts)
    turns_within [] w = All-nil (λ i. i < length file.formulas)
    turns_within (t ∷ ts) w = by_test (nat_lt t first) refl (All-head (λ u. u < length ds) t ts w) (turns_within ts (All-tail (λ u. u < length ds) t ts w))
      where
        by_test : (b : Bool) → nat_lt t first ≡ b → t < length ds → All (λ i. i < length file.formulas) (turns_from first ts) →
            All (λ i. i < length file.formulas) (if b then turns_from first ts else (t - first) ∷ turns_from first ts)
        by_test true e l ih = ih
        by_test false e l ih =
            let s = size in
            let n : first ≤ t = grind (arith, nat_tests) in
            All-cons (λ i. i < length file.formulas) (t - first) (turns_from first ts) (omega (arith, s, n, l)) ih

    -- where all had their turns, those of the formulas are such an order
    pub turns_order : (turns : List ℕ) → AreTurns ds turns → IsPlaceOrder file (turns_from first turns)
    turns_order turns h = record {
      within = turns_within turns h.within;
      count = let c = h.counted first in let s = size in omega (arith, c, s);
      listed = listed [] turns h.within h.order;
      covers =
          λ x b e.
          let r = found_at file.formulas x b e in
          let l : first + r.0 < length ds = (let s = size in let m = r.1 in omega (arith, s, m)) in
          turned_stands turns r.0 x r.1 r.2 (h.turned (first + r.0) l);
    }
