-- The table of the values of constants, turn by turn.
use Rattle.std.proofs.Common.{◌≡◌, ℕ, zero, suc, ◌+◌, ◌<◌, List, [], ◌∷◌, ◌++◌, map, length, take, get_or, Bool, true, false, ◌||◌, Option, Some, None, Result, refl, sym, ap, ap₂, subst, ◌∙◌, arith}
use Rattle.std.specs.Prelude.{nat_eq, slice_get, slice_set, unwrap_or, if◌then◌else◌}
use Rattle.std.specs.List.{All, find, list_any}
use Rattle.std.specs.Option.{option_map}
use Rattle.std.proofs.lemmas.Bool.Decides.{nat_tests}
use Rattle.std.proofs.lemmas.List.{length-map}
use Rattle.std.proofs.lemmas.List.Folds.{list_any-append}
use Rattle.std.proofs.lemmas.Option.{slice_get-map, slice_get_within, slice_get_read}
use Rattle.std.proofs.lemmas.Slice.Eq.{bytes_eq-Decides}
use Rattle.std.proofs.Math.Bool.{or-false}
use Rattle.op_trees.specs.Seen.{Seen, known}
use Rattle.op_trees.specs.SeenLaws.{names_then}
use Rattle.op_trees.specs.declared.tree.Value.{Value}
use Rattle.op_trees.specs.declared.tree.EvalFail.{EvalFail}
use Rattle.name_rules.specs.Circles.{HasTurned, AreTurns}
use Rattle.name_rules.specs.Names.{under}
use Rattle.name_rules.specs.Uses.{used}
use Rattle.name_rules.specs.declared.map.NameMap.{NameMap}
use Rattle.process_core.specs.Ready.{Name}
use Rattle.process_core.specs.Instance.{Valuation}
use Rattle.prism_tree.specs.Syntax.{Expression, Const, File, const_of}
use Rattle.prism_tree.specs.declared.syntax.PrismConst.{PrismConst}
use Rattle.op_trees.specs.Names.{is_called}
use Rattle.prism_names.specs.Names.{unchanged}
use Rattle.prism_check.specs.Scene.{constant, constant_seen, constant_value, constant_names, scene}
use Rattle.prism_check.specs.ConstantLaws.{ConstantsHaveValues, see_agree_on}
use Rattle.state_choices.specs.Views.{seen_of}
use Rattle.state_choices.specs.Trimmed.{computed}
use Rattle.instance_start.specs.Columns.{value_at}
use Rattle.instance_start.specs.declared.data.Place.{Place}
use Rattle.instance_start.specs.declared.data.Place.TheVariants.{Constant}
use Rattle.state_choices.proofs.ComputedLaws.{computed_laws}
use Rattle.prism_instance.specs.Constants.{declared_const, seen_constant, narrow_value, AreConstants, AreTurned, AreValues}
use Rattle.prism_instance.specs.Places.{constant_place}
use Rattle.prism_instance.specs.Views.{names_by}
use Rattle.prism_instance.proofs.Found.{narrow_seen, value_seen}
use Rattle.prism_instance.proofs.Whole.{reads_plainly}
use Rattle.op_trees.specs.NameLaws.{each_name}
use Rattle.name_rules.proofs.InTurn.{left_in_turn}
use Rattle.prism_instance.proofs.Turns.{declared_there, have_values}
use Rattle.basics.specs.Lists.{get_set}

-- ---- lists by their places
set_length : {A : Type 0} (xs : List A) (i : ℕ) (x : A) → length (slice_set xs i x) ≡ length xs
set_length [] i x = refl
set_length (y ∷ ys) zero x = refl
set_length (y ∷ ys) (suc i) x = ap suc (set_length ys i x)

same_items : {A : Type 0} (xs ys : List A) → ((i : ℕ) → slice_get xs i ≡ slice_get ys i) → xs ≡ ys
same_items [] [] h = refl
same_items [] (y ∷ ys) h = absurd (let k = h 0 in cc)
same_items (x ∷ xs) [] h = absurd (let k = h 0 in cc)
same_items (x ∷ xs) (y ∷ ys) h = ap₂ (λ a l. a ∷ l) (let k = h 0 in let e : x ≡ y = cc in e) (same_items xs ys (λ i. h (suc i)))

none_there : {A B : Type 0} (xs : List A) (ys : List B) (i : ℕ) → length ys ≡ length xs → slice_get xs i ≡ None → slice_get ys i ≡ None
none_there [] [] i l h = refl
none_there [] (y ∷ ys) i l h = absurd (omega (arith, l))
none_there (x ∷ xs) [] i l h = absurd (omega (arith, l))
none_there (x ∷ xs) (y ∷ ys) zero l h = absurd cc
none_there (x ∷ xs) (y ∷ ys) (suc i) l h = none_there xs ys i (let e : length ys ≡ length xs = omega (arith, l) in e) h

any_at : {A B : Type 0} (p : B → Bool) (f : A → B) (xs : List A) (i : ℕ) (x : A) → slice_get xs i ≡ Some x → p (f x) ≡ true → list_any p (map f xs) ≡ true
any_at p f [] i x h k = absurd cc
any_at p f (y ∷ ys) zero x h k = ap (λ b. b || list_any p (map f ys)) (ap (λ z. p (f z)) (let e : y ≡ x = cc in e) ∙ k)
any_at p f (y ∷ ys) (suc i) x h k = either (p (f y)) (any_at p f ys i x h k)
  where
    either : (b : Bool) → list_any p (map f ys) ≡ true → (b || list_any p (map f ys)) ≡ true
    either true n = refl
    either false n = n

narrow_entry : (o : Option (Option Value)) (s : Seen) → option_map narrow_value o ≡ Some s → unwrap_or o None ≡ s.value
narrow_entry None s h = absurd cc
narrow_entry (Some o) s h = ap (λ x. unwrap_or (option_map (λ (t : Seen). t.value) x) None) h

module _ (file : File) (v : Valuation) where
  abbrev S : Const → Seen
  S c = seen_constant file v c

  -- ---- the value under a name
  entry : (table : List (Option Value)) (turns : List ℕ) → AreTurned file v table turns → (i : ℕ) (c : Const) → slice_get file.constants i ≡ Some c → list_any (nat_eq i) turns ≡ true →
      unwrap_or (slice_get table i) None ≡ (S c).value
  entry table turns t i c h k = narrow_entry (slice_get table i) (S c) (sym (slice_get-map narrow_value table i) ∙ t.right i c h k)

  at_place : (s : List Value) (table : List (Option Value)) (i : ℕ) (ks : List Const) (y : Name) →
      ((j : ℕ) (c : Const) → slice_get ks j ≡ Some c → is_called y c.name ≡ true → unwrap_or (slice_get table (i + j)) None ≡ (S c).value) →
      value_at s table (constant_place i ks y) ≡ constant_value (v y) (constant_names file v unchanged) (find (λ c. is_called y c.name) ks)
  at_place s table i [] y h = refl
  at_place s table i (k ∷ ks) y h =
      by_test (is_called y k.name) refl
      (at_place s table (i + 1) ks y (λ j c e f. ap (λ n. unwrap_or (slice_get table n) None) (let e : i + 1 + j ≡ i + suc j = omega arith in e) ∙ h (suc j) c e f))
    where
      by_test : (b : Bool) → is_called y k.name ≡ b →
          value_at s table (constant_place (i + 1) ks y) ≡ constant_value (v y) (constant_names file v unchanged) (find (λ c. is_called y c.name) ks) →
          value_at s table (if b then Some (Constant i) else constant_place (i + 1) ks y)
          ≡ constant_value (v y) (constant_names file v unchanged) (if b then Some k else find (λ c. is_called y c.name) ks)
      by_test true e r =
          ap (λ n. unwrap_or (slice_get table n) None) (let e : i ≡ i + 0 = omega arith in e) ∙ h 0 k refl e
          ∙ ap (λ z. (constant_seen (v z) (constant_names file v unchanged) k.value).value) ((bytes_eq-Decides k.name.name y).0 e)
      by_test false e r = r

  module _ (values : ConstantsHaveValues file) where
    pub turned_value : (s : List Value) (table : List (Option Value)) (turns : List ℕ) → AreTurned file v table turns → (y : Name) → HasTurned (map declared_const file.constants) turns y →
        value_at s table (constant_place 0 file.constants y) ≡ constant file v y
    turned_value s table turns t y h =
        at_place s table 0 file.constants y
        (λ j c e f.
        ap (λ n. unwrap_or (slice_get table n) None) (let z : 0 + j ≡ j = omega arith in z)
        ∙ entry table turns t j c e
        (h j (let l = slice_get_within file.constants j c e in let m = length-map file.constants declared_const in omega (arith, l, m))
        (ap (λ d. is_called y d.name) (declared_there file.constants j c e) ∙ f)))
        ∙ sym (values v y)

  -- ---- one turn
  module _ (form : file.formulas ≡ []) (turns : List ℕ) (h : AreTurns (map declared_const file.constants) turns) (places : NameMap Place)
      (where_names : (x : Name) → under places x ≡ constant_place 0 file.constants x) where
    names_right : (table : List (Option Value)) (before : List ℕ) → AreTurned file v table before → (y : Name) → HasTurned (map declared_const file.constants) before y →
        names_by places table y ≡ constant_names file v unchanged y
    names_right table before t y g =
        ap known (ap (value_at [] table) (where_names y) ∙ turned_value (have_values file form turns h) [] table before t y g)
        ∙ sym (ap (λ f. f y) (reads_plainly file form (λ x. known (constant file v x))))

    pub seen_right : (table : List (Option Value)) (k t : ℕ) (c : Const) → slice_get turns k ≡ Some t → slice_get file.constants t ≡ Some c → AreTurned file v table (take k turns) →
        constant_seen (v c.name.name) (names_by places table) c.value ≡ S c
    seen_right table k t c e f g = by_value c.value refl
      where
        by_value : (o : Option Expression) → c.value ≡ o → constant_seen (v c.name.name) (names_by places table) o ≡ constant_seen (v c.name.name) (constant_names file v unchanged) o
        by_value None m = refl
        by_value (Some b) m =
            let turned = left_in_turn (map declared_const file.constants) [] turns k t h.order e in
            let names = subst (λ us. All (HasTurned (map declared_const file.constants) (take k turns)) us) (ap (λ d. d.uses) (declared_there file.constants t c f) ∙ ap used m) turned in
            see_agree_on b (names_by places table) (constant_names file v unchanged)
            (names_then (HasTurned (map declared_const file.constants) (take k turns)) (λ y. names_by places table y ≡ constant_names file v unchanged y)
            (names_right table (take k turns) g) b (each_name (HasTurned (map declared_const file.constants) (take k turns)) b names))

  -- what is computed, where it isn't wide
  computed_narrow : (s : Seen) (r : Result Value EvalFail) → r ≡ computed s → (seen_of r).wide ≡ false → narrow_value (seen_of r).value ≡ s
  computed_narrow s r e w = ap₂ (λ x y. record { value = x; wide = y }) (value_seen s r e w) (sym (narrow_seen s r e w))

  pub turned_more : (table : List (Option Value)) (before : List ℕ) → AreTurned file v table before → (t : ℕ) (c : Const) → slice_get file.constants t ≡ Some c →
      (r : Result Value EvalFail) → r ≡ computed (S c) → (seen_of r).wide ≡ false → AreTurned file v (slice_set table t (seen_of r).value) (before ++ t ∷ [])
  turned_more table before g t c e r f w = record {
    size = set_length table t (seen_of r).value ∙ g.size;
    right = λ i d k l. slice_get-map narrow_value (slice_set table t (seen_of r).value) i
        ∙ ap (option_map narrow_value) (get_set table t i (seen_of r).value (let m = slice_get_within file.constants t c e in let n = g.size in omega (arith, m, n)))
        ∙ by_test i d k (nat_eq i t) refl (sym (list_any-append (nat_eq i) before (t ∷ [])) ∙ l);
  }
    where
      by_test : (i : ℕ) (d : Const) → slice_get file.constants i ≡ Some d → (b : Bool) → nat_eq i t ≡ b → (list_any (nat_eq i) before || (b || false)) ≡ true →
          option_map narrow_value (if b then Some (seen_of r).value else slice_get table i) ≡ Some (S d)
      by_test i d k true m l =
          let same : i ≡ t = grind (arith, nat_tests) in
          let one : Some c ≡ Some d = sym e ∙ ap (slice_get file.constants) (sym same) ∙ k in
          ap Some (computed_narrow (S c) r f w ∙ ap S (let z : c ≡ d = cc in z))
      by_test i d k false m l = sym (slice_get-map narrow_value table i) ∙ g.right i d k (sym (or-false (list_any (nat_eq i) before)) ∙ l)

  -- ---- all turns
  pub all_values : (table : List (Option Value)) (turns : List ℕ) → AreTurned file v table turns → AreTurns (map declared_const file.constants) turns → AreValues file v table
  all_values table turns t h = same_items (map narrow_value table) (map S file.constants) (λ i. by_const i (slice_get file.constants i) refl)
    where
      by_const : (i : ℕ) (o : Option Const) → slice_get file.constants i ≡ o → slice_get (map narrow_value table) i ≡ slice_get (map S file.constants) i
      by_const i None e =
          none_there file.constants (map narrow_value table) i (length-map table narrow_value ∙ t.size) e ∙ sym (none_there file.constants (map S file.constants) i (length-map file.constants S) e)
      by_const i (Some c) e =
          t.right i c e (h.turned i (let l = slice_get_within file.constants i c e in let m = length-map file.constants declared_const in omega (arith, l, m)))
          ∙ sym (slice_get-map S file.constants i ∙ ap (option_map S) e)

  pub wide_there : (t : ℕ) (c : Const) → slice_get file.constants t ≡ Some c → (r : Result Value EvalFail) → r ≡ computed (S c) → (seen_of r).wide ≡ true → list_any (λ s. s.wide) (scene file v).constants ≡ true
  wide_there t c e r f w = any_at (λ (s : Seen). s.wide) S file.constants t c e (sym (ap (λ x. x.wide) (ap seen_of f ∙ computed_laws.values (S c))) ∙ w)

-- ---- a turn of the code
pub constant_there : (cs : List PrismConst) (turns : List ℕ) → All (λ t. t < length (map declared_const (map const_of cs))) turns → (k : ℕ) → k < length turns →
    (c : PrismConst) → c ≡ get_or cs (get_or turns k 0) c → slice_get (map const_of cs) (get_or turns k 0) ≡ Some (const_of c)
constant_there cs turns within k l c e =
    let m : get_or turns k 0 < length (map declared_const (map const_of cs)) = within k 0 l in
    let n = length-map (map const_of cs) declared_const in
    let o = length-map cs const_of in
    slice_get-map const_of cs (get_or turns k 0) ∙ ap (option_map const_of) (slice_get_read cs (length cs) (get_or turns k 0) c refl (omega (arith, m, n, o)) e)

pub all_names : (file : File) (v : Valuation) → file.formulas ≡ [] → (turns : List ℕ) → AreTurns (map declared_const file.constants) turns → (table : List (Option Value)) → AreTurned file v table turns → AreConstants file v table
all_names file v form turns h table t = record {
  values = all_values file v table turns t h;
  names = λ s x. turned_value file v (have_values file form turns h) s table turns t x (λ j l k. h.turned j l);
}
