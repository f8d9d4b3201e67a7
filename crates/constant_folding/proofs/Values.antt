-- Known constants have their values, and constants that are specialised have the values that they had.
use Rattle.std.specs.Prelude.{◌≡◌, ℕ, zero, suc, ◌<◌, List, [], ◌∷◌, map, length, Bool, true, false, Option, Some, None, if◌then◌else◌}
use Rattle.std.specs.List.{find}
use Rattle.std.specs.Option.{option_map}
use Rattle.std.proofs.Common.{refl, sym, subst, ap, ◌∙◌, arith}
use Rattle.std.proofs.Math.Path.{fun_ext}
use Rattle.std.proofs.lemmas.List.{length-map}
use Rattle.std.proofs.lemmas.Slice.Eq.{bytes_eq-Decides}
use Rattle.basics.specs.Mapped.{found_mapped}
use Rattle.op_trees.specs.Tree.{Tree, AllNames}
use Rattle.op_trees.specs.Meaning.{Meaning, Environment, is_wide_value}
use Rattle.op_trees.specs.Names.{is_called}
use Rattle.op_trees.specs.Seen.{Seen, known, known_names, seen}
use Rattle.op_trees.specs.SeenLaws.{names_then, seen_agree_on}
use Rattle.op_trees.specs.declared.tree.Ty.{Ty}
use Rattle.op_trees.specs.declared.tree.Value.{Value}
use Rattle.process_core.specs.Ready.{Name}
use Rattle.process_core.specs.Instance.{Valuation}
use Rattle.constant_folding.specs.declared.known.Fixed.{Fixed}
use Rattle.constant_folding.specs.Known.{Known, summary, worth}
use Rattle.constant_folding.specs.Folded.{fold}
use Rattle.constant_folding.specs.Kept.{IsNarrow, Gives}
use Rattle.constant_folding.specs.Literals.{AreLiterals}
use Rattle.constant_folding.specs.Constants.{AnyConst, called, RanksBelow, IsRank, fixed_as, known_by, known_const, known_within, known_constants, const_seen, const_value, value_within, const_values, specialised_value, specialised_const}
use Rattle.constant_folding.specs.Unfit.{Extends, IsSmall}
use Rattle.constant_folding.proofs.Kept.{fold_is_seen_alike, fold_names, worth_seen}

-- the constant that a name finds is called so
finds_called : {O : Type 0} (cs : List (AnyConst O)) (x : Name) (c : AnyConst O) → called cs x ≡ Some c → is_called x c.name ≡ true
finds_called [] x c h = absurd cc
finds_called (d ∷ ds) x c h = by (is_called x d.name) refl h (finds_called ds x c)
  where
    by : (b : Bool) → is_called x d.name ≡ b → (if b then Some d else find (λ d. is_called x d.name) ds) ≡ Some c →
        (find (λ d. is_called x d.name) ds ≡ Some c → is_called x c.name ≡ true) → is_called x c.name ≡ true
    by true e h ih = subst (λ (k : AnyConst _). is_called x k.name ≡ true) (let s : d ≡ c = cc in s) e
    by false e h ih = ih h

pub called_is : {O : Type 0} (cs : List (AnyConst O)) (x : Name) (c : AnyConst O) → called cs x ≡ Some c → c.name.name ≡ x
called_is cs x c h = (bytes_eq-Decides c.name.name x).0 (finds_called cs x c h)

-- a known constant is one of the list
pub known_is_constant : {O : Type 0} (m : Meaning O) (cs : List (AnyConst O)) (given : Valuation) (n : ℕ) (x : Name) (k : Fixed) → known_within m cs given n x ≡ Some k →
    (c : AnyConst O) × (called cs x ≡ Some c)
known_is_constant m cs given zero x k h = absurd cc
known_is_constant {O = O} m cs given (suc n) x k h = by (called cs x) refl h
  where
    by : (o : Option (AnyConst O)) → called cs x ≡ o → known_const m (given x) (known_within m cs given n) o ≡ Some k → (c : AnyConst O) × (called cs x ≡ Some c)
    by None e h = absurd cc
    by (Some c) e h = (c, e)

-- ---- constants that lead round in no circle have the values of their expressions
module _ {O : Type 0} (m : Meaning O) (cs : List (AnyConst O)) (rank : Name → ℕ) (ranked : IsRank cs rank) (v : Valuation) where
  abbrev names_to : ℕ → Name → Seen
  names_to n x = known (value_within m cs v n x)

  expression_settles : (n : ℕ) → ((y : Name) → RanksBelow cs rank n y → value_within m cs v n y ≡ value_within m cs v (suc n) y) →
      (x : Name) (c : AnyConst O) → called cs x ≡ Some c → RanksBelow cs rank (suc n) x → (o : Option (Tree O)) → c.value ≡ o →
      const_seen m (v x) (names_to n) o ≡ const_seen m (v x) (names_to (suc n)) o
  expression_settles n ih x c k f None e = refl
  expression_settles n ih x c k f (Some t) e =
      let low : rank x < suc n = f.below c k in
      seen_agree_on m t (names_to n) (names_to (suc n))
      (names_then (RanksBelow cs rank (rank x)) (λ y. names_to n y ≡ names_to (suc n) y)
      (λ y g. ap known (ih y (record {
        below = λ d h. let deep : rank y < rank x = g.below d h in omega arith;
      }))) t (ranked.falls x c t k e))

  constant_settles : (n : ℕ) → ((y : Name) → RanksBelow cs rank n y → value_within m cs v n y ≡ value_within m cs v (suc n) y) →
      (x : Name) (o : Option (AnyConst O)) → called cs x ≡ o → RanksBelow cs rank (suc n) x →
      const_value m (v x) (names_to n) o ≡ const_value m (v x) (names_to (suc n)) o
  constant_settles n ih x None k f = refl
  constant_settles n ih x (Some c) k f = ap (λ s. s.value) (expression_settles n ih x c k f c.value refl)

  no_value : (x : Name) (o : Option (AnyConst O)) → called cs x ≡ o → RanksBelow cs rank 0 x → None ≡ const_value m (v x) (names_to zero) o
  no_value x None k f = refl
  no_value x (Some c) k f = absurd (let low : rank x < 0 = f.below c k in omega arith)

  value_settles : (n : ℕ) (x : Name) → RanksBelow cs rank n x → value_within m cs v n x ≡ value_within m cs v (suc n) x
  value_settles zero x f = no_value x (called cs x) refl f
  value_settles (suc n) x f = constant_settles n (value_settles n) x (called cs x) refl f

  have_values : (x : Name) → const_values m cs v x ≡ const_value m (v x) (known_names (const_values m cs v)) (called cs x)
  have_values x = value_settles (length cs) x (ranked.within x)

module _ {O : Type 0} (m : Meaning O) (literal : Value → Ty → Tree O) (literals : AreLiterals m literal) (cs : List (AnyConst O)) (given v : Valuation)
    (extends : Extends given v) (small : IsSmall given) where
  -- ---- a known constant has its value, which isn't wide
  abbrev IsRight : ℕ → Name → Fixed → Type 0
  IsRight n x k = (value_within m cs v n x ≡ Some k.value) × (is_wide_value (Some k.value) ≡ false)

  abbrev names_within : ℕ → Name → Seen
  names_within n z = known (value_within m cs v n z)

  of_expression : (n : ℕ) → ((y : Name) (k : Fixed) → known_within m cs given n y ≡ Some k → IsRight n y k) → (e : Tree O) (y : Value) →
      worth (summary m (known_within m cs given n) e) ≡ Some y → ((seen m e (names_within n)).value ≡ Some y) × (is_wide_value (Some y) ≡ false)
  of_expression n ih e y h =
      let told =
      worth_seen m literal literals (known_within m cs given n) (value_within m cs v n)
      (record { narrow = λ z k g. (ih z k g).1 }) (record { gives = λ z k g. (ih z k g).0 }) e y h in
      (ap (λ s. s.value) told.0, told.1)

  by_value : (n : ℕ) → ((y : Name) (k : Fixed) → known_within m cs given n y ≡ Some k → IsRight n y k) → (x : Name) (ty : Ty) (o : Option (Tree O)) (k : Fixed) →
      known_by m (given x) (known_within m cs given n) ty o ≡ Some k →
      ((const_seen m (v x) (names_within n) o).value ≡ Some k.value) × (is_wide_value (Some k.value) ≡ false)
  by_value n ih x ty None k h = by (given x) refl h
    where
      by : (g : Option Value) → given x ≡ g → fixed_as ty g ≡ Some k → (v x ≡ Some k.value) × (is_wide_value (Some k.value) ≡ false)
      by None e h = absurd cc
      by (Some y) e h =
          let same : y ≡ k.value = ap (λ (f : Fixed). f.value) (let s : record { value = y; ty = ty } ≡ k = cc in s) in
          (extends.gives x k.value (e ∙ ap (λ z. Some z) same), small.small x k.value (e ∙ ap (λ z. Some z) same))
  by_value n ih x ty (Some e) k h = by (worth (summary m (known_within m cs given n) e)) refl h
    where
      by : (w : Option Value) → worth (summary m (known_within m cs given n) e) ≡ w → fixed_as ty w ≡ Some k →
          ((seen m e (names_within n)).value ≡ Some k.value) × (is_wide_value (Some k.value) ≡ false)
      by None g h = absurd cc
      by (Some y) g h =
          let same : y ≡ k.value = ap (λ (f : Fixed). f.value) (let s : record { value = y; ty = ty } ≡ k = cc in s) in
          of_expression n ih e k.value (g ∙ ap (λ z. Some z) same)

  by_const : (n : ℕ) → ((y : Name) (k : Fixed) → known_within m cs given n y ≡ Some k → IsRight n y k) → (x : Name) (o : Option (AnyConst O)) (k : Fixed) →
      known_const m (given x) (known_within m cs given n) o ≡ Some k →
      (const_value m (v x) (names_within n) o ≡ Some k.value) × (is_wide_value (Some k.value) ≡ false)
  by_const n ih x None k h = absurd cc
  by_const n ih x (Some c) k h = by_value n ih x c.ty c.value k h

  known_right : (n : ℕ) (x : Name) (k : Fixed) → known_within m cs given n x ≡ Some k → IsRight n x k
  known_right zero x k h = absurd cc
  known_right (suc n) x k h = by_const n (known_right n) x (called cs x) k h

  abbrev K : Known
  K = known_constants m cs given

  pub known_narrow : IsNarrow K
  known_narrow = record { narrow = λ x k h. (known_right (length cs) x k h).1 }

  pub known_gives : Gives K (const_values m cs v)
  known_gives = record { gives = λ x k h. (known_right (length cs) x k h).0 }

  -- wherever known constants have their values, a folded expression is seen as the expression
  pub folded_seen : (env : Environment) → Gives K env → (e : Tree O) → seen m (fold m literal K e) (known_names env) ≡ seen m e (known_names env)
  folded_seen env gives e = fold_is_seen_alike m literal literals K env known_narrow gives e

  -- ---- the constants, specialised
  abbrev new : List (AnyConst O)
  new = map (specialised_const m literal given K) cs

  called_new : (x : Name) → called new x ≡ option_map (specialised_const m literal given K) (called cs x)
  called_new x = found_mapped (specialised_const m literal given K) (λ c. is_called x c.name) (λ c. is_called x c.name) (λ c. refl) cs

  -- a constant's expression is seen as it was, or as the value that is given
  pub value_same : (g vx : Option Value) → ((y : Value) → g ≡ Some y → (vx ≡ Some y) × (is_wide_value (Some y) ≡ false)) → (ty : Ty) (o : Option (Tree O))
      (names new_names : Name → Seen) → ((t : Tree O) → o ≡ Some t → seen m (fold m literal K t) new_names ≡ seen m t names) →
      const_seen m vx new_names (specialised_value m literal g K ty o) ≡ const_seen m vx names o
  value_same None vx h ty None names new_names k = refl
  value_same (Some y) vx h ty None names new_names k =
      let told = h y refl in
      literals.seen_as y ty new_names told.1 ∙ ap known (sym told.0)
  value_same g vx h ty (Some t) names new_names k = k t refl

  pub given_right : (x y : Name) → x ≡ y → (z : Value) → given x ≡ Some z → (v y ≡ Some z) × (is_wide_value (Some z) ≡ false)
  given_right x y e z h = (ap v (sym e) ∙ extends.gives x z h, small.small x z h)

  module _ (rank : Name → ℕ) (ranked : IsRank cs rank) where
    below_new : (n : ℕ) (x : Name) → RanksBelow cs rank n x → RanksBelow new rank n x
    below_new n x b = record { below = λ c k. by (called cs x) refl c (sym (called_new x) ∙ k) }
      where
        by : (o : Option (AnyConst O)) → called cs x ≡ o → (c : AnyConst O) → option_map (specialised_const m literal given K) o ≡ Some c → rank x < n
        by None e c h = absurd cc
        by (Some d) e c h = b.below d e

    names_below : (x : Name) (ty : Ty) (g : Option Value) (o : Option (Tree O)) →
        ((t : Tree O) → o ≡ Some t → AllNames (RanksBelow cs rank (rank x)) t) → (e : Tree O) → specialised_value m literal g K ty o ≡ Some e →
        AllNames (RanksBelow new rank (rank x)) e
    names_below x ty None None h e k = absurd cc
    names_below x ty (Some y) None h e k =
        subst (AllNames (RanksBelow new rank (rank x))) (let s : literal y ty ≡ e = cc in s)
        (names_then (λ z. ⊥) (RanksBelow new rank (rank x)) (λ z i. absurd i) (literal y ty) (literals.nameless y ty))
    names_below x ty g (Some t) h e k =
        subst (AllNames (RanksBelow new rank (rank x))) (let s : fold m literal K t ≡ e = cc in s)
        (fold_names m literal literals K (RanksBelow new rank (rank x)) t
        (names_then (RanksBelow cs rank (rank x)) (RanksBelow new rank (rank x)) (below_new (rank x)) t (h t refl)))

    falls_new : (x : Name) (c : AnyConst O) (e : Tree O) → called new x ≡ Some c → c.value ≡ Some e → AllNames (RanksBelow new rank (rank x)) e
    falls_new x c e k l = by (called cs x) refl (sym (called_new x) ∙ k)
      where
        by : (o : Option (AnyConst O)) → called cs x ≡ o → option_map (specialised_const m literal given K) o ≡ Some c → AllNames (RanksBelow new rank (rank x)) e
        by None p h = absurd cc
        by (Some d) p h =
            names_below x d.ty (given d.name.name) d.value (λ t q. ranked.falls x d t p q) e
            (ap (λ (z : AnyConst O). z.value) (let s : specialised_const m literal given K d ≡ c = cc in s) ∙ l)

    ranked_new : IsRank new rank
    ranked_new = record {
      within = λ x. subst (λ n. RanksBelow new rank n x) (sym (length-map cs (specialised_const m literal given K))) (below_new (length cs) x (ranked.within x));
      falls = falls_new;
    }

    abbrev old_names : Name → Seen
    old_names = known_names (const_values m cs v)

    abbrev new_names : Name → Seen
    new_names = known_names (const_values m new v)

    -- over names that have the same values
    over_same : (t : Tree O) → AllNames (λ y. const_values m new v y ≡ const_values m cs v y) t → seen m (fold m literal K t) new_names ≡ seen m t old_names
    over_same t h =
        seen_agree_on m (fold m literal K t) new_names old_names
        (fold_names m literal literals K (λ y. new_names y ≡ old_names y) t
        (names_then (λ y. const_values m new v y ≡ const_values m cs v y) (λ y. new_names y ≡ old_names y) (λ y e. ap known e) t h))
        ∙ folded_seen (const_values m cs v) known_gives t

    settles : (x : Name) → ((y : Name) → RanksBelow cs rank (rank x) y → const_values m new v y ≡ const_values m cs v y) → (o : Option (AnyConst O)) → called cs x ≡ o →
        const_value m (v x) new_names (option_map (specialised_const m literal given K) o) ≡ const_value m (v x) old_names o
    settles x ih None e = refl
    settles x ih (Some c) e =
        ap (λ s. s.value)
        (value_same (given c.name.name) (v x) (given_right c.name.name x (called_is cs x c e)) c.ty c.value old_names new_names
        (λ t l. over_same t (names_then (RanksBelow cs rank (rank x)) (λ y. const_values m new v y ≡ const_values m cs v y) ih t (ranked.falls x c t e l))))

    at_name : (x : Name) → ((y : Name) → RanksBelow cs rank (rank x) y → const_values m new v y ≡ const_values m cs v y) → const_values m new v x ≡ const_values m cs v x
    at_name x ih =
        have_values m new rank ranked_new v x ∙ ap (const_value m (v x) new_names) (called_new x) ∙ settles x ih (called cs x) refl ∙ sym (have_values m cs rank ranked v x)

    no_constant : (x : Name) → called cs x ≡ None → const_values m new v x ≡ const_values m cs v x
    no_constant x e =
        have_values m new rank ranked_new v x ∙ ap (const_value m (v x) new_names) (called_new x ∙ ap (option_map (specialised_const m literal given K)) e)
        ∙ ap (const_value m (v x) old_names) (sym e) ∙ sym (have_values m cs rank ranked v x)

    lowest : (x : Name) → RanksBelow cs rank 0 x → (o : Option (AnyConst O)) → called cs x ≡ o → const_values m new v x ≡ const_values m cs v x
    lowest x b None e = no_constant x e
    lowest x b (Some c) e = absurd (let low : rank x < 0 = b.below c e in omega arith)

    -- a name that is no constant's, or one of a rank below
    lower : (n : ℕ) → ((y : Name) → RanksBelow cs rank n y → const_values m new v y ≡ const_values m cs v y) → (x : Name) → RanksBelow cs rank (suc n) x → (o : Option (AnyConst O)) →
        called cs x ≡ o → const_values m new v x ≡ const_values m cs v x
    lower n ih x b None e = no_constant x e
    lower n ih x b (Some c) e =
        let low : rank x < suc n = b.below c e in
        at_name x (λ y g. ih y (record {
          below = λ d k. let deep : rank y < rank x = g.below d k in omega arith;
        }))

    settled : (n : ℕ) (x : Name) → RanksBelow cs rank n x → const_values m new v x ≡ const_values m cs v x
    settled zero x b = lowest x b (called cs x) refl
    settled (suc n) x b = lower n (settled n) x b (called cs x) refl

    pub values_same : const_values m new v ≡ const_values m cs v
    values_same = fun_ext (λ x. settled (length cs) x (ranked.within x))
