-- A constant that comes out with a value isn't told to be undefined.
use Rattle.std.specs.Prelude.{◌≡◌, ◌≢◌, ℕ, zero, suc, ◌+◌, ◌<◌, List, [], ◌∷◌, ◌++◌, Bool, true, false, Option, Some, None, is_none, slice_get}
use Rattle.std.specs.List.{AllByRecursion as Each}
use Rattle.std.proofs.Common.{refl, sym, ap, subst, ◌∙◌, arith}
use Rattle.basics.specs.Each.{each_join}
use Rattle.op_trees.specs.Seen.{Seen}
use Rattle.op_trees.specs.declared.tree.Value.{Value}
use Rattle.process_core.specs.declared.data.FaultKind.{FaultKind}
use Rattle.process_core.specs.declared.data.FaultKind.TheVariants.{ConstUndef, BoundUndef, EmptyRange, InitUndef, InitOutside}
use Rattle.process_core.specs.Instance.{Column, Domain, Fault, Range, Scene, Truths, Between, column_faults, constant_faults, domain_faults, fault_of, first_faults, instance_faults, is_empty, is_of_constant, is_outside, numbered, only_if, range_faults, range_from, value_faults}
use Rattle.constant_folding.specs.Defined.{IsDefined}

-- each of what is numbered
each_numbered : {X : Type 0} (P : Fault → Type 0) (f : ℕ → X → List Fault) → ((j : ℕ) (x : X) → Each P (f j x)) → (n : ℕ) (xs : List X) → Each P (numbered f n xs)
each_numbered P f h n [] = tt
each_numbered P f h n (x ∷ xs) = each_join P (f n x) (numbered f (n + 1) xs) (h n x) (each_numbered P f h (n + 1) xs)

if_each : (P : Fault → Type 0) (b : Bool) (f : Fault) → P f → Each P (only_if b f)
if_each P true f h = (h, tt)
if_each P false f h = tt

module _ (i : ℕ) where
  abbrev Other : Fault → Type 0
  Other f = f ≢ fault_of ConstUndef i

  other : (kind : FaultKind) (j : ℕ) → is_of_constant kind ≡ false → Other (fault_of kind j)
  other kind j h e = let same : true ≡ false = sym (ap (λ (f : Fault). is_of_constant f.kind) e) ∙ h in absurd cc

  elsewhere : (j : ℕ) → j ≢ i → Other (fault_of ConstUndef j)
  elsewhere j h e = h (ap (λ (f : Fault). f.place) e)

  -- ---- of variables
  ranges : (j : ℕ) (r : Option Range) → Each Other (range_faults j r)
  ranges j None = (other BoundUndef j refl, tt)
  ranges j (Some r) = if_each Other (is_empty r) (fault_of EmptyRange j) (other EmptyRange j refl)

  domains : (j : ℕ) (d : Domain) → Each Other (domain_faults j d)
  domains j Truths = tt
  domains j (Between l h) = ranges j (range_from l h)

  values : (j : ℕ) (d : Domain) (o : Option Value) → Each Other (value_faults j d o)
  values j d None = (other InitUndef j refl, tt)
  values j d (Some y) = if_each Other (is_outside d y) (fault_of InitOutside j) (other InitOutside j refl)

  firsts : (b : Bool) (j : ℕ) (d : Domain) (o : Option Seen) → Each Other (first_faults b j d o)
  firsts true j d o = tt
  firsts false j d None = tt
  firsts false j d (Some s) = values j d s.value

  columns : (b : Bool) (j : ℕ) (c : Column) → Each Other (column_faults b j c)
  columns b j c = each_join Other (domain_faults j c.domain) (first_faults b j c.domain c.first) (domains j c.domain) (firsts b j c.domain c.first)

  -- ---- of constants behind it
  behind : (n : ℕ) (cs : List Seen) → i < n → Each Other (numbered constant_faults n cs)
  behind n [] l = tt
  behind n (c ∷ cs) l =
      each_join Other (constant_faults n c) (numbered constant_faults (n + 1) cs)
      (if_each Other (is_none c.value) (fault_of ConstUndef n) (elsewhere n (λ e. (let same : n ≡ i = e in omega (arith, l)))))
      (behind (n + 1) cs (omega (arith, l)))

-- from the number n on
constants : (n k : ℕ) (cs : List Seen) (s : Seen) (y : Value) → slice_get cs k ≡ Some s → s.value ≡ Some y → IsDefined (numbered constant_faults n cs) (n + k)
constants n k [] s y e h = absurd cc
constants n zero (c ∷ cs) s y e h =
    let same : c ≡ s = cc in
    let none : is_none c.value ≡ false = ap (λ (t : Seen). is_none t.value) same ∙ ap is_none h in
    subst (λ (b : Bool). Each (Other (n + zero)) (only_if b (fault_of ConstUndef n) ++ numbered constant_faults (n + 1) cs)) (sym none) (behind (n + zero) (n + 1) cs (omega arith))
constants n (suc k) (c ∷ cs) s y e h =
    each_join (Other (n + suc k)) (constant_faults n c) (numbered constant_faults (n + 1) cs)
    (if_each (Other (n + suc k)) (is_none c.value) (fault_of ConstUndef n) (elsewhere (n + suc k) n (λ e. (let same : n ≡ n + suc k = e in omega arith))))
    (subst (IsDefined (numbered constant_faults (n + 1) cs)) (let z : (n + 1) + k ≡ n + suc k = omega arith in z) (constants (n + 1) k cs s y e h))

pub defined_constant : (k : Scene) (i : ℕ) (s : Seen) (y : Value) → slice_get k.constants i ≡ Some s → s.value ≡ Some y → IsDefined (instance_faults k) i
defined_constant k i s y e h =
    each_join (Other i) (numbered constant_faults 0 k.constants) (numbered (column_faults k.has_condition) 0 k.columns)
    (subst (IsDefined (numbered constant_faults 0 k.constants)) (let z : 0 + i ≡ i = omega arith in z) (constants 0 i k.constants s y e h))
    (each_numbered (Other i) (column_faults k.has_condition) (columns i k.has_condition) 0 k.columns)
