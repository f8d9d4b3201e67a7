-- Values that fit the constants of a file, and give each open one the same, give the same for every name.
use Rattle.std.specs.Prelude.{if◌then◌else◌}
use Rattle.std.specs.List.{list_any, AllZip, AllByRecursion as Each}
use Rattle.std.proofs.Common.{◌≡◌, List, [], ◌∷◌, Bool, true, false, not, cond, Option, Some, None, bytes_eq, refl, sym, ap, subst, ◌∙◌}
use Rattle.std.proofs.Math.Path.{fun_ext}
use Rattle.basics.specs.Booleans.{first_true, first_false, second_false}
use Rattle.basics.specs.Texts.{bytes_eq-true}
use Rattle.op_trees.specs.declared.tree.Value.{Value}
use Rattle.process_core.specs.Ready.{Name}
use Rattle.process_core.specs.Instance.{Valuation}
use Rattle.process_core.specs.declared.data.Given.{Given}
use Rattle.instance_start.specs.Description.{Constant}
use Rattle.instance_start.specs.Given.{given_by, misfit, fits, takes, is_taken, constant_called}
use Rattle.instance_start.proofs.Givens.{none_misfits}
use Rattle.model_carrying.specs.Values.{AreLike, IsGivenAs}

-- ---- what is given is given for an open constant
pub record IsOpenCalled (cs : List Constant) (x : Name) : Type 0 where
  pub constant : Constant
  pub called : constant_called cs x ≡ Some constant
  pub is_open : constant.is_open ≡ true

taken_open : (cs : List Constant) (x : Name) (v : Value) → is_taken (constant_called cs x) v ≡ true → IsOpenCalled cs x
taken_open cs x v h = by_called (constant_called cs x) refl h
  where
    by_called : (o : Option Constant) → constant_called cs x ≡ o → is_taken o v ≡ true → IsOpenCalled cs x
    by_called None e k = absurd (let no : false ≡ true = k in cc)
    by_called (Some c) e k = record { constant = c; called = e; is_open = first_true c.is_open (takes c.ty v) k }

given_open : (cs : List Constant) (given : List Given) → list_any (λ g. not (fits cs g)) given ≡ false → (x : Name) (v : Value) → given_by given x ≡ Some v → IsOpenCalled cs x
given_open cs [] h x v e = absurd cc
given_open cs (g ∷ gs) h x v e = by_name (bytes_eq g.name x) refl (given_open cs gs (second_false (not (fits cs g)) _ h) x v) e
  where
    not_false : (b : Bool) → not b ≡ false → b ≡ true
    not_false true k = refl
    not_false false k = absurd cc

    by_name : (b : Bool) → bytes_eq g.name x ≡ b → (given_by gs x ≡ Some v → IsOpenCalled cs x) → (if b then Some g.value else given_by gs x) ≡ Some v → IsOpenCalled cs x
    by_name true n r k =
        let taken : is_taken (constant_called cs g.name) g.value ≡ true = not_false (fits cs g) (first_false (not (fits cs g)) _ h) in
        subst (IsOpenCalled cs) (bytes_eq-true g.name x n) (taken_open cs g.name g.value taken)
    by_name false n r k = r k

-- ---- the constant of a name is one of the list
called_has : (P : Constant → Type 0) (cs : List Constant) → Each P cs → (x : Name) (c : Constant) → constant_called cs x ≡ Some c → P c × (c.name ≡ x)
called_has P [] h x c e = absurd cc
called_has P (d ∷ ds) h x c e = by_name (bytes_eq d.name x) refl (called_has P ds h.1 x c) e
  where
    by_name : (b : Bool) → bytes_eq d.name x ≡ b → (constant_called ds x ≡ Some c → P c × (c.name ≡ x)) → cond b (Some d) (constant_called ds x) ≡ Some c → P c × (c.name ≡ x)
    by_name true n r k = let same : d ≡ c = cc in (subst P same h.0, sym (ap (λ (z : Constant). z.name) same) ∙ bytes_eq-true d.name x n)
    by_name false n r k = r k

-- ---- each open constant is given the same
abbrev SameOpen : Valuation → Valuation → Constant → Type 0
SameOpen w u d = d.is_open ≡ true → w d.name ≡ u d.name

each_same : (cs ds : List Constant) (v w u : Valuation) → AllZip AreLike cs ds → AllZip (IsGivenAs v w) cs ds → AllZip (IsGivenAs v u) cs ds → Each (SameOpen w u) ds
each_same [] [] v w u l h k = tt
each_same [] (d ∷ ds) v w u l h k = absurd l
each_same (c ∷ cs) [] v w u l h k = absurd l
each_same (c ∷ cs) (d ∷ ds) v w u l h k = (λ i. h.0 (l.0.opens ∙ i) ∙ sym (k.0 (l.0.opens ∙ i)), each_same cs ds v w u l.1 h.1 k.1)

-- ---- so they are one valuation
module _ (ds : List Constant) (given more : List Given) (same : Each (SameOpen (given_by given) (given_by more)) ds)
    (fit : list_any (λ g. not (fits ds g)) given ≡ false) (fit_more : list_any (λ g. not (fits ds g)) more ≡ false) where
  at_open : (x : Name) → IsOpenCalled ds x → given_by given x ≡ given_by more x
  at_open x i =
      let has = called_has (SameOpen (given_by given) (given_by more)) ds same x i.constant i.called in
      subst (λ y. given_by given y ≡ given_by more y) has.1 (has.0 i.is_open)

  at_name : (x : Name) → given_by given x ≡ given_by more x
  at_name x = by_values (given_by given x) (given_by more x) refl refl
    where
      by_values : (o p : Option Value) → given_by given x ≡ o → given_by more x ≡ p → given_by given x ≡ given_by more x
      by_values None None e f = e ∙ sym f
      by_values (Some v) p e f = at_open x (given_open ds given fit x v e)
      by_values None (Some v) e f = at_open x (given_open ds more fit_more x v f)

pub one_valuation : (cs ds : List Constant) (v : Valuation) (given more : List Given) → AllZip AreLike cs ds → AllZip (IsGivenAs v (given_by given)) cs ds → AllZip (IsGivenAs v (given_by more)) cs ds →
    misfit ds given ≡ None → misfit ds more ≡ None → given_by given ≡ given_by more
one_valuation cs ds v given more l h k m n =
    fun_ext (at_name ds given more (each_same cs ds v (given_by given) (given_by more) l h k) (none_misfits ds given m) (none_misfits ds more n))
