-- Given values have the types of their constants; a first value of the type bool can begin.
use Rattle.std.specs.Prelude.{◌≡◌, List, [], ◌∷◌, length, Bool, true, false, not, ◌||◌, Option, Some, None, IsTrue, bytes_eq, if◌then◌else◌}
use Rattle.std.specs.List.{list_any, position_or_len}
use Rattle.std.proofs.Common.{refl, sym, ap, subst, ◌∙◌}
use Rattle.std.proofs.lemmas.Slice.Eq.{bytes_eq-Decides}
use Rattle.basics.specs.Booleans.{second_true}
use Rattle.op_trees.specs.declared.tree.Ty.{Ty}
use Rattle.op_trees.specs.declared.tree.Ty.TheVariants as T
use Rattle.op_trees.specs.declared.tree.Value.{Value}
use Rattle.op_trees.specs.declared.tree.Value.TheVariants as V
use Rattle.op_trees.specs.Types.{has_type}
use Rattle.process_core.specs.Ready.{Name}
use Rattle.process_core.specs.Instance.{Truths}
use Rattle.process_core.specs.declared.data.Given.{Given}
use Rattle.instance_start.specs.Description.{Constant}
use Rattle.instance_start.specs.Firsts.{begins_right}
use Rattle.instance_start.specs.Given.{given_by, misfit, fits, takes, is_taken, is_missing, constant_called}

pub taken_typed : (t : Ty) (v : Value) → takes t v ≡ true → IsTrue (has_type t v)
taken_typed T.Bool (V.Truth b) h = refl
taken_typed T.Bool (V.Number q) h = absurd cc
taken_typed T.Int (V.Truth b) h = absurd cc
taken_typed T.Int (V.Number q) h = h
taken_typed T.Real (V.Truth b) h = absurd cc
taken_typed T.Real (V.Number q) h = refl

no_misfit : {A : Type 0} (b c : Bool) (i : A) (j : Option A) → (if b then Some i else (if c then j else None)) ≡ None → b ≡ false
no_misfit true c i j h = absurd cc
no_misfit false c i j h = refl

pub none_misfits : (cs : List Constant) (given : List Given) → misfit cs given ≡ None → list_any (λ g. not (fits cs g)) given ≡ false
none_misfits cs given m =
    no_misfit (list_any (λ g. not (fits cs g)) given) (list_any (is_missing given) cs) (position_or_len (λ g. not (fits cs g)) given) (Some (length given)) m

pub given_typed : (cs : List Constant) (given : List Given) → list_any (λ g. not (fits cs g)) given ≡ false →
    (x : Name) (c : Constant) → constant_called cs x ≡ Some c → (v : Value) → given_by given x ≡ Some v → IsTrue (has_type c.ty v)
given_typed cs [] h x c f v e = absurd cc
given_typed cs (g ∷ gs) h x c f v e = by_name (bytes_eq g.name x) refl (λ r k. given_typed cs gs r x c f v k) e
  where
    first : (b r : Bool) → (not b || r) ≡ false → b ≡ true
    first true r k = refl
    first false r k = absurd cc

    rest : (b r : Bool) → (not b || r) ≡ false → r ≡ false
    rest true r k = k
    rest false r k = absurd cc

    by_name : (b : Bool) → bytes_eq g.name x ≡ b →
        (list_any (λ d. not (fits cs d)) gs ≡ false → given_by gs x ≡ Some v → IsTrue (has_type c.ty v)) → (if b then Some g.value else given_by gs x) ≡ Some v → IsTrue (has_type c.ty v)
    by_name true n r k =
        let same : g.name ≡ x = (bytes_eq-Decides g.name x).0 n in
        let found : constant_called cs g.name ≡ Some c = ap (constant_called cs) same ∙ f in
        let taken = sym (ap (λ o. is_taken o g.value) found) ∙ first (fits cs g) (list_any (λ d. not (fits cs d)) gs) h in
        subst (λ w. IsTrue (has_type c.ty w)) (let z : g.value ≡ v = cc in z) (taken_typed c.ty g.value (second_true c.is_open (takes c.ty g.value) taken))
    by_name false n r k = r (rest (fits cs g) (list_any (λ d. not (fits cs d)) gs) h) k

pub bool_right : (o : Option Value) → ((v : Value) → o ≡ Some v → IsTrue (has_type T.Bool v)) → begins_right Truths o ≡ true
bool_right None h = refl
bool_right (Some (V.Truth b)) h = refl
bool_right (Some (V.Number q)) h = h (V.Number q) refl
