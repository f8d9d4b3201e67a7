-- Types without faults.
use Rattle.std.proofs.Common.{◌≡◌, ℕ, refl, sym, ap, subst, ◌∙◌, List, [], Option, Some, None, is_some, true, false, Bool, not}
use Rattle.std.specs.Prelude.{bytes_eq, codes}
use Rattle.basics.specs.Lists.{append_right, append_left}
use Rattle.bridge_io.specs.declared.reason.Reason.TheVariants.{WrongShape, LeftOut}
use Rattle.op_trees.specs.declared.tree.Ty.{Ty}
use Rattle.op_trees.specs.declared.tree.Ty.TheVariants as T
use Rattle.jani_table.specs.declared.table.Form.TheVariants as F
use Rattle.jani_table.specs.declared.table.Kind.TheVariants as O
use Rattle.jani_table.specs.declared.key.Key.TheVariants as K
use Rattle.jani_table.specs.Node.{Node, null, truth, number, text, array, object, Fields, node, fields}
use Rattle.jani_table.specs.NodeLaws.{node_object}
use Rattle.decimal_json.specs.declared.tree.Json.{Json}
use Rattle.decimal_json.specs.declared.tree.Json.TheVariants.{Object}
use Rattle.decimal_json.specs.declared.tree.Member.{Member}
use Rattle.jani_table.specs.Words.{ty_of, is_base, unless}
use Rattle.jani_table.specs.Faults.{faults, fault_if, fault_unless, is_word, member, members_faults, missing_faults, other_faults, bound_faults}
use Rattle.jani_table.specs.Table.{rows_of}
use Rattle.jani_table.specs.Laws.{part_there, part_clean, unless_clean}
use Rattle.jani_tree.specs.Syntax.{Expression, one_sided, bounded}
use Rattle.jani_tree.specs.Jani.{IsExpr, IsRange, range_of}

no_type : (at : ℕ) (o : Option Ty) → o ≡ None → fault_if at (unless (is_some o) WrongShape) ≡ [] → ⊥
no_type at None n c = cc
no_type at (Some t) n c = cc

pub constant_known : (at : ℕ) (s : List ℕ) → ty_of s ≡ None → faults F.ConstantType (text at s) ≡ [] → ⊥
constant_known at s n c = no_type at (ty_of s) n c

pub variable_known : (at : ℕ) (s : List ℕ) → ty_of s ≡ None → faults F.VariableType (text at s) ≡ [] → ⊥
variable_known at s n c = no_type at (ty_of s) n c

not_base : (at : ℕ) (o : Option Ty) → is_base o ≡ false → fault_if at (unless (is_base o) WrongShape) ≡ [] → ⊥
not_base at None n c = cc
not_base at (Some T.Bool) n c = cc
not_base at (Some T.Int) n c = cc
not_base at (Some T.Real) n c = cc

pub base_known : (at : ℕ) (s : List ℕ) → ty_of s ≡ None → faults F.BaseWord (text at s) ≡ [] → ⊥
base_known at s n c = not_base at (ty_of s) (ap is_base n) c

pub base_bool : (at : ℕ) (s : List ℕ) → ty_of s ≡ Some T.Bool → faults F.BaseWord (text at s) ≡ [] → ⊥
base_bool at s n c = not_base at (ty_of s) (ap is_base n) c

-- ---- a constant has no bounded type

bounded_word : (w : Node) → faults F.BoundedWord w ≡ [] → not (is_word (codes "bounded") (Some w)) ≡ true → ⊥
bounded_word (text at s) c n = by_test (bytes_eq (codes "bounded") s) c n
  where
    by_test : (b : Bool) → fault_if at (unless b WrongShape) ≡ [] → not b ≡ true → ⊥
    by_test true c n = cc
    by_test false c n = cc
bounded_word (null at) c n = cc
bounded_word (truth at b) c n = cc
bounded_word (number at d) c n = cc
bounded_word (array at vs) c n = cc
bounded_word (object at ms close) c n = cc

constant_object : (at : ℕ) (ms : Fields) (close : ℕ) → faults F.ConstantType (object at ms close) ≡ [] → ⊥
constant_object at ms close c = by_kind (member K.Kind ms) refl (part_there O.ConstantRange K.Kind (object at ms close) refl c)
  where
    by_kind : (o : Option Node) → member K.Kind ms ≡ o → is_some (member K.Kind ms) ≡ true → ⊥
    by_kind None m s = cc (ap is_some m)
    by_kind (Some w) m s =
        let own = append_right (missing_faults ms close (rows_of O.ConstantRange)) (other_faults O.ConstantRange ms at close) (append_right (members_faults O.ConstantRange ms) _ c) in
        let word = append_left (fault_unless (not (is_word (codes "bounded") (member K.Kind ms))) at LeftOut) (bound_faults ms close) own in
        bounded_word w (part_clean O.ConstantRange K.Kind (object at ms close) w refl c m)
        (ap (λ o. not (is_word (codes "bounded") o)) (sym m) ∙ unless_clean (not (is_word (codes "bounded") (member K.Kind ms))) at LeftOut word)

pub no_range : (v : Json) (at : ℕ) (ms : List Member) (close : ℕ) → v ≡ Object at ms close → faults F.ConstantType (node v) ≡ [] → ⊥
no_range v at ms close e c = constant_object at (fields ms) close (ap (faults F.ConstantType) (sym (ap node e ∙ node_object at ms close)) ∙ c)

-- ---- the bounds of an int

pub whole : (low high : Option Node) (v w : Node) (a b : Expression) → low ≡ Some v → high ≡ Some w → IsExpr v a → IsExpr w b → IsRange (range_of (Some T.Int) low high) (bounded a b)
whole low high v w a b e f p q =
    subst (λ o. IsRange (range_of (Some T.Int) o high) (bounded a b)) (sym e)
    (subst (λ o. IsRange (range_of (Some T.Int) (Some v) o) (bounded a b)) (sym f) (record { first = a; last = b; kind = refl; low_is = p; high_is = q }))

pub no_low : (low high : Option Node) → low ≡ None → IsRange (range_of (Some T.Int) low high) one_sided
no_low None None e = refl
no_low None (Some w) e = refl
no_low (Some v) high e = absurd cc

pub no_high : (low high : Option Node) → high ≡ None → IsRange (range_of (Some T.Int) low high) one_sided
no_high None None e = refl
no_high (Some v) None e = refl
no_high low (Some w) e = absurd cc
