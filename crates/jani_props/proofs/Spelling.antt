-- Words and what they are.
use Rattle.std.proofs.Common.{◌≡◌, ℕ, refl, ap, List, [], Option, Some, None}
use Rattle.std.specs.Prelude.{bytes_eq}
use Rattle.std.proofs.lemmas.Slice.Eq.{bytes_eq-Decides}
use Rattle.basics.specs.Members.{found_passes}
use Rattle.jani_table.specs.declared.operator.JaniOp.{JaniOp}
use Rattle.jani_table.specs.Operators.{op_of, op_text, ops}
use Rattle.jani_props.specs.declared.words.PropOp.{PropOp}
use Rattle.jani_props.specs.declared.words.OpWord.TheVariants.{Property, Operator, Other}
use Rattle.jani_props.specs.Words.{prop_op_of, prop_ops, prop_text, or_operator}

pub prop_spelled : (s : List ℕ) (p : PropOp) → prop_op_of s ≡ Some p → prop_text p ≡ s
unfolding prop_op_of
prop_spelled s p e = (bytes_eq-Decides (prop_text p) s).0 (found_passes (λ o. bytes_eq (prop_text o) s) prop_ops p e)

pub op_spelled : (s : List ℕ) (o : JaniOp) → op_of s ≡ Some o → op_text o ≡ s
unfolding op_of
op_spelled s o e = (bytes_eq-Decides (op_text o) s).0 (found_passes (λ o. bytes_eq (op_text o) s) ops o e)

pub property_word : (p : Option PropOp) (o : Option JaniOp) (q : PropOp) → or_operator p o ≡ Property q → p ≡ Some q
property_word None None q e = absurd cc
property_word None (Some o) q e = absurd cc
property_word (Some p) o q e = ap Some (cc e)

pub operator_word : (p : Option PropOp) (o : Option JaniOp) (q : JaniOp) → or_operator p o ≡ Operator q → o ≡ Some q
operator_word None None q e = absurd cc
operator_word None (Some o) q e = ap Some (cc e)
operator_word (Some p) o q e = absurd cc

pub other_word : (p : Option PropOp) (o : Option JaniOp) → or_operator p o ≡ Other → o ≡ None
other_word None None e = refl
other_word None (Some o) e = absurd cc
other_word (Some p) o e = absurd cc
