-- The trees of the properties of a PRISM properties file as it is written (PRISM manual, "Property Specification"), and what the
-- code holds.
use Rattle.bridge_io.specs.declared.reason.Named.{Named}
use Rattle.op_trees.specs.Tree.{tree}
use Rattle.prism_tree.specs.Syntax.{Expression}
use Rattle.prop_grammar.specs.declared.syntax.Structure.{Structure}
use Rattle.prop_grammar.specs.declared.syntax.Query.{Query}
use Rattle.prop_grammar.specs.declared.syntax.Query.TheVariants as Q
use Rattle.prop_grammar.specs.declared.syntax.PathForm as P
use Rattle.prop_grammar.specs.declared.syntax.PathForm.TheVariants as V
use Rattle.prop_grammar.specs.declared.syntax.Written as W
use Rattle.prop_grammar.specs.Property.{Ask, greatest, least, bounded, greatest_reward, least_reward, Path, finally, globally, until, weak_until, finally_within, until_within, Property}

-- a property as it is written: its name has a place, and a reward structure is named or is the first one
abbrev pub WrittenProperty : Type 0
WrittenProperty = Property Named Expression Structure

abbrev pub ask_of : Query → Ask Expression Structure
ask_of Q.PMax = greatest
ask_of Q.PMin = least
ask_of (Q.PBound c e) = bounded c (tree e)
ask_of (Q.RMax s) = greatest_reward s
ask_of (Q.RMin s) = least_reward s

abbrev pub path_of : P.PathForm → Path Expression
path_of (V.Finally e) = finally (tree e)
path_of (V.Globally e) = globally (tree e)
path_of (V.Until a b) = until (tree a) (tree b)
path_of (V.WeakUntil a b) = weak_until (tree a) (tree b)
path_of (V.FinallyWithin k e) = finally_within (tree k) (tree e)
path_of (V.UntilWithin k a b) = until_within (tree k) (tree a) (tree b)

abbrev pub written_of : W.Written → WrittenProperty
written_of p = record { name = p.name; ask = ask_of p.ask; path = path_of p.path }
