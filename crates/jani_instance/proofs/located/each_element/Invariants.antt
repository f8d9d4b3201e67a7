use Rattle.std.proofs.Common.{◌≡◌, ℕ, length}
use Rattle.std.specs.Prelude.{Some, slice_get}
use Rattle.jani_tree.specs.Syntax.{Automaton, file_of}
use Rattle.jani_meaning.specs.Elements.{elements}
use Rattle.jani_instance.specs.Actions.{actions_of}
use Rattle.jani_instance.specs.Built.{IsNamedElementOf}
use Rattle.jani_instance.specs.declared.data.NamedElement.{NamedElement}
use Rattle.jani_instance.proofs.located.each_element.Given as goal

abbrev pub invariant-loop-i : goal.invariant-loop-i
invariant-loop-i l =
    (length l.all.items ≡ l.i)
    × ((k : ℕ) (a : Automaton) (e : NamedElement) → slice_get (elements (file_of l.basis.file.now)) k ≡ Some a → slice_get l.all.items k ≡ Some e →
    IsNamedElementOf (file_of l.basis.file.now) (actions_of a) k a e)
