-- What the laws ask of a file can be met: a file with a constant, a variable, a command with an action, a label and rewards has
-- no fault, is written out and has short names.
use Rattle.std.specs.Prelude.{◌≡◌, pos, [], ◌∷◌, codes, false, Some, None}
use Rattle.std.proofs.Common.{refl, arith}
use Rattle.std.proofs.lemmas.List.Elements.{All-nil}
use Rattle.bridge_io.specs.declared.reason.Named.{Named}
use Rattle.op_trees.specs.declared.tree.Ty.TheVariants as T
use Rattle.op_trees.specs.Tree.{Number, Name as At, Two}
use Rattle.prism_lex.specs.Words.{words}
use Rattle.process_core.specs.Ready.{Name}
use Rattle.prism_tree.specs.declared.operator.PrismOp.TheVariants as O
use Rattle.prism_tree.specs.declared.syntax.ItemOn.TheVariants as On
use Rattle.prism_tree.specs.Syntax.{Expression, plain, File}
use Rattle.prism_names.specs.Places.{IsPlaceOrder}
use Rattle.prism_print.specs.Printable.{IsPrintable}
use Rattle.prism_check.specs.Faults.{faults}
use Rattle.prism_check.specs.Flattened.{IsFlat}
use Rattle.jani_tree.specs.Form.{FileRead}
use Rattle.jani_check.specs.NameFaults.{name_faults}
use Rattle.jani_translation.specs.Translated.{translated}
use Rattle.jani_translation_laws.proofs.Form.{translated_has_form}
use Rattle.jani_translation_laws.proofs.Composition.{no_name_faults}

abbrev named : Name → Named
named x = record { name = x; at = 0 }

abbrev one : Expression
one = Number 0 (record { negative = false; digits = 1; exponent = pos 0; real = false })

abbrev at_one : Expression
at_one = Two 0 O.Equal (At 0 (codes "x")) (At 0 (codes "c"))

-- const int c=1; module M x:[1..c]; [a] x=c -> (x'=c); endmodule label "x" = x=c; rewards "r" [a] x=c : c; endrewards
abbrev example : File
example = record {
  constants = record { name = named (codes "c"); ty = T.Int; value = Some one } ∷ [];
  globals = [];
  formulas = [];
  modules = plain (record {
    name = named (codes "M");
    vars = record { name = named (codes "x"); range = Some (record { low = one; high = At 0 (codes "c") }); start = None } ∷ [];
    commands = record {
      action = Some (named (codes "a"));
      guard = at_one;
      branches = record { weight = None; writes = record { name = named (codes "x"); value = At 0 (codes "c") } ∷ [] } ∷ [];
    } ∷ [];
  }) ∷ [];
  labels = record { name = named (codes "x"); body = at_one } ∷ [];
  rewards = record { name = Some (named (codes "r")); items = record { on = On.Action (named (codes "a")); guard = at_one; value = At 0 (codes "c") } ∷ [] } ∷ [];
  init = None;
  end = 0;
}

printable : IsPrintable example
unfolding words
printable = record {
  constants = (((refl, refl), (refl, refl)), tt);
  globals = tt;
  formulas = tt;
  modules = (
    (
      (refl, refl),
      (((refl, refl), ((refl, refl), (refl, refl)), tt), tt),
      (((refl, refl), (refl, (refl, refl), (refl, refl)), tt, ((tt, (((refl, refl), (refl, refl)), tt)), tt)), tt),
    ),
    tt,
  );
  labels = ((refl, (refl, (refl, refl), (refl, refl))), tt);
  rewards = ((refl, (((refl, refl), (refl, (refl, refl), (refl, refl)), (refl, refl)), tt)), tt);
  init = tt;
}

sound : faults example ≡ []
sound = refl

ordered : IsPlaceOrder example []
ordered = record { within = All-nil _; count = omega arith; listed = tt; covers = λ x b e. absurd cc }

flat : IsFlat example
flat = record { checked = record { form = printable; sound = sound; order = ordered }; form = record { formulas = refl; modules = refl } }

example_form : FileRead (translated example)
example_form = translated_has_form example flat

example_clean : name_faults (translated example) ≡ []
example_clean = no_name_faults example flat
