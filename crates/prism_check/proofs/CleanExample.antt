-- A file without faults, with a formula and a copy of a module, and its formula in order.
use Rattle.std.specs.Prelude.{◌≡◌, ◌<◌, pos, [], ◌∷◌, Bool, true, false, ◌||◌, Some, None, cond, bytes_eq, codes}
use Rattle.std.specs.Option.{option_map}
use Rattle.std.proofs.Common.{refl, arith, inr}
use Rattle.std.proofs.lemmas.List.Elements.{All-nil, All-cons}
use Rattle.bridge_io.specs.declared.reason.Named.{Named}
use Rattle.op_trees.specs.declared.tree.Ty.TheVariants as T
use Rattle.op_trees.specs.Tree.{Number, Name as At, Two}
use Rattle.prism_lex.specs.Words.{words}
use Rattle.process_core.specs.Ready.{Name}
use Rattle.prism_tree.specs.declared.operator.PrismOp.TheVariants as O
use Rattle.prism_tree.specs.Syntax.{Expression, Formula, plain, copied, File}
use Rattle.prism_flat.specs.Flat.{flat}
use Rattle.prism_flat.specs.Places.{IsPlaceOrder}
use Rattle.prism_check.specs.Clean.{IsClean}
use Rattle.prism_check.proofs.CleanFile.{flat_is_clean}

abbrev named : Name → Named
named x = record { name = x; at = 0 }

abbrev one : Expression
one = Number 0 (record { negative = false; digits = 1; exponent = pos 0; real = false })

-- const int c=1; formula f=c; module M x:[1..f]; [] x=f -> (x'=c); endmodule module N = M [x=y] endmodule
abbrev example : File
example = record {
  constants = record { name = named (codes "c"); ty = T.Int; value = Some one } ∷ [];
  globals = [];
  formulas = record { name = named (codes "f"); body = At 0 (codes "c") } ∷ [];
  modules = plain (record {
    name = named (codes "M");
    vars = record { name = named (codes "x"); range = Some (record { low = one; high = At 0 (codes "f") }); start = None } ∷ [];
    commands = record {
      action = None;
      guard = Two 0 O.Equal (At 0 (codes "x")) (At 0 (codes "f"));
      branches = record { weight = None; writes = record { name = named (codes "x"); value = At 0 (codes "c") } ∷ [] } ∷ [];
    } ∷ [];
  })
      ∷ copied (record { name = named (codes "N"); from = named (codes "M"); pairs = record { old = named (codes "x"); new = named (codes "y") } ∷ [] }) ∷ [];
  labels = [];
  rewards = [];
  init = None;
  end = 0;
}

clean : IsClean example
unfolding words
clean = record {
  printable = record {
    constants = (((refl, refl), (refl, refl)), tt);
    globals = tt;
    formulas = (((refl, refl), (refl, refl)), tt);
    modules = (
      ((refl, refl), (((refl, refl), ((refl, refl), (refl, refl)), tt), tt), ((tt, (refl, (refl, refl), (refl, refl)), tt, ((tt, (((refl, refl), (refl, refl)), tt)), tt)), tt)),
      (((refl, refl), (refl, refl), tt, (((refl, refl), (refl, refl)), tt)), tt),
    );
    labels = tt;
    rewards = tt;
    init = tt;
  };
  names = refl;
  types = refl;
}

placed : IsPlaceOrder example (0 ∷ [])
placed = record {
  within = All-cons (λ i. i < 1) 0 [] (omega arith) (All-nil (λ i. i < 1));
  count = omega arith;
  listed = (refl, inr refl, tt);
  covers = λ x b e. by_test x b (bytes_eq (codes "f") x) e;
}
  where
    by_test : (x : Name) (b : Expression) (t : Bool) → option_map (λ (f : Formula). f.body) (cond t (Some (record { name = named (codes "f"); body = At 0 (codes "c") })) None) ≡ Some b → (t || false) ≡ true
    by_test x b true e = refl
    by_test x b false e = absurd cc

flat_clean : IsClean (flat example)
flat_clean = flat_is_clean example (0 ∷ []) clean placed
