-- The tables of types of a file whose formulas are in order.
use Rattle.std.specs.Prelude.{◌≡◌, ℕ, List, None}
use Rattle.name_rules.specs.declared.map.NameMap.{NameMap}
use Rattle.name_rules.specs.Names.{Name, under}
use Rattle.prism_tree.specs.Syntax.{File}
use Rattle.prism_flat.specs.Places.{at_places, IsPlaceOrder}
use Rattle.prism_check.specs.declared.variables.Declared.{Declared}
use Rattle.prism_check.specs.declared.typing.Known.{Known}
use Rattle.prism_check.specs.declared.typing.Names.{Names}
use Rattle.prism_check.specs.Typing.{IsDeclared, declared_type, is_declared_variable, known_after, type_under, varies_under}
use Rattle.prism_check.specs.FileNames.{AreTyped}
use Rattle.prism_check.proofs.TypesJudged.{are_names}

pub typed_tables : (file : File) (places : List ℕ) (declared : Declared) (formulas : NameMap Known) → IsPlaceOrder file places → IsDeclared declared file →
    ((x : Name) → under formulas x ≡ known_after (declared_type declared) (is_declared_variable declared) (at_places file.formulas places) x) →
    AreTyped (record { declared = declared; formulas = formulas }) file
unfolding type_under varies_under
typed_tables file places declared formulas ordered is_declared learned =
    let names : Names = record {
      declared = record { ref_ptr = (0, 0); now = declared };
      formulas = record { ref_ptr = (0, 0); now = formulas };
      renaming = None;
    } in
    let found = are_names file places names ordered is_declared learned in
    record { types = found.typed; varies = found.varies }
