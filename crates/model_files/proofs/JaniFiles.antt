-- JANI files that are read and judged.
use Rattle.std.proofs.Common.{◌≡◌, sym, subst, ℕ, List, []}
use Rattle.std.specs.Prelude.{Result, Ok, Err, IfOk, IfErr}
use Rattle.bridge_io.specs.declared.reason.Refused.{Refused}
use Rattle.bridge_io.specs.declared.reason.Refused.TheVariants.{Memory, At}
use Rattle.decimal_json.specs.declared.tree.Json.{Json}
use Rattle.decimal_json.specs.Faults.{IsWhole}
use Rattle.jani_table.specs.declared.table.Form.TheVariants as F
use Rattle.jani_table.specs.Node.{node}
use Rattle.jani_table.specs.Faults.{faults as shape_faults}
use Rattle.jani_tree.specs.declared.syntax.JaniFile.{JaniFile}
use Rattle.jani_tree.specs.Syntax.{file_of}
use Rattle.jani_tree.specs.Faults.{FailsFor}
use Rattle.jani_check.specs.Faults.{faults}
use Rattle.model_files.specs.JaniFile.{IsJaniRead, IsFaultlessJani, RefusesJani, of_shape, of_model}

pub refuses_value : (bytes : List ℕ) (value : Json) → IsWhole bytes value → (r : Refused) → FailsFor (shape_faults F.Model (node value)) r → RefusesJani bytes r
refuses_value bytes value whole (Memory e) fails = tt
refuses_value bytes value whole (At f) fails = of_shape value whole fails

module _ (bytes : List ℕ) (value : Json) (file : JaniFile) (read : IsJaniRead bytes value (file_of file)) where
  pub faultless : {E : Type 0} (r : Result JaniFile E) → IfOk r (λ c. c ≡ file) → IfOk r (λ c. faults (file_of file) ≡ []) → IfOk r (λ c. IsFaultlessJani bytes (file_of c))
  faultless (Ok c) same clean = subst (λ x. IsFaultlessJani bytes (file_of x)) (sym same) (record { value = value; read = read; sound = clean })
  faultless (Err e) same clean = tt

  pub refuses : {C : Type 0} (r : Result C Refused) → IfErr r (λ e. FailsFor (faults (file_of file)) e) → IfErr r (RefusesJani bytes)
  refuses (Ok c) refused = tt
  refuses (Err (Memory e)) refused = tt
  refuses (Err (At f)) refused = of_model value (file_of file) read refused
