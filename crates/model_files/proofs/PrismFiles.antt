-- Files that are read and judged.
use Rattle.std.proofs.Common.{◌≡◌, sym, subst, ℕ, List, []}
use Rattle.std.specs.Prelude.{Result, Ok, Err, IfOk, IfErr}
use Rattle.bridge_io.specs.declared.reason.Refused.{Refused}
use Rattle.bridge_io.specs.declared.reason.Refused.TheVariants.{Memory, At}
use Rattle.prism_tree.specs.Syntax.{File}
use Rattle.prism_parse.specs.Parsed.{IsSpelled}
use Rattle.prism_check.specs.Faults.{faults}
use Rattle.prism_check.specs.Checked.{Checked, Refuses}
use Rattle.model_files.specs.PrismFile.{IsFaultless, RefusesPrism, of_tree}

module _ (bytes : List ℕ) (tree : File) (read : IsSpelled bytes tree) where
  pub faultless : {E : Type 0} (r : Result Checked E) → IfOk r (λ c. (c.file ≡ tree) × (faults tree ≡ [])) → IfOk r (λ c. IsFaultless bytes c.file)
  faultless (Ok c) ok = subst (IsFaultless bytes) (sym ok.0) (record { read = read; sound = ok.1 })
  faultless (Err e) ok = tt

  pub refuses : {C : Type 0} (r : Result C Refused) → IfErr r (Refuses tree) → IfErr r (RefusesPrism bytes)
  refuses (Ok c) refused = tt
  refuses (Err (Memory e)) refused = tt
  refuses (Err (At f)) refused = of_tree tree read refused
