-- Which constants of an instance have a value. (PRISM manual, "The PRISM Language": "Constants"; jani-model specification, "Models". Which faults an
-- instance has is this project's own rule.)
use Rattle.std.specs.Prelude.{◌≢◌, ℕ, List}
use Rattle.std.specs.List.{AllByRecursion as Each}
use Rattle.process_core.specs.Instance.{Fault, fault_of}
use Rattle.process_core.specs.declared.data.FaultKind.TheVariants.{ConstUndef}

-- none of these faults of an instance is that the constant of this number is undefined
abbrev pub IsDefined : List Fault → ℕ → Type 0
IsDefined fs i = Each (λ f. f ≢ fault_of ConstUndef i) fs
