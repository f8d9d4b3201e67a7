-- What the code that gathers the parts of a JANI file goes by: a variable with its owner.
use Rattle.std.specs.Prelude.{ℕ, Bool, Option}
use Rattle.jani_tree.specs.Syntax.{var_of}
use Rattle.jani_meaning.specs.Elements.{Owned, is_lasting, is_label, is_structure}
use Rattle.name_table.specs.declared.jani_parts.OwnedVar.{OwnedVar}
use Rattle.name_table.specs.declared.jani_parts.VarUse.{VarUse}
use Rattle.name_table.specs.declared.jani_parts.VarUse.TheVariants.{Lasting, Label, Structure}

-- a variable with its owner
abbrev pub owner_of : Option ℕ → Option ℕ
owner_of o = o

abbrev pub owned_of : OwnedVar → Owned
owned_of x = record { owner = owner_of x.owner; var = var_of x.var.now }

-- the variable is of this use
abbrev pub is_wanted : VarUse → Owned → Bool
is_wanted Lasting o = is_lasting o
is_wanted Label o = is_label o
is_wanted Structure o = is_structure o
