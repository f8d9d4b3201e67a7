-- What stands under names, where items of a list are put there one after another, each if nothing stands under its name.
use Rattle.std.specs.Prelude.{◌≡◌, List, length, Bool, true, false, ◌&&◌, Option, Some, None, is_none, not, if◌then◌else◌}
use Rattle.std.specs.List.{list_any, position_or_len}
use Rattle.std.specs.Option.{option_or}
use Rattle.std.proofs.Common.{refl, sym, ap, ap₂, ◌∙◌}
use Rattle.name_rules.specs.Names.{Name}
use Rattle.op_trees.specs.declared.tree.Value.{Value}
use Rattle.process_core.specs.declared.data.Given.{Given}
use Rattle.instance_start.specs.Description.{Constant}
use Rattle.instance_start.specs.Given.{fits, given_by, misfit}

pub put_or : {A : Type 0} (old : Option A) (b : Bool) (a : A) (rest : Option A) → option_or (option_or old (if b then Some a else None)) rest ≡ option_or old (if b then Some a else rest)
put_or None true a rest = refl
put_or None false a rest = refl
put_or (Some y) b a rest = refl

pub only_seen : {A : Type 0} (o : Option A) → o ≡ option_or o None
only_seen None = refl
only_seen (Some y) = refl

-- the answer where each given value fits
pub fitting_misfit : (cs : List Constant) (given : List Given) (values : Name → Option Value) (b : Bool) → list_any (λ g. not (fits cs g)) given ≡ false → values ≡ given_by given →
    b ≡ list_any (λ c. c.is_open && is_none (values c.name)) cs → (if b then Some (length given) else None) ≡ misfit cs given
fitting_misfit cs given values b fit are missing =
    ap₂ (λ any some. if any then Some (position_or_len (λ g. not (fits cs g)) given) else (if some then Some (length given) else None))
    (sym fit)
    (missing ∙ ap (λ (f : Name → Option Value). list_any (λ c. c.is_open && is_none (f c.name)) cs) are)
