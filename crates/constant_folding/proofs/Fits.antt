-- A type fits itself, and one that fits a type is wanted wherever that type is.
use Rattle.std.specs.Prelude.{◌≡◌, Some, false, IsTrue}
use Rattle.std.proofs.Common.{refl}
use Rattle.op_trees.specs.declared.tree.Ty.{Ty}
use Rattle.op_trees.specs.declared.tree.Ty.TheVariants as T
use Rattle.op_trees.specs.declared.wanted.Wanted.{Wanted}
use Rattle.op_trees.specs.declared.wanted.Wanted.TheVariants as W
use Rattle.op_trees.specs.Types.{fits}
use Rattle.op_trees.specs.Wanted.{is_unwanted, wanted_by}

pub fits_refl : (t : Ty) → IsTrue (fits t t)
fits_refl T.Bool = refl
fits_refl T.Int = refl
fits_refl T.Real = refl

pub fits_trans : (a b c : Ty) → IsTrue (fits a b) → IsTrue (fits b c) → IsTrue (fits a c)
fits_trans T.Bool T.Bool c h k = k
fits_trans T.Int T.Int c h k = k
fits_trans T.Int T.Real T.Real h k = refl
fits_trans T.Real T.Real c h k = k
fits_trans a b c h k = cc

pub fitting_wanted : (w : Wanted) (u a : Ty) → IsTrue (fits u a) → is_unwanted w (Some a) ≡ false → is_unwanted w (Some u) ≡ false
fitting_wanted w T.Bool T.Bool h k = k
fitting_wanted w T.Int T.Int h k = k
fitting_wanted w T.Real T.Real h k = k
fitting_wanted W.Anything T.Int T.Real h k = refl
fitting_wanted W.Number T.Int T.Real h k = refl
fitting_wanted w u a h k = cc

pub own_wanted : (t : Ty) → is_unwanted (wanted_by t) (Some t) ≡ false
own_wanted T.Bool = refl
own_wanted T.Int = refl
own_wanted T.Real = refl
