use Rattle.std.proofs.Common.{◌≡◌, ◌∙◌, Some, List, [], ap, map, subst, sym}
use Rattle.std.specs.List.{AllByRecursion}
use Rattle.name_rules.specs.Circles.{circles as circles_of}
use Rattle.instance_start.specs.Given.{given_by}
use Rattle.prism_tree.specs.declared.operator.PrismOp.{PrismOp}
use Rattle.prism_tree.specs.Syntax.{const_of}
use Rattle.prism_tree.specs.Operators.{prism_meaning}
use Rattle.constant_folding.specs.Constants as folding
use Rattle.constant_folding.specs.Constants.{AnyConst, called, declared}
use Rattle.constant_folding.proofs.Fitting.{all_fitting, fitting_here, known_here}
use Rattle.specialise_prism.specs.Specialised.{any_const, any_constants, specialised}
use Rattle.specialise_prism.proofs.Once.{any_own, any_uncircled}
use Rattle.specialise_prism.proofs.prism.specialise_prism.Goals as goal

pub known_under-requires-clause-circles : goal.known_under-requires-clause-circles
known_under-requires-clause-circles c =
    let same : map folding.const_of c.as_slice-in-Ok.result.now ≡ any_constants c.args.flat.now =
    ap (map folding.const_of) c.as_slice-in-Ok.ensures.value ∙ c.in-Ok.ensures ∙ ap (λ cs. map any_const (map const_of cs)) c.as_slice.ensures ∙ ap any_constants c.file.ensures.tree in
    subst (λ (cs : List (AnyConst PrismOp)). circles_of (map declared cs) ≡ []) (sym same) (any_uncircled c.args.flat.now c.file.ensures.flat)

pub known_under-requires-clause-own : goal.known_under-requires-clause-own
known_under-requires-clause-own c =
    let same : map folding.const_of c.as_slice-in-Ok.result.now ≡ any_constants c.args.flat.now =
    ap (map folding.const_of) c.as_slice-in-Ok.ensures.value ∙ c.in-Ok.ensures ∙ ap (λ cs. map any_const (map const_of cs)) c.as_slice.ensures ∙ ap any_constants c.file.ensures.tree in
    subst (λ (cs : List (AnyConst PrismOp)). AllByRecursion (λ k. called cs k.name.name ≡ Some k) cs) (sym same) (any_own c.args.flat.now c.file.ensures.flat)

pub folded_by-requires-clause-known : goal.folded_by-requires-clause-known
folded_by-requires-clause-known c =
    let same : map folding.const_of c.as_slice-in-Ok.result.now ≡ any_constants c.args.flat.now =
    ap (map folding.const_of) c.as_slice-in-Ok.ensures.value ∙ c.in-Ok.ensures ∙ ap (λ cs. map any_const (map const_of cs)) c.as_slice.ensures ∙ ap any_constants c.file.ensures.tree in
    known_here prism_meaning _ _ (given_by c.args.given.now) c.in-Ok-known_under.table same c.in-Ok-known_under.ensures.known

pub folded_by-requires-clause-fitting : goal.folded_by-requires-clause-fitting
folded_by-requires-clause-fitting c =
    let same : map folding.const_of c.as_slice-in-Ok.result.now ≡ any_constants c.args.flat.now =
    ap (map folding.const_of) c.as_slice-in-Ok.ensures.value ∙ c.in-Ok.ensures ∙ ap (λ cs. map any_const (map const_of cs)) c.as_slice.ensures ∙ ap any_constants c.file.ensures.tree in
    fitting_here prism_meaning _ _ (given_by c.args.given.now) c.in-Ok-known_under.table same c.in-Ok-known_under.ensures.known
    (all_fitting _ c.args.given.now c.in-Ok-known_under.ensures.fits)

pub returns-in-Ok-folded_by-clause-tree : goal.returns-in-Ok-folded_by-clause-tree
returns-in-Ok-folded_by-clause-tree c = c.in-Ok-folded_by.ensures.tree ∙ ap (specialised c.args.flat.now) c.in-Ok-known_under.ensures.known.given
