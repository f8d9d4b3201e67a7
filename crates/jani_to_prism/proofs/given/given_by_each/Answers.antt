use Rattle.std.proofs.Common.{◌++◌, ◌∷◌, [], ◌∙◌, sym, subst, ap, map, take}
use Rattle.std.specs.List.{AllZip}
use Rattle.std.proofs.lemmas.List.{map-append}
use Rattle.std.proofs.lemmas.Slice.Zip.{all_zipped_more}
use Rattle.gathering.proofs.Loops.{taken}
use Rattle.prism_modules.specs.Code.{element_of}
use Rattle.jani_to_prism.specs.Given.{GivesOf}
use Rattle.jani_to_prism.proofs.given.given_by_each.Goals as goal

pub loop-el-preserved : goal.loop-el-preserved
loop-el-preserved c =
    let els = c.args.elements.now in
    let i = c.loop-el.el-index in
    let more = ap (map element_of) (taken els i c.el-item.result c.loop-el-test.true c.el-item.is) ∙ map-append element_of (take i els) (c.el-item.result ∷ []) in
    subst (AllZip GivesOf c.push.new.self.items) (sym more)
    (subst (λ ts. AllZip GivesOf ts (map element_of (take i els) ++ element_of c.el-item.result ∷ [])) (sym c.in_ok-push.ensures.items)
    (all_zipped_more GivesOf c.loop-el.all.items (map element_of (take i els)) c.in_ok-given_by_one.field-0 (element_of c.el-item.result) c.loop-el.invariant c.in_ok-given_by_one.ensures))
