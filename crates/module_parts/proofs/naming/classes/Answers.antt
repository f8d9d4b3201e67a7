use Rattle.std.proofs.Common.{◌≡◌, ◌∙◌, ap, sym, length, take, drop, ℕ}
use Rattle.std.proofs.lemmas.List.{length-map}
use Rattle.jani_tree.specs.Syntax.{File, file_of, const_of}
use Rattle.module_parts.proofs.EntryClasses.{classes_are, elements_counted}
use Rattle.module_parts.proofs.naming.classes.Goals as goal

pub returns : goal.returns
returns c =
    let file : File = file_of c.args.file.now in
    let es = c.args.entries.now in
    let constants : c.len-constants.result ≡ length file.constants = c.len-constants.ensures ∙ sym (length-map c.args.file.now.constants const_of) in
    classes_are file es c.drop_from-variables.result.now c.drop_from-locations.result.now c.drop_from-modules.result.now c.drop_from-marks.result.now c.drop_from-rewards.result.now
    c.drop_from.result.now c.first_of.result.now c.first_of-2.result.now c.first_of-3.result.now c.first_of-4.result.now c.first_of-5.result.now c.first_of-6.result.now
    (c.drop_from-variables.ensures ∙ ap (λ (n : ℕ). drop n es) constants)
    (c.drop_from-locations.ensures ∙ ap (λ (n : ℕ). drop n c.drop_from-variables.result.now) c.requires.lasting)
    (c.drop_from-modules.ensures ∙ ap (λ (n : ℕ). drop n c.drop_from-locations.result.now) (c.len-elements.ensures ∙ sym (elements_counted c.args.file.now.elements)))
    (c.drop_from-marks.ensures ∙ ap (λ (n : ℕ). drop n c.drop_from-modules.result.now) (c.len-elements.ensures ∙ sym (elements_counted c.args.file.now.elements)))
    (c.drop_from-rewards.ensures ∙ ap (λ (n : ℕ). drop n c.drop_from-marks.result.now) c.requires.labels)
    (c.drop_from.ensures ∙ ap (λ (n : ℕ). drop n c.drop_from-rewards.result.now) c.requires.structures)
    (c.first_of.ensures ∙ ap (λ (n : ℕ). take n es) constants)
    (c.first_of-2.ensures ∙ ap (λ (n : ℕ). take n c.drop_from-variables.result.now) c.requires.lasting)
    (c.first_of-3.ensures ∙ ap (λ (n : ℕ). take n c.drop_from-locations.result.now) (c.len-elements.ensures ∙ sym (elements_counted c.args.file.now.elements)))
    (c.first_of-4.ensures ∙ ap (λ (n : ℕ). take n c.drop_from-modules.result.now) (c.len-elements.ensures ∙ sym (elements_counted c.args.file.now.elements)))
    (c.first_of-5.ensures ∙ ap (λ (n : ℕ). take n c.drop_from-marks.result.now) c.requires.labels)
    (c.first_of-6.ensures ∙ ap (λ (n : ℕ). take n c.drop_from-rewards.result.now) c.requires.structures)
