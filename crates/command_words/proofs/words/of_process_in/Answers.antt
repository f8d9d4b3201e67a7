use Rattle.std.proofs.Common.{rules, ◌≡◌, ◌≢◌, refl, ◌+◌, arith}
use Rattle.std.specs.Prelude.{codes}
use Rattle.command_words.specs.Words.{HasForm, texts}
use Rattle.command_words.specs.Fronts.{HeadForm, PathForm, RowsForm, BoundsForm, ShowForm, SimulateForm, SpecialiseForm}
use Rattle.command_words.proofs.Wrong.{asked_behind, behind_verb}
use Rattle.command_words.proofs.Requests.{other_verb, behind_show, behind_simulate, behind_path, behind_rows, behind_bounds, behind_carry, behind_specialise}
use Rattle.command_words.proofs.words.of_process_in.Goals as goal

pub returns-in-Err : goal.returns-in-Err
returns-in-Err c =
    let same : c.args.verb.now ≡ codes "show" = search rules in
    asked_behind HasForm (texts c.args.words.now) (texts c.args.rest.now) c.args.verb.now _ _ c.requires.words same (behind_show _ _ c.in-Err.ensures)

pub returns-in-Err-At : goal.returns-in-Err-At
returns-in-Err-At c =
    let same : c.args.verb.now ≡ codes "simulate" = search rules in
    rw c.in-Err-At.field-0-is
    (asked_behind HasForm (texts c.args.words.now) (texts c.args.rest.now) c.args.verb.now _ (c.in-Err-At.k + 1) c.requires.words same (behind_simulate _ _ (rw c.in-Err-At.field-0-is at c.in-Err-At.ensures)))

pub returns-in-Err-path_in : goal.returns-in-Err-path_in
returns-in-Err-path_in c =
    let same : c.args.verb.now ≡ codes "check-path" = search rules in
    asked_behind HasForm (texts c.args.words.now) (texts c.args.rest.now) c.args.verb.now _ _ c.requires.words same (behind_path _ _ c.in-Err-path_in.ensures)

pub returns-in-Err-rows_in : goal.returns-in-Err-rows_in
returns-in-Err-rows_in c =
    let same : c.args.verb.now ≡ codes "check-rows" = search rules in
    asked_behind HasForm (texts c.args.words.now) (texts c.args.rest.now) c.args.verb.now _ _ c.requires.words same (behind_rows _ _ c.in-Err-rows_in.ensures)

pub returns-in-Err-bounds_in : goal.returns-in-Err-bounds_in
returns-in-Err-bounds_in c =
    let same : c.args.verb.now ≡ codes "check-bound" = search rules in
    asked_behind HasForm (texts c.args.words.now) (texts c.args.rest.now) c.args.verb.now _ _ c.requires.words same (behind_bounds _ _ c.in-Err-bounds_in.ensures)

pub returns-in-Err-carry_in : goal.returns-in-Err-carry_in
returns-in-Err-carry_in c =
    let same : c.args.verb.now ≡ codes "carry-path" = search rules in
    asked_behind HasForm (texts c.args.words.now) (texts c.args.rest.now) c.args.verb.now _ _ c.requires.words same (behind_carry _ _ c.in-Err-carry_in.ensures)

pub returns-in-Err-specialise_in : goal.returns-in-Err-specialise_in
returns-in-Err-specialise_in c =
    let same : c.args.verb.now ≡ codes "specialise" = search rules in
    asked_behind HasForm (texts c.args.words.now) (texts c.args.rest.now) c.args.verb.now _ _ c.requires.words same (behind_specialise _ _ c.in-Err-specialise_in.ensures)

pub returns-in_default : goal.returns-in_default
returns-in_default c =
    let not_show : c.args.verb.now ≢ codes "show" = search rules in
    let not_simulate : c.args.verb.now ≢ codes "simulate" = search rules in
    let not_path : c.args.verb.now ≢ codes "check-path" = search rules in
    let not_rows : c.args.verb.now ≢ codes "check-rows" = search rules in
    let not_bound : c.args.verb.now ≢ codes "check-bound" = search rules in
    let not_carry : c.args.verb.now ≢ codes "carry-path" = search rules in
    let not_specialise : c.args.verb.now ≢ codes "specialise" = search rules in
    let o = c.requires.others in
    asked_behind HasForm (texts c.args.words.now) (texts c.args.rest.now) c.args.verb.now c.args.verb.now 1 c.requires.words refl
    (other_verb _ _ o.0 o.1 o.2 o.3 not_show not_simulate o.4 not_path not_rows not_bound not_carry not_specialise)

pub overflow_add-result : goal.overflow_add-result
overflow_add-result c = let h = behind_verb ShowForm c.args.words.now c.args.rest.now c.args.verb.now c.in-Err.k c.requires.words c.in-Err.ensures in omega arith

pub overflow_add-result-in-Err-At : goal.overflow_add-result-in-Err-At
overflow_add-result-in-Err-At c = let h = behind_verb SimulateForm c.args.words.now c.args.rest.now c.args.verb.now c.in-Err-At.k c.requires.words (rw c.in-Err-At.field-0-is at c.in-Err-At.ensures) in let e = c.in-Err-At.k-is in omega arith

pub overflow_add-result-in-Err-path_in : goal.overflow_add-result-in-Err-path_in
overflow_add-result-in-Err-path_in c = let h = behind_verb (HeadForm PathForm) c.args.words.now c.args.rest.now c.args.verb.now c.in-Err-path_in.k c.requires.words c.in-Err-path_in.ensures in omega arith

pub overflow_add-result-in-Err-rows_in : goal.overflow_add-result-in-Err-rows_in
overflow_add-result-in-Err-rows_in c = let h = behind_verb (HeadForm RowsForm) c.args.words.now c.args.rest.now c.args.verb.now c.in-Err-rows_in.k c.requires.words c.in-Err-rows_in.ensures in omega arith

pub overflow_add-result-in-Err-bounds_in : goal.overflow_add-result-in-Err-bounds_in
overflow_add-result-in-Err-bounds_in c = let h = behind_verb (HeadForm BoundsForm) c.args.words.now c.args.rest.now c.args.verb.now c.in-Err-bounds_in.k c.requires.words c.in-Err-bounds_in.ensures in omega arith

pub overflow_add-result-in-Err-carry_in : goal.overflow_add-result-in-Err-carry_in
overflow_add-result-in-Err-carry_in c = let h = behind_verb (HeadForm PathForm) c.args.words.now c.args.rest.now c.args.verb.now c.in-Err-carry_in.k c.requires.words c.in-Err-carry_in.ensures in omega arith

pub overflow_add-result-in-Err-specialise_in : goal.overflow_add-result-in-Err-specialise_in
overflow_add-result-in-Err-specialise_in c = let h = behind_verb SpecialiseForm c.args.words.now c.args.rest.now c.args.verb.now c.in-Err-specialise_in.k c.requires.words c.in-Err-specialise_in.ensures in omega arith
