use Rattle.std.specs.Prelude.{◌++◌, IfOk}
use Rattle.std.specs.List.{flat_map, list_any}
use Rattle.std.specs.Option.{option_map}
use Rattle.std.proofs.Common.{◌≡◌, refl, ◌∙◌, ap, subst, sym}
use Rattle.std.proofs.Math.Path.{fun_ext}
use Rattle.prism_tree.specs.Syntax.{copied, file_of, module_of}
use Rattle.prism_flat.specs.Names.{part_of}
use Rattle.prism_check.specs.Demands.{var_demands, command_demands}
use Rattle.prism_check.specs.Known.{loses_by}
use Rattle.prism_check.specs.Levels.{lost_in, lost_by}
use Rattle.prism_check.specs.NameFaults.{loses_name, values}
use Rattle.prism_check.specs.Tables.{module_under, body_under, commands_in, new_name, pair_for, vars_in}
use Rattle.name_rules.specs.Names.{has_name, is_among}
use Rattle.prism_check.proofs.LostNames.{loses_is, none_lost}
use Rattle.prism_check.proofs.scope.copy_loses_name.Goals.{then-clean+then-not-some_lost, else-clean}
use Rattle.prism_check.proofs.scope.copy_loses_name.Goals as goal

pub returns : goal.returns
unfolding lost_in
returns c =
    let f = c.args.file.now in
    let m = c.args.m.now in
    let s = c.args.scope.now in
    let bodies = body_under s.formulas in
    let known = has_name s.known in
    let new = new_name c.in_ok-renaming.renaming in
    let from = option_map (λ m. module_of m.now) c.called-from.result in
    elim c.if-clean.branch [
      | then-clean+then-not-some_lost w ↦
          subst (λ r. IfOk r (λ b. b ≡ loses_name (file_of f) (part_of (file_of f) (copied m)))) (sym w.loses-is)
          (sym (none_lost (file_of f) m (c.requires.clean w.if-clean.true)
          (ap (λ g. list_any (loses_by g (is_among (values (file_of f)))) m.pairs) (sym (fun_ext c.requires.scope.formulas))
          ∙ ap (λ k. list_any (loses_by bodies k) m.pairs) (sym c.requires.scope.known)
          ∙ ap (list_any (loses_by bodies known)) (sym w.as_slice-then-clean.ensures) ∙ sym w.some_lost.ensures ∙ w.if-not-some_lost.true)))
      | else-clean w ↦
          subst (λ r. IfOk r (λ b. b ≡ loses_name (file_of f) (part_of (file_of f) (copied m)))) (sym w.loses-is)
          (subst (λ v. IfOk w.contents_lose_name-loses.result (λ b. b ≡ v))
          (loses_is f m bodies known new (lost_by bodies known new) w.as_slice-else-clean.result.now
          from (flat_map var_demands (vars_in from) ++ flat_map command_demands (commands_in from))
          (fun_ext c.requires.scope.formulas) c.requires.scope.known (fun_ext c.in_ok-renaming.ensures ∙ ap pair_for c.as_slice.ensures) refl w.as_slice-else-clean.ensures
          (c.called-from.ensures ∙ ap (module_under s.modules) c.as_str.ensures ∙ c.requires.scope.modules m.from.name)
          refl)
          w.contents_lose_name-loses.ensures)
    ]
