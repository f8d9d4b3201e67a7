use Rattle.std.specs.Prelude.{length, map, nat_lt}
use Rattle.std.specs.List.{list_any}
use Rattle.std.proofs.Common.{◌∙◌, sym, ap}
use Rattle.std.proofs.Math.Path.{fun_ext}
use Rattle.prism_tree.specs.Syntax.{file_of, rewards_of}
use Rattle.prism_check.specs.Tables.{module_under}
use Rattle.prism_check.proofs.Acting.{counted_commands, counted_vectors}
use Rattle.prism_check.proofs.Limits.{commands_pass, rewards_pass, nodes_pass, height_passes, vectors_pass, none_passes}
use Rattle.prism_check.proofs.sizes.judge_by.Goals as goal
use Rattle.prism_check.proofs.sizes.judge_by.Goals.{then-commands-gt-COMMAND_LIMIT-via-then-commands-gt-COMMAND_LIMIT, then-commands-gt-COMMAND_LIMIT-via-else-commands-gt-COMMAND_LIMIT+then-has_long_rewards, then-size-gt-NODE_LIMIT-via-then-size-gt-NODE_LIMIT, then-size-gt-NODE_LIMIT-via-else-size-gt-NODE_LIMIT+then-size-gt-HEIGHT_LIMIT}

pub returns-then-commands-gt-COMMAND_LIMIT : goal.returns-then-commands-gt-COMMAND_LIMIT
returns-then-commands-gt-COMMAND_LIMIT c =
    elim c.then-commands-gt-COMMAND_LIMIT.branch [
      | then-commands-gt-COMMAND_LIMIT-via-then-commands-gt-COMMAND_LIMIT w ↦
          commands_pass (file_of c.args.file.now) c.count_commands-commands.result
          (counted_commands c.args.file.now (module_under c.args.modules.now) _ _ c.count_commands-commands.ensures
          (fun_ext c.requires.modules) c.as_slice.ensures)
          w.if-commands-gt-COMMAND_LIMIT.true
      | then-commands-gt-COMMAND_LIMIT-via-else-commands-gt-COMMAND_LIMIT+then-has_long_rewards w ↦
          rewards_pass (file_of c.args.file.now)
          (sym (w.has_long_rewards.ensures ∙ ap (λ rs. list_any (λ r. nat_lt 1024 (length r.items)) (map rewards_of rs)) w.as_slice-else-commands-gt-COMMAND_LIMIT.ensures)
          ∙ w.if-has_long_rewards.true)
    ]

pub returns-then-size-gt-NODE_LIMIT : goal.returns-then-size-gt-NODE_LIMIT
returns-then-size-gt-NODE_LIMIT c =
    elim c.then-size-gt-NODE_LIMIT.branch [
      | then-size-gt-NODE_LIMIT-via-then-size-gt-NODE_LIMIT w ↦
          nodes_pass (file_of c.args.file.now) c.in_ok-size.size.nodes c.in_ok-size.ensures.nodes w.if-size-gt-NODE_LIMIT.true
      | then-size-gt-NODE_LIMIT-via-else-size-gt-NODE_LIMIT+then-size-gt-HEIGHT_LIMIT w ↦
          height_passes (file_of c.args.file.now) c.in_ok-size.size.height c.in_ok-size.ensures.height w.if-size-gt-HEIGHT_LIMIT.true
    ]

pub returns-then-has_many_vectors : goal.returns-then-has_many_vectors
returns-then-has_many_vectors c =
    vectors_pass (file_of c.args.file.now)
    (sym (counted_vectors c.args.file.now (module_under c.args.modules.now) _ c.has_many_vectors.result c.len.result c.in_ok-actions.actions
    c.has_many_vectors.ensures c.len.ensures c.in_ok-actions.ensures
    (fun_ext c.requires.modules) c.as_slice-2.ensures)
    ∙ c.if-has_many_vectors.true)

pub returns : goal.returns
returns c =
    none_passes (file_of c.args.file.now) c.in_ok-size.size.nodes c.in_ok-size.size.height c.count_commands-commands.result
    c.in_ok-size.ensures.nodes c.if-size-gt-NODE_LIMIT.false c.in_ok-size.ensures.height c.if-size-gt-HEIGHT_LIMIT.false
    (counted_commands c.args.file.now (module_under c.args.modules.now) _ _ c.count_commands-commands.ensures
    (fun_ext c.requires.modules) c.as_slice.ensures)
    c.if-commands-gt-COMMAND_LIMIT.false
    (sym (c.has_long_rewards.ensures ∙ ap (λ rs. list_any (λ r. nat_lt 1024 (length r.items)) (map rewards_of rs)) c.as_slice-else-commands-gt-COMMAND_LIMIT.ensures)
    ∙ c.if-has_long_rewards.false)
    (sym (counted_vectors c.args.file.now (module_under c.args.modules.now) _ c.has_many_vectors.result c.len.result c.in_ok-actions.actions
    c.has_many_vectors.ensures c.len.ensures c.in_ok-actions.ensures
    (fun_ext c.requires.modules) c.as_slice-2.ensures)
    ∙ c.if-has_many_vectors.false)
