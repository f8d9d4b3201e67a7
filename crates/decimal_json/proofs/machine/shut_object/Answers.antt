use Rattle.std.proofs.Common.{◌∙◌, reverse, arith, ne_eqb}
use Rattle.decimal_json.specs.declared.tree.Json.TheVariants.{Object}
use Rattle.decimal_json.specs.States.{closes}
use Rattle.decimal_json.proofs.StepLemmas.{plain, open_object_close, closing_is}
use Rattle.decimal_json.proofs.Steps as s
use Rattle.decimal_json.proofs.machine.shut_object.Goals as goal

pub returns-then-c-ne125-clause-goes : goal.returns-then-c-ne125-clause-goes
returns-then-c-ne125-clause-goes c st p e = let k = closing_is c.args.c c.requires in s.object_bad _ _ _ _ _ p _ k.0 k.1 (ne_eqb _ _ (λ f. let n = c.if-c-ne125.true in omega (arith, n, f)))

pub returns-clause-goes : goal.returns-clause-goes
returns-clause-goes c st p e = plain p _ _ 0x7d _ (λ k. closes (reverse st.frames) (Object c.args.start c.into_list.result k)) e (let n = c.if-c-ne125.false in omega (arith, n)) (open_object_close st.frames _ p _ c.args.pending _ (c.into_list.ensures ∙ c.in_ok-members.ensures))
