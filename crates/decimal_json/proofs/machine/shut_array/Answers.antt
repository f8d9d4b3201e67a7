use Rattle.std.proofs.Common.{reverse, arith, ne_eqb}
use Rattle.decimal_json.specs.declared.tree.Json.TheVariants.{Array}
use Rattle.decimal_json.specs.States.{closes}
use Rattle.decimal_json.proofs.StepLemmas.{plain, open_array_close, closing_is}
use Rattle.decimal_json.proofs.Steps as s
use Rattle.decimal_json.proofs.machine.shut_array.Goals as goal

pub returns-then-c-ne93-clause-goes : goal.returns-then-c-ne93-clause-goes
returns-then-c-ne93-clause-goes c at st p e = let k = closing_is c.args.c c.requires in s.array_bad _ _ _ _ p _ k.0 k.1 (ne_eqb _ _ (λ f. let n = c.if-c-ne93.true in omega (arith, n, f)))

pub returns-clause-goes : goal.returns-clause-goes
returns-clause-goes c at st p e = plain p _ _ 0x5d _ (λ k. closes (reverse st.frames) (Array c.args.start c.push.new.self)) e (let n = c.if-c-ne93.false in omega (arith, n)) (open_array_close st.frames _ p _ _ _ c.in_ok-push.ensures.ok)
