use Rattle.std.proofs.Common.{◌≡◌, ◌∙◌, ◌≤◌, ◌+◌, ap, arith, cond, drop, length, not, sym}
use Rattle.std.specs.Prelude.{Some, None, bytes_eq, if◌then◌else◌, unwrap_or}
use Rattle.std.specs.List.{position_or_len}
use Rattle.std.specs.Option.{option_or}
use Rattle.std.proofs.lemmas.List.{at_drop_all}
use Rattle.basics.specs.Lists.{drop_item}
use Rattle.basics.specs.Texts.{bytes_eq_comm}
use Rattle.name_rules.specs.Names.{under}
use Rattle.prism_instance.specs.Sites.{texts_of}
use Rattle.prism_instance.proofs.PlaceLaws.{number_more}
use Rattle.prism_instance.proofs.modules.numbers_of.Goals as goal

pub loop-k-init : goal.loop-k-init
loop-k-init c =
    let xs = c.args.actions.now in
    record {
      within = omega arith;
      numbers = λ x.
          let p = position_or_len (bytes_eq x) (texts_of xs) in
          ap (λ f. unwrap_or (f x) (0 + p)) c.new-numbers.ensures ∙ (let e : 0 + p ≡ p = omega arith in e);
    }

pub loop-k-preserved : goal.loop-k-preserved
loop-k-preserved c =
    let xs = c.args.actions.now in
    let k = c.loop-k.k in
    let d = c.index-actions-k.result in
    let here = c.loop-k-test.true in
    record {
      within = (let e : k + 1 ≤ length xs = omega (arith, here) in e);
      numbers = λ x.
          let old = under c.loop-k.numbers x in
          let p = position_or_len (bytes_eq x) (texts_of (drop (k + 1) xs)) in
          ap (λ f. unwrap_or (f x) (k + 1 + p)) c.in_ok-put_first.ensures
          ∙ ap (λ n. unwrap_or (option_or old (if bytes_eq n x then Some k else None)) (k + 1 + p)) c.as_str.ensures
          ∙ number_more old (bytes_eq d.now x) k p
          ∙ ap (λ b. unwrap_or old (k + cond (not b) (1 + p) 0)) (bytes_eq_comm d.now x)
          ∙ ap (λ l. unwrap_or old (k + position_or_len (bytes_eq x) (texts_of l))) (sym (drop_item xs k d here c.index-actions-k.is))
          ∙ c.loop-k.invariant.numbers x;
    }

pub returns : goal.returns
returns c = λ x.
    let xs = c.args.actions.now in
    let k = c.loop-k.k in
    let within = c.loop-k.invariant.within in
    let past = c.loop-k-test.false in
    ap (unwrap_or (under c.loop-k.numbers x))
    ((let e : length xs ≡ k + 0 = omega (arith, within, past) in e)
    ∙ ap (λ p. k + p) (sym (at_drop_all (λ l. position_or_len (bytes_eq x) (texts_of l)) xs k past)))
    ∙ c.loop-k.invariant.numbers x
