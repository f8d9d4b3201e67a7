use Rattle.std.proofs.Common.{rules, ◌≡◌, ◌∙◌, ap, sym, ℕ, ◌≤◌, arith}
use Rattle.op_trees.specs.Tree.{tree, Two}
use Rattle.op_trees.specs.Names.{offset_of}
use Rattle.prism_tree.specs.Grammar.{expr}
use Rattle.prism_exprs.specs.Levels.{more, goes_on}
use Rattle.prism_exprs.proofs.Laws.{leaves}
use Rattle.prism_exprs.proofs.Exprs.{argument_opens}
use Rattle.prism_exprs.proofs.Loops.{leads_on, begin, parses_via, reads_shorter}
use Rattle.prism_exprs.proofs.Operands.{true_leads, false_leads, open_leads, inner_stops, inner_leads, operand_missing, other_word, other_symbol, quoted_name}
use Rattle.prism_exprs.proofs.Climb.{IsPlain, prefix_none, climb_stops, chain_stops, chain_reads, neg_reads, neg_stops, not_reads, not_stops}
use Rattle.prism_exprs.proofs.Conditionals.{kept_end, kept_end_empty, kept_lead, kept_stops, kept_shorter, test_stops, test_alone, choice_leads, question_stops, question_leads, inside_stops, inside_leads, colon_stops, colon_reads, first_stops, first_leads, second_stops, choice_reads, first_shorter, reads_length, token_shorter}
use Rattle.prism_exprs.proofs.Alone.{leaf_expr, chain_misses}
use Rattle.prism_exprs.proofs.Rising.{sign_missing, stop_rises, risen_first, comes, risen_next, risen_stops, risen_done, chain_shorter}
use Rattle.prism_exprs.proofs.Numbers.{number_leads, number_missing, name_leads, name_missing}
use Rattle.prism_exprs.proofs.Arguments.{name_alone, one_called, two_called, not_called, comma_stops, comma_leads, one_open_stops, one_open_leads, one_inner_stops, one_inner_leads, enclosed_parses, two_open_stops, two_open_leads, two_first_stops, two_first_leads, two_second_stops, two_reads, two_both_stops, two_both_leads, both_shorter, more_ended, more_leads, more_stops, listed_both_stops, listed_both_leads, listed_more_stops, listed_more_leads, min_leads, max_leads}
use Rattle.prism_exprs.proofs.expressions.+expressions.Goals.{parse_low-then-chain_next+in_ok-whole, parse_low-else-chain_next, parse_climb-then-chain_next+in_ok-whole, parse_climb-else-chain_next}
use Rattle.prism_exprs.proofs.expressions.+expressions.Goals as goal

-- ---- chains

pub parse_chain-returns-in_default-operator : goal.parse_chain-returns-in_default-operator
parse_chain-returns-in_default-operator t c =
    let i = c.chain.invariant in
    i.leads.reads _ _ (kept_end _ _ c.args.level _ _ c.in-Some.next.now (tree c.chain.left) c.in-Some.ensures.cases.0 c.in_default-operator.ensures i.ends)

pub parse_chain-returns : goal.parse_chain-returns
parse_chain-returns t c =
    let i = c.chain.invariant in
    i.leads.reads _ _ (kept_end_empty _ _ c.args.level _ (tree c.chain.left) c.in_default.ensures.cases i.ends)

pub parse_chain-returns-in_err-right : goal.parse_chain-returns-in_err-right
parse_chain-returns-in_err-right t c =
    let i = c.chain.invariant in
    leaves _ _ _ _ _ _ c.from_residual.ensures
    (i.leads.stops _ (kept_stops _ _ c.args.level _ _ c.in-Some.next.now _ c.in-Some-operator.op (tree c.chain.left) _ c.in-Some.ensures.cases.0 c.with.ensures c.in-Some-operator.ensures c.in_err-right.ensures))

pub parse_chain-chain-preserved : goal.parse_chain-chain-preserved
parse_chain-chain-preserved t c =
    let i = c.chain.invariant in
    let p = c.in_ok-right.ensures in
    let n = kept_shorter (more c.args.level) _ _ _ c.in-Some.next.now _ _ (tree c.in_ok-right.right) c.in-Some.ensures.cases.0 c.with.ensures p in
    let q : tree c.in_ok-left.left ≡ Two (offset_of (tree c.chain.left)) c.in-Some-operator.op (tree c.chain.left) (tree c.in_ok-right.right) =
    c.in_ok-left.ensures ∙ ap (λ (k : ℕ). Two k c.in-Some-operator.op (tree c.chain.left) (tree c.in_ok-right.right)) c.offset_of-at.ensures in
    record {
      shorter = (let m = i.shorter in omega arith);
      ends = p.ends;
      leads =
          leads_on i.leads
          (kept_lead _ _ c.args.level _ _ c.in-Some.next.now _ _ c.in-Some-operator.op (tree c.chain.left) (tree c.in_ok-right.right) (tree c.in_ok-left.left)
          c.in-Some.ensures.cases.0 c.with.ensures c.in-Some-operator.ensures p q);
    }

-- ---- levels

low_plain : (n h : ℕ) → 1 ≤ n → h ≤ 5 → IsPlain n h
low_plain n h i j = λ k p q. prefix_none k (λ e. absurd (omega arith)) (λ e. absurd (omega arith))

high_plain : (n h : ℕ) → 6 ≤ n → IsPlain n h
high_plain n h i = λ k p q. prefix_none k (λ e. absurd (omega arith)) (λ e. absurd (omega arith))

pub parse_low-returns-in_err-first : goal.parse_low-returns-in_err-first
parse_low-returns-in_err-first t c =
    leaves _ _ _ _ _ _ c.from_residual.ensures
    (climb_stops c.args.height 1 _ _ (search rules) (low_plain 1 c.args.height (omega arith) c.requires) (neg_stops _ _ _ _ c.read_signs.ensures c.in_err-first.ensures))

pub parse_low-loop-level-init : goal.parse_low-loop-level-init
parse_low-loop-level-init t c = record {
  low = omega arith;
  reads = rw (c.in_ok-left.ensures) (neg_reads _ _ _ _ _ c.read_signs.ensures c.in_ok-first.ensures);
}

pub parse_low-returns-in_err-whole : goal.parse_low-returns-in_err-whole
parse_low-returns-in_err-whole t c =
    let i = c.loop-level.invariant in
    leaves _ _ _ _ _ _ c.from_residual-in_err-whole.ensures
    (chain_stops c.args.height _ _ _ _ _ c.loop-level-test.true (low_plain _ c.args.height i.low c.requires) i.reads c.in_err-whole.ensures)

pub parse_low-loop-level-preserved : goal.parse_low-loop-level-preserved
parse_low-loop-level-preserved t c =
    let i = c.loop-level.invariant in
    elim c.if-chain_next.branch [
      | parse_low-then-chain_next+in_ok-whole w ↦
          record {
            low = (let m = i.low in omega arith);
            reads = rw (w.left-is, w.behind-is) (chain_reads _ _ _ _ _ _ _ (omega arith) (low_plain _ c.args.height i.low c.requires _ (omega arith) c.loop-level-test.true) i.reads w.in_ok-whole.ensures);
          }
      | parse_low-else-chain_next w ↦
          record {
            low = (let m = i.low in omega arith);
            reads = rw (w.left-is, w.behind-is) (chain_reads _ _ _ _ _ _ _ (omega arith) (low_plain _ c.args.height i.low c.requires _ (omega arith) c.loop-level-test.true) i.reads (chain_misses _ _ _ i.reads.ends (sym c.chain_next.ensures ∙ w.if-chain_next.false)));
          }
    ]

pub parse_climb-returns-in_err-first : goal.parse_climb-returns-in_err-first
parse_climb-returns-in_err-first t c =
    leaves _ _ _ _ _ _ c.from_residual.ensures
    (climb_stops c.args.height 6 _ _ (search rules) (high_plain 6 c.args.height (omega arith)) (not_stops _ _ _ _ c.read_signs.ensures c.in_err-first.ensures))

pub parse_climb-loop-level-init : goal.parse_climb-loop-level-init
parse_climb-loop-level-init t c = record {
  low = omega arith;
  reads = rw (c.in_ok-left.ensures) (not_reads _ _ _ _ _ c.read_signs.ensures c.in_ok-first.ensures);
}

pub parse_climb-returns-in_err-whole : goal.parse_climb-returns-in_err-whole
parse_climb-returns-in_err-whole t c =
    let i = c.loop-level.invariant in
    leaves _ _ _ _ _ _ c.from_residual-in_err-whole.ensures
    (chain_stops c.args.height _ _ _ _ _ c.loop-level-test.true (high_plain _ c.args.height i.low) i.reads c.in_err-whole.ensures)

pub parse_climb-loop-level-preserved : goal.parse_climb-loop-level-preserved
parse_climb-loop-level-preserved t c =
    let i = c.loop-level.invariant in
    elim c.if-chain_next.branch [
      | parse_climb-then-chain_next+in_ok-whole w ↦
          record {
            low = (let m = i.low in omega arith);
            reads = rw (w.left-is, w.behind-is) (chain_reads _ _ _ _ _ _ _ (omega arith) (high_plain _ c.args.height i.low _ (omega arith) c.loop-level-test.true) i.reads w.in_ok-whole.ensures);
          }
      | parse_climb-else-chain_next w ↦
          record {
            low = (let m = i.low in omega arith);
            reads = rw (w.left-is, w.behind-is) (chain_reads _ _ _ _ _ _ _ (omega arith) (high_plain _ c.args.height i.low _ (omega arith) c.loop-level-test.true) i.reads (chain_misses _ _ _ i.reads.ends (sym c.chain_next.ensures ∙ w.if-chain_next.false)));
          }
    ]

-- ---- operands without a sign, and what comes behind them

pub parse_level-returns-in_err-first : goal.parse_level-returns-in_err-first
parse_level-returns-in_err-first t c =
    leaves _ _ _ _ _ _ c.from_residual.ensures
    (stop_rises c.args.height 0 _ _ (omega arith) (sign_missing _ (sym c.sign_next.ensures ∙ c.if-sign_next.false)) c.in_err-first.ensures)

pub parse_level-chains-init : goal.parse_level-chains-init
parse_level-chains-init t c = record {
  shorter = reads_length (more 0) _ _ (tree c.in_ok-first.first) c.in_ok-first.ensures;
  risen = risen_first _ _ _ _ c.in_ok-first.ensures;
}

pub parse_level-parse_chain-requires : goal.parse_level-parse_chain-requires
parse_level-parse_chain-requires t c =
    let i = c.chains.invariant in
    let m = i.shorter in
    let n = comes c.args.height c.in-Some.level _ _ _ (sign_missing _ (sym c.sign_next.ensures ∙ c.if-sign_next.false)) i.risen (sym c.in-Some.ensures) in
    let b = n.below in
    let h = c.requires in
    (omega arith, (omega arith, n.ends))

pub parse_level-returns-in_err-whole : goal.parse_level-returns-in_err-whole
parse_level-returns-in_err-whole t c =
    let un = sign_missing _ (sym c.sign_next.ensures ∙ c.if-sign_next.false) in
    let n = comes c.args.height c.in-Some.level _ _ _ un c.chains.invariant.risen (sym c.in-Some.ensures) in
    leaves _ _ _ _ _ _ c.from_residual-in_err-whole.ensures (risen_stops c.args.height c.in-Some.level _ _ _ _ un n c.in_err-whole.ensures)

pub parse_level-chains-smaller : goal.parse_level-chains-smaller
parse_level-chains-smaller t c =
    let n = comes c.args.height c.in-Some.level _ _ _ (sign_missing _ (sym c.sign_next.ensures ∙ c.if-sign_next.false)) c.chains.invariant.risen (sym c.in-Some.ensures) in
    chain_shorter c.args.height c.in-Some.level _ _ _ _ _ n c.in_ok-whole.ensures

pub parse_level-chains-preserved : goal.parse_level-chains-preserved
parse_level-chains-preserved t c =
    let i = c.chains.invariant in
    let n = comes c.args.height c.in-Some.level _ _ _ (sign_missing _ (sym c.sign_next.ensures ∙ c.if-sign_next.false)) i.risen (sym c.in-Some.ensures) in
    let s = chain_shorter c.args.height c.in-Some.level _ _ _ _ _ n c.in_ok-whole.ensures in
    record {
      shorter = (let m = i.shorter in omega arith);
      risen = risen_next c.args.height c.in-Some.level _ _ _ _ _ n c.in_ok-whole.ensures;
    }

pub parse_level-returns : goal.parse_level-returns
parse_level-returns t c = risen_done c.args.height _ _ _ (sign_missing _ (sym c.sign_next.ensures ∙ c.if-sign_next.false)) c.chains.invariant.risen (sym c.in_default.ensures)

-- ---- operands that stand alone

pub parse_expr-returns-then-leaf_next : goal.parse_expr-returns-then-leaf_next
parse_expr-returns-then-leaf_next t c = leaf_expr tree _ c.parse_leaf.result (c.leaf_next.ensures c.if-leaf_next.true) c.parse_leaf.ensures.read c.parse_leaf.ensures.ends

-- ---- conditionals

pub parse_conditional-returns-in_err-test : goal.parse_conditional-returns-in_err-test
parse_conditional-returns-in_err-test t c = leaves _ _ _ _ _ _ c.from_residual.ensures (test_stops _ _ c.in_err-test.ensures)

pub parse_conditional-returns-then-not-symbol_next : goal.parse_conditional-returns-then-not-symbol_next
parse_conditional-returns-then-not-symbol_next t c = test_alone _ _ _ c.in_ok-test.ensures (search rules)

pub parse_conditional-parse_choice-requires : goal.parse_conditional-parse_choice-requires
parse_conditional-parse_choice-requires t c = let a = reads_length (more 10) _ _ (tree c.in_ok-test.test) c.in_ok-test.ensures in (omega arith, tt)

pub parse_conditional-returns : goal.parse_conditional-returns
parse_conditional-returns t c = parses_via _ _ _ goes_on _ _ c.parse_choice.result (choice_leads _ _ _ c.in_ok-test.ensures (search rules)) c.parse_choice.ensures

pub parse_first-returns-in_err-_question : goal.parse_first-returns-in_err-_question
parse_first-returns-in_err-_question t c = leaves _ _ _ _ _ _ c.from_residual.ensures (question_stops _ _ c.in_err-_question.ensures)

pub parse_first-parse_expr-requires : goal.parse_first-parse_expr-requires
parse_first-parse_expr-requires t c = let b = token_shorter _ _ _ _ c.in_ok-_question.ensures in (omega arith, tt)

pub parse_first-returns-in_err-first : goal.parse_first-returns-in_err-first
parse_first-returns-in_err-first t c = leaves _ _ _ _ _ _ c.from_residual-in_err-first.ensures (inside_stops _ _ _ (question_leads _ _ _ c.in_ok-_question.ensures) c.in_err-first.ensures)

pub parse_first-returns-in_err-_colon : goal.parse_first-returns-in_err-_colon
parse_first-returns-in_err-_colon t c =
    let x = tree c.in_ok-first.first in
    leaves _ _ _ _ _ _ c.from_residual-in_err-_colon.ensures (colon_stops _ _ x _ (inside_leads _ _ _ x (question_leads _ _ _ c.in_ok-_question.ensures) c.in_ok-first.ensures) c.in_err-_colon.ensures)

pub parse_first-returns : goal.parse_first-returns
parse_first-returns t c =
    let x = tree c.in_ok-first.first in
    colon_reads _ _ _ x _ (inside_leads _ _ _ x (question_leads _ _ _ c.in_ok-_question.ensures) c.in_ok-first.ensures) c.in_ok-_colon.ensures

pub parse_choice-returns-in_err-first : goal.parse_choice-returns-in_err-first
parse_choice-returns-in_err-first t c = leaves _ _ _ _ _ _ c.from_residual.ensures (first_stops _ (tree c.args.test) _ c.in_err-first.ensures)

pub parse_choice-parse_expr-requires : goal.parse_choice-parse_expr-requires
parse_choice-parse_expr-requires t c = let b = first_shorter _ _ (tree c.in_ok-first.first) c.in_ok-first.ensures in (omega arith, tt)

pub parse_choice-returns-in_err-second : goal.parse_choice-returns-in_err-second
parse_choice-returns-in_err-second t c =
    let x = tree c.args.test in
    let y = tree c.in_ok-first.first in
    leaves _ _ _ _ _ _ c.from_residual-in_err-second.ensures (second_stops _ _ x y _ (first_leads _ _ x y c.in_ok-first.ensures) c.in_err-second.ensures)

pub parse_choice-returns : goal.parse_choice-returns
parse_choice-returns t c =
    let x = tree c.args.test in
    let y = tree c.in_ok-first.first in
    choice_reads _ _ _ x y (tree c.in_ok-second.second) (tree c.in_ok-whole.whole) (first_leads _ _ x y c.in_ok-first.ensures) c.in_ok-second.ensures c.in_ok-whole.ensures

-- ---- operands

pub parse_prim-returns-in_default : goal.parse_prim-returns-in_default
parse_prim-returns-in_default t c = operand_missing _ _ c.in_default.ensures.cases

pub parse_prim-returns-in-True : goal.parse_prim-returns-in-True
parse_prim-returns-in-True t c =
    parses_via _ _ _ (more 0) _ _ c.closed.result (true_leads _ _ _ _ c.in-Some.first.now _ c.in-Some.ensures.cases.0 (search rules) c.with-rest.ensures) c.closed.ensures

pub parse_prim-returns-in-False : goal.parse_prim-returns-in-False
parse_prim-returns-in-False t c =
    parses_via _ _ _ (more 0) _ _ c.closed-in-False.result (false_leads _ _ _ _ c.in-Some.first.now _ c.in-Some.ensures.cases.0 (search rules) c.with-rest.ensures) c.closed-in-False.ensures

pub parse_prim-returns-in_err-inner-in-LeftParenthesis : goal.parse_prim-returns-in_err-inner-in-LeftParenthesis
parse_prim-returns-in_err-inner-in-LeftParenthesis t c =
    leaves _ _ _ _ _ _ c.from_residual.ensures
    (inner_stops _ _ c.in-Some.first.now.at _ (open_leads _ _ _ _ c.in-Some.first.now _ c.in-Some.ensures.cases.0 (search rules) c.with-rest.ensures) c.in_err-inner-in-LeftParenthesis.ensures)

pub parse_prim-returns-in_ok-inner-in-LeftParenthesis : goal.parse_prim-returns-in_ok-inner-in-LeftParenthesis
parse_prim-returns-in_ok-inner-in-LeftParenthesis t c =
    let x = tree c.in_ok-inner-in-LeftParenthesis.inner in
    let at = c.in-Some.first.now.at in
    let l = inner_leads _ _ _ at x (open_leads _ _ _ _ c.in-Some.first.now _ c.in-Some.ensures.cases.0 (search rules) c.with-rest.ensures) c.in_ok-inner-in-LeftParenthesis.ensures in
    enclosed_parses tree _ _ _ (tree c.moved.result) c.enclosed.result l c.moved.ensures c.enclosed.ensures

pub parse_prim-returns-in-Min : goal.parse_prim-returns-in-Min
parse_prim-returns-in-Min t c =
    parses_via _ _ _ (more 0) _ _ c.parse_listed.result (min_leads _ _ _ _ c.in-Some.first.now _ c.in-Some.ensures.cases.0 (search rules) c.with-rest.ensures) c.parse_listed.ensures

pub parse_prim-returns-in-Max : goal.parse_prim-returns-in-Max
parse_prim-returns-in-Max t c =
    parses_via _ _ _ (more 0) _ _ c.parse_listed-in-Max.result (max_leads _ _ _ _ c.in-Some.first.now _ c.in-Some.ensures.cases.0 (search rules) c.with-rest.ensures) c.parse_listed-in-Max.ensures

pub parse_prim-returns-in-Some-number : goal.parse_prim-returns-in-Some-number
parse_prim-returns-in-Some-number t c =
    parses_via _ _ _ (more 0) _ _ c.closed-in-Some-number.result
    (number_leads _ _ _ _ c.in-Some.first.now _ _ c.in-Some-number.value c.in-Some.ensures.cases.0 c.in-Number.is c.with-rest.ensures c.in-Some-number.ensures) c.closed-in-Some-number.ensures

pub parse_prim-returns-in-None : goal.parse_prim-returns-in-None
parse_prim-returns-in-None t c = number_missing _ _ _ _ c.in-Some.first.now _ c.in-Some.ensures.cases.0 c.in-Number.is c.in-None.ensures

pub parse_prim-returns-in-Some-name : goal.parse_prim-returns-in-Some-name
parse_prim-returns-in-Some-name t c =
    parses_via _ _ _ (more 0) _ _ c.parse_name.result
    (name_leads _ _ _ _ c.in-Some.first.now _ c.in-Some-name.name.now c.in-Some.ensures.cases.0 c.in-Ident.is c.with-rest.ensures c.in-Some-name.ensures.some) c.parse_name.ensures

pub parse_prim-returns-in-None-name : goal.parse_prim-returns-in-None-name
parse_prim-returns-in-None-name t c = name_missing _ _ _ _ c.in-Some.first.now c.in-Some.ensures.cases.0 c.in-Ident.is c.in-None-name.ensures.none

pub parse_prim-returns-in_default-word : goal.parse_prim-returns-in_default-word
parse_prim-returns-in_default-word t c =
    let d = c.in_default-word in
    other_word _ _ _ _ c.in-Some.first.now _ c.in-Some.ensures.cases.0 c.in-Word.is d.not-True d.not-False d.not-Min d.not-Max

pub parse_prim-returns-in_default-symbol : goal.parse_prim-returns-in_default-symbol
parse_prim-returns-in_default-symbol t c = other_symbol _ _ _ _ c.in-Some.first.now _ c.in-Some.ensures.cases.0 c.in-Symbol.is c.in_default-symbol.not-LeftParenthesis

pub parse_prim-returns-in-Quoted : goal.parse_prim-returns-in-Quoted
parse_prim-returns-in-Quoted t c = quoted_name _ _ _ _ c.in-Some.first.now c.in-Some.ensures.cases.0 c.in-Quoted.is

-- ---- names

pub parse_name-returns-then-not-symbol_next : goal.parse_name-returns-then-not-symbol_next
parse_name-returns-then-not-symbol_next t c = rw (c.in_ok-copy_of.ensures) (name_alone _ _ _ (search rules))

pub parse_name-returns-in_default : goal.parse_name-returns-in_default
parse_name-returns-in_default t c = not_called _ _ c.args.at _ (search rules) (search rules)

pub parse_name-returns-then-eq : goal.parse_name-returns-then-eq
parse_name-returns-then-eq t c =
    parses_via _ _ _ (more 0) _ _ c.parse_two_arguments.result (two_called _ _ c.in-Some.op c.args.at _ (search rules) c.in-Some.ensures (search rules)) c.parse_two_arguments.ensures

pub parse_name-returns-else-eq : goal.parse_name-returns-else-eq
parse_name-returns-else-eq t c =
    parses_via _ _ _ (more 0) _ _ c.parse_one_argument.result (one_called _ _ c.in-Some.op c.args.at _ (search rules) c.in-Some.ensures (search rules)) c.parse_one_argument.ensures

-- ---- arguments

pub parse_argument-returns-in_err-_comma : goal.parse_argument-returns-in_err-_comma
parse_argument-returns-in_err-_comma t c = leaves _ _ _ _ _ _ c.from_residual.ensures (comma_stops _ _ c.in_err-_comma.ensures)

pub parse_argument-parse_expr-requires : goal.parse_argument-parse_expr-requires
parse_argument-parse_expr-requires t c = let b = token_shorter _ _ _ _ c.in_ok-_comma.ensures in (omega arith, tt)

pub parse_argument-returns : goal.parse_argument-returns
parse_argument-returns t c = parses_via _ _ _ goes_on _ _ c.parse_expr.result (comma_leads _ _ _ c.in_ok-_comma.ensures) c.parse_expr.ensures

pub parse_one_argument-returns-in_err-_open : goal.parse_one_argument-returns-in_err-_open
parse_one_argument-returns-in_err-_open t c = leaves _ _ _ _ _ _ c.from_residual.ensures (one_open_stops _ _ _ _ c.in_err-_open.ensures)

pub parse_one_argument-parse_expr-requires : goal.parse_one_argument-parse_expr-requires
parse_one_argument-parse_expr-requires t c = let b = token_shorter _ _ _ _ c.in_ok-_open.ensures in (omega arith, tt)

pub parse_one_argument-returns-in_err-argument : goal.parse_one_argument-returns-in_err-argument
parse_one_argument-returns-in_err-argument t c =
    leaves _ _ _ _ _ _ c.from_residual-in_err-argument.ensures
    (one_inner_stops c.args.op c.args.at _ _ _ (one_open_leads c.args.op c.args.at _ _ _ c.in_ok-_open.ensures) c.in_err-argument.ensures)

pub parse_one_argument-returns : goal.parse_one_argument-returns
parse_one_argument-returns t c =
    let x = tree c.in_ok-argument.argument in
    let l = one_inner_leads c.args.op c.args.at _ _ _ x (one_open_leads c.args.op c.args.at _ _ _ c.in_ok-_open.ensures) c.in_ok-argument.ensures in
    enclosed_parses tree _ _ _ (tree c.in_ok-whole.whole) c.enclosed.result l c.in_ok-whole.ensures c.enclosed.ensures

pub parse_both-returns-in_err-_open : goal.parse_both-returns-in_err-_open
parse_both-returns-in_err-_open t c = leaves _ _ _ _ _ _ c.from_residual.ensures (two_open_stops _ _ _ _ c.in_err-_open.ensures)

pub parse_both-parse_expr-requires : goal.parse_both-parse_expr-requires
parse_both-parse_expr-requires t c = let b = token_shorter _ _ _ _ c.in_ok-_open.ensures in (omega arith, tt)

pub parse_both-returns-in_err-first : goal.parse_both-returns-in_err-first
parse_both-returns-in_err-first t c =
    leaves _ _ _ _ _ _ c.from_residual-in_err-first.ensures
    (two_first_stops c.args.op c.args.at _ _ _ (two_open_leads c.args.op c.args.at _ _ _ c.in_ok-_open.ensures) c.in_err-first.ensures)

pub parse_both-parse_argument-requires : goal.parse_both-parse_argument-requires
parse_both-parse_argument-requires t c =
    let b = token_shorter _ _ _ _ c.in_ok-_open.ensures in
    let d = reads_length goes_on _ _ (tree c.in_ok-first.first) c.in_ok-first.ensures in
    (omega arith, tt)

pub parse_both-returns-in_err-second : goal.parse_both-returns-in_err-second
parse_both-returns-in_err-second t c =
    let x = tree c.in_ok-first.first in
    let l = two_first_leads c.args.op c.args.at _ _ _ x (two_open_leads c.args.op c.args.at _ _ _ c.in_ok-_open.ensures) c.in_ok-first.ensures in
    leaves _ _ _ _ _ _ c.from_residual-in_err-second.ensures (two_second_stops c.args.op c.args.at _ _ x _ l c.in_err-second.ensures)

pub parse_both-returns : goal.parse_both-returns
parse_both-returns t c =
    let x = tree c.in_ok-first.first in
    let l = two_first_leads c.args.op c.args.at _ _ _ x (two_open_leads c.args.op c.args.at _ _ _ c.in_ok-_open.ensures) c.in_ok-first.ensures in
    two_reads c.args.op c.args.at _ _ _ x (tree c.in_ok-second.second) (tree c.in_ok-whole.whole) l c.in_ok-second.ensures c.in_ok-whole.ensures

pub parse_two_arguments-returns-in_err-whole : goal.parse_two_arguments-returns-in_err-whole
parse_two_arguments-returns-in_err-whole t c = leaves _ _ _ _ _ _ c.from_residual.ensures (two_both_stops c.args.op c.args.at _ _ c.in_err-whole.ensures)

pub parse_two_arguments-returns : goal.parse_two_arguments-returns
parse_two_arguments-returns t c =
    let x = tree c.in_ok-whole.whole in
    parses_via _ _ _ (more 0) _ _ c.enclosed.result (two_both_leads c.args.op c.args.at _ _ x c.in_ok-whole.ensures) c.enclosed.ensures

-- ---- min and max

pub parse_listed-returns-in_err-both : goal.parse_listed-returns-in_err-both
parse_listed-returns-in_err-both t c = leaves _ _ _ _ _ _ c.from_residual.ensures (listed_both_stops c.args.op c.args.at _ _ c.in_err-both.ensures)

pub parse_listed-parse_others-requires : goal.parse_listed-parse_others-requires
parse_listed-parse_others-requires t c =
    let p = c.in_ok-both.ensures in
    let b = both_shorter c.args.op c.args.at _ _ (tree c.in_ok-both.both) p in
    (omega arith, p.ends)

pub parse_listed-returns-in_err-whole : goal.parse_listed-returns-in_err-whole
parse_listed-returns-in_err-whole t c =
    let x = tree c.in_ok-both.both in
    leaves _ _ _ _ _ _ c.from_residual-in_err-whole.ensures (listed_more_stops c.args.op c.args.at _ _ x _ (listed_both_leads c.args.op c.args.at _ _ x c.in_ok-both.ensures) c.in_err-whole.ensures)

pub parse_listed-returns : goal.parse_listed-returns
parse_listed-returns t c =
    let x = tree c.in_ok-both.both in
    let n = listed_more_leads c.args.op c.args.at _ _ _ x (tree c.in_ok-whole.whole) (listed_both_leads c.args.op c.args.at _ _ x c.in_ok-both.ensures) c.in_ok-whole.ensures in
    parses_via _ _ _ (more 0) _ _ c.enclosed.result n c.enclosed.ensures

pub parse_others-arguments-init : goal.parse_others-arguments-init
parse_others-arguments-init t c = record { shorter = omega arith; ends = c.requires; leads = begin _ _ _ }

pub parse_others-parse_argument-requires : goal.parse_others-parse_argument-requires
parse_others-parse_argument-requires t c = let i = c.arguments.invariant in let m = i.shorter in (omega arith, tt)

pub parse_others-returns-in_err-another : goal.parse_others-returns-in_err-another
parse_others-returns-in_err-another t c =
    let i = c.arguments.invariant in
    leaves _ _ _ _ _ _ c.from_residual.ensures (i.leads.stops _ (more_stops c.args.op c.args.at (tree c.arguments.whole) _ _ (search rules) c.in_err-another.ensures))

pub parse_others-arguments-smaller : goal.parse_others-arguments-smaller
parse_others-arguments-smaller t c = reads_shorter _ (argument_opens expr) c.in_ok-another.ensures

pub parse_others-arguments-preserved : goal.parse_others-arguments-preserved
parse_others-arguments-preserved t c =
    let i = c.arguments.invariant in
    let p = c.in_ok-another.ensures in
    let n = reads_shorter _ (argument_opens expr) p in
    record {
      shorter = (let m = i.shorter in omega arith);
      ends = p.ends;
      leads = leads_on i.leads (more_leads c.args.op c.args.at (tree c.arguments.whole) (tree c.in_ok-another.another) (tree c.in_ok-whole.whole) _ _ p c.in_ok-whole.ensures);
    }

pub parse_others-returns : goal.parse_others-returns
parse_others-returns t c =
    let i = c.arguments.invariant in
    i.leads.reads _ _ (more_ended c.args.op c.args.at (tree c.arguments.whole) _ i.ends (search rules))
