use Rattle.std.proofs.Common.{◌∙◌, sym, subst}
use Rattle.std.specs.Prelude.{Err}
use Rattle.basics.specs.Options.{is_some-map}
use Rattle.op_trees.specs.Tree.{tree}
use Rattle.prism_tree.specs.Syntax.{file_of}
use Rattle.prism_exprs.specs.declared.tokens.Stop.{Stop}
use Rattle.prism_exprs.specs.Kept.{seen}
use Rattle.prism_exprs.specs.Scope.{StopsIn}
use Rattle.prism_items.specs.Files.{plain}
use Rattle.prism_items.specs.Sections.{items_from, is_item_or_init, Blocks}
use Rattle.prism_exprs.proofs.Outer.{leaves_in}
use Rattle.prism_items.proofs.Listing.{leaves_blocks, front_done, front_halts, front_placed, second_refused, second_placed, init_leads, init_stops, init_blocks, init_parses, init_placed}
use Rattle.prism_items.proofs.sections.parse_items.Goals as goal

pub returns-in_err-front-clause-read : goal.returns-in_err-front-clause-read
returns-in_err-front-clause-read c = leaves_in _ _ _ _ _ _ c.from_residual.ensures (λ s. front_halts s _ _ _ (c.in_err-front.ensures.read s))

pub returns-in_err-front-clause-blocked : goal.returns-in_err-front-clause-blocked
returns-in_err-front-clause-blocked c = leaves_blocks _ _ _ _ _ c.from_residual.ensures (front_placed _ _ _ c.in_err-front.ensures.blocked)

pub returns-then-not-word_next-clause-read : goal.returns-then-not-word_next-clause-read
returns-then-not-word_next-clause-read c = λ s. front_done s _ _ _ _ (c.in_ok-front.ensures.read s) (sym c.word_next.ensures ∙ c.if-not-word_next.true)

pub returns-then-is_some-clause-read : goal.returns-then-is_some-clause-read
returns-then-is_some-clause-read c = λ s.
    second_refused s _ _ _ _ (c.in_ok-front.ensures.read s) (is_some-map tree c.in_ok-front.front.init ∙ sym c.is_some.ensures ∙ c.if-is_some.true) (sym c.word_next.ensures ∙ c.if-not-word_next.false)

pub returns-then-is_some-clause-blocked : goal.returns-then-is_some-clause-blocked
returns-then-is_some-clause-blocked c = second_placed _ _ _ _ (c.in_ok-front.ensures.read plain)

pub returns-in-Err-clause-read : goal.returns-in-Err-clause-read
returns-in-Err-clause-read c = λ s.
    let none = is_some-map tree c.in_ok-front.front.init ∙ sym c.is_some.ensures ∙ c.if-is_some.false in
    let F : Stop → Type 0 = λ e. StopsIn s (items_from (file_of c.args.file) s) is_item_or_init (seen c.args.tokens) e in
    subst F (sym c.inside.ensures)
    (init_stops s _ (file_of c.in_ok-front.front) _ _ _ (init_leads s _ (file_of c.in_ok-front.front) _ _ (c.in_ok-front.ensures.read s) none (sym c.word_next.ensures ∙ c.if-not-word_next.false)) (c.in-Err.ensures s))

pub returns-in-Err-clause-blocked : goal.returns-in-Err-clause-blocked
returns-in-Err-clause-blocked c =
    let none = is_some-map tree c.in_ok-front.front.init ∙ sym c.is_some.ensures ∙ c.if-is_some.false in
    let next = sym c.word_next.ensures ∙ c.if-not-word_next.false in
    let F : Stop → Type 0 = λ e. Blocks (items_from (file_of c.args.file) plain) is_item_or_init (seen c.args.tokens) (Err e) in
    subst F (sym c.inside.ensures) (init_blocks _ (file_of c.in_ok-front.front) _ _ _ (init_leads plain _ (file_of c.in_ok-front.front) _ _ (c.in_ok-front.ensures.read plain) none next) next c.in-Err.ensures)

pub returns-clause-read : goal.returns-clause-read
returns-clause-read c =
    let none = is_some-map tree c.in_ok-front.front.init ∙ sym c.is_some.ensures ∙ c.if-is_some.false in
    init_parses _ (file_of c.in_ok-front.front) _ (tree c.in-Ok.read.0) _ _ _ _ c.with_init.ensures
    (λ s. init_leads s _ _ _ _ (c.in_ok-front.ensures.read s) none (sym c.word_next.ensures ∙ c.if-not-word_next.false)) c.in-Ok.ensures c.parse_last.ensures.read

pub returns-clause-blocked : goal.returns-clause-blocked
returns-clause-blocked c =
    let none = is_some-map tree c.in_ok-front.front.init ∙ sym c.is_some.ensures ∙ c.if-is_some.false in
    init_placed _ (file_of c.in_ok-front.front) _ (tree c.in-Ok.read.0) _ _ _ _ c.with_init.ensures (c.in_ok-front.ensures.read plain) none (sym c.word_next.ensures ∙ c.if-not-word_next.false)
    (c.in-Ok.ensures plain) c.parse_last.ensures.blocked
