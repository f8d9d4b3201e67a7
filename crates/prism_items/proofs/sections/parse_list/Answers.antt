use Rattle.std.proofs.Common.{◌∙◌, sym, subst}
use Rattle.std.specs.Prelude.{Err}
use Rattle.prism_tree.specs.Grammar.{section, with_section}
use Rattle.prism_tree.specs.Syntax.{file_of}
use Rattle.prism_exprs.specs.declared.tokens.Stop.{Stop}
use Rattle.prism_exprs.specs.Kept.{seen}
use Rattle.prism_exprs.specs.Scope.{StopsIn}
use Rattle.prism_exprs.proofs.Loops.{reads_shorter}
use Rattle.prism_items.specs.Parts.{in_scope}
use Rattle.prism_items.specs.Files.{plain}
use Rattle.prism_items.specs.Sections.{section_of, sections_from, is_item, Blocks}
use Rattle.prism_items.proofs.Leading.{begin, loop_next, loop_stops, loop_done}
use Rattle.prism_items.proofs.Sectioning.{section_one, section_begun}
use Rattle.prism_items.proofs.Refusing.{inside_stops, section_blocks, added}
use Rattle.prism_items.proofs.sections.parse_list.Goals as goal

pub each-init : goal.each-init
each-init c = λ s. begin _ _ _

pub each-smaller : goal.each-smaller
each-smaller c = reads_shorter _ (section_begun plain) (c.in-Ok.ensures plain)

pub each-preserved : goal.each-preserved
each-preserved c = λ s. added s (file_of c.each.whole) _ (section_of c.in-Ok.found.0) c.in_ok-whole.ensures (loop_next with_section (in_scope section s) _ _ (section_begun s) (section_one s) (c.each.invariant s) (sym c.item_next.ensures ∙ c.each-test.true) (c.in-Ok.ensures s))

pub returns-in-Err-clause-read : goal.returns-in-Err-clause-read
returns-in-Err-clause-read c = λ s.
    let F : Stop → Type 0 = λ e. StopsIn s (sections_from (file_of c.args.file) s) is_item (seen c.args.tokens) e in
    subst F (sym c.inside.ensures) (inside_stops s _ _ _ _ (loop_stops with_section (in_scope section s) _ s _ (c.each.invariant s) (sym c.item_next.ensures ∙ c.each-test.true) (c.in-Err.ensures s)))

pub returns-in-Err-clause-blocked : goal.returns-in-Err-clause-blocked
returns-in-Err-clause-blocked c =
    let F : Stop → Type 0 = λ e. Blocks (sections_from (file_of c.args.file) plain) is_item (seen c.args.tokens) (Err e) in
    subst F (sym c.inside.ensures) (section_blocks _ _ _ _ _ (c.each.invariant plain) (sym c.item_next.ensures ∙ c.each-test.true) c.in-Err.ensures)

pub returns-clause-read : goal.returns-clause-read
returns-clause-read c = λ s. loop_done with_section (in_scope section s) _ (c.each.invariant s) (sym c.item_next.ensures ∙ c.each-test.false)
