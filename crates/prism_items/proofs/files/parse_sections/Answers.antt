use Rattle.std.proofs.Common.{rules, arith, ◌≡◌}
use Rattle.std.specs.Prelude.{true, false}
use Rattle.prism_lex.specs.declared.token.TokenKind.TheVariants as K
use Rattle.prism_lex.specs.declared.words.Reserved.TheVariants as W
use Rattle.prism_tree.specs.Syntax.{file_of}
use Rattle.prism_exprs.specs.Kept.{seen}
use Rattle.prism_exprs.specs.Reading.{starts, is_kind}
use Rattle.prism_items.specs.Sections.{is_item_or_init}
use Rattle.prism_items.proofs.Filing.{any, front_stops, back_stops, leaves_file, front_missing, back_missing, kind_read, whole_file, front_from, front_blocks, front_reads, some_left, none_left}
use Rattle.prism_items.proofs.files.parse_sections.Goals as goal

pub returns-in_err-front : goal.returns-in_err-front
returns-in_err-front c =
    leaves_file _ _ _ _ c.from_residual.ensures
    (front_stops _ _ _ (front_from _ _ _ _ c.empty.ensures c.in_err-front.ensures.read) (front_blocks _ _ _ _ c.empty.ensures c.in_err-front.ensures.blocked))

pub returns-then-not-word_next : goal.returns-then-not-word_next
returns-then-not-word_next c =
    let e : starts (is_kind (K.Word W.Mdp)) (seen c.in_ok-front.rest) ≡ false = search rules in
    front_missing _ (file_of c.in_ok-front.front) _ _ (front_reads _ _ _ _ _ c.empty.ensures c.in_ok-front.ensures.read) e

pub returns-in_err-file : goal.returns-in_err-file
returns-in_err-file c =
    let e : starts (is_kind (K.Word W.Mdp)) (seen c.in_ok-front.rest) ≡ true = search rules in
    let r = front_reads _ _ _ _ _ c.empty.ensures c.in_ok-front.ensures.read in
    leaves_file _ _ _ _ c.from_residual-in_err-file.ensures
    (back_stops _ (file_of c.in_ok-front.front) _ _ _ (λ s more. kind_read _ s more _ _ _ _ (r s) e c.behind.ensures) c.in_err-file.ensures.read c.in_err-file.ensures.blocked)

pub returns-then-not-is_empty : goal.returns-then-not-is_empty
returns-then-not-is_empty c =
    let e : starts (is_kind (K.Word W.Mdp)) (seen c.in_ok-front.rest) ≡ true = search rules in
    let r = front_reads _ _ _ _ _ c.empty.ensures c.in_ok-front.ensures.read in
    let n = some_left c.in_ok-file.rest (grind (arith, c.is_empty.ensures, c.if-not-is_empty.true)) in
    back_missing _ (file_of c.in_ok-front.front) (file_of c.in_ok-file.file) _ _ _ n.0 n.1 (λ s. kind_read _ s is_item_or_init _ _ _ _ (r s) e c.behind.ensures) c.in_ok-file.ensures.read n.2

pub returns : goal.returns
returns c =
    let e : starts (is_kind (K.Word W.Mdp)) (seen c.in_ok-front.rest) ≡ true = search rules in
    let r = front_reads _ _ _ _ _ c.empty.ensures c.in_ok-front.ensures.read in
    λ s. whole_file _ s (file_of c.in_ok-front.front) (file_of c.in_ok-file.file) _ _ _ (kind_read _ s any _ _ _ _ (r s) e c.behind.ensures) (c.in_ok-file.ensures.read s) (none_left c.in_ok-file.rest (grind (arith, c.is_empty.ensures, c.if-not-is_empty.false)))
