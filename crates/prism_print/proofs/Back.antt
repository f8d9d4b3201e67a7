-- The canonical text of a printable file spells it.
use Rattle.std.specs.Prelude.{◌++◌, ◌∷◌}
use Rattle.std.proofs.Common.{refl, ◌≡◌, ℕ, List, [], length, sym, subst, ◌∙◌, append-nil}
use Rattle.prism_tree.specs.Syntax.{File}
use Rattle.prism_print.specs.Text.{file_text}
use Rattle.std.specs.List.{AllByRecursion as Each}
use Rattle.prism_print.specs.Printable.{IsPrintable}
use Rattle.prism_print.specs.Same.{SpellsFile}
use Rattle.prism_print.specs.Comments.{IsComment, lines_text, CommentedSpells}
use Rattle.prism_print.proofs.Pieces.{Piece, text, flat, flat_text}
use Rattle.prism_print.proofs.Stands.{Closes, closes_both, comment_closes}
use Rattle.prism_print.proofs.Lexed.{Spaced, tokens_behind}
use Rattle.prism_print.proofs.Neat.{nothing, nothing_means, template_spaced}
use Rattle.prism_print.proofs.Templates.{file_parts, file_is, file_neat, file_proper}
use Rattle.prism_print.proofs.SpelledFiles.{file_writes}

-- behind a gap that no comment is cut off from
pub spells_behind : (g : List ℕ) (f : File) → Closes g → IsPrintable f → SpellsFile (g ++ file_text f) f
spells_behind g f h p =
    let ps = flat (file_parts f) in
    let F : List Piece → Type 0 = λ u. Spaced u in
    let s : Spaced ps = subst F (append-nil ps) (template_spaced nothing (file_parts f) (file_neat f) (file_proper f p) [] tt nothing_means).0 in
    let t = tokens_behind g ps h s in
    let y = (file_writes (length (g ++ text ps)) f p).spells t.0 t.2 in
    let G : List ℕ → Type 0 = λ u. SpellsFile (g ++ u) f in
    subst G (flat_text (file_parts f) ∙ file_is f) (y.0, record { tokens = t.0; are_tokens = t.1; spelled = y.1 }, y.2)

pub text_spells_as : (bytes : List ℕ) (f : File) → bytes ≡ file_text f → IsPrintable f → SpellsFile bytes f
text_spells_as bytes f e p = let G : List ℕ → Type 0 = λ u. SpellsFile u f in subst G (sym e) (spells_behind [] f ([], tt, refl) p)

-- ---- comments
line_closes : (line : List ℕ) → IsComment line → Closes (line ++ 10 ∷ [])
line_closes line c = let F : List ℕ → Type 0 = λ u. Closes (u ++ 10 ∷ []) in subst F (sym c.begins) (comment_closes c.text c.one_line)

comments_close : (lines : List (List ℕ)) → Each IsComment lines → Closes (lines_text lines)
comments_close [] h = ([], tt, refl)
comments_close (line ∷ lines) h = closes_both (line ++ 10 ∷ []) (lines_text lines) (line_closes line h.0) (comments_close lines h.1)

pub commented : CommentedSpells
commented lines f h p = spells_behind (lines_text lines) f (comments_close lines h) p
