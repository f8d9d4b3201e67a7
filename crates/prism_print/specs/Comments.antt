-- Comments before a file (PRISM manual, "The PRISM Language": comments begin with // and go to the end of the line).
use Rattle.std.specs.Prelude.{◌≡◌, ℕ, true, List, [], ◌∷◌, ◌++◌}
use Rattle.std.specs.List.{flat_map, AllByRecursion as Each}
use Rattle.prism_lex.specs.Gaps.{has_no_lf}
use Rattle.prism_tree.specs.Syntax.{File}
use Rattle.prism_print.specs.Text.{file_text}
use Rattle.prism_print.specs.Printable.{IsPrintable}
use Rattle.prism_print.specs.Same.{SpellsFile}

-- The line is a comment: it begins with // and has no line feed.
pub record IsComment (line : List ℕ) : Type 0 where
  pub text : List ℕ
  pub begins : line ≡ 47 ∷ 47 ∷ text
  pub one_line : has_no_lf text ≡ true

-- lines, each with its line feed
abbrev pub lines_text : List (List ℕ) → List ℕ
lines_text lines = flat_map (λ line. line ++ 10 ∷ []) lines

-- Behind comments too the canonical text of a printable file spells it, offsets aside.
abbrev pub CommentedSpells : Type 0
CommentedSpells = (lines : List (List ℕ)) (f : File) → Each IsComment lines → IsPrintable f → SpellsFile (lines_text lines ++ file_text f) f
