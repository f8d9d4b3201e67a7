-- The canonical text of printable properties spells them.
use Rattle.std.proofs.Common.{ℕ, List, [], map, refl, subst, ◌∙◌}
use Rattle.std.specs.List.{AllZip}
use Rattle.prism_print.proofs.Lexed.{tokens_behind}
use Rattle.prop_grammar.specs.Syntax.{WrittenProperty}
use Rattle.prop_grammar.specs.Grammar.{as_name}
use Rattle.prop_grammar.specs.Faults.{Spells}
use Rattle.prop_trees.specs.Back.{SameWritten, TextSpells}
use Rattle.prop_trees.proofs.Lexing.{lexed, lexed_text, match_names}
use Rattle.prop_trees.proofs.Parts.{all_pieces, all_is}
use Rattle.prop_trees.proofs.Lines.{all_spaced, all_none}
use Rattle.prop_trees.proofs.Written.{properties_writes}

pub text_spells : TextSpells
text_spells rewards ps t h =
    let qs = all_pieces rewards ps in
    let r = tokens_behind [] (lexed qs) ([], tt, refl) (all_spaced rewards ps t h) in
    let y = (properties_writes rewards ps h).spells (map as_name r.0) (match_names qs r.0 (all_none rewards ps t h) r.2) in
    let F : List ℕ → Type 0 = λ u. (ws : List WrittenProperty) × Spells u ws × AllZip (SameWritten rewards) ps ws in
    subst F (lexed_text qs ∙ all_is rewards ps) (y.0, record { tokens = r.0; are_tokens = r.1; spelled = y.1 }, y.2)
