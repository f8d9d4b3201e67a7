use Rattle.std.proofs.Common.{rules, ◌≡◌, ◌++◌, ◌∷◌, [], sym, subst}
use Rattle.jani_tree.specs.Syntax.{file_of}
use Rattle.jani_tree.specs.Back.{IsWritable, SpellsOnly}
use Rattle.model_files.specs.ReadAgain.{IsShaped}
use Rattle.model_specialising.proofs.Written.{jani_spells}
use Rattle.model_specialising.proofs.jani.text_of.Goals as goal

pub returns-clause-spells : goal.returns-clause-spells
returns-clause-spells c =
    let ready : IsWritable (file_of c.args.file) = c.writable_law.ensures (file_of c.args.file) c.requires.checked in
    let whole : c.push.new.self ≡ c.in_ok-text.text ++ 10 ∷ [] = search rules in
    subst (λ t. SpellsOnly t (file_of c.args.file)) (sym whole)
    (jani_spells (file_of c.args.file) c.in_ok-text.text c.written_law.ensures.spells c.line_feed_law.ensures ready c.requires.short (c.in_ok-text.ensures.value ready)).0

pub returns-clause-shaped : goal.returns-clause-shaped
returns-clause-shaped c =
    let ready : IsWritable (file_of c.args.file) = c.writable_law.ensures (file_of c.args.file) c.requires.checked in
    let whole : c.push.new.self ≡ c.in_ok-text.text ++ 10 ∷ [] = search rules in
    subst IsShaped (sym whole)
    (jani_spells (file_of c.args.file) c.in_ok-text.text c.written_law.ensures.spells c.line_feed_law.ensures ready c.requires.short (c.in_ok-text.ensures.value ready)).1
