use Rattle.constant_folding.specs.Tables.{given_in, known_in}
use Rattle.prism_tree.specs.Syntax.{file_of}
use Rattle.specialise_prism.proofs.Clean.{specialised_is_clean}
use Rattle.specialise_prism.proofs.Finished.{made_tree, made_clean, made_meaning}
use Rattle.specialise_prism.proofs.Meaning.{specialised_means_the_same}
use Rattle.specialise_prism.proofs.Once.{constants_apart}
use Rattle.specialise_prism.proofs.prism.folded_by.Goals as goal

pub returns-clause-tree : goal.returns-clause-tree
returns-clause-tree c =
    made_tree (given_in c.args.table.now) (file_of c.file.result.now) c.args.flat.now (known_in c.args.table.now) c.file.ensures.tree c.requires.known.known
    c.folded_file.result c.folded_file.ensures

pub returns-clause-clean : goal.returns-clause-clean
returns-clause-clean c =
    made_clean (given_in c.args.table.now) (file_of c.file.result.now) c.args.flat.now (known_in c.args.table.now) c.file.ensures.tree c.requires.known.known
    c.folded_file.result (specialised_is_clean c.args.flat.now (given_in c.args.table.now) c.file.ensures.flat c.requires.fitting) c.folded_file.ensures

pub returns-clause-meaning : goal.returns-clause-meaning
returns-clause-meaning c =
    made_meaning (given_in c.args.table.now) (file_of c.file.result.now) c.args.flat.now (known_in c.args.table.now) c.file.ensures.tree c.requires.known.known
    c.folded_file.result
    (specialised_means_the_same c.args.flat.now (given_in c.args.table.now) c.file.ensures.flat.form c.requires.ranked (constants_apart c.args.flat.now c.file.ensures.flat)
    c.requires.small) c.folded_file.ensures
