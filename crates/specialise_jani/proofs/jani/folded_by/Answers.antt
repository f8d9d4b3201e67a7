use Rattle.std.proofs.Common.{ap}
use Rattle.constant_folding.specs.Tables.{given_in, known_in}
use Rattle.jani_tree.specs.Syntax.{file_of}
use Rattle.specialise_jani.proofs.Clean.{specialised_is_clean}
use Rattle.specialise_jani.proofs.Steps.{made_tree, made_clean, made_meaning}
use Rattle.specialise_jani.proofs.Meaning.{specialised_means_the_same}
use Rattle.specialise_jani.proofs.Once.{constants_apart}
use Rattle.specialise_jani.proofs.jani.folded_by.Goals as goal

pub returns-clause-tree : goal.returns-clause-tree
returns-clause-tree c =
    made_tree (given_in c.args.table.now) (file_of c.file.result.now) (file_of c.args.checked.now) (known_in c.args.table.now) (ap file_of c.file.ensures.same) c.requires.known.known
    c.folded_file.result c.folded_file.ensures

pub returns-clause-clean : goal.returns-clause-clean
returns-clause-clean c =
    made_clean (given_in c.args.table.now) (file_of c.file.result.now) (file_of c.args.checked.now) (known_in c.args.table.now) (ap file_of c.file.ensures.same) c.requires.known.known
    c.folded_file.result (specialised_is_clean (file_of c.args.checked.now) (given_in c.args.table.now) c.file.ensures.checked c.requires.fitting) c.folded_file.ensures

pub returns-clause-meaning : goal.returns-clause-meaning
returns-clause-meaning c =
    made_meaning (given_in c.args.table.now) (file_of c.file.result.now) (file_of c.args.checked.now) (known_in c.args.table.now) (ap file_of c.file.ensures.same) c.requires.known.known
    c.folded_file.result
    (specialised_means_the_same (file_of c.args.checked.now) (given_in c.args.table.now) c.requires.ranked (constants_apart (file_of c.args.checked.now) c.file.ensures.checked)
    c.requires.small) c.folded_file.ensures
