-- What clauses see of a shelf over the runtime's files.
use Rattle.std.specs.Prelude.{ℕ, List, map, string_bytes}
use Rattle.bridge_io.specs.declared.file_shelf.FileShelf.{FileShelf}

-- the texts of its words
abbrev pub words_of : {R F D : Type 0} → FileShelf R F D → List (List ℕ)
words_of s = map string_bytes s.words.now

-- how often it has failed
abbrev pub faults_of : {R F D : Type 0} → FileShelf R F D → ℕ
faults_of s = s.faults
