-- The pieces of the text of a generated module, as the code writes them.
use Rattle.std.specs.Prelude.{ℕ, List, ◌++◌, codes, decimal}
use Rattle.prism_print.specs.Text.{command_text, listed}
use Rattle.generated_model.specs.Generated.{handed_to}

-- its title, its variable, and the command by chance
abbrev pub front_text : ℕ → List ℕ
front_text k =
    codes "\nmodule m" ++ (decimal k ++ (codes "\n  x" ++ (decimal k ++ (codes " : [0..3] init 0;\n\n  [] x" ++ (decimal k ++ (codes " < K -> 1 / 2 : (x" ++ (decimal k
    ++ (codes "'=x" ++ (decimal k ++ codes " + 1) + 1 / 2 : true;\n")))))))))

-- the command that goes with the module before
abbrev pub handed_text : ℕ → List ℕ
handed_text k = listed (codes "  ") (codes "  ") command_text (handed_to k)

-- the command that hands on, and the end
abbrev pub back_text : ℕ → List ℕ
back_text k = codes "  [a" ++ (decimal k ++ (codes "] x" ++ (decimal k ++ (codes " = K -> (x" ++ (decimal k ++ codes "'=0);\nendmodule\n")))))
