-- Models that are read, and the contents of all files.
use Rattle.std.proofs.Common.{arith, ◌≡◌, ◌∙◌, sym, ap, ap₂, ℕ, suc, ◌-◌, List, [], ◌∷◌, length, drop, take, slice_index_or}
use Rattle.std.proofs.lemmas.List.{length-drop, take_rest}
use Rattle.std.specs.Prelude.{Result, Ok, Err, IfOk, IfErr}
use Rattle.bridge_io.specs.declared.reason.Refused.{Refused}
use Rattle.prism_check.specs.Checked.{Checked}
use Rattle.jani_tree.specs.declared.syntax.JaniFile.{JaniFile}
use Rattle.jani_tree.specs.Syntax.{file_of}
use Rattle.model_files.specs.PrismFile.{IsFaultless, IsReadPrism, RefusesPrism}
use Rattle.model_files.specs.JaniFile.{IsFaultlessJani, IsReadJani, RefusesJani}

-- ---- what reading came to
pub is_read_prism : (bytes : List ℕ) (r : Result Checked Refused) → IfOk r (λ c. IsFaultless bytes c.file) → IfErr r (RefusesPrism bytes) → IsReadPrism bytes r
is_read_prism bytes (Ok c) ok err = ok
is_read_prism bytes (Err refused) ok err = err

pub is_read_jani : (bytes : List ℕ) (r : Result JaniFile Refused) → IfOk r (λ file. IsFaultlessJani bytes (file_of file)) → IfErr r (RefusesJani bytes) → IsReadJani bytes r
is_read_jani bytes (Ok file) ok err = ok
is_read_jani bytes (Err refused) ok err = err

-- ---- files, by their places
-- the first, and the others, which are one less
pub first_file : (files : List (List ℕ)) (x e : List ℕ) (n : ℕ) → length files ≡ suc n → x ≡ e → e ≡ slice_index_or files 0 e → files ≡ x ∷ take (length files - 1) (drop 1 files)
first_file files x e n many same is = front files x e n many same is ∙ ap (λ others. x ∷ others) (sym (take_rest files 1))
  where
    front : (files : List (List ℕ)) (x e : List ℕ) (n : ℕ) → length files ≡ suc n → x ≡ e → e ≡ slice_index_or files 0 e → files ≡ x ∷ drop 1 files
    front [] x e n many same is = absurd (omega (arith, many))
    front (y ∷ files) x e n many same is = ap (λ z. z ∷ files) (sym is ∙ sym same)

pub other_files : (files : List (List ℕ)) (n : ℕ) → length files ≡ suc n → length (take (length files - 1) (drop 1 files)) ≡ n
other_files files n many =
    let cut : length (take (length files - 1) (drop 1 files)) ≡ length (drop 1 files) = ap length (take_rest files 1) in
    let long = length-drop 1 files in
    omega (arith, cut, long, many)

-- two files are the first and the second
pub two_files : (files : List (List ℕ)) (x y e f : List ℕ) → length files ≡ 2 → x ≡ e → e ≡ slice_index_or files 0 e → y ≡ f → f ≡ slice_index_or files 1 f → files ≡ x ∷ y ∷ []
two_files [] x y e f many a p b q = absurd (omega (arith, many))
two_files (u ∷ []) x y e f many a p b q = absurd (omega (arith, many))
two_files (u ∷ v ∷ []) x y e f many a p b q = ap₂ (λ s t. s ∷ t ∷ []) (sym p ∙ sym a) (sym q ∙ sym b)
two_files (u ∷ v ∷ w ∷ files) x y e f many a p b q = absurd (omega (arith, many))
