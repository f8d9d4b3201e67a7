-- A file that is refused is one of the files.
use Rattle.std.proofs.Common.{arith, ℕ, zero, suc, ◌<◌, List, [], ◌∷◌, length}
use Rattle.bridge_io.specs.declared.reason.Fault.{Fault}
use Rattle.process_core.specs.Steps.{Process}
use Rattle.command_words.specs.Words.{Claim, of_path, of_rows, of_bounds, Checking}
use Rattle.model_process.specs.Starts.{process_for}
use Rattle.model_process.specs.Claims.{BreaksForm, IsFileFault}

break_within : (p : Process) (claim : Claim) (others : List (List ℕ)) (i : ℕ) (f : Fault) → BreaksForm p claim others i f → i < length others
break_within p (of_path path) [] i f h = absurd h
break_within p (of_path path) (file ∷ []) zero f h = omega arith
break_within p (of_path path) (file ∷ []) (suc i) f h = absurd h
break_within p (of_path path) (file ∷ other ∷ others) i f h = absurd h
break_within p (of_rows states rows) [] i f h = absurd h
break_within p (of_rows states rows) (first ∷ []) i f h = absurd h
break_within p (of_rows states rows) (first ∷ second ∷ []) zero f h = omega arith
break_within p (of_rows states rows) (first ∷ second ∷ []) (suc zero) f h = omega arith
break_within p (of_rows states rows) (first ∷ second ∷ []) (suc (suc i)) f h = absurd h
break_within p (of_rows states rows) (first ∷ second ∷ third ∷ others) i f h = absurd h
break_within p (of_bounds states rows name bounds) [] i f h = absurd h
break_within p (of_bounds states rows name bounds) (first ∷ []) i f h = absurd h
break_within p (of_bounds states rows name bounds) (first ∷ second ∷ []) i f h = absurd h
break_within p (of_bounds states rows name bounds) (first ∷ second ∷ third ∷ []) zero f h = omega arith
break_within p (of_bounds states rows name bounds) (first ∷ second ∷ third ∷ []) (suc zero) f h = omega arith
break_within p (of_bounds states rows name bounds) (first ∷ second ∷ third ∷ []) (suc (suc zero)) f h = omega arith
break_within p (of_bounds states rows name bounds) (first ∷ second ∷ third ∷ []) (suc (suc (suc i))) f h = absurd h
break_within p (of_bounds states rows name bounds) (first ∷ second ∷ third ∷ fourth ∷ others) i f h = absurd h

pub fault_within : (c : Checking) (files : List (List ℕ)) (i : ℕ) (f : Fault) → IsFileFault c files i f → i < length files
fault_within c [] i f h = absurd h
fault_within c (model ∷ others) zero f h = omega arith
fault_within c (model ∷ others) (suc i) f (d, is, k) = let l = break_within (process_for d c.given) c.claim others i f k.breaks in omega (arith, l)
