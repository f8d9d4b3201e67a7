-- Tokens, and faults among them, stand within the bytes.
use Rattle.std.proofs.Common.{arith, ◌≡◌, ℕ, ◌+◌, ◌≤◌, List, [], ◌∷◌, ◌++◌, length, drop, ap, ◌∙◌}
use Rattle.std.proofs.lemmas.List.{length-append, length-drop}
use Rattle.bridge_io.specs.declared.reason.Fault.{Fault}
use Rattle.prism_lex.specs.Tokens.{Lexeme, end_of, IsNext, IsStuck, Ending, Reads, IsFault, refused, no_token}

next_fits : (bytes : List ℕ) (from : ℕ) (l : Lexeme) → from ≤ length bytes → IsNext bytes from l → (l.at ≤ length bytes) × (end_of l ≤ length bytes)
next_fits bytes from l h n =
    let a : length (drop from bytes) ≡ length n.gap + (length l.text + length n.rest) = ap length n.parts ∙ length-append n.gap (l.text ++ n.rest) ∙ ap (λ (m : ℕ). length n.gap + m) (length-append l.text n.rest) in
    let b = length-drop from bytes in
    let d = n.begins in
    (omega arith, omega arith)

stuck_fits : (bytes : List ℕ) (from at : ℕ) → from ≤ length bytes → IsStuck bytes from at → at ≤ length bytes
stuck_fits bytes from at h s =
    let a : length (drop from bytes) ≡ length s.gap + length s.rest = ap length s.parts ∙ length-append s.gap s.rest in
    let b = length-drop from bytes in
    let d = s.begins in
    omega arith

pub fault_fits : (bytes : List ℕ) (from : ℕ) (f : Fault) → from ≤ length bytes → IsFault bytes from f → f.at ≤ length bytes
fault_fits bytes from f h (refused l n a e) = let w = next_fits bytes from l h n in omega (arith, w.0, e)
fault_fits bytes from f h (no_token s e) = stuck_fits bytes from f.at h s

pub token_fits : (bytes : List ℕ) (from : ℕ) (us : List Lexeme) (t : Lexeme) (rest : List Lexeme) (e : Ending) → from ≤ length bytes → Reads bytes from (us ++ t ∷ rest) e → t.at ≤ length bytes
token_fits bytes from [] t rest e h r = (next_fits bytes from t h r.0).0
token_fits bytes from (u ∷ us) t rest e h r = token_fits bytes (end_of u) us t rest e (next_fits bytes from u h r.0).1 r.1
