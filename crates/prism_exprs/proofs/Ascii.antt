-- Texts of ASCII, as the code finds them.
use Rattle.std.proofs.Common.{arith, ◌≡◌, ℕ, zero, suc, ◌<◌, true, false, List, [], ◌∷◌, refl}
use Rattle.std.specs.Char.{is_ascii}
use Rattle.std.specs.Cmp.Derive.{both_true}
use Rattle.std.specs.Str.{IsAscii, IsNotAscii, IsUtf8}
use Rattle.std.proofs.lemmas.Bool.{and_parts, false_from_ne_true}
use Rattle.std.proofs.lemmas.Str.{IsUtf8-from_ascii}
use Rattle.prism_exprs.specs.Kept.{is_ascii_text}

small_byte : (b : ℕ) → is_ascii b ≡ true → b < 128
small_byte b e = grind (arith, e)

byte_small : (b : ℕ) → b < 128 → is_ascii b ≡ true
byte_small b h = grind (arith, h)

pub ascii_bytes : (w : List ℕ) → is_ascii_text w ≡ true → IsAscii w
ascii_bytes [] e i = omega arith
ascii_bytes (b ∷ w) e zero = small_byte b (and_parts _ _ e).0
ascii_bytes (b ∷ w) e (suc i) = ascii_bytes w (and_parts _ _ e).1 i

pub bytes_ascii : (w : List ℕ) → IsAscii w → is_ascii_text w ≡ true
bytes_ascii [] h = refl
bytes_ascii (b ∷ w) h = both_true (byte_small b (h zero)) (bytes_ascii w (λ i. h (suc i)))

pub no_ascii : (w : List ℕ) → IsNotAscii w → is_ascii_text w ≡ false
no_ascii w h = false_from_ne_true _ (λ e. let i = ascii_bytes w e h.0 in omega (arith, i, h.1))

pub ascii_utf8 : (w : List ℕ) → is_ascii_text w ≡ true → IsUtf8 w
ascii_utf8 w e = IsUtf8-from_ascii w (ascii_bytes w e)
