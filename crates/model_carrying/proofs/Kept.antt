-- What carrying a path writes is kept, and where it tells that a line isn't carried the path isn't accepted.
use Rattle.std.proofs.Common.{◌≡◌, sym, subst, ℕ, List}
use Rattle.instance_start.specs.Description.{Description}
use Rattle.row_check.specs.declared.data.Verdict.{Verdict}
use Rattle.row_check.specs.declared.data.Verdict.TheVariants.{Yes}
use Rattle.row_check.specs.Checks.{ChecksPath}
use Rattle.path_carry.specs.Kept.{Keeps, KeepsPath}
use Rattle.path_carry.specs.declared.data.Carried.{Carried}
use Rattle.path_carry.specs.declared.data.Carried.TheVariants as C
use Rattle.command_words.specs.Words.{Carrying}
use Rattle.model_process.specs.Starts.{process_for}
use Rattle.model_process.specs.declared.ending.Ending.TheVariants as E
use Rattle.model_carrying.specs.Counterparts.{Counterpart}
use Rattle.model_carrying.specs.Ends.{ArePairStartable, EndsOnCarry, carried, carry_ending, faulty, process_there, unfit, wide}
use Rattle.model_carrying.specs.Kept.{CarriedIsKept, LostIsNotAccepted}
use Rattle.std.specs.Prelude.{Ok}

done_same : (s t : List ℕ) → E.Done s ≡ E.Done t → s ≡ t
done_same s t e = cc

module _ (d : Description) (o : Counterpart) (c : Carrying) (path : List ℕ) where
  -- of what is written
  written_kept : (text : List ℕ) (r : Carried) → Keeps (process_for d c.given) (process_there d o c.given) path r → E.Done text ≡ carry_ending r → KeepsPath (process_for d c.given) (process_there d o c.given) path text
  written_kept text (C.Path other) h e = subst (KeepsPath (process_for d c.given) (process_there d o c.given) path) (sym (done_same text other e)) h
  written_kept text (C.No k) h e = absurd cc
  written_kept text (C.Wide k) h e = absurd cc
  written_kept text (C.TooMany k) h e = absurd cc

  pub done_kept : (text : List ℕ) → EndsOnCarry d o c path (E.Done text) → KeepsPath (process_for d c.given) (process_there d o c.given) path text
  done_kept text (unfit i n p) = absurd cc
  done_kept text (wide n w p) = absurd cc
  done_kept text (faulty n w f p) = absurd cc
  done_kept text (carried s r file keeps is) = written_kept text r keeps is

  -- and then both are started
  pub done_started : (text : List ℕ) → EndsOnCarry d o c path (E.Done text) → ArePairStartable d o c.given
  done_started text (unfit i n p) = absurd cc
  done_started text (wide n w p) = absurd cc
  done_started text (faulty n w f p) = absurd cc
  done_started text (carried s r file keeps is) = s

  -- of a line that tells where a path isn't carried
  line_lost : (line : List ℕ) (r : Carried) → Keeps (process_for d c.given) (process_there d o c.given) path r → E.No line ≡ carry_ending r → (v : Verdict) → ChecksPath (process_for d c.given) path (Ok v) → ¬ (v ≡ Yes)
  line_lost line (C.Path other) h e = absurd cc
  line_lost line (C.No k) h e = h
  line_lost line (C.Wide k) h e = absurd cc
  line_lost line (C.TooMany k) h e = absurd cc

  no_lost : (line : List ℕ) → EndsOnCarry d o c path (E.No line) → (v : Verdict) → ChecksPath (process_for d c.given) path (Ok v) → ¬ (v ≡ Yes)
  no_lost line (unfit i n p) = absurd cc
  no_lost line (wide n w p) = absurd cc
  no_lost line (faulty n w f p) = absurd cc
  no_lost line (carried s r file keeps is) = line_lost line r keeps is

pub carried_is_kept : CarriedIsKept
carried_is_kept c model path text (d, o, has, ends) = (d, o, has, done_kept d o c path text ends)

pub lost_is_not_accepted : LostIsNotAccepted
lost_is_not_accepted c model path line (d, o, has, ends) = (d, o, has, no_lost d o c path line ends)
