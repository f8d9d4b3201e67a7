use Rattle.prism_check.proofs.Flat.{written_out_alike}
use Rattle.prism_check.proofs.Form.{printable_too, written_out_too}
use Rattle.prism_check.proofs.places_laws.form_law.Goals as goal

pub returns : goal.returns
returns c = record { form = printable_too; plain = written_out_too; flat = written_out_alike }
