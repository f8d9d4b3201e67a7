-- What copies of modules are written out by.
use Rattle.std.specs.Prelude.{Option, Some, None}
use Rattle.prism_tree.specs.Syntax.{File}
use Rattle.prism_names.specs.Places.{IsPlaceOrder}
use Rattle.prism_flat.specs.declared.writer.Writer.{Writer}
use Rattle.prism_flat.specs.Writers.{IsWriterOf}
use Rattle.prism_check.specs.declared.writing.Writing.{Writing}

abbrev pub IsReady : Option Writer → File → Type 0
IsReady None file = Unit {0}
IsReady (Some writer) file = IsWriterOf writer file

-- the places stand in order, and the writer, if it is made, is one of this file
pub record IsWriting (w : Writing) (file : File) : Type 0 where
  pub order : IsPlaceOrder file w.order.now
  pub writer : IsReady w.writer file
