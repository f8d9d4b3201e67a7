-- The names of a translated file, with the places that its tree keeps. (This project's own.)
use Rattle.bridge_io.specs.declared.reason.Named.{Named}
use Rattle.process_core.specs.Ready.{Name}

-- a name that is made
abbrev pub made : Name → Named
made x = record { name = x; at = 0 }

-- another name at the place of an old one
abbrev pub instead : Named → Name → Named
instead n x = record { name = x; at = n.at }
