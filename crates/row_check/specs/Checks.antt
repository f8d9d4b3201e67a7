-- What is answered about files: the verdict on their content, or the first line that breaks the form. (This project's own.)
use Rattle.std.specs.Prelude.{◌≡◌, ℕ, List, Result, Ok, Err}
use Rattle.bridge_io.specs.declared.reason.Reason.TheVariants.{RowSyntax}
use Rattle.bridge_io.specs.declared.reason.Refused.{Refused}
use Rattle.bridge_io.specs.declared.reason.Refused.TheVariants as R
use Rattle.process_core.specs.Steps.{Process}
use Rattle.row_check.specs.declared.data.ReadPath.{ReadPath}
use Rattle.row_check.specs.declared.data.ReadRows.{ReadRows}
use Rattle.row_check.specs.declared.data.RowsRefused.{RowsRefused}
use Rattle.row_check.specs.declared.data.RowsRefused.TheVariants as W
use Rattle.row_check.specs.declared.data.Verdict.{Verdict}
use Rattle.row_check.specs.Judging.{Judges}
use Rattle.row_check.specs.Paths.{JudgesPath}
use Rattle.row_check.specs.Rows.{JudgesRows}
use Rattle.row_check.specs.Forms.{IsPathFile, IsPathBreak, AreRowFiles, IsStatesBreak, IsRowsBreak}

-- the verdict on the path that the file holds, or the first line that breaks the form
abbrev pub ChecksPath : Process → List ℕ → Result Verdict Refused → Type 0
ChecksPath p bytes (Ok v) = (path : ReadPath) × IsPathFile p bytes path × Judges (JudgesPath p path) v
ChecksPath p bytes (Err (R.At f)) = (f.reason ≡ RowSyntax) × IsPathBreak p bytes f.at
ChecksPath p bytes (Err (R.Memory e)) = Unit {0}

-- the rows that both files hold, or the first line that breaks the form of one, of the states before the rows
abbrev pub ReadsRows : Process → List ℕ → List ℕ → Result ReadRows RowsRefused → Type 0
ReadsRows p states rows (Ok r) = AreRowFiles p states rows r
ReadsRows p states rows (Err (W.States f)) = (f.reason ≡ RowSyntax) × IsStatesBreak p states f.at
ReadsRows p states rows (Err (W.Rows f)) = (f.reason ≡ RowSyntax) × IsRowsBreak p states rows f.at
ReadsRows p states rows (Err (W.Memory e)) = Unit {0}

-- the verdict on them
abbrev pub ChecksRows : Process → List ℕ → List ℕ → Result Verdict RowsRefused → Type 0
ChecksRows p states rows (Ok v) = (r : ReadRows) × AreRowFiles p states rows r × Judges (JudgesRows p r) v
ChecksRows p states rows (Err (W.States f)) = (f.reason ≡ RowSyntax) × IsStatesBreak p states f.at
ChecksRows p states rows (Err (W.Rows f)) = (f.reason ≡ RowSyntax) × IsRowsBreak p states rows f.at
ChecksRows p states rows (Err (W.Memory e)) = Unit {0}
