-- The line that an error writes, and the exit code.
use Rattle.std.specs.Prelude.{ℕ, List, codes, Result, Ok, Err}
use Rattle.sync_types.specs.Codes.{code_of}
use Rattle.sync_types.specs.declared.status.Status.TheVariants as status
use Rattle.edge_io.specs.declared.read.InputFault.{InputFault}
use Rattle.edge_io.specs.declared.read.InputFault.TheVariants as fault
use Rattle.program_words.specs.declared.errors.ProgramError.{ProgramError}
use Rattle.program_words.specs.declared.errors.ProgramError.TheVariants as error

-- the line of an input that is too long, if all of it is read first
abbrev pub too_long_line : List ℕ
too_long_line = codes "the input has more than 1048576 bytes\n"

-- the line of an error, if these are those of the program
abbrev pub error_line : {R : Type 0} → (usage long : List ℕ) → (reason_line : R → List ℕ)
    → ProgramError R → List ℕ
error_line usage long reason_line error.Usage = usage
error_line usage long reason_line (error.Refused reason) = reason_line reason
error_line usage long reason_line error.ReadFault = codes "the input could not be read\n"
error_line usage long reason_line error.WriteFault = codes "the answer could not be written\n"
error_line usage long reason_line error.TooLong = long
error_line usage long reason_line error.NoMemory = codes "out of memory\n"

-- the code is that of `counterlab` for the same cause, and of a refusal its own
abbrev pub error_code : {R : Type 0} → (reason_code : R → ℕ) → ProgramError R → ℕ
error_code reason_code error.Usage = code_of status.Usage
error_code reason_code (error.Refused reason) = reason_code reason
error_code reason_code error.ReadFault = code_of status.ReadFault
error_code reason_code error.WriteFault = code_of status.WriteFault
error_code reason_code error.TooLong = code_of status.TooLong
error_code reason_code error.NoMemory = code_of status.NoMemory

-- the code of a program that ended so
abbrev pub ended_code : {T R : Type 0} → (reason_code : R → ℕ) → Result T (ProgramError R) → ℕ
ended_code reason_code (Ok value) = code_of status.Ok
ended_code reason_code (Err e) = error_code reason_code e

-- the error of an input that was not read
abbrev pub input_error : {R : Type 0} → InputFault → ProgramError R
input_error fault.ReadFault = error.ReadFault
input_error fault.TooLong = error.TooLong
input_error fault.NoMemory = error.NoMemory
