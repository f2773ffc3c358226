-- What was done with a source, by what was done with its bytes.
use Rattle.std.proofs.Common.{◌≡◌, ℕ, ◌≤◌, ◌^◌, List, length}
use Rattle.std.specs.Prelude.{Option, Bool, true, false, MatchBool, Result, Ok, Err}
use Rattle.std.specs.Io.KnownBytes.{Consumes, IsAtEnd}
use Rattle.texts.specs.Growth.{SinkState}
use Rattle.program_words.specs.declared.errors.ProgramError.{ProgramError}
use Rattle.program_words.specs.declared.errors.ProgramError.TheVariants as error
use Rattle.run_pictures.specs.declared.pages.Form.{Form}
use Rattle.draw.specs.Conduct.{Draws, DrawsInput, is_refusal}
use Rattle.draw.specs.declared.reasons.NoRun.{NoRun}

either : {P Q R : Type 0} (b : Bool) → MatchBool b P Q → (P → R) → (Q → R) → R
either true holds left right = left holds
either false holds left right = right holds

module _ {T : Type 0} (form : Form) (left left' : Option (List ℕ)) (before now : ℕ)
    (old new : SinkState) (input : List ℕ) (read : Consumes left left' input) (end : IsAtEnd left')
    (short : length input ≤ 2 ^ 32) (still : now ≡ before) where
  pub draws_read : (result : Result T (ProgramError NoRun)) → Draws form input result old new
      → DrawsInput result form left left' before now old new
  draws_read (Ok value) done = record {
    input = input;
    read = read;
    end = end;
    short = short;
    still = still;
    done = done;
  }
  draws_read (Err (error.Refused reason)) done = record {
    input = input;
    read = read;
    end = end;
    short = short;
    still = still;
    done = done;
  }
  draws_read (Err error.WriteFault) done = record {
    input = input;
    read = read;
    end = end;
    short = short;
    still = still;
    done = done;
  }
  draws_read (Err error.NoMemory) done = (
    record { front = input; read = read; within = short },
    still,
    either (is_refusal input) done (λ handed. handed.1) (λ drawn. drawn.1),
  )
  draws_read (Err error.Usage) done =
      absurd (either (is_refusal input) done (λ handed. handed.0) (λ drawn. drawn.0))
  draws_read (Err error.ReadFault) done =
      absurd (either (is_refusal input) done (λ handed. handed.0) (λ drawn. drawn.0))
  draws_read (Err error.TooLong) done =
      absurd (either (is_refusal input) done (λ handed. handed.0) (λ drawn. drawn.0))
