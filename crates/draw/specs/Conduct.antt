-- What `draw` did to its source and its sink for what its words ask for.
use Rattle.std.specs.Prelude.{◌≡◌, ℕ, ◌≤◌, ◌^◌, ◌==◌, ◌||◌, List, [], ◌∷◌, length, Bool, Option}
use Rattle.std.specs.Prelude.{Result, Ok, Err, MatchBool, codes}
use Rattle.std.specs.Io.KnownBytes.{Consumes, IsAtEnd}
use Rattle.std.specs.List.{starts_with}
use Rattle.texts.specs.Causes.{Counted}
use Rattle.texts.specs.Growth.{SinkState, Wrote, Cut}
use Rattle.texts.specs.Lines.{lines_of}
use Rattle.edge_io.specs.Reading.{LosesWithin, LosesMore}
use Rattle.picture_parts.specs.declared.errors.ChartError.TheVariants as chart
use Rattle.program_words.specs.Asked.{asked_by}
use Rattle.program_words.specs.Conduct as program
use Rattle.program_words.specs.declared.asked.Asked.{Asked}
use Rattle.program_words.specs.declared.errors.ProgramError.{ProgramError}
use Rattle.program_words.specs.declared.errors.ProgramError.TheVariants as error
use Rattle.run_pictures.specs.Drawn.{DrawsAs}
use Rattle.run_pictures.specs.declared.drawing.DrawError.{DrawError}
use Rattle.run_pictures.specs.declared.drawing.DrawError.TheVariants as drawing
use Rattle.run_pictures.specs.declared.pages.Form.{Form}
use Rattle.draw.specs.Echoes.{echoed}
use Rattle.draw.specs.HelpText.{help_text, version_text}
use Rattle.draw.specs.Requests.{request_of}
use Rattle.draw.specs.declared.reasons.NoRun.{NoRun}

-- ---- the line that stands in the place of a run

-- it is what `counterlab` writes of an input that it refuses, or of its words
abbrev pub is_refusal : (input : List ℕ) → Bool
is_refusal input =
    starts_with (λ a b. a == b) input (codes "refused ")
    || starts_with (λ a b. a == b) input (codes "usage: ")

abbrev pub first_of : List (List ℕ) → List ℕ
first_of [] = []
first_of (line ∷ lines) = line

-- such a line is handed on, or memory was refused
abbrev pub HandsOn : (input : List ℕ) → ProgramError NoRun → Type 0
HandsOn input (error.Refused reason) = reason.said.items ≡ echoed (first_of (lines_of input))
HandsOn input error.NoMemory = Unit {0}
HandsOn input other = ⊥

-- ---- any other input

-- something is said in letters that can be printed; that it is the cause is not said
pub record IsEcho (reason : NoRun) : Type 0 where
  pub text : List ℕ
  pub is : reason.said.items ≡ echoed text

-- the input is refused, or memory was
abbrev pub SaysWhy : ProgramError NoRun → Type 0
SaysWhy (error.Refused reason) = IsEcho reason
SaysWhy error.NoMemory = Unit {0}
SaysWhy other = ⊥

-- what an error of a picture is
abbrev pub IsErrorFor : DrawError → ProgramError NoRun → Type 0
IsErrorFor (drawing.Chart (chart.Line line wanted)) given = SaysWhy given
IsErrorFor (drawing.Unlike line) given = SaysWhy given
IsErrorFor drawing.Apart given = SaysWhy given
IsErrorFor (drawing.Chart chart.NoMemory) given = given ≡ error.NoMemory
IsErrorFor drawing.NoMemory given = given ≡ error.NoMemory
IsErrorFor drawing.Write given = given ≡ error.WriteFault

-- What was written of an input: its picture, or its page, or a prefix of that, or nothing.
abbrev pub DrawsText : {T : Type 0} → Form → (input : List ℕ) → Result T (ProgramError NoRun)
    → (old new : SinkState) → Type 0
DrawsText form input (Ok value) old new = DrawsAs form input (λ picture. Wrote picture old new)
DrawsText form input (Err error.WriteFault) old new =
    DrawsAs form input (λ picture. Cut picture old new)
DrawsText form input (Err other) old new = SaysWhy other × (new ≡ old)

abbrev pub HandsOnText : {T : Type 0} → (input : List ℕ) → Result T (ProgramError NoRun)
    → (old new : SinkState) → Type 0
HandsOnText input (Ok value) old new = ⊥
HandsOnText input (Err given) old new = HandsOn input given × (new ≡ old)

abbrev pub Draws : {T : Type 0} → Form → (input : List ℕ) → Result T (ProgramError NoRun)
    → (old new : SinkState) → Type 0
Draws form input result old new =
    MatchBool (is_refusal input) (HandsOnText input result old new)
    (DrawsText form input result old new)

-- ---- an input that is read as a whole

-- all of the input was read, and this was done with it
pub record IsRead (left left' : Option (List ℕ)) (before now : ℕ) (holds : List ℕ → Type 0)
    : Type 0 where
  pub input : List ℕ
  pub read : Consumes left left' input
  pub end : IsAtEnd left'
  pub short : length input ≤ 2 ^ 32
  pub still : now ≡ before
  pub done : holds input

-- What was done with a source of at most 2^32 bytes: the bytes that it has left, its count of
-- faults, and what the sink tells, each before and after. Nothing was written if the input was not
-- read, or memory was refused.
abbrev pub DrawsInput : {T : Type 0} → Result T (ProgramError NoRun) → Form
    → (left left' : Option (List ℕ)) (before now : ℕ) (old new : SinkState) → Type 0
DrawsInput (Err error.Usage) form left left' before now old new = ⊥
DrawsInput (Err error.ReadFault) form left left' before now old new =
    LosesWithin (2 ^ 32) left left' × Counted before now × (new ≡ old)
DrawsInput (Err error.TooLong) form left left' before now old new =
    LosesMore (2 ^ 32) left left' × (now ≡ before) × (new ≡ old)
DrawsInput (Err error.NoMemory) form left left' before now old new =
    LosesWithin (2 ^ 32) left left' × (now ≡ before) × (new ≡ old)
DrawsInput result form left left' before now old new =
    IsRead left left' before now (λ input. Draws form input result old new)

-- ---- what the words ask for

abbrev pub asked_of : (words : List (List ℕ)) → Asked Form
asked_of words = asked_by words (request_of words)

-- what was done for words
abbrev pub DoesAsked : {T : Type 0} → (words : List (List ℕ)) → Result T (ProgramError NoRun)
    → (left left' : Option (List ℕ)) (before now : ℕ) (old new : SinkState) → Type 0
DoesAsked words result left left' before now old new =
    program.DoesAsked help_text version_text
    (λ form. DrawsInput result form left left' before now old new)
    (asked_of words) result old new
