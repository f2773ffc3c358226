-- What drawing a text does.
use Rattle.std.specs.Prelude.{◌≡◌, ◌⊎◌, ℕ, List, Result, Ok, Err}
use Rattle.texts.specs.Growth.{SinkState, Wrote, Cut}
use Rattle.run_pictures.specs.declared.drawing.DrawError.{DrawError}
use Rattle.run_pictures.specs.declared.drawing.DrawError.TheVariants as error
use Rattle.run_pictures.specs.Charts.{chart_text}
use Rattle.run_pictures.specs.declared.pages.Form.{Form}
use Rattle.run_pictures.specs.Laid.{IsLaid}
use Rattle.run_pictures.specs.Pages.{formed}
use Rattle.run_pictures.specs.Pictures.{picture_text}
use Rattle.run_pictures.specs.Choices.{choice_text, IsChoiceLaid}
use Rattle.run_pictures.specs.ChoicePictures.{choice_picture}
use Rattle.run_pictures.specs.Sweeps.{sweep_text, IsSweepLaid}
use Rattle.run_pictures.specs.SweepPictures.{sweep_picture}
use Rattle.trace_pictures.specs.Traces.{trace_text}
use Rattle.trace_pictures.specs.TraceLaid.{IsTraceLaid}
use Rattle.trace_pictures.specs.TracePictures.{trace_picture}

-- the text is that of a figure, all of which stands where it belongs, and the figure's picture, or
-- the page of that, has this
pub record DrawsFigure {X : Type 0} (text_of picture_of : X → List ℕ) (Laid : X → Type 0)
    (form : Form) (text : List ℕ) (holds : List ℕ → Type 0)
    : Type 0 where
  pub figure : X
  pub is : text_of figure ≡ text
  pub laid : Laid figure
  pub drawn : holds (formed form text (picture_of figure))

-- so it is drawn as a chart, a trace, a sweep or a choice
abbrev pub DrawsAs : Form → (text : List ℕ) → (holds : List ℕ → Type 0) → Type 0
DrawsAs form text holds =
    DrawsFigure chart_text picture_text IsLaid form text holds
    ⊎ (DrawsFigure trace_text trace_picture IsTraceLaid form text holds
    ⊎ (DrawsFigure sweep_text sweep_picture IsSweepLaid form text holds
    ⊎ DrawsFigure choice_text choice_picture IsChoiceLaid form text holds))

-- What was written of a text: its picture, or a prefix of it, or nothing.
abbrev pub Does : {T : Type 0} → Result T DrawError
    → (Shows : (List ℕ → Type 0) → Type 0) → (old new : SinkState) → Type 0
Does (Ok value) Shows old new = Shows (λ picture. Wrote picture old new)
Does (Err error.Write) Shows old new = Shows (λ picture. Cut picture old new)
Does (Err other) Shows old new = new ≡ old
