-- A header that was read fits the plan.
use Rattle.std.proofs.Common.{◌≡◌, ℕ, ◌<◌, Bool, true, false, List, [], ◌∷◌, ◌++◌, Option}
use Rattle.std.proofs.Common.{Some, None, Ok, Err, refl, sym, ap, subst, arith}
use Rattle.std.specs.Prelude.{IfOk, nat_le, if◌then◌else◌, codes}
use Rattle.std.specs.Str.{bytes_eq}
use Rattle.std.proofs.lemmas.Bool.{leb-false}
use Rattle.texts.specs.Lines.{words_of, lines_of}
use Rattle.texts.specs.Shapes.{numbers_after}
use Rattle.texts.specs.Parts.{Next, goes, ends, refuses, with_skips}
use Rattle.texts.specs.Limits.{by, beyond, shows, less, with_rest, with_limit}
use Rattle.texts.proofs.Parts.{After, after_if, skips_keep, part_keeps}
use Rattle.edge_io.specs.declared.fed_parts.FedPart.{FedPart}
use Rattle.edge_io.specs.FedParts.{MayFollow, limited_part, WholePart}
use Rattle.sync_types.specs.declared.answers.Rule.TheVariants as rule
use Rattle.sync_types.specs.States.{State}
use Rattle.state_codec.specs.Shapes.{Shape, IsShape, fields_at, shape_nodes}
use Rattle.state_codec.specs.Texts.{is_state_text, read_text, decoded}
use Rattle.state_codec.specs.Ranges.{InRange}
use Rattle.state_codec.proofs.Lows.{fields_limited}
use Rattle.state_codec.proofs.Ranged.{read_is_in_range}
use Rattle.node_words.specs.declared.header_lines.NodeHeader.{NodeHeader}
use Rattle.node_words.specs.declared.header_lines.HeaderStage.{HeaderStage}
use Rattle.node_words.specs.declared.header_lines.HeaderStage.TheVariants.{Unread, Begun, Named}
use Rattle.node_words.specs.declared.header_lines.HeaderStage.TheVariants.{Stated}
use Rattle.node_words.specs.NodePart.{HeaderSoFar, nothing_read, header_step, stage_step, id_by}
use Rattle.node_words.specs.NodePart.{state_in, header_of, header_by, state_word, goes_named}
use Rattle.node_words.specs.NodePart.{goes_stated}
use Rattle.node_words.specs.Fits.{IsFit, StageFits}

module _ {S V R : Type 0} (step : S → List ℕ → Next S V R) (P : S → Type 0) (Q : V → Type 0)
    (kept : (s : S) (line : List ℕ) → P s → After P Q (step s line)) where
  -- what a step keeps it keeps within a limit
  abbrev P' : Option ℕ × S → Type 0
  P' x = P (x.1)

  abbrev Q' : Option ℕ × V → Type 0
  Q' x = Q (x.1)

  rest_keeps : (room : Option ℕ) (next : Next S V R) → After P Q next
      → After P' Q' (with_rest room next)
  rest_keeps room (goes t) h = h
  rest_keeps room (ends v) h = h
  rest_keeps room (refuses r) h = tt

  pub limit_keeps : (s : Option ℕ × S) (line : List ℕ) → P' s → After P' Q' (with_limit step s line)
  limit_keeps (room, s) line p =
      after_if P' Q' (shows room line) (with_rest (less room line) (step s line)) (refuses beyond)
      (rest_keeps (less room line) (step s line) (kept s line p)) tt

module _ (shape : Shape) (sound : IsShape shape) where
  abbrev Kept : HeaderSoFar → Type 0
  Kept h = (h.shape ≡ shape) × StageFits shape h.stage

  named_by : (h : HeaderSoFar) (v : ℕ) (test : Bool) → (test ≡ false → v < shape_nodes shape)
      → h.shape ≡ shape
      → After Kept (IsFit shape) (goes_named h (if test then Err rule.Node else Ok v))
  named_by h v true lt same = tt
  named_by h v false lt same = (same, lt refl)

  named : (h : HeaderSoFar) (n : ℕ) → n ≡ shape_nodes shape → h.shape ≡ shape
      → (numbers : Option (List ℕ)) → After Kept (IsFit shape) (goes_named h (id_by n numbers))
  named h n all same None = tt
  named h n all same (Some []) = tt
  named h n all same (Some (v ∷ w ∷ more)) = tt
  named h n all same (Some (v ∷ [])) =
      named_by h v (nat_le n v) (λ e. let lt = leb-false n v e in omega (arith, lt, all)) same

  module _ (h : HeaderSoFar) (id : ℕ) (node : id < shape_nodes shape) (same : h.shape ≡ shape) where
    stated_by : (s : State) (test : Bool) → InRange (fields_at shape id) s
        → After Kept (IsFit shape) (goes_stated h (header_by id (if test then Some s else None)))
    stated_by s true range = (same, record { node = node; range = range })
    stated_by s false range = tt

    stated_in : (word : Option (List ℕ))
        → After Kept (IsFit shape) (goes_stated h (header_of shape id word))
    stated_in None = tt
    stated_in (Some word) =
        let fields = fields_at shape id in
        stated_by (read_text fields word) (is_state_text fields word)
        (read_is_in_range fields (decoded word)
        (fields_limited shape id sound))

  stage_keeps : (h : HeaderSoFar) (stage : HeaderStage) (line : List ℕ) → h.shape ≡ shape
      → StageFits shape stage → After Kept (IsFit shape) (stage_step h stage line)
  stage_keeps h Unread line same fits =
      after_if Kept (IsFit shape) (bytes_eq line (codes "node 1"))
      (goes (record h { stage = Begun })) (refuses rule.Form) (same, tt) tt
  stage_keeps h Begun line same fits =
      named h (shape_nodes h.shape) (ap shape_nodes same) same
      (numbers_after (codes "id") 1 (words_of line))
  stage_keeps h (Named id) line same fits =
      subst (λ (s : Shape). After Kept (IsFit shape) (goes_stated h (state_in s id line)))
      (sym same)
      (stated_in h id fits same (state_word (words_of line)))
  stage_keeps h (Stated header) line same fits =
      after_if Kept (IsFit shape) (bytes_eq line (codes "end")) (ends header) (refuses rule.Form)
      fits tt

  step_keeps : (h : HeaderSoFar) (line : List ℕ) → Kept h
      → After Kept (IsFit shape) (header_step h line)
  step_keeps h line (same, fits) = stage_keeps h h.stage line same fits

  line_keeps : (h : HeaderSoFar) (line : List ℕ) → Kept h
      → After Kept (IsFit shape) (with_skips header_step rule.Form h line)
  line_keeps h line k = skips_keep header_step rule.Form Kept (IsFit shape) h line k
      (step_keeps h line k)

  nothing_follows : (ended : Bool) → MayFollow ended false []
  nothing_follows true = (refl, refl)
  nothing_follows false = tt

  -- the node of a part within any room
  pub part_fits : (taken number : ℕ) (room : Option ℕ) (lines : List (List ℕ))
      → IfOk (limited_part (with_skips header_step rule.Form) rule.Form (nothing_read shape) taken
      number room lines)
      (λ found. IsFit shape (found.value.1))
  part_fits taken number room lines =
      let step = with_skips header_step rule.Form in
      let keeps = limit_keeps step Kept (IsFit shape) line_keeps in
      part_keeps (with_limit step) (by rule.Form) (P' step Kept (IsFit shape) line_keeps)
      (Q' step Kept (IsFit shape) line_keeps) keeps lines (room, nothing_read shape) taken number
      (refl, tt)

  pub header_fits : (first limit before after : ℕ) (s t : Option (List ℕ)) (x : FedPart NodeHeader)
      → WholePart (with_skips header_step rule.Form) rule.Form (nothing_read shape) first limit
      before after s t x
      → IsFit shape x.value
  header_fits first limit before after s t x w =
      subst (λ r. IfOk r (λ found. IsFit shape (found.value.1)))
      (w.decided.decides false [] (nothing_follows w.decided.ended))
      (part_fits 0 first None (lines_of (w.decided.bytes ++ [])))
