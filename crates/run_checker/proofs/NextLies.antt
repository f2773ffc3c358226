-- A line whose text is known but for its digits is that of the next lie.
use Rattle.std.proofs.Common.{◌≡◌, ℕ, suc, zero, ◌<◌, Bool, true, false, cond, Option, Some, None}
use Rattle.std.proofs.Common.{eqb, List, [], ◌∷◌, ◌++◌, length, drop, get_or, decimal, codes, All}
use Rattle.std.proofs.Common.{refl, sym, ap, ◌∙◌, subst, append_assoc, arith}
use Rattle.std.specs.Prelude.{IfSome}
use Rattle.std.proofs.lemmas.Bool.{eq-eqb, and_from}
use Rattle.std.proofs.lemmas.List.{get_or_default}
use Rattle.texts.specs.Lines.{is_one_line}
use Rattle.texts.specs.Parts.{goes}
use Rattle.texts.proofs.LineWords.{joined_is_one}
use Rattle.construction.specs.Plans.{plan_nodes}
use Rattle.plan_numbers.specs.Premises.{IsAccepted}
use Rattle.state_codec.specs.Shapes.{Shape}
use Rattle.state_codec.specs.Texts.{is_state_text, read_text}
use Rattle.run_checker.specs.NodeFields.{fields_of}
use Rattle.run_checker.specs.Items.{HasLine, lie_item, item_line, item_words}
use Rattle.run_checker.specs.Checking.{Stage, telling, refused, step_by, line_step, has_round}
use Rattle.run_checker.specs.Checking.{is_next, lie_fits}
use Rattle.run_checker.proofs.Lexical.{item_is_words, said_there}
use Rattle.run_checker.proofs.Live.{pairs_are_ids}
use Rattle.run_checker.proofs.RecordedLines.{lie_line}
use Rattle.run_checker.specs.Bodies.{BodySeen, stage_of}
use Rattle.run_checker.specs.Changes.{pairs_in, next_sender, Tells}
use Rattle.run_checker.specs.Tellings.{Telling, IsTelling}
use Rattle.run_checker.specs.NextLies.{lie_front, IsNextLine, TakesNext}
use Rattle.run_checker.proofs.StatesRead.{length_told, told_view}

-- the beginning of a line and its digits are the line
front_line : (pair : ℕ × ℕ) (digits : List ℕ)
    → lie_front pair ++ digits ≡ item_line (lie_item pair.0 pair.1 digits)
front_line pair digits =
    let u = decimal pair.0 in
    let v = decimal pair.1 in
    ap (λ (l : List ℕ). codes "lie " ++ l)
    (append_assoc u (32 ∷ (v ++ 32 ∷ [])) digits
    ∙ ap (λ (l : List ℕ). u ++ 32 ∷ l) (append_assoc v (32 ∷ []) digits))

-- a line that begins as that of the pair at the place after what was told is of the next pair
module _ (shape : Shape) (pairs : List (ℕ × ℕ)) (texts : List (List ℕ)) (count : ℕ) {capacity : ℕ}
    (h : IsTelling shape pairs texts count capacity) where
  pub next_line : (pair : ℕ × ℕ) → count < length pairs → pair ≡ get_or pairs count pair
      → (old : Telling) → told_view shape pairs texts count h ≡ old
      → {L : Type 0} (now : L → List ℕ) (found : Option L) (line : List ℕ)
      → IfSome found (λ x. line ≡ lie_front pair ++ now x)
      → IfSome found (λ x. IsNextLine old line (now x))
  next_line pair more at old is now None line e = tt
  next_line pair more at old is now (Some x) line e =
      let told = length_told shape pairs texts count h in
      subst (λ (t : Telling). IsNextLine t line (now x)) is (record {
        more = omega (arith, told, more);
        is = e ∙ ap (λ (p : ℕ × ℕ). lie_front p ++ now x)
            (at ∙ get_or_default pairs count pair (0, 0) more
            ∙ ap (λ (k : ℕ). get_or pairs k (0, 0)) (sym told));
      })

-- the pair at a place is the next one there
next_at : (k : ℕ) (pairs : List (ℕ × ℕ)) → k < length pairs
    → is_next (get_or pairs k (0, 0)).0 (get_or pairs k (0, 0)).1 (drop k pairs) ≡ true
next_at k [] lt = absurd (omega (arith, lt))
next_at zero (p ∷ pairs) lt =
    and_from (eqb p.0 p.0) (eqb p.1 p.1) (eq-eqb p.0 p.0 refl) (eq-eqb p.1 p.1 refl)
next_at (suc k) (p ∷ pairs) lt = next_at k pairs (omega (arith, lt))

chosen : (b : Bool) (t : Stage) → b ≡ true → cond b (goes t) refused ≡ goes t
chosen true t e = refl
chosen false t e = absurd cc

module _ (b : BodySeen) (accepted : IsAccepted b.known.plan)
    (below : All (λ id. id < plan_nodes b.known.plan) b.known.stand.faulty)
    (putting : b.is_putting ≡ false) (round : has_round b.known ≡ true)
    (line digits : List ℕ) (more : length b.told < length (pairs_in b))
    (is : line ≡ lie_front (get_or (pairs_in b) (length b.told) (0, 0)) ++ digits) where
  abbrev pair : ℕ × ℕ
  pair = get_or (pairs_in b) (length b.told) (0, 0)

  abbrev told_more : BodySeen
  told_more = record b {
    told = b.told ++ read_text (fields_of b.known.plan pair.0) digits ∷ [];
  }

  has_line : is_state_text (fields_of b.known.plan pair.0) digits ≡ true
      → HasLine (lie_item pair.0 pair.1 digits)
  has_line text =
      let ids = pairs_are_ids b.known.plan b.known.stand.faulty below (length b.told) (0, 0) more in
      lie_line b.known.plan accepted pair.0 pair.1 digits ids.0 ids.1 text

  line_is : line ≡ item_line (lie_item pair.0 pair.1 digits)
  line_is = is ∙ front_line pair digits

  taken : is_state_text (fields_of b.known.plan pair.0) digits ≡ true
      → line_step (telling b.known b.told) line ≡ goes (telling b.known told_more.told)
  taken text =
      ap (line_step (telling b.known b.told)) line_is
      ∙ ap (step_by (telling b.known b.told)) (said_there _ (has_line text))
      ∙ chosen (lie_fits b.known b.told pair.0 pair.1 digits) (telling b.known told_more.told)
      (and_from _ _ (and_from _ _ round (next_at (length b.told) (pairs_in b) more)) text)

  one : is_state_text (fields_of b.known.plan pair.0) digits ≡ true → is_one_line line ≡ true
  one text =
      let words = (has_line text).words in
      ap is_one_line line_is
      ∙ joined_is_one (item_words (lie_item pair.0 pair.1 digits))
      (item_is_words (lie_item pair.0 pair.1 digits) words)

  -- if its digits are those of a state, it is taken, and else nothing changes
  pub takes_next : (new : BodySeen) (result : Bool) → Tells (next_sender b) digits b new result
      → TakesNext line (stage_of b) (stage_of new) result
  takes_next new true h =
      let stage : stage_of b ≡ telling b.known b.told =
      ap (λ (p : Bool). stage_of (record b { is_putting = p })) putting in
      let after : stage_of new ≡ telling b.known told_more.told =
      ap stage_of h.1
      ∙ ap (λ (p : Bool). stage_of (record told_more { is_putting = p })) putting in (
        ap (λ (s : Stage). line_step s line) stage ∙ taken h.0 ∙ ap goes (sym after),
        one h.0,
      )
  takes_next new false h = ap stage_of h.1
