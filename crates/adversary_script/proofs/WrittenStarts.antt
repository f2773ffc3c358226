-- The lines of starts and of eras in a script's text are read.
use Rattle.std.proofs.Common.{◌≡◌, ℕ, ◌<◌, ◌≤◌, true, false, List, []}
use Rattle.std.proofs.Common.{◌∷◌, ◌++◌, length, map, get_or, Option, Some, Ok, refl}
use Rattle.std.proofs.Common.{sym, ap, subst, ◌∙◌, append_assoc, arith, All, nat_le, nat_lt}
use Rattle.std.specs.Prelude.{decimal, codes}
use Rattle.std.specs.List.Sorted.{IsStrictlyIncreasing}
use Rattle.std.proofs.lemmas.Bool.{lt-leb, lt-ltb, and_from}
use Rattle.std.proofs.lemmas.List.{append-nil, length-append, get_or_at}
use Rattle.std.proofs.lemmas.List.{get_or-map, length-map}
use Rattle.texts.proofs.NumberLines.{number_plain, number_short, number_read}
use Rattle.state_codec.specs.Shapes.{Shape, IsFields, fields_at, bytes_in}
use Rattle.state_codec.specs.Ranges.{InRange}
use Rattle.state_codec.specs.Texts.{written_text}
use Rattle.sync_types.specs.States.{State}
use Rattle.adversary_script.specs.declared.kinds.Kind.{Kind}
use Rattle.adversary_script.specs.declared.kinds.Kind.TheVariants as kind
use Rattle.adversary_script.specs.declared.lies.Start.{Start}
use Rattle.adversary_script.specs.Scripts.{Script, AreInRange}
use Rattle.adversary_script.specs.FaultySteps.{last_era}
use Rattle.adversary_script.specs.StartSteps.{is_above, last_starts, started, start_tested}
use Rattle.adversary_script.specs.LieSteps.{state_of_digits}
use Rattle.adversary_script.specs.ScriptTexts.{start_line}
use Rattle.adversary_script.specs.Writable.{AreStarts}
use Rattle.adversary_script.proofs.EraLists.{tail_rises, above_first}
use Rattle.adversary_script.proofs.WrittenWords.{state_plain, state_short, state_read}
use Rattle.adversary_script.proofs.ReadOn.{IsLineOf, line_counts, lead_none, lead_line, at, GoesTo}
use Rattle.adversary_script.proofs.ReadOn.{goes_then}
use Rattle.adversary_script.proofs.WrittenHead.{IsStarted}

-- what holds of each element holds of the one between these
pub at_middle : {X : Type 0} (P : X → Type 0) (done more : List X) (x : X)
    → All P (done ++ x ∷ more) → P x
at_middle P done more x all =
    subst P (get_or_at done x more x (length done) refl)
    (all (length done) x (omega (arith, length-append done (x ∷ more))))

pub above_at : (done more : List Start) (x : Start)
    → IsStrictlyIncreasing (map (λ (start : Start). start.node) (done ++ x ∷ more))
    → is_above done x.node ≡ true
above_at [] more x rises = refl
above_at (y ∷ done) more x rises =
    let all = done ++ x ∷ more in
    let long = length-append done (x ∷ more) in
    let at_x : get_or (map (λ (start : Start). start.node) all) (length done) 0 ≡ x.node =
    get_or-map (λ (start : Start). start.node) all (length done) x 0 (omega (arith, long))
    ∙ ap (λ (start : Start). start.node) (get_or_at done x more x (length done) refl) in
    let size : length done < length (map (λ (start : Start). start.node) all) =
    omega (arith, long, length-map all (λ (start : Start). start.node)) in
    let above = above_first y.node (map (λ (start : Start). start.node) all) (length done) rises
    size in
    and_from (nat_lt y.node x.node) (is_above done x.node)
    (lt-ltb y.node x.node (omega (arith, above, at_x)))
    (above_at done more x (tail_rises y.node (map (λ (start : Start). start.node) all) rises))

-- a start passes its tests
start_passes : (s : Script) (v : ℕ) (word : List ℕ) (state : State) → nat_le s.nodes v ≡ false
    → is_above (last_starts s) v ≡ true
    → state_of_digits (fields_at s.shape v) word ≡ Some state
    → start_tested s (Some v) word
    ≡ Ok (started s (last_era s.eras) (record { node = v; state = state }))
start_passes s v word state inside above is = rw (inside, above, is) refl

-- a script to which starts are added
pub record IsOpen (opened : List Start → Script) (n : ℕ) (form : Shape) : Type 0 where
  pub nodes : (xs : List Start) → (opened xs).nodes ≡ n
  pub shape : (xs : List Start) → (opened xs).shape ≡ form
  pub starts : (xs : List Start) → last_starts (opened xs) ≡ xs
  pub adds : (xs : List Start) (x : Start)
      → started (opened xs) (last_era (opened xs).eras) x ≡ opened (xs ++ x ∷ [])

module _ (f nodes : ℕ) (shape : Shape) (few : nodes ≤ 256)
    (fits : (v : ℕ) → v < nodes → (1 ≤ bytes_in (fields_at shape v))
    × (bytes_in (fields_at shape v) ≤ 2000))
    (limited : (v : ℕ) → IsFields (fields_at shape v))
    (opened : List Start → Script) (is : IsOpen opened nodes shape) where
  module _ (start : Start) (lt : start.node < nodes)
      (range : InRange (fields_at shape start.node) start.state) where
    abbrev word : List ℕ
    word = written_text (fields_at shape start.node) start.state

    start_is : IsLineOf kind.StartNode (start_line shape start) (decimal start.node ∷ word ∷ [])
    start_is =
        let bytes = fits start.node lt in
        let short = number_short start.node (omega (arith, few, lt)) in
        let digits = state_short (fields_at shape start.node) start.state bytes.1 in
        record {
          plain = (
            record { some = omega arith; above = refl },
            (
              record { some = omega arith; above = refl },
              (
                number_plain start.node (omega (arith, few, lt)),
                (state_plain (fields_at shape start.node) start.state bytes.0, tt),
              ),
            ),
          );
          short = omega (arith, short, digits);
          counted =
              line_counts 115 (codes "tart") (codes "node" ∷ decimal start.node ∷ word ∷ []) refl;
          kind = refl;
        }

    start_step : (xs : List Start) → is_above xs start.node ≡ true
        → start_tested (opened xs) (Some start.node) word ≡ Ok (opened (xs ++ start ∷ []))
    start_step xs above =
        let inside : nat_le (opened xs).nodes start.node ≡ false =
        lt-leb (opened xs).nodes start.node (omega (arith, lt, is.nodes xs)) in
        let over : is_above (last_starts (opened xs)) start.node ≡ true =
        ap (λ (starts : List Start). is_above starts start.node) (is.starts xs) ∙ above in
        let read : state_of_digits (fields_at (opened xs).shape start.node) word
        ≡ Some start.state =
        ap (λ (shape : Shape). state_of_digits (fields_at shape start.node) word) (is.shape xs)
        ∙ state_read (fields_at shape start.node) start.state (limited start.node) range in
        start_passes (opened xs) start.node word start.state inside over read
        ∙ ap Ok (is.adds xs start)

    start_leads : (last : Option Kind) → IsStarted last → (xs : List Start)
        → is_above xs start.node ≡ true
        → GoesTo f IsStarted (at f last (opened xs)) (start_line shape start ∷ [])
        (opened (xs ++ start ∷ []))
    start_leads last may xs above = record {
      last = Some kind.StartNode;
      so = record { start = refl; era = refl; group = refl; lie = refl; rounds = refl };
      lead = lead_line f last (opened xs) (opened (xs ++ start ∷ [])) kind.StartNode
          (start_line shape start) (decimal start.node ∷ word ∷ []) start_is may.start
          (ap (λ (n : Option ℕ). start_tested (opened xs) n word)
          (number_read start.node (omega (arith, few, lt)))
          ∙ start_step xs above) refl;
    }

  pub starts_lead : (last : Option Kind) → IsStarted last → (done more : List Start)
      → AreStarts nodes (done ++ more) → AreInRange shape (done ++ more)
      → GoesTo f IsStarted (at f last (opened done)) (map (start_line shape) more)
      (opened (done ++ more))
  starts_lead last may done [] are range = record {
    last = last;
    so = may;
    lead = rw (append-nil done) (lead_none (at f last (opened done)));
  }
  starts_lead last may done (start ∷ more) are range =
      let same : (done ++ start ∷ []) ++ more ≡ done ++ start ∷ more =
      append_assoc done (start ∷ []) more in
      let lt = at_middle (λ (start : Start). start.node < nodes) done more start are.below in
      let here = at_middle (λ (start : Start). InRange (fields_at shape start.node) start.state)
      done more start range in
      let above = above_at done more start are.rising in
      rw (← same) (goes_then f IsStarted IsStarted (at f last (opened done))
      (opened (done ++ start ∷ [])) (opened ((done ++ start ∷ []) ++ more))
      (start_line shape start ∷ []) (map (start_line shape) more)
      (start_leads start lt here last may done above)
      (λ next so. starts_lead next so (done ++ start ∷ []) more
      (subst (AreStarts nodes) (sym same) are) (subst (AreInRange shape) (sym same) range)))
