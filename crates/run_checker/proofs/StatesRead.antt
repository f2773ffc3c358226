-- The states of the digits that were told.
use Rattle.std.proofs.Common.{◌≡◌, ℕ, zero, suc, ◌+◌, ◌*◌, ◌<◌, ◌≤◌, inl, inr, true, false, ◌&&◌}
use Rattle.std.proofs.Common.{eqb, List, [], ◌∷◌, ◌++◌, length, set, get_or, take, refl, sym, ap}
use Rattle.std.proofs.Common.{ap₂, ◌∙◌, subst, arith}
use Rattle.std.specs.List.{list_all}
use Rattle.std.proofs.lemmas.Bool.{cases_eq, eqb-true, and_parts}
use Rattle.std.proofs.lemmas.List.{length-set, length-take-le, get_or-set_other, get_or-take}
use Rattle.std.proofs.lemmas.List.{get_or_default, set-get_or}
use Rattle.std.proofs.lemmas.List.Elements.{All-nil}
use Rattle.std.proofs.lemmas.Grind.{get_or-set_at, take-set_at}
use Rattle.sync_types.specs.States.{State}
use Rattle.construction.specs.Steps.{state_of}
use Rattle.state_codec.specs.Shapes.{Shape, fields_at, bytes_in, shape_nodes}
use Rattle.state_codec.specs.Texts.{is_lower_digit, is_state_text, read_text}
use Rattle.run_checker.specs.Tellings.{Telling, room_of, states_read, next_fields, AddsState}
use Rattle.run_checker.specs.Tellings.{IsTelling}

module _ (shape : Shape) where
  pub length_read : (pairs : List (ℕ × ℕ)) (texts : List (List ℕ)) → length texts ≤ length pairs
      → length (states_read shape pairs texts) ≡ length texts
  length_read [] [] le = refl
  length_read [] (t ∷ texts) le = absurd (omega (arith, le))
  length_read (p ∷ pairs) [] le = refl
  length_read (p ∷ pairs) (t ∷ texts) le =
      let rest = length_read pairs texts (omega (arith, le)) in omega (arith, rest)

  -- none of no digits
  pub none_read : (pairs : List (ℕ × ℕ)) → states_read shape pairs [] ≡ []
  none_read [] = refl
  none_read (p ∷ pairs) = refl

  -- one more
  pub read_more : (pairs : List (ℕ × ℕ)) (texts : List (List ℕ)) (text : List ℕ)
      → length texts < length pairs
      → states_read shape pairs (texts ++ text ∷ []) ≡ states_read shape pairs texts
      ++ read_text (fields_at shape (get_or pairs (length texts) (0, 0)).0) text ∷ []
  read_more [] texts text lt = absurd (omega (arith, lt))
  read_more (p ∷ pairs) [] text lt =
      ap (λ (rest : List State). read_text (fields_at shape p.0) text ∷ rest) (none_read pairs)
  read_more (p ∷ pairs) (t ∷ texts) text lt =
      ap (λ (rest : List State). read_text (fields_at shape p.0) t ∷ rest)
      (read_more pairs texts text (omega (arith, lt)))

  -- the one at a place
  pub read_of : (pairs : List (ℕ × ℕ)) (texts : List (List ℕ)) (k : ℕ) → k < length texts
      → length texts ≤ length pairs → state_of (states_read shape pairs texts) k
      ≡ read_text (fields_at shape (get_or pairs k (0, 0)).0) (get_or texts k [])
  read_of [] [] k lt le = absurd (omega (arith, lt))
  read_of [] (t ∷ texts) k lt le = absurd (omega (arith, le))
  read_of (p ∷ pairs) [] k lt le = absurd (omega (arith, lt))
  read_of (p ∷ pairs) (t ∷ texts) zero lt le = refl
  read_of (p ∷ pairs) (t ∷ texts) (suc k) lt le =
      read_of pairs texts k (omega (arith, lt)) (omega (arith, le))

  -- the number of digits was set for one more pair
  pub counted_more : (pairs : List (ℕ × ℕ)) (texts : List (List ℕ)) (k : ℕ) (text : List ℕ)
      → k < length texts → length text ≡ room_of shape (get_or pairs k (0, 0))
      → ((j : ℕ) → j < k → length (get_or texts j []) ≡ room_of shape (get_or pairs j (0, 0)))
      → (j : ℕ) → j < k + 1
      → length (get_or (set texts k text) j []) ≡ room_of shape (get_or pairs j (0, 0))
  counted_more pairs texts k text inside size before j lt = elim (cases_eq j k) [
    | inl at ↦ ap (λ (t : List ℕ). length t) (get_or-set_at texts k j text [] at inside)
        ∙ size ∙ ap (λ (i : ℕ). room_of shape (get_or pairs i (0, 0))) (sym at)
    | inr ne ↦ ap (λ (t : List ℕ). length t) (get_or-set_other texts k j text [] ne)
        ∙ before j (omega (arith, lt, ne))
  ]

  -- nothing was told for no pairs
  pub none_told : (texts : List (List ℕ)) (capacity : ℕ) → length texts ≤ capacity
      → ((v : ℕ) → bytes_in (fields_at shape v) ≤ 32) → IsTelling shape [] texts 0 capacity
  none_told texts capacity room short = record {
    fits = omega arith;
    many = omega arith;
    room = room;
    senders = All-nil (λ pair. pair.0 < shape_nodes shape);
    short = short;
    rooms = λ k lt. absurd (omega (arith, lt));
  }

  module _ (pairs : List (ℕ × ℕ)) (texts : List (List ℕ)) (count : ℕ) {capacity : ℕ}
      (h : IsTelling shape pairs texts count capacity) where
    pub length_told : length (states_read shape pairs (take count texts)) ≡ count
    length_told =
        let long = length-take-le count texts (omega (arith, h.many, h.fits)) in
        length_read pairs (take count texts) (omega (arith, long, h.fits)) ∙ long

    -- whether digits fit into the room of a pair is whether they are those of a state of its sender
    pub fits_is : (k : ℕ) (text : List ℕ) → k < length pairs
        → is_state_text (fields_at shape (get_or pairs k (0, 0)).0) text
        ≡ (eqb (length text) (length (get_or texts k [])) && list_all is_lower_digit text)
    fits_is k text lt =
        ap (λ (n : ℕ). eqb (length text) n && list_all is_lower_digit text) (sym (h.rooms k lt))

    pub told_at : (k : ℕ) → k < count → state_of (states_read shape pairs (take count texts)) k
        ≡ read_text (fields_at shape (get_or pairs k (0, 0)).0) (get_or texts k [])
    told_at k lt =
        let long = length-take-le count texts (omega (arith, h.many, h.fits)) in
        read_of pairs (take count texts) k (omega (arith, long, lt)) (omega (arith, long, h.fits))
        ∙ ap (read_text (fields_at shape (get_or pairs k (0, 0)).0))
        (get_or-take count texts k [] lt)

    -- what was told for a pair is read of its digits
    module _ (k : ℕ) (pair : ℕ × ℕ) (room text : List ℕ) (lt : k < count)
        (pair_at : pair ≡ get_or pairs k pair) (room_of_pair : room ≡ get_or texts k room)
        (same : text ≡ room) where
      pair_is : pair ≡ get_or pairs k (0, 0)
      pair_is = pair_at ∙ get_or_default pairs k pair (0, 0) (omega (arith, lt, h.fits))

      text_is : text ≡ get_or texts k []
      text_is =
          same ∙ room_of_pair
          ∙ get_or_default texts k room [] (omega (arith, lt, h.fits, h.many))

      -- it is of as many digits as the state has
      pub digits_of : length text ≡ 2 * bytes_in (fields_at shape pair.0)
      digits_of =
          ap (λ (t : List ℕ). length t) text_is ∙ h.rooms k (omega (arith, lt, h.fits))
          ∙ ap (room_of shape) (sym pair_is)

      pub read_is : read_text (fields_at shape pair.0) text
          ≡ state_of (states_read shape pairs (take count texts)) k
      read_is =
          ap₂ (λ (p : ℕ × ℕ) (t : List ℕ). read_text (fields_at shape p.0) t) pair_is text_is
          ∙ sym (told_at k lt)

    -- the sender of a pair that was read is a node
    pub sender_below : (k : ℕ) (pair : ℕ × ℕ) → k < length pairs → pair ≡ get_or pairs k pair
        → pair.0 < shape_nodes shape
    sender_below k pair lt at =
        subst (λ (p : ℕ × ℕ). p.0 < shape_nodes shape) (sym at) (h.senders k pair lt)

    -- one more
    module _ (text : List ℕ) (more : count < length pairs)
        (size : length text ≡ length (get_or texts count [])) where
      one_put : take (count + 1) (set texts count text) ≡ take count texts ++ text ∷ []
      one_put = take-set_at texts count (count + 1) text refl (omega (arith, more, h.many))

      room_put : (k : ℕ) → k < length pairs
          → length (get_or (set texts count text) k []) ≡ room_of shape (get_or pairs k (0, 0))
      room_put k lt = elim (cases_eq k count) [
        | inl at ↦ ap (λ (t : List ℕ). length t)
            (get_or-set_at texts count k text [] at (omega (arith, more, h.many)))
            ∙ size ∙ ap (λ (i : ℕ). length (get_or texts i [])) (sym at) ∙ h.rooms k lt
        | inr ne ↦ ap (λ (t : List ℕ). length t) (get_or-set_other texts count k text [] ne)
            ∙ h.rooms k lt
      ]

      pub kept_more : IsTelling shape pairs (set texts count text) (count + 1) capacity
      kept_more =
          let long = length-set texts count text in
          record {
            fits = omega (arith, more);
            many = omega (arith, long, h.many);
            room = omega (arith, long, h.room);
            senders = h.senders;
            short = h.short;
            rooms = room_put;
          }

      pub told_more : states_read shape pairs (take (count + 1) (set texts count text))
          ≡ states_read shape pairs (take count texts) ++ read_text (fields_at shape
          (get_or pairs (length (states_read shape pairs (take count texts))) (0, 0)).0) text ∷ []
      told_more =
          let long = length-take-le count texts (omega (arith, h.many, h.fits)) in
          ap (states_read shape pairs) one_put
          ∙ read_more pairs (take count texts) text (omega (arith, long, more))
          ∙ ap (λ (k : ℕ). states_read shape pairs (take count texts) ++ read_text (fields_at shape
          (get_or pairs k (0, 0)).0) text ∷ []) (long ∙ sym length_told)

    -- what is told for the pairs
    abbrev pub told_view : Telling
    told_view = record {
      pairs = pairs;
      shape = shape;
      states = states_read shape pairs (take count texts);
      room = length texts;
    }

    -- a text is tried in the room of the next pair
    module _ (text room : List ℕ) (more : count < length pairs)
        (at : room ≡ get_or texts count room) where
      room_is : room ≡ get_or texts count []
      room_is = at ∙ get_or_default texts count room [] (omega (arith, more, h.many))

      next_is : is_state_text (next_fields told_view) text
          ≡ (eqb (length text) (length room) && list_all is_lower_digit text)
      next_is =
          ap (λ (k : ℕ). is_state_text (fields_at shape (get_or pairs k (0, 0)).0) text) length_told
          ∙ fits_is count text more
          ∙ ap (λ (r : List ℕ). eqb (length text) (length r) && list_all is_lower_digit text)
          (sym room_is)

      pub adds_none : (eqb (length text) (length room) && list_all is_lower_digit text) ≡ false
          → is_state_text (next_fields told_view) text ≡ false
      adds_none e = next_is ∙ e

      module _ (fit : (eqb (length text) (length room) && list_all is_lower_digit text) ≡ true)
        where
          pub fit_long : length text ≡ length room
          fit_long =
              eqb-true (length text) (length room)
              (and_parts (eqb (length text) (length room)) (list_all is_lower_digit text) fit).0

          pub adds_kept : IsTelling shape pairs (set texts count text) (count + 1) capacity
          adds_kept = kept_more text more (fit_long ∙ ap (λ (r : List ℕ). length r) room_is)

          pub adds_one : AddsState text told_view (record told_view {
            states = states_read shape pairs (take (count + 1) (set texts count text));
          }) true
          adds_one = (
            next_is ∙ fit,
            ap
                (λ (states : List State). let t : Telling = record told_view
                { states = states } in
                t)
                (told_more text more (fit_long ∙ ap (λ (r : List ℕ). length r) room_is)),
          )

    -- the same of what stands there
    module _ (text room : List ℕ) (more : count < length pairs)
        (at : room ≡ get_or texts count room) (old : Telling) (is : told_view ≡ old) where
      pub adds_none_at : (eqb (length text) (length room) && list_all is_lower_digit text) ≡ false
          → is_state_text (next_fields old) text ≡ false
      adds_none_at e =
          subst (λ (o : Telling). is_state_text (next_fields o) text ≡ false) is
          (adds_none text room more at e)

      -- what was not put changes nothing
      pub same_texts : (put : List ℕ) → put ≡ room → set texts count put ≡ texts
      same_texts put same =
          ap (λ (t : List ℕ). set texts count t) (same ∙ at) ∙ set-get_or texts count room

      module _ (fit : (eqb (length text) (length room) && list_all is_lower_digit text) ≡ true)
        where
          pub adds_kept_at : (put : List ℕ) → put ≡ text
              → IsTelling shape pairs (set texts count put) (count + 1) capacity
          adds_kept_at put same =
              subst (λ (t : List ℕ). IsTelling shape pairs (set texts count t) (count + 1) capacity)
              (sym same) (adds_kept text room more at fit)

          abbrev view_of : List ℕ → (room : ℕ) → Telling
          view_of put room = record {
            pairs = pairs;
            shape = shape;
            states = states_read shape pairs (take (count + 1) (set texts count put));
            room = room;
          }

          abbrev pub one_view : List ℕ → Telling
          one_view put = view_of put (length (set texts count put))

          pub adds_one_at : (put : List ℕ) → put ≡ text → AddsState text old (one_view put) true
          adds_one_at put same =
              subst (λ (o : Telling). AddsState text o (one_view put) true) is
              (subst (λ (n : ℕ). AddsState text told_view (view_of put n) true)
              (sym (length-set texts count put))
              (subst (λ (t : List ℕ). AddsState text told_view (view_of t (length texts)) true)
              (sym same) (adds_one text room more at fit)))
